-- The hunks of a diff, and their text (unified diff, as GNU diff writes it).
use Rattle.std.specs.Prelude.{◌≡◌, ℕ, suc, ◌-◌, ◌==◌, List, [], ◌∷◌, ◌++◌, Bool, length, map, codes, if◌then◌else◌, slice_index, slice_range}
use Rattle.std.specs.List.{flat_map}
use Rattle.std.specs.Fmt.{decimal}
use Rattle.source_diff.specs.declared.hunks.Mark.{Mark}
use Rattle.source_diff.specs.declared.hunks.Mark.TheVariants.{Kept, Removed, Added}
use Rattle.source_diff.specs.declared.runs.Run.{Run}
use Rattle.source_diff.specs.Pairs.{Line, Pair, is_changed, pairs_of, text_lines}
use Rattle.source_diff.specs.Runs.{is_shown, AreRuns}

-- a line of a hunk, with the texts that have it
pub record HunkLine : Type 0 where
  pub mark : Mark
  pub line : Line

-- a hunk: the number of its first line, from 1, and its lines
pub record Hunk : Type 0 where
  pub start : ℕ
  pub lines : List HunkLine

-- a line with its mark; no line has none
abbrev pub line_as : Mark → Line → List HunkLine
line_as mark [] = []
line_as mark (b ∷ bs) = record { mark = mark; line = b ∷ bs } ∷ []

-- the lines of the new text of some pairs
abbrev pub added : List Pair → List HunkLine
added pairs = flat_map (λ p. line_as Added p.new) pairs

-- The lines of a hunk. In a run of changed lines those of the old text precede those of the new.
abbrev pub marked : List HunkLine → List Pair → List HunkLine
marked waiting [] = waiting
marked waiting (p ∷ ps) =
    if is_changed p then line_as Removed p.old ++ marked (waiting ++ line_as Added p.new) ps
    else waiting ++ (line_as Kept p.old ++ marked [] ps)

-- the hunk of a run
abbrev pub hunk_of : List Pair → Run → Hunk
hunk_of pairs run = record { start = suc run.from; lines = marked [] (slice_range pairs run.from run.to) }

-- the lines of a hunk that the old text has, and those that the new one has
abbrev pub in_old : Mark → Line → List Line
in_old Kept x = x ∷ []
in_old Removed x = x ∷ []
in_old Added x = []

abbrev pub in_new : Mark → Line → List Line
in_new Kept x = x ∷ []
in_new Removed x = []
in_new Added x = x ∷ []

abbrev pub old_lines : List HunkLine → List Line
old_lines lines = flat_map (λ x. in_old x.mark x.line) lines

abbrev pub new_lines : List HunkLine → List Line
new_lines lines = flat_map (λ x. in_new x.mark x.line) lines

-- ---- the text

-- the byte before a line
abbrev pub mark_byte : Mark → ℕ
mark_byte Kept = 32
mark_byte Removed = 45
mark_byte Added = 43

-- the last byte is LF
abbrev pub ends_with_feed : List ℕ → Bool
ends_with_feed x = slice_index x (length x - 1) == 10

-- a line; what says that it has no LF follows it
abbrev pub ended_line : Line → List ℕ
ended_line x = if ends_with_feed x then x else x ++ codes "\n\\ No newline at end of file\n"

abbrev pub lines_text : List HunkLine → List ℕ
lines_text lines = flat_map (λ x. mark_byte x.mark ∷ ended_line x.line) lines

-- the number of the first of so many lines; of none, that of the line before
abbrev pub first_number : ℕ → ℕ → ℕ
first_number start len = if len == 0 then start - 1 else start

abbrev pub span_text : ℕ → ℕ → List ℕ
span_text start len = decimal (first_number start len) ++ (codes "," ++ decimal len)

-- the line before the lines of a hunk
abbrev pub head_text : ℕ → ℕ → ℕ → List ℕ
head_text start old_len new_len = codes "@@ -" ++ (span_text start old_len ++ (codes " +" ++ (span_text start new_len ++ codes " @@\n")))

abbrev pub hunk_text : Hunk → List ℕ
hunk_text hunk = head_text hunk.start (length (old_lines hunk.lines)) (length (new_lines hunk.lines)) ++ lines_text hunk.lines

-- the two lines that name the file
abbrev pub diff_names : List ℕ → List ℕ
diff_names name = codes "--- a/" ++ (name ++ (codes "\n+++ b/" ++ (name ++ codes "\n")))

abbrev pub diff_text : List ℕ → List Hunk → List ℕ
diff_text name hunks = diff_names name ++ flat_map hunk_text hunks

-- the hunks of two texts: one for each run of lines that are shown
abbrev pub AreHunks : List Pair → List Hunk → Type 0
AreHunks pairs hunks = (runs : List Run) × AreRuns (is_shown pairs) (length pairs) 0 runs × (hunks ≡ map (hunk_of pairs) runs)

-- the text is the diff of two texts under a name
abbrev pub IsDiff : List ℕ → List ℕ → List ℕ → List ℕ → Type 0
IsDiff name old new text =
    (hunks : List Hunk) × AreHunks (pairs_of (text_lines old) (text_lines new)) hunks × (text ≡ diff_text name hunks)
