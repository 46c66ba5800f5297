-- The text of a report: its lines, each ended by LF (own).
use Rattle.std.specs.Prelude.{ℕ, List, [], ◌∷◌, ◌++◌, Option, flat_map}
use Rattle.rotor_base.specs.declared.report.Outcome.{Outcome}
use Rattle.report.specs.declared.notice.Notice.{Notice}
use Rattle.report.specs.Pieces.{Word}
use Rattle.report.specs.Lines.{lines_of, notice_lines}

-- a line with its end
abbrev pub ended : Word → Word
ended line = line ++ 10 ∷ []

abbrev pub text_of : List Word → Outcome → List ℕ
text_of names outcome = flat_map ended (lines_of names outcome)

-- the text of a refusal
abbrev pub notice_text : Option Notice → List ℕ
notice_text notice = flat_map ended (notice_lines notice)
