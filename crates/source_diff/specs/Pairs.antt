-- The lines of two texts, paired by their numbers (own).
use Rattle.std.specs.Prelude.{ℕ, List, [], ◌∷◌, ◌==◌, Bool, not, bytes_eq, if◌then◌else◌}
use Rattle.std.specs.List.{onto_first}
use Rattle.source_diff.specs.declared.pairs.LinePair.{LinePair}

abbrev pub Line : Type 0
Line = List ℕ

-- the lines of a text, each with the LF that ends it; the last may lack it
abbrev pub text_lines : List ℕ → List Line
text_lines [] = []
text_lines (b ∷ bs) = if b == 10 then (b ∷ []) ∷ text_lines bs else onto_first b (text_lines bs)

-- a line of the old text, and the line of its number of the new text; it is empty if there is none
pub record Pair : Type 0 where
  pub old : Line
  pub new : Line

abbrev pub view_pair : LinePair → Pair
view_pair p = record { old = p.old.now; new = p.new.now }

-- the lines of two texts, paired by their numbers
abbrev pub pairs_of : List Line → List Line → List Pair
pairs_of [] [] = []
pairs_of [] (y ∷ ys) = record { old = []; new = y } ∷ pairs_of [] ys
pairs_of (x ∷ xs) [] = record { old = x; new = [] } ∷ pairs_of xs []
pairs_of (x ∷ xs) (y ∷ ys) = record { old = x; new = y } ∷ pairs_of xs ys

-- the two lines differ
abbrev pub is_changed : Pair → Bool
is_changed p = not (bytes_eq p.old p.new)
