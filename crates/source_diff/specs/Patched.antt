-- What hunks make of a text (own).
use Rattle.std.specs.Prelude.{◌≡◌, ℕ, ◌+◌, List, [], ◌∷◌, ◌++◌, length}
use Rattle.source_diff.specs.Pairs.{Line}
use Rattle.source_diff.specs.Hunks.{Hunk, old_lines, new_lines}

-- The hunks apply to lines, of which the first has the number `at`, and make others. Before a hunk, the lines stay. At
-- its number the lines are its old ones, and its new ones take their place.
pub data Patched : ℕ → List Hunk → List Line → List Line → Type 0 where
  kept : {at : ℕ} (lines : List Line) → Patched at [] lines lines
  hunk : {at : ℕ} {hunks : List Hunk} {rest made : List Line} (front : List Line) (one : Hunk) → one.start ≡ at + length front
      → Patched (one.start + length (old_lines one.lines)) hunks rest made
      → Patched at (one ∷ hunks) (front ++ (old_lines one.lines ++ rest)) (front ++ (new_lines one.lines ++ made))
