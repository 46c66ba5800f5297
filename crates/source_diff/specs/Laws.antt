-- The laws of diffs (own).
use Rattle.std.specs.Prelude.{◌≡◌, ℕ, List}
use Rattle.std.specs.List.{concat}
use Rattle.source_diff.specs.Pairs.{text_lines, pairs_of}
use Rattle.source_diff.specs.Hunks.{Hunk, AreHunks, IsDiff}
use Rattle.source_diff.specs.Patched.{Patched}

-- the hunks of two texts make the lines of the new one of those of the old one, and these lines are that text
abbrev pub GivesTheNewText : Type 0
GivesTheNewText =
    (old new : List ℕ) (hunks : List Hunk) → AreHunks (pairs_of (text_lines old) (text_lines new)) hunks
    → Patched 1 hunks (text_lines old) (text_lines new) × (concat (text_lines new) ≡ new)

-- two texts have one diff
abbrev pub IsTheOnlyDiff : Type 0
IsTheOnlyDiff = (name old new one other : List ℕ) → IsDiff name old new one → IsDiff name old new other → one ≡ other
