-- The lines that a diff shows, as runs (unified diff, as GNU diff writes it). Lines count from 0.
use Rattle.std.specs.Prelude.{◌≡◌, ◌⊎◌, ℕ, ◌+◌, ◌-◌, ◌<◌, ◌≤◌, List, [], ◌∷◌, Bool, true, false, slice_range}
use Rattle.std.specs.List.{list_any}
use Rattle.source_diff.specs.declared.runs.Run.{Run}
use Rattle.source_diff.specs.Pairs.{Pair, is_changed}

-- the line, one of the three before it or one of the three behind it changed
abbrev pub is_shown : List Pair → ℕ → Bool
is_shown pairs line = list_any is_changed (slice_range pairs (line - 3) (line + 4))

-- no line is shown from this one on, of so many lines
abbrev pub NoneFrom : (ℕ → Bool) → ℕ → ℕ → Type 0
NoneFrom shown len at = (line : ℕ) → at ≤ line → line < len → shown line ≡ false

-- the run begins at the first line from `at` on that is shown, and ends at the first behind it that is not, or at the
-- end of all lines
pub record IsNextRun (shown : ℕ → Bool) (len at : ℕ) (run : Run) : Type 0 where
  pub begins : at ≤ run.from
  pub some : run.from < run.to
  pub within : run.to ≤ len
  pub before : (line : ℕ) → at ≤ line → line < run.from → shown line ≡ false
  pub shows : (line : ℕ) → run.from ≤ line → line < run.to → shown line ≡ true
  pub ends : (run.to ≡ len) ⊎ (shown run.to ≡ false)

-- the runs of the lines that are shown, from a line on
abbrev pub AreRuns : (ℕ → Bool) → ℕ → ℕ → List Run → Type 0
AreRuns shown len at [] = NoneFrom shown len at
AreRuns shown len at (run ∷ runs) = IsNextRun shown len at run × AreRuns shown len run.to runs
