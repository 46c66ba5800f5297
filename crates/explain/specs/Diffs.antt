-- The diffs of changed sources (own).
use Rattle.std.specs.Prelude.{◌≡◌, ℕ, List, [], ◌∷◌, ◌++◌, Option, Some, None, slice_get}
use Rattle.rotor_base.specs.declared.source.SourceFile.{SourceFile}
use Rattle.source_diff.specs.Hunks.{IsDiff}

-- the text is the diff of two versions of a source; if one is missing, there is none
abbrev pub IsDiffAt : Option SourceFile → Option SourceFile → List ℕ → Type 0
IsDiffAt (Some old) (Some new) text = IsDiff old.name old.bytes new.bytes text
IsDiffAt (Some old) None text = text ≡ []
IsDiffAt None new text = text ≡ []

-- the text is the diffs of the sources of these numbers, one behind the other
pub data AreDiffs (old new : List SourceFile) : List ℕ → List ℕ → Type 0 where
  none : AreDiffs old new [] []
  one_more : {numbers text : List ℕ} (number : ℕ) (piece : List ℕ) → AreDiffs old new numbers text
      → IsDiffAt (slice_get old number) (slice_get new number) piece → AreDiffs old new (numbers ++ number ∷ []) (text ++ piece)
