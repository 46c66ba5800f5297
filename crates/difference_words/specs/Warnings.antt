-- The warnings of a folder (own).
use Rattle.std.specs.Prelude.{◌≡◌, ℕ, ◌==◌, List, [], ◌∷◌, codes, cond, length, map}
use Rattle.rotor_base.specs.Files.{FileSet}
use Rattle.report.specs.Pieces.{Word, join}
use Rattle.messages.specs.Words.{counted}
use Rattle.messages.specs.declared.parts.Message.{Message}
use Rattle.reading_differences.specs.Differences.{AreDifferences}
use Rattle.reading_differences.specs.declared.difference.Difference.{Difference}
use Rattle.refusal_words.specs.Cut.{AreCuts, Cut}
use Rattle.difference_words.specs.Warning.{warning_of}

-- the warnings of places of a folder
pub data AreWarningsOf (files : FileSet) : List Difference → List Message → Type 0 where
  none : AreWarningsOf files [] []
  some : (list : List Difference) (cuts : List Cut) → AreCuts files.entries cuts → AreWarningsOf files list (map (warning_of cuts) list)

-- of all places at which OCaml may read the folder otherwise
pub record AreWarnings (files : FileSet) (messages : List Message) : Type 0 where
  pub list : List Difference
  pub differences : AreDifferences files list
  pub said : AreWarningsOf files list messages

-- `it`, or `them`
abbrev pub named : ℕ → Word
named count = cond (count == 1) (codes "it") (codes "them")

-- how many there are, in one line; of none, nothing
abbrev pub count_line : ℕ → Word
count_line count =
    cond (count == 0) []
    (join (codes "warning: in " ∷ counted count (codes "place") ∷ codes " OCaml may read this folder otherwise; `rotor-explain check` names "
    ∷ named count ∷ codes "\n" ∷ []))

-- the line of a folder
pub record CountsWarnings (files : FileSet) (line : Word) : Type 0 where
  pub list : List Difference
  pub differences : AreDifferences files list
  pub said : line ≡ count_line (length list)
