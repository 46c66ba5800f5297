-- What is said of the steps of a batch (own).
use Rattle.std.specs.Prelude.{◌≡◌, ℕ, ◌-◌, List, [], ◌∷◌, ◌++◌, Option, Some, None, Ok, Err, false, codes, length, map, slice_get, take}
use Rattle.rotor_base.specs.Files.{FileSet}
use Rattle.rotor_base.specs.declared.refusal.Refusal.{Refusal}
use Rattle.report.specs.Pieces.{Word, join}
use Rattle.rename_batch.specs.declared.error.BatchError.TheVariants.{At}
use Rattle.rename_batch.specs.declared.step.Batched.{Batched}
use Rattle.rename_batch.specs.declared.step.Step.{Step}
use Rattle.rename_batch.specs.Batch.{Batches}
use Rattle.messages.specs.Words.{counted}
use Rattle.messages.specs.declared.parts.Message.{Message}
use Rattle.refusal_words.specs.Cut.{AreCuts, Cut}
use Rattle.refusal_places.specs.Placed.{SaysPlaced}
use Rattle.refusal_words.specs.Refused.{in_step}
use Rattle.explain.specs.declared.ending.Ending.TheVariants.{Done, Project}
use Rattle.explain.specs.declared.explanation.Explanation.{Explanation}
use Rattle.explain.specs.Diffs.{AreDiffs}
use Rattle.explain.specs.Says.{SaysRename}
use Rattle.explain.specs.Explanation.{explanation_of_message, explanation_of_text}

-- how many steps a batch has, and how many sources it would change
abbrev pub done_line : List Step → Batched → Word
done_line steps done = join (counted (length steps) (codes "step") ∷ codes ", " ∷ counted (length done.changed) (codes "file") ∷ codes "\n" ∷ [])

-- a batch that would be done: its line, and the diffs of the changed sources
pub record SaysDone (files : FileSet) (steps : List Step) (done : Batched) (explanation : Explanation) : Type 0 where
  pub diffs : List ℕ
  pub are_diffs : AreDiffs files.entries done.files.entries done.changed diffs
  pub says : explanation ≡ explanation_of_text Done (done_line steps done ++ diffs)

-- what is said of a renaming, as that of a step
abbrev pub in_steps : ℕ → Explanation → Explanation
in_steps number said = record { ending = said.ending; messages = map (in_step number) said.messages; text = []; places = [] }

-- What is said of a step that is refused over these files: the refusal of the project, if it is one; else what is said of
-- the renaming that the step requests.
abbrev pub SaysStep : Option Message → FileSet → Step → ℕ → Explanation → Type 0
SaysStep (Some message) files step number explanation = explanation ≡ explanation_of_message Project (Some (in_step number message))
SaysStep None files step number explanation = (said : Explanation) × SaysRename files step.target step.name false said
    × (explanation ≡ in_steps number said)

-- the same by the message of the refusal over the lexemes of the files
abbrev pub SaysStepAfter : FileSet → Step → ℕ → Refusal → Explanation → Type 0
SaysStepAfter files step number why explanation =
    (cuts : List Cut) × (message : Option Message) × AreCuts files.entries cuts × SaysPlaced cuts why message
    × SaysStep message files step number explanation

-- a batch whose step of this number, from 1, is the first that is refused, over the files that the steps before it leave
pub record IsStopped (files : FileSet) (steps : List Step) (number : ℕ) (why : Refusal) (explanation : Explanation) : Type 0 where
  pub before : Batched
  pub step : Step
  pub stops : Batches files steps (Err (At number why))
  pub done : Batches files (take (number - 1) steps) (Ok before)
  pub here : slice_get steps (number - 1) ≡ Some step
  pub says : SaysStepAfter before.files step number why explanation

-- what is said of a batch of these steps
pub data SaysSteps (files : FileSet) (steps : List Step) (explanation : Explanation) : Type 0 where
  stopped : (number : ℕ) (why : Refusal) → IsStopped files steps number why explanation → SaysSteps files steps explanation
  batched : (done : Batched) → Batches files steps (Ok done) → SaysDone files steps done explanation → SaysSteps files steps explanation
