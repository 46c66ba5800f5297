-- What is said of a step that is refused.
use Rattle.std.proofs.Common.{◌≡◌, ℕ, ◌-◌, ◌<◌, ◌≤◌, List, [], ◌∷◌, Option, Some, None, Result, Ok, Err, IfOk, length, take, slice_get, map}
use Rattle.std.proofs.Common.{false, inl, inr, subst, arith, ◌⊎◌}
use Rattle.rotor_base.specs.Files.{FileSet}
use Rattle.rotor_base.specs.declared.refusal.Refusal.{Refusal}
use Rattle.rotor_base.specs.declared.source.SourceFile.{SourceFile}
use Rattle.rename_batch.specs.declared.error.BatchError.{BatchError}
use Rattle.rename_batch.specs.declared.error.BatchError.TheVariants.{At, Memory as NoMemory}
use Rattle.rename_batch.specs.declared.step.Batched.{Batched}
use Rattle.rename_batch.specs.declared.step.Step.{Step}
use Rattle.rename_batch.specs.Batch.{Batches, IsFailedFor, Stops}
use Rattle.messages.specs.declared.parts.Message.{Message}
use Rattle.refusal_words.specs.Cut.{AreCuts, view_cut}
use Rattle.refusal_words.specs.declared.cut.CutSource.{CutSource}
use Rattle.refusal_places.specs.Placed.{SaysPlaced}
use Rattle.refusal_words.specs.Refused.{in_step}
use Rattle.explain.specs.declared.ending.Ending.TheVariants.{Project}
use Rattle.explain.specs.Says.{SaysRename}
use Rattle.explain.specs.Explanation.{explanation_of_message}
use Rattle.explain.specs.declared.explanation.Explanation.{Explanation}
use Rattle.explain_batch.specs.Steps.{IsStopped, SaysDone, SaysStep, SaysStepAfter, SaysSteps, batched, in_steps, stopped}

-- the number of a step that is refused is that of a step
pub within : (files : FileSet) (steps : List Step) (number : ℕ) (why : Refusal) → Stops files steps number why
    → (0 < number) × (number ≤ length steps)
within files [] number why h = absurd h
within files (step ∷ steps) number why (inl h) = (omega (arith, h.0), omega (arith, h.0))
within files (step ∷ steps) number why (inr h) =
    let more = within h.0.files steps h.1 why h.4 in
    (omega (arith, h.3), omega (arith, h.3, more.1))

pub said_done : {E : Type 0} (files : FileSet) (steps : List Step) (done : Batched) (result : Result Explanation E) → Batches files steps (Ok done)
    → IfOk result (SaysDone files steps done) → IfOk result (SaysSteps files steps)
said_done files steps done (Err m) b h = tt
said_done files steps done (Ok explanation) b h = batched done b h

pub said_stop : {E : Type 0} (files : FileSet) (steps : List Step) (number : ℕ) (why : Refusal) (result : Result Explanation E)
    → IfOk result (IsStopped files steps number why) → IfOk result (SaysSteps files steps)
said_stop files steps number why (Err m) h = tt
said_stop files steps number why (Ok explanation) h = stopped number why h

pub stops_at : (files : FileSet) (steps : List Step) (number : ℕ) (why : Refusal) (error : BatchError) → error ≡ At number why
    → IsFailedFor (λ e. Batches files steps (Err e)) error → Batches files steps (Err (At number why))
stops_at files steps number why error e h = by (subst (IsFailedFor (λ f. Batches files steps (Err f))) e h) where
  by : Batches files steps (Err (At number why)) ⊎ (At number why ≡ NoMemory) → Batches files steps (Err (At number why))
  by (inl b) = b
  by (inr m) = cc

pub said_stopped : {E : Type 0} (files : FileSet) (steps : List Step) (number front : ℕ) (why : Refusal) (before : Batched) (step : Step)
    (result : Result Explanation E) → front ≡ number - 1 → Batches files steps (Err (At number why)) → Batches files (take front steps) (Ok before)
    → slice_get steps front ≡ Some step → IfOk result (SaysStepAfter before.files step number why)
    → IfOk result (IsStopped files steps number why)
said_stopped files steps number front why before step (Err m) e stops done here says = tt
said_stopped files steps number front why before step (Ok explanation) e stops done here says =
    record {
      before = before;
      step = step;
      stops = stops;
      done = subst (λ (n : ℕ). Batches files (take n steps) (Ok before)) e done;
      here = subst (λ (n : ℕ). slice_get steps n ≡ Some step) e here;
      says = says;
    }

-- what is said of a renaming is said of its step, if no message of a project is
pub said_renaming : {E : Type 0} (files : FileSet) (step : Step) (number : ℕ) (why : Refusal) (sources : List SourceFile)
    (cuts these : List CutSource) (found : Option Message) (name : List ℕ) (said : Explanation) (result : Result Explanation E)
    → sources ≡ files.entries
    → AreCuts sources (map view_cut cuts) → these ≡ cuts → SaysPlaced (map view_cut these) why found → found ≡ None → name ≡ step.name
    → SaysRename files step.target name false said → IfOk result (λ explanation. explanation ≡ in_steps number said)
    → IfOk result (SaysStepAfter files step number why)
said_renaming files step number why sources cuts these found name said (Err m) is cut same placed none e says h = tt
said_renaming files step number why sources cuts these found name said (Ok explanation) is cut same placed none e says h =
    let no_message : SaysPlaced (map view_cut cuts) why None
    = subst (λ (m : Option Message). SaysPlaced (map view_cut cuts) why m) none
    (subst (λ (l : List CutSource). SaysPlaced (map view_cut l) why found) same placed) in
    let renamed : SaysStep None files step number explanation
    = (said, subst (λ (n : List ℕ). SaysRename files step.target n false said) e says, h) in (
      map view_cut cuts,
      None,
      subst (λ (l : List SourceFile). AreCuts l (map view_cut cuts)) is cut,
      no_message,
      renamed,
    )

-- a message of a project is said of its step
pub said_unread : {E : Type 0} (files : FileSet) (step : Step) (number : ℕ) (why : Refusal) (sources : List SourceFile)
    (cuts these : List CutSource) (found : Option Message) (message : Message) (result : Result Explanation E) → sources ≡ files.entries
    → AreCuts sources (map view_cut cuts) → these ≡ cuts → SaysPlaced (map view_cut these) why found → found ≡ Some message
    → IfOk result (λ explanation. explanation ≡ explanation_of_message Project (Some (in_step number message)))
    → IfOk result (SaysStepAfter files step number why)
said_unread files step number why sources cuts these found message (Err m) is cut same placed some h = tt
said_unread files step number why sources cuts these found message (Ok explanation) is cut same placed some h = (
  map view_cut cuts,
  Some message,
  subst (λ (l : List SourceFile). AreCuts l (map view_cut cuts)) is cut,
  subst (λ (m : Option Message). SaysPlaced (map view_cut cuts) why m) some
      (subst (λ (l : List CutSource). SaysPlaced (map view_cut l) why found) same placed),
  h,
)
