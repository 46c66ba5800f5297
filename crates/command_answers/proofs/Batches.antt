-- A batch has an answer.
use Rattle.std.proofs.Common.{◌⊎◌, inl, inr, ℕ, suc, List, [], ◌∷◌, Result, Ok, Err, refl}
use Rattle.rotor_base.specs.declared.refusal.Refusal.{Refusal}
use Rattle.rotor_base.specs.declared.report.Renamed.{Renamed}
use Rattle.rotor_base.specs.Files.{FileSet}
use Rattle.answer_laws.proofs.Answered.{renamings_are_answered}
use Rattle.rename_batch.specs.declared.error.BatchError.{BatchError}
use Rattle.rename_batch.specs.declared.error.BatchError.TheVariants.{At}
use Rattle.rename_batch.specs.declared.step.Batched.{Batched}
use Rattle.rename_batch.specs.declared.step.Change.{Change}
use Rattle.rename_batch.specs.declared.step.Step.{Step}
use Rattle.rename_batch.specs.Batch.{Answers, Batches, Runs, Stops, change_of, changed_from, undos_of}
use Rattle.command_answers.specs.Laws.{BatchesAreAnswered}

step_answered : (files : FileSet) (step : Step) → (answer : Result Renamed Refusal) × Answers files step answer
unfolding Answers
step_answered files step = renamings_are_answered files step.target step.name

-- all steps are accepted, or there is a first one that is refused
abbrev IsRun : FileSet → List Step → Type 0
IsRun files steps = ((last : FileSet) × (changes : List Change) × Runs files steps last changes)
    ⊎ ((number : ℕ) × (why : Refusal) × Stops files steps number why)

runs : (files : FileSet) (steps : List Step) → IsRun files steps
runs files [] = inl (files, [], refl)
runs files (step ∷ steps) = by (step_answered files step) (λ next. runs next steps) where
  behind : (done : Renamed) → Answers files step (Ok done) → IsRun done.files steps → IsRun files (step ∷ steps)
  behind done h (inl run) = inl (run.0, change_of done ∷ run.1, (done, h, refl, run.2))
  behind done h (inr stop) = inr (suc stop.0, stop.1, inr (done, stop.0, h, refl, stop.2))

  by : (answer : Result Renamed Refusal) × Answers files step answer → ((next : FileSet) → IsRun next steps) → IsRun files (step ∷ steps)
  by (Ok done, h) rest = behind done h (rest done.files)
  by (Err why, h) rest = inr (1, why, inl (refl, h))

pub batches_are_answered : BatchesAreAnswered
batches_are_answered files steps = by (runs files steps) where
  by : IsRun files steps → (answer : Result Batched BatchError) × Batches files steps answer
  by (inr stop) = (Err (At stop.0 stop.1), stop.2)
  by (inl run) =
      let batched : Batched = record {
        files = run.0;
        changed = changed_from 0 files.entries run.0.entries;
        done = run.1;
        undo = undos_of run.1;
      } in (Ok batched, record { run = run.2; changed = refl; undo = refl })
