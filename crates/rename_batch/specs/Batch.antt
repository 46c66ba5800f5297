-- Batch: renamings one after the other, all or none (own).
use Rattle.std.specs.Prelude.{◌≡◌, ◌≢◌, ◌⊎◌, ℕ, suc, ◌+◌, List, [], ◌∷◌, map, reverse, Result, Ok, Err, if◌then◌else◌}
use Rattle.std.specs.Str.{bytes_eq}
use Rattle.rotor_base.specs.declared.refusal.Refusal.{Refusal}
use Rattle.rotor_base.specs.declared.refusal.Refusal.TheVariants as refusal
use Rattle.rotor_base.specs.declared.report.Renamed.{Renamed}
use Rattle.rotor_base.specs.declared.source.SourceFile.{SourceFile}
use Rattle.rotor_base.specs.declared.target.Target.TheVariants as target
use Rattle.rotor_base.specs.Files.{FileSet}
use Rattle.report.specs.Pieces.{Word, file_of}
use Rattle.rename_files.specs.Answer.{Renames}
use Rattle.rename_batch.specs.declared.error.BatchError.{BatchError}
use Rattle.rename_batch.specs.declared.error.BatchError.TheVariants.{At, Memory}
use Rattle.rename_batch.specs.declared.step.Step.{Step}
use Rattle.rename_batch.specs.declared.step.Change.{Change}
use Rattle.rename_batch.specs.declared.step.Undo.{Undo}
use Rattle.rename_batch.specs.declared.step.Batched.{Batched}

-- the answer to a step on files
unfoldable pub Answers : FileSet → Step → Result Renamed Refusal → Type 0
Answers files step answer = Renames files step.target step.name answer

-- what an accepted renaming has done
abbrev pub change_of : Renamed → Change
change_of done = record { old = done.old; new = done.new; at = done.undo_at }

-- each step is accepted on the files that the step before it left: the last files, and what each step has done
abbrev pub Runs : FileSet → List Step → FileSet → List Change → Type 0
Runs files [] last [] = last ≡ files
Runs files (step ∷ steps) last (change ∷ changes) =
    (done : Renamed) × Answers files step (Ok done) × (change ≡ change_of done) × Runs done.files steps last changes
Runs files [] last (change ∷ changes) = ⊥
Runs files (step ∷ steps) last [] = ⊥

-- the step of this number, counted from 1, is the first that is refused
abbrev pub Stops : FileSet → List Step → ℕ → Refusal → Type 0
Stops files [] number why = ⊥
Stops files (step ∷ steps) number why =
    ((number ≡ 1) × Answers files step (Err why))
    ⊎ ((done : Renamed) × (rest : ℕ) × Answers files step (Ok done) × (number ≡ suc rest) × Stops done.files steps rest why)

-- the numbers, from one on, of the sources whose bytes differ
abbrev pub changed_from : ℕ → List SourceFile → List SourceFile → List ℕ
changed_from at (old ∷ olds) (new ∷ news) =
    if bytes_eq old.bytes new.bytes then changed_from (at + 1) olds news else at ∷ changed_from (at + 1) olds news
changed_from at _ _ = []

-- the step back from a change
abbrev pub undo_of : Change → Undo
undo_of change = record { at = change.at; old = change.old }

-- the steps back from all changes, the last change first
abbrev pub undos_of : List Change → List Undo
undos_of changes = reverse (map undo_of changes)

-- an accepted batch: its run, the sources that differ from the first ones, and the steps back
pub record IsBatched (files : FileSet) (steps : List Step) (batched : Batched) : Type 0 where
  pub run : Runs files steps batched.files batched.done
  pub changed : batched.changed ≡ changed_from 0 files.entries batched.files.entries
  pub undo : batched.undo ≡ undos_of batched.done

-- Batch: what is done, or the first step that is refused
abbrev pub Batches : FileSet → List Step → Result Batched BatchError → Type 0
Batches files steps (Ok batched) = IsBatched files steps batched
Batches files steps (Err (At number why)) = Stops files steps number why
Batches files steps (Err Memory) = ⊥

-- an error is this condition, or want of memory
abbrev pub IsFailedFor : (BatchError → Type 0) → BatchError → Type 0
IsFailedFor condition error = condition error ⊎ (error ≡ Memory)

-- the refusal of a step is not want of memory
abbrev pub NamesRefusal : BatchError → Type 0
NamesRefusal (At number why) = why ≢ refusal.Memory
NamesRefusal Memory = Unit {0}

-- the renaming of a step back: the token at its place to the old name
abbrev pub undo_step : List Word → Undo → Step
undo_step names undo = record { target = target.At (file_of names undo.at.file) undo.at.token; name = undo.old }

abbrev pub undo_steps : List Word → List Undo → List Step
undo_steps names undos = map (undo_step names) undos

-- the step of this number is refused in these files
abbrev pub IsRefusedStep : FileSet → Step → ℕ → BatchError → Type 0
IsRefusedStep files step number (At k why) = (k ≡ number) × Answers files step (Err why)
IsRefusedStep files step number Memory = ⊥

-- the error of a step that has this refusal: the refusal with the step's number, or want of memory
abbrev pub IsErrorOf : ℕ → Refusal → BatchError → Type 0
IsErrorOf number why error =
    ((error ≡ At number why) × (why ≢ refusal.Memory)) ⊎ ((error ≡ Memory) × (why ≡ refusal.Memory))
