-- What is said of batches as a whole (own).
use Rattle.std.specs.Prelude.{◌≡◌, ◌≢◌, ◌⊎◌, ◌<◌, ℕ, List, [], None, All, Contains, Result, Ok, length, slice_get}
use Rattle.std.specs.List.Sorted.{IsStrictlySortedBy}
use Rattle.std.specs.Ordering.{nat_cmp}
use Rattle.rotor_base.specs.Files.{FileSet, IsProject, load_refusal, names_of}
use Rattle.rotor_base.specs.Lines.{feed_lines}
use Rattle.rename_laws.specs.Laws.{KeepsRuns}
use Rattle.rename_batch.specs.declared.error.BatchError.{BatchError}
use Rattle.rename_batch.specs.declared.step.Step.{Step}
use Rattle.rename_batch.specs.declared.step.Batched.{Batched}
use Rattle.rename_batch.specs.Batch.{Batches, undo_steps}
use Rattle.rename_batch.specs.Reading.{AreSteps, IsBatch, IsBadLine}
use Rattle.rename_batch.specs.Text.{undo_text}

-- Law: lines are a batch of one list of steps at most
abbrev pub OneBatch : Type 0
OneBatch = (lines : List (List ℕ)) (one other : List Step) → IsBatch lines one → IsBatch lines other → one ≡ other

-- Law: they have one bad line at most
abbrev pub OneBadLine : Type 0
OneBadLine = (lines : List (List ℕ)) (one other : ℕ) → IsBadLine lines one → IsBadLine lines other → one ≡ other

-- Law: they are not both
abbrev pub BatchOrBadLine : Type 0
BatchOrBadLine = (lines : List (List ℕ)) (steps : List Step) (number : ℕ) → IsBatch lines steps → IsBadLine lines number → ⊥

-- Law: files and steps have at most one result
abbrev pub BatchesAreOne : Type 0
BatchesAreOne = (files : FileSet) (steps : List Step) (a b : Result Batched BatchError) → Batches files steps a → Batches files steps b → a ≡ b

-- the new sources have the old names, the manifest is the same, they are taken as a project's files, the numbers of the
-- sources that changed rise, each numbers a source, and each source that differs is among them
pub record IsRewritten (files : FileSet) (done : Batched) : Type 0 where
  pub names : names_of done.files.entries ≡ names_of files.entries
  pub manifest : done.files.manifest ≡ files.manifest
  pub taken : load_refusal done.files.entries done.files.manifest ≡ None
  pub ordered : IsStrictlySortedBy nat_cmp done.changed
  pub known : All (λ n. n < length done.files.entries) done.changed
  pub covers : (k : ℕ) → (slice_get files.entries k ≡ slice_get done.files.entries k) ⊎ Contains done.changed k

-- Law: a batch that is accepted rewrites sources, and nothing else
abbrev pub BatchesRewrite : Type 0
BatchesRewrite = (files : FileSet) (steps : List Step) (done : Batched) → IsProject files → Batches files steps (Ok done) → IsRewritten files done

-- Law: a batch that is accepted is undone: the batch of the new files and the steps back is accepted, and gives the old
-- files
abbrev pub BatchesAreUndone : Type 0
BatchesAreUndone =
    (files : FileSet) (steps : List Step) (done : Batched) → IsProject files → Batches files steps (Ok done)
    → (back : Batched) × Batches done.files (undo_steps (names_of done.files.entries) done.undo) (Ok back) × (back.files ≡ files)

-- Law: what the report of a batch that is accepted prints behind `undo ` are lines that request the steps back; and if
-- lines are a batch of the steps, these lines are a batch of the steps back
abbrev pub UndosAreRead : Type 0
UndosAreRead =
    (files : FileSet) (steps : List Step) (done : Batched) → IsProject files → Batches files steps (Ok done)
    → AreSteps (feed_lines (undo_text (names_of done.files.entries) done.undo)) (undo_steps (names_of done.files.entries) done.undo)
    × ((lines : List (List ℕ)) → IsBatch lines steps
    → IsBatch (feed_lines (undo_text (names_of done.files.entries) done.undo)) (undo_steps (names_of done.files.entries) done.undo))

-- Law: if a batch that is accepted has a step, it keeps the bounded runs
abbrev pub BatchesKeepRuns : Type 0
BatchesKeepRuns =
    (files : FileSet) (steps : List Step) (done : Batched) → IsProject files → steps ≢ [] → Batches files steps (Ok done)
    → KeepsRuns files done.files
