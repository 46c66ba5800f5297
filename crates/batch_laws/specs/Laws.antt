-- A batch is one valid renaming (own).
use Rattle.std.specs.Prelude.{◌≢◌, List, [], Ok}
use Rattle.rotor_base.specs.Files.{FileSet, IsProject}
use Rattle.rename_batch.specs.declared.step.Step.{Step}
use Rattle.rename_batch.specs.declared.step.Batched.{Batched}
use Rattle.rename_batch.specs.Batch.{Batches}
use Rattle.accepted_renamings.specs.Laws.{AreValidlyRenamed}

-- Law: a batch that is accepted and has a step gives validly renamed files
abbrev pub BatchesAreValid : Type 0
BatchesAreValid =
    (files : FileSet) (steps : List Step) (done : Batched) → IsProject files → steps ≢ [] → Batches files steps (Ok done)
    → AreValidlyRenamed files done.files
