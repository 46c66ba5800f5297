-- What is decided of lines (own).
use Rattle.std.specs.Prelude.{◌⊎◌, ℕ, List, Result}
use Rattle.rotor_base.specs.declared.source.SourceFile.{SourceFile}
use Rattle.rotor_base.specs.Files.{FileSet}
use Rattle.tree_io.specs.Outside.{FileMap}
use Rattle.project_load.specs.Listed.{Lists}
use Rattle.project_load.specs.declared.error.ListError.{ListError}
use Rattle.apply_journal.specs.Plan.{IsPlan}
use Rattle.rename_batch.specs.declared.step.Step.{Step}
use Rattle.rename_batch.specs.Reading.{IsBadLine, IsBatch}

-- Law: a folder has an answer to a list
abbrev pub ListsAreAnswered : Type 0
ListsAreAnswered = (held : FileMap) (list : List ℕ) → (answer : Result FileSet ListError) × Lists held list answer

-- Law: lines are a batch of some steps, or they have a first bad line
abbrev pub BatchLinesAreDecided : Type 0
BatchLinesAreDecided = (lines : List (List ℕ)) → ((steps : List Step) × IsBatch lines steps) ⊎ ((number : ℕ) × IsBadLine lines number)

-- Law: bytes are the plan of some files, or of none
abbrev pub PlansAreDecided : Type 0
PlansAreDecided = (bytes : List ℕ) → ((files : List SourceFile) × IsPlan bytes files) ⊎ ((files : List SourceFile) → IsPlan bytes files → ⊥)
