-- When a reading of the gate or of the plan, and a recovery, fail because of the folder (own).
use Rattle.std.specs.Prelude.{◌≡◌, ◌⊎◌, ℕ, ◌<◌, ◌≤◌, Result, IsErrOf}
use Rattle.tree_io.specs.Outside.{Rose}
use Rattle.tree_io.specs.declared.outside.TreeError.{TreeError}
use Rattle.tree_io.specs.declared.outside.TreeError.TheVariants as tree
use Rattle.apply_journal.specs.declared.error.RecoverError.{RecoverError}
use Rattle.apply_journal.specs.declared.error.RecoverError.TheVariants.{Read, Write, Memory}

-- the count of faults never falls; if the error is Read, it rose; if it is greater afterwards, the error is Read
pub record HasReadCause {T : Type 0} (before now : ℕ) (result : Result T RecoverError) : Type 0 where
  pub later : before ≤ now
  pub read : IsErrOf result Read → Rose before now
  pub passed : before < now → IsErrOf result Read

-- the call failed because of the folder
abbrev pub IsFault : {T : Type 0} → Result T RecoverError → Type 0
IsFault result = IsErrOf result Read ⊎ IsErrOf result Write

-- the same of a call that writes too
pub record HasRecoverCause {T : Type 0} (before now : ℕ) (result : Result T RecoverError) : Type 0 where
  pub later : before ≤ now
  pub rose : IsFault result → Rose before now
  pub passed : before < now → IsFault result

-- the errors of a reading: the folder failed, or there was no memory
abbrev pub IsOutside : RecoverError → Type 0
IsOutside error = (error ≡ Read) ⊎ (error ≡ Memory)

-- the error of a call that reads a folder, as the error of a reading
abbrev pub read_error : TreeError → RecoverError
read_error tree.Failed = Read
read_error tree.Memory = Memory
