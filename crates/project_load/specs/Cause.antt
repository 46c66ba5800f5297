-- When the answer of loading is that the folder failed (own).
use Rattle.std.specs.Prelude.{ℕ, ◌<◌, ◌≤◌, Result, IsErrOf}
use Rattle.rotor_base.specs.declared.refusal.LoadError.{LoadError}
use Rattle.rotor_base.specs.declared.refusal.LoadError.TheVariants.{Read}
use Rattle.tree_io.specs.Outside.{Rose}
use Rattle.project_load.specs.declared.error.ListError.{ListError}
use Rattle.project_load.specs.declared.error.ListError.TheVariants as list

-- the count of faults never falls, the answer is Read only if it rose, and always if it is greater afterwards
pub record HasReadCause {T : Type 0} (before now : ℕ) (result : Result T LoadError) : Type 0 where
  pub later : before ≤ now
  pub read : IsErrOf result Read → Rose before now
  pub passed : before < now → IsErrOf result Read

-- the same, of loading by a list
pub record HasListCause {T : Type 0} (before now : ℕ) (result : Result T ListError) : Type 0 where
  pub later : before ≤ now
  pub read : IsErrOf result list.Read → Rose before now
  pub passed : before < now → IsErrOf result list.Read

-- an error of loading, as an error of loading by a list
abbrev pub list_error : LoadError → ListError
list_error Read = list.Read
list_error error = list.Load error
