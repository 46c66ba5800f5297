-- A folder has an answer to a list.
use Rattle.std.proofs.Common.{◌≡◌, ◌⊎◌, inl, inr, ℕ, ◌<◌, ◌≤◌, List, Option, Some, None, Result, Ok, Err, length, refl}
use Rattle.std.specs.FinMap.{empty, get}
use Rattle.rotor_base.specs.Files.{FileSet}
use Rattle.rotor_base.specs.Limits.{max_file_bytes}
use Rattle.rotor_base.specs.Lines.{feed_lines}
use Rattle.rotor_base.specs.declared.refusal.LoadError.{LoadError}
use Rattle.rotor_base.specs.declared.refusal.LoadError.TheVariants.{TooLarge}
use Rattle.tree_io.specs.Outside.{FileMap}
use Rattle.project_load.specs.Listed.{Gives, IsBadLine, Lists}
use Rattle.project_load.specs.Listed as listed
use Rattle.project_load.specs.Load.{loaded}
use Rattle.project_load.specs.declared.error.ListError.{ListError}
use Rattle.project_load.specs.declared.error.ListError.TheVariants.{BadList, Load}
use Rattle.decided_lists.specs.Laws.{ListsAreAnswered}
use Rattle.decided_lists.proofs.Entries.{entries_known}
use Rattle.decided_lists.proofs.Known.{within_or_over}

abbrev HasAnswer : FileMap → List ℕ → Type 0
HasAnswer held list = (answer : Result FileSet ListError) × Lists held list answer

module _ (held : FileMap) (list bytes : List ℕ) (there : get held list ≡ Some bytes) (few : length bytes ≤ max_file_bytes) where
  loading : (given : FileMap) → Gives held (feed_lines bytes) empty given → (load : Result FileSet LoadError) → loaded given ≡ load
      → HasAnswer held list
  loading given gives (Ok files) e = (Ok files, listed.taken bytes given files there few gives e refl)
  loading given gives (Err error) e = (Err (Load error), listed.refused bytes given error there few gives e refl)

  short : ((given : FileMap) × Gives held (feed_lines bytes) empty given) ⊎ ((number : ℕ) × IsBadLine held (feed_lines bytes) number)
      → HasAnswer held list
  short (inl g) = loading g.0 g.1 (loaded g.0) refl
  short (inr b) = (Err (BadList b.0), listed.unread bytes b.0 there few b.1 refl)

found : (held : FileMap) (list : List ℕ) (o : Option (List ℕ)) → get held list ≡ o → HasAnswer held list
found held list None e = (Err (BadList 0), listed.lacks e refl)
found held list (Some bytes) e = by (within_or_over (length bytes) max_file_bytes) where
  by : (length bytes ≤ max_file_bytes) ⊎ (max_file_bytes < length bytes) → HasAnswer held list
  by (inl few) = short held list bytes e few (entries_known held (feed_lines bytes))
  by (inr large) = (Err (Load (TooLarge list)), listed.large bytes e large refl)

pub lists_are_answered : ListsAreAnswered
lists_are_answered held list = found held list (get held list) refl
