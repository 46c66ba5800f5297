-- Files that are read as a project and resolved (own).
use Rattle.std.specs.Prelude.{◌≡◌, ◌⊎◌, List, None}
use Rattle.rotor_base.specs.declared.refusal.Refusal.{Refusal}
use Rattle.rotor_base.specs.Files.{FileSet}
use Rattle.ml_trees.specs.Tree.{UnitTree}
use Rattle.binding_model.specs.Sums.{heavy}
use Rattle.project_reading.specs.Reads.{Reads, Unread}
use Rattle.rename_model.specs.Project.{IsHeavy}

-- the files are read as this project, and none of its sites is too heavy
pub record Resolves (files : FileSet) (us : List UnitTree) : Type 0 where
  pub reads : Reads files us
  pub light : heavy us ≡ None

-- the files are not read as a project (1 to 6); or they are, and this is its first site that is too heavy (9)
abbrev pub Unresolved : FileSet → Refusal → Type 0
Unresolved files why = Unread files why ⊎ ((us : List UnitTree) × Reads files us × IsHeavy us why)
