-- The laws of reading (own).
use Rattle.std.specs.Prelude.{◌≡◌, ◌⊎◌, ℕ, List, Some, slice_get, Contains}
use Rattle.rotor_base.specs.Files.{FileSet, IsProject}
use Rattle.rotor_base.specs.declared.refusal.Refusal.{Refusal}
use Rattle.rotor_base.specs.declared.source.SourceFile.{SourceFile}
use Rattle.value_sites.specs.Sound.{IsSound}
use Rattle.ml_trees.specs.Tree.{FileTree, UnitTree}
use Rattle.project_reading.specs.Reads.{Reads, Unread}
use Rattle.project_reading.specs.Source.{ReadsAs}

-- files are read as one project at most
abbrev pub OneProject : Type 0
OneProject = (files : FileSet) (one other : List UnitTree) → Reads files one → Reads files other → one ≡ other

-- one refusal at most says why they are not
abbrev pub OneRefusal : Type 0
OneRefusal = (files : FileSet) (one other : Refusal) → Unread files one → Unread files other → one ≡ other

-- they are not both
abbrev pub ReadOrRefused : Type 0
ReadOrRefused = (files : FileSet) (project : List UnitTree) (refusal : Refusal) → Reads files project → Unread files refusal → ⊥

-- what the files of a project are read as is sound
abbrev pub ReadIsSound : Type 0
ReadIsSound = (files : FileSet) (project : List UnitTree) → IsProject files → Reads files project → IsSound project

-- the tree of each source is the body or the interface of a unit of the project
abbrev pub TreesAreParts : Type 0
TreesAreParts =
    (files : FileSet) (project : List UnitTree) → IsProject files → Reads files project
    → (number : ℕ) (source : SourceFile) (tree : FileTree) → slice_get files.entries number ≡ Some source → ReadsAs number source tree
    → (u : UnitTree) × Contains project u × ((u.body ≡ Some tree) ⊎ (u.face ≡ Some tree))

-- the body and the interface of each unit of the project are what a source is read as
abbrev pub PartsAreTrees : Type 0
PartsAreTrees =
    (files : FileSet) (project : List UnitTree) → IsProject files → Reads files project
    → (u : UnitTree) (tree : FileTree) → Contains project u → (u.body ≡ Some tree) ⊎ (u.face ≡ Some tree)
    → (number : ℕ) × (source : SourceFile) × (slice_get files.entries number ≡ Some source) × ReadsAs number source tree
