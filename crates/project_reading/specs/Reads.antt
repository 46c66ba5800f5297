-- The project that files are read as, and why they are not (own).
use Rattle.std.specs.Prelude.{◌≡◌, ◌⊎◌, ℕ, List, Option, None, true, false}
use Rattle.rotor_base.specs.Files.{FileSet}
use Rattle.rotor_base.specs.declared.refusal.Refusal.{Refusal}
use Rattle.rotor_base.specs.declared.refusal.Refusal.TheVariants as refusal
use Rattle.ml_trees.specs.Tree.{FileTree, UnitTree}
use Rattle.unit_order.specs.Order.{order_of, takes_all, IsStuck}
use Rattle.project_reading.specs.Sources.{ReadAll, FirstUnread}
use Rattle.project_reading.specs.Units.{units_of, in_order}

-- The files are read as this project: all sources are read, without a manifest the taking takes all units, and the
-- project is the units in the order of linking.
pub record Reads (files : FileSet) (project : List UnitTree) : Type 0 where
  pub trees : List FileTree
  pub read : ReadAll 0 files.entries trees
  pub taken : files.manifest ≡ None → takes_all (units_of files.entries trees) ≡ true
  pub linked : project ≡ in_order (units_of files.entries trees) (order_of (units_of files.entries trees) files.manifest)

-- units have no order: without a manifest the taking gets stuck, and this unit is the first that lies on a cycle
pub record AreStuck (units : List UnitTree) (manifest : Option (List ℕ)) (unit : List ℕ) : Type 0 where
  pub derived : manifest ≡ None
  pub left : takes_all units ≡ false
  pub stuck : IsStuck units unit

-- All sources are read, there is no manifest, the taking gets stuck, and this unit is the first that lies on a cycle.
pub record IsOrderless (files : FileSet) (unit : List ℕ) : Type 0 where
  pub trees : List FileTree
  pub read : ReadAll 0 files.entries trees
  pub stuck : AreStuck (units_of files.entries trees) files.manifest unit

-- the files are not read as a project, and this says why
abbrev pub Unread : FileSet → Refusal → Type 0
Unread files why = FirstUnread 0 files.entries why ⊎ ((unit : List ℕ) × (why ≡ refusal.Cycle unit) × IsOrderless files unit)

-- their order is refused so: rightly, or for want of memory
abbrev pub IsOrderRefused : List UnitTree → Option (List ℕ) → Refusal → Type 0
IsOrderRefused units manifest why = ((unit : List ℕ) × (why ≡ refusal.Cycle unit) × AreStuck units manifest unit) ⊎ (why ≡ refusal.Memory)

-- a call is refused so: rightly, or for want of memory
abbrev pub IsRefused : FileSet → Refusal → Type 0
IsRefused files why = Unread files why ⊎ (why ≡ refusal.Memory)
