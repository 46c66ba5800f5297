-- All files are read as a project, or something says why they are not.
use Rattle.std.proofs.Common.{◌≡◌, ◌⊎◌, inl, inr, ℕ, List, Bool, true, false, Option, Some, None, refl, sym, ◌∙◌}
use Rattle.std.proofs.lemmas.Bool.{true≢false}
use Rattle.rotor_base.specs.declared.refusal.Refusal.{Refusal}
use Rattle.rotor_base.specs.declared.refusal.Refusal.TheVariants as refusal
use Rattle.rotor_base.specs.Files.{FileSet}
use Rattle.ml_trees.specs.Tree.{FileTree, UnitTree}
use Rattle.unit_order.specs.Order.{IsStuck, order_of, takes_all}
use Rattle.project_reading.specs.Sources.{FirstUnread, ReadAll}
use Rattle.project_reading.specs.Units.{in_order, units_of}
use Rattle.project_reading.proofs.Linked.{units_apart}
use Rattle.decided_readings.specs.Laws.{FilesAreDecided, HasReading}
use Rattle.decided_readings.proofs.Orders.{orders_are_decided}
use Rattle.decided_readings.proofs.Sources.{all_decided}

module _ (files : FileSet) (trees : List FileTree) (read : ReadAll 0 files.entries trees) where
  abbrev units : List UnitTree
  units = units_of files.entries trees

  project : (files.manifest ≡ None → takes_all units ≡ true) → HasReading files
  project taken = inl (in_order units (order_of units files.manifest), record { trees = trees; read = read; taken = taken; linked = refl })

  derived : files.manifest ≡ None → (all : Bool) → takes_all units ≡ all → (takes_all units ≡ true) ⊎ ((name : List ℕ) × IsStuck units name)
      → HasReading files
  derived none true e order = project (λ is. e)
  derived none false e (inl all) = absurd (true≢false (sym all ∙ e))
  derived none false e (inr stuck) =
      inr (
        refusal.Cycle stuck.0,
        inr
            (stuck.0, refl, record { trees = trees; read = read; stuck = record { derived = none; left = e; stuck = stuck.1 } }),
      )

  linked : (manifest : Option (List ℕ)) → files.manifest ≡ manifest → HasReading files
  linked None e = derived e (takes_all units) refl (orders_are_decided units (units_apart files.entries trees))
  linked (Some bytes) e = project (λ none. let bad : Some bytes ≡ None = sym e ∙ none in cc)

pub files_are_decided : FilesAreDecided
files_are_decided files = by (all_decided 0 files.entries) where
  by : ((trees : List FileTree) × ReadAll 0 files.entries trees) ⊎ ((why : Refusal) × FirstUnread 0 files.entries why) → HasReading files
  by (inl read) = linked files read.0 read.1 files.manifest refl
  by (inr unread) = inr (unread.0, inl unread.1)
