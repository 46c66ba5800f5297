-- What changes if a footprint takes a name that nothing has (own).
use Rattle.std.specs.Prelude.{◌≡◌, ◌≢◌, List, Contains}
use Rattle.rotor_base.specs.declared.looks.Watch.{Watch}
use Rattle.rotor_base.specs.declared.place.Goal.TheVariants.{Hidden}
use Rattle.rotor_base.specs.declared.place.Link.{Link}
use Rattle.rotor_base.specs.declared.place.Place.{Place}
use Rattle.dependency_kernel.specs.Foot.{IsFoot}
use Rattle.value_sites.specs.Places.{Site}
use Rattle.value_sites.specs.Sound.{IsSound}
use Rattle.ml_trees.specs.Tree.{UnitTree}
use Rattle.shape_core.specs.Shape.{Name}
use Rattle.binding_model.specs.Facts.{facts, IsGood}
use Rattle.binding_model.specs.Local.{IsWatched}
use Rattle.binding_model.specs.Renaming.{renaming}
use Rattle.binding_model.specs.Renaming.{name_of, places, respell}
use Rattle.capture_check.specs.declared.fault.Fault.{Fault}
use Rattle.capture_check.specs.declared.fault.Fault.TheVariants.{Clash, Capture, Mislink}
use Rattle.capture_check.specs.Fault.{faults}

-- no value of the project has this name, and no use of a value
abbrev pub IsUnused : List UnitTree → Name → Type 0
IsUnused us new = (p : Place) (x : Site) → Contains (places us) (p, x) → x.name ≢ new

-- no item of a signature or of a target is hidden by a later one
abbrev pub HidesNothing : List UnitTree → Type 0
HidesNothing us = (l : Link) → Contains (facts us).links l → l.source ≢ Hidden

-- a footprint that may be renamed, to a name that nothing has
pub record TakesUnused (us : List UnitTree) (w : Watch) : Type 0 where
  pub binder : Place
  pub is_foot : IsFoot (facts us).links binder w.foot
  pub watched : IsWatched us w
  pub unused : IsUnused us w.new

-- the fault is a Mislink of an item that was hidden
abbrev pub WasHidden : Fault → Type 0
WasHidden (Clash first again) = ⊥
WasHidden (Capture at was would) = ⊥
WasHidden (Mislink item was would) = was ≡ Hidden

-- Law: the first fault of the renamed project, if there is one, is a Mislink of an item that was hidden
abbrev pub UnusedTakesNothing : Type 0
UnusedTakesNothing =
    (us : List UnitTree) (w : Watch) (fault : Fault) → IsSound us → IsGood us → TakesUnused us w
    → faults (name_of (respell us (renaming w))) (facts us) (facts (respell us (renaming w))) fault → WasHidden fault

-- Law: if nothing is hidden, the renamed project has the facts of the old one
abbrev pub NothingHiddenStays : Type 0
NothingHiddenStays =
    (us : List UnitTree) (w : Watch) → IsSound us → IsGood us → TakesUnused us w → HidesNothing us
    → facts (respell us (renaming w)) ≡ facts us
