-- The local criterion: the first fault, as the facts and the looks of the old project give it
-- (own).
use Rattle.std.specs.Prelude.{◌≡◌, List, Option, None, if◌then◌else◌}
use Rattle.rotor_base.specs.declared.place.Goal.TheVariants.{Decl}
use Rattle.rotor_base.specs.declared.looks.Watch.{Watch}
use Rattle.value_sites.specs.Sound.{IsSound}
use Rattle.ml_trees.specs.Tree.{UnitTree}
use Rattle.shape_core.specs.Looks.{is_member}
use Rattle.binding_model.specs.Facts.{facts}
use Rattle.binding_model.specs.Looks.{looks}
use Rattle.binding_model.specs.Renaming.{name_of, respell}
use Rattle.binding_model.specs.Local.{would_facts, IsWatched}
use Rattle.binding_model.specs.Renaming.{renaming}
use Rattle.capture_check.specs.declared.fault.Fault.{Fault}
use Rattle.capture_check.specs.Fault.{Names, IsFirstFault}

-- the names of the new project's binders
abbrev pub would_name : Watch → List UnitTree → Names
would_name w us d = if is_member w (Decl d) then w.new else name_of us d

-- the first fault that the looks give
abbrev pub IsToldFault : List UnitTree → Watch → Option Fault → Type 0
IsToldFault us w o = IsFirstFault (would_name w us) (facts us) (would_facts w (looks w us) (facts us)) o

-- the first fault of the renamed project against the old one
abbrev pub IsLocalFault : List UnitTree → Watch → Option Fault → Type 0
IsLocalFault us w o = IsFirstFault (name_of (respell us (renaming w))) (facts us) (facts (respell us (renaming w))) o

-- Law: the fault that the looks give is the first fault of the renamed project
abbrev pub LooksDetermineFaults : Type 0
LooksDetermineFaults = (us : List UnitTree) (w : Watch) (o : Option Fault) → IsSound us → IsWatched us w → IsToldFault us w o → IsLocalFault us w o

-- Law: if no fault is found, the renamed project has the facts of the old one
abbrev pub NoFaultKeepsFacts : Type 0
NoFaultKeepsFacts = (us : List UnitTree) (w : Watch) → IsSound us → IsWatched us w → IsLocalFault us w None
    → facts (respell us (renaming w)) ≡ facts us
