-- What is known of a folder around a refusal (own).
use Rattle.std.specs.Prelude.{◌≡◌, List, [], None}
use Rattle.rotor_base.specs.Files.{FileSet}
use Rattle.rotor_base.specs.declared.place.Facts.{Facts}
use Rattle.rotor_base.specs.declared.place.Foot.{Foot}
use Rattle.rotor_base.specs.declared.place.Place.{Place}
use Rattle.rotor_base.specs.declared.refusal.Refusal.{Refusal}
use Rattle.rotor_base.specs.declared.target.Target.{Target}
use Rattle.ml_trees.specs.Tree.{UnitTree}
use Rattle.shape_core.specs.Shape.{none}
use Rattle.binding_model.specs.Facts.{facts as facts_of}
use Rattle.binding_model.specs.Scopes.{after_units}
use Rattle.binding_model.specs.Sums.{heavy as heavy_of}
use Rattle.dependency_kernel.specs.Foot.{IsFoot}
use Rattle.project_reading.specs.Reads.{Reads, Unread}
use Rattle.rename_model.specs.Project.{IsHeavy}
use Rattle.rename_model.specs.Renaming.{HasNoTarget}
use Rattle.rename_model.specs.Target.{Aims}
use Rattle.explain.specs.declared.around.Around.{Around}
use Rattle.explain.specs.declared.path_stop.PathStop.TheVariants.{AtValue}
use Rattle.explain.specs.PathStop.{target_stop}

-- no facts
abbrev pub no_facts : Facts
no_facts = record { refs = []; links = []; groups = [] }

-- the facts of a folder that is read as a project, if no site of it is too heavy
pub record AreFacts (files : FileSet) (known : Facts) : Type 0 where
  pub project : List UnitTree
  pub reads : Reads files project
  pub light : heavy_of project ≡ None
  pub are : known ≡ facts_of project

-- the declarations of the footprint of what a target names; if it names no declaration, there are none
pub data AreDeclarations (files : FileSet) (us : List UnitTree) (target : Target) (decls : List Place) : Type 0 where
  named : (d : Place) (foot : Foot) → Aims files us target d → IsFoot (facts_of us).links d foot → decls ≡ foot.decls
      → AreDeclarations files us target decls
  nameless : (why : Refusal) → HasNoTarget files us target why → decls ≡ [] → AreDeclarations files us target decls

-- the facts of a project, the declarations of the footprint that a target names, and where its path stops
pub record IsKnown (files : FileSet) (us : List UnitTree) (target : Target) (around : Around) : Type 0 where
  pub reads : Reads files us
  pub light : heavy_of us ≡ None
  pub facts : around.facts ≡ facts_of us
  pub decls : AreDeclarations files us target around.decls
  pub stop : around.stop ≡ target_stop (after_units none us) target

-- nothing is known
abbrev pub nothing : Around
nothing = record { facts = no_facts; decls = []; stop = AtValue }

-- what is known of a folder around a refusal; if the folder itself is refused, nothing
pub data IsAround (files : FileSet) (target : Target) (around : Around) : Type 0 where
  known : (us : List UnitTree) → IsKnown files us target around → IsAround files target around
  too_heavy : (us : List UnitTree) (why : Refusal) → Reads files us → IsHeavy us why → around ≡ nothing → IsAround files target around
  not_read : (why : Refusal) → Unread files why → around ≡ nothing → IsAround files target around
