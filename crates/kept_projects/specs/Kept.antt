-- Files that are accepted as a project, with what it is resolved to (own).
use Rattle.std.specs.Prelude.{◌≡◌, List, None}
use Rattle.rotor_base.specs.Files.{FileSet}
use Rattle.value_sites.specs.Sound.{IsSound}
use Rattle.ml_trees.specs.Tree.{UnitTree}
use Rattle.shape_core.specs.Node.{entries_of}
use Rattle.shape_core.specs.Shape.{none}
use Rattle.binding_model.specs.Facts.{facts as facts_of}
use Rattle.binding_model.specs.Scopes.{after_units}
use Rattle.binding_model.specs.Sums.{heavy as heavy_of}
use Rattle.mod_shape.specs.declared.resolved.Resolved.{Resolved}
use Rattle.rename_files.specs.Answer.{Accepts}

-- the files are accepted as this project, no site of it is too heavy, and these are its facts and the scope after its units
pub record IsKept (files : FileSet) (us : List UnitTree) (resolved : Resolved) : Type 0 where
  pub accepts : Accepts files us
  pub sound : IsSound us
  pub light : heavy_of us ≡ None
  pub facts : resolved.facts ≡ facts_of us
  pub top : entries_of resolved.top ≡ after_units none us
