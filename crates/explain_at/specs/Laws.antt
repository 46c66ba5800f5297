-- Law: what is printed is read again (own).
use Rattle.std.specs.Prelude.{◌≡◌, List, ◌++◌, Some, IsTrue, codes, false}
use Rattle.report.specs.Pieces.{Word}
use Rattle.rotor_base.specs.Files.{FileSet, IsProject}
use Rattle.rotor_base.specs.declared.place.Place.{Place}
use Rattle.cli_words.specs.Target.{target_of}
use Rattle.value_sites.specs.Places.{Site}
use Rattle.ml_trees.specs.Tree.{UnitTree}
use Rattle.binding_model.specs.Renaming.{at_place, places}
use Rattle.project_reading.specs.Reads.{Reads}
use Rattle.rename_model.specs.Target.{Aims}
use Rattle.refusal_words.specs.Cut.{AreCuts, Cut}
use Rattle.explain_at.specs.At.{target_line}

-- the place declares a plain name: it is no operator, and no label or field too
pub record IsPlain (us : List UnitTree) (d : Place) : Type 0 where
  pub site : Site
  pub here : at_place (places us) d ≡ Some site
  pub binds : IsTrue site.binds
  pub no_operator : site.operator ≡ false
  pub no_pun : site.pun ≡ false

-- the line of the target of such a declaration is a word that is read as a target, and that target names the declaration
abbrev pub TargetsAreRead : Type 0
TargetsAreRead =
    (files : FileSet) (us : List UnitTree) (cuts : List Cut) (d : Place) → IsProject files → Reads files us → AreCuts files.entries cuts
    → IsPlain us d → (word : Word) × (target_line cuts d ≡ word ++ codes "\n") × Aims files us (target_of word) d
