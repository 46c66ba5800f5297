-- A binder that keeps its name and is no operator keeps a value name.
use Rattle.std.proofs.Common.{◌≡◌, List, Bool, true, false, ◌||◌, Some, refl, sym, ap, subst, ◌∙◌}
use Rattle.std.specs.Prelude.{IsTrue, bytes_eq}
use Rattle.std.proofs.lemmas.Slice.Eq.{bytes_eq-Decides}
use Rattle.rotor_base.specs.Files.{FileSet, IsProject}
use Rattle.rotor_base.specs.Name.{is_value_name}
use Rattle.rotor_base.specs.declared.place.Place.{Place}
use Rattle.ml_trees.specs.Tree.{UnitTree}
use Rattle.shape_core.specs.Shape.{Name}
use Rattle.binding_model.specs.Renaming.{Renaming, at_place, site_name, name_of, IsFixedSite}
use Rattle.project_reading.specs.Reads.{Reads}
use Rattle.renamed_sources.proofs.ValueNames.{names_are_value_names}
use Rattle.changed_names.specs.Laws.{GivesToChanges, ChangesAreEnough}

neither : (a b : Bool) → (IsTrue (a || b) → ⊥) → (a ≡ false) × (b ≡ false)
neither true b h = absurd (h refl)
neither false true h = absurd (h refl)
neither false false h = (refl, refl)

module _ (files : FileSet) (us : List UnitTree) (r : Renaming) (p : IsProject files) (reads : Reads files us) (g : GivesToChanges us r)
    (d : Place) (y : Name) (e : at_place r d ≡ Some y) where
  own_name : y ≡ name_of us d → IsTrue (is_value_name y)
  own_name s =
      let site = g.place d y e in
      let plain = neither site.0.operator site.0.pun (λ h. g.free d y e (subst IsFixedSite (sym site.1) h)) in
      let name : y ≡ site.0.name = s ∙ ap site_name site.1 in
      subst (λ x. IsTrue (is_value_name x)) (sym name) (names_are_value_names files us d site.0 p reads site.1 plain.0 plain.1)

  value_name : (b : Bool) → bytes_eq y (name_of us d) ≡ b → IsTrue (is_value_name y)
  value_name true t = own_name ((bytes_eq-Decides y (name_of us d)).0 t)
  value_name false t = g.word d y (e, λ s. (let wrong : true ≡ false = sym ((bytes_eq-Decides y (name_of us d)).1 s) ∙ t in cc))

pub changes_are_enough : ChangesAreEnough
changes_are_enough files us r p reads g = record {
  word = λ d y e. value_name files us r p reads g d y e (bytes_eq y (name_of us d)) refl;
  place = g.place;
  free = g.free;
  uses = g.uses;
}
