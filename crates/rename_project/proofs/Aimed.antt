-- The binder that a target names.
use Rattle.std.proofs.Common.{◌≡◌, Some, ap, sym, ◌∙◌, List}
use Rattle.rotor_base.specs.declared.place.Place.{Place}
use Rattle.value_sites.specs.declared.mark.Mark.{Mark}
use Rattle.ml_trees.specs.Tree.{UnitTree}
use Rattle.binding_model.specs.Renaming.{site_name, name_of}
use Rattle.rename_parts.specs.Binders.{IsMarkAt}

-- its mark has its name
pub mark_name : (us : List UnitTree) (p : Place) (m : Mark) → IsMarkAt us p (Some m) → m.name ≡ name_of us p
mark_name us p m h = ap (λ (k : Mark). k.name) h.3 ∙ sym (ap site_name h.1)
