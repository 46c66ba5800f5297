-- The entries of a map that change a name, one after the other.
use Rattle.std.proofs.Common.{◌≡◌, ◌∷◌, Bool, true, false, cond, not, Option, None, refl}
use Rattle.std.specs.Str.{bytes_eq}
use Rattle.rotor_base.specs.declared.place.Place.{Place}
use Rattle.rotor_base.specs.Place.{same_place}
use Rattle.shape_core.specs.Shape.{Name, or_else, some_if}
use Rattle.binding_model.specs.Renaming.{Renaming, at_place}
use Rattle.rename_respell.specs.Respelled.{changed_from}

-- the entry at the front
abbrev pub front_name : (Place → Name) → Place × Name → Place → Option Name
front_name old e p = cond (not (bytes_eq e.1 (old e.0))) (some_if (same_place e.0 p) e.1) None

front_case : (e : Place × Name) (r : Renaming) (p : Place) (b : Bool)
    → at_place (cond b (e ∷ r) r) p ≡ or_else (cond b (some_if (same_place e.0 p) e.1) None) (at_place r p)
front_case e r p true = refl
front_case e r p false = refl

pub changed_more : (old : Place → Name) (e : Place × Name) (r : Renaming) (p : Place)
    → at_place (changed_from old (e ∷ r)) p ≡ or_else (front_name old e p) (at_place (changed_from old r) p)
changed_more old e r p = front_case e (changed_from old r) p (not (bytes_eq e.1 (old e.0)))
