-- The renaming of a footprint that is free of the first refusals gives value names to its members.
use Rattle.std.proofs.Common.{◌≡◌, zero, suc, List, [], ◌∷◌, Contains, map, ap, sym, ◌∙◌, arith}
use Rattle.rotor_base.specs.declared.place.Foot.{Foot}
use Rattle.rotor_base.specs.declared.place.Place.{Place}
use Rattle.value_sites.specs.Sound.{IsSound}
use Rattle.ml_trees.specs.Tree.{UnitTree}
use Rattle.shape_core.specs.Shape.{Name}
use Rattle.dependency_kernel.specs.Foot.{IsFoot}
use Rattle.binding_model.specs.Facts.{facts}
use Rattle.binding_model.specs.Renaming.{IsBinder}
use Rattle.binding_model.specs.Renaming.{renaming}
use Rattle.respelled_reading.proofs.Renamed.{watches_give_value_names}
use Rattle.rename_model.specs.Renaming.{watch_of}
use Rattle.rename_parts.specs.Findings.{IsFree}
use Rattle.rename_parts.proofs.Bridge.{watched}
use Rattle.verified_refusals.proofs.Suggested.{IsGiving}

-- an entry gives the new name to a member
entry_of : (new : Name) (ds : List Place) (d : Place) (y : Name) → Contains {X = Place × Name} (map (λ (e : Place). (e, new)) ds) (d, y)
    → Contains ds d × (y ≡ new)
entry_of new [] d y c = absurd (omega (arith, c.1))
entry_of new (e ∷ ds) d y (zero, l, is) = ((zero, omega arith, ap (λ (p : Place × Name). p.0) is), sym (ap (λ (p : Place × Name). p.1) is))
entry_of new (e ∷ ds) d y (suc k, l, is) =
    let c : Contains {X = Place × Name} (map (λ (e : Place). (e, new)) ds) (d, y) = (k, omega (arith, l), is) in
    let rest = entry_of new ds d y c in
    ((suc rest.0.0, omega (arith, rest.0.1), rest.0.2), rest.1)

pub is_giving : (us : List UnitTree) (d : Place) (foot : Foot) (new : Name) → IsSound us → IsFoot (facts us).links d foot → IsBinder us d
    → IsFree us d foot new → IsGiving us (renaming (watch_of us d foot new))
is_giving us d foot new sound is binder free =
    let w = watch_of us d foot new in
    let both = watched us d foot new sound is free binder in
    record {
      gives = watches_give_value_names us w both.0 free.valid (λ a c. ((both.1 a c).0, (both.1 a c).1));
      binders = λ a y c. both.1 a (entry_of new foot.decls a y c).0;
      free = λ a y c. both.0.free a (entry_of new foot.decls a y c).0;
      only = λ a y c e. let k = entry_of new foot.decls a y c in both.0.other (sym k.1 ∙ (e ∙ both.0.named a k.0));
    }
