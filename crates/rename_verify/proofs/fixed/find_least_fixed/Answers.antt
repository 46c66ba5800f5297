use Rattle.std.proofs.Common.{◌∙◌, List, ap, subst}
use Rattle.rotor_base.specs.declared.place.Facts.{Facts}
use Rattle.rotor_base.specs.declared.place.Place.{Place}
use Rattle.rotor_base.specs.declared.place.Ref.{Ref}
use Rattle.value_sites.specs.Places.{Site}
use Rattle.binding_model.specs.Facts.{facts}
use Rattle.shape_core.specs.Places.{HasPlaces}
use Rattle.rename_verify.specs.Fixed.{HasFixedUses, fixed_by}
use Rattle.rename_verify.proofs.Fixing.{least_is}
use Rattle.rename_verify.proofs.fixed.find_least_fixed.Goals as goal

pub returns : goal.returns
returns c = λ us at is words.
    let uses = c.in_ok-uses.uses in
    let fixed = c.in_ok-fixed.fixed in
    least_is us uses fixed
    (subst (λ (ls : List (Place × Site)). HasFixedUses ls (facts us).refs uses) at
    (subst (λ (refs : List Ref). HasFixedUses c.args.placed.now refs uses) (c.as_slice.ensures ∙ ap (λ (f : Facts). f.refs) is) c.in_ok-uses.ensures))
    (subst (λ (f : Facts). HasPlaces (fixed_by uses f) fixed) is c.in_ok-fixed.ensures)
    c.args.changes.now words c.find_least_among.result c.find_least_among.ensures
