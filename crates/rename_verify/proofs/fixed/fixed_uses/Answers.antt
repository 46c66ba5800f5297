use Rattle.std.proofs.Common.{◌≡◌, ◌∙◌, ◌||◌, List, filter, map, subst}
use Rattle.rename_parts.specs.declared.checks.Hit.{Hit}
use Rattle.shape_core.specs.Places.{HasPlaces}
use Rattle.rename_verify.specs.Fixed.{HasFixedUses}
use Rattle.rename_verify.proofs.Answered.{ok_more}
use Rattle.rename_verify.proofs.Fixing.{has_fixed_uses}
use Rattle.rename_verify.proofs.fixed.fixed_uses.Goals as goal

pub returns : goal.returns
returns c =
    let refs = c.args.refs.now in
    let marks = c.in_ok-marks.marks.items in
    let fixed = c.deref-3.result.now in
    let are : fixed ≡ map (λ (h : Hit). h.place) (filter (λ (h : Hit). h.operator || h.pun) c.deref-2.result.now) = c.deref-3.ensures.value
    ∙ c.in_ok-fixed.ensures in
    let listed : fixed ≡ map (λ (h : Hit). h.place) (filter (λ (h : Hit). h.operator || h.pun) marks) =
    subst (λ (l : List Hit). fixed ≡ map (λ (h : Hit). h.place) (filter (λ (h : Hit). h.operator || h.pun) l)) c.deref-2.ensures.value are in
    ok_more c.set_of.result (HasPlaces fixed) (HasFixedUses c.args.placed.now refs)
    (λ uses h. has_fixed_uses c.args.placed.now refs c.deref.result.now uses marks fixed (c.deref.ensures.value ∙ c.in_ok-places.ensures)
    c.in_ok-marks.ensures listed h)
    c.set_of.ensures
