use Rattle.std.proofs.Common.{◌≡◌, ◌∙◌, ◌-◌, ℕ, Option, Some, None, ap, sym, length, arith, rules}
use Rattle.std.proofs.lemmas.Grind.{common_steps}
use Rattle.rotor_base.specs.declared.place.Place.{Place}
use Rattle.shape_core.specs.Shape.{darks, decl_of}
use Rattle.shape_core.specs.Node.{entries_of}
use Rattle.shape_core.specs.Looks as looks
use Rattle.shape_core.specs.Members.{final}
use Rattle.shape_core.proofs.Looked.{looked}
use Rattle.shape_core.proofs.Noted.{members_last}
use Rattle.shape_core.proofs.members.Members.find_last.Goals as goal

pub returns-in_err-spot : goal.returns-in_err-spot
returns-in_err-spot c list w e h n d =
    let left : c.from_residual.result ≡ None = first_of (search rules, grind (arith, common_steps)) in
    let none : final c.args.self.now.spots.items ≡ None = ap final (sym c.deref.ensures.value) ∙ sym c.final_spot.ensures ∙ c.in_err-spot.was in
    left ∙ sym (members_last c.args.self.now list w e h n ∙ ap (looked (length (darks (entries_of list)))) none)

pub returns : goal.returns
returns c list w e h n d =
    let spot = c.in_ok-spot.spot in
    let some : final c.args.self.now.spots.items ≡ Some spot = ap final (sym c.deref.ensures.value) ∙ sym c.final_spot.ensures ∙ c.in_ok-spot.was in
    let after : c.saturating_sub-after.result ≡ length (darks (entries_of list)) - spot.darks = c.saturating_sub-after.ensures
    ∙ ap (λ k. k - spot.darks) d in
    let made : Place → ℕ → Option looks.Spot = λ p n. Some (spot.position, p, n) in
    ap (λ p. made p c.saturating_sub-after.result) c.place_of.ensures
    ∙ ap (made (looks.some_place (decl_of spot.goal))) after
    ∙ sym (members_last c.args.self.now list w e h n ∙ ap (looked (length (darks (entries_of list)))) some)
