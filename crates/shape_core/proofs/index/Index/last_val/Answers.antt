use Rattle.std.proofs.Common.{◌≡◌, ◌∙◌, ◌-◌, ℕ, Option, Some, None, ap, sym, length, arith, rules}
use Rattle.std.proofs.lemmas.Grind.{common_steps}
use Rattle.rotor_base.specs.declared.place.Place.{Place}
use Rattle.shape_core.specs.Shape.{darks, decl_of}
use Rattle.shape_core.specs.Node.{entries_of}
use Rattle.shape_core.specs.Index.{last_spot}
use Rattle.shape_core.specs.Looks as looks
use Rattle.shape_core.proofs.Telling.{len_of}
use Rattle.shape_core.proofs.Looked.{looked, last_looked}
use Rattle.shape_core.proofs.index.Index.last_val.Goals as goal

pub returns-in_err-spot : goal.returns-in_err-spot
returns-in_err-spot c list h =
    let es = entries_of list in
    let x = c.args.name.now in
    let left : c.from_residual.result ≡ None = first_of (search rules, grind (arith, common_steps)) in
    let none : last_spot es x ≡ None = sym (h.tables.vals x) ∙ sym c.get.ensures ∙ c.in_err-spot.was in
    left ∙ sym (last_looked x es ∙ ap (looked (length (darks es))) none)

pub returns : goal.returns
returns c list h =
    let es = entries_of list in
    let x = c.args.name.now in
    let spot = c.in_ok-spot.spot in
    let some : last_spot es x ≡ Some spot = sym (h.tables.vals x) ∙ sym c.get.ensures ∙ c.in_ok-spot.was in
    let after : c.saturating_sub-after.result ≡ length (darks es) - spot.darks = c.saturating_sub-after.ensures
    ∙ ap (λ k. k - spot.darks) (c.len.ensures ∙ len_of c.args.self.now.tables.darks ∙ ap length h.tables.darks) in
    let made : Place → ℕ → Option looks.Spot = λ p n. Some (spot.position, p, n) in
    ap (λ p. made p c.saturating_sub-after.result) c.place_of.ensures
    ∙ ap (made (looks.some_place (decl_of spot.goal))) after
    ∙ sym (last_looked x es ∙ ap (looked (length (darks es))) some)
