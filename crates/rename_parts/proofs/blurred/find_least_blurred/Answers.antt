use Rattle.std.proofs.Common.{◌≡◌, ap, ◌∙◌, Option}
use Rattle.rotor_base.specs.declared.place.Place.{Place}
use Rattle.rename_parts.specs.Blurs.{earlier_of}
use Rattle.rename_parts.proofs.Blurring.{ref_step, link_step, links_begin, links_end}
use Rattle.rename_parts.proofs.blurred.find_least_blurred.Goals as goal

-- two steps of the fold
folded : (best a b x y new half : Option Place) → half ≡ earlier_of best x → x ≡ a → y ≡ b → new ≡ earlier_of half y
    → new ≡ earlier_of (earlier_of best a) b
folded best a b x y new half h e f k = k ∙ (ap (λ z. earlier_of z y) (h ∙ ap (earlier_of best) e) ∙ ap (earlier_of (earlier_of best a)) f)

pub loop-reference-preserved : goal.loop-reference-preserved
loop-reference-preserved c =
    ref_step c.args.members.now c.args.refs.now c.loop-reference.reference-index _ c.loop-reference.least c.take_earlier_of-least.result
    c.loop-reference-test.true
    (c.take_earlier_of-least.ensures ∙ ap (earlier_of c.loop-reference.least) c.blurred_ref.ensures) c.loop-reference.invariant

pub loop-link-init : goal.loop-link-init
loop-link-init c =
    links_begin c.args.members.now c.args.refs.now c.args.links.now c.loop-reference.reference-index c.loop-reference.least
    c.loop-reference.auto.reference-index-end c.loop-reference-test.false c.loop-reference.invariant

pub loop-link-preserved : goal.loop-link-preserved
loop-link-preserved c =
    link_step c.args.members.now c.args.refs.now c.args.links.now c.loop-link.link-index _ c.loop-link.least
    c.take_earlier_of-least-in-loop-link.result
    c.loop-link-test.true
    (folded c.loop-link.least _ _ c.blurred_item.result c.find_behind.result c.take_earlier_of-least-in-loop-link.result c.take_earlier_of-item.result
    c.take_earlier_of-item.ensures c.blurred_item.ensures c.find_behind.ensures c.take_earlier_of-least-in-loop-link.ensures)
    c.loop-link.invariant

pub returns : goal.returns
returns c = links_end c.args.members.now c.args.refs.now c.args.links.now c.loop-link.link-index c.loop-link.least c.loop-link.auto.link-index-end
    c.loop-link-test.false c.loop-link.invariant
