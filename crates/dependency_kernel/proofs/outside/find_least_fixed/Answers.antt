use Rattle.std.proofs.Common.{ℕ, ◌∙◌, sym, List, get_or}
use Rattle.std.proofs.lemmas.List.{get_or_default}
use Rattle.rotor_base.specs.declared.place.Place.{Place}
use Rattle.dependency_kernel.proofs.Fixed.{none_more, first_is_least, none_is_fixed}
use Rattle.dependency_kernel.proofs.outside.find_least_fixed.Goals as goal

-- the place of the loop, as its contracts read it
abbrev place_at : List Place → ℕ → Place
place_at decls n = get_or decls n (record { file = 0; token = 0 })

pub returns-then-contains : goal.returns-then-contains
returns-then-contains c =
    first_is_least c.loop-place.place-index c.args.links.now c.args.decls.now c.in_ok-fixed.fixed (place_at c.args.decls.now c.loop-place.place-index)
    c.loop-place-test.true
    (get_or_default c.args.decls.now c.loop-place.place-index _ _ c.loop-place-test.true) (sym c.contains.ensures ∙ c.if-contains.true)
    c.requires c.in_ok-fixed.ensures.fixed c.in_ok-fixed.ensures.all c.loop-place.invariant

pub loop-place-preserved : goal.loop-place-preserved
loop-place-preserved c =
    none_more c.loop-place.place-index c.args.decls.now c.in_ok-fixed.fixed (place_at c.args.decls.now c.loop-place.place-index)
    c.loop-place-test.true
    (get_or_default c.args.decls.now c.loop-place.place-index _ _ c.loop-place-test.true) (sym c.contains.ensures ∙ c.if-contains.false)
    c.loop-place.invariant

pub returns : goal.returns
returns c = none_is_fixed c.loop-place.place-index c.args.links.now c.args.decls.now c.in_ok-fixed.fixed c.loop-place-test.false
    c.in_ok-fixed.ensures.all c.loop-place.invariant
