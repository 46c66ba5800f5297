use Rattle.std.proofs.Common.{◌≡◌, ℕ, ◌+◌, List, get_or, sym, subst}
use Rattle.std.proofs.lemmas.List.{get_or_default}
use Rattle.std.specs.BTreeSet.{BTreeSet}
use Rattle.rotor_base.specs.declared.place.Place.{Place}
use Rattle.rotor_base.specs.declared.place.Link.{Link}
use Rattle.dependency_kernel.specs.Foot.{link_of}
use Rattle.dependency_kernel.proofs.Fixed.{IsFixedSet, fixed_begin, fixed_same, fixed_add, fixed_sound, fixed_whole}
use Rattle.dependency_kernel.proofs.outside.find_fixed.Goals as goal
use Rattle.dependency_kernel.proofs.outside.find_fixed.Goals.{in-Some+in_ok-insert, in_default}

-- the link of the loop, as its contracts read it
abbrev link_at : List Link → ℕ → Link
link_at links n = get_or links n (link_of (record { file = 0; token = 0 }) (record { file = 0; token = 0 }))

pub loop-link-init : goal.loop-link-init
loop-link-init c = fixed_begin c.args.links.now c.new-fixed.result c.new-fixed.ensures.empty

pub loop-link-preserved : goal.loop-link-preserved
loop-link-preserved c =
    let is : link_at c.args.links.now c.loop-link.link-index ≡ get_or c.args.links.now c.loop-link.link-index
    (link_at c.args.links.now c.loop-link.link-index)
    = get_or_default c.args.links.now c.loop-link.link-index _ _ c.loop-link-test.true in
    let P : BTreeSet Place → Type 0 = IsFixedSet (c.loop-link.link-index + 1) c.args.links.now in
    elim c.match-fixed_end.branch [
      | in-Some+in_ok-insert w ↦
          subst P (sym w.fixed-is)
          (fixed_add c.loop-link.link-index c.args.links.now (link_at c.args.links.now c.loop-link.link-index) c.loop-link-test.true is
          c.loop-link.fixed w.insert.new.self w.in-Some.place w.in-Some.ensures.fixed w.in_ok-insert.ensures.updates.0 c.loop-link.invariant)
      | in_default w ↦
          subst P (sym w.fixed-is)
          (fixed_same c.loop-link.link-index c.args.links.now (link_at c.args.links.now c.loop-link.link-index) c.loop-link-test.true is
          c.loop-link.fixed w.in_default.ensures.others c.loop-link.invariant)
    ]

pub returns-clause-fixed : goal.returns-clause-fixed
returns-clause-fixed c = fixed_sound c.loop-link.link-index c.args.links.now c.loop-link.fixed c.loop-link.auto.link-index-end c.loop-link.invariant

pub returns-clause-all : goal.returns-clause-all
returns-clause-all c = fixed_whole c.loop-link.link-index c.args.links.now c.loop-link.fixed c.loop-link-test.false c.loop-link.invariant
