use Rattle.std.proofs.Common.{◌≡◌, ℕ, ◌+◌, List, get_or, sym, subst}
use Rattle.std.proofs.lemmas.List.{get_or_default}
use Rattle.std.specs.BTreeMap.{BTreeMap}
use Rattle.std.specs.Global.{Vec}
use Rattle.rotor_base.specs.declared.place.Place.{Place}
use Rattle.rotor_base.specs.declared.place.Link.{Link}
use Rattle.dependency_kernel.specs.Foot.{link_of}
use Rattle.dependency_kernel.proofs.Paths.{IsTableOf, table_same, table_more, joined_within, joined_all}
use Rattle.dependency_kernel.proofs.neighbors.neighbors_of.Goals as goal
use Rattle.dependency_kernel.proofs.neighbors.neighbors_of.Goals.{in-Some+in_ok-add_neighbor+in_ok-add_neighbor-2, in_default}

-- the link of the loop, as its contracts read it
abbrev link_at : List Link → ℕ → Link
link_at links n = get_or links n (link_of (record { file = 0; token = 0 }) (record { file = 0; token = 0 }))

pub loop-link-preserved : goal.loop-link-preserved
loop-link-preserved c =
    let is : link_at c.args.links.now c.loop-link.link-index ≡ get_or c.args.links.now c.loop-link.link-index
    (link_at c.args.links.now c.loop-link.link-index)
    = get_or_default c.args.links.now c.loop-link.link-index _ _ c.loop-link-test.true in
    let P : BTreeMap Place (Vec Place) → Type 0 = IsTableOf (c.loop-link.link-index + 1) c.args.links.now in
    elim c.match-both_ends.branch [
      | in-Some+in_ok-add_neighbor+in_ok-add_neighbor-2 w ↦
          subst P (sym w.neighbors-is)
          (table_more c.loop-link.link-index c.args.links.now (link_at c.args.links.now c.loop-link.link-index) c.loop-link-test.true is
          c.loop-link.neighbors w.add_neighbor.new.neighbors w.add_neighbor-in-Some.new.neighbors w.in-Some.item w.in-Some.source
          w.in-Some.ensures.ends
          (record { added = w.in_ok-add_neighbor.ensures.added; kept = w.in_ok-add_neighbor.ensures.kept; only = w.in_ok-add_neighbor.ensures.only })
          (record {
            added = w.in_ok-add_neighbor-2.ensures.added;
            kept = w.in_ok-add_neighbor-2.ensures.kept;
            only = w.in_ok-add_neighbor-2.ensures.only;
          })
          c.loop-link.invariant)
      | in_default w ↦
          subst P (sym w.neighbors-is)
          (table_same c.loop-link.link-index c.args.links.now (link_at c.args.links.now c.loop-link.link-index) c.loop-link-test.true is
          c.loop-link.neighbors w.in_default.ensures.others c.loop-link.invariant)
    ]

pub returns-clause-joined : goal.returns-clause-joined
returns-clause-joined c = λ a b h. joined_within c.loop-link.link-index c.args.links.now a b c.loop-link.auto.link-index-end
    (c.loop-link.invariant.0 a b h)

pub returns-clause-all : goal.returns-clause-all
returns-clause-all c = λ a b j. c.loop-link.invariant.1 a b (joined_all c.loop-link.link-index c.args.links.now a b c.loop-link-test.false j)
