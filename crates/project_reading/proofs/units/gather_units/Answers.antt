use Rattle.std.proofs.Common.{◌≡◌, ap, sym, ◌∙◌, get_or, length, arith}
use Rattle.rotor_base.specs.Stem.{is_body_name}
use Rattle.rotor_base.specs.Unit.{unit_of}
use Rattle.unit_order.specs.Positions.{views}
use Rattle.project_reading.proofs.Gathering.{one_less}
use Rattle.project_reading.proofs.units.gather_units.Goals as goal

pub loop-tree-preserved : goal.loop-tree-preserved
loop-tree-preserved c =
    let s = c.index-sources-len.result in
    let at : c.len.result ≡ length c.pop.new.self.items = omega arith in
    let is : s ≡ get_or c.args.sources.now (length c.pop.new.self.items) s = c.index-sources-len.is ∙ ap (λ k. get_or c.args.sources.now k s) at in
    let named : c.as_bytes.result.now ≡ s.name = c.as_bytes.ensures.value ∙ c.as_str.ensures ∙ ap (λ x. x.name) (sym c.index-sources-len.is) in
    one_less c.args.sources.now c.args.trees.items c.loop-tree.left.items c.pop.new.self.items c.in-Some.tree (views c.loop-tree.units.items)
    (views c.add_tree.new.units.items) s c.in_ok-unit.unit.is_body c.in_ok-unit.unit.name
    c.loop-tree.invariant c.in-Some.ensures.items is (c.in_ok-unit.ensures.kind ∙ ap is_body_name named)
    (c.in_ok-unit.ensures.name ∙ ap unit_of named) c.in_ok-add_tree.ensures
