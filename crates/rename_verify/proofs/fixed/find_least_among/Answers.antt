use Rattle.std.proofs.Common.{◌∙◌, ap, cond}
use Rattle.std.specs.BTreeSet.{contains}
use Rattle.rotor_base.specs.Place.{place_cmp}
use Rattle.binding_model.specs.Facts.{earlier}
use Rattle.rename_verify.specs.Changed.{Changed}
use Rattle.rename_verify.proofs.Least.{all, step}
use Rattle.rename_verify.proofs.fixed.find_least_among.Goals as goal

pub loop-change-preserved : goal.loop-change-preserved
loop-change-preserved c =
    let fixed = c.args.fixed.now in
    let best = c.loop-change.least in
    step fixed c.args.changes.now c.loop-change.change-index c.change-item.result best c.loop-change-test.true c.loop-change.invariant
    c.take_fixed-least.result
    (c.take_fixed-least.ensures ∙ ap (λ (x : Changed). cond (contains place_cmp fixed x.0) (earlier best x.0) best) c.change-item.is)

pub returns : goal.returns
returns c = all c.args.fixed.now c.args.changes.now c.loop-change.change-index c.loop-change.least c.loop-change.auto.change-index-end
    c.loop-change-test.false c.loop-change.invariant
