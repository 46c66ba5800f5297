use Rattle.std.proofs.Common.{◌∙◌, sym}
use Rattle.explain.proofs.Scanning.{use_here}
use Rattle.explain.proofs.blurs.blurring_use.Goals as goal

pub returns-then-blurs_use : goal.returns-then-blurs_use
returns-then-blurs_use c =
    c.blur_of.ensures
    ∙ use_here c.args.refs.now c.loop-reference.reference-index _ c.args.at _ c.loop-reference-test.true
    (sym c.blurs_use.ensures ∙ c.if-blurs_use.true)
    c.loop-reference.invariant
