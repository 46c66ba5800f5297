use Rattle.std.proofs.Common.{◌∙◌, sym}
use Rattle.explain.proofs.Scanning.{link_here}
use Rattle.explain.proofs.blurs.blurring_link.Goals as goal

pub returns-then-blurs_link : goal.returns-then-blurs_link
returns-then-blurs_link c =
    c.blur_of.ensures
    ∙ link_here c.args.links.now c.loop-link.link-index _ c.args.at _ c.loop-link-test.true (sym c.blurs_link.ensures ∙ c.if-blurs_link.true)
    c.loop-link.invariant
