use Rattle.std.proofs.Common.{◌∙◌}
use Rattle.module_parts.specs.Arrows.{read_so}
use Rattle.module_parts.proofs.BeforeArrows.{taken_back}
use Rattle.module_parts.proofs.arrows.with_arrows.Goals as goal

pub loop-domain-preserved : goal.loop-domain-preserved
loop-domain-preserved c end =
    c.loop-domain.invariant end ∙ taken_back end c.loop-domain.before.items c.pop.new.self.items c.in-Some.domain (read_so end c.loop-domain.whole)
    (read_so end c.in_ok-whole.whole) c.in-Some.ensures.items (c.in_ok-whole.ensures end)
