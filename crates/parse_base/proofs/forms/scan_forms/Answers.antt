use Rattle.std.proofs.Common.{◌+◌}
use Rattle.parse_base.proofs.FormSteps.{form_next, no_form_there}
use Rattle.parse_base.proofs.forms.scan_forms.Goals as goal

pub loop-at-preserved : goal.loop-at-preserved
loop-at-preserved c = form_next (c.loop-at.at + 1) c.args.tokens.now c.loop-at.at _ c.loop-at-test.true
    (no_form_there c.args.tokens.now c.loop-at.at c.in_default.ensures) c.loop-at.invariant
