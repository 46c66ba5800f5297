use Rattle.std.proofs.Common.{◌∙◌, ◌+◌, ap}
use Rattle.source_diff.proofs.Texts.{near_is}
use Rattle.source_diff.proofs.runs.is_shown.Goals as goal

pub returns : goal.returns
returns c =
    c.has_change.ensures
    ∙ near_is c.args.pairs.now c.args.line c.saturating_sub-from.result _ c.saturating_sub-from.ensures (ap (λ n. c.args.line + n) c.min.ensures)
    c.requires
