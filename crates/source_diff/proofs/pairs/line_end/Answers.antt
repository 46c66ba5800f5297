use Rattle.std.proofs.Common.{sym, ◌∙◌}
use Rattle.rotor_base.proofs.LineCuts.{no_feed}
use Rattle.source_diff.proofs.pairs.line_end.Goals as goal

pub returns-in-None-clause-at : goal.returns-in-None-clause-at
returns-in-None-clause-at c = no_feed _ (sym c.first_feed.ensures ∙ c.in-None.is)
