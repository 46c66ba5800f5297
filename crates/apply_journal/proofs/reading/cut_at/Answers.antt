use Rattle.std.proofs.Common.{◌∙◌, sym}
use Rattle.apply_journal.proofs.Readings.{is_without, is_cut, if_none}
use Rattle.apply_journal.proofs.reading.cut_at.Goals as goal

pub returns-in_err-at-clause-missing : goal.returns-in_err-at-clause-missing
returns-in_err-at-clause-missing c =
    if_none c.from_residual.result _ (is_without c.args.end c.args.bytes.now (sym c.position_of.ensures ∙ c.in_err-at.was))

pub returns-clause-found : goal.returns-clause-found
returns-clause-found c = is_cut _ _ _ _ _ c.in_ok-at.ensures c.split_at.ensures.front c.split_at.ensures.back
