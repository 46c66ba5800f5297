use Rattle.rotor_base.proofs.SpaceCuts.{if_none}
use Rattle.rename_batch.proofs.Words.{no_first, no_second}
use Rattle.rename_batch.proofs.reading.words_in.Goals as goal

pub returns-in_err-target-2-clause-none : goal.returns-in_err-target-2-clause-none
returns-in_err-target-2-clause-none c = if_none c.from_residual-in_err-target-2.result _
    (no_first _ _ _ c.in_ok-target.ensures.found c.in_err-target-2.ensures.none)

pub returns-in_err-name-clause-none : goal.returns-in_err-name-clause-none
returns-in_err-name-clause-none c = if_none c.from_residual-in_err-name.result _
    (no_second _ _ _ c.in_ok-target.ensures.found c.in_err-name.ensures.none)
