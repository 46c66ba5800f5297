use Rattle.rotor_base.proofs.SpaceCuts.{if_none}
use Rattle.project_load.proofs.ListWords.{no_file, no_source}
use Rattle.project_load.proofs.entries.entry_in.Goals as goal

pub returns-in_err-source-2-clause-none : goal.returns-in_err-source-2-clause-none
returns-in_err-source-2-clause-none c =
    if_none c.from_residual-in_err-source-2.result _ (no_source c.args.folder.now _ _ _ c.in_ok-source.ensures.found c.in_err-source-2.ensures.none)

pub returns-in_err-file-clause-none : goal.returns-in_err-file-clause-none
returns-in_err-file-clause-none c =
    if_none c.from_residual-in_err-file.result _ (no_file c.args.folder.now _ _ _ c.in_ok-source.ensures.found c.in_err-file.ensures.none)
