use Rattle.std.proofs.Common.{inl}
use Rattle.explain.proofs.Answered.{if_ok_more}
use Rattle.explain.proofs.renamed.explain_rename.Goals as goal

pub returns-in-Err : goal.returns-in-Err
returns-in-Err c = if_ok_more c.refused_renaming.result _ _ (λ explanation says. says c.args.for_tools) c.refused_renaming.ensures

pub returns-in-Ok-rename_in : goal.returns-in-Ok-rename_in
returns-in-Ok-rename_in c =
    if_ok_more c.explain_done_renaming.result _ _ (λ explanation says. inl (c.in-Ok-rename_in.done, c.in-Ok-rename_in.ensures.done, says))
    c.explain_done_renaming.ensures

pub returns : goal.returns
returns c =
    if_ok_more c.refused_renaming-in-Err-rename_in.result _ _ (λ explanation says. says c.args.for_tools) c.refused_renaming-in-Err-rename_in.ensures
