use Rattle.std.proofs.Common.{inl}
use Rattle.explain_at.proofs.Placing.{if_ok_as, unread}
use Rattle.explain_at.proofs.over.explain_at.Goals as goal

pub explain_rejected_folder-requires : goal.explain_rejected_folder-requires
explain_rejected_folder-requires c = unread c.args.files.now c.in-Err.why c.in-Err.ensures.refused

pub returns-in-Err : goal.returns-in-Err
returns-in-Err c = if_ok_as c.explain_rejected_folder.result _ _ (λ explanation h. inl h) c.explain_rejected_folder.ensures
