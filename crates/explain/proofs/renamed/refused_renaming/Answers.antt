use Rattle.std.proofs.Common.{sym, ◌∙◌}
use Rattle.explain.proofs.Answered.{if_ok_more}
use Rattle.explain.proofs.Answering.{renaming_refused}
use Rattle.explain.proofs.renamed.refused_renaming.Goals as goal

pub returns : goal.returns
returns c =
    if_ok_more c.explain_refusal.result _ _ (λ explanation says.
    renaming_refused c.args.files.now c.args.target.now c.args.name.now c.args.refusal.now explanation c.requires
    (sym c.is_memory.ensures ∙ c.if-is_memory.false) says) c.explain_refusal.ensures
