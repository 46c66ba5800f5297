use Rattle.explain_main.proofs.Unloaded.{is_unloaded}
use Rattle.explain_main.proofs.explanation.explain_reason.Goals as goal

pub returns-clause-said : goal.returns-clause-said
returns-clause-said g c =
    is_unloaded (g.T.Tree.content c.args.tree.now) c.args.why.now c.in_ok-message.message c.in_ok-explain_unloaded.field-0
    c.in_ok-message.ensures.message c.in_ok-explain_unloaded.ensures
