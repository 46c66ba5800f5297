use Rattle.std.proofs.Common.{◌∙◌, ap, option_map}
use Rattle.explain_recover.proofs.Due.{due_said}
use Rattle.explain_recover.proofs.recovery.explain_recover.Goals as goal

pub returns-in_ok-explain_writes-in-Ok-Some-clause-said : goal.returns-in_ok-explain_writes-in-Ok-Some-clause-said
returns-in_ok-explain_writes-in-Ok-Some-clause-said g c =
    due_said (g.T.Tree.content c.args.tree.now) _ c.in-Ok-Some.writes.items c.in_ok-explain_writes-in-Ok-Some.field-0
    (ap (option_map (λ writes. writes.items)) c.in-Ok-Some.field-0-is)
    c.in-Ok-Some.ensures.due (λ files e. c.in_ok-explain_writes-in-Ok-Some.ensures files (c.deref.ensures.value ∙ e))
