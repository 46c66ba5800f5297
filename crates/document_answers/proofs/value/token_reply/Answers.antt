use Rattle.std.proofs.Common.{subst}
use Rattle.std.proofs.lemmas.Result.{IfOk-weaker}
use Rattle.ml_trees.specs.View.{view_project}
use Rattle.value_at.specs.Value.{IsValueAt}
use Rattle.value_at.specs.declared.value.ValueAt.{ValueAt}
use Rattle.document_answers.specs.Value.{has, lacks}
use Rattle.document_answers.proofs.value.token_reply.Goals as goal

pub value_reply-requires-clause-value : goal.value_reply-requires-clause-value
value_reply-requires-clause-value c =
    subst (λ (v : ValueAt). IsValueAt (view_project c.args.around.read.now.project) c.args.place v) c.in-Value.is c.in_ok-found.ensures

pub returns-in-Value-clause-reply : goal.returns-in-Value-clause-reply
returns-in-Value-clause-reply c =
    IfOk-weaker c.value_reply.result _ _ (λ reply h.
    has c.in-Value.declared
    (subst (λ (v : ValueAt). IsValueAt (view_project c.args.around.read.now.project) c.args.place v) c.in-Value.is c.in_ok-found.ensures) h)
    c.value_reply.ensures.reply

pub returns-in_default-clause-reply : goal.returns-in_default-clause-reply
returns-in_default-clause-reply c =
    IfOk-weaker c.nothing_reply.result _ _ (λ reply h. lacks c.in_ok-found.found c.in_ok-found.ensures c.in_default.not-Value h)
    c.nothing_reply.ensures.reply
