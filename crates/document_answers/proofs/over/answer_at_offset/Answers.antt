use Rattle.std.proofs.Common.{◌∙◌, sym}
use Rattle.std.proofs.lemmas.Result.{IfOk-weaker}
use Rattle.document_answers.specs.Over.{at_token, between, nameless}
use Rattle.document_answers.proofs.Cutting.{token_there}
use Rattle.document_answers.proofs.over.answer_at_offset.Goals as goal

pub returns-then-is_nameless-clause-reply : goal.returns-then-is_nameless-clause-reply
returns-then-is_nameless-clause-reply c = λ here at.
    IfOk-weaker c.bad_reply.result _ _ (λ reply h.
    nameless c.args.offset at (sym c.is_nameless.ensures ∙ c.if-is_nameless.true) h) c.bad_reply.ensures.reply

pub returns-in-Some-clause-reply : goal.returns-in-Some-clause-reply
returns-in-Some-clause-reply c = λ here at.
    IfOk-weaker c.token_reply.result _ _ (λ reply h.
    at_token c.args.offset c.in-Some.token at (sym c.is_nameless.ensures ∙ c.if-is_nameless.false)
    (token_there c.args.offset c.deref.result.now c.args.cut.now.tokens.items c.token_at.result _ c.deref.ensures.value c.token_at.ensures
    c.in-Some.is) h) c.token_reply.ensures.reply

pub returns-in-None-clause-reply : goal.returns-in-None-clause-reply
returns-in-None-clause-reply c = λ here at.
    IfOk-weaker c.nothing_reply.result _ _ (λ reply h.
    between c.args.offset at (sym c.is_nameless.ensures ∙ c.if-is_nameless.false)
    (token_there c.args.offset c.deref.result.now c.args.cut.now.tokens.items c.token_at.result _ c.deref.ensures.value c.token_at.ensures
    c.in-None.is) h) c.nothing_reply.ensures.reply
