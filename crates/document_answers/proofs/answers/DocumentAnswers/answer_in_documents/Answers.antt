use Rattle.std.proofs.lemmas.Result.{IfOk-weaker}
use Rattle.document_answers.specs.Replies.{unknown}
use Rattle.document_answers.proofs.answers.DocumentAnswers.answer_in_documents.Goals as goal

pub returns-in-Some-clause-reply : goal.returns-in-Some-clause-reply
returns-in-Some-clause-reply g c =
    IfOk-weaker c.unknown_reply.result _ _ (λ reply h. unknown c.in-Some.name.now c.in-Some.ensures.unknown h) c.unknown_reply.ensures.reply
