use Rattle.std.proofs.Common.{◌∙◌, ℕ, List, Option, IfNone, IfSome, ap, string_bytes, subst, sym}
use Rattle.std.proofs.lemmas.Result.{IfOk-weaker}
use Rattle.rotor_base.specs.Stem.{is_source_name}
use Rattle.document_uris.specs.Uris.{IsFile}
use Rattle.document_uris.specs.declared.place.FilePlace.{FilePlace}
use Rattle.document_answers.specs.Replies.{no_file, no_source, source}
use Rattle.document_answers.proofs.answers.DocumentAnswersAnswers.answer.Goals as goal

pub returns-in-None-clause-reply : goal.returns-in-None-clause-reply
returns-in-None-clause-reply g c =
    IfOk-weaker c.no_source_reply.result _ _ (λ reply h.
    no_file (subst (λ (o : Option FilePlace). IfNone o ((folder name : List ℕ) → ¬ (IsFile c.args.spot.uri.now folder name))) c.in-None.is
    c.in_ok-found.ensures.none) h) c.no_source_reply.ensures.reply

pub returns-then-is_source-clause-reply : goal.returns-then-is_source-clause-reply
returns-then-is_source-clause-reply g c =
    let is = subst (λ (o : Option FilePlace). IfSome o (λ place. IsFile c.args.spot.uri.now (string_bytes place.folder) (string_bytes place.name)))
    c.in-Some.is c.in_ok-found.ensures.file in
    IfOk-weaker c.answer_in_folder.result _ _ (λ reply h. source (string_bytes c.in-Some.file.folder) (string_bytes c.in-Some.file.name) is
    (sym (c.is_source.ensures ∙ ap is_source_name c.as_bytes.ensures.value) ∙ c.if-is_source.true) h)
    c.answer_in_folder.ensures.reply

pub returns-clause-reply : goal.returns-clause-reply
returns-clause-reply g c =
    let is = subst (λ (o : Option FilePlace). IfSome o (λ place. IsFile c.args.spot.uri.now (string_bytes place.folder) (string_bytes place.name)))
    c.in-Some.is c.in_ok-found.ensures.file in
    IfOk-weaker c.no_source_reply-else-is_source.result _ _ (λ reply h.
    no_source (string_bytes c.in-Some.file.folder) (string_bytes c.in-Some.file.name) is
    (sym (c.is_source.ensures ∙ ap is_source_name c.as_bytes.ensures.value) ∙ c.if-is_source.false) h)
    c.no_source_reply-else-is_source.ensures.reply
