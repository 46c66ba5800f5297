use Rattle.std.proofs.Common.{◌≡◌, ◌<◌, ◌∙◌, ℕ, List, Option, None, Some, ap, length, string_bytes, subst, sym}
use Rattle.std.proofs.lemmas.Result.{IfOk-weaker}
use Rattle.report.specs.Pieces.{Word}
use Rattle.requests.specs.Asked.{query_words}
use Rattle.rename_model.specs.Target.{number_of}
use Rattle.rotor_base.specs.declared.source.SourceFile.{SourceFile}
use Rattle.document_answers.specs.Over.{lacking}
use Rattle.document_answers.specs.Refused.{IsRefusedAs, lacking_text}
use Rattle.document_answers.proofs.over.answer_over_files.Goals as goal

-- the number that is found is that of the name among the files
found_among : (sources entries : List SourceFile) (bytes name : Word) (found given : Option ℕ) → sources ≡ entries → bytes ≡ name
    → found ≡ number_of sources bytes → found ≡ given → number_of entries name ≡ given
found_among sources entries bytes name found given same is number e =
    ap (λ (w : Word). number_of entries w) (sym is) ∙ ap (λ (s : List SourceFile). number_of s bytes) (sym same) ∙ sym number ∙ e

pub answer_over_source-requires-clause-number : goal.answer_over_source-requires-clause-number
answer_over_source-requires-clause-number c =
    found_among c.entries.result.now c.args.files.entries c.as_bytes.result.now (string_bytes c.args.asked.file.now.name) c.number_of.result
    (Some c.in-Some.number) c.entries.ensures.entries c.as_bytes.ensures.value c.number_of.ensures.found c.in-Some.is

pub answer_over_source-requires-clause-within : goal.answer_over_source-requires-clause-within
answer_over_source-requires-clause-within c =
    subst (λ (s : List SourceFile). c.in-Some.number < length s) c.entries.ensures.entries c.in-Some.ensures.within

pub returns-in-None-clause-reply : goal.returns-in-None-clause-reply
returns-in-None-clause-reply c =
    IfOk-weaker c.reply_without_source.result _ _ (λ reply h.
    lacking
    (found_among c.entries.result.now c.args.files.entries c.as_bytes.result.now (string_bytes c.args.asked.file.now.name) c.number_of.result None
    c.entries.ensures.entries c.as_bytes.ensures.value c.number_of.ensures.found c.in-None.is)
    (subst (λ (w : Word). IsRefusedAs (query_words c.args.asked.query) (lacking_text w) reply) c.as_bytes-in-None.ensures.value h))
    c.reply_without_source.ensures.reply
