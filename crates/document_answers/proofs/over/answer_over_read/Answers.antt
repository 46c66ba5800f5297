use Rattle.std.proofs.Common.{map, string_bytes, subst}
use Rattle.std.proofs.lemmas.Result.{IfOk-weaker}
use Rattle.ml_trees.specs.View.{view_project}
use Rattle.open_documents.specs.Documents.{documents}
use Rattle.refusal_words.specs.Cut.{view_cut}
use Rattle.requests.specs.Asked.{query_words}
use Rattle.document_scene.specs.Scene.{Telling}
use Rattle.document_answers.specs.Over.{RepliesInSource, accepted, counting_of}
use Rattle.document_answers.proofs.Told.{same_telling}
use Rattle.document_answers.proofs.over.answer_over_read.Goals as goal

pub answer_at_position-requires-clause-known : goal.answer_at_position-requires-clause-known
answer_at_position-requires-clause-known c = record {
  kept = c.requires.kept;
  tokens = c.requires.tokens;
  sources = c.entries.ensures.entries;
  cut = c.requires.cut;
  small = c.requires.small;
}

pub returns-clause-reply : goal.returns-clause-reply
returns-clause-reply c =
    let files = c.args.files.now in
    let us = view_project c.args.read.now.project in
    let cuts = map view_cut c.args.cuts.now in
    IfOk-weaker c.answer_at_position.result _ _ (λ reply h.
    accepted us cuts c.args.number c.requires.number c.requires.kept.accepts c.requires.cut
    (subst (λ (t : Telling). RepliesInSource files us t c.args.asked.client.document_changes c.args.number c.args.asked.position
    (query_words c.args.asked.query) reply)
    (same_telling (string_bytes c.args.asked.file.now.folder) c.as_str.result.now (documents c.args.asked.held.now) c.entries.result.now files
    cuts (counting_of c.args.asked.client.encoding) c.counting_of.result c.as_str.ensures.value c.entries.ensures.entries c.counting_of.ensures) h))
    c.answer_at_position.ensures.reply
