use Rattle.std.proofs.Common.{◌∙◌, ap}
use Rattle.serde_json.specs.View.{view}
use Rattle.query_failures.specs.Sentence.{message_sentence}
use Rattle.query_failures.proofs.Failing.{noted_as}
use Rattle.query_failures.proofs.renaming.valueless_failure.Goals as goal

pub returns : goal.returns
returns c =
    noted_as c.as_slice.result.now _ (view c.in_ok-note.note) _ c.noted_failure.result
    (c.as_slice.ensures ∙ c.in_ok-text.ensures ∙ ap message_sentence c.in_ok-message.ensures) c.in_ok-note.ensures.data c.noted_failure.ensures
