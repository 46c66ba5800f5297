use Rattle.std.proofs.Common.{List, ◌≤◌, All, ap, length, map, subst, sym, ◌∙◌}
use Rattle.rotor_base.specs.Limits.{max_file_bytes}
use Rattle.refusal_words.specs.Cut.{AreCuts, view_cut}
use Rattle.refusal_words.specs.declared.cut.CutSource.{CutSource}
use Rattle.refusal_places.specs.Placed.{SaysPlaced}
use Rattle.explain.specs.declared.ending.Ending.{Ending}
use Rattle.explain.specs.Sources.{SaysSources}
use Rattle.explain.specs.Explanation.{explanation_of_message, explanation_of_messages}
use Rattle.explain.proofs.Answered.{if_ok_more}
use Rattle.explain.proofs.Cutting.{few_tokens}
use Rattle.explain.proofs.Answering.{project_unread, project_whole}
use Rattle.explain.proofs.refused.explain_project.Goals as goal

pub returns-then-is_unread : goal.returns-then-is_unread
returns-then-is_unread c =
    project_unread c.args.files.now c.args.refusal.now c.in_ok-messages.messages c.explain_by_messages.result
    (sym c.is_unread.ensures ∙ c.if-is_unread.true)
    (subst (λ ss. SaysSources ss c.in_ok-messages.messages) c.entries.ensures.entries c.in_ok-messages.ensures)
    (c.explain_by_messages.ensures ∙ ap (λ (e : Ending). explanation_of_messages e c.in_ok-messages.messages) c.ending_of-ending.ensures)

pub placed_message-requires : goal.placed_message-requires
placed_message-requires c =
    subst (λ (cs : List CutSource). All (λ cut. length cut.tokens.items ≤ max_file_bytes) cs) (sym c.deref.ensures.value)
    (few_tokens c.entries-2.result.now c.in_ok-cuts.cuts.items c.in_ok-cuts.ensures c.entries-2.ensures.small)

pub returns : goal.returns
returns c =
    let cuts = map view_cut c.in_ok-cuts.cuts.items in
    if_ok_more c.explain_by_message.result _ _ (λ explanation e.
    project_whole c.args.files.now c.args.refusal.now cuts c.in_ok-message.message explanation (sym c.is_unread.ensures ∙ c.if-is_unread.false)
    (subst (λ ss. AreCuts ss cuts) c.entries-2.ensures.entries c.in_ok-cuts.ensures)
    (subst (λ (cs : List CutSource). SaysPlaced (map view_cut cs) c.args.refusal.now c.in_ok-message.message) c.deref.ensures.value
    c.in_ok-message.ensures)
    (e ∙ ap (λ (x : Ending). explanation_of_message x c.in_ok-message.message) c.ending_of-ending.ensures)) c.explain_by_message.ensures
