use Rattle.std.proofs.Common.{List, ◌≤◌, All, ap, length, map, subst, sym, ◌∙◌}
use Rattle.rotor_base.specs.Limits.{max_file_bytes, max_sources}
use Rattle.refusal_words.specs.Cut.{AreCuts, view_cut}
use Rattle.refusal_words.specs.declared.cut.CutSource.{CutSource}
use Rattle.explain.specs.declared.ending.Ending.TheVariants.{Refused}
use Rattle.explain.specs.Refused.{refused_message}
use Rattle.explain.specs.Explanation.{explanation_of_message}
use Rattle.explain.proofs.Answered.{if_ok_more}
use Rattle.explain.proofs.Answering.{refusal_of_project, refusal_of_renaming}
use Rattle.explain.proofs.Cutting.{few_cuts, few_tokens}
use Rattle.explain.proofs.refused.explain_refusal.Goals as goal

pub returns-then-not-is_renaming : goal.returns-then-not-is_renaming
returns-then-not-is_renaming c =
    if_ok_more c.explain_project.result _ _ (λ explanation says.
    refusal_of_project c.args.files.now c.args.target.now c.args.name.now c.args.refusal.now explanation
    (sym c.is_renaming.ensures ∙ c.if-not-is_renaming.true) says) c.explain_project.ensures

pub refused_message-requires-clause-few : goal.refused_message-requires-clause-few
refused_message-requires-clause-few c =
    subst (λ (cs : List CutSource). length cs ≤ max_sources) (sym c.deref.ensures.value)
    (few_cuts c.entries.result.now c.in_ok-cuts.cuts.items max_sources c.in_ok-cuts.ensures c.entries.ensures.few)

pub refused_message-requires-clause-short : goal.refused_message-requires-clause-short
refused_message-requires-clause-short c =
    subst (λ (cs : List CutSource). All (λ cut. length cut.tokens.items ≤ max_file_bytes) cs) (sym c.deref.ensures.value)
    (few_tokens c.entries.result.now c.in_ok-cuts.cuts.items c.in_ok-cuts.ensures c.entries.ensures.small)

pub returns : goal.returns
returns c =
    let cuts = map view_cut c.in_ok-cuts.cuts.items in
    if_ok_more c.explain_by_message.result _ _ (λ explanation e.
    refusal_of_renaming c.args.files.now c.args.target.now c.args.name.now c.args.refusal.now cuts c.in_ok-around.around explanation
    (sym c.is_renaming.ensures ∙ c.if-not-is_renaming.false)
    (subst (λ ss. AreCuts ss cuts) c.entries.ensures.entries c.in_ok-cuts.ensures) c.in_ok-around.ensures
    (e
    ∙ ap (explanation_of_message Refused)
    (c.in_ok-message.ensures
    ∙ ap (λ (cs : List CutSource). refused_message (map view_cut cs) c.in_ok-around.around c.args.target.now c.args.name.now c.args.refusal.now)
    c.deref.ensures.value))) c.explain_by_message.ensures
