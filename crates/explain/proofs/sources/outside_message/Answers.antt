use Rattle.std.proofs.Common.{List, ◌≤◌, All, length, map, subst, sym, ◌∙◌}
use Rattle.rotor_base.specs.Limits.{max_file_bytes}
use Rattle.refusal_words.specs.Cut.{AreCuts, view_cut}
use Rattle.refusal_words.specs.declared.cut.CutSource.{CutSource}
use Rattle.refusal_places.specs.Placed.{SaysPlaced}
use Rattle.explain.proofs.Answered.{if_ok_more}
use Rattle.explain.proofs.Cutting.{few_tokens}
use Rattle.explain.proofs.Saying.{source_outside}
use Rattle.explain.proofs.sources.outside_message.Goals as goal

pub placed_message-requires : goal.placed_message-requires
placed_message-requires c =
    subst (λ (cs : List CutSource). All (λ cut. length cut.tokens.items ≤ max_file_bytes) cs) (sym c.deref.ensures.value)
    (few_tokens c.entries.result.now c.in_ok-cuts.cuts.items c.in_ok-cuts.ensures c.entries.ensures.small)

pub returns : goal.returns
returns c =
    let cuts = map view_cut c.in_ok-cuts.cuts.items in
    if_ok_more c.placed_message.result _ _ (λ said e.
    source_outside c.args._source.now c.args.files.now c.args.refusal.now cuts said c.requires.alone c.requires.refused
    (sym c.is_memory.ensures ∙ c.if-is_memory.false) (subst (λ ss. AreCuts ss cuts) c.entries.ensures.entries c.in_ok-cuts.ensures)
    (subst (λ (cs : List CutSource). SaysPlaced (map view_cut cs) c.args.refusal.now said) c.deref.ensures.value e)) c.placed_message.ensures
