use Rattle.std.proofs.Common.{List, ap, length, ◌∙◌, sym, All, ◌≤◌, subst}
use Rattle.refusal_words.specs.declared.cut.CutSource.{CutSource}
use Rattle.explain.proofs.Cutting.{few_tokens, same_count}
use Rattle.explain_at.proofs.over.explain_over.Goals as goal

pub explain_word-requires-clause-same : goal.explain_word-requires-clause-same
explain_word-requires-clause-same c =
    same_count c.entries-sources.result.now c.in_ok-cuts.cuts.items c.in_ok-cuts.ensures
    ∙ ap (λ (l : List CutSource). length l) (sym c.deref.ensures.value)

pub explain_word-requires-clause-small : goal.explain_word-requires-clause-small
explain_word-requires-clause-small c =
    subst (λ (l : List CutSource). All (λ cut. length cut.tokens.items ≤ 1048576) l) (sym c.deref.ensures.value)
    (few_tokens c.entries-sources.result.now c.in_ok-cuts.cuts.items c.in_ok-cuts.ensures c.entries-sources.ensures.small)
