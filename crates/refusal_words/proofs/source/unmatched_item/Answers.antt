use Rattle.refusal_words.proofs.source.unmatched_item.Goals as goal

pub returns : goal.returns
returns c = rw (c.in_ok-text.ensures, c.word_at.ensures) at c.explain_with_help.ensures
