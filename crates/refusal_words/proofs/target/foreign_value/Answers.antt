use Rattle.refusal_words.proofs.target.foreign_value.Goals as goal

pub returns : goal.returns
returns c = rw (c.in_ok-text.ensures, c.word_at.ensures) at c.explain_with_help.ensures
