use Rattle.refusal_words.proofs.puns.suggest_words.Goals as goal

pub returns : goal.returns
returns c = rw (c.as_bytes.ensures.value, c.as_bytes-2.ensures.value, c.as_bytes-3.ensures.value, c.as_bytes-4.ensures.value) at c.join_words.ensures
