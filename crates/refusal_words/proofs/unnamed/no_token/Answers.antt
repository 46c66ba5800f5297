use Rattle.refusal_words.proofs.unnamed.no_token.Goals as goal

pub returns : goal.returns
returns c = rw (c.as_slice.ensures, c.as_slice-2.ensures, c.in_ok-token.ensures, c.in_ok-count.ensures, c.from.ensures) at c.join_words.ensures
