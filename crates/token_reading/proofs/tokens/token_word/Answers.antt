use Rattle.token_reading.proofs.Places.{word_there}
use Rattle.token_reading.proofs.tokens.token_word.Goals as goal

pub returns : goal.returns
returns c =
    rw (← c.as_slice.ensures) (word_there c.as_slice.result.now c.args.at _ c.number.result c.in_ok-new.field-0
    (rw c.as_slice.ensures c.requires.within) c.number.ensures c.in_ok-new.ensures)
