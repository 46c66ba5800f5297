use Rattle.respelled_tokens.proofs.TokensKept.{respelling_keeps_the_reading}
use Rattle.respelled_tokens.proofs.laws.respelling_keeps_the_reading.Goals as goal

pub returns : goal.returns
returns c = record { reading = respelling_keeps_the_reading }
