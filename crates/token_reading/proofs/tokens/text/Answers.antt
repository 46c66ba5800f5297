use Rattle.std.proofs.Common.{sym}
use Rattle.token_reading.proofs.Places.{text_there}
use Rattle.token_reading.proofs.tokens.text.Goals as goal

pub returns : goal.returns
returns c = rw c.as_slice.ensures (sym (text_there c.args.tokens.now c.args.at _ c.requires))
