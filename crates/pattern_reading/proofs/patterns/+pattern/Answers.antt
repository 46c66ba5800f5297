use Rattle.std.proofs.Common.{arith}
use Rattle.token_reading.specs.PatReading.{read_pat}
use Rattle.token_reading.specs.Tokens.{from}
use Rattle.token_reading.proofs.Turns.{deeper}
use Rattle.pattern_reading.proofs.patterns.+pattern.Goals as goal

pub returns : goal.returns
unfolding read_pat
returns t c = rw (deeper (λ n. read_pat n (from c.args.tokens.now c.args.at)) c.args.depth (omega arith)) c.alias.ensures
