use Rattle.std.proofs.Common.{Some, ap}
use Rattle.token_reading.specs.PatReading.{simple_pat, read_pat}
use Rattle.token_reading.specs.Tokens.{from}
use Rattle.pattern_reading.proofs.Lone.{applied_other}
use Rattle.pattern_reading.proofs.patterns.Grammar.argument.Goals as goal

pub returns-in_default : goal.returns-in_default
returns-in_default g c =
    let d = c.args.self.now.depth in
    let here = from c.args.tokens.now c.args.at in
    ap Some (applied_other c.args.head here (simple_pat (read_pat d) d here) c.in_default.not-Constr c.in_default.not-Tag)
