use Rattle.std.proofs.Common.{◌<◌, ◌+◌, length, refl, arith}
use Rattle.token_reading.specs.Tokens.{from}
use Rattle.ml_trees.proofs.Variants.{at_param_types}
use Rattle.expr_forms.proofs.Lists.{types_some}
use Rattle.expr_forms.proofs.readers.Forms.types_end.Goals as goal

pub returns : goal.returns
returns g c =
    let d = c.args.self.now.grammar.depth in
    let some : 0 < length c.args.names.items = omega (arith, c.len.ensures, c.if-len-eq0.false) in
    rw (
      types_some d (c.args.start + 1) c.args.names.items (from c.args.tokens.now c.args.at) some,
      c.in_ok-after.ensures,
      at_param_types c.number-open.result c.args.names,
      c.number-open.ensures,
    ) refl
