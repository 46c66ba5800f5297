use Rattle.std.proofs.Common.{◌≡◌, ◌+◌, ◌∙◌, sym, ap, arith}
use Rattle.ml_trees.specs.declared.fixed.Fixed.TheVariants as key
use Rattle.token_reading.specs.Gives.{starts}
use Rattle.token_reading.specs.Tokens.{from}
use Rattle.token_reading.proofs.Operators.{operator_unclosed}
use Rattle.token_reading.proofs.Places.{from_next}
use Rattle.token_reading.proofs.names.operator.Goals as goal

pub returns-then-not-has_fixed : goal.returns-then-not-has_fixed
returns-then-not-has_fixed c =
    let ts = c.args.tokens.now in
    let e : c.args.at + 2 ≡ c.args.at + 1 + 1 = omega arith in
    let x = from_next ts (c.args.at + 1) (c.is_operator.ensures.within c.if-not-is_operator.false) in
    operator_unclosed (c.args.at + 1) (from ts (c.args.at + 1)) (from ts (c.args.at + 1 + 1)) x.0 x.1
    (sym (ap (λ k. starts key.RightParen (from ts k)) e) ∙ sym c.has_fixed.ensures.value ∙ c.if-not-has_fixed.true)
