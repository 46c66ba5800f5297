use Rattle.std.proofs.Common.{arith}
use Rattle.token_reading.specs.Tokens.{from}
use Rattle.token_reading.proofs.Turns.{deeper}
use Rattle.expr_reading.specs.ExprReading.{read_expr}
use Rattle.parse_expr.proofs.reading.+read_nested.Goals as goal

pub returns : goal.returns
unfolding read_expr
returns t c = rw (deeper (λ n. read_expr n c.args.wanted (from c.args.tokens.now c.args.at)) c.args.depth (omega arith))
    c.in_ok-tree.ensures
