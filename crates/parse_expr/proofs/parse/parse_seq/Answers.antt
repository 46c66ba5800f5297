use Rattle.std.proofs.Common.{Some, ap, sym, ◌∙◌}
use Rattle.ml_trees.specs.declared.expression.Expr.{Expr}
use Rattle.token_reading.specs.Tokens.{from}
use Rattle.ml_trees.specs.View.{view}
use Rattle.parse_expr.proofs.Ends.{longest_expr, no_expr}
use Rattle.parse_expr.proofs.parse.parse_seq.Goals as goal

pub returns-else-not-fits-clause-found : goal.returns-else-not-fits-clause-found
returns-else-not-fits-clause-found c = longest_expr c.args.tokens.now c.args.start c.in-Ok.end c.min.result (view c.into_inner.result) c.min.ensures
    (c.in-Ok.ensures ∙ ap (λ (t : Expr). Some (view t, from c.args.tokens.now c.in-Ok.end)) (sym c.into_inner.ensures))

pub returns-in-Err-Syntax-clause-none : goal.returns-in-Err-Syntax-clause-none
returns-in-Err-Syntax-clause-none c = λ _. no_expr c.args.tokens.now c.args.start (rw c.in-Err-Syntax.field-0-is at c.in-Err-Syntax.ensures)
