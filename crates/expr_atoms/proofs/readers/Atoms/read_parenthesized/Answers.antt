use Rattle.std.proofs.Common.{◌≡◌, ◌+◌, None, Some, sym, ap, ◌∙◌}
use Rattle.ml_trees.specs.Tree as pure
use Rattle.token_reading.proofs.Stepping.{some_is}
use Rattle.ml_trees.specs.View.{view_name}
use Rattle.token_reading.specs.Pieces.{operator_at}
use Rattle.token_reading.specs.Tokens.{from}
use Rattle.expr_reading.specs.ExprReading.{read_expr}
use Rattle.expr_atoms.proofs.Lone.{paren_operator, paren_other}
use Rattle.expr_atoms.proofs.readers.Atoms.read_parenthesized.Goals as goal

pub returns-in-Err-Syntax : goal.returns-in-Err-Syntax
returns-in-Err-Syntax g c =
    let d = c.args.self.now.grammar.depth in
    let here = from c.args.tokens.now (c.args.at + 1) in
    let failed : operator_at (c.args.at + 1) here ≡ None = rw c.in-Err-Syntax.field-0-is at c.in-Err-Syntax.ensures in
    rw (paren_other (read_expr d) d (c.args.at + 1) here (sym c.has_fixed.ensures.value ∙ c.if-has_fixed.false) failed) c.read_inner.ensures

pub returns-in_ok-operator_value-in-Ok : goal.returns-in_ok-operator_value-in-Ok
returns-in_ok-operator_value-in-Ok g c =
    let d = c.args.self.now.grammar.depth in
    let after = from c.args.tokens.now c.in-Ok.after in
    paren_operator (read_expr d) d (c.args.at + 1) (from c.args.tokens.now (c.args.at + 1)) (view_name c.in-Ok.name) after c.in-Ok.ensures
    ∙ ap (λ (e : pure.Expr). Some (e, after)) (some_is c.in_ok-operator_value-in-Ok.ensures)
