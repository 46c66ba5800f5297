-- What is looked for on the right edge of an expression (own).
use Rattle.std.specs.Prelude.{Bool}
use Rattle.ml_trees.specs.Tree.{Expr}
use Rattle.ml_trees.specs.WellFormed.{is_form, is_if, is_open_if, has_cases}
use Rattle.expr_parts.specs.declared.edge.Edge.{Edge}
use Rattle.expr_parts.specs.declared.edge.Edge.TheVariants as edge

abbrev pub test_of : Edge → Expr → Bool
test_of edge.Form = is_form
test_of edge.If = is_if
test_of edge.OpenIf = is_open_if
test_of edge.Cases = has_cases
