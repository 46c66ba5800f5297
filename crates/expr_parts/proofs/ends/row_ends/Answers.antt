use Rattle.std.proofs.Common.{not, sym, ap, ◌∙◌}
use Rattle.ml_trees.specs.View.{view}
use Rattle.expr_reading.specs.ExprReading.{no_form}
use Rattle.expr_parts.proofs.Edges.{last_row, last_none}
use Rattle.expr_parts.proofs.ends.row_ends.Goals as goal

pub returns-in-Some : goal.returns-in-Some
returns-in-Some c = ap not c.on_edge.ensures
    ∙ ap no_form (sym (last_row (view c.args.first.now) c.args.rest.now c.in-Some.expr.now (sym c.in-Some.ensures.value)))

pub returns-in-None : goal.returns-in-None
returns-in-None c = ap not c.on_edge-in-None.ensures
    ∙ ap no_form (sym (last_none (view c.args.first.now) c.args.rest.now (sym c.in-None.ensures.value)))
