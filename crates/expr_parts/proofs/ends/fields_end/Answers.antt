use Rattle.std.proofs.Common.{sym, ap, ◌∙◌}
use Rattle.ml_trees.specs.View.{view_field}
use Rattle.expr_reading.specs.ExprReading.{ends_field}
use Rattle.expr_parts.proofs.Edges.{last_fields, no_fields}
use Rattle.expr_parts.proofs.ends.fields_end.Goals as goal

pub returns-in-Some : goal.returns-in-Some
returns-in-Some c = c.ends_field.ensures
    ∙ ap ends_field (sym (last_fields (view_field c.args.first.now) c.args.rest.now c.in-Some.field.now (sym c.in-Some.ensures.value)))

pub returns-in-None : goal.returns-in-None
returns-in-None c = c.ends_field-in-None.ensures
    ∙ ap ends_field (sym (no_fields (view_field c.args.first.now) c.args.rest.now (sym c.in-None.ensures.value)))
