use Rattle.std.proofs.Common.{◌-◌, map}
use Rattle.ml_trees.specs.Tree as pure
use Rattle.ml_trees.specs.View.{view_param}
use Rattle.token_reading.specs.Steps.{many, always}
use Rattle.token_reading.specs.Tokens.{from}
use Rattle.expr_reading.specs.ExprReading as r
use Rattle.expr_reading.specs.ExprReading.{read_expr}
use Rattle.token_reading.proofs.Turns.{Left}
use Rattle.expr_forms.proofs.readers.Forms.more_params.Given as goal

abbrev pub invariant-loop-turn : goal.invariant-loop-turn
invariant-loop-turn g l =
    let part = r.param (read_expr l.self.grammar.depth) l.self.grammar.depth in
    Left pure.no_param pure.more_param always part (map view_param l.found.items) (l._turn-end - l._turn) (from l.tokens l.at)
    (many pure.no_param pure.more_param always part l.self.grammar.depth (from l.tokens l.fn.at))
