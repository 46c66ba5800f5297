use Rattle.std.proofs.Common.{◌-◌, map}
use Rattle.ml_trees.specs.Tree as pure
use Rattle.ml_trees.specs.View.{view_binding}
use Rattle.token_reading.specs.Steps.{many, always}
use Rattle.token_reading.specs.Tokens.{from}
use Rattle.expr_reading.specs.ExprReading as r
use Rattle.expr_reading.specs.ExprReading.{read_expr}
use Rattle.token_reading.proofs.Turns.{Left}
use Rattle.expr_forms.proofs.readers.Forms.more_bindings.Given as goal

abbrev pub invariant-loop-turn : goal.invariant-loop-turn
invariant-loop-turn g l =
    let part = r.next_binding (read_expr l.self.grammar.depth) l.self.grammar.depth in
    Left pure.no_binding pure.more_binding always part (map view_binding l.found.items) (l._turn-end - l._turn) (from l.tokens l.at)
    (many pure.no_binding pure.more_binding always part l.self.grammar.depth (from l.tokens l.fn.at))
