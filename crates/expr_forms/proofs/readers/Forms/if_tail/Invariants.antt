use Rattle.std.proofs.Common.{◌-◌, map}
use Rattle.ml_trees.specs.Tree as pure
use Rattle.token_reading.specs.Steps.{many}
use Rattle.token_reading.specs.Tokens.{from}
use Rattle.expr_reading.specs.ExprReading as r
use Rattle.expr_reading.specs.ExprReading.{read_expr}
use Rattle.expr_parts.specs.Rows.{branch_of}
use Rattle.token_reading.proofs.Turns.{Left}
use Rattle.expr_forms.proofs.readers.Forms.if_tail.Given as goal

abbrev pub invariant-loop-turn : goal.invariant-loop-turn
invariant-loop-turn g l =
    let part = r.else_branch (read_expr l.self.grammar.depth) l.self.grammar.depth in
    Left pure.no_else r.cons_branch r.branch_ends part (map branch_of l.found.items) (l._turn-end - l._turn) (from l.tokens l.at)
    (many pure.no_else r.cons_branch r.branch_ends part l.self.grammar.depth (from l.tokens l.fn.at))
