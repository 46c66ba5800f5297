use Rattle.std.proofs.Common.{◌≡◌, ◌-◌, Some, map, ◌+◌, ◌*◌}
use Rattle.ml_trees.specs.Tree as pure
use Rattle.ml_trees.specs.View.{view}
use Rattle.token_reading.specs.Steps.{many}
use Rattle.token_reading.specs.Tokens.{from}
use Rattle.expr_reading.specs.ExprReading as r
use Rattle.expr_reading.specs.ExprReading.{read_expr}
use Rattle.token_reading.proofs.Turns.{Left}
use Rattle.parse_expr.proofs.Operands.{operand_of, comma_of}
use Rattle.parse_expr.proofs.readers.Readers.+tier.Given as goal

abbrev pub invariant-more_operands-loop-turn : goal.invariant-more_operands-loop-turn
invariant-more_operands-loop-turn g l =
    let part = r.operator_part (read_expr l.self.grammar.depth) l.self.grammar.depth (12 - l.tier)
    (r.tier (read_expr l.self.grammar.depth) l.self.grammar.depth l.tier) in
    Left pure.no_link r.cons_operand (λ x. x.2) part (map operand_of l.found.items) (l._turn-end - l._turn) (from l.tokens l.at)
    (many pure.no_link r.cons_operand (λ x. x.2) part l.self.grammar.depth (from l.tokens l.fn.at))

abbrev pub decreases-tier : goal.decreases-tier
decreases-tier g l = 4 * l.tier

abbrev pub decreases-next_operand : goal.decreases-next_operand
decreases-next_operand g l = 4 * l.tier + 1

abbrev pub decreases-more_operands : goal.decreases-more_operands
decreases-more_operands g l = 4 * l.tier + 2

abbrev pub invariant-more_in_tuple-loop-turn : goal.invariant-more_in_tuple-loop-turn
invariant-more_in_tuple-loop-turn g l =
    let part = r.operator_part (read_expr l.self.grammar.depth) l.self.grammar.depth 4
    (r.tier (read_expr l.self.grammar.depth) l.self.grammar.depth 8) in
    Left pure.no_link r.cons_operand (λ x. x.2) part (map comma_of l.found.items) (l._turn-end - l._turn) (from l.tokens l.at)
    (many pure.no_link r.cons_operand (λ x. x.2) part l.self.grammar.depth (from l.tokens l.fn.at))

abbrev pub invariant-tier-loop-above : goal.invariant-tier-loop-above
invariant-tier-loop-above g l = r.tier (read_expr l.self.grammar.depth) l.self.grammar.depth l.above (from l.tokens l.at) ≡ Some
    (view l.whole.value, from l.tokens l.end)

abbrev pub decreases-grow : goal.decreases-grow
decreases-grow g l = 4 * l.tier + 3

abbrev pub decreases-next_in_tuple : goal.decreases-next_in_tuple
decreases-next_in_tuple g l = 33

abbrev pub decreases-more_in_tuple : goal.decreases-more_in_tuple
decreases-more_in_tuple g l = 34
