use Rattle.std.proofs.Common.{◌-◌, ◌+◌, ◌*◌, map}
use Rattle.ml_trees.specs.Tree as pure
use Rattle.token_reading.specs.Steps.{many, always}
use Rattle.token_reading.specs.Tokens.{from}
use Rattle.expr_reading.specs.ExprReading as r
use Rattle.expr_reading.specs.ExprReading.{read_local}
use Rattle.expr_parts.specs.Rows.{local_of}
use Rattle.token_reading.proofs.Turns.{Left}
use Rattle.expr_parts.proofs.local.+local.Given as goal

abbrev pub invariant-local_arguments-loop-turn : goal.invariant-local_arguments-loop-turn
invariant-local_arguments-loop-turn l =
    let part = r.local_part (read_local l.depth) in
    Left pure.no_local r.cons_local always part (map local_of l.found.items) (l.depth - l._turn) (from l.tokens l.at)
    (many pure.no_local r.cons_local always part l.depth (from l.tokens l.fn.at))

abbrev pub decreases-local_module : goal.decreases-local_module
decreases-local_module l = 3 * l.depth

abbrev pub decreases-local_argument : goal.decreases-local_argument
decreases-local_argument l = 3 * l.depth + 1

abbrev pub decreases-local_arguments : goal.decreases-local_arguments
decreases-local_arguments l = 3 * l.depth + 2
