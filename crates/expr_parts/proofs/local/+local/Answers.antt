use Rattle.std.proofs.Common.{◌≡◌, Some, None, map, refl, ap, ◌∙◌}
use Rattle.ml_trees.specs.Tree as pure
use Rattle.token_reading.specs.Steps.{always}
use Rattle.token_reading.specs.Tokens.{from}
use Rattle.expr_reading.specs.ExprReading as r
use Rattle.expr_reading.specs.ExprReading.{read_local}
use Rattle.expr_parts.specs.Rows.{local_of}
use Rattle.token_reading.proofs.Turns.{turn_none, turn_end, pushed}
use Rattle.expr_parts.proofs.Rows.{locals_before}
use Rattle.expr_parts.proofs.local.+local.Goals as goal

pub local_arguments-returns-in-Err-Syntax : goal.local_arguments-returns-in-Err-Syntax
local_arguments-returns-in-Err-Syntax t c =
    rw (c.fit.ensures) (
    let part = r.local_part (read_local c.args.depth) in
    let here = from c.args.tokens.now c.loop-turn.at in
    let failed : part here ≡ None = rw c.in-Err-Syntax.field-0-is at c.in-Err-Syntax.ensures in
    ap Some (turn_none pure.no_local r.cons_local always part (map local_of c.loop-turn.found.items) c.args.depth c.loop-turn._turn here
    _ c.loop-turn-test.true failed c.loop-turn.invariant ∙ ap (λ (l : pure.LocalArguments). (l, here)) (locals_before c.loop-turn.found.items)))

pub local_arguments-loop-turn-preserved : goal.local_arguments-loop-turn-preserved
local_arguments-loop-turn-preserved t c =
    let part = r.local_part (read_local c.args.depth) in
    pushed pure.no_local r.cons_local always part local_of c.loop-turn.found.items c.push.new.self.items c.in-Ok.next c.args.depth c.loop-turn._turn
    (from c.args.tokens.now c.loop-turn.at) (from c.args.tokens.now c.in-Ok.after) _ c.in_ok-push-in-Ok.ensures.items c.loop-turn-test.true
    c.in-Ok.ensures refl c.loop-turn.invariant

pub local_arguments-returns : goal.local_arguments-returns
local_arguments-returns t c =
    rw (c.fit-2.ensures) (
    let part = r.local_part (read_local c.args.depth) in
    let here = from c.args.tokens.now c.loop-turn.at in
    ap Some (turn_end pure.no_local r.cons_local always part (map local_of c.loop-turn.found.items) c.args.depth c.loop-turn._turn here
    _ c.loop-turn-test.false c.loop-turn.invariant ∙ ap (λ (l : pure.LocalArguments). (l, here)) (locals_before c.loop-turn.found.items)))
