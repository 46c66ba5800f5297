use Rattle.std.proofs.Common.{◌≡◌, Some, None, map, refl, ap, ◌∙◌}
use Rattle.ml_trees.specs.Tree as pure
use Rattle.ml_trees.specs.View.{view_part}
use Rattle.token_reading.specs.Steps.{always}
use Rattle.token_reading.specs.Tokens.{from}
use Rattle.expr_reading.specs.ExprReading as r
use Rattle.expr_reading.specs.ExprReading.{read_expr}
use Rattle.token_reading.proofs.Turns.{turn_none, turn_end, pushed}
use Rattle.expr_parts.proofs.Rows.{parts_before}
use Rattle.expr_atoms.proofs.readers.Atoms.more_parts.Goals as goal

pub returns-in-Err-Syntax : goal.returns-in-Err-Syntax
returns-in-Err-Syntax g c =
    rw (c.fit.ensures) (
    let part = r.part_behind (read_expr c.args.self.now.grammar.depth) c.args.self.now.grammar.depth in
    let here = from c.args.tokens.now c.loop-turn.at in
    let failed : part here ≡ None = rw c.in-Err-Syntax.field-0-is at c.in-Err-Syntax.ensures in
    ap Some (turn_none pure.no_part pure.more_part always part (map view_part c.loop-turn.found.items) c.args.self.now.grammar.depth c.loop-turn._turn
    here _ c.loop-turn-test.true failed c.loop-turn.invariant ∙ ap (λ (l : pure.Parts). (l, here)) (parts_before c.loop-turn.found.items)))

pub loop-turn-preserved : goal.loop-turn-preserved
loop-turn-preserved g c =
    let part = r.part_behind (read_expr c.args.self.now.grammar.depth) c.args.self.now.grammar.depth in
    pushed pure.no_part pure.more_part always part view_part c.loop-turn.found.items c.push_boxed.new.row.items c.in-Ok.next.value
    c.args.self.now.grammar.depth c.loop-turn._turn (from c.args.tokens.now c.loop-turn.at)
    (from c.args.tokens.now c.in-Ok.after) _ c.in_ok-push_boxed-in-Ok.ensures.items c.loop-turn-test.true c.in-Ok.ensures refl
    c.loop-turn.invariant

pub returns : goal.returns
returns g c =
    rw (c.fit-2.ensures) (
    let part = r.part_behind (read_expr c.args.self.now.grammar.depth) c.args.self.now.grammar.depth in
    let here = from c.args.tokens.now c.loop-turn.at in
    ap Some (turn_end pure.no_part pure.more_part always part (map view_part c.loop-turn.found.items) c.args.self.now.grammar.depth c.loop-turn._turn
    here _ c.loop-turn-test.false c.loop-turn.invariant ∙ ap (λ (l : pure.Parts). (l, here)) (parts_before c.loop-turn.found.items)))
