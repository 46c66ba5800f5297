use Rattle.std.proofs.Common.{◌≡◌, ◌-◌, Some, None, map, ◌+◌, refl, ap, ◌∙◌, arith}
use Rattle.ml_trees.specs.Tree as pure
use Rattle.ml_trees.specs.declared.fixed.Fixed.TheVariants as key
use Rattle.ml_trees.specs.View.{view}
use Rattle.token_reading.specs.Steps.{expect}
use Rattle.token_reading.specs.Tokens.{from}
use Rattle.expr_reading.specs.ExprReading as r
use Rattle.expr_reading.specs.ExprReading.{read_expr}
use Rattle.token_reading.proofs.Turns.{turn_none, turn_end}
use Rattle.parse_expr.proofs.Operands.{operand_of, comma_of, ops_before, commas_before, operand_on, operand_off, comma_none, tier_first, tier_more}
use Rattle.parse_expr.proofs.readers.Readers.+tier.Goals as goal

pub more_operands-returns-in-Err-Syntax : goal.more_operands-returns-in-Err-Syntax
more_operands-returns-in-Err-Syntax g t c =
    rw (c.fit-in-Err-Syntax.ensures) (
    let part = r.operator_part (read_expr c.args.self.now.grammar.depth) c.args.self.now.grammar.depth (12 - c.args.tier)
    (r.tier (read_expr c.args.self.now.grammar.depth) c.args.self.now.grammar.depth c.args.tier) in
    let here = from c.args.tokens.now c.loop-turn.at in
    let failed : part here ≡ None = rw c.in-Err-Syntax.field-0-is at c.in-Err-Syntax.ensures in
    ap Some (turn_none pure.no_link r.cons_operand (λ x. x.2) part (map operand_of c.loop-turn.found.items) c.args.self.now.grammar.depth
    c.loop-turn._turn here _ c.loop-turn-test.true failed c.loop-turn.invariant
    ∙ ap (λ (l : pure.Links). (l, here)) (ops_before c.loop-turn.found.items)))

pub more_operands-loop-turn-preserved : goal.more_operands-loop-turn-preserved
more_operands-loop-turn-preserved g t c =
    let part = r.operator_part (read_expr c.args.self.now.grammar.depth) c.args.self.now.grammar.depth (12 - c.args.tier)
    (r.tier (read_expr c.args.self.now.grammar.depth) c.args.self.now.grammar.depth c.args.tier) in
    operand_on part operand_of (λ x. refl) c.loop-turn.found.items c.push.new.self.items (c.in-Ok.next.0, c.in-Ok.next.1) c.in-Ok.next.2
    c.args.self.now.grammar.depth c.loop-turn._turn (from c.args.tokens.now c.loop-turn.at)
    (from c.args.tokens.now c.in-Ok.after) _ c.in_ok-push-in-Ok.ensures.items c.loop-turn-test.true c.in-Ok.ensures c.if-not-goes_on.false
    c.loop-turn.invariant

pub more_operands-returns : goal.more_operands-returns
more_operands-returns g t c =
    rw (c.fit-2.ensures) (
    let part = r.operator_part (read_expr c.args.self.now.grammar.depth) c.args.self.now.grammar.depth (12 - c.args.tier)
    (r.tier (read_expr c.args.self.now.grammar.depth) c.args.self.now.grammar.depth c.args.tier) in
    let here = from c.args.tokens.now c.loop-turn.at in
    ap Some (turn_end pure.no_link r.cons_operand (λ x. x.2) part (map operand_of c.loop-turn.found.items) c.args.self.now.grammar.depth
    c.loop-turn._turn here _ c.loop-turn-test.false c.loop-turn.invariant
    ∙ ap (λ (l : pure.Links). (l, here)) (ops_before c.loop-turn.found.items)))

pub more_operands-returns-then-not-goes_on : goal.more_operands-returns-then-not-goes_on
more_operands-returns-then-not-goes_on g t c =
    rw (c.fit.ensures) (
    let part = r.operator_part (read_expr c.args.self.now.grammar.depth) c.args.self.now.grammar.depth (12 - c.args.tier)
    (r.tier (read_expr c.args.self.now.grammar.depth) c.args.self.now.grammar.depth c.args.tier) in
    let after = from c.args.tokens.now c.in-Ok.after in
    ap Some (operand_off part operand_of (λ x. refl) c.loop-turn.found.items c.push.new.self.items (c.in-Ok.next.0, c.in-Ok.next.1) c.in-Ok.next.2
    c.args.self.now.grammar.depth c.loop-turn._turn (from c.args.tokens.now c.loop-turn.at) after _ c.in_ok-push-in-Ok.ensures.items
    c.loop-turn-test.true c.in-Ok.ensures c.if-not-goes_on.true c.loop-turn.invariant
    ∙ ap (λ (l : pure.Links). (l, after)) (ops_before c.push.new.self.items)))

pub more_in_tuple-returns-in-Err-Syntax : goal.more_in_tuple-returns-in-Err-Syntax
more_in_tuple-returns-in-Err-Syntax g t c =
    rw (c.fit-in-Err-Syntax.ensures) (
    let part = r.operator_part (read_expr c.args.self.now.grammar.depth) c.args.self.now.grammar.depth 4
    (r.tier (read_expr c.args.self.now.grammar.depth) c.args.self.now.grammar.depth 8) in
    let here = from c.args.tokens.now c.loop-turn.at in
    let failed : part here ≡ None = rw c.in-Err-Syntax.field-0-is at c.in-Err-Syntax.ensures in
    ap Some (turn_none pure.no_link r.cons_operand (λ x. x.2) part (map comma_of c.loop-turn.found.items) c.args.self.now.grammar.depth
    c.loop-turn._turn here _ c.loop-turn-test.true failed c.loop-turn.invariant
    ∙ ap (λ (l : pure.Links). (l, here)) (commas_before c.loop-turn.found.items)))

pub more_in_tuple-loop-turn-preserved : goal.more_in_tuple-loop-turn-preserved
more_in_tuple-loop-turn-preserved g t c =
    let part = r.operator_part (read_expr c.args.self.now.grammar.depth) c.args.self.now.grammar.depth 4
    (r.tier (read_expr c.args.self.now.grammar.depth) c.args.self.now.grammar.depth 8) in
    operand_on part comma_of (λ x. refl) c.loop-turn.found.items c.push.new.self.items c.in-Ok.next.0 c.in-Ok.next.1 c.args.self.now.grammar.depth
    c.loop-turn._turn (from c.args.tokens.now c.loop-turn.at) (from c.args.tokens.now c.in-Ok.after) _ c.in_ok-push-in-Ok.ensures.items
    c.loop-turn-test.true c.in-Ok.ensures c.if-not-goes_on.false c.loop-turn.invariant

pub more_in_tuple-returns : goal.more_in_tuple-returns
more_in_tuple-returns g t c =
    rw (c.fit-2.ensures) (
    let part = r.operator_part (read_expr c.args.self.now.grammar.depth) c.args.self.now.grammar.depth 4
    (r.tier (read_expr c.args.self.now.grammar.depth) c.args.self.now.grammar.depth 8) in
    let here = from c.args.tokens.now c.loop-turn.at in
    ap Some (turn_end pure.no_link r.cons_operand (λ x. x.2) part (map comma_of c.loop-turn.found.items) c.args.self.now.grammar.depth
    c.loop-turn._turn here _ c.loop-turn-test.false c.loop-turn.invariant
    ∙ ap (λ (l : pure.Links). (l, here)) (commas_before c.loop-turn.found.items)))

pub more_in_tuple-returns-then-not-goes_on : goal.more_in_tuple-returns-then-not-goes_on
more_in_tuple-returns-then-not-goes_on g t c =
    rw (c.fit.ensures) (
    let part = r.operator_part (read_expr c.args.self.now.grammar.depth) c.args.self.now.grammar.depth 4
    (r.tier (read_expr c.args.self.now.grammar.depth) c.args.self.now.grammar.depth 8) in
    let after = from c.args.tokens.now c.in-Ok.after in
    ap Some (operand_off part comma_of (λ x. refl) c.loop-turn.found.items c.push.new.self.items c.in-Ok.next.0 c.in-Ok.next.1
    c.args.self.now.grammar.depth c.loop-turn._turn (from c.args.tokens.now c.loop-turn.at) after _ c.in_ok-push-in-Ok.ensures.items
    c.loop-turn-test.true c.in-Ok.ensures c.if-not-goes_on.true c.loop-turn.invariant
    ∙ ap (λ (l : pure.Links). (l, after)) (commas_before c.push.new.self.items)))

pub tier-loop-above-init : goal.tier-loop-above-init
tier-loop-above-init g t c = tier_first c.args.self.now.grammar.depth (from c.args.tokens.now c.args.at)
    (view c.in_ok-first.first.value, from c.args.tokens.now c.in_ok-first.after) c.in_ok-first.ensures

pub tier-loop-above-preserved : goal.tier-loop-above-preserved
tier-loop-above-preserved g t c = tier_more c.args.self.now.grammar.depth (from c.args.tokens.now c.args.at) c.loop-above.above
    (c.loop-above.above + 1) (view c.loop-above.whole.value) (from c.args.tokens.now c.loop-above.end)
    (view c.in_ok-grown.grown.value, from c.args.tokens.now c.in_ok-grown.after) (omega arith) c.loop-above.invariant c.in_ok-grown.ensures

pub next_in_tuple-returns-in-Err-Syntax : goal.next_in_tuple-returns-in-Err-Syntax
next_in_tuple-returns-in-Err-Syntax g t c =
    let d = c.args.self.now.grammar.depth in
    let here = from c.args.tokens.now c.args.at in
    let failed : expect key.Comma here ≡ None = rw c.in-Err-Syntax.field-0-is at c.in-Err-Syntax.ensures in
    comma_none d (r.tier (read_expr d) d 8) here failed
