use Rattle.std.proofs.Common.{◌≡◌, ◌∷◌, ◌++◌, [], not, Some, None, map, refl, sym, ap, ◌∙◌}
use Rattle.ml_trees.specs.Tree as pure
use Rattle.ml_trees.specs.View.{view, tail_before}
use Rattle.token_reading.specs.Tokens.{from}
use Rattle.expr_reading.specs.ExprReading as r
use Rattle.expr_reading.specs.ExprReading.{read_expr}
use Rattle.expr_parts.specs.Rows.{branch_of}
use Rattle.expr_forms.specs.Forms.{otherwise_of}
use Rattle.token_reading.proofs.Turns.{before, turn_none, turn_end, turn_off, pushed, pushed_last, before_last}
use Rattle.expr_parts.proofs.Rows.{tail_before_is}
use Rattle.expr_forms.proofs.readers.Forms.if_tail.Goals as goal

pub returns-in-Err-Syntax : goal.returns-in-Err-Syntax
returns-in-Err-Syntax g c =
    rw (c.fit-in-Err-Syntax.ensures) (
    let part = r.else_branch (read_expr c.args.self.now.grammar.depth) c.args.self.now.grammar.depth in
    let here = from c.args.tokens.now c.loop-turn.at in
    let failed : part here ≡ None = rw c.in-Err-Syntax.field-0-is at c.in-Err-Syntax.ensures in
    ap Some (turn_none pure.no_else r.cons_branch r.branch_ends part (map branch_of c.loop-turn.found.items) c.args.self.now.grammar.depth
    c.loop-turn._turn
    here _ c.loop-turn-test.true failed c.loop-turn.invariant
    ∙ ap (λ (l : pure.Tail). (l, here)) (tail_before_is pure.no_else c.loop-turn.found.items)))

pub loop-turn-preserved : goal.loop-turn-preserved
loop-turn-preserved g c =
    let part = r.else_branch (read_expr c.args.self.now.grammar.depth) c.args.self.now.grammar.depth in
    let after = from c.args.tokens.now c.in-Ok.after in
    pushed pure.no_else r.cons_branch r.branch_ends part branch_of c.loop-turn.found.items c.push.new.self.items c.in-If.next
    c.args.self.now.grammar.depth
    c.loop-turn._turn (from c.args.tokens.now c.loop-turn.at) after _ c.in_ok-push-in-If.ensures.items c.loop-turn-test.true
    (c.in-Ok.ensures ∙ ap (λ p. Some (otherwise_of p, after)) c.in-If.is) (ap not (sym c.on_edge-goes_on.ensures ∙ c.if-not-goes_on.false))
    c.loop-turn.invariant

pub returns : goal.returns
returns g c =
    rw (c.fit-2.ensures) (
    let part = r.else_branch (read_expr c.args.self.now.grammar.depth) c.args.self.now.grammar.depth in
    let here = from c.args.tokens.now c.loop-turn.at in
    ap Some (turn_end pure.no_else r.cons_branch r.branch_ends part (map branch_of c.loop-turn.found.items) c.args.self.now.grammar.depth
    c.loop-turn._turn
    here _ c.loop-turn-test.false c.loop-turn.invariant ∙ ap (λ (l : pure.Tail). (l, here)) (tail_before_is pure.no_else c.loop-turn.found.items)))

pub returns-then-not-goes_on : goal.returns-then-not-goes_on
returns-then-not-goes_on g c =
    rw (c.fit-then-not-goes_on.ensures) (
    let part = r.else_branch (read_expr c.args.self.now.grammar.depth) c.args.self.now.grammar.depth in
    let after = from c.args.tokens.now c.in-Ok.after in
    ap Some (pushed_last pure.no_else r.cons_branch r.branch_ends part branch_of c.loop-turn.found.items c.push.new.self.items c.in-If.next
    c.args.self.now.grammar.depth c.loop-turn._turn (from c.args.tokens.now c.loop-turn.at) after _ c.in_ok-push-in-If.ensures.items
    c.loop-turn-test.true
    (c.in-Ok.ensures ∙ ap (λ p. Some (otherwise_of p, after)) c.in-If.is) (ap not (sym c.on_edge-goes_on.ensures ∙ c.if-not-goes_on.true))
    c.loop-turn.invariant ∙ ap (λ (l : pure.Tail). (l, after)) (tail_before_is pure.no_else c.push.new.self.items)))

pub returns-in-Last : goal.returns-in-Last
returns-in-Last g c =
    rw (c.fit.ensures) (
    let part = r.else_branch (read_expr c.args.self.now.grammar.depth) c.args.self.now.grammar.depth in
    let after = from c.args.tokens.now c.in-Ok.after in
    let e = view c.in-Last.last.value in
    let xs = c.loop-turn.found.items in
    let whole =
    turn_off pure.no_else r.cons_branch r.branch_ends part (map branch_of xs) (r.last_branch e) c.args.self.now.grammar.depth c.loop-turn._turn
    (from c.args.tokens.now c.loop-turn.at) after _ c.loop-turn-test.true (c.in-Ok.ensures ∙ ap (λ p. Some (otherwise_of p, after)) c.in-Last.is)
    refl c.loop-turn.invariant in
    let ends : before r.cons_branch (map branch_of xs ++ r.last_branch e ∷ []) pure.no_else ≡ tail_before (pure.or_else e) xs =
    before_last r.cons_branch (map branch_of xs) (r.last_branch e) pure.no_else ∙ tail_before_is (pure.or_else e) xs in
    ap Some (whole ∙ ap (λ (l : pure.Tail). (l, after)) ends))
