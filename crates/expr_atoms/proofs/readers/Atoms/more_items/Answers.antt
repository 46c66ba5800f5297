use Rattle.std.proofs.Common.{◌≡◌, true, not, Some, None, map, sym, ap, ◌∙◌}
use Rattle.ml_trees.specs.Tree as pure
use Rattle.token_reading.specs.Tokens.{from}
use Rattle.expr_reading.specs.ExprReading as r
use Rattle.expr_reading.specs.ExprReading.{read_expr}
use Rattle.expr_parts.specs.Rows.{link_of}
use Rattle.expr_parts.specs.Rows.{item_of}
use Rattle.token_reading.proofs.Turns.{turn_none, turn_end, pushed, pushed_last}
use Rattle.expr_parts.proofs.Rows.{links_before}
use Rattle.expr_atoms.proofs.readers.Atoms.more_items.Goals as goal

pub returns-in-Err-Syntax : goal.returns-in-Err-Syntax
returns-in-Err-Syntax g c =
    rw (c.fit-in-Err-Syntax.ensures) (
    let part = r.semicolon_part (read_expr c.args.self.now.grammar.depth) c.args.self.now.grammar.depth
    (item_of c.args.self.now.grammar.depth true) in
    let here = from c.args.tokens.now c.loop-turn.at in
    let failed : part here ≡ None = rw c.in-Err-Syntax.field-0-is at c.in-Err-Syntax.ensures in
    ap Some (turn_none pure.no_link r.cons_link (λ x. r.no_form x.1) part (map link_of c.loop-turn.found.items) c.args.self.now.grammar.depth
    c.loop-turn._turn here _ c.loop-turn-test.true failed c.loop-turn.invariant
    ∙ ap (λ (l : pure.Links). (l, here)) (links_before c.loop-turn.found.items)))

pub loop-turn-preserved : goal.loop-turn-preserved
loop-turn-preserved g c =
    let part = r.semicolon_part (read_expr c.args.self.now.grammar.depth) c.args.self.now.grammar.depth
    (item_of c.args.self.now.grammar.depth true) in
    pushed pure.no_link r.cons_link (λ x. r.no_form x.1) part link_of c.loop-turn.found.items c.push.new.self.items c.in-Ok.next
    c.args.self.now.grammar.depth c.loop-turn._turn (from c.args.tokens.now c.loop-turn.at)
    (from c.args.tokens.now c.in-Ok.after) _ c.in_ok-push-in-Ok.ensures.items c.loop-turn-test.true c.in-Ok.ensures
    (ap not (sym c.on_edge-goes_on.ensures ∙ c.if-not-goes_on.false)) c.loop-turn.invariant

pub returns : goal.returns
returns g c =
    rw (c.fit-2.ensures) (
    let part = r.semicolon_part (read_expr c.args.self.now.grammar.depth) c.args.self.now.grammar.depth
    (item_of c.args.self.now.grammar.depth true) in
    let here = from c.args.tokens.now c.loop-turn.at in
    ap Some (turn_end pure.no_link r.cons_link (λ x. r.no_form x.1) part (map link_of c.loop-turn.found.items) c.args.self.now.grammar.depth
    c.loop-turn._turn here _ c.loop-turn-test.false c.loop-turn.invariant
    ∙ ap (λ (l : pure.Links). (l, here)) (links_before c.loop-turn.found.items)))

pub returns-then-not-goes_on : goal.returns-then-not-goes_on
returns-then-not-goes_on g c =
    rw (c.fit.ensures) (
    let part = r.semicolon_part (read_expr c.args.self.now.grammar.depth) c.args.self.now.grammar.depth
    (item_of c.args.self.now.grammar.depth true) in
    let after = from c.args.tokens.now c.in-Ok.after in
    ap Some (pushed_last pure.no_link r.cons_link (λ x. r.no_form x.1) part link_of c.loop-turn.found.items c.push.new.self.items c.in-Ok.next
    c.args.self.now.grammar.depth c.loop-turn._turn (from c.args.tokens.now c.loop-turn.at) after _ c.in_ok-push-in-Ok.ensures.items
    c.loop-turn-test.true c.in-Ok.ensures (ap not (sym c.on_edge-goes_on.ensures ∙ c.if-not-goes_on.true)) c.loop-turn.invariant
    ∙ ap (λ (l : pure.Links). (l, after)) (links_before c.push.new.self.items)))
