use Rattle.std.proofs.Common.{◌≡◌, ◌∷◌, [], List, Some, None, map, refl, ap, ◌∙◌}
use Rattle.ml_trees.specs.Tok.{Name}
use Rattle.ml_trees.specs.View.{view_word}
use Rattle.token_reading.specs.Steps.{always}
use Rattle.token_reading.specs.Pieces.{lower_word}
use Rattle.token_reading.specs.Tokens.{from}
use Rattle.token_reading.proofs.Turns.{turn_none, turn_end, pushed, list_before}
use Rattle.expr_forms.proofs.readers.Forms.more_types.Goals as goal

pub returns-in-Err-Syntax : goal.returns-in-Err-Syntax
returns-in-Err-Syntax g c =
    rw (c.fit.ensures) (
    let part = lower_word in
    let here = from c.args.tokens.now c.loop-turn.at in
    let failed : part here ≡ None = rw c.in-Err-Syntax.field-0-is at c.in-Err-Syntax.ensures in
    ap Some (turn_none [] ◌∷◌ always part (map view_word c.loop-turn.found.items) c.args.self.now.grammar.depth c.loop-turn._turn here _
    c.loop-turn-test.true
    failed c.loop-turn.invariant ∙ ap (λ (l : List Name). (l, here)) (list_before view_word c.loop-turn.found.items)))

pub loop-turn-preserved : goal.loop-turn-preserved
loop-turn-preserved g c =
    let part = lower_word in
    pushed [] ◌∷◌ always part view_word c.loop-turn.found.items c.push.new.self.items c.in-Ok.next c.args.self.now.grammar.depth c.loop-turn._turn
    (from c.args.tokens.now c.loop-turn.at) (from c.args.tokens.now c.in-Ok.after) _ c.in_ok-push-in-Ok.ensures.items c.loop-turn-test.true
    c.in-Ok.ensures refl c.loop-turn.invariant

pub returns : goal.returns
returns g c =
    rw (c.fit-2.ensures) (
    let part = lower_word in
    let here = from c.args.tokens.now c.loop-turn.at in
    ap Some (turn_end [] ◌∷◌ always part (map view_word c.loop-turn.found.items) c.args.self.now.grammar.depth c.loop-turn._turn here _
    c.loop-turn-test.false
    c.loop-turn.invariant ∙ ap (λ (l : List Name). (l, here)) (list_before view_word c.loop-turn.found.items)))
