use Rattle.std.proofs.Common.{◌≡◌, Some, None, map, refl, ap, ◌∙◌}
use Rattle.ml_trees.specs.Tree as pure
use Rattle.ml_trees.specs.declared.fixed.Fixed.TheVariants as key
use Rattle.ml_trees.specs.View.{view_pat}
use Rattle.token_reading.specs.Steps.{always}
use Rattle.token_reading.specs.PatReading as r
use Rattle.token_reading.specs.PatReading.{read_pat}
use Rattle.token_reading.specs.Tokens.{from}
use Rattle.token_reading.proofs.Turns.{turn_none, turn_end, pushed}
use Rattle.pattern_reading.proofs.Lone.{pats_before}
use Rattle.pattern_reading.proofs.patterns.Grammar.more_items.Goals as goal

pub returns-in-Err-Syntax : goal.returns-in-Err-Syntax
returns-in-Err-Syntax g c =
    rw (c.fit.ensures) (
    let part = r.next_pat (read_pat c.args.self.now.depth) c.args.self.now.depth key.Semicolon (read_pat c.args.self.now.depth) in
    let here = from c.args.tokens.now c.loop-turn.at in
    let failed : part here ≡ None = rw c.in-Err-Syntax.field-0-is at c.in-Err-Syntax.ensures in
    ap Some (turn_none pure.no_pat pure.more_pat always part (map view_pat c.loop-turn.found.items) c.args.self.now.depth c.loop-turn._turn here
    _ c.loop-turn-test.true failed c.loop-turn.invariant ∙ ap (λ (l : pure.Pats). (l, here)) (pats_before c.loop-turn.found.items)))

pub loop-turn-preserved : goal.loop-turn-preserved
loop-turn-preserved g c =
    let part = r.next_pat (read_pat c.args.self.now.depth) c.args.self.now.depth key.Semicolon (read_pat c.args.self.now.depth) in
    pushed pure.no_pat pure.more_pat always part view_pat c.loop-turn.found.items c.push.new.self.items c.in-Ok.next c.args.self.now.depth
    c.loop-turn._turn (from c.args.tokens.now c.loop-turn.at) (from c.args.tokens.now c.in-Ok.after) _ c.in_ok-push-in-Ok.ensures.items
    c.loop-turn-test.true c.in-Ok.ensures refl c.loop-turn.invariant

pub returns : goal.returns
returns g c =
    rw (c.fit-2.ensures) (
    let part = r.next_pat (read_pat c.args.self.now.depth) c.args.self.now.depth key.Semicolon (read_pat c.args.self.now.depth) in
    let here = from c.args.tokens.now c.loop-turn.at in
    ap Some (turn_end pure.no_pat pure.more_pat always part (map view_pat c.loop-turn.found.items) c.args.self.now.depth c.loop-turn._turn here
    _ c.loop-turn-test.false c.loop-turn.invariant ∙ ap (λ (l : pure.Pats). (l, here)) (pats_before c.loop-turn.found.items)))
