use Rattle.std.proofs.Common.{◌≡◌, Some, None, map, ap, ◌∙◌}
use Rattle.ml_trees.specs.Tree as pure
use Rattle.ml_trees.specs.View.{view_item}
use Rattle.token_reading.specs.Tokens.{from}
use Rattle.module_reading.specs.ModReading.{read_mod, read_type, item_of}
use Rattle.parse_module.proofs.ItemTurns.{item_none, item_pushed, items_end, items_before}
use Rattle.parse_module.proofs.readers.Readers.items.Goals as goal

pub returns-in-Err-Syntax : goal.returns-in-Err-Syntax
returns-in-Err-Syntax g c =
    rw (c.fit.ensures) (
    let d = c.args.self.now.parts.depth in
    let here = from c.args.tokens.now c.loop-turn.at in
    let failed : item_of (read_mod d) (read_type d) d c.loop-turn.fresh here ≡ None = rw c.in-Err-Syntax.field-0-is at c.in-Err-Syntax.ensures in
    ap Some (item_none d (map view_item c.loop-turn.found.items) d c.loop-turn._turn c.loop-turn.fresh here _ c.loop-turn-test.true failed
    c.loop-turn.invariant ∙ ap (λ (l : pure.Items). (l, here)) (items_before c.loop-turn.found.items)))

pub loop-turn-preserved : goal.loop-turn-preserved
loop-turn-preserved g c =
    let d = c.args.self.now.parts.depth in
    item_pushed d c.loop-turn.found.items c.push.new.self.items c.in-Ok.next d c.loop-turn._turn c.loop-turn.fresh c.is_separator-fresh.result
    (from c.args.tokens.now c.loop-turn.at) (from c.args.tokens.now c.in-Ok.after) _ c.in_ok-push-in-Ok.ensures.items c.loop-turn-test.true
    c.in-Ok.ensures c.is_separator-fresh.ensures c.loop-turn.invariant

pub returns : goal.returns
returns g c =
    rw (c.fit-2.ensures) (
    let d = c.args.self.now.parts.depth in
    let here = from c.args.tokens.now c.loop-turn.at in
    ap Some (items_end d (map view_item c.loop-turn.found.items) d c.loop-turn._turn c.loop-turn.fresh here _ c.loop-turn-test.false
    c.loop-turn.invariant ∙ ap (λ (l : pure.Items). (l, here)) (items_before c.loop-turn.found.items)))
