use Rattle.std.proofs.Common.{◌≡◌, ◌-◌, Some, None, arith}
use Rattle.ml_trees.specs.View.{view_mod_type}
use Rattle.token_reading.specs.Tokens.{from}
use Rattle.token_reading.proofs.Turns.{deeper}
use Rattle.module_reading.specs.ModReading.{read_mod, read_type}
use Rattle.module_parts.specs.Arrows.{before_arrow}
use Rattle.module_parts.proofs.BeforeArrows.{turn_type, turned, turned_on}
use Rattle.parse_module.proofs.reading.+modules.Goals as goal

pub read_module-returns : goal.read_module-returns
unfolding read_mod
read_module-returns t c = rw (deeper (λ n. read_mod n (from c.args.tokens.now c.args.at)) c.args.depth (omega arith)) c.module.ensures

pub read_module_type-returns-in-Err-Syntax : goal.read_module_type-returns-in-Err-Syntax
read_module_type-returns-in-Err-Syntax t c =
    let whole = read_type c.args.depth (from c.args.tokens.now c.args.at) in
    let failed : turn_type (c.args.depth - c.loop-turn.turn - 1) (from c.args.tokens.now c.loop-turn.at) ≡ None =
    rw c.in-Err-Syntax.field-0-is at c.in-Err-Syntax.ensures in
    rw (turned c.args.tokens.now whole c.loop-turn.before.items c.args.depth c.loop-turn.turn c.loop-turn.at None c.loop-turn-test.true failed
    c.loop-turn.invariant) (c.with_arrows.ensures (from c.args.tokens.now))

pub read_module_type-returns-in-Whole : goal.read_module_type-returns-in-Whole
read_module_type-returns-in-Whole t c =
    let whole = read_type c.args.depth (from c.args.tokens.now c.args.at) in
    let last = Some (view_mod_type c.in-Whole.last, from c.args.tokens.now c.in-Ok.found.1) in
    let found : turn_type (c.args.depth - c.loop-turn.turn - 1) (from c.args.tokens.now c.loop-turn.at) ≡ last =
    rw c.in-Whole.is at c.in-Ok.ensures in
    rw (turned c.args.tokens.now whole c.loop-turn.before.items c.args.depth c.loop-turn.turn c.loop-turn.at last c.loop-turn-test.true found
    c.loop-turn.invariant) (c.with_arrows-in-Whole.ensures (from c.args.tokens.now))

pub read_module_type-loop-turn-preserved : goal.read_module_type-loop-turn-preserved
read_module_type-loop-turn-preserved t c =
    let whole = read_type c.args.depth (from c.args.tokens.now c.args.at) in
    let d = c.args.depth - c.loop-turn.turn - 1 in
    let found : turn_type d (from c.args.tokens.now c.loop-turn.at) ≡ before_arrow (from c.args.tokens.now) c.in-Before.domain
    (read_type d (from c.args.tokens.now c.in-Ok.found.1)) = rw c.in-Before.is at c.in-Ok.ensures in
    turned_on c.args.tokens.now whole c.loop-turn.before.items c.args.depth c.loop-turn.turn c.loop-turn.at c.push.new.self.items c.in-Before.domain
    c.in-Ok.found.1 c.in_ok-push-in-Before.ensures.items c.loop-turn-test.true found c.loop-turn.invariant
