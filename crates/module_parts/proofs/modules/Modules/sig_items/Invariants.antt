use Rattle.std.proofs.Common.{◌-◌, map}
use Rattle.ml_trees.specs.Tree as pure
use Rattle.ml_trees.specs.View.{view_sig_item}
use Rattle.module_reading.specs.ModReading.{read_mod, read_type, sig_item}
use Rattle.token_reading.specs.Steps.{many, always}
use Rattle.token_reading.specs.Tokens.{from}
use Rattle.token_reading.proofs.Turns.{Left}
use Rattle.module_parts.proofs.modules.Modules.sig_items.Given as goal

abbrev pub invariant-loop-turn : goal.invariant-loop-turn
invariant-loop-turn g l =
    let part = sig_item (read_mod l.self.depth) (read_type l.self.depth) l.self.depth in
    Left pure.no_sig_item pure.more_sig_item always part (map view_sig_item l.found.items) (l._turn-end - l._turn) (from l.tokens l.at)
    (many pure.no_sig_item pure.more_sig_item always part l.self.depth (from l.tokens l.fn.at))
