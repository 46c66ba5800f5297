use Rattle.std.proofs.Common.{◌-◌, true, map}
use Rattle.ml_trees.specs.View.{view_item}
use Rattle.token_reading.specs.Tokens.{from}
use Rattle.module_reading.specs.ModReading.{read_mod, read_type, items_of}
use Rattle.parse_module.proofs.ItemTurns.{LeftItems}
use Rattle.parse_module.proofs.readers.Readers.items.Given as goal

abbrev pub invariant-loop-turn : goal.invariant-loop-turn
invariant-loop-turn g l = LeftItems l.self.parts.depth (map view_item l.found.items) (l._turn-end - l._turn) l.fresh (from l.tokens l.at)
    (items_of (read_mod l.self.parts.depth) (read_type l.self.parts.depth) l.self.parts.depth l.self.parts.depth true (from l.tokens l.fn.at))
