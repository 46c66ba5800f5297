use Rattle.std.proofs.Common.{◌≡◌, ◌-◌}
use Rattle.token_reading.specs.Tokens.{from}
use Rattle.module_reading.specs.ModReading.{read_type}
use Rattle.module_parts.specs.Arrows.{before_arrows}
use Rattle.parse_module.proofs.reading.+modules.Given as goal

abbrev pub decreases-read_module : goal.decreases-read_module
decreases-read_module l = l.depth

abbrev pub decreases-read_module_type : goal.decreases-read_module_type
decreases-read_module_type l = l.depth

-- behind what was read, so much is still to read
abbrev pub invariant-read_module_type-loop-turn : goal.invariant-read_module_type-loop-turn
invariant-read_module_type-loop-turn l = read_type l.fn.depth (from l.tokens l.fn.at) ≡ before_arrows (from l.tokens) l.before.items
    (read_type (l.depth - l.turn) (from l.tokens l.at))
