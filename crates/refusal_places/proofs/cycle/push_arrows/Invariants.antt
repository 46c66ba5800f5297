use Rattle.std.proofs.Common.{◌≡◌, ◌++◌, take}
use Rattle.std.specs.Prelude.{flat_map}
use Rattle.refusal_places.specs.Circle.{arrow}
use Rattle.refusal_places.proofs.cycle.push_arrows.Given as goal

-- the units so far
abbrev pub invariant-loop-name : goal.invariant-loop-name
invariant-loop-name l = l.text.items ≡ l.fn.text.items ++ flat_map arrow (take l.name-index l.names)
