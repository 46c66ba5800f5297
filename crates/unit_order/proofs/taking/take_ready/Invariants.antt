-- The units that are taken so far, how the units wait, and from where one can be taken.
use Rattle.std.proofs.Common.{◌≡◌, ◌≤◌, length}
use Rattle.unit_order.specs.Positions.{views}
use Rattle.unit_order.specs.Turns.{NoneFreeBefore}
use Rattle.unit_order.proofs.Turns.{Turns}
use Rattle.unit_order.proofs.taking.take_ready.Given as goal

abbrev pub invariant-loop-turn : goal.invariant-loop-turn
invariant-loop-turn l = record {
  turns : Turns (views l.units) l.order.items l.waiting.items;
  many : length l.order.items ≡ l._turn;
  inside : l.from ≤ length l.waiting.items;
  before : NoneFreeBefore l.from l.waiting.items;
}
