-- The names of the units so far and the lines that are left are the order.
use Rattle.std.proofs.Common.{◌≡◌, ◌<◌, ◌++◌, All, filter, length}
use Rattle.std.specs.List.{AllByRecursion}
use Rattle.std.specs.Str.Lines.{lines}
use Rattle.unit_order.specs.Order.{is_filled, manifest_order}
use Rattle.unit_order.specs.Positions.{views, names_at}
use Rattle.unit_order.proofs.Named.{IsNamed}
use Rattle.unit_order.proofs.listed.list_order.Given as goal

abbrev pub invariant-loop-line : goal.invariant-loop-line
invariant-loop-line l = record {
  named : AllByRecursion (IsNamed (λ unit. unit.name) l.units) (lines l.rest);
  order : names_at (views l.units) l.order.items ++ filter is_filled (lines l.rest) ≡ manifest_order l.fn.manifest;
  inside : All (λ at. at < length l.units) l.order.items;
}

abbrev pub decreases-loop-line : goal.decreases-loop-line
decreases-loop-line l = length l.rest
