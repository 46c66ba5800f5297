use Rattle.std.proofs.Common.{◌≡◌, ◌<◌, [], ℕ, false, get_or, length, map, take}
use Rattle.std.specs.List.{list_any}
use Rattle.unit_order.specs.Needs.{is_other_head}
use Rattle.unit_order.proofs.need_lists.need_row.Given as goal

abbrev pub invariant-loop-head : goal.invariant-loop-head
invariant-loop-head l = record {
  size : length l.row.items ≡ length l.units;
  marked : (p : ℕ) → p < length l.units → get_or l.row.items p false ≡ list_any (is_other_head l.unit.name (get_or (map (λ u. u.name) l.units) p []))
      (take l.head-index l.head-items);
}
