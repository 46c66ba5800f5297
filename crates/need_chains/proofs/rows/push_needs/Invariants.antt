use Rattle.std.proofs.Common.{◌≡◌, ◌||◌, ℕ, List, Option, take}
use Rattle.std.specs.List.{list_any}
use Rattle.need_chains.specs.Rows.{ArePlaces, hits, is_hit}
use Rattle.need_chains.specs.declared.unit_heads.UnitHeads.{UnitHeads}
use Rattle.need_chains.proofs.rows.push_needs.Given as goal

-- the heads so far
abbrev pub invariant-loop-head : goal.invariant-loop-head
invariant-loop-head l = (sources : List UnitHeads) → ArePlaces l.places sources → (n : ℕ) (number : List ℕ → Option ℕ)
    → hits sources n number l.row.items
    ≡ (hits sources n number l.fn.row.items || list_any (is_hit sources l.unit n number) (take l.head-index l.heads))
