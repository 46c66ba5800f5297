use Rattle.std.proofs.Common.{◌≡◌, ◌&&◌, ℕ, List, Option, length, map, take}
use Rattle.std.specs.List.{list_any}
use Rattle.std.specs.Str.{bytes_eq}
use Rattle.name_tables.specs.Names.{at}
use Rattle.need_chains.specs.Rows.{hits, is_hit, row_at}
use Rattle.need_chains.proofs.rows.need_rows.Given as goal

-- the needs of the sources so far
abbrev pub invariant-loop-source : goal.invariant-loop-source
invariant-loop-source l = record {
  size : length l.rows.items ≡ length l.sources;
  rows : (unit : List ℕ) (n : ℕ) (number : List ℕ → Option ℕ)
      → hits l.sources n number (row_at (map (λ row. row.items) l.rows.items) (at l.places unit))
      ≡ list_any (λ s. bytes_eq s.unit unit && list_any (is_hit l.sources unit n number) s.heads) (take l.source-index l.sources);
}
