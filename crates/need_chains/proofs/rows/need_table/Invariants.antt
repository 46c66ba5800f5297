use Rattle.std.proofs.Common.{◌≡◌, map, take}
use Rattle.name_tables.specs.Names.{at}
use Rattle.need_chains.specs.Rows.{row_at}
use Rattle.need_chains.proofs.rows.need_table.Given as goal

-- the rows so far
abbrev pub invariant-loop-source : goal.invariant-loop-source
invariant-loop-source l = map (λ row. row.items) l.table.items
    ≡ map (λ s. row_at (map (λ row. row.items) l.rows) (at l.places s.unit)) (take l.source-index l.sources)
