use Rattle.std.proofs.Common.{List, Bool, ◌++◌, drop, map, ap, sym, ◌∙◌}
use Rattle.std.proofs.lemmas.List.{append-nil}
use Rattle.need_chains.specs.Needs.{needs}
use Rattle.need_chains.specs.declared.unit_heads.UnitHeads.{UnitHeads}
use Rattle.need_chains.proofs.Positions.{marked_none}
use Rattle.need_chains.proofs.needs.needed_at.Goals as goal

pub returns-in-empty : goal.returns-in-empty
returns-in-empty c =
    let sources = c.args.sources.now in
    let unit = c.args.unit.now in
    sym (append-nil c.loop-source.marks.items)
    ∙ ap (λ (l : List Bool). c.loop-source.marks.items ++ l)
    (sym (marked_none c.args.needs (map (λ (s : UnitHeads). needs sources unit s.unit) (drop c.loop-source.source-index sources))
    c.loop-source.left.now c.in-empty.len_below))
    ∙ c.loop-source.invariant
