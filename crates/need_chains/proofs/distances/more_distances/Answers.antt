use Rattle.std.proofs.Common.{List, ℕ, Option, Vec, Global, ◌++◌, drop, map, ap, sym, ◌∙◌}
use Rattle.std.proofs.lemmas.List.{append-nil}
use Rattle.need_chains.proofs.Positions.{farther_none}
use Rattle.need_chains.proofs.distances.more_distances.Goals as goal

pub returns-in-empty : goal.returns-in-empty
returns-in-empty c =
    let out = λ (row : Vec ℕ Global). row.items in
    sym (append-nil c.loop-row.more.items)
    ∙ ap (λ (l : List (Option ℕ)). c.loop-row.more.items ++ l)
    (sym (farther_none c.args.needs c.args.distances.now (map out (drop c.loop-row.row-index c.args.table.now)) c.loop-row.left.now
    c.in-empty.len_below))
    ∙ c.loop-row.invariant
