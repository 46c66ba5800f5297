use Rattle.std.proofs.Common.{List, ℕ, Bool, Option, None, map, ap, ◌∙◌}
use Rattle.need_chains.specs.Chains.{first_marked}
use Rattle.need_chains.specs.Marks.{marked_at}
use Rattle.need_chains.specs.Needs.{needs}
use Rattle.need_chains.specs.declared.unit_heads.UnitHeads.{UnitHeads}
use Rattle.need_chains.proofs.Nearest.{next_near}
use Rattle.need_chains.proofs.chain.next_unit.Goals as goal

pub returns : goal.returns
returns c =
    λ to n lt are none.
    let sources = c.args.sources.now in
    let unit = c.args.unit.now in
    let k = c.args.needs in
    c.first_marked.ensures
    ∙ ap (λ (l : List Bool). first_marked None sources l)
    (c.deref.ensures.value ∙ c.in_ok-marks.ensures
    ∙ ap (λ (l : List (Option ℕ)). marked_at k (map (λ (s : UnitHeads). needs sources unit s.unit) sources) l) are
    ∙ next_near k n sources to unit lt none)
