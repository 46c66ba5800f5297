use Rattle.std.proofs.Common.{◌≡◌, ◌<◌, ◌+◌, ℕ, sym, ap, ◌∙◌, arith, drop, ◌∷◌, List, length}
use Rattle.std.specs.Option.{option_copied}
use Rattle.std.proofs.lemmas.Grind.{common_steps}
use Rattle.std.proofs.lemmas.List.{drop_more}
use Rattle.shape_core.specs.Shape.{Name, entries_in}
use Rattle.rename_model.specs.Target.{dotted}
use Rattle.rename_parts.proofs.Walks.{ends_nowhere}
use Rattle.rename_parts.proofs.targets.walk_dotted.Goals as goal

some_left : (path : List Name) (i : ℕ) → i < length path → (i + 1 ≡ length path → ⊥) → 0 < length (drop (i + 1) path)
some_left path i w n = grind (arith, common_steps)

pub returns-in_err-inside : goal.returns-in_err-inside
returns-in_err-inside c =
    let path = c.args.path.now in
    let i = c.loop-at.at in
    let es = entries_in c.loop-at.inside.now in
    let more = drop_more path i c.index-path-at.result c.loop-at-test.true ∙ ap (λ (x : Name). x ∷ drop (i + 1) path) (sym c.index-path-at.is) in
    let none = ends_nowhere es c.index-path-at.result (drop (i + 1) path) (option_copied c.step_in.result)
    (some_left path i c.loop-at-test.true c.if-at-path.false) c.step_in.ensures (ap option_copied c.in_err-inside.was) in
    c.from_residual.ensures ∙ (none ∙ (sym (ap (dotted es) more) ∙ c.loop-at.invariant))
