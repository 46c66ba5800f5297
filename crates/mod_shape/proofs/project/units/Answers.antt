use Rattle.std.proofs.Common.{◌≡◌, ◌+◌, List, ◌∷◌, drop, sym, ap, ◌∙◌, map, arith}
use Rattle.std.proofs.lemmas.List.{drop_more}
use Rattle.ml_trees.specs.declared.module.UnitTree.{UnitTree}
use Rattle.ml_trees.specs.View.{view_unit}
use Rattle.shape_core.specs.Shape.{◌⊕◌, a_mod, none}
use Rattle.shape_core.specs.Node.{entries_of}
use Rattle.binding_model.specs.Scopes.{after_unit, after_units}
use Rattle.binding_model.specs.Taken.{taken, Going}
use Rattle.binding_model.specs.Walk.{units_steps}
use Rattle.binding_model.proofs.Takings.{heavy_stays}
use Rattle.name_resolve.proofs.Lemmas.{entries_appended}
use Rattle.expr_resolve.proofs.Forms.{passed}
use Rattle.mod_shape.proofs.project.units.Goals as goal

pub returns-in_err-shape-clause-heavy : goal.returns-in_err-shape-clause-heavy
returns-in_err-shape-clause-heavy c =
    let rest = drop (c.loop-tree.tree-index + 1) c.args.list.now in
    let d = drop_more c.args.list.now c.loop-tree.tree-index c.tree-item.result (omega (arith, c.loop-tree-test.true))
    ∙ ap (λ (x : UnitTree). x ∷ rest) (sym c.tree-item.is) in
    let sc = entries_of c.loop-tree.scope in
    let more = units_steps (after_unit sc (view_unit c.tree-item.result)) (map view_unit rest) in
    passed c.from_residual.result c.in_err-shape.field-0.0 c.args.found.now
    (units_steps (entries_of c.args.scope.now) (map view_unit c.args.list.now)) c.from_residual.ensures.0 c.from_residual.ensures.1
    (λ at h. sym c.loop-tree.invariant.0 ∙ ap (λ (l : List UnitTree). taken (Going c.loop-tree.found) (units_steps sc (map view_unit l))) d
    ∙ ap (λ s. taken s more) (c.in_err-shape.ensures.heavy at h) ∙ heavy_stays more at)

pub loop-tree-preserved : goal.loop-tree-preserved
loop-tree-preserved c =
    let rest = drop (c.loop-tree.tree-index + 1) c.args.list.now in
    let d = drop_more c.args.list.now c.loop-tree.tree-index c.tree-item.result (omega (arith, c.loop-tree-test.true))
    ∙ ap (λ (x : UnitTree). x ∷ rest) (sym c.tree-item.is) in
    let sc = entries_of c.loop-tree.scope in
    let u = view_unit c.tree-item.result in
    let e : entries_of c.push.new.self ≡ after_unit sc u =
    ap entries_of c.in_ok-push.ensures.pushed ∙ entries_appended c.unit.new.scope _
    ∙ ap (λ s. entries_of s ⊕ a_mod c.in_ok-name.name c.in_ok-shape.shape none) c.in_ok-shape.ensures.scope
    ∙ ap (λ k. sc ⊕ a_mod k c.in_ok-shape.shape none) (c.in_ok-name.ensures ∙ c.as_bytes.ensures)
    ∙ ap (λ k. sc ⊕ a_mod u.name k none) c.in_ok-shape.ensures.shape in (
      ap (λ x. taken (Going c.unit.new.found) (units_steps x (map view_unit rest))) e
          ∙ ap (λ k. taken k (units_steps (after_unit sc u) (map view_unit rest))) (sym c.in_ok-shape.ensures.taken)
          ∙ sym (ap (λ (l : List UnitTree). taken (Going c.loop-tree.found) (units_steps sc (map view_unit l))) d) ∙ c.loop-tree.invariant.0,
      ap (λ x. after_units x (map view_unit rest)) e ∙ sym (ap (λ (l : List UnitTree). after_units sc (map view_unit l)) d) ∙ c.loop-tree.invariant.1,
    )
