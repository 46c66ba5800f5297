use Rattle.std.proofs.Common.{◌+◌, ◌∷◌, drop, sym, ap, ◌∙◌, arith}
use Rattle.std.proofs.lemmas.List.{drop_more}
use Rattle.ml_trees.specs.declared.expression.LocalArgument.{LocalArgument}
use Rattle.ml_trees.specs.View.{locals}
use Rattle.shape_core.specs.Node.{entries_of}
use Rattle.binding_model.specs.Scopes.{applied, local_applied}
use Rattle.binding_model.specs.Taken.{taken, Going}
use Rattle.binding_model.specs.Walk.{locals_steps}
use Rattle.pattern_resolve.proofs.LocalViews.{one_more_local, one_more_applied}
use Rattle.pattern_resolve.proofs.local.+local.Goals as goal

pub local_module-loop-part-preserved : goal.local_module-loop-part-preserved
local_module-loop-part-preserved t c =
    let sc = entries_of c.args.scope.now in
    let rest = drop (c.loop-part.part-index + 1) c.deref-part-items.result.now in
    let d = drop_more c.deref-part-items.result.now c.loop-part.part-index c.part-item.result (omega (arith, c.loop-part-test.true))
    ∙ ap (λ (x : LocalArgument). x ∷ rest) (sym c.part-item.is) in (
      ap (λ s. taken (Going c.local_argument.new.found) (locals_steps sc s (locals rest))) c.in_ok-shape-2.ensures.shape
          ∙ sym (ap (λ s. taken s (locals_steps sc (applied c.loop-part.shape) (locals rest))) c.in_ok-shape-2.ensures.taken)
          ∙ sym (one_more_local (Going c.loop-part.found) sc c.loop-part.shape c.part-item.result (locals rest))
          ∙ sym (ap (λ l. taken (Going c.loop-part.found) (locals_steps sc c.loop-part.shape (locals l))) d) ∙ c.loop-part.invariant.0,
      ap (λ s. local_applied s (locals rest)) c.in_ok-shape-2.ensures.shape
          ∙ sym (one_more_applied c.loop-part.shape c.part-item.result (locals rest))
          ∙ sym (ap (λ l. local_applied c.loop-part.shape (locals l)) d) ∙ c.loop-part.invariant.1,
    )
