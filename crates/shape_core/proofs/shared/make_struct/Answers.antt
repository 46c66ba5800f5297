use Rattle.std.proofs.Common.{◌≡◌, ◌∙◌, ap, sym, subst, take, List, arith}
use Rattle.std.proofs.lemmas.Grind.{common_steps}
use Rattle.shape_core.specs.Shape as pure
use Rattle.shape_core.specs.declared.shared.SharedEntry.{SharedEntry}
use Rattle.shape_core.specs.Node.{entries_of}
use Rattle.shape_core.specs.Contents.{HasContents}
use Rattle.shape_core.proofs.Telling.{taken, weights_taken, depths_taken}
use Rattle.shape_core.proofs.Weights.{plus_capped}
use Rattle.std.specs.Prelude.{max}
use Rattle.shape_core.proofs.shared.make_struct.Goals as goal

pub add-requires : goal.add-requires
add-requires c = (take c.loop-entry.entry-index c.deref-entry-items.result.now, c.loop-entry.invariant.0)

pub loop-entry-preserved : goal.loop-entry-preserved
loop-entry-preserved c =
    let list = c.deref-entry-items.result.now in
    let i = c.loop-entry.entry-index in
    let d = c.entry-item.result in
    let m : c.max-levels.result ≡ max c.loop-entry.levels c.levels_of_entry.result = grind (arith, common_steps) in (
      subst (λ (l : List SharedEntry). HasContents c.add.new.self l) (sym (taken list i d c.loop-entry-test.true c.entry-item.is))
          (c.in_ok-add.ensures (take i list) c.loop-entry.invariant.0),
      c.add_capped-weight.ensures ∙ plus_capped _ _ _ _ c.loop-entry.invariant.1 c.weight_of_entry.ensures
          ∙ ap pure.capped (sym (weights_taken list i d c.loop-entry-test.true c.entry-item.is)),
      m ∙ ap (λ n. max n c.levels_of_entry.result) c.loop-entry.invariant.2
          ∙ ap (max (pure.depths (entries_of (take i list)))) c.levels_of_entry.ensures
          ∙ sym (depths_taken list i d c.loop-entry-test.true c.entry-item.is),
    )
