use Rattle.std.proofs.Common.{◌∙◌, ap, sym, subst, take, arith}
use Rattle.shape_core.specs.Shape as pure
use Rattle.shape_core.specs.Shape.{◌⊕◌}
use Rattle.shape_core.specs.View.{view_then, entries, Sees}
use Rattle.shape_core.proofs.Views.{entries_more}
use Rattle.shape_core.proofs.shape.find_val.Goals as goal

pub loop-entry-preserved : goal.loop-entry-preserved
loop-entry-preserved c =
    let xs = c.args.list.now in
    let i = c.loop-entry.entry-index in
    let more = entries_more xs i c.entry-item.result c.loop-entry-test.true ∙ ap (λ z. entries (take i xs) ⊕ view_then z pure.none)
    (sym c.entry-item.is) in
    let bound = c.loop-entry.invariant.1 in (
      subst (λ l. Sees l c.args.name.now c.see-seen.result) (sym more) (c.see-seen.ensures.sees (entries (take i xs)) c.loop-entry.invariant.0),
      omega (arith, bound, c.see-seen.ensures.bound),
    )
