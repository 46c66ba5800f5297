use Rattle.std.proofs.Common.{◌≡◌, List, ℕ, sym, subst}
use Rattle.std.specs.List.Sorted.{IsNonDecreasing}
use Rattle.text_rows.proofs.Counted.{counts_on, counts_rise}
use Rattle.text_rows.proofs.texts.positions_answer.Goals as goal

pub loop-offset-preserved : goal.loop-offset-preserved
loop-offset-preserved c = counts_on c.loop-offset.offsets.items _ c.loop-offset.offset c.loop-offset.invariant c.in_ok-push.ensures.items

pub positions_of-requires-clause-ordered : goal.positions_of-requires-clause-ordered
positions_of-requires-clause-ordered c =
    let P : List ℕ → Type 0 = λ xs. IsNonDecreasing xs in
    subst P (sym c.deref.ensures.value) (counts_rise c.loop-offset.offsets.items c.loop-offset.offset c.loop-offset.invariant)
