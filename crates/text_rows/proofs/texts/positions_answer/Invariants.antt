use Rattle.text_rows.proofs.Counted.{Counts}
use Rattle.text_rows.proofs.texts.positions_answer.Given as goal

abbrev pub invariant-loop-offset : goal.invariant-loop-offset
invariant-loop-offset l = Counts l.offsets.items l.offset
