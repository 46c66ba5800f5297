use Rattle.std.proofs.Common.{◌≡◌, ◌∙◌, true, false, sym}
use Rattle.rename_batch.proofs.Words.{not_empty}
use Rattle.rename_batch.proofs.reading.word_in.Goals as goal

pub returns-then-has_space-clause-none : goal.returns-then-has_space-clause-none
returns-then-has_space-clause-none c = λ word. let bad : true ≡ false = sym c.if-has_space.true ∙ c.has_space.ensures ∙ word.whole in cc

pub returns-in-Ok-clause-word : goal.returns-in-Ok-clause-word
returns-in-Ok-clause-word c = record {
  text = c.in-Ok.ensures.cases.1;
  some = not_empty c.args.bytes.now c.is_empty.result c.is_empty.ensures c.if-is_empty.false;
  whole = sym c.has_space.ensures ∙ c.if-has_space.false;
}
