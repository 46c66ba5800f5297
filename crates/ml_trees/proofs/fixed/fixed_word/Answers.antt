use Rattle.std.proofs.Common.{◌∙◌}
use Rattle.ml_trees.proofs.FirstByte.{none_empty, found_there}
use Rattle.ml_trees.proofs.fixed.fixed_word.Goals as goal

pub returns-in_err-first : goal.returns-in_err-first
returns-in_err-first c = c.from_residual.ensures ∙ none_empty c.args.bytes.now c.in_err-first.ensures.value

pub returns : goal.returns
returns c =
    found_there (λ s. s.0.now) (λ s. s.1) c.spellings.result.now c.in_ok-first.first.now c.find_fixed.result c.args.bytes.now c.spellings.ensures
    c.in_ok-first.ensures.value c.find_fixed.ensures
