use Rattle.std.proofs.Common.{◌≡◌, ◌∙◌, true, false, sym}
use Rattle.project_load.proofs.ListWords.{no_name}
use Rattle.project_load.proofs.entries.file_in.Goals as goal

pub returns-then-has_space-clause-none : goal.returns-then-has_space-clause-none
returns-then-has_space-clause-none c =
    λ whole _. let bad : true ≡ false = sym c.if-has_space.true ∙ c.has_space.ensures ∙ whole in cc

pub returns-in_default-clause-none : goal.returns-in_default-clause-none
returns-in_default-clause-none c = λ _ listed. no_name c.args.folder.now c.args.bytes.now c.in_default.ensures.cases.0 listed

pub returns-clause-whole : goal.returns-clause-whole
returns-clause-whole c = sym c.has_space.ensures ∙ c.if-has_space.false
