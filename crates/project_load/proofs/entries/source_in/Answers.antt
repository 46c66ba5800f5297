use Rattle.project_load.proofs.ListWords.{no_text}
use Rattle.project_load.proofs.entries.source_in.Goals as goal

pub returns-in_default-clause-none : goal.returns-in_default-clause-none
returns-in_default-clause-none c = no_text c.args.bytes.now c.in_default.ensures.cases.0
