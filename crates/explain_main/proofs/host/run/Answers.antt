use Rattle.std.proofs.Common.{inr}
use Rattle.explain_main.specs.declared.code.ExitStatus.TheVariants.{Memory}
use Rattle.explain_main.proofs.host.run.Goals as goal

pub returns-in-Err : goal.returns-in-Err
returns-in-Err g c = inr (Memory, c.exit_code.ensures)
