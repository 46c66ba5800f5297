use Rattle.std.proofs.Common.{inr}
use Rattle.command_replies.specs.declared.status.Status.TheVariants.{Memory}
use Rattle.rotor_main.proofs.run.Goals as goal

pub returns-in-Err : goal.returns-in-Err
returns-in-Err g c = inr (Memory, c.exit_code.ensures)
