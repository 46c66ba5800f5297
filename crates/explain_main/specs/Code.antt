-- The exit codes of the program (own).
use Rattle.std.specs.Prelude.{ℕ}
use Rattle.explain.specs.declared.ending.Ending.{Ending}
use Rattle.explain.specs.declared.ending.Ending.TheVariants as ending
use Rattle.explain_main.specs.declared.code.ExitStatus.{ExitStatus}
use Rattle.explain_main.specs.declared.code.ExitStatus.TheVariants as status

abbrev pub code_of : ExitStatus → ℕ
code_of status.Done = 0
code_of status.Refused = 1
code_of status.Usage = 2
code_of status.Project = 3
code_of status.TreeFault = 4
code_of status.SinkFault = 5
code_of status.Memory = 6

-- how the program ends behind an explanation
abbrev pub status_of : Ending → ExitStatus
status_of ending.Done = status.Done
status_of ending.Refused = status.Refused
status_of ending.Project = status.Project
