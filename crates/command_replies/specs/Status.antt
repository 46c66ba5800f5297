-- The exit codes of the statuses (own).
use Rattle.std.specs.Prelude.{ℕ}
use Rattle.command_replies.specs.declared.status.Status.{Status}
use Rattle.command_replies.specs.declared.status.Status.TheVariants.{Done, Refused, Usage, Project, TreeFault, SinkFault, Memory}

abbrev pub code_of : Status → ℕ
code_of Done = 0
code_of Refused = 1
code_of Usage = 2
code_of Project = 3
code_of TreeFault = 4
code_of SinkFault = 5
code_of Memory = 6
