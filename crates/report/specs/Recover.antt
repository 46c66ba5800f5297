-- The lines of `recover`, and of a command that an open gate stops (own).
use Rattle.std.specs.Prelude.{ℕ, List, [], Bool, true, false, codes}
use Rattle.report.specs.Notice.{project}
use Rattle.report.specs.Lines.{number_line}
use Rattle.report.specs.Text.{ended, notice_text}
use Rattle.report.specs.Json.{notice_json}

-- the number of the files that are written
abbrev pub recovered_text : ℕ → List ℕ
recovered_text files = ended (number_line (codes "recovered") files)

-- the gate is not open
abbrev pub nothing_text : List ℕ
nothing_text = ended (codes "nothing to recover")

-- the gate is open, and there is no plan
abbrev pub bad_plan_text : List ℕ
bad_plan_text = notice_text (project (codes "badplan") [])

-- the gate is open for a command that writes: as JSON, and as a line
abbrev pub pending_text : Bool → List ℕ
pending_text true = notice_json (project (codes "pending") [])
pending_text false = notice_text (project (codes "pending") [])
