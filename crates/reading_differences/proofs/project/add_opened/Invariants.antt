use Rattle.std.proofs.Common.{◌≡◌, ◌++◌, drop, map}
use Rattle.reading_differences.specs.Differences.{opened_use}
use Rattle.reading_differences.proofs.project.add_opened.Given as goal

-- those found so far and those of what is left are those of all
abbrev pub invariant-loop-used : goal.invariant-loop-used
invariant-loop-used l = l.found.items ++ map opened_use (drop l.used-index l.used-items) ≡ l.fn.found.items ++ map opened_use l.used-items
