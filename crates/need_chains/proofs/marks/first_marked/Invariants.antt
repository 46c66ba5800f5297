use Rattle.std.proofs.Common.{◌≡◌, None, drop}
use Rattle.std.specs.Option.{option_copied}
use Rattle.need_chains.specs.Chains.{first_marked}
use Rattle.need_chains.proofs.marks.first_marked.Given as goal

-- what is left decides
abbrev pub invariant-loop-source : goal.invariant-loop-source
invariant-loop-source l = first_marked (option_copied l.best) (drop l.source-index l.sources) l.left ≡ first_marked None l.sources l.marks
