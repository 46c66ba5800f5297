use Rattle.std.proofs.Common.{◌≡◌, drop}
use Rattle.binding_model.proofs.comparing.same_groups.Given as goal

-- the lists are one exactly if what is left of them is
abbrev pub invariant-loop-group : goal.invariant-loop-group
invariant-loop-group l = (drop l.group-index l.old ≡ l.rest → l.fn.old ≡ l.fn.new) × (l.fn.old ≡ l.fn.new → drop l.group-index l.old ≡ l.rest)
