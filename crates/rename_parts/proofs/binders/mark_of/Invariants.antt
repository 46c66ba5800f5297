use Rattle.std.proofs.Common.{◌≡◌, ◌==◌, drop}
use Rattle.rename_model.specs.Target.{first_at}
use Rattle.rename_parts.proofs.Searches.{counted}
use Rattle.rename_parts.proofs.binders.mark_of.Given as goal

-- it is among those that are left
abbrev pub invariant-loop-at : goal.invariant-loop-at
invariant-loop-at l = counted l.at (first_at (λ m. m.token == l.token) (drop l.at l.marks)) ≡ first_at (λ m. m.token == l.token) l.marks
