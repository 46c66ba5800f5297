use Rattle.std.proofs.Common.{◌≡◌, ℕ, List, length}
use Rattle.ml_trees.specs.Tok.{Tok}
use Rattle.module_parts.specs.Arrows.{read_so, before_arrows}
use Rattle.module_parts.proofs.arrows.with_arrows.Given as goal

-- with what was read so far, what is left gives the whole
abbrev pub invariant-loop-domain : goal.invariant-loop-domain
invariant-loop-domain l = (end : ℕ → List Tok) → before_arrows end l.fn.before.items (read_so end l.fn.last) ≡ before_arrows end l.before.items
    (read_so end l.whole)

abbrev pub decreases-loop-domain : goal.decreases-loop-domain
decreases-loop-domain l = length l.before.items
