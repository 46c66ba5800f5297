use Rattle.std.proofs.Common.{◌≡◌, ◌<◌, ℕ, suc, false}
use Rattle.need_chains.specs.Chains.{leads}
use Rattle.need_chains.specs.Distances.{distances}
use Rattle.need_chains.proofs.search.circle.Given as goal

-- the distances up to this number, and no chain with fewer units between leads back
abbrev pub invariant-loop-between : goal.invariant-loop-between
invariant-loop-between l = record {
  distances : l.distances.items ≡ distances (suc l.between) l.sources l.unit;
  none : (n : ℕ) → n < l.between → leads (suc n) l.sources l.unit l.unit ≡ false;
}
