use Rattle.std.proofs.Common.{◌≡◌, ◌++◌, drop, map}
use Rattle.need_chains.proofs.needs.push_heads.Given as goal

-- the heads so far and those that are left are all
abbrev pub invariant-loop-head : goal.invariant-loop-head
invariant-loop-head l =
    map (λ head. head.now) l.heads.items ++ drop l.head-index l.more ≡ map (λ head. head.now) l.fn.heads.items ++ l.more
