use Rattle.std.proofs.Common.{◌≡◌, ◌++◌, drop, map}
use Rattle.need_chains.specs.Needs.{heads_in}
use Rattle.need_chains.proofs.needs.heads_in.Given as goal

-- the heads so far and those of what is left are those of all
abbrev pub invariant-loop-source : goal.invariant-loop-source
invariant-loop-source l = map (λ head. head.now) l.heads.items ++ heads_in (drop l.source-index l.sources) l.unit ≡ heads_in l.sources l.unit
