use Rattle.std.proofs.Common.{◌≡◌, drop, map}
use Rattle.std.specs.List.{list_any}
use Rattle.std.specs.Str.{bytes_eq}
use Rattle.need_chains.proofs.needs.is_among.Given as goal

-- what is left decides
abbrev pub invariant-loop-other : goal.invariant-loop-other
invariant-loop-other l =
    list_any (λ head. bytes_eq head l.name) (map (λ head. head.now) (drop l.other-index l.names))
    ≡ list_any (λ head. bytes_eq head l.name) (map (λ head. head.now) l.names)
