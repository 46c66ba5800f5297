use Rattle.std.proofs.Common.{◌≡◌, ◌++◌, map}
use Rattle.std.specs.List.{filter}
use Rattle.ml_syntax.specs.Sites.{view_sites}
use Rattle.ml_syntax.proofs.place.puns.Given as goal

abbrev pub invariant-loop-site : goal.invariant-loop-site
invariant-loop-site l = l.tokens.items ++ map (λ x. x.at) (filter (λ x. x.pun) (view_sites l.site-iterator.rest.items)) ≡ map (λ x. x.at)
    (filter (λ x. x.pun) (view_sites l.initial.site-iterator.rest.items))
