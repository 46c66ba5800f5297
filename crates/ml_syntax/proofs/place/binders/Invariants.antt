use Rattle.std.proofs.Common.{◌≡◌, ◌++◌, map}
use Rattle.std.specs.List.{filter}
use Rattle.value_sites.specs.Places.{mark}
use Rattle.ml_syntax.specs.Sites.{view_sites}
use Rattle.ml_syntax.proofs.place.binders.Given as goal

abbrev pub invariant-loop-site : goal.invariant-loop-site
invariant-loop-site l = l.marks.items ++ map mark (filter (λ x. x.binds) (view_sites l.site-iterator.rest.items)) ≡ map mark
    (filter (λ x. x.binds) (view_sites l.initial.site-iterator.rest.items))
