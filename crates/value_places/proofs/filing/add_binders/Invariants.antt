use Rattle.std.proofs.Common.{◌≡◌, ◌++◌, filter, map, take}
use Rattle.binding_model.specs.Scopes.{here}
use Rattle.value_places.proofs.filing.add_binders.Given as goal

-- the binders so far
abbrev pub invariant-loop-site : goal.invariant-loop-site
invariant-loop-site l = l.list.items ≡ l.fn.list.items ++ map (λ x. here l.file x.token) (filter (λ x. x.binds) (take l.site-index l.sites))
