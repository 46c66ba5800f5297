-- The binders among places (own).
use Rattle.std.specs.Prelude.{List, filter, map}
use Rattle.rotor_base.specs.declared.place.Place.{Place}
use Rattle.value_sites.specs.Places.{Site}

-- the binders among places
abbrev pub binding : List (Place × Site) → List (Place × Site)
binding ps = filter (λ e. e.1.binds) ps

-- where they are
abbrev pub binder_places : List (Place × Site) → List Place
binder_places ps = map (λ e. e.0) (binding ps)
