-- Places and goals compared (own).
use Rattle.std.specs.Prelude.{◌≡◌, ◌<◌, ◌⊎◌, Bool, true, false, ◌==◌, ◌&&◌, Option, Some, None}
use Rattle.std.specs.Ordering.{nat_cmp, ordering_then}
use Rattle.std.specs.declared.cmp.Ordering.{Ordering}
use Rattle.rotor_base.specs.declared.place.Place.{Place}
use Rattle.rotor_base.specs.declared.place.Goal.{Goal}
use Rattle.rotor_base.specs.declared.place.Goal.TheVariants.{Decl, Outside, Missing, Hidden, Blur}

-- two places are one
abbrev pub same_place : Place → Place → Bool
same_place p q = p.file == q.file && p.token == q.token

-- the order of places: by file, then token
abbrev pub IsBefore : Place → Place → Type 0
IsBefore p q = (p.file < q.file) ⊎ ((p.file ≡ q.file) × (p.token < q.token))

-- how two places compare: by file, then token
abbrev pub place_cmp : Place → Place → Ordering
place_cmp p q = ordering_then (nat_cmp p.file q.file) (nat_cmp p.token q.token)

-- two optional places are one
abbrev pub same_behind : Option Place → Option Place → Bool
same_behind None None = true
same_behind (Some p) (Some q) = same_place p q
same_behind _ _ = false

-- two goals are one
abbrev pub same_goal : Goal → Goal → Bool
same_goal (Decl p) (Decl q) = same_place p q
same_goal Outside Outside = true
same_goal Missing Missing = true
same_goal Hidden Hidden = true
same_goal (Blur p m b) (Blur q n c) = same_place p q && m == n && same_behind b c
same_goal _ _ = false
