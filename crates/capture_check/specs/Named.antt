-- The names of a project's binders, with a new one for some of them (own).
use Rattle.std.specs.Prelude.{ℕ, List, if◌then◌else◌}
use Rattle.std.specs.BTreeSet.{contains}
use Rattle.rotor_base.specs.declared.place.Place.{Place}
use Rattle.rotor_base.specs.Place.{place_cmp}
use Rattle.value_places.specs.Placed.{name_in}
use Rattle.capture_check.specs.declared.named.BinderNames.{BinderNames}

-- the name of a place: the new one of a place that is renamed, and else its own
abbrev pub named : BinderNames → Place → List ℕ
named names p = if contains place_cmp names.renamed.now p then names.new.now else name_in names.placed.now p
