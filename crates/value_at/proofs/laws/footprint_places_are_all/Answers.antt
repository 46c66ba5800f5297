use Rattle.value_at.proofs.Sorting.{places_are_all, places_are_in_order}
use Rattle.value_at.proofs.laws.footprint_places_are_all.Goals as goal

pub returns : goal.returns
returns c = record { all = places_are_all; order = places_are_in_order }
