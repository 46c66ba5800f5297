use Rattle.std.proofs.Common.{take}
use Rattle.need_chains.specs.Rows.{HavePlaces, NamePlaces}
use Rattle.need_chains.proofs.rows.unit_places.Given as goal

-- the sources so far have places
abbrev pub invariant-loop-at : goal.invariant-loop-at
invariant-loop-at l = record {
  name : NamePlaces l.places l.sources;
  have : HavePlaces l.places (take l.at l.sources);
}
