use Rattle.facts_laws.proofs.Feet as proof
use Rattle.facts_laws.proofs.Found as found
use Rattle.facts_laws.proofs.laws.footprints_part.Goals as goal

pub returns : goal.returns
returns c = record {
  exist = found.footprints_exist;
  cover = proof.footprints_cover;
  apart = proof.footprints_are_apart;
  members = proof.members_share_footprints;
}
