use Rattle.rename_laws.proofs.Accepted as proof
use Rattle.rename_laws.proofs.laws.shown_footprints_are_least.Goals as goal

pub returns : goal.returns
returns c = record { least = proof.shown_are_least; outside = proof.shown_outside_is_kept }
