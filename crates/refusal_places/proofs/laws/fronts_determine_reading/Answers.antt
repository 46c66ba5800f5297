use Rattle.refusal_places.proofs.Reading.{fronts_determine_reading}
use Rattle.refusal_places.proofs.laws.fronts_determine_reading.Goals as goal

pub returns : goal.returns
returns c = fronts_determine_reading
