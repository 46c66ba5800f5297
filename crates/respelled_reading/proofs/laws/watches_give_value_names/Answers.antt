use Rattle.respelled_reading.proofs.Renamed as proof
use Rattle.respelled_reading.proofs.laws.watches_give_value_names.Goals as goal

pub returns : goal.returns
returns c = proof.watches_give_value_names
