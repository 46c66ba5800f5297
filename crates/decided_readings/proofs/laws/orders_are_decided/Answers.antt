use Rattle.decided_readings.proofs.Orders as proof
use Rattle.decided_readings.proofs.laws.orders_are_decided.Goals as goal

pub returns : goal.returns
returns c = proof.orders_are_decided
