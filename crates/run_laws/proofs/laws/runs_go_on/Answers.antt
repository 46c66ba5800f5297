use Rattle.run_laws.proofs.Runs as proof
use Rattle.run_laws.proofs.laws.runs_go_on.Goals as goal

pub returns : goal.returns
returns c = record { same = proof.more_fuel_is_the_same; beginning = proof.more_fuel_prints_on }
