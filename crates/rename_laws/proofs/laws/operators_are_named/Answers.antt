use Rattle.rename_laws.proofs.Operators as proof
use Rattle.rename_laws.proofs.laws.operators_are_named.Goals as goal

pub returns : goal.returns
returns c = record {
  binder = proof.operators_are_named;
  target = proof.operators_are_of_the_target;
  apart = proof.operator_names_are_no_value_names;
}
