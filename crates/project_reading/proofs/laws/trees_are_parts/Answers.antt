use Rattle.project_reading.proofs.Twins as proof
use Rattle.project_reading.proofs.laws.trees_are_parts.Goals as goal

pub returns : goal.returns
returns c = record { trees = proof.trees_are_parts; parts = proof.parts_are_trees }
