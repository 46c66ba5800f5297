use Rattle.edits.proofs.Pieces.{rest_is_pieces}
use Rattle.edits.proofs.replacing_keeps_the_rest.Goals as goal

pub returns : goal.returns
returns c = record { kept = λ src edits h. rest_is_pieces 0 src edits h }
