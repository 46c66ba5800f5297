use Rattle.edits.proofs.Undo.{gives_back, can_go_back}
use Rattle.edits.proofs.replacing_is_undone.Goals as goal

pub returns : goal.returns
returns c = record { back = gives_back; fits = can_go_back }
