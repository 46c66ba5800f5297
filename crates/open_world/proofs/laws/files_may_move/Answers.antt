use Rattle.open_world.proofs.Moved.{numbers_stay}
use Rattle.open_world.proofs.laws.files_may_move.Goals as goal

pub returns : goal.returns
returns c = numbers_stay
