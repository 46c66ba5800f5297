use Rattle.lsp_frames.proofs.Single.{one_reading}
use Rattle.lsp_frames.proofs.laws.readings_are_one.Goals as goal

pub returns : goal.returns
returns c = one_reading
