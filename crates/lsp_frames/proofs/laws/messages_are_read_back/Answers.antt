use Rattle.lsp_frames.proofs.Round.{comes_back}
use Rattle.lsp_frames.proofs.laws.messages_are_read_back.Goals as goal

pub returns : goal.returns
returns c = comes_back
