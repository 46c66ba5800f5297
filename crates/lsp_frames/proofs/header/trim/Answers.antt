use Rattle.std.proofs.Common.{rules}
use Rattle.lsp_frames.specs.Lines.{trim}
use Rattle.lsp_frames.proofs.header.trim.Goals as goal

pub returns : goal.returns
unfolding trim
returns c = search rules
