use Rattle.std.proofs.Common.{rules}
use Rattle.lsp_frames.specs.Header.{field_of}
use Rattle.lsp_frames.proofs.header.field_of.Goals as goal

pub returns-then-not-ends_with : goal.returns-then-not-ends_with
unfolding field_of
returns-then-not-ends_with c = search rules

pub returns : goal.returns
unfolding field_of
returns c = search rules
