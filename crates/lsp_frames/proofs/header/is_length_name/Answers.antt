use Rattle.std.proofs.Common.{rules, arith}
use Rattle.std.proofs.lemmas.Grind.{common_steps}
use Rattle.lsp_frames.specs.Header.{is_length_name}
use Rattle.lsp_frames.proofs.header.is_length_name.Goals as goal

pub returns : goal.returns
unfolding is_length_name
returns c = first_of (search rules, grind (arith, common_steps))
