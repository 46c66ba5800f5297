use Rattle.std.proofs.Common.{◌∙◌, sym}
use Rattle.module_openings.proofs.Paths.{no_bracket}
use Rattle.module_openings.proofs.openings.opens_bracket.Goals as goal

pub returns : goal.returns
returns c = sym (no_bracket c.loop-rest.rest.now c.in_default.len_below) ∙ c.loop-rest.invariant
