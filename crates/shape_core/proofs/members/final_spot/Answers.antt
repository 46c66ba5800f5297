use Rattle.std.proofs.Common.{◌∙◌}
use Rattle.shape_core.proofs.Noted.{final_get}
use Rattle.shape_core.proofs.members.final_spot.Goals as goal

pub returns : goal.returns
returns c = c.copied.ensures ∙ c.last.ensures.value ∙ final_get c.args.spots.now
