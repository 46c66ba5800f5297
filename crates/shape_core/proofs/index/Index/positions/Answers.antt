use Rattle.std.proofs.Common.{◌∙◌}
use Rattle.shape_core.proofs.index.Index.positions.Goals as goal

pub returns : goal.returns
returns c list h = c.deref.ensures.value ∙ h.values
