use Rattle.std.proofs.Common.{◌∙◌}
use Rattle.shape_core.proofs.Telling.{sees_val}
use Rattle.shape_core.proofs.index.Index.val.Goals as goal

pub returns : goal.returns
returns c list h = c.goal.ensures ∙ sees_val _ _ c.find_seen.result (c.find_seen.ensures list h.tables)
