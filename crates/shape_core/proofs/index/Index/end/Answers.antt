use Rattle.std.proofs.Common.{◌∙◌, sym}
use Rattle.shape_core.proofs.Telling.{befores_length}
use Rattle.shape_core.proofs.index.Index.end.Goals as goal

pub returns-clause-number : goal.returns-clause-number
returns-clause-number c list h = c.len.ensures ∙ sym (befores_length c.args.self.now.befores list h.befores)
