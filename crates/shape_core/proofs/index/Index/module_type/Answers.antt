use Rattle.std.proofs.Common.{◌∙◌, ap}
use Rattle.shape_core.specs.Index.{there, mty_at}
use Rattle.shape_core.proofs.Shown.{mty_there}
use Rattle.shape_core.proofs.index.Index.module_type.Goals as goal

pub returns : goal.returns
returns c = c.module_type_at.ensures ∙ ap (there mty_at c.args.list.now) (c.get.ensures ∙ c.requires.tables.mtys c.args.name.now)
    ∙ mty_there c.args.list.now c.args.name.now
