use Rattle.std.proofs.Common.{◌∙◌, ap}
use Rattle.shape_core.specs.Index.{there, mod_at}
use Rattle.shape_core.proofs.Shown.{mod_there}
use Rattle.shape_core.proofs.index.Index.module.Goals as goal

pub returns : goal.returns
returns c = c.module_at.ensures ∙ ap (there mod_at c.args.list.now) (c.get.ensures ∙ c.requires.tables.mods c.args.name.now)
    ∙ mod_there c.args.list.now c.args.name.now
