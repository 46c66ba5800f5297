use Rattle.std.proofs.Common.{◌∙◌, ap, ◌-◌, length, slice_get}
use Rattle.shape_core.specs.Shape as pure
use Rattle.shape_core.specs.Node.{entries_of}
use Rattle.shape_core.proofs.Shown.{last_get}
use Rattle.shape_core.proofs.Telling.{len_of}
use Rattle.shape_core.proofs.index.Index.darks.Goals as goal

pub returns-clause-number : goal.returns-clause-number
returns-clause-number c list h = c.len.ensures ∙ len_of c.args.self.now.tables.darks ∙ ap length h.tables.darks

pub returns-clause-last : goal.returns-clause-last
returns-clause-last c list h =
    c.copied.ensures ∙ c.last.ensures.value ∙ ap (λ l. slice_get l (length l - 1)) (c.deref.ensures.value ∙ h.tables.darks)
    ∙ last_get (pure.darks (entries_of list))
