use Rattle.std.proofs.Common.{◌∙◌, ◌++◌, ap}
use Rattle.shape_core.specs.Shape.{none, values_from}
use Rattle.shape_core.specs.Node.{and_then}
use Rattle.shape_core.proofs.Telling.{front_of, value_left}
use Rattle.shape_core.proofs.index.take_value_out.Goals as goal

pub returns-in-Val : goal.returns-in-Val
returns-in-Val c front n h = c.pop.ensures.rest
    ∙ front_of c.args.values.now front n (h ∙ ap (λ d. front ++ values_from n (and_then d none)) c.in-Val.is)

pub returns-in-Mod : goal.returns-in-Mod
returns-in-Mod c front n h = value_left c.args.values.now.items front c.args.entry.now n (ap (λ d. values_from n (and_then d none)) c.in-Mod.is) h

pub returns-in-Mty : goal.returns-in-Mty
returns-in-Mty c front n h = value_left c.args.values.now.items front c.args.entry.now n (ap (λ d. values_from n (and_then d none)) c.in-Mty.is) h

pub returns-in-Dark : goal.returns-in-Dark
returns-in-Dark c front n h = value_left c.args.values.now.items front c.args.entry.now n (ap (λ d. values_from n (and_then d none)) c.in-Dark.is) h
