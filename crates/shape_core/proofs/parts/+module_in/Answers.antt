use Rattle.std.proofs.Common.{◌∙◌, ap, sym}
use Rattle.std.specs.Prelude.{option_copied}
use Rattle.shape_core.specs.Node.{entries_of}
use Rattle.shape_core.specs.Parts.{part_list, parts_list}
use Rattle.shape_core.specs.Shape.{find_mod}
use Rattle.shape_core.proofs.Both.{mod_later, mod_earlier}
use Rattle.shape_core.proofs.Split.{split}
use Rattle.shape_core.proofs.parts.+module_in.Goals as goal

pub returns-in-Some-module : goal.returns-in-Some-module
returns-in-Some-module t c =
    let x = c.args.name.now in
    mod_later (parts_list c.in-Some.rest.now) (part_list c.in-Some.part.now) x c.in-Some-module.shape.now c.in-Some-module.ensures
    ∙ sym (ap (λ l. find_mod (entries_of l) x) (split c.args.parts.now c.in-Some.rest.now c.in-Some.part.now c.in-Some.ensures.cases.0))

pub returns-in-None-module : goal.returns-in-None-module
returns-in-None-module t c =
    let x = c.args.name.now in
    mod_earlier (parts_list c.in-Some.rest.now) (part_list c.in-Some.part.now) x (option_copied c.module_in.result) c.in-None-module.ensures
    c.module_in.ensures
    ∙ sym (ap (λ l. find_mod (entries_of l) x) (split c.args.parts.now c.in-Some.rest.now c.in-Some.part.now c.in-Some.ensures.cases.0))
