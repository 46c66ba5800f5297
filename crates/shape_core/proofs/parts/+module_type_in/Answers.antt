use Rattle.std.proofs.Common.{◌∙◌, ap, sym}
use Rattle.std.specs.Prelude.{option_copied}
use Rattle.shape_core.specs.Node.{entries_of}
use Rattle.shape_core.specs.Parts.{part_list, parts_list}
use Rattle.shape_core.specs.Shape.{find_mty}
use Rattle.shape_core.proofs.Both.{mty_later, mty_earlier}
use Rattle.shape_core.proofs.Split.{split}
use Rattle.shape_core.proofs.parts.+module_type_in.Goals as goal

pub returns-in-Some-module_type : goal.returns-in-Some-module_type
returns-in-Some-module_type t c =
    let x = c.args.name.now in
    mty_later (parts_list c.in-Some.rest.now) (part_list c.in-Some.part.now) x c.in-Some-module_type.shape.now c.in-Some-module_type.ensures
    ∙ sym (ap (λ l. find_mty (entries_of l) x) (split c.args.parts.now c.in-Some.rest.now c.in-Some.part.now c.in-Some.ensures.cases.0))

pub returns-in-None-module_type : goal.returns-in-None-module_type
returns-in-None-module_type t c =
    let x = c.args.name.now in
    mty_earlier (parts_list c.in-Some.rest.now) (part_list c.in-Some.part.now) x (option_copied c.module_type_in.result) c.in-None-module_type.ensures
    c.module_type_in.ensures
    ∙ sym (ap (λ l. find_mty (entries_of l) x) (split c.args.parts.now c.in-Some.rest.now c.in-Some.part.now c.in-Some.ensures.cases.0))
