use Rattle.std.proofs.Common.{◌∙◌, ap}
use Rattle.std.specs.Prelude.{option_copied}
use Rattle.shape_core.specs.Node.{entries_of}
use Rattle.shape_core.specs.Parts.{parts_list}
use Rattle.shape_core.specs.Shape.{find_mty}
use Rattle.shape_core.proofs.Both.{mty_later, mty_earlier}
use Rattle.shape_core.proofs.scope.mty_in.Goals as goal

pub returns-in-Some : goal.returns-in-Some
returns-in-Some c =
    let s = c.scope.inside in
    let x = c.args.name.now in
    mty_later (parts_list s.parts.items) s.last x c.in-Some.shape.now c.in-Some.ensures ∙ ap (λ l. find_mty (entries_of l) x) c.scope.view_is

pub returns-in-None : goal.returns-in-None
returns-in-None c =
    let s = c.scope.inside in
    let x = c.args.name.now in
    mty_earlier (parts_list s.parts.items) s.last x (option_copied c.module_type_in.result) c.in-None.ensures
    (c.module_type_in.ensures ∙ ap (λ l. find_mty (entries_of (parts_list l)) x) c.deref.ensures.value)
    ∙ ap (λ l. find_mty (entries_of l) x) c.scope.view_is
