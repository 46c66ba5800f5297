use Rattle.std.proofs.Common.{◌∙◌, ◌++◌, ap, sym}
use Rattle.shape_core.specs.Node.{entries_of}
use Rattle.shape_core.specs.Parts.{parts_list}
use Rattle.shape_core.specs.Shape.{find_val}
use Rattle.shape_core.proofs.Both.{seen_if_later}
use Rattle.shape_core.proofs.Telling.{sees_val}
use Rattle.shape_core.proofs.scope.val_in.Goals as goal

pub returns-then-is_some : goal.returns-then-is_some
returns-then-is_some c =
    let s = c.scope.inside in
    let x = c.args.name.now in
    let list = parts_list s.parts.items in
    c.goal.ensures
    ∙ sees_val (entries_of (list ++ s.last)) x c.seen-seen.result
    (seen_if_later list s.last x c.seen-seen.result (sym c.is_some.ensures ∙ c.if-is_some.true) c.seen-seen.ensures)
    ∙ ap (λ l. find_val (entries_of l) x) c.scope.view_is
