use Rattle.std.proofs.Common.{◌<◌, sym, ap, subst, ◌∙◌, Some, [], false, List, length}
use Rattle.value_sites.specs.declared.mark.Mark.{Mark}
use Rattle.ml_trees.specs.View.{view_file}
use Rattle.rename_parts.proofs.Marks.{elsewhere, found_mark, picked, whatever_default}
use Rattle.rename_parts.proofs.binders.binder_of.Goals as goal

pub returns-then-number_of_file-place : goal.returns-then-number_of_file-place
returns-then-number_of_file-place c = elsewhere (view_file c.args.tree.now) c.number_of_file.result c.args.place c.number_of_file.ensures
    c.if-number_of_file-place.true

pub returns-in-None : goal.returns-in-None
returns-in-None c =
    let ms = c.deref.result.now in
    ap (picked ms) c.in-None.ensures.found
    ∙ sym (found_mark (view_file c.args.tree.now) c.number_of_file.result c.args.place ms c.number_of_file.ensures c.if-number_of_file-place.false
    (c.deref.ensures.value ∙ c.in_ok-marks.ensures))

pub returns : goal.returns
returns c =
    let ms = c.deref.result.now in
    let marks = c.in_ok-marks.marks.items in
    let within : c.in-Some.at < length marks = subst (λ (l : List Mark). c.in-Some.at < length l) c.deref.ensures.value c.in-Some.ensures.within in
    ap Some (c.swap_remove.ensures.value ∙ whatever_default marks c.in-Some.at _ (record { token = 0; name = []; pun = false; operator = false })
    within)
    ∙ (ap (λ (l : List Mark). picked l (Some c.in-Some.at)) (sym c.deref.ensures.value)
    ∙ (ap (picked ms) c.in-Some.ensures.found
    ∙ sym (found_mark (view_file c.args.tree.now) c.number_of_file.result c.args.place ms c.number_of_file.ensures c.if-number_of_file-place.false
    (c.deref.ensures.value ∙ c.in_ok-marks.ensures))))
