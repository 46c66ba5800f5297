use Rattle.std.proofs.Common.{◌≡◌, ◌∙◌, List, length, map, sym, subst}
use Rattle.edits.specs.Replaced.{replaced}
use Rattle.source_edits.specs.declared.text_edit.TextEdit.{TextEdit}
use Rattle.source_edits.specs.Edited.{IsEdited}
use Rattle.source_edits.specs.Renamed.{edit_of, text_edit_of}
use Rattle.source_edits.proofs.Applied.{edits_give_replaced, made_of_all, order_of}
use Rattle.source_edits.proofs.text_edit.text_edits.Goals as goal

pub ranges_of-requires-clause-ordered : goal.ranges_of-requires-clause-ordered
ranges_of-requires-clause-ordered c = order_of 0 (length c.args.source.now) c.args.new.now c.args.spans.now c.requires.spans

pub returns-clause-each : goal.returns-clause-each
returns-clause-each c =
    made_of_all c.args.counting c.args.source.now c.args.new.now c.args.spans.now c.deref-range-items.result.now c.loop-range.range-index
    c.loop-range.list.items c.loop-range.invariant c.loop-range-test.false (c.deref-range-items.ensures.value ∙ c.in_ok-ranges.ensures)

pub returns-clause-edited : goal.returns-clause-edited
returns-clause-edited c =
    let source = c.args.source.now in
    let new = c.args.new.now in
    let made : c.loop-range.list.items ≡ map (text_edit_of c.args.counting source new) c.args.spans.now
    = made_of_all c.args.counting source new c.args.spans.now c.deref-range-items.result.now c.loop-range.range-index
    c.loop-range.list.items c.loop-range.invariant c.loop-range-test.false (c.deref-range-items.ensures.value ∙ c.in_ok-ranges.ensures) in
    let P : List TextEdit → Type 0 = λ list. IsEdited c.args.counting source list (replaced source (map (edit_of new) c.args.spans.now)) in
    subst P (sym made) (edits_give_replaced c.args.counting source new c.args.spans.now c.requires.text c.requires.spans c.requires.words)
