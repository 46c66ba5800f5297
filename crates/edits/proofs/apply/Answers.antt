use Rattle.std.proofs.Common.{◌≡◌, ℕ, List, [], ◌++◌, drop, ap, sym, ◌∙◌}
use Rattle.std.proofs.lemmas.List.{drop_all, take_rest}
use Rattle.edits.specs.declared.Edit.{Edit}
use Rattle.edits.specs.Replaced.{pieces}
use Rattle.edits.proofs.Pieces.{rest_is_pieces}
use Rattle.edits.proofs.apply.Goals as goal

-- no span is left, so what is kept last closes the whole
pub returns : goal.returns
returns c =
    let none : drop c.loop-edit.edit-index c.args.list.now ≡ [] = drop_all c.loop-edit.edit-index c.args.list.now c.loop-edit-test.false in
    record {
      replaced = c.in_ok-extend_from_slice-3.ensures.items
          ∙ (ap (λ (x : List ℕ). c.loop-edit.bytes.items ++ x) (take_rest c.args.src.now c.loop-edit.from)
          ∙ (ap (λ (x : List Edit). c.loop-edit.bytes.items ++ pieces c.loop-edit.from c.args.src.now x) (sym none)
          ∙ (c.loop-edit.invariant.1 ∙ sym (rest_is_pieces 0 c.args.src.now c.args.list.now c.requires.spans))));
    }
