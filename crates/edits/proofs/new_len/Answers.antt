use Rattle.std.proofs.Common.{◌≡◌, ◌+◌, ℕ, subst, [], length, drop, ap, sym, ◌∙◌, arith}
use Rattle.std.proofs.lemmas.List.{drop_all}
use Rattle.edits.specs.Replaced.{AreInOrder}
use Rattle.edits.proofs.Pieces.{pieces_len, pieces_len-le, pieces_len-drop, length-replaced}
use Rattle.edits.proofs.new_len.Goals as goal

-- what is counted so far is part of the whole, which is short
pub overflow_add-len-in-loop-edit : goal.overflow_add-len-in-loop-edit
overflow_add-len-in-loop-edit c =
    let bound = pieces_len-le 0 c.args.src_len c.args.list.now c.requires.spans c.requires.texts in
    let step = pieces_len-drop c.loop-edit.from c.args.src_len c.loop-edit.edit-index c.args.list.now c.edit-item.result c.loop-edit-test.true
    c.edit-item.is in
    omega (arith, bound, step, c.loop-edit.invariant.1, c.from.ensures, ap length c.as_bytes.ensures)

pub overflow_add-result : goal.overflow_add-result
overflow_add-result c =
    let bound = pieces_len-le 0 c.args.src_len c.args.list.now c.requires.spans c.requires.texts in
    let none : drop c.loop-edit.edit-index c.args.list.now ≡ [] = drop_all c.loop-edit.edit-index c.args.list.now c.loop-edit-test.false in
    let last = ap (pieces_len c.loop-edit.from c.args.src_len) none in
    omega (arith, bound, last, c.loop-edit.invariant.1, c.from-2.ensures)

pub returns : goal.returns
returns c =
    let none : drop c.loop-edit.edit-index c.args.list.now ≡ [] = drop_all c.loop-edit.edit-index c.args.list.now c.loop-edit-test.false in
    let last = ap (pieces_len c.loop-edit.from c.args.src_len) none in
    let whole : c.loop-edit.len + c.from-2.result ≡ pieces_len 0 c.args.src_len c.args.list.now =
    omega (arith, last, c.loop-edit.invariant.1, c.from-2.ensures) in
    record {
      len = λ src is. whole ∙ (ap (λ (n : ℕ). pieces_len 0 n c.args.list.now) (sym is)
          ∙ sym (length-replaced src c.args.list.now
          (let P : ℕ → Type 0 = λ n. AreInOrder 0 n c.args.list.now in subst P (sym is) c.requires.spans)));
      bounded = let bound = pieces_len-le 0 c.args.src_len c.args.list.now c.requires.spans c.requires.texts in omega (arith, whole, bound);
    }
