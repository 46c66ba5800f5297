use Rattle.std.proofs.Common.{◌≡◌, ℕ, ◌+◌, ◌<◌, ◌≤◌, List, [], ◌∷◌, ◌++◌, length, get_or, map, take, sym, ap, ◌∙◌, arith}
use Rattle.std.proofs.lemmas.List.{map_more}
use Rattle.text_places.specs.declared.counting.Position.{Position}
use Rattle.text_places.specs.Marks.{position_of}
use Rattle.text_places.proofs.walk.positions_of.Goals as goal

pub loop-offset-preserved : goal.loop-offset-preserved
loop-offset-preserved c =
    let i : ℕ = c.loop-offset.offset-index in
    let offsets : List ℕ = c.args.offsets.now in
    let here : i < length offsets = c.loop-offset-test.true in
    let told = c.go_forward-stop.ensures in
    let place : ℕ → Position = λ offset. position_of c.args.counting offset c.args.bytes.now in
    let at : c.go_forward-stop.result.here ≡ place (get_or offsets i 0) = sym (c.loop-offset.invariant.same i (omega arith) here ∙ told.last) in
    let up : (k : ℕ) → i + 1 ≤ k → k < length offsets → get_or offsets i 0 ≤ get_or offsets k 0
    = λ k le lt. c.requires.ordered i k 0 (omega arith) lt in
    record {
      within = told.within;
      before = λ k le lt. omega (arith, told.before, up k le lt);
      same = λ k le lt. c.loop-offset.invariant.same k (omega arith) lt ∙ told.same (get_or offsets k 0) (up k le lt);
      positions =
          c.in_ok-push.ensures.items
          ∙ ap (λ (xs : List Position). xs ++ c.go_forward-stop.result.here ∷ []) c.loop-offset.invariant.positions
          ∙ ap (λ (x : Position). map place (take i offsets) ++ x ∷ []) at ∙ sym (map_more place offsets i 0 here);
    }
