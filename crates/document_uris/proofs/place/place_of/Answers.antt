use Rattle.std.proofs.Common.{◌≡◌, ◌++◌, ℕ, true, false, List, length, string_bytes, sym, ap, ◌∙◌, arith, eqb-true}
use Rattle.document_uris.proofs.Splitting.{made_place, splits_are_one}
use Rattle.document_uris.proofs.place.place_of.Goals as goal

pub returns-then-has_nul-clause-none : goal.returns-then-has_nul-clause-none
returns-then-has_nul-clause-none c = λ folder name place.
    let bad : true ≡ false = sym c.if-has_nul.true ∙ c.has_nul.ensures ∙ place.no_nul in cc

pub returns-then-is_empty-clause-none : goal.returns-then-is_empty-clause-none
returns-then-is_empty-clause-none c = λ folder name place.
    let same : c.split.result.1.now ≡ name =
    (splits_are_one c.args.path.now c.split.result.0.now c.split.result.1.now place.parent name c.split.ensures place.split).1 in
    let none : length c.split.result.1.now ≡ 0 = eqb-true (length c.split.result.1.now) 0 (sym c.is_empty.ensures ∙ c.if-is_empty.true) in
    let long : length c.split.result.1.now ≡ length name = ap length same in
    omega (arith, none, long, place.named)

pub returns-clause-place : goal.returns-clause-place
returns-clause-place c =
    made_place c.args.path.now c.split.result.0.now c.split.result.1.now (string_bytes c.push_str.new.self) (string_bytes c.in_ok-name.name)
    c.split.ensures (c.in_ok-push_str.ensures.bytes ∙ ap (λ (root : List ℕ). root ++ c.split.result.0.now) c.in_ok-folder.ensures.ok)
    c.in_ok-name.ensures.ok (sym c.is_empty.ensures ∙ c.if-is_empty.false) (sym c.has_nul.ensures ∙ c.if-has_nul.false)
