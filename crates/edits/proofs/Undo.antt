-- Inverse edits give the source back.
use Rattle.std.proofs.Common.{◌≡◌, ℕ, suc, ◌+◌, ◌-◌, ◌<◌, ◌≤◌, List, [], ◌∷◌, ◌++◌, length, take, drop, refl, ap, sym, ◌∙◌, subst, arith}
use Rattle.std.proofs.Common.{length-append, length-drop, append_assoc, All}
use Rattle.std.specs.Prelude.{slice_range}
use Rattle.std.proofs.lemmas.List.{length-take, take_at, drop_at}
use Rattle.std.proofs.lemmas.List.Elements.{All-cons}
use Rattle.std.proofs.lemmas.List.Folds.{drop_split}
use Rattle.edits.specs.declared.Edit.{Edit}
use Rattle.edits.specs.Replaced.{AreInOrder, HasShortText, replaced, with_span, pieces}
use Rattle.edits.specs.Undo.{inverse_from, inverse, GivesBack, IsSmall, CanGoBack}
use Rattle.edits.proofs.Pieces.{rest_is_pieces}

-- a part of the source has the length of its span
length-part : (src : List ℕ) (from end : ℕ) → end ≤ length src → length (slice_range src from end) ≡ end - from
length-part src from end h = omega (arith, length-take (end - from) (drop from src), length-drop from src)

-- the text between two parts is taken out, and the part of the source put in
put_back : (front text rest part : List ℕ) (start end : ℕ) → length front ≡ start → length front + length text ≡ end
    → take start ((front ++ text) ++ rest) ++ (part ++ drop end ((front ++ text) ++ rest)) ≡ front ++ (part ++ rest)
put_back front text rest part start end s e =
    let taken : take start ((front ++ text) ++ rest) ≡ front = ap (take start) (append_assoc front text rest)
    ∙ take_at front (text ++ rest) start s in
    let dropped : drop end ((front ++ text) ++ rest) ≡ rest = drop_at (front ++ text) rest end (length-append front text ∙ e) in
    ap (λ (x : List ℕ). x ++ (part ++ drop end ((front ++ text) ++ rest))) taken ∙ ap (λ (x : List ℕ). front ++ (part ++ x)) dropped

-- behind any front, the inverse edits turn the pieces back into the source
back_from : (front src : List ℕ) (now from : ℕ) (edits : List Edit) → length front ≡ now → AreInOrder from (length src) edits
    → replaced (front ++ pieces from src edits) (inverse_from now from src edits) ≡ front ++ drop from src
back_from front src now from [] n h = refl
back_from front src now from (edit ∷ edits) n h =
    let kept : List ℕ = slice_range src from edit.start in
    let start : ℕ = now + (edit.start - from) in
    let end : ℕ = start + length edit.text in
    let starts : length (front ++ kept) ≡ start = omega (arith, length-append front kept, length-part src from edit.start (omega arith)) in
    let ends : length (front ++ kept) + length edit.text ≡ end = omega arith in
    let whole : front ++ pieces from src (edit ∷ edits) ≡ ((front ++ kept) ++ edit.text) ++ pieces edit.end src edits = simp append_assoc in
    let later : List Edit = inverse_from end edit.end src edits in
    let one : Edit = record { start = start; end = end; text = slice_range src edit.start edit.end } in
    let rest : replaced (((front ++ kept) ++ edit.text) ++ pieces edit.end src edits) later ≡ ((front ++ kept) ++ edit.text) ++ drop edit.end src
    = back_from ((front ++ kept) ++ edit.text) src end edit.end edits (length-append (front ++ kept) edit.text ∙ ends) h.3 in
    ap (λ (x : List ℕ). with_span (replaced x later) one) whole
    ∙ (ap (λ (x : List ℕ). with_span x one) rest
    ∙ (put_back (front ++ kept) edit.text (drop edit.end src) (slice_range src edit.start edit.end) start end starts ends
    ∙ (append_assoc front kept (slice_range src edit.start edit.end ++ drop edit.end src)
    ∙ (ap (λ (x : List ℕ). front ++ (kept ++ x)) (sym (drop_split src edit.start edit.end (omega arith)))
    ∙ ap (λ (x : List ℕ). front ++ x) (sym (drop_split src from edit.start h.0))))))

pub gives_back : GivesBack
gives_back src edits h = ap (λ (x : List ℕ). replaced x (inverse src edits)) (rest_is_pieces 0 src edits h) ∙ back_from [] src 0 0 edits refl h

-- the inverse edits are in order among the pieces
in_order : (src : List ℕ) (now from : ℕ) (edits : List Edit) → AreInOrder from (length src) edits → All IsSmall edits
    → AreInOrder now (now + length (pieces from src edits)) (inverse_from now from src edits)
in_order src now from [] h small = omega arith
in_order src now from (edit ∷ edits) h small =
    let kept : List ℕ = slice_range src from edit.start in
    let start : ℕ = now + (edit.start - from) in
    let end : ℕ = start + length edit.text in
    let text : IsSmall edit = small 0 edit (omega arith) in
    let some : 0 < length edit.text = text.0 in
    let long : length (pieces from src (edit ∷ edits)) ≡ (edit.start - from) + length edit.text + length (pieces edit.end src edits)
    = omega (
      arith,
      length-append kept (edit.text ++ pieces edit.end src edits),
      length-append edit.text (pieces edit.end src edits),
      length-part src from edit.start (omega arith),
    ) in
    let whole : end + length (pieces edit.end src edits) ≡ now + length (pieces from src (edit ∷ edits)) = omega arith in
    let P : ℕ → Type 0 = λ n. AreInOrder end n (inverse_from end edit.end src edits) in
    (omega arith, omega arith, omega arith, subst P whole (in_order src end edit.end edits h.3 (λ k d below. small (suc k) d (omega arith))))

-- what they put back is short
short_texts : (src : List ℕ) (now from : ℕ) (edits : List Edit) → AreInOrder from (length src) edits → All IsSmall edits
    → All HasShortText (inverse_from now from src edits)
short_texts src now from [] h small = λ k d below. absurd (omega arith)
short_texts src now from (edit ∷ edits) h small =
    let text : IsSmall edit = small 0 edit (omega arith) in
    let span : edit.end ≤ edit.start + 255 = text.1 in
    let start : ℕ = now + (edit.start - from) in
    let end : ℕ = start + length edit.text in
    let one : Edit = record { start = start; end = end; text = slice_range src edit.start edit.end } in
    let short : HasShortText one = omega (arith, length-part src edit.start edit.end h.2) in
    All-cons HasShortText one (inverse_from end edit.end src edits) short
    (short_texts src end edit.end edits h.3 (λ k d below. small (suc k) d (omega arith)))

pub can_go_back : CanGoBack
can_go_back src edits h small =
    let P : List ℕ → Type 0 = λ new. AreInOrder 0 (length new) (inverse src edits) in
    let Q : ℕ → Type 0 = λ n. AreInOrder 0 n (inverse src edits) in (
      subst P (sym (rest_is_pieces 0 src edits h)) (subst Q (omega arith) (in_order src 0 0 edits h small)),
      short_texts src 0 0 edits h small,
    )
