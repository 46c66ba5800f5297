-- Replacing the last span first is reading the pieces from the front.
use Rattle.std.proofs.Common.{◌≡◌, ℕ, suc, ◌+◌, ◌*◌, ◌-◌, ◌<◌, ◌≤◌, List, [], ◌∷◌, ◌++◌, length, get_or, take, drop, refl, ap, sym, ◌∙◌, arith}
use Rattle.std.proofs.Common.{length-append, length-drop, All}
use Rattle.std.specs.Prelude.{slice_range}
use Rattle.std.proofs.lemmas.List.{length-take, length-take-le, take-append-le, drop-append-le, take-take, drop-take, at_drop_more}
use Rattle.edits.specs.declared.Edit.{Edit}
use Rattle.edits.specs.Replaced.{AreInOrder, HasShortText, replaced, pieces}

-- the number of bytes of the pieces
abbrev pub pieces_len : ℕ → ℕ → List Edit → ℕ
pieces_len from len [] = len - from
pieces_len from len (edit ∷ edits) = (edit.start - from) + length edit.text + pieces_len edit.end len edits

-- spans in order begin within the source
pub from_within : (from len : ℕ) (edits : List Edit) → AreInOrder from len edits → from ≤ len
from_within from len [] h = h
from_within from len (edit ∷ edits) h = omega arith

-- a prefix that is kept is long enough
long_enough : (n : ℕ) (a b : List ℕ) → take n a ≡ take n b → n ≤ length b → n ≤ length a
long_enough n a b e h =
    let same : length (take n a) ≡ length (take n b) = ap length e in
    omega (arith, same, length-take n a, length-take n b)

-- a longer kept prefix has the shorter one
shorter_kept : (m n : ℕ) (a b : List ℕ) → m ≤ n → take n a ≡ take n b → take m a ≡ take m b
shorter_kept m n a b h e = sym (take-take m n a h) ∙ (ap (take m) e ∙ take-take m n b h)

-- the bytes before a replaced span stay
front_of_span : (from start : ℕ) (a b rest : List ℕ) → from ≤ start → start ≤ length a → take start a ≡ take start b
    → take from (take start a ++ rest) ≡ take from b
front_of_span from start a b rest h k e =
    let long : from ≤ length (take start a) = omega (arith, length-take-le start a k) in
    take-append-le from (take start a) rest long ∙ (take-take from start a h ∙ shorter_kept from start a b h e)

-- the bytes before `from` stay
pub front_stays : (from : ℕ) (src : List ℕ) (edits : List Edit) → AreInOrder from (length src) edits → take from (replaced src edits) ≡ take from src
front_stays from src [] h = refl
front_stays from src (edit ∷ edits) h =
    let kept : take edit.end (replaced src edits) ≡ take edit.end src = front_stays edit.end src edits h.3 in
    let long : edit.end ≤ length (replaced src edits) = long_enough edit.end (replaced src edits) src kept h.2 in
    front_of_span from edit.start (replaced src edits) src (edit.text ++ drop edit.end (replaced src edits)) h.0 (omega arith)
    (shorter_kept edit.start edit.end (replaced src edits) src (omega arith) kept)

-- from `from` on, a replaced span follows the bytes that are kept before it
rest_of_span : (from start : ℕ) (a b rest : List ℕ) → from ≤ start → start ≤ length a → take start a ≡ take start b
    → drop from (take start a ++ rest) ≡ slice_range b from start ++ rest
rest_of_span from start a b rest h k e =
    let long : from ≤ length (take start a) = omega (arith, length-take-le start a k) in
    let gap : from + (start - from) ≡ start = omega arith in
    drop-append-le from (take start a) rest long ∙ ap (λ (x : List ℕ). x ++ rest)
    (ap (drop from) e ∙ (ap (λ (n : ℕ). drop from (take n b)) (sym gap) ∙ drop-take from (start - from) b))

-- what follows `from` is the pieces
pub rest_is_pieces : (from : ℕ) (src : List ℕ) (edits : List Edit) → AreInOrder from (length src) edits
    → drop from (replaced src edits) ≡ pieces from src edits
rest_is_pieces from src [] h = refl
rest_is_pieces from src (edit ∷ edits) h =
    let kept : take edit.end (replaced src edits) ≡ take edit.end src = front_stays edit.end src edits h.3 in
    let long : edit.end ≤ length (replaced src edits) = long_enough edit.end (replaced src edits) src kept h.2 in
    rest_of_span from edit.start (replaced src edits) src (edit.text ++ drop edit.end (replaced src edits)) h.0 (omega arith)
    (shorter_kept edit.start edit.end (replaced src edits) src (omega arith) kept)
    ∙ ap (λ (x : List ℕ). slice_range src from edit.start ++ (edit.text ++ x)) (rest_is_pieces edit.end src edits h.3)

-- the pieces have this many bytes
pub length-pieces : (from : ℕ) (src : List ℕ) (edits : List Edit) → AreInOrder from (length src) edits
    → length (pieces from src edits) ≡ pieces_len from (length src) edits
length-pieces from src [] h = length-drop from src
length-pieces from src (edit ∷ edits) h =
    omega (
      arith,
      length-append (slice_range src from edit.start) (edit.text ++ pieces edit.end src edits),
      length-append edit.text (pieces edit.end src edits),
      length-take (edit.start - from) (drop from src),
      length-drop from src,
      length-pieces edit.end src edits h.3,
    )

-- the new source has this many bytes
pub length-replaced : (src : List ℕ) (edits : List Edit) → AreInOrder 0 (length src) edits
    → length (replaced src edits) ≡ pieces_len 0 (length src) edits
length-replaced src edits h = ap length (rest_is_pieces 0 src edits h) ∙ length-pieces 0 src edits h

-- the new source is short
pub pieces_len-le : (from len : ℕ) (edits : List Edit) → AreInOrder from len edits → All HasShortText edits
    → pieces_len from len edits + 256 * from ≤ 256 * len
pieces_len-le from len [] h t = omega arith
pieces_len-le from len (edit ∷ edits) h t =
    let short : length edit.text ≤ 255 = t 0 edit (omega arith) in
    omega (arith, pieces_len-le edit.end len edits h.3 (λ k d below. t (suc k) d (omega arith)))

-- one edit on, in the number of bytes
pub pieces_len-drop : (from len i : ℕ) (edits : List Edit) (edit : Edit) → i < length edits → edit ≡ get_or edits i edit
    → pieces_len from len (drop i edits) ≡ (edit.start - from) + length edit.text + pieces_len edit.end len (drop (i + 1) edits)
pieces_len-drop from len i edits edit h is =
    at_drop_more (pieces_len from len) edits i edit h ∙ ap (λ (x : Edit). pieces_len from len (x ∷ drop (i + 1) edits)) (sym is)
