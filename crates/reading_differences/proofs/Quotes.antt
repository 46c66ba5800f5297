-- The walk over comments, part by part.
use Rattle.std.proofs.Common.{◌≡◌, ℕ, zero, suc, ◌+◌, ◌-◌, ◌<◌, ◌≤◌, List, [], ◌∷◌, ◌++◌, length, drop, get_or, refl, sym, ap, ◌∙◌, arith}
use Rattle.std.proofs.Common.{append_assoc}
use Rattle.std.proofs.lemmas.List.{append-nil}
use Rattle.rotor_base.specs.declared.place.Place.{Place}
use Rattle.ml_lexer.specs.Trivia.{plain_part, size_of}
use Rattle.reading_differences.specs.Comments.{quote_here, quotes_in}
use Rattle.reading_differences.specs.declared.difference.Difference.{Difference}

-- the bytes of a part that has begun are passed over
pub quotes_skip : (at : Place) (c skip offset : ℕ) (b : List ℕ) → skip ≤ length b
    → quotes_in at c skip offset b ≡ quotes_in at (get_or (c ∷ b) skip 0) 0 (offset + skip) (drop skip b)
unfolding quotes_in
quotes_skip at c zero offset b h = let e : offset + 0 ≡ offset = omega arith in rw e refl
quotes_skip at c (suc skip) offset [] h = absurd (omega arith)
quotes_skip at c (suc skip) offset (d ∷ b) h =
    quotes_skip at d skip (offset + 1) b (omega arith) ∙ (let e : (offset + 1) + skip ≡ offset + suc skip = omega arith in rw e refl)

-- one part
pub quotes_part : (at : Place) (before offset k : ℕ) (b : List ℕ) → 0 < length b → k ≡ size_of (plain_part b) → 0 < k → k ≤ length b
    → quotes_in at before 0 offset b ≡ quote_here at before offset b ++ quotes_in at (get_or b (k - 1) 0) 0 (offset + k) (drop k b)
unfolding quotes_in
quotes_part at before offset k [] h e s w = absurd (omega arith)
quotes_part at before offset zero (c ∷ b) h e s w = absurd (omega arith)
quotes_part at before offset (suc k) (c ∷ b) h e s w =
    let less : size_of (plain_part (c ∷ b)) - 1 ≡ k = omega (arith, e) in
    let one : (offset + 1) + k ≡ offset + suc k = omega arith in
    let last : suc k - 1 ≡ k = omega arith in
    rw (less, quotes_skip at c k (offset + 1) b (omega arith), one, last) refl

-- nothing is left
pub quotes_none : (at : Place) (before offset : ℕ) (b : List ℕ) → length b ≡ 0 → quotes_in at before 0 offset b ≡ []
unfolding quotes_in
quotes_none at before offset [] h = refl
quotes_none at before offset (c ∷ b) h = absurd (omega arith)

-- what was found, what is found here, and what is found behind it
pub quotes_kept : (at : Place) (before offset k last : ℕ) (b rest : List ℕ) (found new all : List Difference) → 0 < length b
    → k ≡ size_of (plain_part b) → 0 < k → k ≤ length b → last ≡ get_or b (k - 1) 0 → rest ≡ drop k b
    → new ≡ found ++ quote_here at before offset b → found ++ quotes_in at before 0 offset b ≡ all
    → new ++ quotes_in at last 0 (offset + k) rest ≡ all
quotes_kept at before offset k last b rest found new all h e s w l r n i =
    let here = quote_here at before offset b in
    let more = quotes_in at (get_or b (k - 1) 0) 0 (offset + k) (drop k b) in
    rw (l, r, n)
    (append_assoc found here more ∙ ap (λ (q : List Difference). found ++ q) (sym (quotes_part at before offset k b h e s w)) ∙ i)

-- nothing is left
pub quotes_ended : (at : Place) (before offset : ℕ) (b : List ℕ) (found all : List Difference) → length b ≡ 0
    → found ++ quotes_in at before 0 offset b ≡ all
    → found ≡ all
quotes_ended at before offset b found all h i =
    sym (append-nil found) ∙ ap (λ (q : List Difference). found ++ q) (sym (quotes_none at before offset b h)) ∙ i
