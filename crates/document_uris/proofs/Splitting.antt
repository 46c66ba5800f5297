-- A path is cut at its last slash.
use Rattle.std.proofs.Common.{◌≡◌, ◌⊎◌, inl, inr, ℕ, zero, suc, ◌<◌, Bool, true, false, ◌||◌, List, [], ◌∷◌, ◌++◌, Bor, Option, None, Some}
use Rattle.std.proofs.Common.{MatchOption}
use Rattle.std.proofs.Common.{get_or, length, drop, refl, sym, ap, subst, ◌∙◌, arith, eqb, eqb-true, eq-eqb}
use Rattle.std.specs.List.{list_any}
use Rattle.std.specs.Str.Pattern.{RFindsChar, SplitsAroundMatch}
use Rattle.std.proofs.lemmas.Bool.{false_from_ne_true}
use Rattle.std.proofs.lemmas.List.{take-append-drop}
use Rattle.std.proofs.lemmas.Str.Pattern.{NoCharPasses-char, drop_at_char}
use Rattle.document_uris.specs.Places.{IsPlace, Splits, is_slash}

-- ---- no byte is this one

pub none_any : (c : ℕ) (bs : List ℕ) → ((k : ℕ) → k < length bs → get_or bs k 0 ≡ c → ⊥) → list_any (λ b. eqb b c) bs ≡ false
none_any c [] h = refl
none_any c (b ∷ bs) h =
    let head : eqb b c ≡ false = false_from_ne_true (eqb b c) (λ same. h 0 (omega arith) (eqb-true b c same)) in
    rw (head, none_any c bs (λ k inside is. h (suc k) (omega (arith, inside)) is)) refl

pub any_at : (c : ℕ) (bs : List ℕ) (k : ℕ) → k < length bs → get_or bs k 0 ≡ c → list_any (λ b. eqb b c) bs ≡ true
any_at c [] k inside is = absurd (omega (arith, inside))
any_at c (b ∷ bs) zero inside is = rw (eq-eqb b c is) refl
any_at c (b ∷ bs) (suc k) inside is = ap (λ t. eqb b c || t) (any_at c bs k (omega (arith, inside)) is) ∙ or_true (eqb b c) where
  or_true : (t : Bool) → (t || true) ≡ true
  or_true true = refl
  or_true false = refl

any_after : (front back : List ℕ) → list_any is_slash (front ++ 47 ∷ back) ≡ true
any_after [] back = refl
any_after (b ∷ front) back = ap (λ t. is_slash b || t) (any_after front back) ∙ or_true (is_slash b) where
  or_true : (t : Bool) → (t || true) ≡ true
  or_true true = refl
  or_true false = refl

-- ---- one cut

whole_or_cut : (path parent : List ℕ) (name : List ℕ) → list_any is_slash path ≡ false → path ≡ parent ++ 47 ∷ name → ⊥
whole_or_cut path parent name none is =
    let bad : true ≡ false = sym (any_after parent name) ∙ ap (list_any is_slash) (sym is) ∙ none in
    cc

cuts_are_one : (a n b m : List ℕ) → a ++ 47 ∷ n ≡ b ++ 47 ∷ m → list_any is_slash n ≡ false → list_any is_slash m ≡ false → (a ≡ b) × (n ≡ m)
cuts_are_one [] n [] m e p q = (refl, cc)
cuts_are_one [] n (y ∷ b) m e p q = absurd (whole_or_cut n b m p cc)
cuts_are_one (x ∷ a) n [] m e p q = absurd (whole_or_cut m a n q cc)
cuts_are_one (x ∷ a) n (y ∷ b) m e p q =
    let tails : a ++ 47 ∷ n ≡ b ++ 47 ∷ m = cc in
    let rest = cuts_are_one a n b m tails p q in
    let head : x ≡ y = cc in
    ((λ i. head i ∷ rest.0 i), rest.1)

pub splits_are_one : (path a n b m : List ℕ) → Splits path a n → Splits path b m → (a ≡ b) × (n ≡ m)
splits_are_one path a n b m s t = by s.parts t.parts where
  by : (path ≡ n) × (a ≡ []) ⊎ (path ≡ a ++ 47 ∷ n) → (path ≡ m) × (b ≡ []) ⊎ (path ≡ b ++ 47 ∷ m) → (a ≡ b) × (n ≡ m)
  by (inl one) (inl other) = (one.1 ∙ sym other.1, sym one.0 ∙ other.0)
  by (inl one) (inr other) = absurd (whole_or_cut n b m s.last (sym one.0 ∙ other))
  by (inr one) (inl other) = absurd (whole_or_cut m a n t.last (sym other.0 ∙ one))
  by (inr one) (inr other) = cuts_are_one a n b m (sym one ∙ other) s.last t.last

-- ---- the cut of `rsplit_once`

pub split_by : (bs : List ℕ) (r : Option (Bor (List ℕ) × Bor (List ℕ)))
    → MatchOption r (RFindsChar 47 bs None) (λ x. SplitsAroundMatch (RFindsChar 47) bs x.0.now x.1.now)
    → MatchOption r (list_any is_slash bs ≡ false) (λ x. Splits bs x.0.now x.1.now)
split_by bs None h = none_any 47 bs (λ k inside. NoCharPasses-char 47 bs k h (omega arith) inside)
split_by bs (Some x) h =
    let found = h.2 in
    let cut : drop h.0 bs ≡ 47 ∷ drop h.1 bs = drop_at_char 47 bs h.0 h.1 found.1 (omega arith) in
    record {
      last = ap (list_any is_slash) h.4 ∙ none_any 47 (drop h.1 bs) (λ k inside. NoCharPasses-char 47 (drop h.1 bs) k found.0 (omega arith) inside);
      parts = inr (sym (take-append-drop h.0 bs) ∙ (λ i. sym h.3 i ++ cut i) ∙ ap (λ back. x.0.now ++ 47 ∷ back) (sym h.4));
    }

-- ---- a byte that `contains` finds

module _ (bs : List ℕ) (r : Bool)
    (finds : (r ≡ true → (k : ℕ) × (k < length bs) × (get_or bs k 0 ≡ 0)) × ((k : ℕ) → k < length bs → get_or bs k 0 ≡ 0 → r ≡ true)) where
  pub has_byte : r ≡ list_any (λ b. eqb b 0) bs
  has_byte = by r refl where
    by : (t : Bool) → r ≡ t → r ≡ list_any (λ b. eqb b 0) bs
    by true e = let found = finds.0 e in e ∙ sym (any_at 0 bs found.0 found.1 found.2)
    by false e = e ∙ sym (none_any 0 bs (λ k inside is. let bad : false ≡ true = sym e ∙ finds.1 k inside is in cc))

-- ---- the file of a path

some_bytes : (name : List ℕ) → eqb (length name) 0 ≡ false → 0 < length name
some_bytes [] e = cc
some_bytes (b ∷ name) e = omega arith

pub made_place : (path parent name folder text : List ℕ) → Splits path parent name → folder ≡ 47 ∷ parent → text ≡ name
    → eqb (length name) 0 ≡ false → list_any (λ b. eqb b 0) path ≡ false → IsPlace path folder text
made_place path parent name folder text split rooted is some none = record {
  parent = parent;
  split = subst (λ (n : List ℕ). Splits path parent n) (sym is) split;
  rooted = rooted;
  named = subst (λ (n : List ℕ). 0 < length n) (sym is) (some_bytes name some);
  no_nul = none;
}
