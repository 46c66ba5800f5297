-- The table of the positions of units, and the units that it marks.
use Rattle.std.proofs.Common.{◌≡◌, ◌≢◌, ℕ, ◌+◌, ◌<◌, List, [], ◌∷◌, length, get_or, take, Bool, true, false, ◌||◌, ◌&&◌, not}
use Rattle.std.proofs.Common.{Option, Some, None, nat_eq, set, if◌then◌else◌, bytes_eq, inl, inr, refl, sym, ap, ◌∙◌, arith}
use Rattle.std.specs.List.{AllPairs, list_any}
use Rattle.std.proofs.lemmas.Bool.{cases_order, false_from_ne_true, true≢false, ne_eqb, eq-eqb, eqb-true, eqb-false}
use Rattle.std.proofs.lemmas.List.{get_or-take, get_or-set_same, get_or-set_other, length-take}
use Rattle.std.proofs.lemmas.Slice.Eq.{bytes_eq-Decides}
use Rattle.name_tables.specs.declared.names.Names.{Names}
use Rattle.name_tables.specs.Names.{at}
use Rattle.unit_heads.specs.Heads.{is_among}
use Rattle.unit_order.specs.Needs.{ArePositions, is_other_head}

-- no name has a position in a table of nothing
pub none_positioned : (t : Names ℕ) → ((x : List ℕ) → at t x ≡ None) → ArePositions t []
none_positioned t none = record {
  found = λ p lt. absurd (omega (arith, lt));
  named = λ x p h. absurd (cc (none x));
}

-- a name that is not yet there gets its position
pub one_positioned : (t t' : Names ℕ) (names : List (List ℕ)) (i : ℕ) (name : List ℕ) → i < length names → get_or names i [] ≡ name
    → AllPairs (λ x y. x ≢ y) names → ((x : List ℕ) → at t' x ≡ (if bytes_eq name x then Some i else at t x)) → ArePositions t (take i names)
    → ArePositions t' (take (i + 1) names)
one_positioned t t' names i name lt is apart put h = record {
  found = λ p within. found p (omega (arith, within, more));
  named = λ x p there. named x p (bytes_eq name x) refl there;
}
  where
    size : (n : ℕ) → n < length names + 1 → length (take n names) ≡ n
    size n le = omega (arith, length-take n names, le)

    more : length (take (i + 1) names) ≡ i + 1
    more = size (i + 1) (omega (arith, lt))

    other : (p : ℕ) → p < i → bytes_eq name (get_or names p []) ≡ false
    other p below = false_from_ne_true _ (λ e. apart p i [] below lt (sym ((bytes_eq-Decides name (get_or names p [])).0 e) ∙ sym is))

    old : (p : ℕ) → p < i → at t' (get_or names p []) ≡ Some p
    old p below =
        put (get_or names p []) ∙ ap (λ b. if b then Some i else at t (get_or names p [])) (other p below)
        ∙ ap (at t) (sym (get_or-take i names p [] below)) ∙ h.found p (omega (arith, below, size i (omega (arith, lt))))

    new : (p : ℕ) → p ≡ i → at t' (get_or names p []) ≡ Some p
    new p e =
        put (get_or names p []) ∙ ap (λ b. if b then Some i else at t (get_or names p []))
        ((bytes_eq-Decides name (get_or names p [])).1 (sym is ∙ ap (λ q. get_or names q []) (sym e))) ∙ ap Some (sym e)

    found : (p : ℕ) → p < i + 1 → at t' (get_or (take (i + 1) names) p []) ≡ Some p
    found p within =
        ap (at t') (get_or-take (i + 1) names p [] within)
        ∙ elim (cases_order p i) [ inl e ↦ new p e | inr (inl below) ↦ old p below | inr (inr above) ↦ absurd (omega (arith, within, above)) ]

    named : (x : List ℕ) (p : ℕ) (b : Bool) → bytes_eq name x ≡ b → at t' x ≡ Some p
        → (p < length (take (i + 1) names)) × (get_or (take (i + 1) names) p [] ≡ x)
    named x p true e there =
        let same : p ≡ i = let both : Some i ≡ Some p = sym (put x ∙ ap (λ b. if b then Some i else at t x) e) ∙ there in sym cc in (
          omega (arith, more, same),
          get_or-take (i + 1) names p [] (omega (arith, same)) ∙ ap (λ q. get_or names q []) same ∙ is ∙ (bytes_eq-Decides name x).0 e,
        )
    named x p false e there =
        let was = h.named x p (sym (put x ∙ ap (λ b. if b then Some i else at t x) e) ∙ there) in
        let below : p < i = omega (arith, was.0, size i (omega (arith, lt))) in (
          omega (arith, more, below),
          get_or-take (i + 1) names p [] (omega (arith, below)) ∙ sym (get_or-take i names p [] below) ∙ was.1,
        )

-- a head is the name at a position if the table has the position for it
abbrev there : Option ℕ → ℕ → Bool
there None p = false
there (Some n) p = nat_eq n p

head_at : (t : Names ℕ) (names : List (List ℕ)) → ArePositions t names → (head : List ℕ) (p : ℕ) → p < length names → (o : Option ℕ)
    → at t head ≡ o → (b : Bool) → bytes_eq head (get_or names p []) ≡ b → b ≡ there o p
head_at t names h head p lt None is true e =
    absurd (cc (sym is ∙ ap (at t) ((bytes_eq-Decides head (get_or names p [])).0 e) ∙ h.found p lt))
head_at t names h head p lt None is false e = refl
head_at t names h head p lt (Some n) is true e =
    let both : Some n ≡ Some p = sym is ∙ ap (at t) ((bytes_eq-Decides head (get_or names p [])).0 e) ∙ h.found p lt in
    let same : n ≡ p = cc in sym (eq-eqb n p same)
head_at t names h head p lt (Some n) is false e =
    sym (ne_eqb n p (λ same. true≢false (sym ((bytes_eq-Decides head (get_or names p [])).1
    (sym (h.named head n is).1 ∙ ap (λ q. get_or names q []) same)) ∙ e)))

none_marked : (b c : Bool) → c ≡ false → b ≡ (b || c)
none_marked true false e = refl
none_marked false false e = refl
none_marked b true e = absurd (true≢false e)

no_head : (b c : Bool) → b ≡ false → (b && c) ≡ false
no_head false c e = refl
no_head true c e = absurd (true≢false e)

itself : (b c : Bool) → c ≡ true → (b && not c) ≡ false
itself true true e = refl
itself false true e = refl
itself b false e = absurd (true≢false (sym e))

-- the unit's own name marks nothing
pub marks_own : (row : List Bool) (own name head : List ℕ) (p : ℕ) → bytes_eq head own ≡ true
    → get_or row p false ≡ (get_or row p false || is_other_head own name head)
marks_own row own name head p e = none_marked _ _ (itself (bytes_eq head name) (bytes_eq head own) e)

-- nor does a name of no unit
pub marks_none : (t : Names ℕ) (names : List (List ℕ)) → ArePositions t names → (row : List Bool) (own head : List ℕ) → at t head ≡ None → (p : ℕ)
    → p < length names → get_or row p false ≡ (get_or row p false || is_other_head own (get_or names p []) head)
marks_none t names h row own head none p lt = none_marked _ _ (no_head _ _ (head_at t names h head p lt None none _ refl))

-- the name of another unit marks it
pub marks_one : (t : Names ℕ) (names : List (List ℕ)) → ArePositions t names → (row : List Bool) (own head : List ℕ) (n : ℕ) → at t head ≡ Some n
    → bytes_eq head own ≡ false → length row ≡ length names → (p : ℕ) → p < length names
    → get_or (set row n true) p false ≡ (get_or row p false || is_other_head own (get_or names p []) head)
marks_one t names h row own head n is other size p lt =
    by (nat_eq n p) refl ∙ ap (λ b. get_or row p false || (b && not (bytes_eq head own))) (sym (head_at t names h head p lt (Some n) is _ refl))
  where
    stays : (c d : Bool) → c ≡ false → true ≡ (d || not c)
    stays false true e = refl
    stays false false e = refl
    stays true d e = absurd (true≢false e)

    still : (d : Bool) → d ≡ (d || false)
    still true = refl
    still false = refl

    by : (b : Bool) → nat_eq n p ≡ b → get_or (set row n true) p false ≡ (get_or row p false || (b && not (bytes_eq head own)))
    by true e =
        let same : n ≡ p = eqb-true n p e in
        ap (λ q. get_or (set row n true) q false) (sym same) ∙ get_or-set_same row n true false (omega (arith, size, same, lt))
        ∙ stays (bytes_eq head own) (get_or row p false) other
    by false e = get_or-set_other row n p true false (λ same. eqb-false n p e (sym same)) ∙ still (get_or row p false)

-- a unit needs those that its heads mark
pub marked_all : (own name : List ℕ) (heads : List (List ℕ)) → list_any (is_other_head own name) heads
    ≡ (is_among heads name && not (bytes_eq name own))
marked_all own name [] = refl
marked_all own name (head ∷ heads) =
    ap (λ b. is_other_head own name head || b) (marked_all own name heads) ∙ by (bytes_eq head name) refl (is_among heads name)
  where
    both : (m n : Bool) → (n || (m && n)) ≡ n
    both m true = refl
    both true false = refl
    both false false = refl

    by : (b : Bool) → bytes_eq head name ≡ b → (m : Bool) → ((b && not (bytes_eq head own)) || (m && not (bytes_eq name own)))
        ≡ ((b || m) && not (bytes_eq name own))
    by true e m = ap (λ z. not (bytes_eq z own) || (m && not (bytes_eq name own))) ((bytes_eq-Decides head name).0 e)
        ∙ both m (not (bytes_eq name own))
    by false e m = refl
