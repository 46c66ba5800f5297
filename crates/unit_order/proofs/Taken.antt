-- The taking by counts: a unit is ready if the number of units that it needs and that are not taken is 0.
use Rattle.std.proofs.Common.{◌≡◌, ◌≢◌, ℕ, ◌+◌, ◌<◌, ◌==◌, suc, inl, inr, nat_lt, length, get_or, take, drop, List, [], ◌∷◌, ◌++◌, All, Bool, true}
use Rattle.std.proofs.Common.{false, ◌&&◌, ◌||◌, not, cond, Option, Some, None, option_map, count_by, map, refl, ap, sym, subst, ◌∙◌, arith, tests}
use Rattle.std.specs.List.{position, position_or_len, AllPairs}
use Rattle.std.specs.List.Sorted.{IsStrictlySortedBy}
use Rattle.std.specs.Ordering.{nat_cmp, eq_by_cmp}
use Rattle.std.specs.Cmp.Lexicographic.{slice_cmp}
use Rattle.std.proofs.lemmas.Bool.{cases_order, false_from_ne_true}
use Rattle.std.proofs.lemmas.Bool.Decides.{Decides-at}
use Rattle.std.proofs.lemmas.Slice.Eq.{bytes_eq-Decides}
use Rattle.std.proofs.lemmas.Map.Text.{is_eq-slice_cmp}
use Rattle.std.proofs.lemmas.Map.Keys.{IsDistinct-from_sorted}
use Rattle.std.proofs.lemmas.Map.Made.{AllPairs-from_IsDistinct}
use Rattle.std.proofs.lemmas.List.{length-map, get_or-map, get_or-take, get_or-drop, get_or_default, length-take, length-drop, drop_more}
use Rattle.std.proofs.lemmas.List.{take-append-drop}
use Rattle.std.proofs.lemmas.List.Sums.{sum_by-cons, sum_by-append}
use Rattle.std.proofs.lemmas.List.Elements.{All-head, All-tail}
use Rattle.std.specs.Str.{bytes_eq}
use Rattle.ml_trees.specs.Tree.{UnitTree}
use Rattle.unit_order.specs.declared.taking.Waiting.{Waiting}
use Rattle.unit_heads.specs.Heads.{is_among}
use Rattle.unit_order.specs.Order.{needs_unit, is_ready, first_ready}
use Rattle.unit_order.specs.Positions.{blank, unit_at}
use Rattle.unit_order.specs.Turns.{is_free}

-- units of different positions have different names
abbrev pub AreApart : List UnitTree → Type 0
AreApart units = (i j : ℕ) → i < length units → j < length units → i ≢ j → (unit_at units i).name ≢ (unit_at units j).name

pub eq_is_same : (x y : List ℕ) → (eq_by_cmp (slice_cmp nat_cmp) x y ≡ true → x ≡ y) × (x ≡ y → eq_by_cmp (slice_cmp nat_cmp) x y ≡ true)
eq_is_same x y = Decides-at (eq_by_cmp (slice_cmp nat_cmp) x y) (bytes_eq x y) (is_eq-slice_cmp x y) (bytes_eq-Decides x y)

-- names in strict order are apart
pub sorted_apart : (us : List UnitTree) → IsStrictlySortedBy (slice_cmp nat_cmp) (map (λ u. u.name) us) → AreApart us
sorted_apart us h i j lt within ne same =
    let pairs : AllPairs (λ x y. x ≢ y) (map (λ u. u.name) us) =
    AllPairs-from_IsDistinct eq_is_same (map (λ u. u.name) us) (IsDistinct-from_sorted (slice_cmp nat_cmp) (map (λ u. u.name) us) h) in
    let at = λ (k : ℕ) (below : k < length us). get_or-map (λ (u : UnitTree). u.name) us k blank [] below in
    elim (cases_order i j) [
      | inl e ↦ ne e
      | inr (inl below) ↦ pairs i j [] below (omega (arith, within, length-map us (λ (u : UnitTree). u.name))) (at i lt ∙ same ∙ sym (at j within))
      | inr (inr above) ↦ pairs j i [] above (omega (arith, lt, length-map us (λ (u : UnitTree). u.name))) (at j within ∙ sym same ∙ sym (at i lt))
    ]

other_name : (x y : List ℕ) → x ≢ y → bytes_eq x y ≡ false
other_name x y ne = false_from_ne_true _ (λ e. ne ((bytes_eq-Decides x y).0 e))

-- how many of these units pass a test and are not taken
abbrev pub left_of : List (List ℕ) → (UnitTree → Bool) → List UnitTree → ℕ
left_of taken p units = count_by (λ v. p v && not (is_among taken v.name)) units

-- how many units one needs that are not taken
abbrev pub open_needs : List (List ℕ) → List UnitTree → UnitTree → ℕ
open_needs taken units u = left_of taken (λ v. needs_unit u v.name) units

one_more : (a b : Bool) (n : ℕ) (r : Bool) → r ≡ (n == 0) → ((not a || b) && r) ≡ (cond (a && not b) 1 0 + n == 0)
one_more true true n r h = grind (arith, tests)
one_more true false n r h = grind (arith, tests)
one_more false b n r h = grind (arith, tests)

pub ready_is_zero : (taken : List (List ℕ)) (units : List UnitTree) (u : UnitTree) → is_ready units taken u ≡ (open_needs taken units u == 0)
ready_is_zero taken [] u = refl
ready_is_zero taken (v ∷ units) u =
    one_more (needs_unit u v.name) (is_among taken v.name) (open_needs taken units u) (is_ready units taken u) (ready_is_zero taken units u)
    ∙ sym (ap (λ n. n == 0) (sum_by-cons (λ w. cond (needs_unit u w.name && not (is_among taken w.name)) 1 0) v units))

or_false : (b : Bool) → (b || false) ≡ b
or_false true = refl
or_false false = refl

-- one of these names, or a further one
pub among_more : (taken : List (List ℕ)) (name x : List ℕ) → is_among (taken ++ name ∷ []) x ≡ (is_among taken x || bytes_eq name x)
among_more [] name x = or_false (bytes_eq name x)
among_more (t ∷ taken) name x = ap (λ b. bytes_eq t x || b) (among_more taken name x) ∙ or_more (bytes_eq t x) (is_among taken x) (bytes_eq name x)
  where
    or_more : (a b d : Bool) → (a || (b || d)) ≡ ((a || b) || d)
    or_more true b d = refl
    or_more false b d = refl

-- of the units of other names as many are left as before
left_elsewhere : (taken : List (List ℕ)) (name : List ℕ) (p : UnitTree → Bool) (units : List UnitTree) → All (λ v. bytes_eq name v.name ≡ false) units
    → left_of (taken ++ name ∷ []) p units ≡ left_of taken p units
left_elsewhere taken name p [] h = refl
left_elsewhere taken name p (v ∷ units) h =
    sum_by-cons (λ w. cond (p w && not (is_among (taken ++ name ∷ []) w.name)) 1 0) v units
    ∙ ap (λ n. cond (p v && not (is_among (taken ++ name ∷ []) v.name)) 1 0 + n)
    (left_elsewhere taken name p units (All-tail (λ w. bytes_eq name w.name ≡ false) v units h))
    ∙ ap (λ b. cond (p v && not b) 1 0 + left_of taken p units)
    (among_more taken name v.name ∙ ap (λ b. is_among taken v.name || b) (All-head (λ w. bytes_eq name w.name ≡ false) v units h)
    ∙ or_false (is_among taken v.name))
    ∙ sym (sum_by-cons (λ w. cond (p w && not (is_among taken w.name)) 1 0) v units)

at_taken : (a b : Bool) (x y : ℕ) → b ≡ false → x + (cond (a && not (b || true)) 1 0 + y) + cond a 1 0 ≡ x + (cond (a && not b) 1 0 + y)
at_taken true true x y h = grind (arith, tests)
at_taken true false x y h = grind (arith, tests)
at_taken false b x y h = grind (arith, tests)

-- Once a further unit is taken, one less is left if it passes the test. Other units have other names.
left_less : (taken : List (List ℕ)) (before behind : List UnitTree) (at : UnitTree) (p : UnitTree → Bool) → bytes_eq at.name at.name ≡ true
    → is_among taken at.name ≡ false → All (λ v. bytes_eq at.name v.name ≡ false) before → All (λ v. bytes_eq at.name v.name ≡ false) behind
    → left_of (taken ++ at.name ∷ []) p (before ++ at ∷ behind) + cond (p at) 1 0 ≡ left_of taken p (before ++ at ∷ behind)
left_less taken before behind at p same fresh h k =
    let later = λ (w : UnitTree). cond (p w && not (is_among (taken ++ at.name ∷ []) w.name)) 1 0 in
    let now = λ (w : UnitTree). cond (p w && not (is_among taken w.name)) 1 0 in
    ap (λ n. n + cond (p at) 1 0)
    (sum_by-append later before (at ∷ behind)
    ∙ ap (λ n. left_of (taken ++ at.name ∷ []) p before + n) (sum_by-cons later at behind)
    ∙ ap (λ n. n + (later at + left_of (taken ++ at.name ∷ []) p behind)) (left_elsewhere taken at.name p before h)
    ∙ ap (λ n. left_of taken p before + (later at + n)) (left_elsewhere taken at.name p behind k)
    ∙ ap (λ b. left_of taken p before + (cond (p at && not b) 1 0 + left_of taken p behind))
    (among_more taken at.name at.name ∙ ap (λ b. is_among taken at.name || b) same))
    ∙ at_taken (p at) (is_among taken at.name) (left_of taken p before) (left_of taken p behind) fresh
    ∙ sym (sum_by-append now before (at ∷ behind) ∙ ap (λ n. left_of taken p before + n) (sum_by-cons now at behind))

-- the same of the unit at a position
pub left_less_at : (us : List UnitTree) (taken : List (List ℕ)) (at : ℕ) (p : UnitTree → Bool) → AreApart us → at < length us
    → is_among taken (unit_at us at).name ≡ false → left_of (taken ++ (unit_at us at).name ∷ []) p us + cond (p (unit_at us at)) 1 0
    ≡ left_of taken p us
left_less_at us taken at p apart lt fresh =
    subst (λ l. left_of (taken ++ (unit_at us at).name ∷ []) p l + cond (p (unit_at us at)) 1 0 ≡ left_of taken p l) whole
    (left_less taken (take at us) (drop (at + 1) us) (unit_at us at) p ((bytes_eq-Decides (unit_at us at).name (unit_at us at).name).1 refl) fresh
    before behind)
  where
    whole : take at us ++ unit_at us at ∷ drop (at + 1) us ≡ us
    whole = ap (λ l. take at us ++ l) (sym (drop_more us at blank lt)) ∙ take-append-drop at us

    other : (k : ℕ) → k < length us → at ≢ k → bytes_eq (unit_at us at).name (unit_at us k).name ≡ false
    other k below ne = other_name _ _ (apart at k lt below ne)

    before : All (λ v. bytes_eq (unit_at us at).name v.name ≡ false) (take at us)
    before = λ k d below.
        let shorter : k < at = omega (arith, below, length-take at us) in
        subst (λ v. bytes_eq (unit_at us at).name v.name ≡ false)
        (sym (get_or-take at us k d shorter ∙ get_or_default us k d blank (omega (arith, shorter, lt))))
        (other k (omega (arith, shorter, lt)) (λ e. omega (arith, e, shorter)))

    behind : All (λ v. bytes_eq (unit_at us at).name v.name ≡ false) (drop (at + 1) us)
    behind = λ k d below.
        let inside : at + 1 + k < length us = omega (arith, below, length-drop (at + 1) us) in
        subst (λ v. bytes_eq (unit_at us at).name v.name ≡ false) (sym (get_or-drop (at + 1) us k d ∙ get_or_default us (at + 1 + k) d blank inside))
        (other (at + 1 + k) inside (λ e. omega (arith, e)))

lt_suc : (n m : ℕ) → nat_lt (suc n) (suc m) ≡ nat_lt n m
lt_suc n m = grind (arith, tests)

lt_zero : (m : ℕ) → nat_lt 0 (suc m) ≡ true
lt_zero m = grind (arith, tests)

one_more_is_suc : (n : ℕ) → 1 + n ≡ suc n
one_more_is_suc n = omega arith

-- the index of the first item that passes, by cases
pub position_cons : {X : Type 0} (p : X → Bool) (x : X) (xs : List X) → position p (x ∷ xs) ≡ cond (p x) (Some 0) (option_map suc (position p xs))
position_cons p x xs = ap (λ n. cond (nat_lt (cond (not (p x)) n 0) (suc (length xs))) (Some (cond (not (p x)) n 0)) None)
    (one_more_is_suc (position_or_len p xs)) ∙ by_test (p x) (position_or_len p xs) (length xs)
  where
    moved : (t : Bool) (n : ℕ) → cond t (Some (suc n)) None ≡ option_map suc (cond t (Some n) None)
    moved true n = refl
    moved false n = refl

    by_test : (b : Bool) (n m : ℕ) → cond (nat_lt (cond (not b) (suc n) 0) (suc m)) (Some (cond (not b) (suc n) 0)) None ≡ cond b (Some 0)
        (option_map suc (cond (nat_lt n m) (Some n) None))
    by_test true n m = ap (λ t. cond t (Some 0) None) (lt_zero m)
    by_test false n m = ap (λ t. cond t (Some (suc n)) None) (lt_suc n m) ∙ moved (nat_lt n m) n

-- a unit as it waits once these units are taken
abbrev pub waiting_of : List (List ℕ) → List UnitTree → UnitTree → Waiting
waiting_of taken units u = record { missing = open_needs taken units u; taken = is_among taken u.name }

named_at : (u d : UnitTree) (us : List UnitTree) (b : Bool) (o : Option ℕ) (r : Option (List ℕ)) → r ≡ option_map (λ k. (get_or us k d).name) o
    → cond b (Some u.name) r ≡ option_map (λ k. (get_or (u ∷ us) k d).name) (cond b (Some 0) (option_map suc o))
named_at u d us true o r h = refl
named_at u d us false None r h = h
named_at u d us false (Some k) r h = h

-- the first ready unit is the first that is free
pub first_at : (taken : List (List ℕ)) (units us : List UnitTree) (d : UnitTree) → first_ready units taken us ≡ option_map (λ k. (get_or us k d).name)
    (position is_free (map (waiting_of taken units) us))
first_at taken units [] d = refl
first_at taken units (u ∷ us) d =
    ap (λ b. cond (not (is_among taken u.name) && b) (Some u.name) (first_ready units taken us)) (ready_is_zero taken units u)
    ∙ named_at u d us (is_free (waiting_of taken units u)) (position is_free (map (waiting_of taken units) us)) (first_ready units taken us)
    (first_at taken units us d)
    ∙ ap (option_map (λ k. (get_or (u ∷ us) k d).name)) (sym (position_cons is_free (waiting_of taken units u) (map (waiting_of taken units) us)))
