-- The fewest needs from units to another.
use borrow.Author.Count.{below_more}
use Rattle.std.proofs.lemmas.Bool.{eq-eqb, eqb-true, true≢false}
use Rattle.std.proofs.Common.{◌≡◌, ◌<◌, ℕ, ◌+◌, ◌-◌, zero, suc, List, [], ◌∷◌, Bool, true, false, ◌&&◌, ◌||◌, Option, Some, None, cond, map, nat_eq}
use Rattle.std.proofs.Common.{refl, ap, sym, ◌∙◌, arith}
use Rattle.std.specs.List.{list_any}
use Rattle.need_chains.specs.Chains.{leads, next_marks}
use Rattle.need_chains.specs.Distances.{any_at, distance, distances, farther, farther_one, is_number, least, least_or}
use Rattle.need_chains.specs.Marks.{marked_at}
use Rattle.need_chains.specs.Needs.{needs}
use Rattle.need_chains.specs.Rows.{AreRows}
use Rattle.need_chains.specs.declared.unit_heads.UnitHeads.{UnitHeads}

-- ---- the least number

pub or_false : (a b : Bool) → (a || b) ≡ false → (a ≡ false) × (b ≡ false)
or_false true b h = absurd (true≢false h)
or_false false b h = (refl, h)

same_number : (n : ℕ) → nat_eq n n ≡ true
same_number n = eq-eqb n n refl

other_number : (n m : ℕ) → n < m → nat_eq m n ≡ false
other_number n m h = by (nat_eq m n) refl
  where
    by : (b : Bool) → nat_eq m n ≡ b → nat_eq m n ≡ false
    by true e = let same = eqb-true m n e in absurd (omega (arith, h, same))
    by false e = e

-- a number with none before it
least_none : (holds : ℕ → Bool) (n : ℕ) → ((d : ℕ) → d < n → holds d ≡ false) → least holds n ≡ None
least_none holds zero h = refl
least_none holds (suc n) h =
    ap (λ (o : Option ℕ). least_or o (holds n) n) (least_none holds n (λ d lt. h d (omega (arith, lt))))
    ∙ ap (λ (b : Bool). cond b (Some n) None) (h n (omega arith))

none_or : (o : Option ℕ) (b : Bool) (n : ℕ) → least_or o b n ≡ None → (o ≡ None) × (b ≡ false)
none_or None false n h = (refl, refl)
none_or None true n h = absurd cc
none_or (Some d) b n h = absurd cc

pub none_before : (holds : ℕ → Bool) (n : ℕ) → least holds n ≡ None → (d : ℕ) → d < n → holds d ≡ false
none_before holds zero h d lt = absurd (omega (arith, lt))
none_before holds (suc n) h d lt =
    let both = none_or (least holds n) (holds n) n h in
    below_more (λ i. holds i ≡ false) n (none_before holds n both.0) both.1 d (omega (arith, lt))

is_more : (n m : ℕ) (o : Option ℕ) (b : Bool) → n < m → is_number n (least_or o b m) ≡ is_number n o
is_more n m (Some d) b h = refl
is_more n m None false h = refl
is_more n m None true h = other_number n m h

is_new : (n : ℕ) (b : Bool) → is_number n (cond b (Some n) None) ≡ b
is_new n true = same_number n
is_new n false = refl

least_by : (k : ℕ) (holds : ℕ → Bool) (n m : ℕ) → m ≡ suc n + k → ((d : ℕ) → d < n → holds d ≡ false) → is_number n (least holds m) ≡ holds n
least_by k holds n zero e h = absurd (omega (arith, e))
least_by zero holds n (suc m) e h =
    let same : m ≡ n = omega (arith, e) in
    ap (λ (i : ℕ). is_number n (least holds (suc i))) same
    ∙ ap (λ (o : Option ℕ). is_number n (least_or o (holds n) n)) (least_none holds n h) ∙ is_new n (holds n)
least_by (suc k) holds n (suc m) e h =
    is_more n m (least holds m) (holds m) (omega (arith, e)) ∙ least_by k holds n m (omega (arith, e)) h

-- if it holds of none before a number, the number is the least one if it holds of that
pub is_least : (holds : ℕ → Bool) (n m : ℕ) → n < m → ((d : ℕ) → d < n → holds d ≡ false) → is_number n (least holds m) ≡ holds n
is_least holds n m lt h = least_by (m - suc n) holds n m (omega (arith, lt)) h

-- ---- of those that are needed

need_least : (need : Bool) (holds : ℕ → Bool) (n m : ℕ) → n < m → ((d : ℕ) → d < n → (need && holds d) ≡ false)
    → (need && is_number n (least holds m)) ≡ (need && holds n)
need_least true holds n m lt h = is_least holds n m lt h
need_least false holds n m lt h = refl

any_least : {A : Type 0} (need : A → Bool) (holds : ℕ → A → Bool) (n m : ℕ) (xs : List A) → n < m
    → ((d : ℕ) → d < n → list_any (λ x. need x && holds d x) xs ≡ false)
    → list_any (λ x. need x && is_number n (least (λ d. holds d x) m)) xs ≡ list_any (λ x. need x && holds n x) xs
any_least need holds n m [] lt h = refl
any_least need holds n m (x ∷ xs) lt h =
    let rest = any_least need holds n m xs lt (λ d l. (or_false (need x && holds d x) (list_any (λ y. need y && holds d y) xs) (h d l)).1) in
    let one = need_least (need x) (λ d. holds d x) n m lt
    (λ d l. (or_false (need x && holds d x) (list_any (λ y. need y && holds d y) xs) (h d l)).0) in
    ap (λ (b : Bool). b || list_any (λ y. need y && is_number n (least (λ d. holds d y) m)) xs) one
    ∙ ap (λ (b : Bool). (need x && holds n x) || b) rest

marks_least : {A : Type 0} (need : A → Bool) (holds : ℕ → A → Bool) (n m : ℕ) (xs : List A) → n < m
    → ((d : ℕ) → d < n → list_any (λ x. need x && holds d x) xs ≡ false)
    → marked_at n (map need xs) (map (λ x. least (λ d. holds d x) m) xs) ≡ map (λ x. need x && holds n x) xs
marks_least need holds n m [] lt h = refl
marks_least need holds n m (x ∷ xs) lt h =
    let rest = marks_least need holds n m xs lt (λ d l. (or_false (need x && holds d x) (list_any (λ y. need y && holds d y) xs) (h d l)).1) in
    let one = need_least (need x) (λ d. holds d x) n m lt
    (λ d l. (or_false (need x && holds d x) (list_any (λ y. need y && holds d y) xs) (h d l)).0) in
    ap (λ (b : Bool). b ∷ marked_at n (map need xs) (map (λ y. least (λ d. holds d y) m) xs)) one
    ∙ ap (λ (bs : List Bool). (need x && holds n x) ∷ bs) rest

-- ---- by rows

-- a need leads to a unit that is this far from another, if no fewer needs lead there
pub near : (n m : ℕ) (sources : List UnitHeads) (row : List ℕ → List ℕ) (to unit : List ℕ) → AreRows sources row → n < m
    → ((d : ℕ) → d < n → leads (suc d) sources to unit ≡ false) → any_at n (distances m sources to) (row unit) ≡ leads (suc n) sources to unit
unfolding leads
near n m sources row to unit rows lt h =
    rows unit n (λ x. distance m sources to x)
    ∙ any_least (λ (s : UnitHeads). needs sources unit s.unit) (λ (d : ℕ) (s : UnitHeads). leads d sources to s.unit) n m sources lt h

-- whether one need more leads back
pub back_at : (n : ℕ) (sources : List UnitHeads) (row : List ℕ → List ℕ) (unit own : List ℕ) (numbers : List (Option ℕ)) (back : Bool)
    → AreRows sources row → own ≡ row unit → numbers ≡ distances (suc n) sources unit → back ≡ any_at n numbers own
    → ((d : ℕ) → d < n → leads (suc d) sources unit unit ≡ false) → leads (suc n) sources unit unit ≡ back
back_at n sources row unit own numbers back rows own_is are is none =
    sym (is ∙ ap (any_at n numbers) own_is ∙ ap (λ (l : List (Option ℕ)). any_at n l (row unit)) are
    ∙ near n (suc n) sources row unit unit rows (omega arith) none)

pub next_near : (n m : ℕ) (sources : List UnitHeads) (to unit : List ℕ) → n < m → ((d : ℕ) → d < n → leads (suc d) sources to unit ≡ false)
    → marked_at n (map (λ s. needs sources unit s.unit) sources) (distances m sources to) ≡ next_marks n sources to unit
unfolding leads
next_near n m sources to unit lt h =
    marks_least (λ (s : UnitHeads). needs sources unit s.unit) (λ (d : ℕ) (s : UnitHeads). leads d sources to s.unit) n m sources lt h

-- ---- one need more

farther_all : {A : Type 0} (n : ℕ) (numbers : List (Option ℕ)) (row : A → List ℕ) (number more : A → Option ℕ) (xs : List A)
    → ((x : A) → farther_one n numbers (row x) (number x) ≡ more x) → farther n numbers (map row xs) (map number xs) ≡ map more xs
farther_all n numbers row number more [] h = refl
farther_all n numbers row number more (x ∷ xs) h =
    ap (λ (o : Option ℕ). o ∷ farther n numbers (map row xs) (map number xs)) (h x)
    ∙ ap (λ (os : List (Option ℕ)). more x ∷ os) (farther_all n numbers row number more xs h)

farther_by : (n : ℕ) (numbers : List (Option ℕ)) (row : List ℕ) (o : Option ℕ) (b : Bool) → (o ≡ None → any_at n numbers row ≡ b)
    → farther_one n numbers row o ≡ least_or o b (suc n)
farther_by n numbers row (Some d) b h = refl
farther_by n numbers row None b h =
    let up : n + 1 ≡ suc n = omega arith in
    ap (λ (a : Bool). cond a (Some (n + 1)) None) (h refl) ∙ ap (λ (i : ℕ). cond b (Some i) None) up

pub distances_more : (n : ℕ) (sources : List UnitHeads) (row : List ℕ → List ℕ) (to : List ℕ) → AreRows sources row
    → farther n (distances (suc n) sources to) (map (λ u. row u.unit) sources) (distances (suc n) sources to) ≡ distances (suc (suc n)) sources to
distances_more n sources row to rows =
    let all = distances (suc n) sources to in
    farther_all n all (λ (u : UnitHeads). row u.unit) (λ (u : UnitHeads). distance (suc n) sources to u.unit)
    (λ (u : UnitHeads). distance (suc (suc n)) sources to u.unit) sources (λ u.
    farther_by n all (row u.unit) (distance (suc n) sources to u.unit)
    (leads (suc n) sources to u.unit) (λ none.
    near n (suc n) sources row to u.unit rows (omega arith) (λ d lt.
    none_before (λ (i : ℕ). leads i sources to u.unit) (suc n) none (suc d) (omega (arith, lt)))))
