-- If units remain and none of them can be taken, one of them lies on a cycle.
use Rattle.std.proofs.Common.{◌≡◌, ℕ, suc, zero, ◌+◌, ◌<◌, inl, inr, length, take, drop, List, [], ◌∷◌, ◌++◌, All, count_by, Bool, true, false, not}
use Rattle.std.proofs.Common.{◌&&◌, ◌||◌, cond, Option, Some, None, refl, sym, subst, ap, ◌∙◌, arith}
use Rattle.std.proofs.Math.Dec.{eqb}
use Rattle.std.specs.List.{list_any, IsDistinct, AllByRecursion, position_or_len}
use Rattle.std.proofs.lemmas.Bool.{eqb-true, cases_Bool, and_parts, or_cases, or_parts, not-true, false_from_ne_true, true≢false}
use Rattle.std.proofs.lemmas.List.Sums.{passes_at_first}
use Rattle.std.proofs.lemmas.List.{drop_more, take-append-drop}
use Rattle.std.proofs.lemmas.Map.Steps.{length-le_from_distinct_below}
use Rattle.ml_trees.specs.Tree.{UnitTree}
use Rattle.unit_heads.specs.Heads.{is_among}
use Rattle.unit_order.specs.Order.{needs_unit, is_ready, first_ready, LiesOnCycle, IsStuck}
use Rattle.unit_order.specs.Positions.{unit_at, blank}
use Rattle.unit_order.proofs.Chains.{need_first}
use Rattle.unit_order.proofs.Spread.{Leads}
use Rattle.unit_order.proofs.Turns.{one_left}

-- a unit is not taken
abbrev pub is_left : List UnitTree → List (List ℕ) → ℕ → Bool
is_left us taken at = not (is_among taken (unit_at us at).name)

-- the first unit that one needs and that is not taken
abbrev next_left : List UnitTree → List (List ℕ) → ℕ → ℕ
next_left us taken at = position_or_len (λ v. needs_unit (unit_at us at) v.name && not (is_among taken v.name)) us

open_need : (need among : Bool) → (not need || among) ≡ false → (need && not among) ≡ true
open_need true false h = refl
open_need true true h = absurd (true≢false h)
open_need false b h = absurd (true≢false h)

unready : (taken : List (List ℕ)) (u : UnitTree) (vs : List UnitTree) → is_ready vs taken u ≡ false
    → list_any (λ v. needs_unit u v.name && not (is_among taken v.name)) vs ≡ true
unready taken u [] h = absurd (true≢false h)
unready taken u (v ∷ vs) h =
    elim (cases_Bool (not (needs_unit u v.name) || is_among taken v.name)) [
      | inl e ↦ or_second (needs_unit u v.name && not (is_among taken v.name)) (unready taken u vs (sym (ap (λ b. b && is_ready vs taken u) e) ∙ h))
      | inr e ↦ ap (λ b. b || list_any (λ w. needs_unit u w.name && not (is_among taken w.name)) vs)
          (open_need (needs_unit u v.name) (is_among taken v.name) e)
    ]
  where
    or_second : (a : Bool) {b : Bool} → b ≡ true → (a || b) ≡ true
    or_second true h = refl
    or_second false h = h

first_by : {X : Type 0} (p : X → Bool) (xs : List X) (b : Bool) → (list_any p xs ≡ true → position_or_len p xs < length xs)
    → (b || list_any p xs) ≡ true → cond (not b) (1 + position_or_len p xs) 0 < suc (length xs)
first_by p xs true more h = omega arith
first_by p xs false more h = let l = more h in omega (arith, l)

pub first_within : {X : Type 0} (p : X → Bool) (xs : List X) → list_any p xs ≡ true → position_or_len p xs < length xs
first_within p [] h = absurd (true≢false (sym h))
first_within p (x ∷ xs) h = first_by p xs (p x) (first_within p xs) h

-- no unit of these is ready
none_first : (b : Bool) (name : List ℕ) (rest : Option (List ℕ)) → cond b (Some name) rest ≡ None → (b ≡ false) × (rest ≡ None)
none_first true name rest e = absurd (cc)
none_first false name rest e = (refl, e)

none_ready : (units : List UnitTree) (taken : List (List ℕ)) (us : List UnitTree) → first_ready units taken us ≡ None → (k : ℕ) → k < length us
    → is_among taken (unit_at us k).name ≡ false → is_ready units taken (unit_at us k) ≡ false
none_ready units taken [] h k lt fresh = absurd (omega (arith, lt))
none_ready units taken (u ∷ us) h zero lt fresh =
    let e = none_first (not (is_among taken u.name) && is_ready units taken u) u.name (first_ready units taken us) h in
    sym (ap (λ b. not b && is_ready units taken u) fresh) ∙ e.0
none_ready units taken (u ∷ us) h (suc k) lt fresh =
    let e = none_first (not (is_among taken u.name) && is_ready units taken u) u.name (first_ready units taken us) h in
    none_ready units taken us e.1 k (omega (arith, lt)) fresh

-- Positions from one on, each time the first unit that is needed and not taken.
walk : List UnitTree → List (List ℕ) → ℕ → ℕ → List ℕ
walk us taken zero at = []
walk us taken (suc n) at = at ∷ walk us taken n (next_left us taken at)

length_walk : (us : List UnitTree) (taken : List (List ℕ)) (n at : ℕ) → length (walk us taken n at) ≡ n
unfolding walk
length_walk us taken zero at = refl
length_walk us taken (suc n) at = ap suc (length_walk us taken n (next_left us taken at))

-- a unit remains at this position
record Remains (us : List UnitTree) (taken : List (List ℕ)) (at : ℕ) : Type 0 where
  inside : at < length us
  left : is_among taken (unit_at us at).name ≡ false

record Follows (us : List UnitTree) (taken : List (List ℕ)) (at next : ℕ) : Type 0 where
  remains : Remains us taken next
  need : needs_unit (unit_at us at) (unit_at us next).name ≡ true

follows : (us : List UnitTree) (taken : List (List ℕ)) → first_ready us taken us ≡ None → (at : ℕ)
    → Remains us taken at → Follows us taken at (next_left us taken at)
follows us taken none at r =
    let test = λ (v : UnitTree). needs_unit (unit_at us at) v.name && not (is_among taken v.name) in
    let lt : next_left us taken at < length us =
    first_within test us (unready taken (unit_at us at) us (none_ready us taken us none at r.inside r.left)) in
    let both = and_parts (needs_unit (unit_at us at) (unit_at us (next_left us taken at)).name)
    (not (is_among taken (unit_at us (next_left us taken at)).name)) (passes_at_first test us blank lt) in
    record { remains = record { inside = lt; left = not-true _ both.1 }; need = both.0 }

led_walk : (us : List UnitTree) (taken : List (List ℕ)) → first_ready us taken us ≡ None → (n from at : ℕ)
    → Remains us taken at → ((to : ℕ) → list_any (eqb to) (walk us taken n (next_left us taken at)) ≡ true → Leads us at to)
unfolding walk
led_walk us taken none n from at r = by n at r
  where
    by : (n at : ℕ) → Remains us taken at → (to : ℕ) → list_any (eqb to) (walk us taken n (next_left us taken at)) ≡ true → Leads us at to
    by zero at r to h = absurd (true≢false (sym h))
    by (suc n) at r to h =
        let f = follows us taken none at r in
        elim (or_cases _ _ h) [
          | inl e ↦ (0, subst (λ k. needs_unit (unit_at us at) (unit_at us k).name ≡ true) (sym (eqb-true to (next_left us taken at) e)) f.need)
          | inr e ↦ let chain = by n (next_left us taken at) f.remains to e in
              (suc chain.0, need_first chain.0 us (unit_at us at) (next_left us taken at) (unit_at us to).name f.remains.inside f.need chain.1)
        ]

apart_walk : (us : List UnitTree) (taken : List (List ℕ)) → first_ready us taken us ≡ None → ((at : ℕ) → at < length us → Leads us at at → ⊥)
    → (n at : ℕ) → Remains us taken at → IsDistinct eqb (walk us taken n at)
unfolding walk IsDistinct
apart_walk us taken none free zero at r = tt
apart_walk us taken none free (suc n) at r = (
  none_among at (walk us taken n (next_left us taken at)) (λ h. free at r.inside (led_walk us taken none n 0 at r at h)),
  apart_walk us taken none free n (next_left us taken at) (follows us taken none at r).remains,
)
  where
    none_among : (x : ℕ) (ys : List ℕ) → (list_any (eqb x) ys ≡ true → ⊥) → AllByRecursion (λ y. eqb x y ≡ false) ys
    none_among x [] h = tt
    none_among x (y ∷ ys) h =
        let both = or_parts (eqb x y) (list_any (eqb x) ys) (false_from_ne_true _ h) in
        (both.0, none_among x ys (λ k. true≢false (sym k ∙ both.1)))

walk_within : (us : List UnitTree) (taken : List (List ℕ)) → first_ready us taken us ≡ None → (n at : ℕ) → Remains us taken at → (q : ℕ)
    → list_any (eqb q) (walk us taken n at) ≡ true → q < length us
unfolding walk
walk_within us taken none zero at r q h = absurd (true≢false (sym h))
walk_within us taken none (suc n) at r q h =
    elim (or_cases _ _ h) [
      | inl e ↦ subst (λ k. k < length us) (sym (eqb-true q at e)) r.inside
      | inr e ↦ walk_within us taken none n (next_left us taken at) (follows us taken none at r).remains q e
    ]

-- if a unit remains and none can be taken, some unit lies on a cycle
pub stuck_on_cycle : (us : List UnitTree) (taken : List (List ℕ)) (at : ℕ) → first_ready us taken us ≡ None → at < length us
    → is_among taken (unit_at us at).name ≡ false → ((at : ℕ) → at < length us → Leads us at at → ⊥) → ⊥
stuck_on_cycle us taken at none lt left free =
    let r : Remains us taken at = record { inside = lt; left = left } in
    let long = length-le_from_distinct_below (walk us taken (suc (length us)) at) (length us) (apart_walk us taken none free (suc (length us)) at r)
    (walk_within us taken none (suc (length us)) at r) in
    omega (arith, long, length_walk us taken (suc (length us)) at)

-- the first unit on a cycle is the one that is stuck
pub stuck_at : (us : List UnitTree) (at : ℕ) (name : List ℕ) → at < length us → name ≡ (unit_at us at).name → LiesOnCycle us (unit_at us at)
    → All (λ u. LiesOnCycle us u → ⊥) (take at us) → IsStuck us name
stuck_at us at name lt named cycle first = record {
  before = take at us;
  at = unit_at us at;
  behind = drop (at + 1) us;
  split = sym (ap (λ l. take at us ++ l) (sym (drop_more us at blank lt)) ∙ take-append-drop at us);
  named = named;
  cycle = cycle;
  first = first;
}

-- it cannot be that a unit remains, none can be taken and none lies on a cycle
pub never_stuck : (us : List UnitTree) (taken : List (List ℕ)) → first_ready us taken us ≡ None → 0 < count_by (λ v. not (is_among taken v.name)) us
    → All (λ u. LiesOnCycle us u → ⊥) us → ⊥
never_stuck us taken none some free =
    let one = one_left (λ v. not (is_among taken v.name)) us some in
    stuck_on_cycle us taken one.0 none one.1 (not-true _ one.2) (λ at lt. free at blank lt)
