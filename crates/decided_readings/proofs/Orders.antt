-- Without a manifest the taking takes all units, or the first unit that lies on a cycle is named.
use Rattle.std.proofs.Common.{◌≡◌, ◌⊎◌, inl, inr, ℕ, zero, suc, ◌+◌, ◌<◌, List, [], ◌∷◌, ◌++◌, All, Bool, true, false, ◌&&◌, not, cond, Option}
use Rattle.std.proofs.Common.{Some, None, count_by, length, take, refl, subst, arith}
use Rattle.std.proofs.lemmas.Bool.{and_parts, eq-eqb, not-true}
use Rattle.std.proofs.lemmas.List.{take_all}
use Rattle.std.proofs.lemmas.List.Elements.{All-more, All-nil}
use Rattle.std.proofs.lemmas.List.Sums.{sum_by-cons}
use Rattle.ml_trees.specs.Tree.{UnitTree}
use Rattle.unit_heads.specs.Heads.{is_among}
use Rattle.unit_order.specs.Order.{IsStuck, LiesOnCycle, derived_order, first_ready, go_on, is_ready, takes_all, taking}
use Rattle.unit_order.specs.Positions.{blank, unit_at}
use Rattle.unit_order.proofs.Stuck.{never_stuck, stuck_at}
use Rattle.unit_order.proofs.Taken.{AreApart, left_less_at, left_of}
use Rattle.decided_readings.specs.Laws.{OrdersAreDecided}
use Rattle.decided_readings.proofs.Cycles.{IsKnown, cycle_known}

-- ---- where the taking ends

-- no unit is ready behind these names, and some are not among them
record HasStop (us : List UnitTree) : Type 0 where
  names : List (List ℕ)
  none : first_ready us names us ≡ None
  left : 0 < count_by (λ v. not (is_among names v.name)) us

-- a unit that is taken next
record IsNext (taken : List (List ℕ)) (vs : List UnitTree) (name : List ℕ) : Type 0 where
  at : ℕ
  inside : at < length vs
  fresh : is_among taken (unit_at vs at).name ≡ false
  named : (unit_at vs at).name ≡ name

next_is : (us : List UnitTree) (taken : List (List ℕ)) (vs : List UnitTree) (name : List ℕ) → first_ready us taken vs ≡ Some name
    → IsNext taken vs name
next_is us taken [] name h = cc
next_is us taken (v ∷ vs) name h = by (not (is_among taken v.name) && is_ready us taken v) refl h (next_is us taken vs name)
  where
    by : (b : Bool) → (not (is_among taken v.name) && is_ready us taken v) ≡ b → cond b (Some v.name) (first_ready us taken vs) ≡ Some name
        → (first_ready us taken vs ≡ Some name → IsNext taken vs name) → IsNext taken (v ∷ vs) name
    by true p q rest = record {
      at = 0;
      inside = omega arith;
      fresh = not-true (is_among taken v.name) (and_parts (not (is_among taken v.name)) (is_ready us taken v) p).0;
      named = cc;
    }
    by false p q rest = let r = rest q in record { at = suc r.at; inside = omega (arith, r.inside); fresh = r.fresh; named = r.named }

-- how many units are not among these names
abbrev count_left : List UnitTree → List (List ℕ) → ℕ
count_left us taken = left_of taken (λ v. true) us

count_all : (us : List UnitTree) → count_left us [] + 0 ≡ length us
count_all [] = refl
count_all (u ∷ us) = omega (arith, sum_by-cons (λ (w : UnitTree). 1) u us, count_all us)

one_more : (xs : List (List ℕ)) (x : List ℕ) → length (xs ++ x ∷ []) ≡ length xs + 1
one_more [] x = omega arith
one_more (y ∷ ys) x = omega (arith, one_more ys x)

less_left : (us : List UnitTree) (taken : List (List ℕ)) (name : List ℕ) → AreApart us → count_left us taken + length taken ≡ length us
    → IsNext taken us name → count_left us (taken ++ name ∷ []) + length (taken ++ name ∷ []) ≡ length us
less_left us taken name apart size n =
    let less : count_left us (taken ++ name ∷ []) + 1 ≡ count_left us taken =
    subst (λ y. left_of (taken ++ y ∷ []) (λ v. true) us + 1 ≡ left_of taken (λ v. true) us) n.named
    (left_less_at us taken n.at (λ v. true) apart n.inside n.fresh)
    in
    omega (arith, less, one_more taken name, size)

-- as many turns as units are left take all, or they stop before
turns : (us : List UnitTree) → AreApart us → (n : ℕ) (taken : List (List ℕ)) → n + length taken ≡ length us
    → count_left us taken + length taken ≡ length us → (length (taking n us taken) ≡ length us) ⊎ HasStop us
unfolding taking
turns us apart zero taken many size = inl (omega (arith, many))
turns us apart (suc n) taken many size = by (first_ready us taken us) refl (turns us apart n) where
  by : (o : Option (List ℕ)) → first_ready us taken us ≡ o
      → ((t : List (List ℕ)) → n + length t ≡ length us → count_left us t + length t ≡ length us → (length (taking n us t) ≡ length us) ⊎ HasStop us)
      → (length (go_on taken o (taking n us)) ≡ length us) ⊎ HasStop us
  by None e more = inr (record { names = taken; none = e; left = omega (arith, many, size) })
  by (Some name) e more =
      more (taken ++ name ∷ []) (omega (arith, many, one_more taken name)) (less_left us taken name apart size (next_is us taken us name e))

-- ---- the first unit that lies on a cycle

module _ (us : List UnitTree) (stop : HasStop us) where
  find : (left at : ℕ) → at + left ≡ length us → All (λ u. LiesOnCycle us u → ⊥) (take at us) → (name : List ℕ) × IsStuck us name
  find zero at size none =
      absurd (never_stuck us stop.names stop.none stop.left
      (subst (All (λ u. LiesOnCycle us u → ⊥)) (take_all at us (omega (arith, size))) none))
  find (suc left) at size none = by (cycle_known us at (omega (arith, size))) (find left (at + 1)) where
    by : IsKnown us at → (at + 1 + left ≡ length us → All (λ u. LiesOnCycle us u → ⊥) (take (at + 1) us) → (name : List ℕ) × IsStuck us name)
        → (name : List ℕ) × IsStuck us name
    by (inl cycle) more = ((unit_at us at).name, stuck_at us at (unit_at us at).name (omega (arith, size)) refl cycle none)
    by (inr free) more = more (omega (arith, size)) (All-more (λ u. LiesOnCycle us u → ⊥) us at blank (omega (arith, size)) none free)

pub orders_are_decided : OrdersAreDecided
orders_are_decided us apart = by (turns us apart (length us) [] (omega arith) (count_all us)) where
  by : (length (derived_order us) ≡ length us) ⊎ HasStop us → (takes_all us ≡ true) ⊎ ((name : List ℕ) × IsStuck us name)
  by (inl all) = inl (eq-eqb (length (derived_order us)) (length us) all)
  by (inr stop) = inr (find us stop (length us) 0 (omega arith) (All-nil (λ u. LiesOnCycle us u → ⊥)))
