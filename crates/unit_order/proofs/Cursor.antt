-- The search for the next unit that can be taken, from a position before which there is none.
use Rattle.std.proofs.Common.{◌≡◌, ℕ, suc, zero, ◌+◌, ◌-◌, ◌<◌, ◌≤◌, ◌||◌, inl, inr, List, [], ◌∷◌, Bool, true, false, cond, count_by, Option, Some}
use Rattle.std.proofs.Common.{None, option_map, drop, get_or, set, take, length, nat_eq, refl, sym, subst, ap, ◌∙◌, arith}
use Rattle.std.specs.List.{position}
use Rattle.std.proofs.lemmas.Bool.{cases_eq, eq-eqb, ne_eqb}
use Rattle.std.proofs.lemmas.List.{get_or-set_same, get_or-set_other, get_or_default}
use Rattle.unit_order.specs.declared.taking.Waiting.{Waiting}
use Rattle.unit_order.specs.Turns.{waits_after, is_free, NoneFreeBefore}
use Rattle.unit_order.proofs.Taken.{position_cons}
use Rattle.unit_order.proofs.Users.{count_more}

-- the first that can be taken is the first from there on
pub position_from : (from : ℕ) (waiting : List Waiting) → from ≤ length waiting → NoneFreeBefore from waiting
    → position is_free waiting ≡ option_map (λ k. from + k) (position is_free (drop from waiting))
position_from zero waiting le none = from_zero (position is_free waiting)
  where
    plus : (k : ℕ) → k ≡ 0 + k
    plus k = omega arith

    from_zero : (o : Option ℕ) → o ≡ option_map (λ k. 0 + k) o
    from_zero None = refl
    from_zero (Some k) = ap Some (plus k)
position_from (suc from) [] le none = absurd (omega (arith, le))
position_from (suc from) (unit ∷ waiting) le none =
    position_cons is_free unit waiting
    ∙ ap (λ b. cond b (Some 0) (option_map suc (position is_free waiting))) (none 0 unit (omega arith))
    ∙ ap (option_map suc) (position_from from waiting (omega (arith, le)) (λ k d lt. none (suc k) d (omega (arith, lt))))
    ∙ one_on (position is_free (drop from waiting))
  where
    plus : (k : ℕ) → suc (from + k) ≡ suc from + k
    plus k = omega arith

    one_on : (o : Option ℕ) → option_map suc (option_map (λ k. from + k) o) ≡ option_map (λ k. suc from + k) o
    one_on None = refl
    one_on (Some k) = ap Some (plus k)

-- One unit waits otherwise. If it is before the position, it cannot be taken. Then still none before the position can.
pub still_none : (waiting : List Waiting) (from at : ℕ) (unit : Waiting) → at < length waiting → NoneFreeBefore from waiting
    → (at < from → is_free unit ≡ false) → NoneFreeBefore from (set waiting at unit)
still_none waiting from at unit within none this = λ k d lt.
    elim (cases_eq k at) [
      | inl e ↦ ap is_free (ap (λ j. get_or (set waiting at unit) j d) e ∙ get_or-set_same waiting at unit d within)
          ∙ this (subst (λ j. j < from) e lt)
      | inr ne ↦ ap is_free (get_or-set_other waiting at k unit d ne) ∙ none k d lt
    ]

or_false : (b : Bool) → (b || false) ≡ b
or_false true = refl
or_false false = refl

-- how each waits after so many users
abbrev pub AreReleased : List Waiting → List Waiting → List ℕ → ℕ → Type 0
AreReleased before waiting users at = (k : ℕ) (d : Waiting) → k < length before
    → get_or waiting k d ≡ record {
      missing = (get_or before k d).missing - count_by (nat_eq k) users;
      taken = (get_or before k d).taken || nat_eq k at;
    }

-- one more user waits for one less
pub one_released : (before waiting : List Waiting) (users : List ℕ) (i at : ℕ) (e : Waiting) → length waiting ≡ length before → i < length users
    → get_or users i 0 < length waiting → AreReleased before waiting (take i users) at → AreReleased before
    (set waiting (get_or users i 0) (waits_after true false (get_or waiting (get_or users i 0) e))) (take (i + 1) users) at
one_released before waiting users i at e size lt within each = λ k d inside.
    let user = get_or users i 0 in
    let later = waits_after true false (get_or waiting user e) in
    let old = get_or before k d in
    let many = count_by (nat_eq k) (take i users) in
    let more : count_by (nat_eq k) (take (i + 1) users) ≡ many + cond (nat_eq k user) 1 0 = count_more users i k lt in
    let as_it_is = λ (n : ℕ) (t : Bool). let w : Waiting = record { missing = n; taken = t } in w in
    elim (cases_eq k user) [
      | inl same ↦
          let one : count_by (nat_eq k) (take (i + 1) users) ≡ many + 1 = more ∙ ap (λ b. many + cond b 1 0) (eq-eqb k user same) in
          let less : old.missing - many - 1 ≡ old.missing - count_by (nat_eq k) (take (i + 1) users) = omega (arith, one) in
          ap (λ j. get_or (set waiting user later) j d) same ∙ get_or-set_same waiting user later d within
          ∙ ap (waits_after true false) (get_or_default waiting user e d within ∙ ap (λ j. get_or waiting j d) (sym same) ∙ each k d inside)
          ∙ ap (λ b. as_it_is (old.missing - many - 1) b) (or_false (old.taken || nat_eq k at))
          ∙ ap (λ n. as_it_is n (old.taken || nat_eq k at)) less
      | inr ne ↦
          let none : many ≡ count_by (nat_eq k) (take (i + 1) users) = omega (arith, more, ap {B = ℕ} (λ b. cond b 1 0) (ne_eqb k user ne)) in
          get_or-set_other waiting user k later d ne ∙ each k d inside
          ∙ ap (λ n. as_it_is (old.missing - n) (old.taken || nat_eq k at)) none
    ]
