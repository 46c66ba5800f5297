-- The taking turn by turn: the positions that are taken, and how each unit waits.
use Rattle.std.proofs.Common.{◌≡◌, ℕ, ◌+◌, ◌-◌, ◌<◌, ◌≤◌, suc, zero, inl, inr, length, get_or, List, [], ◌∷◌, ◌++◌, All, Bool, true, false, ◌&&◌}
use Rattle.std.proofs.Common.{◌||◌, cond, Option, Some, None, option_map, count_by, map, nat_eq, refl, ap, sym, ◌∙◌, arith}
use Rattle.std.specs.List.{position}
use Rattle.std.proofs.lemmas.Bool.{and_parts, not-true, cases_Bool, cases_eq, eq-eqb, ne_eqb, false_from_ne_true}
use Rattle.std.proofs.lemmas.Slice.Eq.{bytes_eq-Decides}
use Rattle.std.proofs.lemmas.List.{map-append, length-map, get_or-map, same_lists, length_push}
use Rattle.std.proofs.lemmas.List.Sums.{sum_by-cons}
use Rattle.std.proofs.lemmas.List.Elements.{All-push, All-nil}
use Rattle.std.proofs.lemmas.List.Quantifiers.{position-Some}
use Rattle.ml_trees.specs.Tree.{UnitTree}
use Rattle.unit_order.specs.declared.taking.Waiting.{Waiting}
use Rattle.unit_heads.specs.Heads.{is_among}
use Rattle.unit_order.specs.Order.{needs_unit, first_ready, taking, derived_order, go_on}
use Rattle.unit_order.specs.Positions.{blank, unit_at, names_at}
use Rattle.unit_order.specs.Needs.{need_table, positions_from}
use Rattle.unit_order.specs.Turns.{waits_after, is_free}
use Rattle.unit_order.proofs.Taken.{AreApart, left_of, open_needs, left_less_at, among_more, waiting_of, first_at}
use Rattle.unit_order.proofs.Table.{map_through, positions_many}

pub record Turns (us : List UnitTree) (order : List ℕ) (waiting : List Waiting) : Type 0 where
  pub inside : All (λ at. at < length us) order
  pub waits : waiting ≡ map (waiting_of (names_at us order) us) us
  pub left : left_of (names_at us order) (λ v. true) us + length order ≡ length us
  pub goes : taking (length us - length order) us (names_at us order) ≡ derived_order us

and_true : (b : Bool) → b ≡ (b && true)
and_true true = refl
and_true false = refl

count_all : {X : Type 0} (xs : List X) → count_by (λ x. true) xs ≡ length xs
count_all [] = refl
count_all {X} (x ∷ xs) = sum_by-cons (λ (y : X). 1) x xs ∙ ap (λ n. 1 + n) (count_all xs) ∙ one_more_is (length xs)
  where
    one_more_is : (n : ℕ) → 1 + n ≡ suc n
    one_more_is n = omega arith

-- at first no unit is taken, so all that a unit needs are open
none_taken : (u : UnitTree) (us : List UnitTree) → count_by (λ needed. needed) (map (λ v. needs_unit u v.name) us) ≡ open_needs [] us u
none_taken u [] = refl
none_taken u (v ∷ us) =
    sum_by-cons (λ (needed : Bool). cond needed 1 0) (needs_unit u v.name) (map (λ w. needs_unit u w.name) us)
    ∙ ap (λ n. cond (needs_unit u v.name) 1 0 + n) (none_taken u us)
    ∙ ap (λ b. cond b 1 0 + open_needs [] us u) (and_true (needs_unit u v.name))
    ∙ sym (sum_by-cons (λ (w : UnitTree). cond (needs_unit u w.name && true) 1 0) v us)

-- how the units wait at first, from the lists of their needs
abbrev pub at_first : List ℕ → Waiting
at_first list = record { missing = length list; taken = false }

pub turns_start : {L : Type 0} (us : List UnitTree) (out : L → List ℕ) (lists : List L) (waiting : List Waiting)
    → map out lists ≡ map (positions_from 0) (need_table us) → waiting ≡ map (λ list. at_first (out list)) lists → Turns us [] waiting
turns_start us out lists waiting needs first = record {
  inside = All-nil (λ at. at < length us);
  waits = first ∙ sym (map_through at_first out (λ list. at_first (out list)) (λ list. refl) lists) ∙ ap (map at_first) needs
      ∙ map_through at_first (positions_from 0) (λ row. at_first (positions_from 0 row)) (λ row. refl) (need_table us)
      ∙ map_through (λ row. at_first (positions_from 0 row)) (λ u. map (λ v. needs_unit u v.name) us) (waiting_of [] us)
      (λ u. ap (λ n. record { missing = n; taken = false }) (positions_many 0 (map (λ v. needs_unit u v.name) us) ∙ none_taken u us)) us;
  left = omega (arith, count_all us);
  goes = ap (λ n. taking n us []) (nothing_off (length us));
}
  where
    nothing_off : (n : ℕ) → n - 0 ≡ n
    nothing_off n = omega arith

-- the unit that is taken next was not taken
pub fresh_at : (us : List UnitTree) (order : List ℕ) (waiting : List Waiting) (at : ℕ) → Turns us order waiting
    → position is_free waiting ≡ Some at → (at < length us) × (is_among (names_at us order) (unit_at us at).name ≡ false)
fresh_at us order waiting at t free =
    let taken = names_at us order in
    let wait = waiting_of taken us in
    let found = position-Some is_free waiting at (wait blank) free in
    let within : at < length us = omega (arith, found.0, ap length t.waits, length-map us wait) in
    let is : get_or waiting at (wait blank) ≡ wait (unit_at us at) = ap (λ l. get_or l at (wait blank)) t.waits
    ∙ get_or-map wait us at blank (wait blank) within in
    (within, not-true _ (and_parts _ _ (sym (ap is_free is) ∙ found.1)).0)

-- how a unit waits after a turn
waits_then : (us : List UnitTree) (taken : List (List ℕ)) (at k : ℕ) → AreApart us → at < length us → k < length us
    → is_among taken (unit_at us at).name ≡ false → waits_after (needs_unit (unit_at us k) (unit_at us at).name) (nat_eq k at)
    (waiting_of taken us (unit_at us k)) ≡ waiting_of (taken ++ (unit_at us at).name ∷ []) us (unit_at us k)
waits_then us taken at k apart lt within fresh =
    let less = left_less_at us taken at (λ v. needs_unit (unit_at us k) v.name) apart lt fresh in
    let missing : open_needs taken us (unit_at us k) - cond (needs_unit (unit_at us k) (unit_at us at).name) 1 0 ≡ open_needs
    (taken ++ (unit_at us at).name ∷ []) us (unit_at us k) = omega (arith, less) in
    ap (λ n. record { missing = n; taken = is_among taken (unit_at us k).name || nat_eq k at }) missing
    ∙ ap (λ b. record { missing = open_needs (taken ++ (unit_at us at).name ∷ []) us (unit_at us k); taken = b })
    (ap (λ b. is_among taken (unit_at us k).name || b) (elim (cases_eq k at) [
      | inl e ↦ eq-eqb k at e ∙ sym ((bytes_eq-Decides (unit_at us at).name (unit_at us k).name).1 (ap (λ p. (unit_at us p).name) (sym e)))
      | inr ne ↦ ne_eqb k at ne
          ∙ sym (false_from_ne_true _ (λ e. apart at k lt within (λ s. ne (sym s)) ((bytes_eq-Decides (unit_at us at).name (unit_at us k).name).0 e)))
    ])
    ∙ sym (among_more taken (unit_at us at).name (unit_at us k).name))

one_turn : (us : List UnitTree) (taken : List (List ℕ)) (n : ℕ) (name : List ℕ) → first_ready us taken us ≡ Some name
    → taking (suc n) us taken ≡ taking n us (taken ++ name ∷ [])
unfolding taking
one_turn us taken n name next = ap (λ o. go_on taken o (taking n us)) next

ready_name : (us : List UnitTree) (order : List ℕ) (waiting : List Waiting) (found : Option ℕ) → Turns us order waiting
    → position is_free waiting ≡ found → first_ready us (names_at us order) us ≡ option_map (λ k. (unit_at us k).name) found
ready_name us order waiting found t is =
    first_at (names_at us order) us us blank
    ∙ ap (λ l. option_map (λ k. (unit_at us k).name) (position is_free l)) (sym t.waits)
    ∙ ap (option_map (λ k. (unit_at us k).name)) is

-- one turn
pub turns_more : (us : List UnitTree) (order : List ℕ) (waiting later : List Waiting) (at : ℕ) → AreApart us → Turns us order waiting
    → position is_free waiting ≡ Some at → length later ≡ length waiting
    → ((k : ℕ) (d : Waiting) → k < length waiting → get_or later k d ≡ waits_after (needs_unit (unit_at us k) (unit_at us at).name) (nat_eq k at)
    (get_or waiting k d)) → Turns us (order ++ at ∷ []) later
turns_more us order waiting later at apart t free size each =
    let taken = names_at us order in
    let fresh = fresh_at us order waiting at t free in
    let name = (unit_at us at).name in
    let names : names_at us (order ++ at ∷ []) ≡ taken ++ name ∷ [] = map-append (λ p. (unit_at us p).name) order (at ∷ []) in
    let less = left_less_at us taken at (λ v. true) apart fresh.0 fresh.1 in
    let many : length waiting ≡ length us = ap length t.waits ∙ length-map us (waiting_of taken us) in
    let off : length us - length order ≡ suc (length us - length (order ++ at ∷ [])) = omega (arith, t.left, less, length_push order at) in
    record {
      inside = All-push (λ p. p < length us) order at t.inside fresh.0;
      waits = rw names (same_lists later (map (waiting_of (taken ++ name ∷ []) us) us)
          (omega (arith, size, many, length-map us (waiting_of (taken ++ name ∷ []) us)))
          (λ k d lt.
          let within : k < length us = omega (arith, lt, size, many) in
          each k d (omega (arith, lt, size))
          ∙ ap (waits_after (needs_unit (unit_at us k) name) (nat_eq k at))
          (ap (λ l. get_or l k d) t.waits ∙ get_or-map (waiting_of taken us) us k blank d within)
          ∙ waits_then us taken at k apart fresh.0 within fresh.1
          ∙ sym (get_or-map (waiting_of (taken ++ name ∷ []) us) us k blank d within)));
      left = rw names (omega (arith, less, t.left, length_push order at));
      goes = rw names (sym (one_turn us taken (length us - length (order ++ at ∷ [])) name (ready_name us order waiting (Some at) t free))
          ∙ ap (λ n. taking n us taken) (sym off) ∙ t.goes);
    }

stays : (us : List UnitTree) (taken : List (List ℕ)) → first_ready us taken us ≡ None → (n : ℕ) → taking n us taken ≡ taken
unfolding taking
stays us taken none zero = refl
stays us taken none (suc n) = ap (λ o. go_on taken o (taking n us)) none

-- if no unit is free, the taking ends
pub turns_stop : (us : List UnitTree) (order : List ℕ) (waiting : List Waiting) → Turns us order waiting → position is_free waiting ≡ None
    → (names_at us order ≡ derived_order us) × (first_ready us (names_at us order) us ≡ None)
turns_stop us order waiting t free =
    let none = ready_name us order waiting None t free in
    (sym (stays us (names_at us order) none (length us - length order)) ∙ t.goes, none)

-- if all units are taken, it ends too
pub turns_end : (us : List UnitTree) (order : List ℕ) (waiting : List Waiting) → Turns us order waiting → length us ≤ length order
    → names_at us order ≡ derived_order us
unfolding taking
turns_end us order waiting t all =
    let nothing : length us - length order ≡ 0 = omega (arith, all) in
    sym (ap (λ n. taking n us (names_at us order)) nothing) ∙ t.goes

-- if fewer are taken than there are, one is left
pub one_left : (p : UnitTree → Bool) (us : List UnitTree) → 0 < count_by p us → (k : ℕ) × (k < length us) × (p (unit_at us k) ≡ true)
one_left p [] some = absurd (omega (arith, some))
one_left p (u ∷ us) some =
    elim (cases_Bool (p u)) [
      | inl e ↦ (0, omega arith, e)
      | inr e ↦
          let rest : 0 < count_by p us = omega (arith, some, sum_by-cons (λ (v : UnitTree). cond (p v) 1 0) u us, ap {B = ℕ} (λ b. cond b 1 0) e) in
          let k = one_left p us rest in
          (suc k.0, omega (arith, k.1), k.2)
    ]
