-- The lists of needs turned round: for each unit the positions of those that need it.
use Rattle.std.proofs.Common.{◌≡◌, ℕ, ◌+◌, ◌<◌, ◌≤◌, inl, inr, List, [], ◌∷◌, ◌++◌, All, cond, count_by, get_or, set, map, take, length, nat_eq, Bool}
use Rattle.std.proofs.Common.{true, false, refl, sym, ap, ◌∙◌, arith}
use Rattle.std.proofs.lemmas.Bool.{cases_Bool, cases_eq, cases_order, eq-eqb, ne_eqb}
use Rattle.std.proofs.lemmas.List.{get_or-take, get_or_past, get_or-set_same, get_or-set_other, length-take}
use Rattle.std.proofs.lemmas.List.Sums.{sum_by_push, sum_by-take-le, count_by_more_yes, count_by_more_no}
use Rattle.ml_trees.specs.Tree.{UnitTree}
use Rattle.unit_order.specs.Order.{needs_unit}
use Rattle.unit_order.specs.Positions.{unit_at}
use Rattle.unit_order.specs.Needs.{times, need_table, positions_from}
use Rattle.unit_order.proofs.Table.{needed_once}

-- each list turned round has each position as often as it has that of the list
abbrev pub AreTurned : List (List ℕ) → List (List ℕ) → Type 0
AreTurned users needs = (i j : ℕ) → times users j i ≡ times needs i j

-- one more of these is counted
pub count_more : (xs : List ℕ) (k j : ℕ) → k < length xs → count_by (nat_eq j) (take (k + 1) xs) ≡ count_by (nat_eq j) (take k xs) + cond
    (nat_eq j (get_or xs k 0)) 1 0
count_more xs k j lt =
    elim (cases_Bool (nat_eq j (get_or xs k 0))) [
      | inl e ↦ count_by_more_yes (nat_eq j) xs k 0 lt e ∙ ap (λ b. count_by (nat_eq j) (take k xs) + cond b 1 0) (sym e)
      | inr e ↦ count_by_more_no (nat_eq j) xs k 0 lt e ∙ plus_zero (count_by (nat_eq j) (take k xs))
          ∙ ap (λ b. count_by (nat_eq j) (take k xs) + cond b 1 0) (sym e)
    ]
  where
    plus_zero : (n : ℕ) → n ≡ n + 0
    plus_zero n = omega arith

-- a position is put at the end of one of the lists
pub times_push : (lists : List (List ℕ)) (needed user i j : ℕ) → needed < length lists
    → times (set lists needed (get_or lists needed [] ++ user ∷ [])) j i ≡ times lists j i + cond (nat_eq i user) (cond (nat_eq j needed) 1 0) 0
times_push lists needed user i j lt =
    elim (cases_eq j needed) [
      | inl e ↦
          ap (λ k. times (set lists needed (get_or lists needed [] ++ user ∷ [])) k i) e
          ∙ ap (count_by (nat_eq i)) (get_or-set_same lists needed (get_or lists needed [] ++ user ∷ []) [] lt)
          ∙ sum_by_push (λ q. cond (nat_eq i q) 1 0) (get_or lists needed []) user
          ∙ ap (λ k. times lists k i + cond (nat_eq i user) 1 0) (sym e)
          ∙ ap (λ b. times lists j i + cond (nat_eq i user) (cond b 1 0) 0) (sym (eq-eqb j needed e))
      | inr ne ↦
          ap (count_by (nat_eq i)) (get_or-set_other lists needed j (get_or lists needed [] ++ user ∷ []) [] ne)
          ∙ nothing (nat_eq i user) (times lists j i)
          ∙ ap (λ b. times lists j i + cond (nat_eq i user) (cond b 1 0) 0) (sym (ne_eqb j needed ne))
    ]
  where
    nothing : (b : Bool) (n : ℕ) → n ≡ n + cond b 0 0
    nothing true n = omega arith
    nothing false n = omega arith

none_more : (n : ℕ) → n ≡ 0 + n
none_more n = omega arith

-- the unit is put at the end of the list of one more that it needs
pub user_added : (before lists : List (List ℕ)) (needs : List ℕ) (k user i j : ℕ) → k < length needs → get_or needs k 0 < length lists
    → times lists j i ≡ times before j i + cond (nat_eq i user) (count_by (nat_eq j) (take k needs)) 0
    → times (set lists (get_or needs k 0) (get_or lists (get_or needs k 0) [] ++ user ∷ [])) j i ≡ times before j i + cond (nat_eq i user)
    (count_by (nat_eq j) (take (k + 1) needs)) 0
user_added before lists needs k user i j lt within is =
    times_push lists (get_or needs k 0) user i j within
    ∙ ap (λ n. n + cond (nat_eq i user) (cond (nat_eq j (get_or needs k 0)) 1 0) 0) is
    ∙ both (nat_eq i user) (times before j i) (count_by (nat_eq j) (take k needs)) (cond (nat_eq j (get_or needs k 0)) 1 0)
    ∙ ap (λ n. times before j i + cond (nat_eq i user) n 0) (sym (count_more needs k j lt))
  where
    both : (b : Bool) (n m l : ℕ) → n + cond b m 0 + cond b l 0 ≡ n + cond b (m + l) 0
    both true n m l = omega arith
    both false n m l = omega arith

-- one more of the lists is counted
pub times_more : (lists : List (List ℕ)) (user i j : ℕ) → user < length lists → times (take (user + 1) lists) i j ≡ times (take user lists) i j + cond
    (nat_eq i user) (count_by (nat_eq j) (get_or lists user [])) 0
times_more lists user i j lt =
    elim (cases_order i user) [
      | inl e ↦
          ap (λ k. times (take (user + 1) lists) k j) e
          ∙ ap (count_by (nat_eq j)) (get_or-take (user + 1) lists user [] (omega arith))
          ∙ none_more (count_by (nat_eq j) (get_or lists user []))
          ∙ ap (λ xs. count_by (nat_eq j) xs + count_by (nat_eq j) (get_or lists user []))
          (sym (get_or_past (take user lists) i [] (omega (arith, e, length-take user lists))))
          ∙ ap (λ b. times (take user lists) i j + cond b (count_by (nat_eq j) (get_or lists user [])) 0) (sym (eq-eqb i user e))
      | inr (inl below) ↦
          ap (count_by (nat_eq j)) (get_or-take (user + 1) lists i [] (omega (arith, below)) ∙ sym (get_or-take user lists i [] below))
          ∙ plus_zero (times (take user lists) i j)
          ∙ ap (λ b. times (take user lists) i j + cond b (count_by (nat_eq j) (get_or lists user [])) 0)
          (sym (ne_eqb i user (λ e. omega (arith, e, below))))
      | inr (inr above) ↦
          ap (count_by (nat_eq j))
          (get_or_past (take (user + 1) lists) i [] (omega (arith, above, length-take (user + 1) lists))
          ∙ sym (get_or_past (take user lists) i [] (omega (arith, above, length-take user lists))))
          ∙ plus_zero (times (take user lists) i j)
          ∙ ap (λ b. times (take user lists) i j + cond b (count_by (nat_eq j) (get_or lists user [])) 0)
          (sym (ne_eqb i user (λ e. omega (arith, e, above))))
    ]
  where
    plus_zero : (n : ℕ) → n ≡ n + 0
    plus_zero n = omega arith

-- an item of a list is counted there
counted : (xs : List ℕ) (k d : ℕ) → k < length xs → 0 < count_by (nat_eq (get_or xs k d)) xs
counted xs k d lt =
    let x = get_or xs k d in
    let more : count_by (nat_eq x) (take (k + 1) xs) ≡ count_by (nat_eq x) (take k xs) + 1 =
    count_by_more_yes (nat_eq x) xs k d lt (eq-eqb x x refl) in
    let all : count_by (nat_eq x) (take (k + 1) xs) ≤ count_by (nat_eq x) xs = sum_by-take-le (λ q. cond (nat_eq x q) 1 0) xs (k + 1) in
    omega (arith, more, all)

-- what is needed has users that are units
pub users_inside : (users needs : List (List ℕ)) (at : ℕ) → AreTurned users needs → All (λ user. user < length needs) (get_or users at [])
users_inside users needs at turned = λ k d lt.
    let user = get_or (get_or users at []) k d in
    elim (cases_order user (length needs)) [
      | inl e ↦ absurd (none user (omega (arith, e)) (counted (get_or users at []) k d lt))
      | inr (inl below) ↦ below
      | inr (inr above) ↦ absurd (none user (omega (arith, above)) (counted (get_or users at []) k d lt))
    ]
  where
    none : (user : ℕ) → length needs ≤ user → 0 < times users at user → ⊥
    none user past some =
        let zero_times : times users at user ≡ 0 = turned user at ∙ ap (count_by (nat_eq at)) (get_or_past needs user [] past) in
        omega (arith, some, zero_times)

-- a unit that needs another is once in the list of its users
pub users_once : (us : List UnitTree) (users needs : List (List ℕ)) (k at : ℕ) → AreTurned users needs
    → needs ≡ map (positions_from 0) (need_table us) → k < length us → at < length us
    → times users at k ≡ cond (needs_unit (unit_at us k) (unit_at us at).name) 1 0
users_once us users needs k at turned is lt within = turned k at ∙ ap (λ lists. times lists k at) is ∙ needed_once us k at lt within
