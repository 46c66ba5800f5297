-- The first repeat of some groups, group by group.
use Rattle.std.proofs.Common.{◌≡◌, ℕ, zero, suc, bytes_eq, if◌then◌else◌, ◌+◌, ◌<◌, ◌≤◌, ◌⊎◌, refl, sym, subst, inl, inr, arith, List, [], ◌∷◌}
use Rattle.std.proofs.Common.{length, get_or, Contains, Option, Some, None}
use Rattle.rotor_base.specs.declared.place.Place.{Place}
use Rattle.dependency_kernel.proofs.Below.{FoundBelow, found_none, found_more, found_last, found_split, found_all, found_within}
use Rattle.capture_check.specs.declared.fault.Repeat.{Repeat}
use Rattle.capture_check.specs.Fault.{Names, Repeats}
use Rattle.capture_check.specs.Firsts.{IsFirstRepeat, earlier_repeat, repeat_of, lesser}
use Rattle.capture_check.proofs.Twice.{IsBestPair, Within, Pairs, IsLeastOf, kept, kept_none, added, step, leasts}

to_first : (names : Names) (groups : List (List Place)) (o : Option Repeat) → IsBestPair (Repeats names groups) o → IsFirstRepeat names groups o
to_first names groups None h = h
to_first names groups (Some r) h = record { repeats = h.there; least = h.least }

of_first : (names : Names) (groups : List (List Place)) (o : Option Repeat) → IsFirstRepeat names groups o → IsBestPair (Repeats names groups) o
of_first names groups None h = h
of_first names groups (Some r) h = record { there = h.repeats; least = h.least }

-- ---- one group

-- what the scan of a group keeps
abbrev pub Scans : Names → List Place → ℕ → (List ℕ → Option Place) → Option Repeat → Type 0
Scans names group n seen least = ((x : List ℕ) → IsLeastOf names (FoundBelow n group) x (seen x))
    × IsBestPair (Pairs names (FoundBelow n group)) least

module _ (names : Names) (group : List Place) where
  pub scan_begin : (seen : List ℕ → Option Place) → ((x : List ℕ) → seen x ≡ None) → Scans names group 0 seen None
  scan_begin seen none = (
    (λ x. subst (IsLeastOf names (FoundBelow 0 group) x) (sym (none x)) (λ q i n. found_none group q i)),
    (λ f a h. found_none group f h.0),
  )

  pub scan_more : (n : ℕ) (seen seen' : List ℕ → Option Place) (best found : Option Repeat) (p : Place) → n < length group → p ≡ get_or group n p
      → found ≡ repeat_of (seen (names p)) p
      → ((x : List ℕ) → seen' x ≡ (if bytes_eq (names p) x then Some (lesser (seen (names p)) p) else seen x))
      → Scans names group n seen best → Scans names group (n + 1) seen' (earlier_repeat best found)
  scan_more n seen seen' best found p within is told put h =
      let up : (q : Place) → FoundBelow n group q → FoundBelow (n + 1) group q = λ q f. found_more n group q f in
      let last = found_last n group p is in
      let split : (q : Place) → FoundBelow (n + 1) group q → FoundBelow n group q ⊎ (q ≡ p) = λ q f. found_split n group q p within is f in (
        leasts names (FoundBelow n group) (FoundBelow (n + 1) group) p up last split seen seen' put h.0,
        subst (λ (o : Option Repeat). IsBestPair (Pairs names (FoundBelow (n + 1) group)) (earlier_repeat best o)) (sym told)
            (step names (FoundBelow n group) (FoundBelow (n + 1) group) p up last split (seen (names p)) best (h.0 (names p)) h.1),
      )

  only_group : (g : List Place) → Contains (group ∷ []) g → group ≡ g
  only_group g c = go c.0 c.1 c.2 where
    go : (k : ℕ) → k < length (group ∷ []) → get_or (group ∷ []) k g ≡ g → group ≡ g
    go zero below is = is
    go (suc k) below is = absurd (omega arith)

  pub scan_end : (n : ℕ) (best : Option Repeat) → n ≤ length group → length group ≤ n → IsBestPair (Pairs names (FoundBelow n group)) best
      → IsFirstRepeat names (group ∷ []) best
  scan_end n best le ge h =
      to_first names (group ∷ []) best (kept (Pairs names (FoundBelow n group)) (Repeats names (group ∷ []))
      (λ f a k. record {
        group = group;
        among = (0, omega arith, refl);
        here = found_within n group f le k.0;
        there = found_within n group a le k.1;
        order = k.2;
        same = k.3;
      })
      best
      (λ f a k.
      let e = only_group k.group k.among in (
        found_all n group f ge (subst (λ g. Contains g f) (sym e) k.here),
        found_all n group a ge (subst (λ g. Contains g a) (sym e) k.there),
        k.order,
        k.same,
      ))
      h)

  pub of_group : (o : Option Repeat) → IsFirstRepeat names (group ∷ []) o → IsBestPair (Pairs names (Contains group)) o
  of_group o h =
      kept (Repeats names (group ∷ [])) (Pairs names (Contains group))
      (λ f a k.
      let e = only_group k.group k.among in
      (subst (λ g. Contains g f) (sym e) k.here, subst (λ g. Contains g a) (sym e) k.there, k.order, k.same))
      o
      (λ f a k. record { group = group; among = (0, omega arith, refl); here = k.0; there = k.1; order = k.2; same = k.3 })
      (of_first names (group ∷ []) o h)

-- ---- all groups

abbrev pub Below : Names → List (List Place) → ℕ → Place → Place → Type 0
Below names groups n f a = (g : List Place) × FoundBelow n groups g × Pairs names (Contains g) f a

module _ (names : Names) (groups : List (List Place)) where
  pub groups_begin : IsBestPair (Below names groups 0) None
  groups_begin = λ f a h. found_none groups h.0 h.1

  pub groups_more : (n : ℕ) (best found : Option Repeat) (g : List Place) → n < length groups → g ≡ get_or groups n g
      → IsFirstRepeat names (g ∷ []) found
      → IsBestPair (Below names groups n) best → IsBestPair (Below names groups (n + 1)) (earlier_repeat best found)
  groups_more n best found g within is first h = by found (of_group names g found first) where
    up : Within (Below names groups n) (Below names groups (n + 1))
    up f a k = (k.0, found_more n groups k.0 k.1, k.2)

    split : (f a : Place) → Below names groups (n + 1) f a → Below names groups n f a ⊎ Pairs names (Contains g) f a
    split f a k = elim (found_split n groups k.0 g within is k.1) [
      | inl b ↦ inl (k.0, b, k.2)
      | inr e ↦ inr (subst (λ z. Pairs names (Contains z) f a) e k.2)
    ]

    by : (o : Option Repeat) → IsBestPair (Pairs names (Contains g)) o → IsBestPair (Below names groups (n + 1)) (earlier_repeat best o)
    by None l = kept_none (Below names groups n) (Below names groups (n + 1)) up best
        (λ f a k. elim (split f a k) [ inl b ↦ b | inr p ↦ absurd (l f a p) ]) h
    by (Some r) l =
        added (Below names groups n) (Below names groups (n + 1)) up r (g, found_last n groups g is, l.there)
        (λ f a k. elim (split f a k) [ inl b ↦ inl b | inr p ↦ inr (l.least f a p) ]) best h

  pub groups_end : (n : ℕ) (best : Option Repeat) → n ≤ length groups → length groups ≤ n → IsBestPair (Below names groups n) best
      → IsFirstRepeat names groups best
  groups_end n best le ge h =
      to_first names groups best (kept (Below names groups n) (Repeats names groups)
      (λ f a k. record { group = k.0; among = found_within n groups k.0 le k.1; here = k.2.0; there = k.2.1; order = k.2.2; same = k.2.3 })
      best
      (λ f a k. (k.group, found_all n groups k.group ge k.among, (k.here, k.there, k.order, k.same)))
      h)
