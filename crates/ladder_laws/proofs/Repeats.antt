-- Whether a group repeats a name, and the least place that repeats one.
use Rattle.std.proofs.Common.{◌≡◌, ◌<◌, ◌⊎◌, inl, inr, ℕ, zero, suc, List, [], ◌∷◌, Bool, true, false, length, get_or, Contains, refl}
use Rattle.std.proofs.Common.{sym, ap, subst, ◌∙◌, arith}
use Rattle.std.proofs.lemmas.Slice.Eq.{bytes_eq-Decides}
use Rattle.std.specs.Ordering.{MatchOrdering}
use Rattle.std.specs.Prelude.{bytes_eq}
use Rattle.std.specs.declared.cmp.Ordering.{Ordering}
use Rattle.std.specs.declared.cmp.Ordering.TheVariants.{Less, Equal, Greater}
use Rattle.rotor_base.specs.Place.{IsBefore, place_cmp}
use Rattle.rotor_base.specs.declared.place.Place.{Place}
use Rattle.rotor_base.proofs.Places.{place_ranked}
use Rattle.capture_check.specs.Fault.{Names, Repeats, IsLeastRepeat}
use Rattle.facts_laws.proofs.Sorted.{before_all}
use Rattle.ladder_laws.proofs.Least.{Ranked, before, same, behind, Decides, Some_of, decides_one, decides_some}

-- ---- the order of places, and of pairs of them

pub place_rank : (p q : Place) → Ranked (IsBefore p q) (p ≡ q) (IsBefore q p)
place_rank p q = by (place_cmp p q) (place_ranked p q) where
  by : (o : Ordering) → MatchOrdering o (IsBefore p q) (p ≡ q) (IsBefore q p) → Ranked (IsBefore p q) (p ≡ q) (IsBefore q p)
  by Less h = before h
  by Equal h = same h
  by Greater h = behind h

-- a pair has the place of a name and a place that repeats it; the second places are compared first
abbrev Pair : Type 0
Pair = Place × Place

abbrev PairBefore : Pair → Pair → Type 0
PairBefore x y = IsBefore x.1 y.1 ⊎ ((x.1 ≡ y.1) × IsBefore x.0 y.0)

pair_rank : (x y : Pair) → Ranked (PairBefore x y) (x ≡ y) (PairBefore y x)
pair_rank x y = by (place_rank x.1 y.1) (place_rank x.0 y.0) where
  by : Ranked (IsBefore x.1 y.1) (x.1 ≡ y.1) (IsBefore y.1 x.1) → Ranked (IsBefore x.0 y.0) (x.0 ≡ y.0) (IsBefore y.0 x.0)
      → Ranked (PairBefore x y) (x ≡ y) (PairBefore y x)
  by (before h) r = before (inl h)
  by (behind h) r = behind (inl h)
  by (same e) (before h) = before (inr (e, h))
  by (same e) (behind h) = behind (inr (sym e, h))
  by (same e) (same f) = same (λ i. (f i, e i))

pair_on : (x y z : Pair) → PairBefore x y → PairBefore y z → PairBefore x z
pair_on x y z (inl h) (inl k) = inl (before_all x.1 y.1 z.1 h k)
pair_on x y z (inl h) (inr k) = inl (subst (IsBefore x.1) k.0 h)
pair_on x y z (inr h) (inl k) = inl (subst (λ p. IsBefore p z.1) (sym h.0) k)
pair_on x y z (inr h) (inr k) = inr (subst (λ p. x.1 ≡ p) k.0 h.0, before_all x.0 y.0 z.0 h.1 k.1)

-- ---- one of a list

split : {B : Type 0} (x : B) (xs : List B) (z : B) → Contains (x ∷ xs) z → (x ≡ z) ⊎ Contains xs z
split x xs z c = by c.0 c.1 c.2 where
  by : (k : ℕ) → k < suc (length xs) → get_or (x ∷ xs) k z ≡ z → (x ≡ z) ⊎ Contains xs z
  by zero less e = inl e
  by (suc k) less e = inr (k, omega (arith, less), e)

pub some_contained : {A B : Type 0} (R : A → A → Type 0) (P : B → A → Type 0) (bs : List B) (b : B) (x : A) → Contains bs b → P b x
    → Some_of R P bs x
some_contained R P [] b x c h = absurd (omega (arith, c.1))
some_contained R P (y ∷ bs) b x c h = elim (split y bs b c) [
  | inl e ↦ inl (subst (λ z. P z x) (sym e) h)
  | inr k ↦ inr (some_contained R P bs b x k h)
]

pub contained_some : {A B : Type 0} (R : A → A → Type 0) (P : B → A → Type 0) (bs : List B) (x : A) → Some_of R P bs x
    → (b : B) × Contains bs b × P b x
contained_some R P [] x h = absurd h
contained_some R P (y ∷ bs) x (inl h) = (y, (0, omega arith, refl), h)
contained_some R P (y ∷ bs) x (inr h) =
    let k = contained_some R P bs x h in
    (k.0, (suc k.1.0, omega (arith, k.1.1), k.1.2), k.2)

-- ---- repeats

is_before_or_not : (p q : Place) → IsBefore p q ⊎ (IsBefore p q → ⊥)
is_before_or_not p q = by (place_rank p q) where
  never : IsBefore p q → IsBefore q p → ⊥
  never h k = itself p (before_all p q p h k) where
    itself : (x : Place) → IsBefore x x → ⊥
    itself x (inl h) = omega (arith, h)
    itself x (inr h) = let less : x.token < x.token = h.1 in omega (arith, less)

  own : (p ≡ q) → IsBefore p q → ⊥
  own e h = itself q (subst (λ z. IsBefore z q) e h) where
    itself : (x : Place) → IsBefore x x → ⊥
    itself x (inl h) = omega (arith, h)
    itself x (inr h) = let less : x.token < x.token = h.1 in omega (arith, less)

  by : Ranked (IsBefore p q) (p ≡ q) (IsBefore q p) → IsBefore p q ⊎ (IsBefore p q → ⊥)
  by (before h) = inl h
  by (same e) = inr (own e)
  by (behind h) = inr (λ k. never k h)

names_same_or_not : (x y : List ℕ) → (x ≡ y) ⊎ ((x ≡ y) → ⊥)
names_same_or_not x y = by (bytes_eq x y) refl where
  by : (b : Bool) → bytes_eq x y ≡ b → (x ≡ y) ⊎ ((x ≡ y) → ⊥)
  by true e = inl ((bytes_eq-Decides x y).0 e)
  by false e = inr (λ s. (let wrong : true ≡ false = sym ((bytes_eq-Decides x y).1 s) ∙ e in cc))

both_is : {A B : Type 0} → A ⊎ (A → ⊥) → B ⊎ (B → ⊥) → (A × B) ⊎ ((A × B) → ⊥)
both_is (inl a) (inl b) = inl (a, b)
both_is (inr n) b = inr (λ k. n k.0)
both_is (inl a) (inr n) = inr (λ k. n k.1)

module _ (names : Names) where
  abbrev Bad : Place → Place → Type 0
  Bad f a = IsBefore f a × (names f ≡ names a)

  -- by a second place, a first place and a group
  abbrev Second : Place → Place → Pair → Type 0
  Second f a x = (x ≡ (f, a)) × Bad f a

  abbrev First : List Place → Place → Pair → Type 0
  First g f x = Some_of PairBefore (Second f) g x

  abbrev InGroup : List Place → Pair → Type 0
  InGroup g x = Some_of PairBefore (First g) g x

  abbrev Found : List (List Place) → Pair → Type 0
  Found groups x = Some_of PairBefore InGroup groups x

  found_decided : (groups : List (List Place)) → Decides PairBefore (Found groups)
  found_decided groups =
      decides_some PairBefore pair_rank pair_on InGroup
      (λ g. decides_some PairBefore pair_rank pair_on (First g)
      (λ f. decides_some PairBefore pair_rank pair_on (Second f)
      (λ a. decides_one PairBefore (f, a) (Bad f a) (both_is (is_before_or_not f a) (names_same_or_not (names f) (names a)))) g) g) groups

  repeat_found : (groups : List (List Place)) (f a : Place) → Repeats names groups f a → Found groups (f, a)
  repeat_found groups f a r =
      some_contained PairBefore InGroup groups r.group (f, a) r.among
      (some_contained PairBefore (First r.group) r.group f (f, a) r.here
      (some_contained PairBefore (Second f) r.group a (f, a) r.there (refl, (r.order, r.same))))

  found_repeat : (groups : List (List Place)) (x : Pair) → Found groups x → Repeats names groups x.0 x.1
  found_repeat groups x h =
      let g = contained_some PairBefore InGroup groups x h in
      let f = contained_some PairBefore (First g.0) g.0 x g.2 in
      let a = contained_some PairBefore (Second f.0) g.0 x f.2 in
      let one : f.0 ≡ x.0 = ap (λ (y : Pair). y.0) (sym a.2.0) in
      let two : a.0 ≡ x.1 = ap (λ (y : Pair). y.1) (sym a.2.0) in
      record {
        group = g.0;
        among = g.1;
        here = subst (Contains g.0) one f.1;
        there = subst (Contains g.0) two a.1;
        order = subst (λ z. IsBefore z x.1) one (subst (IsBefore f.0) two a.2.1.0);
        same = subst (λ z. names z ≡ names x.1) one (subst (λ z. names f.0 ≡ names z) two a.2.1.1);
      }

  least_as : (x y : Pair) → (x ≡ y) ⊎ PairBefore x y → IsBefore x.1 y.1 ⊎ ((x.1 ≡ y.1) × ((x.0 ≡ y.0) ⊎ IsBefore x.0 y.0))
  least_as x y (inl e) = inr (ap (λ (z : Pair). z.1) e, inl (ap (λ (z : Pair). z.0) e))
  least_as x y (inr (inl h)) = inl h
  least_as x y (inr (inr h)) = inr (h.0, inr h.1)

  pub repeats_decided : (groups : List (List Place)) → ((f : Place) × (a : Place) × IsLeastRepeat names groups f a)
      ⊎ ((f a : Place) → Repeats names groups f a → ⊥)
  repeats_decided groups = by (found_decided groups) where
    by : Decides PairBefore (Found groups) → ((f : Place) × (a : Place) × IsLeastRepeat names groups f a)
        ⊎ ((f a : Place) → Repeats names groups f a → ⊥)
    by (inl l) = inl (
      l.it.0,
      l.it.1,
      record {
        repeats = found_repeat groups l.it l.has;
        least = λ f a r. least_as l.it (f, a) (l.least (f, a) (repeat_found groups f a r));
      },
    )
    by (inr n) = inr (λ f a r. n (f, a) (repeat_found groups f a r))
