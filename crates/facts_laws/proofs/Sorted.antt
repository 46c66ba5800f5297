-- Places put in order, each once.
use Rattle.std.proofs.Common.{◌≡◌, ◌<◌, inl, inr, ℕ, zero, suc, List, [], ◌∷◌, length, get_or, AllPairs, subst, arith}
use Rattle.std.specs.Ordering.{MatchOrdering}
use Rattle.std.specs.declared.cmp.Ordering.{Ordering}
use Rattle.std.specs.declared.cmp.Ordering.TheVariants.{Less, Equal, Greater}
use Rattle.rotor_base.specs.Place.{IsBefore, place_cmp}
use Rattle.rotor_base.specs.declared.place.Place.{Place}
use Rattle.rotor_base.proofs.Places.{place_ranked}
use Rattle.value_sites.specs.Each.{Each}
use Rattle.facts_laws.proofs.Members.{In}

pub before_all : (p q r : Place) → IsBefore p q → IsBefore q r → IsBefore p r
before_all p q r (inl h) (inl k) = inl (omega arith)
before_all p q r (inl h) (inr k) = let same : q.file ≡ r.file = k.0 in inl (omega arith)
before_all p q r (inr h) (inl k) = let same : p.file ≡ q.file = h.0 in inl (omega arith)
before_all p q r (inr h) (inr k) = let less : p.token < q.token = h.1 in let more : q.token < r.token = k.1 in let one : p.file ≡ q.file = h.0 in
    let two : q.file ≡ r.file = k.0 in inr (omega arith, omega arith)

-- each is before all that follow it
abbrev pub InOrder : List Place → Type 0
InOrder [] = Unit {0}
InOrder (p ∷ ps) = Each (IsBefore p) ps × InOrder ps

-- a place between those before it and those behind it, each once
abbrev placed : Ordering → Place → Place → List Place → List Place → List Place
placed Less p q qs rest = p ∷ (q ∷ qs)
placed Equal p q qs rest = q ∷ qs
placed Greater p q qs rest = q ∷ rest

abbrev insert : Place → List Place → List Place
insert p [] = p ∷ []
insert p (q ∷ qs) = placed (place_cmp p q) p q qs (insert p qs)

abbrev pub sorted : List Place → List Place
sorted [] = []
sorted (p ∷ ps) = insert p (sorted ps)

each_later : (p q : Place) (qs : List Place) → IsBefore p q → Each (IsBefore q) qs → Each (IsBefore p) qs
each_later p q [] h k = tt
each_later p q (r ∷ qs) h k = (before_all p q r h k.0, each_later p q qs h k.1)

each_insert : (q p : Place) (qs : List Place) → IsBefore q p → Each (IsBefore q) qs → Each (IsBefore q) (insert p qs)
each_insert q p [] h k = (h, tt)
each_insert q p (r ∷ qs) h k = by (place_cmp p r) (each_insert q p qs h k.1) where
  by : (o : Ordering) → Each (IsBefore q) (insert p qs) → Each (IsBefore q) (placed o p r qs (insert p qs))
  by Less rest = (h, k)
  by Equal rest = k
  by Greater rest = (k.0, rest)

insert_ordered : (p : Place) (qs : List Place) → InOrder qs → InOrder (insert p qs)
insert_ordered p [] h = (tt, tt)
insert_ordered p (q ∷ qs) h = by (place_cmp p q) (place_ranked p q) (insert_ordered p qs h.1) where
  by : (o : Ordering) → MatchOrdering o (IsBefore p q) (p ≡ q) (IsBefore q p) → InOrder (insert p qs) → InOrder (placed o p q qs (insert p qs))
  by Less b rest = ((b, each_later p q qs b h.0), h)
  by Equal e rest = h
  by Greater b rest = (each_insert q p qs b h.0, rest)

pub sorted_ordered : (ps : List Place) → InOrder (sorted ps)
sorted_ordered [] = tt
sorted_ordered (p ∷ ps) = insert_ordered p (sorted ps) (sorted_ordered ps)

in_insert : (p : Place) (qs : List Place) (x : Place) → In x (p ∷ qs) → In x (insert p qs)
in_insert p [] x h = h
in_insert p (q ∷ qs) x h = by (place_cmp p q) (place_ranked p q) h (in_insert p qs x) where
  by : (o : Ordering) → MatchOrdering o (IsBefore p q) (p ≡ q) (IsBefore q p) → In x (p ∷ (q ∷ qs)) → (In x (p ∷ qs) → In x (insert p qs))
      → In x (placed o p q qs (insert p qs))
  by Less b k rest = k
  by Equal e (inl f) rest = inl (subst (λ z. z ≡ x) e f)
  by Equal e (inr k) rest = k
  by Greater b (inl f) rest = inr (rest (inl f))
  by Greater b (inr (inl f)) rest = inl f
  by Greater b (inr (inr k)) rest = inr (rest (inr k))

insert_in : (p : Place) (qs : List Place) (x : Place) → In x (insert p qs) → In x (p ∷ qs)
insert_in p [] x h = h
insert_in p (q ∷ qs) x h = by (place_cmp p q) h (insert_in p qs x) where
  by : (o : Ordering) → In x (placed o p q qs (insert p qs)) → (In x (insert p qs) → In x (p ∷ qs)) → In x (p ∷ (q ∷ qs))
  by Less k rest = k
  by Equal k rest = inr k
  by Greater (inl f) rest = inr (inl f)
  by Greater (inr k) rest = elim (rest k) [ inl f ↦ inl f | inr i ↦ inr (inr i) ]

pub in_sorted : (ps : List Place) (x : Place) → In x ps → In x (sorted ps)
in_sorted [] x h = h
in_sorted (p ∷ ps) x (inl e) = in_insert p (sorted ps) x (inl e)
in_sorted (p ∷ ps) x (inr h) = in_insert p (sorted ps) x (inr (in_sorted ps x h))

pub sorted_in : (ps : List Place) (x : Place) → In x (sorted ps) → In x ps
sorted_in [] x h = h
sorted_in (p ∷ ps) x h = elim (insert_in p (sorted ps) x h) [ inl e ↦ inl e | inr k ↦ inr (sorted_in ps x k) ]

each_at : (P : Place → Type 0) (ps : List Place) (j : ℕ) (d : Place) → Each P ps → j < length ps → P (get_or ps j d)
each_at P [] j d h l = absurd (omega (arith, l))
each_at P (p ∷ ps) zero d h l = h.0
each_at P (p ∷ ps) (suc j) d h l = each_at P ps j d h.1 (omega (arith, l))

pub all_pairs : (ps : List Place) → InOrder ps → AllPairs IsBefore ps
all_pairs [] h i j d ij l = absurd (omega (arith, l))
all_pairs (p ∷ ps) h zero zero d ij l = absurd (omega (arith, ij))
all_pairs (p ∷ ps) h zero (suc j) d ij l = each_at (IsBefore p) ps j d h.0 (omega (arith, l))
all_pairs (p ∷ ps) h (suc i) zero d ij l = absurd (omega (arith, ij))
all_pairs (p ∷ ps) h (suc i) (suc j) d ij l = all_pairs ps h.1 i j d (omega (arith, ij)) (omega (arith, l))
