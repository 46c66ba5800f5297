-- The first name that one of two lists in byte order has alone.
use Rattle.std.proofs.Common.{◌≡◌, ℕ, zero, suc, ◌+◌, ◌<◌, ◌⊎◌, inl, inr, List, [], ◌∷◌, Option, Some, None, drop, length, get_or, Contains, refl, ap}
use Rattle.std.proofs.Common.{sym, subst, ◌∙◌, arith}
use Rattle.std.proofs.lemmas.List.{drop_more}
use Rattle.std.specs.Cmp.Lexicographic.{slice_cmp}
use Rattle.std.specs.Ordering.{nat_cmp, ordering_reverse}
use Rattle.std.specs.declared.cmp.Ordering.{Ordering}
use Rattle.std.specs.declared.cmp.Ordering.TheVariants.{Less, Equal, Greater}
use Rattle.std.specs.List.{AllByRecursion}
use Rattle.std.specs.List.Sorted.{IsStrictlySortedBy}
use Rattle.std.proofs.lemmas.Cmp.{nat_list_cmp_total, tied_itself}
use Rattle.std.proofs.lemmas.Map.Keys.{sorted_head, sorted_tail}
use Rattle.std.proofs.lemmas.Map.Lookups.{exact_bytes}
use Rattle.rotor_base.specs.declared.source.SourceFile.{SourceFile}
use Rattle.rotor_base.specs.Files.{FileSet, IsProject, names_of}
use Rattle.shape_core.specs.Shape.{Name}
use Rattle.rename_verify.specs.Differ.{IsAlone, IsFirstAlone, HasOtherSources, source}
use Rattle.rename_verify.specs.Scans.{by_order, first_alone}

-- ---- one step of the scan

pub alone_step : (olds news : List SourceFile) (n : ℕ) (d e : SourceFile) → n < length olds → n < length news
    → first_alone (names_of (drop n olds)) (names_of (drop n news))
    ≡ by_order (slice_cmp nat_cmp (get_or olds n d).name (get_or news n e).name) (get_or olds n d).name (get_or news n e).name
    (first_alone (names_of (drop (n + 1) olds)) (names_of (drop (n + 1) news)))
alone_step olds news n d e v w =
    ap (λ l. first_alone (names_of l) (names_of (drop n news))) (drop_more olds n d v)
    ∙ ap (λ l. first_alone (names_of (get_or olds n d ∷ drop (n + 1) olds)) (names_of l)) (drop_more news n e w)

-- ---- members

pub split_in : {A : Type 0} (x : A) (xs : List A) (z : A) → Contains (x ∷ xs) z → (x ≡ z) ⊎ Contains xs z
split_in x xs z c = by c.0 c.1 c.2 where
  by : (k : ℕ) → k < suc (length xs) → get_or (x ∷ xs) k z ≡ z → (x ≡ z) ⊎ Contains xs z
  by zero less e = inl e
  by (suc k) less e = inr (k, omega (arith, less), e)

pub more_in : {A : Type 0} (x : A) (xs : List A) (z : A) → Contains xs z → Contains (x ∷ xs) z
more_in x xs z c = (suc c.0, omega (arith, c.1), c.2)

pub first_in : {A : Type 0} (x : A) (xs : List A) → Contains (x ∷ xs) x
first_in x xs = (0, omega arith, refl)

pub none_in : {A : Type 0} (z : A) → Contains [] z → ⊥
none_in z c = omega (arith, c.1)

-- ---- byte order

abbrev Below : Name → Name → Type 0
Below x y = slice_cmp nat_cmp x y ≡ Less

abbrev Sorted : List Name → Type 0
Sorted xs = IsStrictlySortedBy (slice_cmp nat_cmp) xs

not_below : (x : Name) → Below x x → ⊥
not_below x h = let wrong : Less ≡ Equal = sym h ∙ tied_itself nat_list_cmp_total x in cc

below_in : (x : Name) (xs : List Name) (z : Name) → AllByRecursion (λ y. Below x y) xs → Contains xs z → Below x z
below_in x [] z h c = absurd (none_in z c)
below_in x (y ∷ ys) z h c = elim (split_in y ys z c) [ inl e ↦ subst (Below x) e h.0 | inr k ↦ below_in x ys z h.1 k ]

-- the first of a list is before all others
first_before : (x : Name) (xs : List Name) (z : Name) → Sorted (x ∷ xs) → Contains (x ∷ xs) z → (x ≡ z) ⊎ Below x z
first_before x xs z s c = elim (split_in x xs z c) [ inl e ↦ inl e | inr k ↦ inr (below_in x xs z (sorted_head (slice_cmp nat_cmp) x xs s) k) ]

-- a name before the first of a list is before all of it
before_all : (x y : Name) (ys : List Name) (z : Name) → Below x y → Sorted (y ∷ ys) → Contains (y ∷ ys) z → Below x z
before_all x y ys z h s c = elim (first_before y ys z s c) [ inl e ↦ subst (Below x) e h | inr k ↦ nat_list_cmp_total.trans x y z h k ]

not_in : (x y : Name) (ys : List Name) → Below x y → Sorted (y ∷ ys) → Contains (y ∷ ys) x → ⊥
not_in x y ys h s c = not_below x (before_all x y ys x h s c)

-- ---- the first name alone

abbrev pub IsToldAlone : List Name → List Name → Option Name → Type 0
IsToldAlone xs ys None = xs ≡ ys
IsToldAlone xs ys (Some z) = IsFirstAlone xs ys z

lesser_left : (x y : Name) (xs ys : List Name) → Sorted (x ∷ xs) → Sorted (y ∷ ys) → Below x y → IsFirstAlone (x ∷ xs) (y ∷ ys) x
lesser_left x y xs ys s t h = record {
  alone = inl (first_in x xs, not_in x y ys h t);
  first = λ z k. elim k [ inl a ↦ first_before x xs z s a.0 | inr b ↦ inr (before_all x y ys z h t b.0) ];
}

lesser_right : (x y : Name) (xs ys : List Name) → Sorted (x ∷ xs) → Sorted (y ∷ ys) → Below y x → IsFirstAlone (x ∷ xs) (y ∷ ys) y
lesser_right x y xs ys s t h = record {
  alone = inr (first_in y ys, not_in y x xs h s);
  first = λ z k. elim k [ inl a ↦ inr (before_all y x xs z h s a.0) | inr b ↦ first_before y ys z t b.0 ];
}

-- a name that is not the first of two lists that begin alike
other_in : (x : Name) (xs : List Name) (z : Name) → Below x z → Contains (x ∷ xs) z → Contains xs z
other_in x xs z h c = elim (split_in x xs z c) [ inl e ↦ absurd (not_below x (subst (Below x) (sym e) h)) | inr k ↦ k ]

alone_behind : (x : Name) (xs ys : List Name) (z : Name) → IsAlone (x ∷ xs) (x ∷ ys) z → IsAlone xs ys z
alone_behind x xs ys z (inl a) = inl (
  elim (split_in x xs z a.0) [ inl e ↦ absurd (a.1 (subst (Contains (x ∷ ys)) e (first_in x ys))) | inr k ↦ k ],
  λ c. a.1 (more_in x ys z c),
)
alone_behind x xs ys z (inr a) = inr (
  elim (split_in x ys z a.0) [ inl e ↦ absurd (a.1 (subst (Contains (x ∷ xs)) e (first_in x xs))) | inr k ↦ k ],
  λ c. a.1 (more_in x xs z c),
)

alone_before : (x : Name) (xs ys : List Name) (z : Name) → Sorted (x ∷ xs) → Sorted (x ∷ ys) → IsAlone xs ys z → IsAlone (x ∷ xs) (x ∷ ys) z
alone_before x xs ys z s t (inl a) = inl
    (more_in x xs z a.0, λ c. a.1 (other_in x ys z (below_in x xs z (sorted_head (slice_cmp nat_cmp) x xs s) a.0) c))
alone_before x xs ys z s t (inr a) = inr
    (more_in x ys z a.0, λ c. a.1 (other_in x xs z (below_in x ys z (sorted_head (slice_cmp nat_cmp) x ys t) a.0) c))

behind : (x : Name) (xs ys : List Name) → Sorted (x ∷ xs) → Sorted (x ∷ ys) → (o : Option Name) → IsToldAlone xs ys o
    → IsToldAlone (x ∷ xs) (x ∷ ys) o
behind x xs ys s t None h = ap (λ l. x ∷ l) h
behind x xs ys s t (Some z) h = record { alone = alone_before x xs ys z s t h.alone; first = λ y k. h.first y (alone_behind x xs ys y k) }

pub told : (xs ys : List Name) → Sorted xs → Sorted ys → IsToldAlone xs ys (first_alone xs ys)
told [] [] s t = refl
told [] (y ∷ ys) s t = record {
  alone = inr (first_in y ys, none_in y);
  first = λ z k. elim k [ inl a ↦ absurd (none_in z a.0) | inr b ↦ first_before y ys z t b.0 ];
}
told (x ∷ xs) [] s t = record {
  alone = inl (first_in x xs, none_in x);
  first = λ z k. elim k [ inl a ↦ first_before x xs z s a.0 | inr b ↦ absurd (none_in z b.0) ];
}
told (x ∷ xs) (y ∷ ys) s t = by (slice_cmp nat_cmp x y) refl
    (told xs ys (sorted_tail (slice_cmp nat_cmp) x xs s) (sorted_tail (slice_cmp nat_cmp) y ys t)) where
      by : (r : Ordering) → slice_cmp nat_cmp x y ≡ r → IsToldAlone xs ys (first_alone xs ys)
          → IsToldAlone (x ∷ xs) (y ∷ ys) (by_order r x y (first_alone xs ys))
      by Less e h = lesser_left x y xs ys s t e
      by Greater e h = lesser_right x y xs ys s t (nat_list_cmp_total.antisymm y x ∙ ap ordering_reverse e)
      by Equal e h =
          let same : x ≡ y = exact_bytes x y e in
          subst (λ z. IsToldAlone (x ∷ xs) (z ∷ ys) (first_alone xs ys)) same
          (behind x xs ys s (subst (λ z. Sorted (z ∷ ys)) (sym same) t) (first_alone xs ys) h)

-- ---- of the files of two projects

module _ (old new : FileSet) (p : IsProject old) (q : IsProject new) (o : Option Name)
    (e : o ≡ first_alone (names_of old.entries) (names_of new.entries)) where
  is : IsToldAlone (names_of old.entries) (names_of new.entries) o
  is = subst (IsToldAlone (names_of old.entries) (names_of new.entries)) (sym e)
      (told (names_of old.entries) (names_of new.entries) p.sources.ordered q.sources.ordered)

  pub found : (x : Name) → o ≡ Some x → HasOtherSources old new x
  found x h = source x (subst (IsToldAlone (names_of old.entries) (names_of new.entries)) h is)

  pub none : o ≡ None → names_of old.entries ≡ names_of new.entries
  none h = subst (IsToldAlone (names_of old.entries) (names_of new.entries)) h is
