-- A stable sort by places puts things in order.
use Rattle.std.proofs.Common.{◌≡◌, ℕ, suc, ◌≤◌, ◌<◌, ◌==◌, ◌&&◌, ◌||◌, not, List, [], ◌∷◌, Bool, true, false, true≢false, cond, if◌then◌else◌}
use Rattle.std.proofs.Common.{length, get_or, refl, sym, ap, ◌∙◌, arith, nat_lt}
use Rattle.std.specs.Cmp.{IsStrictWeakOrder}
use Rattle.std.specs.List.{filter}
use Rattle.std.specs.List.Sorted.{IsSortedByKey, IsStableByKey, ties}
use Rattle.std.specs.Ordering.{is_lt, ordering_then}
use Rattle.std.specs.declared.cmp.Ordering.TheVariants.{Less, Equal, Greater}
use Rattle.std.proofs.lemmas.List.Sorted.{ranks_by, sorted_far}
use Rattle.rotor_base.specs.declared.place.Place.{Place}
use Rattle.rotor_base.specs.Place.{place_cmp}
use Rattle.rotor_base.proofs.Places.{place_total}
use Rattle.binding_model.specs.Facts.{is_before, put, in_order}

-- lists without a later thing that is less than an earlier one
module _ {A : Type 0} (lt : A → A → Bool) (o : IsStrictWeakOrder lt) where
  abbrev Above : A → List A → Type 0
  Above x [] = Unit {0}
  Above x (y ∷ ys) = (lt y x ≡ false) × Above x ys

  abbrev Up : List A → Type 0
  Up [] = Unit {0}
  Up (x ∷ xs) = Above x xs × Up xs

  above_of : (x : A) (xs : List A) → ((k : ℕ) → k < length xs → lt (get_or xs k x) x ≡ false) → Above x xs
  above_of x [] h = tt {0}
  above_of x (y ∷ ys) h = (h 0 (omega arith), above_of x ys (λ k p. h (suc k) (omega arith)))

  up_of : (xs : List A) → ((i j : ℕ) (d : A) → i ≤ j → j < length xs → lt (get_or xs j d) (get_or xs i d) ≡ false) → Up xs
  up_of [] h = tt {0}
  up_of (x ∷ xs) h = (
    above_of x xs (λ k p. h 0 (suc k) x (omega arith) (omega arith)),
    up_of xs (λ i j d p q. h (suc i) (suc j) d (omega arith) (omega arith)),
  )

  -- if y is not less than x, and no thing of a list is less than y, none is less than x
  above_chain : (x y : A) (xs : List A) → lt y x ≡ false → Above y xs → Above x xs
  above_chain x y [] h a = tt {0}
  above_chain x y (z ∷ zs) h a = (o.chain z y x a.0 h, above_chain x y zs h a.1)

  not_both : (a b : Bool) → a ≡ true → not a && not b ≡ false
  not_both true b h = refl
  not_both false b h = absurd cc

  -- nothing that is not less than z ties with a thing that is less than z
  none_ties : (y z : A) (l : List A) → lt y z ≡ true → Above z l → filter (ties lt y) l ≡ []
  none_ties y z [] h a = refl
  none_ties y z (w ∷ l) h a = ap (λ b. cond b (w ∷ filter (ties lt y) l) (filter (ties lt y) l)) (not_both (lt y w) (lt w y) (less (lt y w) refl))
      ∙ none_ties y z l h a.1
    where
      less : (b : Bool) → lt y w ≡ b → b ≡ true
      less true e = refl
      less false e = absurd (true≢false (sym h ∙ o.chain y w z e a.0))

  irreflexive : (x : A) → lt x x ≡ false
  irreflexive x = by (lt x x) refl
    where
      by : (b : Bool) → lt x x ≡ b → b ≡ false
      by true e = sym e ∙ o.one_way x x e
      by false e = refl

  ties_with : (y z : A) → lt y z ≡ false → lt z y ≡ false → ties lt y z ≡ true
  ties_with y z h k = ap (λ b. not b && not (lt z y)) h ∙ ap (λ b. true && not b) k

  ties_itself : (y : A) → ties lt y y ≡ true
  ties_itself y = ties_with y y (irreflexive y) (irreflexive y)

  kept : (t : A → Bool) (y : A) (l : List A) → t y ≡ true → filter t (y ∷ l) ≡ y ∷ filter t l
  kept t y l h = ap (λ b. cond b (y ∷ filter t l) (filter t l)) h

  head_same : (x y : A) (xs ys : List A) → x ∷ xs ≡ y ∷ ys → x ≡ y
  head_same x y xs ys h = ap (first x) h
    where
      first : A → List A → A
      first d [] = d
      first d (z ∷ zs) = z

  rest_same : (x y : A) (xs ys : List A) → x ∷ xs ≡ y ∷ ys → xs ≡ ys
  rest_same x y xs ys h = ap rest h
    where
      rest : List A → List A
      rest [] = []
      rest (z ∷ zs) = zs

  no_cons : (x : A) (xs : List A) → x ∷ xs ≡ [] → ⊥
  no_cons x xs h = cc

  cancel : (b : Bool) (y : A) (xs ys : List A) → cond b (y ∷ xs) xs ≡ cond b (y ∷ ys) ys → xs ≡ ys
  cancel true y xs ys h = rest_same y y xs ys h
  cancel false y xs ys h = h

  -- of two lists in order with the same things that tie with each, the first ones tie
  not_less : (y z : A) (ys zs : List A) → Above z zs → filter (ties lt y) (y ∷ ys) ≡ filter (ties lt y) (z ∷ zs) → lt y z ≡ false
  not_less y z ys zs a h = by (lt y z) refl
    where
      by : (b : Bool) → lt y z ≡ b → b ≡ false
      by false e = refl
      by true e = absurd (no_cons y (filter (ties lt y) ys)
          (sym (kept (ties lt y) y ys (ties_itself y)) ∙ h ∙ none_ties y z (z ∷ zs) e (irreflexive z, a)))

  pub one_order : (ys zs : List A) → Up ys → Up zs → ((x : A) → filter (ties lt x) ys ≡ filter (ties lt x) zs) → ys ≡ zs
  one_order [] [] u v h = refl
  one_order [] (z ∷ zs) u v h = absurd (no_cons z (filter (ties lt z) zs) (sym (kept (ties lt z) z zs (ties_itself z)) ∙ sym (h z)))
  one_order (y ∷ ys) [] u v h = absurd (no_cons y (filter (ties lt y) ys) (sym (kept (ties lt y) y ys (ties_itself y)) ∙ h y))
  one_order (y ∷ ys) (z ∷ zs) u v h =
      let a = not_less y z ys zs v.0 (h y) in
      let b = not_less z y zs ys u.0 (sym (h z)) in
      let e : y ∷ filter (ties lt y) ys ≡ z ∷ filter (ties lt y) zs = sym (kept (ties lt y) y ys (ties_itself y)) ∙ h y
      ∙ kept (ties lt y) z zs (ties_with y z a b) in
      let same = head_same y z (filter (ties lt y) ys) (filter (ties lt y) zs) e in
      let more : (x : A) → filter (ties lt x) ys ≡ filter (ties lt x) zs =
      λ x. cancel (ties lt x y) y (filter (ties lt x) ys) (filter (ties lt x) zs)
      (h x ∙ ap (λ w. cond (ties lt x w) (w ∷ filter (ties lt x) zs) (filter (ties lt x) zs)) (sym same)) in
      ap (λ w. w ∷ ys) same ∙ ap (λ l. z ∷ l) (one_order ys zs u.1 v.1 more)

-- the order of places
before_tests : (a b c d : Bool) → (a || (b && c)) ≡ is_lt (ordering_then (cond a Less (cond b Equal Greater)) (cond c Less (cond d Equal Greater)))
before_tests true b c d = refl
before_tests false true true d = refl
before_tests false true false true = refl
before_tests false true false false = refl
before_tests false false c d = refl

before_so : (p q : Place) → is_before p q ≡ is_lt (place_cmp p q)
before_so p q = before_tests (nat_lt p.file q.file) (p.file == q.file) (nat_lt p.token q.token) (p.token == q.token)

module _ {A : Type 0} (at : A → Place) where
  abbrev less : A → A → Bool
  less x y = is_lt (place_cmp (at x) (at y))

  weak : IsStrictWeakOrder less
  weak = ranks_by place_total at

  -- one thing put in its place
  above_if : (b : Bool) (x y z : A) (l : List A) → less z y ≡ false → less x y ≡ false → Above less weak y l → Above less weak y (put at x l)
      → Above less weak y (if b then z ∷ put at x l else x ∷ (z ∷ l))
  above_if true x y z l h k a p = (h, p)
  above_if false x y z l h k a p = (k, (h, a))

  above_put : (x y : A) (l : List A) → less x y ≡ false → Above less weak y l → Above less weak y (put at x l)
  above_put x y [] h a = (h, tt {0})
  above_put x y (z ∷ l) h a = above_if (is_before (at z) (at x)) x y z l a.0 h a.1 (above_put x y l h a.1)

  up_if : (b : Bool) (x y : A) (l : List A) → is_before (at y) (at x) ≡ b → Above less weak y l → Up less weak l → Up less weak (put at x l)
      → Up less weak (if b then y ∷ put at x l else x ∷ (y ∷ l))
  up_if true x y l e a u p = (above_put x y l (weak.one_way y x (sym (before_so (at y) (at x)) ∙ e)) a, p)
  up_if false x y l e a u p = let k = sym (before_so (at y) (at x)) ∙ e in ((k, above_chain less weak x y l k a), (a, u))

  up_put : (x : A) (l : List A) → Up less weak l → Up less weak (put at x l)
  up_put x [] u = (tt {0}, tt {0})
  up_put x (y ∷ l) u = up_if (is_before (at y) (at x)) x y l refl u.0 u.1 (up_put x l u.1)

  up_order : (xs : List A) → Up less weak (in_order at xs)
  up_order [] = tt {0}
  up_order (x ∷ xs) = up_put x (in_order at xs) (up_order xs)

  -- things that tie with one thing keep their order
  ties_both : (w x y : A) → ties less w x ≡ true → ties less w y ≡ true → less y x ≡ false
  ties_both w x y h k = weak.chain y w x (second (less w y) (less y w) k) (first (less w x) (less x w) h)
    where
      first : (a b : Bool) → not a && not b ≡ true → a ≡ false
      first true b h = absurd cc
      first false b h = refl

      second : (a b : Bool) → not a && not b ≡ true → b ≡ false
      second true b h = absurd cc
      second false true h = absurd cc
      second false false h = refl

  swap_kept : (b c : Bool) (x y : A) (l : List A) → (b ≡ true → c ≡ true → ⊥) → cond c (y ∷ cond b (x ∷ l) l) (cond b (x ∷ l) l) ≡ cond b
      (x ∷ cond c (y ∷ l) l) (cond c (y ∷ l) l)
  swap_kept true true x y l f = absurd (f refl refl)
  swap_kept true false x y l f = refl
  swap_kept false true x y l f = refl
  swap_kept false false x y l f = refl

  kept_if : (b : Bool) (w x y : A) (l : List A) → is_before (at y) (at x) ≡ b → filter (ties less w) (put at x l) ≡ filter (ties less w) (x ∷ l)
      → filter (ties less w) (if b then y ∷ put at x l else x ∷ (y ∷ l)) ≡ filter (ties less w) (x ∷ (y ∷ l))
  kept_if true w x y l e h =
      ap (λ k. cond (ties less w y) (y ∷ k) k) h
      ∙ swap_kept (ties less w x) (ties less w y) x y (filter (ties less w) l)
      (λ p q. true≢false (sym e ∙ before_so (at y) (at x) ∙ ties_both w x y p q))
  kept_if false w x y l e h = refl

  kept_put : (w x : A) (l : List A) → filter (ties less w) (put at x l) ≡ filter (ties less w) (x ∷ l)
  kept_put w x [] = refl
  kept_put w x (y ∷ l) = kept_if (is_before (at y) (at x)) w x y l refl (kept_put w x l)

  kept_order : (w : A) (xs : List A) → filter (ties less w) (in_order at xs) ≡ filter (ties less w) xs
  kept_order w [] = refl
  kept_order w (x ∷ xs) = kept_put w x (in_order at xs) ∙ ap (λ k. cond (ties less w x) (x ∷ k) k) (kept_order w xs)

  pub sorted_so : (xs ys : List A) → IsSortedByKey at place_cmp ys → IsStableByKey at place_cmp xs ys → ys ≡ in_order at xs
  sorted_so xs ys s t = one_order less weak ys (in_order at xs) (up_of less weak ys (sorted_far less weak ys s)) (up_order xs)
      (λ w. t w ∙ sym (kept_order w xs))
