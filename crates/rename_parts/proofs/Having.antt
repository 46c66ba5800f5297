-- A list has something of a kind.
use Rattle.std.proofs.Common.{◌≡◌, zero, suc, ◌⊎◌, inl, inr, ◌||◌, List, [], ◌∷◌, ◌++◌, Bool, true, false, cond, map, filter, Contains, refl, ap, sym}
use Rattle.std.proofs.Common.{subst, ◌∙◌, arith}
use Rattle.std.specs.List.{list_any}
use Rattle.value_sites.specs.Each.{Each}

abbrev pub Has : {A : Type 0} → (A → Type 0) → List A → Type 0
Has P [] = ⊥
Has P (x ∷ xs) = P x ⊎ Has P xs

pub has_as : {A : Type 0} (P Q : A → Type 0) (xs : List A) → ((x : A) → P x → Q x) → Has P xs → Has Q xs
has_as P Q [] f h = h
has_as P Q (x ∷ xs) f (inl p) = inl (f x p)
has_as P Q (x ∷ xs) f (inr h) = inr (has_as P Q xs f h)

pub has_left : {A : Type 0} (P : A → Type 0) (xs ys : List A) → Has P xs → Has P (xs ++ ys)
has_left P [] ys h = absurd h
has_left P (x ∷ xs) ys (inl p) = inl p
has_left P (x ∷ xs) ys (inr h) = inr (has_left P xs ys h)

pub has_right : {A : Type 0} (P : A → Type 0) (xs ys : List A) → Has P ys → Has P (xs ++ ys)
has_right P [] ys h = h
has_right P (x ∷ xs) ys h = inr (has_right P xs ys h)

has_next : {A : Type 0} (P : A → Type 0) (x : A) (xs ys : List A) → Has P xs ⊎ Has P ys → Has P (x ∷ xs) ⊎ Has P ys
has_next P x xs ys (inl a) = inl (inr a)
has_next P x xs ys (inr b) = inr b

pub has_split : {A : Type 0} (P : A → Type 0) (xs ys : List A) → Has P (xs ++ ys) → Has P xs ⊎ Has P ys
has_split P [] ys h = inr h
has_split P (x ∷ xs) ys (inl p) = inl (inl p)
has_split P (x ∷ xs) ys (inr h) = has_next P x xs ys (has_split P xs ys h)

pub has_mapped : {A B : Type 0} (f : A → B) (P : B → Type 0) (xs : List A) → Has (λ x. P (f x)) xs → Has P (map f xs)
has_mapped f P [] h = h
has_mapped f P (x ∷ xs) (inl p) = inl p
has_mapped f P (x ∷ xs) (inr h) = inr (has_mapped f P xs h)

pub has_unmapped : {A B : Type 0} (f : A → B) (P : B → Type 0) (xs : List A) → Has P (map f xs) → Has (λ x. P (f x)) xs
has_unmapped f P [] h = h
has_unmapped f P (x ∷ xs) (inl p) = inl p
has_unmapped f P (x ∷ xs) (inr h) = inr (has_unmapped f P xs h)

kept_in : {A : Type 0} (test : A → Bool) (P : A → Type 0) (x : A) (xs : List A) (b : Bool) → test x ≡ b → test x ≡ true → P x
    → Has P (cond b (x ∷ xs) xs)
kept_in test P x xs true e t p = inl p
kept_in test P x xs false e t p = let wrong : true ≡ false = sym t ∙ e in absurd cc

more_in : {A : Type 0} (P : A → Type 0) (x : A) (xs : List A) (b : Bool) → Has P xs → Has P (cond b (x ∷ xs) xs)
more_in P x xs true h = inr h
more_in P x xs false h = h

pub has_filtered : {A : Type 0} (test : A → Bool) (P : A → Type 0) (xs : List A) → Has (λ x. P x × (test x ≡ true)) xs → Has P (filter test xs)
has_filtered test P [] h = h
has_filtered test P (x ∷ xs) (inl p) = kept_in test P x (filter test xs) (test x) refl p.1 p.0
has_filtered test P (x ∷ xs) (inr h) = more_in P x (filter test xs) (test x) (has_filtered test P xs h)

un_kept : {A : Type 0} (test : A → Bool) (P : A → Type 0) (x : A) (xs : List A) (b : Bool) → test x ≡ b → Has P (cond b (x ∷ xs) xs)
    → (P x × (test x ≡ true)) ⊎ Has P xs
un_kept test P x xs true e (inl p) = inl (p, e)
un_kept test P x xs true e (inr h) = inr h
un_kept test P x xs false e h = inr h

un_next : {A : Type 0} (test : A → Bool) (P : A → Type 0) (x : A) (xs : List A) → (Has P (filter test xs) → Has (λ y. P y × (test y ≡ true)) xs)
    → (P x × (test x ≡ true)) ⊎ Has P (filter test xs) → Has (λ y. P y × (test y ≡ true)) (x ∷ xs)
un_next test P x xs f (inl p) = inl p
un_next test P x xs f (inr h) = inr (f h)

pub has_unfiltered : {A : Type 0} (test : A → Bool) (P : A → Type 0) (xs : List A) → Has P (filter test xs) → Has (λ x. P x × (test x ≡ true)) xs
has_unfiltered test P [] h = h
has_unfiltered test P (x ∷ xs) h = un_next test P x xs (has_unfiltered test P xs) (un_kept test P x (filter test xs) (test x) refl h)

any_case : {A : Type 0} (test : A → Bool) (x : A) (xs : List A) (b c : Bool) → test x ≡ b → list_any test xs ≡ c
    → (c ≡ true → Has (λ y. test y ≡ true) xs) → (b || c) ≡ true → Has (λ y. test y ≡ true) (x ∷ xs)
any_case test x xs true c e f h k = inl e
any_case test x xs false c e f h k = inr (h k)

pub has_any : {A : Type 0} (test : A → Bool) (xs : List A) → list_any test xs ≡ true → Has (λ x. test x ≡ true) xs
has_any test [] e = absurd cc
has_any test (x ∷ xs) e = any_case test x xs (test x) (list_any test xs) refl refl (has_any test xs) e

pub any_has : {A : Type 0} (test : A → Bool) (xs : List A) → Has (λ x. test x ≡ true) xs → list_any test xs ≡ true
any_has test [] h = absurd h
any_has test (x ∷ xs) (inl e) = ap (λ b. b || list_any test xs) e
any_has test (x ∷ xs) (inr h) = ap (λ b. test x || b) (any_has test xs h) ∙ or_true (test x) where
  or_true : (b : Bool) → (b || true) ≡ true
  or_true true = refl
  or_true false = refl

pub has_contained : {A : Type 0} (P : A → Type 0) (xs : List A) (x : A) → Contains xs x → P x → Has P xs
has_contained P [] x c p = absurd (omega (arith, c.1))
has_contained P (y ∷ xs) x (zero, w, e) p = inl (subst P (sym e) p)
has_contained P (y ∷ xs) x (suc k, w, e) p = inr (has_contained P xs x (k, omega (arith, w), e) p)

pub contained_has : {A : Type 0} (P : A → Type 0) (xs : List A) → Has P xs → (x : A) × Contains xs x × P x
contained_has P [] h = absurd h
contained_has P (y ∷ xs) (inl p) = (y, (zero, omega arith, refl), p)
contained_has P (y ∷ xs) (inr h) = let r = contained_has P xs h in (r.0, (suc r.1.0, omega (arith, r.1.1), r.1.2), r.2)

pub has_each : {A : Type 0} (P Q : A → Type 0) (xs : List A) → Each Q xs → Has P xs → Has (λ x. P x × Q x) xs
has_each P Q [] e h = h
has_each P Q (x ∷ xs) e (inl p) = inl (p, e.0)
has_each P Q (x ∷ xs) e (inr h) = inr (has_each P Q xs e.1 h)
