-- A reading reaches a tree: it gives this tree and what follows it, or it goes farther. It goes farther only if what
-- follows can go on with the tree.
use Rattle.std.proofs.Common.{◌≡◌, ℕ, zero, suc, ◌<◌, ◌≤◌, ◌⊎◌, inl, inr, List, ◌∷◌, length, Bool, true, false, cond, Option, Some, None, refl, sym}
use Rattle.std.proofs.Common.{ap, subst, ◌∙◌, arith}
use Rattle.std.proofs.lemmas.Bool.Decides.{nat_tests}
use Rattle.ml_trees.specs.declared.fixed.Fixed.{Fixed}
use Rattle.ml_trees.specs.Tok.{Tok, fixed, placed, same}
use Rattle.token_reading.specs.Steps.{Read, ◌>>=◌, expect, expect_at, turn, many, many_if}
use Rattle.token_reading.proofs.Stepping.{some_is, many_ind}

-- farther is where fewer than n tokens are left
pub data Beyond {A : Type 0} (C : Type 0) (t : A) (r : List Tok) (n : ℕ) (res : Option (A × List Tok)) : Type 0 where
  exact : res ≡ Some (t, r) → Beyond C t r n res
  farther : C → (x : A × List Tok) → res ≡ Some x → length x.1 < n → Beyond C t r n res

abbrev pub Reach : {A : Type 0} → Type 0 → A → List Tok → Option (A × List Tok) → Type 0
Reach C t r res = Beyond C t r (length r) res

pub stop : {A C : Type 0} {t : A} {r : List Tok} {n : ℕ} {res : Option (A × List Tok)} → (C → ⊥) → Beyond C t r n res → res ≡ Some (t, r)
stop never (exact e) = e
stop never (farther c x e lt) = absurd (never c)

pub weaken : {A C D : Type 0} {t : A} {r : List Tok} {n : ℕ} {res : Option (A × List Tok)} → (C → D) → Beyond C t r n res → Beyond D t r n res
weaken f (exact e) = exact e
weaken f (farther c x e lt) = farther (f c) x e lt

-- a step behind it, which shortens what is left
pub and_then : {A B C D : Type 0} {t : A} {r : List Tok} {n : ℕ} {res : Option (A × List Tok)} (t' : B) (r' : List Tok)
    (f : A × List Tok → Option (B × List Tok)) → Beyond D t' r' n (f (t, r)) → (C → D)
    → ((x : A × List Tok) → (y : B × List Tok) × (f x ≡ Some y) × (length y.1 ≤ length x.1)) → Beyond C t r n res → Beyond D t' r' n (res >>= f)
and_then t' r' f same to far (exact e) = rw e same
and_then t' r' f same to far (farther c x e lt) =
    let y = far x in
    rw e (farther (to c) y.0 y.1 (omega (arith, y.2)))

-- the same at a reading that is known
pub as_read : {A C : Type 0} {t : A} {r : List Tok} {n : ℕ} {res res' : Option (A × List Tok)} → res ≡ res' → Beyond C t r n res' → Beyond C t r n res
as_read {A = A} {C = C} {t = t} {r = r} {n = n} e h = subst (λ (o : Option (A × List Tok)). Beyond C t r n o) (sym e) h

-- ---- many

module _ {A L : Type 0} (nil : L) (cons : A → L → L) (on : A → Bool) (part : Read A)
    (shortens : (ts : List Tok) (x : A × List Tok) → part ts ≡ Some x → length x.1 < length ts) where
  pub many_shorter : (n : ℕ) (ts : List Tok) → length (many nil cons on part n ts).1 ≤ length ts
  many_shorter n ts = many_ind nil cons on part (λ l ts r. length r ≤ length ts) (λ ts. omega arith) (λ ts x e. omega (arith, shortens ts x e))
      (λ ts x l r e h q. omega (arith, shortens ts x e)) n ts

  pub many_if_shorter : (b : Bool) (n : ℕ) (ts : List Tok) → length (many_if b nil cons on part n ts).1 ≤ length ts
  many_if_shorter true n ts = many_shorter n ts
  many_if_shorter false n ts = omega arith

  -- parts behind a first one
  pub turn_shorter : (n : ℕ) (x : A × List Tok) (ts : List Tok)
      → length (turn nil cons on (λ r. many nil cons on part n r) (Some x) ts).1 ≤ length x.1
  turn_shorter n x ts = chosen (on x.0)
    where
      chosen : (b : Bool) → length
          (cond {A = L × List Tok} b (cons x.0 (many nil cons on part n x.1).0, (many nil cons on part n x.1).1) (cons x.0 nil, x.1)).1 ≤ length x.1
      chosen true = many_shorter n x.1
      chosen false = omega arith

  -- none is read, or a first one is
  pub many_stays : (n : ℕ) (ts : List Tok) → (many nil cons on part n ts ≡ (nil, ts))
      ⊎ ((x : A × List Tok) × (part ts ≡ Some x) × (length (many nil cons on part n ts).1 ≤ length x.1))
  unfolding many
  many_stays zero ts = inl refl
  many_stays (suc n) ts = by (part ts) refl
    where
      by : (o : Option (A × List Tok)) → part ts ≡ o → (turn nil cons on (λ r. many nil cons on part n r) o ts ≡ (nil, ts))
          ⊎ ((x : A × List Tok) × (part ts ≡ Some x) × (length (turn nil cons on (λ r. many nil cons on part n r) o ts).1 ≤ length x.1))
      by None e = inl refl
      by (Some x) e = inr (x, e, turn_shorter n x ts)

  -- behind a part after which it goes on
  pub many_on : (n : ℕ) (ts : List Tok) (x : A × List Tok) → part ts ≡ Some x → on x.0 ≡ true
      → many nil cons on part (suc n) ts ≡ (cons x.0 (many nil cons on part n x.1).0, (many nil cons on part n x.1).1)
  unfolding many
  many_on n ts x e h = rw (e, h) refl

  pub many_off : (n : ℕ) (ts : List Tok) (x : A × List Tok) → part ts ≡ Some x → on x.0 ≡ false
      → many nil cons on part (suc n) ts ≡ (cons x.0 nil, x.1)
  unfolding many
  many_off n ts x e h = rw (e, h) refl

  -- what was read behind the last part of a list: nothing, or more
  pub last_turn : (C : Type 0) (a : A) (r ts : List Tok) (m n : ℕ) → Beyond C a r m (part ts)
      → (on a ≡ true → (x : A × List Tok) → part r ≡ Some x → C × (length x.1 < m))
      → Beyond C (cons a nil) r m (Some (many nil cons on part (suc n) ts))
  unfolding many
  last_turn C a r ts m n (farther c x e lt) next = farther c (many nil cons on part (suc n) ts) refl (rw e (omega (arith, turn_shorter n x ts)))
  last_turn C a r ts m n (exact e) next = by (on a) refl
    where
      by : (b : Bool) → on a ≡ b → Beyond C (cons a nil) r m (Some (many nil cons on part (suc n) ts))
      by false h = exact (ap Some (many_off n ts (a, r) e h))
      by true h = go (many_stays n r)
        where
          go : (many nil cons on part n r ≡ (nil, r)) ⊎ ((x : A × List Tok) × (part r ≡ Some x) × (length (many nil cons on part n r).1 ≤ length x.1))
              → Beyond C (cons a nil) r m (Some (many nil cons on part (suc n) ts))
          go (inl k) = exact (ap Some (many_on n ts (a, r) e h ∙ rw k refl))
          go (inr k) = farther (next h k.0 k.1).0 (many nil cons on part (suc n) ts) refl
              (rw (many_on n ts (a, r) e h) (omega (arith, k.2, (next h k.0 k.1).1)))

  -- behind a part that is read exactly the rest of the list is reached
  pub more_turns : (C : Type 0) (a : A) (l : L) (r ts ts' : List Tok) (m n : ℕ) → part ts ≡ Some (a, ts') → on a ≡ true
      → Beyond C l r m (Some (many nil cons on part n ts')) → Beyond C (cons a l) r m (Some (many nil cons on part (suc n) ts))
  more_turns C a l r ts ts' m n e h (exact k) = exact (ap Some (many_on n ts (a, ts') e h ∙ (let q = some_is k in rw q refl)))
  more_turns C a l r ts ts' m n e h (farther c x k lt) =
      farther c (many nil cons on part (suc n) ts) refl (rw (many_on n ts (a, ts') e h) (let q = some_is k in rw q lt))

  -- no part was in the list, so what follows is read now
  pub no_turn : (C : Type 0) (b : Bool) (r : List Tok) (m n : ℕ) → (b ≡ true → (x : A × List Tok) → part r ≡ Some x → C × (length x.1 < m))
      → Beyond C nil r m (Some (many_if b nil cons on part n r))
  no_turn C false r m n next = exact refl
  no_turn C true r m n next = go (many_stays n r)
    where
      go : (many nil cons on part n r ≡ (nil, r)) ⊎ ((x : A × List Tok) × (part r ≡ Some x) × (length (many nil cons on part n r).1 ≤ length x.1))
          → Beyond C nil r m (Some (many nil cons on part n r))
      go (inl k) = exact (ap Some k)
      go (inr k) = farther (next refl k.0 k.1).0 (many nil cons on part n r) refl (omega (arith, k.2, (next refl k.0 k.1).1))

-- what was read, put into a larger tree
pub map_some : {A B C : Type 0} (g : A → B) (l : A) (r : List Tok) (n : ℕ) (m : A × List Tok) → Beyond C l r n (Some m)
    → Beyond C (g l) r n (Some (g m.0, m.1))
map_some g l r n m (exact e) = let q = some_is e in exact (rw q refl)
map_some g l r n m (farther c x e lt) = let q = some_is e in farther c (g m.0, m.1) refl (rw q lt)

pub expect_same : (k : Fixed) (ts : List Tok) → expect k (fixed k ∷ ts) ≡ Some ts
expect_same k ts = let e : same k k ≡ true = grind (arith, nat_tests) in rw e refl

pub expect_at_same : (k : Fixed) (at : ℕ) (ts : List Tok) → expect_at k (placed k at ∷ ts) ≡ Some (at, ts)
expect_at_same k at ts = let e : same k k ≡ true = grind (arith, nat_tests) in rw e refl

pub map_read : {A B C D : Type 0} {t : A} {r : List Tok} {n : ℕ} {res : Option (A × List Tok)} (g : A → B) → (C → D) → Beyond C t r n res
    → Beyond D (g t) r n (res >>= λ x. Some (g x.0, x.1))
map_read g to (exact e) = rw e (exact refl)
map_read g to (farther c x e lt) = rw e (farther (to c) (g x.0, x.1) refl lt)
