-- Reading parts one after the other, as a loop does.
use Rattle.std.proofs.Common.{◌≡◌, ℕ, suc, ◌-◌, ◌+◌, ◌≤◌, ◌<◌, List, [], ◌∷◌, ◌++◌, Bool, true, false, Some, None, map, refl, sym, ap}
use Rattle.std.proofs.Common.{◌∙◌, arith}
use Rattle.ml_trees.specs.Tok.{Tok}
use Rattle.token_reading.specs.Steps.{Read, many}

-- these, and then more
abbrev pub before : {A L : Type 0} → (A → L → L) → List A → L → L
before cons [] l = l
before cons (x ∷ xs) l = cons x (before cons xs l)

pub before_last : {A L : Type 0} (cons : A → L → L) (xs : List A) (x : A) (l : L) → before cons (xs ++ x ∷ []) l ≡ before cons xs (cons x l)
before_last cons [] x l = refl
before_last cons (y ∷ ys) x l = ap (cons y) (before_last cons ys x l)

pub list_before : {X A : Type 0} (f : X → A) (xs : List X) → before ◌∷◌ (map f xs) [] ≡ map f xs
list_before f [] = refl
list_before f (x ∷ xs) = ap (λ (l : List _). f x ∷ l) (list_before f xs)

map_append : {A B : Type 0} (f : A → B) (xs ys : List A) → map f (xs ++ ys) ≡ map f xs ++ map f ys
map_append f [] ys = refl
map_append f (x ∷ xs) ys = ap (λ l. f x ∷ l) (map_append f xs ys)

module _ {A L : Type 0} (nil : L) (cons : A → L → L) (on : A → Bool) (part : Read A) where
  -- what was found, and what is still read
  abbrev pub Left : List A → ℕ → List Tok → L × List Tok → Type 0
  Left found n here whole = (before cons found (many nil cons on part n here).0, (many nil cons on part n here).1) ≡ whole

  pub turn_init : (n : ℕ) (here : List Tok) → Left [] n here (many nil cons on part n here)
  turn_init n here = refl

  pub turn_on : (found : List A) (x : A) (n i : ℕ) (here after : List Tok) (whole : L × List Tok) → i < n → part here ≡ Some (x, after) → on x ≡ true
      → Left found (n - i) here whole → Left (found ++ x ∷ []) (n - (i + 1)) after whole
  unfolding many
  turn_on found x n i here after whole lt e h k =
      let s : n - i ≡ suc (n - (i + 1)) = omega arith in
      let m = many nil cons on part (n - (i + 1)) after in
      let one : many nil cons on part (n - i) here ≡ (cons x m.0, m.1) = rw (s, e, h) refl in
      ap (λ (l : L). (l, m.1)) (before_last cons found x m.0) ∙ sym (ap (λ (z : L × List Tok). (before cons found z.0, z.1)) one) ∙ k

  pub turn_off : (found : List A) (x : A) (n i : ℕ) (here after : List Tok) (whole : L × List Tok) → i < n → part here ≡ Some (x, after)
      → on x ≡ false → Left found (n - i) here whole → whole ≡ (before cons (found ++ x ∷ []) nil, after)
  unfolding many
  turn_off found x n i here after whole lt e h k =
      let s : n - i ≡ suc (n - (i + 1)) = omega arith in
      let one : many nil cons on part (n - i) here ≡ (cons x nil, after) = rw (s, e, h) refl in
      sym k ∙ ap (λ (z : L × List Tok). (before cons found z.0, z.1)) one ∙ ap (λ (l : L). (l, after)) (sym (before_last cons found x nil))

  pub turn_none : (found : List A) (n i : ℕ) (here : List Tok) (whole : L × List Tok) → i < n → part here ≡ None → Left found (n - i) here whole
      → whole ≡ (before cons found nil, here)
  unfolding many
  turn_none found n i here whole lt e k =
      let s : n - i ≡ suc (n - (i + 1)) = omega arith in
      let one : many nil cons on part (n - i) here ≡ (nil, here) = rw (s, e) refl in
      sym k ∙ ap (λ (z : L × List Tok). (before cons found z.0, z.1)) one

  pub turn_end : (found : List A) (n i : ℕ) (here : List Tok) (whole : L × List Tok) → n ≤ i → Left found (n - i) here whole
      → whole ≡ (before cons found nil, here)
  unfolding many
  turn_end found n i here whole le k =
      let s : n - i ≡ 0 = omega arith in
      let one : many nil cons on part (n - i) here ≡ (nil, here) = rw s refl in
      sym k ∙ ap (λ (z : L × List Tok). (before cons found z.0, z.1)) one

  -- the same of what a `Vec` holds, seen by f
  module _ {X : Type 0} (f : X → A) where
    pub pushed : (xs ys : List X) (x : X) (n i : ℕ) (here after : List Tok) (whole : L × List Tok) → ys ≡ xs ++ x ∷ [] → i < n
        → part here ≡ Some (f x, after) → on (f x) ≡ true → Left (map f xs) (n - i) here whole → Left (map f ys) (n - (i + 1)) after whole
    pushed xs ys x n i here after whole p lt e h k = rw (p, map_append f xs (x ∷ [])) (turn_on (map f xs) (f x) n i here after whole lt e h k)

    pub pushed_last : (xs ys : List X) (x : X) (n i : ℕ) (here after : List Tok) (whole : L × List Tok) → ys ≡ xs ++ x ∷ [] → i < n
        → part here ≡ Some (f x, after) → on (f x) ≡ false → Left (map f xs) (n - i) here whole → whole ≡ (before cons (map f ys) nil, after)
    pushed_last xs ys x n i here after whole p lt e h k = rw (p, map_append f xs (x ∷ [])) (turn_off (map f xs) (f x) n i here after whole lt e h k)

pub deeper : {X : Type 0} (f : ℕ → X) (n : ℕ) → 0 < n → f n ≡ f (suc (n - 1))
deeper f n some = let e : n ≡ suc (n - 1) = omega arith in ap f e
