-- Reading as a function on lists of tokens: what is read first, and the tokens after it (own).
use Rattle.std.specs.Prelude.{ℕ, zero, suc, List, ◌∷◌, Bool, true, if◌then◌else◌, Option, Some, None}
use Rattle.ml_trees.specs.declared.fixed.Fixed.{Fixed}
use Rattle.ml_trees.specs.Tok.{Tok, fixed, placed, same}

abbrev pub Read : Type 0 → Type 0
Read A = List Tok → Option (A × List Tok)

infixl 10 ◌>>=◌
abbrev pub ◌>>=◌ : {A B : Type 0} → Option A → (A → Option B) → Option B
None >>= f = None
(Some x) >>= f = f x

-- a fixed word
abbrev pub expect : Fixed → List Tok → Option (List Tok)
expect k (fixed j ∷ ts) = if same j k then Some ts else None
expect k _ = None

-- a fixed word with its token
abbrev pub expect_at : Fixed → List Tok → Option (ℕ × List Tok)
expect_at k (placed j at ∷ ts) = if same j k then Some (at, ts) else None
expect_at k _ = None

-- one part and what follows it: it goes on only behind a part that `on` allows
abbrev pub turn : {A L : Type 0} → L → (A → L → L) → (A → Bool) → (List Tok → L × List Tok) → Option (A × List Tok) → List Tok → L × List Tok
turn nil cons on rest None ts = (nil, ts)
turn nil cons on rest (Some x) ts = if on x.0 then (cons x.0 (rest x.1).0, (rest x.1).1) else (cons x.0 nil, x.1)

-- parts, as long as each can be read whole
unfoldable pub many : {A L : Type 0} → L → (A → L → L) → (A → Bool) → Read A → ℕ → List Tok → L × List Tok
many nil cons on part zero ts = (nil, ts)
many nil cons on part (suc n) ts = turn nil cons on (λ r. many nil cons on part n r) (part ts) ts

abbrev pub many_if : {A L : Type 0} → Bool → L → (A → L → L) → (A → Bool) → Read A → ℕ → List Tok → L × List Tok
many_if b nil cons on part n ts = if b then many nil cons on part n ts else (nil, ts)

abbrev pub always : {A : Type 0} → A → Bool
always x = true
