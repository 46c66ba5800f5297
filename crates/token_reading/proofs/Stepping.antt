-- The steps of a reading, one by one.
use Rattle.std.proofs.Common.{◌≡◌, ℕ, zero, suc, List, [], ◌∷◌, Bool, true, false, cond, Option, Some, None, refl, sym, ap, subst, ◌∙◌, eqb}
use Rattle.std.proofs.lemmas.Bool.{eqb-true}
use Rattle.ml_trees.specs.declared.fixed.Fixed.{Fixed}
use Rattle.ml_trees.specs.declared.fixed.Fixed.TheVariants as key
use Rattle.ml_trees.specs.Tok.{Tok, fixed, placed, same, code}
use Rattle.token_reading.specs.Steps.{Read, ◌>>=◌, expect, expect_at, turn, many, many_if}

pub some_is : {A : Type 0} {x y : A} → Some x ≡ Some y → x ≡ y
some_is e = cc

-- what holds of what a reading gives holds of what it is known to give
pub from_some : {A : Type 0} (P : A → Type 0) {x y : A} → Some x ≡ Some y → P x → P y
from_some P e h = subst P (some_is e) h

pub bind_ok : {A B : Type 0} (o : Option A) (f : A → Option B) (y : B) → (o >>= f) ≡ Some y → (x : A) × (o ≡ Some x) × (f x ≡ Some y)
bind_ok None f y e = absurd cc
bind_ok (Some x) f y e = (x, refl, e)

uncode : ℕ → Fixed
uncode n = cond (eqb n 0) key.And
    (cond (eqb n 1) key.As (cond (eqb n 2) key.Assert
    (cond (eqb n 3) key.Begin
    (cond (eqb n 4) key.Constraint
    (cond (eqb n 5) key.Do (cond (eqb n 6) key.Done
    (cond (eqb n 7) key.Downto
    (cond (eqb n 8) key.Else
    (cond (eqb n 9) key.End (cond (eqb n 10) key.Exception
    (cond (eqb n 11) key.External
    (cond (eqb n 12) key.False
    (cond (eqb n 13) key.For
    (cond (eqb n 14) key.Fun
    (cond (eqb n 15) key.Function
    (cond (eqb n 16) key.Functor
    (cond (eqb n 17) key.If (cond (eqb n 18) key.In
    (cond (eqb n 19) key.Include
    (cond (eqb n 20) key.Lazy
    (cond (eqb n 21) key.Let
    (cond (eqb n 22) key.Match
    (cond (eqb n 23) key.Module
    (cond (eqb n 24) key.Mutable
    (cond (eqb n 25) key.Nonrec
    (cond (eqb n 26) key.Of (cond (eqb n 27) key.Open
    (cond (eqb n 28) key.Private
    (cond (eqb n 29) key.Rec
    (cond (eqb n 30) key.Sig
    (cond (eqb n 31) key.Struct
    (cond (eqb n 32) key.Then
    (cond (eqb n 33) key.To (cond (eqb n 34) key.True
    (cond (eqb n 35) key.Try
    (cond (eqb n 36) key.Type
    (cond (eqb n 37) key.Val
    (cond (eqb n 38) key.When
    (cond (eqb n 39) key.While
    (cond (eqb n 40) key.With
    (cond (eqb n 41) key.Underscore
    (cond (eqb n 42) key.LeftParen
    (cond (eqb n 43) key.RightParen
    (cond (eqb n 44) key.LeftBracket
    (cond (eqb n 45) key.RightBracket
    (cond (eqb n 46) key.LeftBrace
    (cond (eqb n 47) key.RightBrace
    (cond (eqb n 48) key.LeftArray
    (cond (eqb n 49) key.RightArray
    (cond (eqb n 50) key.LeftLess
    (cond (eqb n 51) key.LeftGreater
    (cond (eqb n 52) key.Semicolon
    (cond (eqb n 53) key.DoubleSemicolon
    (cond (eqb n 54) key.Comma
    (cond (eqb n 55) key.Dot
    (cond (eqb n 56) key.DotDot
    (cond (eqb n 57) key.Colon
    (cond (eqb n 58) key.ColonColon
    (cond (eqb n 59) key.ColonGreater
    (cond (eqb n 60) key.Arrow
    (cond (eqb n 61) key.LeftArrow
    (cond (eqb n 62) key.Bar
    (cond (eqb n 63) key.Equals (cond (eqb n 64) key.Tilde key.Question))))))))))))))))))))))))))))))))))))))))))))))))))))))))))))))))

uncode-code : (a : Fixed) → uncode (code a) ≡ a
unfolding uncode
uncode-code key.And = refl
uncode-code key.As = refl
uncode-code key.Assert = refl
uncode-code key.Begin = refl
uncode-code key.Constraint = refl
uncode-code key.Do = refl
uncode-code key.Done = refl
uncode-code key.Downto = refl
uncode-code key.Else = refl
uncode-code key.End = refl
uncode-code key.Exception = refl
uncode-code key.External = refl
uncode-code key.False = refl
uncode-code key.For = refl
uncode-code key.Fun = refl
uncode-code key.Function = refl
uncode-code key.Functor = refl
uncode-code key.If = refl
uncode-code key.In = refl
uncode-code key.Include = refl
uncode-code key.Lazy = refl
uncode-code key.Let = refl
uncode-code key.Match = refl
uncode-code key.Module = refl
uncode-code key.Mutable = refl
uncode-code key.Nonrec = refl
uncode-code key.Of = refl
uncode-code key.Open = refl
uncode-code key.Private = refl
uncode-code key.Rec = refl
uncode-code key.Sig = refl
uncode-code key.Struct = refl
uncode-code key.Then = refl
uncode-code key.To = refl
uncode-code key.True = refl
uncode-code key.Try = refl
uncode-code key.Type = refl
uncode-code key.Val = refl
uncode-code key.When = refl
uncode-code key.While = refl
uncode-code key.With = refl
uncode-code key.Underscore = refl
uncode-code key.LeftParen = refl
uncode-code key.RightParen = refl
uncode-code key.LeftBracket = refl
uncode-code key.RightBracket = refl
uncode-code key.LeftBrace = refl
uncode-code key.RightBrace = refl
uncode-code key.LeftArray = refl
uncode-code key.RightArray = refl
uncode-code key.LeftLess = refl
uncode-code key.LeftGreater = refl
uncode-code key.Semicolon = refl
uncode-code key.DoubleSemicolon = refl
uncode-code key.Comma = refl
uncode-code key.Dot = refl
uncode-code key.DotDot = refl
uncode-code key.Colon = refl
uncode-code key.ColonColon = refl
uncode-code key.ColonGreater = refl
uncode-code key.Arrow = refl
uncode-code key.LeftArrow = refl
uncode-code key.Bar = refl
uncode-code key.Equals = refl
uncode-code key.Tilde = refl
uncode-code key.Question = refl

pub same_is : (a b : Fixed) → same a b ≡ true → a ≡ b
same_is a b e = sym (uncode-code a) ∙ ap uncode (eqb-true _ _ e) ∙ uncode-code b

expect_by : (k j : Fixed) (ts r : List Tok) (b : Bool) → (b ≡ true → j ≡ k) → cond b (Some ts) None ≡ Some r → fixed j ∷ ts ≡ fixed k ∷ r
expect_by k j ts r true h e = let q = h refl in let s = some_is e in cc
expect_by k j ts r false h e = absurd cc

pub expect_ok : (k : Fixed) (ts r : List Tok) → expect k ts ≡ Some r → ts ≡ fixed k ∷ r
expect_ok k (fixed j ∷ ts) r e = expect_by k j ts r (same j k) (same_is j k) e
expect_ok k [] r e = absurd cc
expect_ok k (_ ∷ ts) r e = absurd cc

place_by : (k j : Fixed) (at : ℕ) (ts : List Tok) (x : ℕ × List Tok) (b : Bool) → (b ≡ true → j ≡ k) → cond b (Some (at, ts)) None ≡ Some x
    → placed j at ∷ ts ≡ placed k x.0 ∷ x.1
place_by k j at ts x true h e = from_some (λ y. placed j at ∷ ts ≡ placed k y.0 ∷ y.1) e (ap (λ i. placed i at ∷ ts) (h refl))
place_by k j at ts x false h e = absurd cc

pub expect_at_ok : (k : Fixed) (ts : List Tok) (x : ℕ × List Tok) → expect_at k ts ≡ Some x → ts ≡ placed k x.0 ∷ x.1
expect_at_ok k (placed j at ∷ ts) x e = place_by k j at ts x (same j k) (same_is j k) e
expect_at_ok k [] x e = absurd cc
expect_at_ok k (_ ∷ ts) x e = absurd cc

module _ {A L : Type 0} (nil : L) (cons : A → L → L) (on : A → Bool) (part : Read A) (Q : L → List Tok → List Tok → Type 0)
    (q_nil : (ts : List Tok) → Q nil ts ts)
    (q_last : (ts : List Tok) (x : A × List Tok) → part ts ≡ Some x → Q (cons x.0 nil) ts x.1)
    (q_cons : (ts : List Tok) (x : A × List Tok) (l : L) (r : List Tok) → part ts ≡ Some x → on x.0 ≡ true → Q l x.1 r → Q (cons x.0 l) ts r) where
  turn_ind : (rest : List Tok → L × List Tok) → ((r : List Tok) → Q (rest r).0 r (rest r).1) → (o : Option (A × List Tok)) (ts : List Tok)
      → part ts ≡ o → Q (turn nil cons on rest o ts).0 ts (turn nil cons on rest o ts).1
  turn_ind rest h None ts e = q_nil ts
  turn_ind rest h (Some x) ts e = chosen (on x.0) refl
    where
      chosen : (b : Bool) → on x.0 ≡ b → Q (cond {A = L × List Tok} b (cons x.0 (rest x.1).0, (rest x.1).1) (cons x.0 nil, x.1)).0 ts
          (cond {A = L × List Tok} b (cons x.0 (rest x.1).0, (rest x.1).1) (cons x.0 nil, x.1)).1
      chosen true h' = q_cons ts x (rest x.1).0 (rest x.1).1 e h' (h x.1)
      chosen false h' = q_last ts x e

  pub many_ind : (n : ℕ) (ts : List Tok) → Q (many nil cons on part n ts).0 ts (many nil cons on part n ts).1
  unfolding many
  many_ind zero ts = q_nil ts
  many_ind (suc n) ts = turn_ind (λ r. many nil cons on part n r) (many_ind n) (part ts) ts refl

  pub many_if_ind : (b : Bool) (n : ℕ) (ts : List Tok) → Q (many_if b nil cons on part n ts).0 ts (many_if b nil cons on part n ts).1
  many_if_ind true n ts = many_ind n ts
  many_if_ind false n ts = q_nil ts
