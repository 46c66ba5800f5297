-- Tests of bytes, runs and texts.
use Rattle.std.proofs.Common.{◌≡◌, ℕ, ◌+◌, ◌⊎◌, inl, inr, List, [], ◌∷◌, ◌++◌, Bool, true, false, not, ◌==◌, ◌&&◌, ◌||◌, length, refl, ap, sym}
use Rattle.std.proofs.Common.{◌∙◌, arith}
use Rattle.std.specs.List.{prefix_len, list_all, list_any}
use Rattle.std.specs.Str.{bytes_eq}
use Rattle.std.proofs.lemmas.Bool.Decides.{nat_tests}
use Rattle.std.proofs.lemmas.Slice.Eq.{bytes_eq-Decides}
use Rattle.ml_lexer.proofs.Local.{and_left, and_right}

pub same_numbers : (a b : ℕ) → (a == b) ≡ true → a ≡ b
same_numbers a b e = grind (arith, nat_tests, e)

pub not_true : (a : Bool) → not a ≡ true → a ≡ false
not_true true e = cc
not_true false e = refl

pub or_cases : (a b : Bool) → (a || b) ≡ true → (a ≡ true) ⊎ (b ≡ true)
or_cases true b e = inl refl
or_cases false b e = inr e

pub and_pair : (a b : Bool) → a ≡ true → b ≡ true → (a && b) ≡ true
and_pair a b e f = rw (e, f) refl

pub and_true : (a : Bool) → (a && true) ≡ a
and_true true = refl
and_true false = refl

-- a byte among some bytes fails a test that all of them fail
pub among_fails : (p : ℕ → Bool) (l : List ℕ) (c : ℕ) → list_all (λ x. not (p x)) l ≡ true → list_any (λ x. x == c) l ≡ true → p c ≡ false
among_fails p [] c f e = cc
among_fails p (x ∷ l) c f e = elim (or_cases (x == c) (list_any (λ x. x == c) l) e) [
  | inl y ↦ ap p (sym (same_numbers x c y)) ∙ not_true (p x) (and_left (not (p x)) (list_all (λ x. not (p x)) l) f)
  | inr y ↦ among_fails p l c (and_right (not (p x)) (list_all (λ x. not (p x)) l) f) y
]

-- and passes one that all of them pass
pub among_passes : (p : ℕ → Bool) (l : List ℕ) (c : ℕ) → list_all p l ≡ true → list_any (λ x. x == c) l ≡ true → p c ≡ true
among_passes p [] c f e = cc
among_passes p (x ∷ l) c f e = elim (or_cases (x == c) (list_any (λ x. x == c) l) e) [
  | inl y ↦ ap p (sym (same_numbers x c y)) ∙ and_left (p x) (list_all p l) f
  | inr y ↦ among_passes p l c (and_right (p x) (list_all p l) f) y
]

pub among_one : (k c : ℕ) → list_any (λ x. x == c) (k ∷ []) ≡ true → c ≡ k
among_one k c e = elim (or_cases (k == c) false e) [
  | inl y ↦ sym (same_numbers k c y)
  | inr y ↦ cc
]

pub among_two : (k l c : ℕ) → list_any (λ x. x == c) (k ∷ l ∷ []) ≡ true → (c ≡ k) ⊎ (c ≡ l)
among_two k l c e = elim (or_cases (k == c) (l == c || false) e) [
  | inl y ↦ inl (sym (same_numbers k c y))
  | inr y ↦ inr (among_one l c y)
]

-- a run goes on over bytes that pass
pub run_over : (p : ℕ → Bool) (f rest : List ℕ) → list_all p f ≡ true → prefix_len p (f ++ rest) ≡ length f + prefix_len p rest
run_over p [] rest h = omega arith
run_over p (c ∷ f) rest h =
    let more = run_over p f rest (and_right (p c) (list_all p f) h) in
    rw (and_left (p c) (list_all p f) h) (omega (arith, more))

pub texts_same : (xs ys : List ℕ) → bytes_eq xs ys ≡ true → xs ≡ ys
texts_same xs ys e = (bytes_eq-Decides xs ys).0 e

-- the byte behind a front
pub last_byte : (f : List ℕ) (c : ℕ) (rest : List ℕ) → (f ++ (c ∷ [])) ++ rest ≡ f ++ (c ∷ rest)
last_byte [] c rest = refl
last_byte (x ∷ f) c rest = ap (λ l. x ∷ l) (last_byte f c rest)

-- a text among some texts passes a test that all of them pass
pub any_text : (p : List ℕ → Bool) (l : List (List ℕ)) (w : List ℕ) → list_all p l ≡ true → list_any (λ x. bytes_eq x w) l ≡ true → p w ≡ true
any_text p [] w f e = cc
any_text p (x ∷ l) w f e = elim (or_cases (bytes_eq x w) (list_any (λ x. bytes_eq x w) l) e) [
  | inl y ↦ ap p (sym (texts_same x w y)) ∙ and_left (p x) (list_all p l) f
  | inr y ↦ any_text p l w (and_right (p x) (list_all p l) f) y
]
