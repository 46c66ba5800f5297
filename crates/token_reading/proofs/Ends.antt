-- A place past the end is the end.
use Rattle.std.proofs.Common.{◌≡◌, ℕ, zero, suc, ◌+◌, ◌≤◌, ◌⊎◌, inl, inr, min, List, [], ◌∷◌, length, drop, map, refl, sym}
use Rattle.std.proofs.Common.{ap, ◌∙◌, arith, length-drop}
use Rattle.std.proofs.lemmas.List.{length-map}
use Rattle.rotor_base.specs.declared.token.Class.{Class}
use Rattle.rotor_base.specs.declared.token.Token.{Token}
use Rattle.ml_trees.specs.Tok.{toks_from}
use Rattle.token_reading.specs.Tokens.{lexeme, from}
use Rattle.token_reading.proofs.Places.{from_end}

toks_length : (n : ℕ) (xs : List (Class × List ℕ)) → length (toks_from n xs) ≡ length xs
toks_length n [] = refl
toks_length n (x ∷ xs) = ap suc (toks_length (suc n) xs)

pub from_length : (ts : List Token) (n : ℕ) → length (from ts n) ≤ length ts
unfolding from
from_length ts n = omega (arith, toks_length (n + 1) (map lexeme (drop n ts)), length-map (drop n ts) lexeme, length-drop n ts)

either : (a b : ℕ) → (a ≤ b) ⊎ (b ≤ a)
either zero b = inl (omega arith)
either (suc a) zero = inr (omega arith)
either (suc a) (suc b) = up (either a b)
  where
    up : (a ≤ b) ⊎ (b ≤ a) → (suc a ≤ suc b) ⊎ (suc b ≤ suc a)
    up (inl h) = inl (omega arith)
    up (inr h) = inr (omega arith)

cut : (ts : List Token) (n : ℕ) → (n ≤ length ts) ⊎ (length ts ≤ n) → from ts (min n (length ts)) ≡ from ts n
cut ts n (inl h) = let e : min n (length ts) ≡ n = omega arith in ap (from ts) e
cut ts n (inr h) =
    let e : min n (length ts) ≡ length ts = omega arith in
    ap (from ts) e ∙ from_end ts (length ts) (omega arith) ∙ sym (from_end ts n h)

pub from_min : (ts : List Token) (n : ℕ) → from ts (min n (length ts)) ≡ from ts n
from_min ts n = cut ts n (either n (length ts))
