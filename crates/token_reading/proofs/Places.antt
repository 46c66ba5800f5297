-- The tokens from a place on, and what is at the place.
use Rattle.std.proofs.Common.{◌≡◌, ℕ, zero, suc, ◌+◌, ◌≤◌, ◌<◌, ◌⊎◌, inl, inr, List, [], ◌∷◌, length, drop, map, Bool, true, false, Option, Some}
use Rattle.std.proofs.Common.{None, refl, sym, ap, ◌∙◌, arith, get_or}
use Rattle.std.proofs.lemmas.List.{drop_more, drop_all}
use Rattle.std.proofs.lemmas.Bool.{eqb-false}
use Rattle.rotor_base.specs.declared.token.Class.{Class}
use Rattle.rotor_base.specs.declared.token.Class.TheVariants as class
use Rattle.rotor_base.specs.declared.token.Token.{Token}
use Rattle.ml_trees.specs.declared.fixed.Fixed.{Fixed}
use Rattle.ml_trees.specs.Tok.{Tok, word, same, code, fixed_of, tok, tok_or, toks_from}
use Rattle.token_reading.specs.declared.tokens.Kind.{Kind}
use Rattle.token_reading.specs.Gives.{text_at, head_text, kind_or, kind_of, Sees, IsThere}
use Rattle.token_reading.specs.Tokens.{lexeme, from}
use Rattle.token_reading.proofs.Stepping.{same_is}

-- the tokens from a place on, if there is a token at it
pub from_there : (ts : List Token) (at : ℕ) (t : Token) → at < length ts
    → from ts at ≡ tok (get_or ts at t).class (at + 1) (get_or ts at t).bytes.now ∷ from ts (at + 1)
unfolding from
from_there ts at t lt =
    let e : suc (at + 1) ≡ at + 1 + 1 = omega arith in
    ap (λ (l : List Token). toks_from (at + 1) (map lexeme l)) (drop_more ts at t lt)
    ∙ ap (λ (n : ℕ). tok (get_or ts at t).class (at + 1) (get_or ts at t).bytes.now ∷ toks_from n (map lexeme (drop (at + 1) ts))) e

pub text_there : (ts : List Token) (at : ℕ) (t : Token) → at < length ts → text_at ts at ≡ (get_or ts at t).bytes.now
unfolding text_at
text_there ts at t lt = ap head_text (drop_more ts at t lt)

-- past the end there is none
pub from_end : (ts : List Token) (at : ℕ) → length ts ≤ at → from ts at ≡ []
unfolding from
from_end ts at le = ap (λ (l : List Token). toks_from (at + 1) (map lexeme l)) (drop_all at ts le)

-- the same, whichever token it is
pub from_next : (ts : List Token) (at : ℕ) → at < length ts → (t : Tok) × (from ts at ≡ t ∷ from ts (at + 1))
from_next [] at lt = absurd (omega (arith, lt))
from_next (t ∷ ts) at lt = (tok (get_or (t ∷ ts) at t).class (at + 1) (get_or (t ∷ ts) at t).bytes.now, from_there (t ∷ ts) at t lt)

sees_or : (c : Class) (o : Option Fixed) (at : ℕ) (text : List ℕ) (here next : List Tok)
    → here ≡ tok_or (word c (record { at = at; text = text })) at o ∷ next → Sees (kind_or c o) at text here next
sees_or c None at text here next e = e
sees_or c (Some x) at text here next e = e

sees : (c : Class) (at : ℕ) (text : List ℕ) (here next : List Tok) → here ≡ tok c at text ∷ next → Sees (kind_of c text) at text here next
sees class.Keyword at text here next e = sees_or class.Keyword (fixed_of text) at text here next e
sees class.Mark at text here next e = sees_or class.Mark (fixed_of text) at text here next e
sees _ at text here next e = e

pub sees_token : (ts : List Token) (at : ℕ) (t : Token) → at < length ts → Sees (kind_of (get_or ts at t).class (get_or ts at t).bytes.now) (at + 1)
    (text_at ts at) (from ts at) (from ts (at + 1))
sees_token ts at t lt = rw (text_there ts at t lt)
    (sees (get_or ts at t).class (at + 1) (get_or ts at t).bytes.now (from ts at) (from ts (at + 1)) (from_there ts at t lt))

pub sees_when : (ts : List Token) (at : ℕ) (t : Token) (k : Kind) → at < length ts → k ≡ kind_of (get_or ts at t).class (get_or ts at t).bytes.now
    → Sees k (at + 1) (text_at ts at) (from ts at) (from ts (at + 1))
sees_when ts at t k lt e = rw e (sees_token ts at t lt)

is_there_or : (c : Class) (o : Option Fixed) (at n : ℕ) → at < n → IsThere (kind_or c o) at n
is_there_or c None at n lt = lt
is_there_or c (Some x) at n lt = lt

pub is_there : (c : Class) (text : List ℕ) (at n : ℕ) → at < n → IsThere (kind_of c text) at n
is_there class.Keyword text at n lt = is_there_or class.Keyword (fixed_of text) at n lt
is_there class.Mark text at n lt = is_there_or class.Mark (fixed_of text) at n lt
is_there _ text at n lt = lt

pub there_when : (ts : List Token) (at : ℕ) (t : Token) (k : Kind) → at < length ts → k ≡ kind_of (get_or ts at t).class (get_or ts at t).bytes.now
    → IsThere k at (length ts)
there_when ts at t k lt e = rw e (is_there (get_or ts at t).class (get_or ts at t).bytes.now at (length ts) lt)

-- the word of a token
pub word_there : (ts : List Token) (at : ℕ) (t : Token) (number : ℕ) (text : List ℕ) → at < length ts → number ≡ at + 1
    → text ≡ (get_or ts at t).bytes.now → from ts at ≡ tok (get_or ts at t).class number text ∷ from ts (at + 1)
word_there ts at t number text lt n e = rw (n, e) (from_there ts at t lt)

-- ---- equal fixed words

pub same_by : (a b : Fixed) (s : Bool) → (s ≡ true → a ≡ b) → (s ≡ false → a ≡ b → ⊥) → s ≡ same a b
same_by a b true h k = sym (by (same a b) refl)
  where
    by : (t : Bool) → same a b ≡ t → t ≡ true
    by true e = refl
    by false e = absurd (eqb-false (code a) (code b) e (ap code (h refl)))
same_by a b false h k = sym (by (same a b) refl)
  where
    by : (t : Bool) → same a b ≡ t → t ≡ false
    by true e = absurd (k refl (same_is a b e))
    by false e = refl

-- ---- further on

either : (a b : ℕ) → (a < b) ⊎ (b ≤ a)
either zero zero = inr (omega arith)
either zero (suc b) = inl (omega arith)
either (suc a) zero = inr (omega arith)
either (suc a) (suc b) = up (either a b)
  where
    up : (a < b) ⊎ (b ≤ a) → (suc a < suc b) ⊎ (suc b ≤ suc a)
    up (inl h) = inl (omega arith)
    up (inr h) = inr (omega arith)

drop_step : (ts : List Token) (n at : ℕ) → drop n (from ts (at + 1)) ≡ from ts (at + 1 + n) → (at < length ts) ⊎ (length ts ≤ at)
    → drop (suc n) (from ts at) ≡ from ts (at + suc n)
drop_step ts n at h (inl lt) =
    let x = from_next ts at lt in
    let e : at + 1 + n ≡ at + suc n = omega arith in
    ap (drop (suc n)) x.1 ∙ h ∙ ap (from ts) e
drop_step ts n at h (inr le) = ap (drop (suc n)) (from_end ts at le) ∙ sym (from_end ts (at + suc n) (omega arith))

pub from_drop : (ts : List Token) (n at : ℕ) → drop n (from ts at) ≡ from ts (at + n)
from_drop ts zero at = let e : at ≡ at + 0 = omega arith in ap (from ts) e
from_drop ts (suc n) at = drop_step ts n at (from_drop ts n (at + 1)) (either at (length ts))
