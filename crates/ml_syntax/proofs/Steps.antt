-- The steps of reading the words of a tree one by one.
use Rattle.std.proofs.Common.{◌≡◌, ℕ, suc, ◌≤◌, List, [], ◌∷◌, ◌++◌, Bool, true, false, length, codes, refl, ap, sym, ◌∙◌, arith, append_assoc}
use Rattle.std.proofs.Common.{length-append}
use Rattle.rotor_base.specs.declared.token.Class.{Class}
use Rattle.rotor_base.specs.declared.token.Class.TheVariants as class
use Rattle.ml_trees.specs.declared.fixed.Fixed.TheVariants as key
use Rattle.ml_trees.specs.Tok.{Name, Tok, placed, word}
use Rattle.value_sites.specs.Places.{Site, label_site, operated}
use Rattle.ml_syntax.specs.Standing.{is_safe, EndsInBrace, IsNamed, IsWordOf, a_name, a_label, an_equals, a_sign, a_minus, StandsAt}

abbrev pub is_brace : Tok → Bool
is_brace (placed key.LeftBrace at) = true
is_brace _ = false

-- these places are among the words, in order: the first behind at least `low` words, the last among the first `high`
abbrev pub Between : List Tok → ℕ → List Site → ℕ → Type 0
Between ts low [] high = low ≤ high
Between ts low (s ∷ ss) high = (count : ℕ) × (low ≤ count) × StandsAt ts count s × Between ts (suc count) ss high

further : (ts : List Tok) (low : ℕ) (ss : List Site) (high more : ℕ) → high ≤ more → Between ts low ss high → Between ts low ss more
further ts low [] high more f h = omega (arith, f, h)
further ts low (s ∷ ss) high more f h = (h.0, h.1, h.2, further ts (suc h.0) ss high more f h.3)

one_more : (ts : List Tok) (low : ℕ) (ss : List Site) (count : ℕ) (s : Site) → StandsAt ts count s → Between ts low ss count
    → Between ts low (ss ++ s ∷ []) (suc count)
one_more ts low [] count s st h = (count, h, st, omega arith)
one_more ts low (s' ∷ ss) count s st h = (h.0, h.1, h.2, one_more ts (suc h.0) ss count s st h.3)

head_same : {a b : Tok} {u v : List Tok} → a ∷ u ≡ b ∷ v → a ≡ b
head_same e = cc

tail_same : {a b : Tok} {u v : List Tok} → a ∷ u ≡ b ∷ v → u ≡ v
tail_same e = cc

last_same : (u v : List Tok) (a b : Tok) → u ++ a ∷ [] ≡ v ++ b ∷ [] → a ≡ b
last_same [] [] a b e = head_same e
last_same [] (y ∷ []) a b e = let wrong = tail_same e in cc
last_same [] (y ∷ z ∷ v) a b e = let wrong = tail_same e in cc
last_same (x ∷ []) [] a b e = let wrong = tail_same e in cc
last_same (x ∷ z ∷ u) [] a b e = let wrong = tail_same e in cc
last_same (x ∷ u) (y ∷ v) a b e = last_same u v a b (tail_same e)

no_end : (at : ℕ) (front : List Tok) → [] ≡ front ++ placed key.LeftBrace at ∷ [] → ⊥
no_end at [] e = cc
no_end at (t ∷ front) e = cc

-- what has been read of the words, and the places found in it
pub record Read (ts : List Tok) (b : Bool) (found : List Site) (k : List Tok) : Type 0 where
  pub past : List Tok
  pub whole : ts ≡ past ++ k
  pub marks : Between ts 0 found (length past)
  pub calm : b ≡ false → EndsInBrace past → ⊥

no_brace : (past : List Tok) (t : Tok) → is_brace t ≡ false → EndsInBrace (past ++ t ∷ []) → ⊥
no_brace past t e h = let same = last_same past h.0 t (placed key.LeftBrace h.1) h.2 in let wrong : true ≡ false = ap is_brace (sym same) ∙ e in cc

longer : (past : List Tok) (t : Tok) → length (past ++ t ∷ []) ≡ suc (length past)
longer past t = rw length-append (omega arith)

pub pass : {ts : List Tok} {b : Bool} {found : List Site} {k : List Tok} (t : Tok) → Read ts b found (t ∷ k) → Read ts (is_brace t) found k
pass {ts = ts} {found = found} {k = k} t r = record {
  past = r.past ++ t ∷ [];
  whole = r.whole ∙ sym (append_assoc r.past (t ∷ []) k);
  marks = let size = longer r.past t in further ts 0 found (length r.past) (length (r.past ++ t ∷ [])) (omega (arith, size)) r.marks;
  calm = λ e. no_brace r.past t e;
}

pub loose : {ts : List Tok} {found : List Site} {k : List Tok} → Read ts false found k → Read ts true found k
loose r = record { past = r.past; whole = r.whole; marks = r.marks; calm = λ e. let wrong : true ≡ false = e in cc }

pub mark : {ts : List Tok} {b : Bool} {found : List Site} {k : List Tok} (s : Site) (t : Tok) → is_brace t ≡ false → IsWordOf s t
    → ((r : Read ts b found (t ∷ k)) → s.operator ≡ false → EndsInBrace r.past → is_safe k ≡ true) → Read ts b found (t ∷ k)
    → Read ts false (found ++ s ∷ []) k
mark {ts = ts} {found = found} {k = k} s t e w f r = record {
  past = r.past ++ t ∷ [];
  whole = r.whole ∙ sym (append_assoc r.past (t ∷ []) k);
  marks = rw longer (one_more ts 0 found (length r.past) s
      (record { before = r.past; here = t; behind = k; split = r.whole; place = refl; same = w; apart = f r }) r.marks);
  calm = λ g. no_brace r.past t e;
}

pub name : {ts : List Tok} {found : List Site} {k : List Tok} (s : Site) (x : Name) → IsNamed s x → Read ts false found (word class.Lower x ∷ k)
    → Read ts false (found ++ s ∷ []) k
name s x n r = mark s (word class.Lower x) refl (a_name x n) (λ q o h. absurd (q.calm refl h)) r

pub first : {ts : List Tok} {found : List Site} {k : List Tok} (s : Site) (x : Name) → IsNamed s x → is_safe k ≡ true
    → Read ts true found (word class.Lower x ∷ k) → Read ts false (found ++ s ∷ []) k
first s x n u r = mark s (word class.Lower x) refl (a_name x n) (λ q o h. u) r

pub label : {ts : List Tok} {found : List Site} {k : List Tok} (binds : Bool) (x : Name) → Read ts false found (word class.Label x ∷ k)
    → Read ts false (found ++ label_site binds x ∷ []) k
label binds x r = mark (label_site binds x) (word class.Label x) refl (a_label x refl refl refl refl) (λ q o h. absurd (q.calm refl h)) r

pub equals : {ts : List Tok} {b : Bool} {found : List Site} {k : List Tok} (binds : Bool) (at : ℕ) → Read ts b found (placed key.Equals at ∷ k)
    → Read ts false (found ++ operated binds at (codes "=") ∷ []) k
equals binds at r = mark (operated binds at (codes "=")) (placed key.Equals at) refl (an_equals at refl refl refl)
    (λ q o h. let wrong : true ≡ false = o in cc) r

pub sign : {ts : List Tok} {b : Bool} {found : List Site} {k : List Tok} (binds : Bool) (c : Class) (x : Name) → Read ts b found (word c x ∷ k)
    → Read ts false (found ++ operated binds x.at x.text ∷ []) k
sign binds c x r = mark (operated binds x.at x.text) (word c x) refl (a_sign c x refl refl refl) (λ q o h. let wrong : true ≡ false = o in cc) r

pub minus : {ts : List Tok} {b : Bool} {found : List Site} {k : List Tok} (x : Name) → Read ts b found (word class.Infix x ∷ k)
    → Read ts false (found ++ operated false x.at (126 ∷ x.text) ∷ []) k
minus x r = mark (operated false x.at (126 ∷ x.text)) (word class.Infix x) refl (a_minus x refl refl refl)
    (λ q o h. let wrong : true ≡ false = o in cc) r

pub begin : (ts : List Tok) → Read ts false [] ts
begin ts = record { past = []; whole = refl; marks = omega arith; calm = λ e h. no_end h.1 h.0 h.2 }
