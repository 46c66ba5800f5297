-- The keywords that are operators.
use Rattle.std.proofs.Common.{◌≡◌, ℕ, List, [], ◌∷◌, Bool, true, false, cond, ◌||◌, Option, Some, None, refl, sym, ap, ◌∙◌}
use Rattle.std.specs.Prelude.{codes}
use Rattle.std.specs.Prelude.{nat_le}
use Rattle.std.specs.Str.{bytes_eq}
use Rattle.ml_trees.specs.WellFormed.{keyword_level, is_operator}
use Rattle.ml_trees.specs.declared.fixed.Fixed.TheVariants as key
use Rattle.ml_trees.specs.Tok.{Tok, fixed, placed, word}
use Rattle.ml_trees.specs.Tree.{ValueName, OperatorName, Pat, ValuePat}
use Rattle.token_reading.specs.Steps.{Read, ◌>>=◌}
use Rattle.token_reading.specs.Pieces.{operator_at}
use Rattle.token_reading.specs.PatReading.{paren_pat, closed_by}
use Rattle.token_reading.specs.Gives.{starts}
use Rattle.token_reading.proofs.Stepping.{from_some}
use Rattle.token_reading.specs.Rows.{keyword_operator}

by_tests : (a b c d e f g : Bool) → (a || b || c || d || e || f || g) ≡ nat_le 1 (cond (a || b || c || d) 11 (cond (e || f || g) 12 0))
by_tests true b c d e f g = refl
by_tests false true c d e f g = refl
by_tests false false true d e f g = refl
by_tests false false false true e f g = refl
by_tests false false false false true f g = refl
by_tests false false false false false true g = refl
by_tests false false false false false false true = refl
by_tests false false false false false false false = refl

pub keyword_operators : (text : List ℕ) → keyword_operator text ≡ nat_le 1 (keyword_level text)
keyword_operators text = by_tests (bytes_eq text (codes "mod")) (bytes_eq text (codes "land")) (bytes_eq text (codes "lor"))
    (bytes_eq text (codes "lxor")) (bytes_eq text (codes "lsl")) (bytes_eq text (codes "lsr")) (bytes_eq text (codes "asr"))

pub operator_unclosed : (at : ℕ) (here next : List Tok) (t : Tok) → here ≡ t ∷ next → starts key.RightParen next ≡ false → operator_at at here ≡ None
operator_unclosed at here next t e h = ap (operator_at at) e ∙ by next h
  where
    by : (ts : List Tok) → starts key.RightParen ts ≡ false → operator_at at (t ∷ ts) ≡ None
    by [] h = refl
    by (fixed key.RightParen ∷ ts) h = absurd cc
    by (_ ∷ ts) h = refl

operator_by : (at : ℕ) (t : Tok) (ts : List Tok) (x : ValueName × List Tok) (b : Bool) → is_operator t ≡ b
    → ◌≡◌ {A = Option (ValueName × List Tok)} (cond b (Some (OperatorName at t, ts)) None) (Some x)
    → (u : Tok) × (t ∷ fixed key.RightParen ∷ ts ≡ u ∷ fixed key.RightParen ∷ x.1) × (is_operator u ≡ true) × (x.0 ≡ OperatorName at u)
operator_by at t ts x true h e =
    from_some (λ (y : ValueName × List Tok). (u : Tok) × (t ∷ fixed key.RightParen ∷ ts ≡ u ∷ fixed key.RightParen ∷ y.1) × (is_operator u ≡ true)
    × (y.0 ≡ OperatorName at u)) e (t, refl, h, refl)
operator_by at t ts x false h e = absurd cc

operator_ok : (at : ℕ) (ts : List Tok) (x : ValueName × List Tok) → operator_at at ts ≡ Some x → (t : Tok) × (ts ≡ t ∷ fixed key.RightParen ∷ x.1)
    × (is_operator t ≡ true) × (x.0 ≡ OperatorName at t)
operator_ok at (t ∷ fixed key.RightParen ∷ ts) x e = operator_by at t ts x (is_operator t) refl e
operator_ok at _ x e = absurd cc

-- ---- what follows a `(`

module _ (sub : Read Pat) (n at : ℕ) where
  paren_closed : (t : Tok) (r : List Tok) → is_operator t ≡ true
      → paren_pat sub n at (t ∷ fixed key.RightParen ∷ r) ≡ Some (ValuePat (OperatorName at t), r)
  unfolding paren_pat
  paren_closed (fixed j) r h = absurd cc
  paren_closed (placed j p) r h = rw h refl
  paren_closed (word c x) r h = rw h refl

  pub paren_operator : (ts : List Tok) (x : ValueName) (r : List Tok) → operator_at at ts ≡ Some (x, r) → paren_pat sub n at ts ≡ Some (ValuePat x, r)
  paren_operator ts x r e =
      let o = operator_ok at ts (x, r) e in
      ap (paren_pat sub n at) o.1 ∙ paren_closed o.0 r o.2 ∙ ap (λ (y : ValueName). Some (ValuePat y, r)) (sym o.3)

  pub paren_other : (ts : List Tok) → starts key.RightParen ts ≡ false → operator_at at ts ≡ None
      → paren_pat sub n at ts ≡ (sub ts >>= λ p. closed_by at p.0 p.1)
  unfolding paren_pat
  paren_other (fixed key.RightParen ∷ ts) h e = absurd cc
  paren_other (t ∷ fixed key.RightParen ∷ ts) h e = chosen (is_operator t) e
    where
      chosen : (b : Bool) → cond {A = Option (ValueName × List Tok)} b (Some (OperatorName at t, ts)) None ≡ None
          → cond {A = Option (Pat × List Tok)} b (Some (ValuePat (OperatorName at t), ts))
          (sub (t ∷ fixed key.RightParen ∷ ts) >>= λ p. closed_by at p.0 p.1) ≡ (sub (t ∷ fixed key.RightParen ∷ ts) >>= λ p. closed_by at p.0 p.1)
      chosen true h = absurd cc
      chosen false h = refl
  paren_other _ h e = refl

pub ruleset operators = (keyword_operators)
