-- A pattern has a word, and none of the fixed words that only follow patterns begins one.
use Rattle.std.proofs.Common.{◌≡◌, ◌≢◌, ℕ, ◌<◌, ◌≤◌, List, [], ◌∷◌, ◌++◌, length, Bool, true, false, Option, Some, None, refl, ap, arith}
use Rattle.rotor_base.specs.declared.token.Class.{Class}
use Rattle.rotor_base.specs.declared.token.Class.TheVariants as class
use Rattle.ml_trees.specs.declared.fixed.Fixed.{Fixed}
use Rattle.ml_trees.specs.declared.fixed.Fixed.TheVariants as key
use Rattle.ml_trees.specs.declared.word.Bracket.{Bracket}
use Rattle.ml_trees.specs.declared.word.Bracket.TheVariants as bracket
use Rattle.ml_trees.specs.Tok.{Name, Tok, fixed, placed, word}
use Rattle.ml_trees.proofs.Words.{truth, pat_then, pats_then, pat_field_then, pat_fields_then, path_then, dotted_then, qualified_then, name_then}
use Rattle.ml_trees.proofs.Words.{names_then, type_then, optional_then, open_then, opening, closing}
use Rattle.ml_trees.specs.WellFormed.{WfPat, is_operator, is_literal}
use Rattle.ml_trees.specs.Tree.{ValueName, PlainName, OperatorName, Pat, AsPat, OrPat, TuplePat, ConsPat, ConstrApplyPat, TagApplyPat, LazyPat}
use Rattle.ml_trees.specs.Tree.{ExceptionPat, AnyPat, ValuePat, LiteralPat, NegativePat, RangePat, ConstrPat, TagPat, BoolPat, UnitPat, ParenPat}
use Rattle.ml_trees.specs.Tree.{TypedPat, EmptyPat, ListPat, RecordPat, OpenedPat, Pats, no_pat, more_pat, PatField, PunnedField, MatchedField}
use Rattle.ml_trees.specs.Tree.{PatFields, no_pat_field, more_pat_field}

-- ---- lengths

pub dotted_longer : (xs : List Name) (k : List Tok) → length k ≤ length (dotted_then xs k)
dotted_longer [] k = omega arith
dotted_longer (x ∷ xs) k = omega (arith, dotted_longer xs k)

pub path_longer : (xs : List Name) (k : List Tok) → length k ≤ length (path_then xs k)
path_longer [] k = omega arith
path_longer (x ∷ xs) k = omega (arith, dotted_longer xs k)

pub qualified_longer : (xs : List Name) (k : List Tok) → length k ≤ length (qualified_then xs k)
qualified_longer [] k = omega arith
qualified_longer (x ∷ xs) k = omega (arith, qualified_longer xs k)

pub name_longer : (x : ValueName) (k : List Tok) → length k < length (name_then x k)
name_longer (PlainName x) k = omega arith
name_longer (OperatorName at t) k = omega arith

pub names_longer : (xs : List ValueName) (k : List Tok) → length k ≤ length (names_then xs k)
names_longer [] k = omega arith
names_longer (x ∷ xs) k = omega (arith, name_longer x (names_then xs k), names_longer xs k)

pub run_longer : (run k : List Tok) → length k ≤ length (run ++ k)
run_longer [] k = omega arith
run_longer (t ∷ ts) k = omega (arith, run_longer ts k)

pub type_longer : (run : Option (List Tok)) (k : List Tok) → length k ≤ length (type_then run k)
type_longer None k = omega arith
type_longer (Some run) k = omega (arith, run_longer run k)

pub optional_longer : (x : Fixed) (b : Bool) (k : List Tok) → length k ≤ length (optional_then x b k)
optional_longer x true k = omega arith
optional_longer x false k = omega arith

pub open_longer : (o : Option ℕ) (k : List Tok) → length k ≤ length (open_then o k)
open_longer None k = omega arith
open_longer (Some at) k = omega arith

mutual
  pub pat_more : (p : Pat) (k : List Tok) → length k ≤ length (pat_then p k)
  pat_more (AsPat p xs) k = omega (arith, pat_more p (names_then xs k), names_longer xs k)
  pat_more (OrPat p ps) k = omega (arith, pat_more p (pats_then key.Bar ps k), pats_more key.Bar ps k)
  pat_more (TuplePat p ps) k = omega (arith, pat_more p (pats_then key.Comma ps k), pats_more key.Comma ps k)
  pat_more (ConsPat p ps) k = omega (arith, pat_more p (pats_then key.ColonColon ps k), pats_more key.ColonColon ps k)
  pat_more (ConstrApplyPat path p) k = omega (arith, path_longer path (pat_then p k), pat_more p k)
  pat_more (TagApplyPat x p) k = omega (arith, pat_more p k)
  pat_more (LazyPat at p) k = omega (arith, pat_more p k)
  pat_more (ExceptionPat at p) k = omega (arith, pat_more p k)
  pat_more (AnyPat at) k = omega arith
  pat_more (ValuePat x) k = omega (arith, name_longer x k)
  pat_more (LiteralPat c x) k = omega arith
  pat_more (NegativePat x c y) k = omega arith
  pat_more (RangePat x y) k = omega arith
  pat_more (ConstrPat path) k = path_longer path k
  pat_more (TagPat x) k = omega arith
  pat_more (BoolPat at b) k = omega arith
  pat_more (UnitPat at) k = omega arith
  pat_more (ParenPat at p) k = omega (arith, pat_more p (fixed key.RightParen ∷ k))
  pat_more (TypedPat at p run) k =
      omega (arith, pat_more p (fixed key.Colon ∷ (run ++ (fixed key.RightParen ∷ k))), run_longer run (fixed key.RightParen ∷ k))
  pat_more (EmptyPat at b) k = omega arith
  pat_more (ListPat at b p ps last) k =
      omega (
        arith,
        pat_more p (pats_then key.Semicolon ps (optional_then key.Semicolon last (fixed (closing b) ∷ k))),
        pats_more key.Semicolon ps
            (optional_then key.Semicolon last (fixed (closing b) ∷ k)),
        optional_longer key.Semicolon last (fixed (closing b) ∷ k),
      )
  pat_more (RecordPat at f fs rest last) k =
      omega (
        arith,
        field_more f (pat_fields_then fs (open_then rest (optional_then key.Semicolon last (fixed key.RightBrace ∷ k)))),
        fields_more fs
            (open_then rest (optional_then key.Semicolon last (fixed key.RightBrace ∷ k))),
        open_longer rest
            (optional_then key.Semicolon last (fixed key.RightBrace ∷ k)),
        optional_longer key.Semicolon last (fixed key.RightBrace ∷ k),
      )
  pat_more (OpenedPat path at p) k =
      omega (
        arith,
        path_longer path (fixed key.Dot ∷ placed key.LeftParen at ∷ pat_then p (fixed key.RightParen ∷ k)),
        pat_more p
            (fixed key.RightParen ∷ k),
      )

  pub pats_more : (sep : Fixed) (ps : Pats) (k : List Tok) → length k ≤ length (pats_then sep ps k)
  pats_more sep no_pat k = omega arith
  pats_more sep (more_pat p ps) k = omega (arith, pat_more p (pats_then sep ps k), pats_more sep ps k)

  pub field_more : (f : PatField) (k : List Tok) → length k ≤ length (pat_field_then f k)
  field_more (PunnedField path x run) k = omega (arith, qualified_longer path (word class.Lower x ∷ type_then run k), type_longer run k)
  field_more (MatchedField path x run at p) k =
      omega (
        arith,
        qualified_longer path (word class.Lower x ∷ type_then run (placed key.Equals at ∷ pat_then p k)),
        type_longer run
            (placed key.Equals at ∷ pat_then p k),
        pat_more p k,
      )

  pub fields_more : (fs : PatFields) (k : List Tok) → length k ≤ length (pat_fields_then fs k)
  fields_more no_pat_field k = omega arith
  fields_more (more_pat_field f fs) k = omega (arith, field_more f (pat_fields_then fs k), fields_more fs k)

-- ---- the first word

-- words that can begin a pattern
abbrev pub begins_pat : Tok → Bool
begins_pat (placed key.Underscore at) = true
begins_pat (placed key.True at) = true
begins_pat (placed key.False at) = true
begins_pat (placed key.LeftParen at) = true
begins_pat (placed key.LeftBracket at) = true
begins_pat (placed key.LeftArray at) = true
begins_pat (placed key.LeftBrace at) = true
begins_pat (placed key.Lazy at) = true
begins_pat (placed key.Exception at) = true
begins_pat (word c x) = true
begins_pat _ = false

-- a first word that begins a pattern; if it is an operator, the word behind it has a text of its own
pub record Opens (ts : List Tok) : Type 0 where
  pub first : Tok
  pub rest : List Tok
  pub is : ts ≡ first ∷ rest
  pub begins : begins_pat first ≡ true
  pub behind : is_operator first ≡ true → (c : Class) × (y : Name) × (r : List Tok) × (rest ≡ word c y ∷ r)

module _ (rest : List Tok) where
  no_operator : (t : Tok) → is_operator t ≡ false → is_operator t ≡ true → (c : Class) × (y : Name) × (r : List Tok) × (rest ≡ word c y ∷ r)
  no_operator t e h = absurd cc

  -- a first word that is no operator
  opens_by : (t : Tok) → begins_pat t ≡ true → is_operator t ≡ false → Opens (t ∷ rest)
  opens_by t b o = record { first = t; rest = rest; is = refl; begins = b; behind = no_operator t o }

free_opens : (c : Class) (x : Name) (k : List Tok) → is_operator (word c x) ≡ false → Opens (word c x ∷ k)
free_opens c x k h = opens_by k (word c x) refl h

literal_opens : (c : Class) (x : Name) (k : List Tok) → is_literal c ≡ true → Opens (word c x ∷ k)
literal_opens class.Int x k h = free_opens class.Int x k refl
literal_opens class.Float x k h = free_opens class.Float x k refl
literal_opens class.Char x k h = free_opens class.Char x k refl
literal_opens class.Text x k h = free_opens class.Text x k refl
literal_opens class.Quoted x k h = free_opens class.Quoted x k refl
literal_opens class.Lower x k h = absurd cc
literal_opens class.Upper x k h = absurd cc
literal_opens class.Keyword x k h = absurd cc
literal_opens class.TypeVar x k h = absurd cc
literal_opens class.Tag x k h = absurd cc
literal_opens class.Label x k h = absurd cc
literal_opens class.Prefix x k h = absurd cc
literal_opens class.Infix x k h = absurd cc
literal_opens class.Mark x k h = absurd cc

path_opens : (path : List Name) (k : List Tok) → path ≢ [] → Opens (path_then path k)
path_opens [] k h = absurd (h refl)
path_opens (x ∷ xs) k h = free_opens class.Upper x (dotted_then xs k) refl

bool_opens : (at : ℕ) (b : Bool) (k : List Tok) → Opens (placed (truth b) at ∷ k)
bool_opens at true k = opens_by k (placed key.True at) refl refl
bool_opens at false k = opens_by k (placed key.False at) refl refl

bracket_opens : (at : ℕ) (b : Bracket) (k : List Tok) → Opens (placed (opening b) at ∷ k)
bracket_opens at bracket.List k = opens_by k (placed key.LeftBracket at) refl refl
bracket_opens at bracket.Array k = opens_by k (placed key.LeftArray at) refl refl

name_opens : (x : ValueName) (k : List Tok) → Opens (name_then x k)
name_opens (PlainName x) k = free_opens class.Lower x k refl
name_opens (OperatorName at t) k = opens_by (t ∷ fixed key.RightParen ∷ k) (placed key.LeftParen at) refl refl

pub pat_opens : (p : Pat) (k : List Tok) → WfPat p → Opens (pat_then p k)
pat_opens (AsPat p xs) k w = pat_opens p (names_then xs k) w.3
pat_opens (OrPat p ps) k w = pat_opens p (pats_then key.Bar ps k) w.2
pat_opens (TuplePat p ps) k w = pat_opens p (pats_then key.Comma ps k) w.2
pat_opens (ConsPat p ps) k w = pat_opens p (pats_then key.ColonColon ps k) w.2
pat_opens (ConstrApplyPat path p) k w = path_opens path (pat_then p k) w.0
pat_opens (TagApplyPat x p) k w = free_opens class.Tag x (pat_then p k) refl
pat_opens (LazyPat at p) k w = opens_by (pat_then p k) (placed key.Lazy at) refl refl
pat_opens (ExceptionPat at p) k w = opens_by (pat_then p k) (placed key.Exception at) refl refl
pat_opens (AnyPat at) k w = opens_by k (placed key.Underscore at) refl refl
pat_opens (ValuePat x) k w = name_opens x k
pat_opens (LiteralPat c x) k w = literal_opens c x k w
pat_opens (NegativePat x c y) k w =
    record { first = word class.Infix x; rest = word c y ∷ k; is = refl; begins = refl; behind = λ h. (c, y, k, refl) }
pat_opens (RangePat x y) k w = free_opens class.Char x (fixed key.DotDot ∷ word class.Char y ∷ k) refl
pat_opens (ConstrPat path) k w = path_opens path k w
pat_opens (TagPat x) k w = free_opens class.Tag x k refl
pat_opens (BoolPat at b) k w = bool_opens at b k
pat_opens (UnitPat at) k w = opens_by (fixed key.RightParen ∷ k) (placed key.LeftParen at) refl refl
pat_opens (ParenPat at p) k w = opens_by (pat_then p (fixed key.RightParen ∷ k)) (placed key.LeftParen at) refl refl
pat_opens (TypedPat at p run) k w = opens_by (pat_then p (fixed key.Colon ∷ (run ++ (fixed key.RightParen ∷ k)))) (placed key.LeftParen at) refl refl
pat_opens (EmptyPat at b) k w = bracket_opens at b (fixed (closing b) ∷ k)
pat_opens (ListPat at b p ps last) k w =
    bracket_opens at b (pat_then p (pats_then key.Semicolon ps (optional_then key.Semicolon last (fixed (closing b) ∷ k))))
pat_opens (RecordPat at f fs rest last) k w =
    opens_by (pat_field_then f (pat_fields_then fs (open_then rest (optional_then key.Semicolon last (fixed key.RightBrace ∷ k)))))
    (placed key.LeftBrace at) refl refl
pat_opens (OpenedPat path at p) k w = path_opens path (fixed key.Dot ∷ placed key.LeftParen at ∷ pat_then p (fixed key.RightParen ∷ k)) w.0

pub opens_longer : (ts : List Tok) → Opens ts → 0 < length ts
opens_longer ts o = omega (arith, ap length o.is)

path_strict : (path : List Name) (k : List Tok) → path ≢ [] → length k < length (path_then path k)
path_strict [] k h = absurd (h refl)
path_strict (x ∷ xs) k h = omega (arith, dotted_longer xs k)

pub pat_longer : (p : Pat) (k : List Tok) → WfPat p → length k < length (pat_then p k)
pat_longer (AsPat p xs) k w = omega (arith, pat_longer p (names_then xs k) w.3, names_longer xs k)
pat_longer (OrPat p ps) k w = omega (arith, pat_longer p (pats_then key.Bar ps k) w.2, pats_more key.Bar ps k)
pat_longer (TuplePat p ps) k w = omega (arith, pat_longer p (pats_then key.Comma ps k) w.2, pats_more key.Comma ps k)
pat_longer (ConsPat p ps) k w = omega (arith, pat_longer p (pats_then key.ColonColon ps k) w.2, pats_more key.ColonColon ps k)
pat_longer (ConstrApplyPat path p) k w = omega (arith, path_longer path (pat_then p k), pat_longer p k w.2)
pat_longer (ConstrPat path) k w = path_strict path k w
pat_longer (OpenedPat path at p) k w =
    omega (
      arith,
      path_longer path (fixed key.Dot ∷ placed key.LeftParen at ∷ pat_then p (fixed key.RightParen ∷ k)),
      pat_more p
          (fixed key.RightParen ∷ k),
    )
pat_longer (TagApplyPat x p) k w = omega (arith, pat_more p k)
pat_longer (LazyPat at p) k w = omega (arith, pat_more p k)
pat_longer (ExceptionPat at p) k w = omega (arith, pat_more p k)
pat_longer (AnyPat at) k w = omega arith
pat_longer (ValuePat x) k w = name_longer x k
pat_longer (LiteralPat c x) k w = omega arith
pat_longer (NegativePat x c y) k w = omega arith
pat_longer (RangePat x y) k w = omega arith
pat_longer (TagPat x) k w = omega arith
pat_longer (BoolPat at b) k w = omega arith
pat_longer (UnitPat at) k w = omega arith
pat_longer (ParenPat at p) k w = omega (arith, pat_more p (fixed key.RightParen ∷ k))
pat_longer (TypedPat at p run) k w =
    omega (arith, pat_more p (fixed key.Colon ∷ (run ++ (fixed key.RightParen ∷ k))), run_longer run (fixed key.RightParen ∷ k))
pat_longer (EmptyPat at b) k w = omega arith
pat_longer (ListPat at b p ps last) k w =
    omega (
      arith,
      pat_more (ListPat at b p ps last) k,
      pat_more p
          (pats_then key.Semicolon ps (optional_then key.Semicolon last (fixed (closing b) ∷ k))),
      pats_more key.Semicolon ps
          (optional_then key.Semicolon last (fixed (closing b) ∷ k)),
      optional_longer key.Semicolon last (fixed (closing b) ∷ k),
    )
pat_longer (RecordPat at f fs rest last) k w =
    omega (
      arith,
      field_more f (pat_fields_then fs (open_then rest (optional_then key.Semicolon last (fixed key.RightBrace ∷ k)))),
      fields_more fs
          (open_then rest (optional_then key.Semicolon last (fixed key.RightBrace ∷ k))),
      open_longer rest
          (optional_then key.Semicolon last (fixed key.RightBrace ∷ k)),
      optional_longer key.Semicolon last (fixed key.RightBrace ∷ k),
    )
