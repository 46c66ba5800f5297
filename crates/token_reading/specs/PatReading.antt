-- Reading patterns (the OCaml manual, "Patterns").
use Rattle.std.specs.Prelude.{ℕ, zero, suc, List, [], ◌∷◌, Bool, true, false, if◌then◌else◌, Option, Some, None}
use Rattle.rotor_base.specs.declared.token.Class.{Class}
use Rattle.rotor_base.specs.declared.token.Class.TheVariants as class
use Rattle.ml_trees.specs.declared.fixed.Fixed.{Fixed}
use Rattle.ml_trees.specs.declared.fixed.Fixed.TheVariants as key
use Rattle.ml_trees.specs.declared.word.Bracket.{Bracket}
use Rattle.ml_trees.specs.declared.word.Bracket.TheVariants as bracket
use Rattle.ml_trees.specs.Tok.{Name, Tok, fixed, placed, word}
use Rattle.ml_trees.specs.Events.{closing}
use Rattle.ml_trees.specs.WellFormed.{is_literal, is_number, is_minus, is_operator}
use Rattle.ml_trees.specs.Tree.{ValueName, PlainName, OperatorName, Pat, AsPat, OrPat, TuplePat, ConsPat, ConstrApplyPat, TagApplyPat, LazyPat}
use Rattle.ml_trees.specs.Tree.{ExceptionPat, AnyPat, ValuePat, LiteralPat, NegativePat, RangePat, ConstrPat, TagPat, BoolPat, UnitPat, ParenPat}
use Rattle.ml_trees.specs.Tree.{TypedPat, EmptyPat, ListPat, RecordPat, OpenedPat, Pats, no_pat, more_pat, PatField, PunnedField, MatchedField}
use Rattle.ml_trees.specs.Tree.{PatFields, no_pat_field, more_pat_field}
use Rattle.token_reading.specs.Steps.{Read, ◌>>=◌, expect, expect_at, many, always}
use Rattle.token_reading.specs.Pieces.{more_uppers, qualifiers, lower_word, value_name, type_run, optional_type}

-- ---- what is read, put together

abbrev pub grown_as : Pat → List ValueName → Pat
grown_as p [] = p
grown_as p (x ∷ xs) = AsPat p (x ∷ xs)

abbrev pub grown_or : Pat → Pats → Pat
grown_or p no_pat = p
grown_or p (more_pat q qs) = OrPat p (more_pat q qs)

abbrev pub grown_tuple : Pat → Pats → Pat
grown_tuple p no_pat = p
grown_tuple p (more_pat q qs) = TuplePat p (more_pat q qs)

abbrev pub grown_cons : Pat → Pats → Pat
grown_cons p no_pat = p
grown_cons p (more_pat q qs) = ConsPat p (more_pat q qs)

-- a constructor or a tag with the pattern behind it, if there is one
abbrev pub applied_to : Pat → List Tok → Option (Pat × List Tok) → Pat × List Tok
applied_to (ConstrPat path) ts (Some x) = (ConstrApplyPat path x.0, x.1)
applied_to (TagPat y) ts (Some x) = (TagApplyPat y x.0, x.1)
applied_to p ts _ = (p, ts)

abbrev pub can_apply : Pat → Bool
can_apply (ConstrPat path) = true
can_apply (TagPat x) = true
can_apply _ = false

-- a last `;` that may follow
abbrev pub last_semicolon : List Tok → Bool × List Tok
last_semicolon (fixed key.Semicolon ∷ ts) = (true, ts)
last_semicolon ts = (false, ts)

-- a `;` and a `_` that may follow
abbrev pub open_end : List Tok → Option ℕ × List Tok
open_end (fixed key.Semicolon ∷ placed key.Underscore at ∷ ts) = (Some at, ts)
open_end ts = (None, ts)

-- after a `-` or `-.`: a number
abbrev pub negative : Name → Read Pat
negative x (word c y ∷ ts) = if is_number c then Some (NegativePat x c y, ts) else None
negative x _ = None

-- after a Char: `..` and a Char, or nothing of it
abbrev pub range_or : Name → List Tok → Pat × List Tok
range_or x (fixed key.DotDot ∷ word class.Char y ∷ ts) = (RangePat x y, ts)
range_or x ts = (LiteralPat class.Char x, ts)

-- a word with a text of its own
abbrev pub free_pat : Class → Name → Read Pat
free_pat class.Lower x ts = Some (ValuePat (PlainName x), ts)
free_pat class.Tag x ts = Some (TagPat x, ts)
free_pat class.Char x ts = Some (range_or x ts)
free_pat class.Infix x ts = if is_minus x.text then negative x ts else None
free_pat c x ts = if is_literal c then Some (LiteralPat c x, ts) else None

-- after a `(` and a pattern: a `)`, or a type and a `)`
abbrev pub closed_by : ℕ → Pat → Read Pat
closed_by at p (fixed key.RightParen ∷ r) = Some (ParenPat at p, r)
closed_by at p (fixed key.Colon ∷ r) = type_run r >>= λ x. expect key.RightParen x.1 >>= λ r'. Some (TypedPat at p x.0, r')
closed_by at p _ = None

-- after a constructor: `.`, a pattern in parentheses, or nothing of it
abbrev pub opened_or : List Name → List Tok → Option (ℕ × Pat × List Tok) → Pat × List Tok
opened_or path ts None = (ConstrPat path, ts)
opened_or path ts (Some x) = (OpenedPat path x.0 x.1, x.2)

abbrev pub list_pat : ℕ → Bracket → Pat → Pats × List Tok → Option (Pat × List Tok)
list_pat at b p more = do
  let last = last_semicolon more.1
  r ← expect (closing b) last.1
  Some (ListPat at b p more.0 last.0, r)

abbrev pub record_pat : ℕ → PatField → PatFields × List Tok → Option (Pat × List Tok)
record_pat at f more = do
  let rest = open_end more.1
  let last = last_semicolon rest.1
  r ← expect key.RightBrace last.1
  Some (RecordPat at f more.0 rest.0 last.0, r)

-- an `=` and a pattern may follow a field
abbrev pub matched_or : List Name → Name → Option (List Tok) → List Tok → Option (ℕ × Pat × List Tok) → PatField × List Tok
matched_or path x run ts None = (PunnedField path x run, ts)
matched_or path x run ts (Some y) = (MatchedField path x run y.0 y.1, y.2)

module _ (sub : Read Pat) (n : ℕ) where
  abbrev pub next_pat : Fixed → Read Pat → Read Pat
  next_pat sep one ts = expect sep ts >>= one

  abbrev pub more_pats : Fixed → Read Pat → List Tok → Pats × List Tok
  more_pats sep one ts = many no_pat more_pat always (next_pat sep one) n ts

  -- after a `(`
  unfoldable pub paren_pat : ℕ → Read Pat
  paren_pat at (fixed key.RightParen ∷ ts) = Some (UnitPat at, ts)
  paren_pat at (t ∷ fixed key.RightParen ∷ ts) = if is_operator t then Some (ValuePat (OperatorName at t), ts) else
      (sub (t ∷ fixed key.RightParen ∷ ts) >>= λ p. closed_by at p.0 p.1)
  paren_pat at ts = sub ts >>= λ p. closed_by at p.0 p.1

  abbrev pub opened_part : List Tok → Option (ℕ × Pat × List Tok)
  opened_part (fixed key.Dot ∷ placed key.LeftParen at ∷ ts) = do
    p ← sub ts
    r ← expect key.RightParen p.1
    Some (at, p.0, r)
  opened_part _ = None

  -- after the name of a module or constructor
  unfoldable pub upper_pat : Name → Read Pat
  upper_pat x ts =
      let more = more_uppers n ts in
      Some (opened_or (x ∷ more.0) more.1 (opened_part more.1))

  -- after a `[` or `[|`
  unfoldable pub bracket_pat : ℕ → Bracket → Read Pat
  bracket_pat at bracket.List (fixed key.RightBracket ∷ ts) = Some (EmptyPat at bracket.List, ts)
  bracket_pat at bracket.Array (fixed key.RightArray ∷ ts) = Some (EmptyPat at bracket.Array, ts)
  bracket_pat at b ts = sub ts >>= λ p. list_pat at b p.0 (more_pats key.Semicolon sub p.1)

  abbrev pub equals_part : List Tok → Option (ℕ × Pat × List Tok)
  equals_part ts = do
    e ← expect_at key.Equals ts
    p ← sub e.1
    Some (e.0, p.0, p.1)

  unfoldable pub field_pat : Read PatField
  field_pat ts = do
    let path = qualifiers n ts
    x ← lower_word path.1
    let run = optional_type x.1
    Some (matched_or path.0 x.0 run.0 run.1 (equals_part run.1))

  abbrev pub next_field : Read PatField
  next_field ts = expect key.Semicolon ts >>= field_pat

  -- after a `{`
  unfoldable pub brace_pat : ℕ → Read Pat
  brace_pat at ts = field_pat ts >>= λ f. record_pat at f.0 (many no_pat_field more_pat_field always next_field n f.1)

  unfoldable pub simple_pat : Read Pat
  simple_pat (placed key.Underscore at ∷ ts) = Some (AnyPat at, ts)
  simple_pat (placed key.True at ∷ ts) = Some (BoolPat at true, ts)
  simple_pat (placed key.False at ∷ ts) = Some (BoolPat at false, ts)
  simple_pat (placed key.LeftParen at ∷ ts) = paren_pat at ts
  simple_pat (placed key.LeftBracket at ∷ ts) = bracket_pat at bracket.List ts
  simple_pat (placed key.LeftArray at ∷ ts) = bracket_pat at bracket.Array ts
  simple_pat (placed key.LeftBrace at ∷ ts) = brace_pat at ts
  simple_pat (word class.Upper x ∷ ts) = upper_pat x ts
  simple_pat (word c x ∷ ts) = free_pat c x ts
  simple_pat _ = None

  -- a Simple, a `lazy`, or a constructor or tag with what it is applied to
  unfoldable pub plain_pat : Read Pat
  plain_pat (placed key.Lazy at ∷ ts) = simple_pat ts >>= λ p. Some (LazyPat at p.0, p.1)
  plain_pat ts = simple_pat ts >>= λ p. Some (applied_to p.0 p.1 (if can_apply p.0 then simple_pat p.1 else None))

  unfoldable pub applied_pat : Read Pat
  applied_pat (placed key.Exception at ∷ ts) = plain_pat ts >>= λ p. Some (ExceptionPat at p.0, p.1)
  applied_pat ts = plain_pat ts

  abbrev pub pat_chain : Fixed → (Pat → Pats → Pat) → Read Pat → Read Pat
  pat_chain sep grown one ts = do
    p ← one ts
    let more = more_pats sep one p.1
    Some (grown p.0 more.0, more.1)

  unfoldable pub cons_pat : Read Pat
  cons_pat = pat_chain key.ColonColon grown_cons applied_pat

  unfoldable pub tuple_pat : Read Pat
  tuple_pat = pat_chain key.Comma grown_tuple cons_pat

  unfoldable pub or_pat : Read Pat
  or_pat = pat_chain key.Bar grown_or tuple_pat

  abbrev pub as_name : Read ValueName
  as_name ts = expect key.As ts >>= value_name

  unfoldable pub as_pat : Read Pat
  as_pat ts = do
    p ← or_pat ts
    let more = many [] ◌∷◌ always as_name n p.1
    Some (grown_as p.0 more.0, more.1)

-- the number bounds how deep patterns nest, and the turns
unfoldable pub read_pat : ℕ → Read Pat
read_pat zero ts = None
read_pat (suc n) ts = as_pat (read_pat n) n ts
