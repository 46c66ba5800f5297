-- Readings of paths, names and runs (the OCaml manual, "Names" and "Type expressions").
use Rattle.std.specs.Prelude.{ℕ, suc, List, [], ◌∷◌, Bool, if◌then◌else◌, Option, Some, None, take, drop}
use Rattle.rotor_base.specs.declared.token.Class.TheVariants as class
use Rattle.ml_trees.specs.declared.fixed.Fixed.{Fixed}
use Rattle.ml_trees.specs.declared.fixed.Fixed.TheVariants as key
use Rattle.ml_trees.specs.Tok.{Name, Tok, fixed, placed, word}
use Rattle.ml_trees.specs.Runs.{bracketing, after_bracket, beside_type, begins_type, in_type, in_declaration}
use Rattle.ml_trees.specs.Tree.{ValueName, PlainName, OperatorName}
use Rattle.ml_trees.specs.WellFormed.{is_operator}
use Rattle.token_reading.specs.Steps.{Read, many, always}

-- ---- paths

-- a `.` and the name of a module
abbrev pub dot_upper : Read Name
dot_upper (fixed key.Dot ∷ word class.Upper x ∷ ts) = Some (x, ts)
dot_upper _ = None

-- more names behind the first
abbrev pub more_uppers : ℕ → List Tok → List Name × List Tok
more_uppers n ts = many [] ◌∷◌ always dot_upper n ts

-- the name of a module and a `.`
abbrev pub upper_dot : Read Name
upper_dot (word class.Upper x ∷ fixed key.Dot ∷ ts) = Some (x, ts)
upper_dot _ = None

-- names of modules, each with a `.`
abbrev pub qualifiers : ℕ → List Tok → List Name × List Tok
qualifiers n ts = many [] ◌∷◌ always upper_dot n ts

abbrev pub lower_word : Read Name
lower_word (word class.Lower x ∷ ts) = Some (x, ts)
lower_word _ = None

-- ---- names of values

-- after a `(`: an operator and a `)`
abbrev pub operator_at : ℕ → Read ValueName
operator_at at (t ∷ fixed key.RightParen ∷ ts) = if is_operator t then Some (OperatorName at t, ts) else None
operator_at at _ = None

abbrev pub value_name : Read ValueName
value_name (word class.Lower x ∷ ts) = Some (PlainName x, ts)
value_name (placed key.LeftParen at ∷ ts) = operator_at at ts
value_name _ = None

-- ---- runs

abbrev pub or_none : Option (List Fixed) → Option ℕ
or_none (Some []) = Some 0
or_none _ = None

abbrev pub one_more : Option ℕ → Option ℕ → Option ℕ
one_more (Some n) other = Some (suc n)
one_more None other = other

-- the greatest number of tokens after which all brackets are closed, from this state
unfoldable pub longest : (Tok → Bool) → (Tok → Bool) → Option (List Fixed) → List Tok → Option ℕ
longest outside inside st [] = or_none st
longest outside inside None (t ∷ ts) = None
longest outside inside (Some xs) (t ∷ ts) = one_more (longest outside inside (after_bracket outside inside t (bracketing t) xs) ts)
    (or_none (Some xs))

-- the first tokens, and those behind them
abbrev pub cut_at : List Tok → Option ℕ → Option (List Tok × List Tok)
cut_at ts None = None
cut_at ts (Some n) = Some (take n ts, drop n ts)

-- the longest type, and the longest declaration
unfoldable pub type_run : Read (List Tok)
type_run [] = None
type_run (t ∷ ts) = cut_at (t ∷ ts) (one_more (longest beside_type in_type (after_bracket begins_type in_type t (bracketing t) []) ts) None)

unfoldable pub declaration_run : Read (List Tok)
declaration_run [] = None
declaration_run (t ∷ ts) =
    cut_at (t ∷ ts) (one_more (longest in_declaration in_declaration (after_bracket in_declaration in_declaration t (bracketing t) []) ts) None)

-- an optional `:` and type; if no type begins, the `:` is not read
abbrev pub type_or : List Tok → Option (List Tok × List Tok) → Option (List Tok) × List Tok
type_or ts None = (None, ts)
type_or ts (Some x) = (Some x.0, x.1)

abbrev pub optional_type : List Tok → Option (List Tok) × List Tok
optional_type (fixed key.Colon ∷ ts) = type_or (fixed key.Colon ∷ ts) (type_run ts)
optional_type ts = (None, ts)
