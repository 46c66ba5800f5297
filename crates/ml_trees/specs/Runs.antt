-- The tokens of types and of declarations, which are read as balanced runs (own profile; the OCaml
-- manual, "Type expressions" and "Type and exception definitions").
use Rattle.std.specs.Prelude.{ℕ, ◌-◌, length, slice_index, List, [], ◌∷◌, Bool, true, false, ◌==◌, ◌&&◌, Option, Some, None, if◌then◌else◌, codes}
use Rattle.std.specs.Str.{bytes_eq}
use Rattle.rotor_base.specs.declared.token.Class.TheVariants as class
use Rattle.ml_trees.specs.declared.fixed.Fixed.{Fixed}
use Rattle.ml_trees.specs.declared.fixed.Fixed.TheVariants as key
use Rattle.ml_trees.specs.Tok.{Tok, fixed, placed, word, same}

-- what a token is to the brackets of a run
pub data Bracketing : Type 0 where
  -- with the word that closes it
  opens : Fixed → Bracketing
  closes : Fixed → Bracketing
  neither : Bracketing

abbrev pub bracketing : Tok → Bracketing
bracketing (placed key.LeftParen at) = opens key.RightParen
bracketing (placed key.LeftBracket at) = opens key.RightBracket
bracketing (placed key.LeftBrace at) = opens key.RightBrace
bracketing (fixed key.LeftLess) = opens key.RightBracket
bracketing (fixed key.LeftGreater) = opens key.RightBracket
bracketing (fixed key.RightParen) = closes key.RightParen
bracketing (fixed key.RightBracket) = closes key.RightBracket
bracketing (fixed key.RightBrace) = closes key.RightBrace
bracketing _ = neither

-- the words that are still to close the brackets, after one more token; if the token may not follow, `None`
abbrev pub after_bracket : (Tok → Bool) → (Tok → Bool) → Tok → Bracketing → List Fixed → Option (List Fixed)
after_bracket outside inside t (opens close) open_words = Some (close ∷ open_words)
after_bracket outside inside t (closes close) [] = None
after_bracket outside inside t (closes close) (x ∷ xs) = if same close x then Some xs else None
after_bracket outside inside t neither [] = if outside t then Some [] else None
after_bracket outside inside t neither (x ∷ xs) = if inside t then Some (x ∷ xs) else None

-- the same of the tokens that are left: all brackets are closed at the end
abbrev pub is_matched : (Tok → Bool) → (Tok → Bool) → Option (List Fixed) → List Tok → Bool
is_matched outside inside None [] = false
is_matched outside inside (Some []) [] = true
is_matched outside inside (Some (x ∷ xs)) [] = false
is_matched outside inside None (t ∷ ts) = false
is_matched outside inside (Some xs) (t ∷ ts) = is_matched outside inside (after_bracket outside inside t (bracketing t) xs) ts

-- ---- types

-- the fixed words that may be inside the brackets of a type: no `;;`, and of the keywords
-- `as of mutable private type _`
abbrev pub type_word : Fixed → Bool
type_word key.And = false
type_word key.Assert = false
type_word key.Begin = false
type_word key.Constraint = false
type_word key.Do = false
type_word key.Done = false
type_word key.Downto = false
type_word key.Else = false
type_word key.End = false
type_word key.Exception = false
type_word key.External = false
type_word key.False = false
type_word key.For = false
type_word key.Fun = false
type_word key.Function = false
type_word key.Functor = false
type_word key.If = false
type_word key.In = false
type_word key.Include = false
type_word key.Lazy = false
type_word key.Let = false
type_word key.Match = false
type_word key.Module = false
type_word key.Nonrec = false
type_word key.Open = false
type_word key.Rec = false
type_word key.Sig = false
type_word key.Struct = false
type_word key.Then = false
type_word key.To = false
type_word key.True = false
type_word key.Try = false
type_word key.Val = false
type_word key.When = false
type_word key.While = false
type_word key.With = false
type_word key.DoubleSemicolon = false
type_word _ = true

abbrev pub in_type : Tok → Bool
in_type (fixed x) = type_word x
in_type (placed x at) = type_word x
in_type (word class.Keyword x) = false
in_type (word _ x) = true

-- ends with `:`
abbrev pub has_colon : List ℕ → Bool
has_colon text = slice_index text (length text - 1) == 58

-- begins with `?`
abbrev pub is_optional : List ℕ → Bool
is_optional [] = false
is_optional (b ∷ bs) = b == 63

abbrev pub beside_type : Tok → Bool
beside_type (word class.Lower x) = true
beside_type (word class.Upper x) = true
beside_type (word class.TypeVar x) = true
beside_type (word class.Tag x) = true
beside_type (word class.Infix x) = bytes_eq x.text (codes "*")
beside_type (word class.Label x) = is_optional x.text && has_colon x.text
beside_type (fixed key.Dot) = true
beside_type (fixed key.Arrow) = true
beside_type (fixed key.Colon) = true
beside_type (fixed key.As) = true
beside_type (placed key.Underscore at) = true
beside_type _ = false

-- its first token may be `type` too
abbrev pub begins_type : Tok → Bool
begins_type (fixed key.Type) = true
begins_type t = beside_type t

-- TypeRun, but for its being as long as can be
abbrev pub is_type_run : List Tok → Bool
is_type_run [] = false
is_type_run (t ∷ ts) = is_matched beside_type in_type (after_bracket begins_type in_type t (bracketing t) []) ts

-- ---- declarations

-- the fixed words of declarations: no `;;`, and of the keywords `and as constraint mutable nonrec of private _`
abbrev pub declaration_word : Fixed → Bool
declaration_word key.Assert = false
declaration_word key.Begin = false
declaration_word key.Do = false
declaration_word key.Done = false
declaration_word key.Downto = false
declaration_word key.Else = false
declaration_word key.End = false
declaration_word key.Exception = false
declaration_word key.External = false
declaration_word key.False = false
declaration_word key.For = false
declaration_word key.Fun = false
declaration_word key.Function = false
declaration_word key.Functor = false
declaration_word key.If = false
declaration_word key.In = false
declaration_word key.Include = false
declaration_word key.Lazy = false
declaration_word key.Let = false
declaration_word key.Match = false
declaration_word key.Module = false
declaration_word key.Open = false
declaration_word key.Rec = false
declaration_word key.Sig = false
declaration_word key.Struct = false
declaration_word key.Then = false
declaration_word key.To = false
declaration_word key.True = false
declaration_word key.Try = false
declaration_word key.Type = false
declaration_word key.Val = false
declaration_word key.When = false
declaration_word key.While = false
declaration_word key.With = false
declaration_word key.DoubleSemicolon = false
declaration_word _ = true

abbrev pub in_declaration : Tok → Bool
in_declaration (fixed x) = declaration_word x
in_declaration (placed x at) = declaration_word x
in_declaration (word class.Keyword x) = false
in_declaration (word _ x) = true

-- DeclRun, but for its being as long as can be
abbrev pub is_declaration_run : List Tok → Bool
is_declaration_run [] = false
is_declaration_run (t ∷ ts) = is_matched in_declaration in_declaration (Some []) (t ∷ ts)
