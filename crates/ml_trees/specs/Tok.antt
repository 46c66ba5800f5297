-- A token as the grammar sees it (the OCaml manual, "Lexical conventions").
use Rattle.std.specs.Prelude.{ℕ, suc, List, [], ◌∷◌, Bool, true, false, ◌==◌, Option, Some, None, if◌then◌else◌, codes}
use Rattle.std.specs.Str.{bytes_eq}
use Rattle.rotor_base.specs.declared.token.Class.{Class}
use Rattle.rotor_base.specs.declared.token.Class.TheVariants as class
use Rattle.ml_trees.specs.declared.fixed.Fixed.{Fixed}
use Rattle.ml_trees.specs.declared.fixed.Fixed.TheVariants as key

-- a word with its token, from 1
pub record Name : Type 0 where
  pub at : ℕ
  pub text : List ℕ

pub data Tok : Type 0 where
  -- a fixed word whose token no tree keeps
  fixed : Fixed → Tok
  -- a fixed word that can be the first of a form, or have a place: its token is kept
  placed : Fixed → ℕ → Tok
  -- a word with a text of its own
  word : Class → Name → Tok

-- the fixed words whose tokens are kept
abbrev pub is_placed : Fixed → Bool
is_placed key.Assert = true
is_placed key.Begin = true
is_placed key.Exception = true
is_placed key.False = true
is_placed key.For = true
is_placed key.Fun = true
is_placed key.Function = true
is_placed key.Functor = true
is_placed key.If = true
is_placed key.Include = true
is_placed key.Lazy = true
is_placed key.Let = true
is_placed key.Match = true
is_placed key.Module = true
is_placed key.Open = true
is_placed key.Sig = true
is_placed key.Struct = true
is_placed key.True = true
is_placed key.Try = true
is_placed key.While = true
is_placed key.Underscore = true
is_placed key.LeftParen = true
is_placed key.LeftBracket = true
is_placed key.LeftBrace = true
is_placed key.LeftArray = true
is_placed key.Equals = true
is_placed key.Tilde = true
is_placed key.Question = true
is_placed _ = false

-- the fixed words, and how each is spelled
abbrev pub spellings : List (List ℕ × Fixed)
spellings =
    (codes "and", key.And) ∷ (codes "as", key.As) ∷ (codes "assert", key.Assert) ∷ (codes "begin", key.Begin) ∷
    (codes "constraint", key.Constraint) ∷ (codes "do", key.Do) ∷ (codes "done", key.Done) ∷
    (codes "downto", key.Downto) ∷ (codes "else", key.Else) ∷ (codes "end", key.End) ∷
    (codes "exception", key.Exception) ∷ (codes "external", key.External) ∷ (codes "false", key.False) ∷
    (codes "for", key.For) ∷ (codes "fun", key.Fun) ∷ (codes "function", key.Function) ∷
    (codes "functor", key.Functor) ∷ (codes "if", key.If) ∷ (codes "in", key.In) ∷ (codes "include", key.Include) ∷
    (codes "lazy", key.Lazy) ∷ (codes "let", key.Let) ∷ (codes "match", key.Match) ∷ (codes "module", key.Module) ∷
    (codes "mutable", key.Mutable) ∷ (codes "nonrec", key.Nonrec) ∷ (codes "of", key.Of) ∷ (codes "open", key.Open) ∷
    (codes "private", key.Private) ∷ (codes "rec", key.Rec) ∷ (codes "sig", key.Sig) ∷ (codes "struct", key.Struct) ∷
    (codes "then", key.Then) ∷ (codes "to", key.To) ∷ (codes "true", key.True) ∷ (codes "try", key.Try) ∷
    (codes "type", key.Type) ∷ (codes "val", key.Val) ∷ (codes "when", key.When) ∷ (codes "while", key.While) ∷
    (codes "with", key.With) ∷ (codes "_", key.Underscore) ∷ (codes "(", key.LeftParen) ∷
    (codes ")", key.RightParen) ∷ (codes "[", key.LeftBracket) ∷ (codes "]", key.RightBracket) ∷
    (codes "{", key.LeftBrace) ∷ (codes "}", key.RightBrace) ∷ (codes "[|", key.LeftArray) ∷
    (codes "|]", key.RightArray) ∷ (codes "[<", key.LeftLess) ∷ (codes "[>", key.LeftGreater) ∷
    (codes ";", key.Semicolon) ∷ (codes ";;", key.DoubleSemicolon) ∷ (codes ",", key.Comma) ∷ (codes ".", key.Dot) ∷
    (codes "..", key.DotDot) ∷ (codes ":", key.Colon) ∷ (codes "::", key.ColonColon) ∷
    (codes ":>", key.ColonGreater) ∷ (codes "->", key.Arrow) ∷ (codes "<-", key.LeftArrow) ∷ (codes "|", key.Bar) ∷
    (codes "=", key.Equals) ∷ (codes "~", key.Tilde) ∷ (codes "?", key.Question) ∷ []

-- the first of some words that is spelled so
abbrev pub fixed_among : {A : Type 0} → (A → List ℕ) → (A → Fixed) → List ℕ → List A → Option Fixed
fixed_among text meant bytes [] = None
fixed_among text meant bytes (x ∷ xs) = if bytes_eq (text x) bytes then Some (meant x) else fixed_among text meant bytes xs

-- the fixed word that is spelled so
unfoldable pub fixed_of : List ℕ → Option Fixed
fixed_of bytes = fixed_among (λ x. x.0) (λ x. x.1) bytes spellings

abbrev pub fixed_at : ℕ → Fixed → Tok
fixed_at at x = if is_placed x then placed x at else fixed x

abbrev pub tok_or : Tok → ℕ → Option Fixed → Tok
tok_or other at None = other
tok_or other at (Some x) = fixed_at at x

-- the token of this class, number and text
abbrev pub tok : Class → ℕ → List ℕ → Tok
tok class.Keyword at text = tok_or (word class.Keyword (record { at = at; text = text })) at (fixed_of text)
tok class.Mark at text = tok_or (word class.Mark (record { at = at; text = text })) at (fixed_of text)
tok c at text = word c (record { at = at; text = text })

-- the tokens of lexemes, numbered from this one
abbrev pub toks_from : ℕ → List (Class × List ℕ) → List Tok
toks_from at [] = []
toks_from at (x ∷ xs) = tok x.0 at x.1 ∷ toks_from (suc at) xs

abbrev pub code : Fixed → ℕ
code key.And = 0
code key.As = 1
code key.Assert = 2
code key.Begin = 3
code key.Constraint = 4
code key.Do = 5
code key.Done = 6
code key.Downto = 7
code key.Else = 8
code key.End = 9
code key.Exception = 10
code key.External = 11
code key.False = 12
code key.For = 13
code key.Fun = 14
code key.Function = 15
code key.Functor = 16
code key.If = 17
code key.In = 18
code key.Include = 19
code key.Lazy = 20
code key.Let = 21
code key.Match = 22
code key.Module = 23
code key.Mutable = 24
code key.Nonrec = 25
code key.Of = 26
code key.Open = 27
code key.Private = 28
code key.Rec = 29
code key.Sig = 30
code key.Struct = 31
code key.Then = 32
code key.To = 33
code key.True = 34
code key.Try = 35
code key.Type = 36
code key.Val = 37
code key.When = 38
code key.While = 39
code key.With = 40
code key.Underscore = 41
code key.LeftParen = 42
code key.RightParen = 43
code key.LeftBracket = 44
code key.RightBracket = 45
code key.LeftBrace = 46
code key.RightBrace = 47
code key.LeftArray = 48
code key.RightArray = 49
code key.LeftLess = 50
code key.LeftGreater = 51
code key.Semicolon = 52
code key.DoubleSemicolon = 53
code key.Comma = 54
code key.Dot = 55
code key.DotDot = 56
code key.Colon = 57
code key.ColonColon = 58
code key.ColonGreater = 59
code key.Arrow = 60
code key.LeftArrow = 61
code key.Bar = 62
code key.Equals = 63
code key.Tilde = 64
code key.Question = 65

-- whether two fixed words are one
abbrev pub same : Fixed → Fixed → Bool
same a b = code a == code b
