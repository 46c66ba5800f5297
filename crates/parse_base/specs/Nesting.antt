-- The nesting: a stack of marks over the tokens of a file, after the numbered rules (own).
use Rattle.std.specs.Prelude.{ℕ, zero, suc, ◌<◌, ◌≤◌, ◌||◌, ◌&&◌, not, Bool, true, false, if◌then◌else◌, length, List, [], ◌∷◌, Option, Some}
use Rattle.std.specs.Prelude.{None}
use Rattle.rotor_base.specs.Limits.{max_nesting}
use Rattle.rotor_base.specs.declared.token.Class.TheVariants as class
use Rattle.rotor_base.specs.declared.token.Token.{Token}
use Rattle.ml_trees.specs.declared.fixed.Fixed.TheVariants as key
use Rattle.ml_trees.specs.Tok.{Tok, fixed, placed, word}
use Rattle.ml_trees.specs.WellFormed.{is_minus}
use Rattle.parse_base.specs.declared.depth.Role.{Role}
use Rattle.parse_base.specs.declared.depth.Role.TheVariants as role
use Rattle.parse_base.specs.declared.depth.Mark.{Mark}
use Rattle.parse_base.specs.declared.depth.Mark.TheVariants as mark
use Rattle.token_reading.specs.Tokens.{from}

-- what a token is to the rules
abbrev pub role_of : Tok → Role
role_of (placed key.LeftParen at) = role.Opening
role_of (placed key.LeftBracket at) = role.Opening
role_of (placed key.LeftArray at) = role.Opening
role_of (fixed key.LeftLess) = role.Opening
role_of (fixed key.LeftGreater) = role.Opening
role_of (placed key.LeftBrace at) = role.Opening
role_of (placed key.Begin at) = role.Opening
role_of (fixed key.Do) = role.Opening
role_of (placed key.Struct at) = role.Structure
role_of (placed key.Sig at) = role.Structure
role_of (fixed key.RightParen) = role.Closing
role_of (fixed key.RightBracket) = role.Closing
role_of (fixed key.RightArray) = role.Closing
role_of (fixed key.RightBrace) = role.Closing
role_of (fixed key.End) = role.Closing
role_of (fixed key.Done) = role.Closing
role_of (placed key.Underscore at) = role.Ender
role_of (fixed key.DotDot) = role.Ender
role_of (placed key.True at) = role.Ender
role_of (placed key.False at) = role.Ender
role_of (word class.Lower x) = role.Ender
role_of (word class.Upper x) = role.Ender
role_of (word class.Int x) = role.Ender
role_of (word class.Float x) = role.Ender
role_of (word class.Char x) = role.Ender
role_of (word class.Text x) = role.Ender
role_of (word class.Quoted x) = role.Ender
role_of (word class.TypeVar x) = role.Ender
role_of (word class.Tag x) = role.Ender
role_of (word class.Label x) = role.Ender
role_of (placed key.Let at) = role.Let
role_of (fixed key.Val) = role.Item
role_of (fixed key.External) = role.Item
role_of (fixed key.Type) = role.Item
role_of (placed key.Exception at) = role.Item
role_of (placed key.Module at) = role.Item
role_of (placed key.Open at) = role.Item
role_of (placed key.Include at) = role.Item
role_of (fixed key.DoubleSemicolon) = role.Separator
role_of (fixed key.In) = role.In
role_of (placed key.Match at) = role.Cases
role_of (placed key.Function at) = role.Cases
role_of (placed key.Try at) = role.Cases
role_of (placed key.Fun at) = role.Body
role_of (placed key.Functor at) = role.Body
role_of (placed key.If at) = role.If
role_of (fixed key.Else) = role.Else
role_of (word class.Prefix x) = role.Prefix
role_of (word class.Infix x) = if is_minus x.text then role.Minus else role.Other
role_of (fixed key.Semicolon) = role.Semicolon
role_of (fixed key.Bar) = role.Bar
role_of (fixed key.And) = role.And
role_of _ = role.Other

abbrev pub first_role : List Tok → Role
first_role [] = role.Nothing
first_role (t ∷ ts) = role_of t

abbrev pub is_ender : Role → Bool
is_ender role.Ender = true
is_ender role.Closing = true
is_ender _ = false

-- an item may start directly behind it
abbrev pub starts_item : Role → Bool
starts_item role.Nothing = true
starts_item role.Separator = true
starts_item role.Structure = true
starts_item r = is_ender r

abbrev pub is_in_or_semicolon : Role → Bool
is_in_or_semicolon role.In = true
is_in_or_semicolon role.Semicolon = true
is_in_or_semicolon _ = false

abbrev pub is_else : Role → Bool
is_else role.Else = true
is_else _ = false

-- a sign before it may push a weak mark
abbrev pub is_signed : Role → Bool
is_signed role.Prefix = true
is_signed role.Minus = true
is_signed role.Let = true
is_signed role.Cases = true
is_signed role.Body = true
is_signed role.If = true
is_signed _ = false

-- ---- marks; the last one is first

abbrev pub is_bracket : Mark → Bool
is_bracket mark.Bracket = true
is_bracket _ = false

abbrev pub is_let : Mark → Bool
is_let mark.Let = true
is_let _ = false

abbrev pub is_let_or_bracket : Mark → Bool
is_let_or_bracket m = is_let m || is_bracket m

abbrev pub is_case : Mark → Bool
is_case mark.Case = true
is_case _ = false

abbrev pub is_case_or_bracket : Mark → Bool
is_case_or_bracket m = is_case m || is_bracket m

abbrev pub is_no_weak : Mark → Bool
is_no_weak mark.Weak = false
is_no_weak _ = true

-- the marks up to the last that passes a test; if none does, no mark
abbrev pub down_to : (Mark → Bool) → List Mark → List Mark
down_to q [] = []
down_to q (m ∷ ms) = if q m then m ∷ ms else down_to q ms

abbrev pub without_last : List Mark → List Mark
without_last [] = []
without_last (m ∷ ms) = ms

abbrev pub last_is : (Mark → Bool) → List Mark → Bool
last_is q [] = false
last_is q (m ∷ ms) = q m

-- these marks, if the last of them passes a test, or else the others
abbrev pub where_last : (Mark → Bool) → List Mark → List Mark → List Mark
where_last q back ms = if last_is q back then back else ms

-- ---- the rules

-- the marks after a token, by what it is, what precedes it and what follows it
abbrev pub after : Role → Role → Role → List Mark → List Mark
-- 1: an opening token pushes a bracket mark
after before role.Opening next ms = mark.Bracket ∷ ms
after before role.Structure next ms = mark.Bracket ∷ ms
-- 2: a closing token removes the marks from the last bracket mark on
after before role.Closing next ms = without_last (down_to is_bracket ms)
-- 3: an item start, and `;;`, remove the marks after the last bracket mark
after before role.Item next ms = if starts_item before then down_to is_bracket ms else ms
after before role.Separator next ms = down_to is_bracket ms
-- 3 and 4: a `let` that is no item start pushes a let mark, unless it directly follows `in` or `;` and the last mark is
-- a let mark
after before role.Let next ms =
    if starts_item before then down_to is_bracket ms else
    if is_in_or_semicolon before && last_is is_let ms then ms else
    mark.Let ∷ ms
-- 5: `in` removes the marks after the last let mark, if it is after the last bracket mark
after before role.In next ms = where_last is_let (down_to is_let_or_bracket ms) ms
-- 6: `match`, `function` and `try` push a case mark, `fun` and `functor` a body mark, and `if` a weak mark, unless it
-- directly follows `else`
after before role.Cases next ms = mark.Case ∷ ms
after before role.Body next ms = mark.Body ∷ ms
after before role.If next ms = if is_else before then ms else mark.Weak ∷ ms
-- 7: a Prefix, and a `-` or `-.` that does not directly follow an ender, push a weak mark if the next token is again
-- one of these, `let` or a keyword of rule 6
after before role.Prefix next ms = if is_signed next then mark.Weak ∷ ms else ms
after before role.Minus next ms = if not (is_ender before) && is_signed next then mark.Weak ∷ ms else ms
-- 8: `;` removes the weak marks at the end of the stack
after before role.Semicolon next ms = down_to is_no_weak ms
-- 9: `|` removes the marks after the last case mark, if it is after the last bracket mark
after before role.Bar next ms = where_last is_case (down_to is_case_or_bracket ms) ms
-- 10: `and` removes the marks after the last let or bracket mark
after before role.And next ms = down_to is_let_or_bracket ms
-- 11: every other token changes nothing
after before _ next ms = ms

-- ---- the tokens of a file

abbrev pub role_at : List Token → ℕ → Role
role_at ts at = first_role (from ts at)

abbrev pub role_before : List Token → ℕ → Role
role_before ts zero = role.Nothing
role_before ts (suc at) = role_at ts at

-- the marks after the first n tokens
unfoldable pub marks : List Token → ℕ → List Mark
marks ts zero = []
marks ts (suc n) = after (role_before ts n) (role_at ts n) (role_at ts (suc n)) (marks ts n)

abbrev pub nesting : List Token → ℕ → ℕ
nesting ts n = length (marks ts n)

-- the nth token, from 1, is the first after which the nesting is over 256
pub record IsFirstDeep (ts : List Token) (n : ℕ) : Type 0 where
  pub there : n ≤ length ts
  pub over : max_nesting < nesting ts n
  pub first : (k : ℕ) → k < n → nesting ts k ≤ max_nesting

-- the first token after which the nesting is over 256, or there is no such token
abbrev pub DeepIs : List Token → Option ℕ → Type 0
DeepIs ts None = (k : ℕ) → k ≤ length ts → nesting ts k ≤ max_nesting
DeepIs ts (Some n) = IsFirstDeep ts n
