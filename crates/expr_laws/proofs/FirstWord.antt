-- The first word of an expression.
use Rattle.std.proofs.Common.{◌≡◌, ◌≢◌, ℕ, ◌<◌, List, [], ◌∷◌, Bool, true, false, refl, arith}
use Rattle.rotor_base.specs.declared.token.Class.{Class}
use Rattle.rotor_base.specs.declared.token.Class.TheVariants as class
use Rattle.ml_trees.specs.declared.fixed.Fixed.TheVariants as key
use Rattle.ml_trees.specs.declared.word.Bracket.{Bracket}
use Rattle.ml_trees.specs.declared.word.Bracket.TheVariants as bracket
use Rattle.ml_trees.specs.Tok.{Name, Tok, fixed, placed, word}
use Rattle.ml_trees.proofs.Words.{opening, truth, dotted_then, path_then, qualified_then, name_then, optional_then, expr_then, links_then}
use Rattle.ml_trees.proofs.Words.{arguments_then, parts_then}
use Rattle.ml_trees.specs.WellFormed.{Wf, level, is_operator, is_literal}
use Rattle.ml_trees.specs.Tree.{ValueName, PlainName, OperatorName, Expr, Seq, Let, LetOpen, LetModule, Fun, Function, Match, Try, If, Chain, Minus}
use Rattle.ml_trees.specs.Tree.{Apply, ConstrApply, TagApply, Assert, Lazy, Postfix, Prefixed, Literal, BoolExpr, Value, Constr, Tag, UnitExpr}
use Rattle.ml_trees.specs.Tree.{Paren, Typed, Coerced, EmptyBegin, Begin, EmptyList, ListExpr, Record, Opened, While, For}

-- words that can begin a Postfix
abbrev pub begins_postfix : Tok → Bool
begins_postfix (placed key.True at) = true
begins_postfix (placed key.False at) = true
begins_postfix (placed key.LeftParen at) = true
begins_postfix (placed key.LeftBracket at) = true
begins_postfix (placed key.LeftArray at) = true
begins_postfix (placed key.LeftBrace at) = true
begins_postfix (placed key.Begin at) = true
begins_postfix (placed key.While at) = true
begins_postfix (placed key.For at) = true
begins_postfix (word class.Int x) = true
begins_postfix (word class.Float x) = true
begins_postfix (word class.Char x) = true
begins_postfix (word class.Text x) = true
begins_postfix (word class.Quoted x) = true
begins_postfix (word class.Lower x) = true
begins_postfix (word class.Upper x) = true
begins_postfix (word class.Tag x) = true
begins_postfix (word class.Prefix x) = true
begins_postfix _ = false

-- words that can begin an expression
abbrev pub begins_expr : Tok → Bool
begins_expr (placed key.Let at) = true
begins_expr (placed key.Fun at) = true
begins_expr (placed key.Function at) = true
begins_expr (placed key.Match at) = true
begins_expr (placed key.Try at) = true
begins_expr (placed key.If at) = true
begins_expr (placed key.Assert at) = true
begins_expr (placed key.Lazy at) = true
begins_expr (word class.Infix x) = true
begins_expr t = begins_postfix t

-- the first word begins an expression; if it is an operator, the word behind it begins one too
pub record Begins (ts : List Tok) : Type 0 where
  pub first : Tok
  pub rest : List Tok
  pub is : ts ≡ first ∷ rest
  pub begins : begins_expr first ≡ true
  pub behind : is_operator first ≡ true → (t : Tok) × (r : List Tok) × (rest ≡ t ∷ r) × (begins_expr t ≡ true)

no_operator : (t : Tok) (rest : List Tok) → is_operator t ≡ false → is_operator t ≡ true → (u : Tok) × (r : List Tok) × (rest ≡ u ∷ r)
    × (begins_expr u ≡ true)
no_operator t rest e h = absurd cc

begun : (t : Tok) (rest : List Tok) → begins_expr t ≡ true → is_operator t ≡ false → Begins (t ∷ rest)
begun t rest b o = record { first = t; rest = rest; is = refl; begins = b; behind = no_operator t rest o }

-- an operator before an expression
led : (t : Tok) (ts : List Tok) → begins_expr t ≡ true → Begins ts → Begins (t ∷ ts)
led t ts b g = record { first = t; rest = ts; is = refl; begins = b; behind = λ _. (g.first, g.rest, g.is, g.begins) }

path_begins : (path : List Name) (k : List Tok) → path ≢ [] → Begins (path_then path k)
path_begins [] k h = absurd (h refl)
path_begins (x ∷ xs) k h = begun (word class.Upper x) (dotted_then xs k) refl refl

name_begins : (x : ValueName) (k : List Tok) → Begins (name_then x k)
name_begins (PlainName x) k = begun (word class.Lower x) k refl refl
name_begins (OperatorName at t) k = begun (placed key.LeftParen at) _ refl refl

value_begins : (path : List Name) (x : ValueName) (k : List Tok) → Begins (qualified_then path (name_then x k))
value_begins [] x k = name_begins x k
value_begins (y ∷ ys) x k = begun (word class.Upper y) _ refl refl

literal_begins : (c : Class) (x : Name) (k : List Tok) → is_literal c ≡ true → Begins (word c x ∷ k)
literal_begins class.Int x k h = begun (word class.Int x) k refl refl
literal_begins class.Float x k h = begun (word class.Float x) k refl refl
literal_begins class.Char x k h = begun (word class.Char x) k refl refl
literal_begins class.Text x k h = begun (word class.Text x) k refl refl
literal_begins class.Quoted x k h = begun (word class.Quoted x) k refl refl
literal_begins class.Lower x k h = absurd cc
literal_begins class.Upper x k h = absurd cc
literal_begins class.Keyword x k h = absurd cc
literal_begins class.TypeVar x k h = absurd cc
literal_begins class.Tag x k h = absurd cc
literal_begins class.Label x k h = absurd cc
literal_begins class.Prefix x k h = absurd cc
literal_begins class.Infix x k h = absurd cc
literal_begins class.Mark x k h = absurd cc

bool_begins : (at : ℕ) (b : Bool) (k : List Tok) → Begins (placed (truth b) at ∷ k)
bool_begins at true k = begun (placed key.True at) k refl refl
bool_begins at false k = begun (placed key.False at) k refl refl

bracket_begins : (at : ℕ) (b : Bracket) (k : List Tok) → Begins (placed (opening b) at ∷ k)
bracket_begins at bracket.List k = begun (placed key.LeftBracket at) k refl refl
bracket_begins at bracket.Array k = begun (placed key.LeftArray at) k refl refl

pub expr_begins : (e : Expr) (k : List Tok) → Wf e → Begins (expr_then e k)
expr_begins (Seq e es last) k w = expr_begins e (links_then es (optional_then key.Semicolon last k)) w.1
expr_begins (Let at rec b bs e) k w = begun (placed key.Let at) _ refl refl
expr_begins (LetOpen at at' bang path e) k w = begun (placed key.Let at) _ refl refl
expr_begins (LetModule at at' x eq m e) k w = begun (placed key.Let at) _ refl refl
expr_begins (Fun at ps e) k w = begun (placed key.Fun at) _ refl refl
expr_begins (Function at bar c cs) k w = begun (placed key.Function at) _ refl refl
expr_begins (Match at e bar c cs) k w = begun (placed key.Match at) _ refl refl
expr_begins (Try at e bar c cs) k w = begun (placed key.Try at) _ refl refl
expr_begins (If at c a tail) k w = begun (placed key.If at) _ refl refl
expr_begins (Chain n e es) k w = expr_begins e (links_then es k) w.4
expr_begins (Minus x e) k w = led (word class.Infix x) (expr_then e k) refl (expr_begins e k w.2)
expr_begins (Apply f es) k w = expr_begins f (arguments_then es k) w.2
expr_begins (ConstrApply path e) k w = path_begins path (expr_then e k) w.0
expr_begins (TagApply x e) k w = begun (word class.Tag x) _ refl refl
expr_begins (Assert at e) k w = begun (placed key.Assert at) _ refl refl
expr_begins (Lazy at e) k w = begun (placed key.Lazy at) _ refl refl
expr_begins (Postfix e ps) k w = expr_begins e (parts_then ps k) w.2
expr_begins (Prefixed x e) k w = led (word class.Prefix x) (expr_then e k) refl (expr_begins e k w.1)
expr_begins (Literal c x) k w = literal_begins c x k w
expr_begins (BoolExpr at b) k w = bool_begins at b k
expr_begins (Value path x) k w = value_begins path x k
expr_begins (Constr path) k w = path_begins path k w
expr_begins (Tag x) k w = begun (word class.Tag x) _ refl refl
expr_begins (UnitExpr at) k w = begun (placed key.LeftParen at) _ refl refl
expr_begins (Paren at e) k w = begun (placed key.LeftParen at) _ refl refl
expr_begins (Typed at e run) k w = begun (placed key.LeftParen at) _ refl refl
expr_begins (Coerced at e from to) k w = begun (placed key.LeftParen at) _ refl refl
expr_begins (EmptyBegin at) k w = begun (placed key.Begin at) _ refl refl
expr_begins (Begin at e) k w = begun (placed key.Begin at) _ refl refl
expr_begins (EmptyList at b) k w = bracket_begins at b _
expr_begins (ListExpr at b e es last) k w = bracket_begins at b _
expr_begins (Record at base f fs last) k w = begun (placed key.LeftBrace at) _ refl refl
expr_begins (Opened path e) k w = path_begins path (fixed key.Dot ∷ expr_then e k) w.0
expr_begins (While at c e) k w = begun (placed key.While at) _ refl refl
expr_begins (For at x eq a down b e) k w = begun (placed key.For at) _ refl refl

-- a first word that begins a Postfix
pub record Starts (ts : List Tok) : Type 0 where
  pub first : Tok
  pub rest : List Tok
  pub is : ts ≡ first ∷ rest
  pub starts : begins_postfix first ≡ true

start : (t : Tok) (rest : List Tok) → begins_postfix t ≡ true → Starts (t ∷ rest)
start t rest b = record { first = t; rest = rest; is = refl; starts = b }

path_starts : (path : List Name) (k : List Tok) → path ≢ [] → Starts (path_then path k)
path_starts [] k h = absurd (h refl)
path_starts (x ∷ xs) k h = start (word class.Upper x) (dotted_then xs k) refl

value_starts : (path : List Name) (x : ValueName) (k : List Tok) → Starts (qualified_then path (name_then x k))
value_starts [] (PlainName x) k = start (word class.Lower x) k refl
value_starts [] (OperatorName at t) k = start (placed key.LeftParen at) _ refl
value_starts (y ∷ ys) x k = start (word class.Upper y) _ refl

literal_starts : (c : Class) (x : Name) (k : List Tok) → is_literal c ≡ true → Starts (word c x ∷ k)
literal_starts class.Int x k h = start (word class.Int x) k refl
literal_starts class.Float x k h = start (word class.Float x) k refl
literal_starts class.Char x k h = start (word class.Char x) k refl
literal_starts class.Text x k h = start (word class.Text x) k refl
literal_starts class.Quoted x k h = start (word class.Quoted x) k refl
literal_starts class.Lower x k h = absurd cc
literal_starts class.Upper x k h = absurd cc
literal_starts class.Keyword x k h = absurd cc
literal_starts class.TypeVar x k h = absurd cc
literal_starts class.Tag x k h = absurd cc
literal_starts class.Label x k h = absurd cc
literal_starts class.Prefix x k h = absurd cc
literal_starts class.Infix x k h = absurd cc
literal_starts class.Mark x k h = absurd cc

bool_starts : (at : ℕ) (b : Bool) (k : List Tok) → Starts (placed (truth b) at ∷ k)
bool_starts at true k = start (placed key.True at) k refl
bool_starts at false k = start (placed key.False at) k refl

bracket_starts : (at : ℕ) (b : Bracket) (k : List Tok) → Starts (placed (opening b) at ∷ k)
bracket_starts at bracket.List k = start (placed key.LeftBracket at) k refl
bracket_starts at bracket.Array k = start (placed key.LeftArray at) k refl

-- an application, but for `assert` and `lazy`, and what it is made of
abbrev pub is_led : Expr → Bool
is_led (Assert at e) = true
is_led (Lazy at e) = true
is_led _ = false

pub high_plain : (e : Expr) → 14 < level e → is_led e ≡ false
high_plain (Seq e es last) h = refl
high_plain (Let at rec b bs e) h = refl
high_plain (LetOpen at at' bang path e) h = refl
high_plain (LetModule at at' x eq m e) h = refl
high_plain (Fun at ps e) h = refl
high_plain (Function at bar c cs) h = refl
high_plain (Match at e bar c cs) h = refl
high_plain (Try at e bar c cs) h = refl
high_plain (If at c a tail) h = refl
high_plain (Chain n e es) h = refl
high_plain (Minus x e) h = refl
high_plain (Apply f es) h = refl
high_plain (ConstrApply path e) h = refl
high_plain (TagApply x e) h = refl
high_plain (Assert at e) h = absurd (omega (arith, h))
high_plain (Lazy at e) h = absurd (omega (arith, h))
high_plain (Postfix e ps) h = refl
high_plain (Prefixed x e) h = refl
high_plain (Literal c x) h = refl
high_plain (BoolExpr at b) h = refl
high_plain (Value path x) h = refl
high_plain (Constr path) h = refl
high_plain (Tag x) h = refl
high_plain (UnitExpr at) h = refl
high_plain (Paren at e) h = refl
high_plain (Typed at e run) h = refl
high_plain (Coerced at e from to) h = refl
high_plain (EmptyBegin at) h = refl
high_plain (Begin at e) h = refl
high_plain (EmptyList at b) h = refl
high_plain (ListExpr at b e es last) h = refl
high_plain (Record at base f fs last) h = refl
high_plain (Opened path e) h = refl
high_plain (While at c e) h = refl
high_plain (For at x eq a down b e) h = refl

pub expr_starts : (e : Expr) (k : List Tok) → 13 < level e → is_led e ≡ false → Wf e → Starts (expr_then e k)
expr_starts (Seq e es last) k h p w = absurd (omega (arith, h))
expr_starts (Let at rec b bs e) k h p w = absurd (omega (arith, h))
expr_starts (LetOpen at at' bang path e) k h p w = absurd (omega (arith, h))
expr_starts (LetModule at at' x eq m e) k h p w = absurd (omega (arith, h))
expr_starts (Fun at ps e) k h p w = absurd (omega (arith, h))
expr_starts (Function at bar c cs) k h p w = absurd (omega (arith, h))
expr_starts (Match at e bar c cs) k h p w = absurd (omega (arith, h))
expr_starts (Try at e bar c cs) k h p w = absurd (omega (arith, h))
expr_starts (If at c a tail) k h p w = absurd (omega (arith, h))
expr_starts (Chain n e es) k h p w = absurd (omega (arith, h, w.1))
expr_starts (Minus x e) k h p w = absurd (omega (arith, h))
expr_starts (Apply f es) k h p w = expr_starts f (arguments_then es k) (omega (arith, w.0)) (high_plain f w.0) w.2
expr_starts (ConstrApply path e) k h p w = path_starts path (expr_then e k) w.0
expr_starts (TagApply x e) k h p w = start (word class.Tag x) _ refl
expr_starts (Assert at e) k h p w = absurd cc
expr_starts (Lazy at e) k h p w = absurd cc
expr_starts (Postfix e ps) k h p w = expr_starts e (parts_then ps k) (omega (arith, w.0)) (high_plain e (omega (arith, w.0))) w.2
expr_starts (Prefixed x e) k h p w = start (word class.Prefix x) _ refl
expr_starts (Literal c x) k h p w = literal_starts c x k w
expr_starts (BoolExpr at b) k h p w = bool_starts at b k
expr_starts (Value path x) k h p w = value_starts path x k
expr_starts (Constr path) k h p w = path_starts path k w
expr_starts (Tag x) k h p w = start (word class.Tag x) _ refl
expr_starts (UnitExpr at) k h p w = start (placed key.LeftParen at) _ refl
expr_starts (Paren at e) k h p w = start (placed key.LeftParen at) _ refl
expr_starts (Typed at e run) k h p w = start (placed key.LeftParen at) _ refl
expr_starts (Coerced at e from to) k h p w = start (placed key.LeftParen at) _ refl
expr_starts (EmptyBegin at) k h p w = start (placed key.Begin at) _ refl
expr_starts (Begin at e) k h p w = start (placed key.Begin at) _ refl
expr_starts (EmptyList at b) k h p w = bracket_starts at b _
expr_starts (ListExpr at b e es last) k h p w = bracket_starts at b _
expr_starts (Record at base f fs last) k h p w = start (placed key.LeftBrace at) _ refl
expr_starts (Opened path e) k h p w = path_starts path (fixed key.Dot ∷ expr_then e k) w.0
expr_starts (While at c e) k h p w = start (placed key.While at) _ refl
expr_starts (For at x eq a down b e) k h p w = start (placed key.For at) _ refl
