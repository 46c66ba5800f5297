-- Reading expressions (the OCaml manual, "Expressions").
use Rattle.std.specs.Prelude.{ℕ, zero, suc, ◌-◌, List, [], ◌∷◌, Bool, true, false, not, ◌&&◌, if◌then◌else◌, ◌==◌, Option, Some, None, codes}
use Rattle.std.specs.Str.{bytes_eq}
use Rattle.rotor_base.specs.declared.token.Class.TheVariants as class
use Rattle.ml_trees.specs.declared.fixed.Fixed.TheVariants as key
use Rattle.ml_trees.specs.declared.word.Bracket.{Bracket}
use Rattle.ml_trees.specs.declared.word.Bracket.TheVariants as bracket
use Rattle.ml_trees.specs.Tok.{Name, Tok, fixed, placed, word}
use Rattle.ml_trees.specs.Runs.{has_colon, is_optional}
use Rattle.ml_trees.specs.Events.{closing}
use Rattle.ml_trees.specs.WellFormed.{is_literal, is_minus, is_operator, op_level, on_edge, on_body, is_form, is_if, is_open_if, has_cases}
use Rattle.ml_trees.specs.WellFormed.{is_postfix, is_bare, is_constr}
use Rattle.ml_trees.specs.Tree.{ValueName, PlainName, OperatorName, Pat, Variable, PlainVariable, AnyVariable, LocalModule, LocalPath}
use Rattle.ml_trees.specs.Tree.{LocalArguments, no_local, more_local, no_module, Expr, Seq, Let, LetOpen, LetModule, Fun, Function, Match, Try, If}
use Rattle.ml_trees.specs.Tree.{Chain, Minus, Apply, ConstrApply, TagApply, Assert, Lazy, Postfix, Prefixed, Literal, BoolExpr, Value, Constr, Tag}
use Rattle.ml_trees.specs.Tree.{UnitExpr, Paren, Typed, Coerced, EmptyBegin, Begin, EmptyList, ListExpr, Record, Opened, While, For, Links, no_link}
use Rattle.ml_trees.specs.Tree.{more_link, MaybeExpr, no_expr, some_expr, Tail, no_else, or_else, or_if, Binding, PlainBinding, AppliedBinding}
use Rattle.ml_trees.specs.Tree.{Bindings, no_binding, more_binding, Case, CaseOf, Cases, no_case, more_case, Argument, Positional, LabelPun}
use Rattle.ml_trees.specs.Tree.{Labelled, Arguments, no_argument, more_argument, Param, PatternParam, LabelParam, LabelPattern, DefaultParam}
use Rattle.ml_trees.specs.Tree.{WrappedParam, WrappedDefault, TypesParam, Params, no_param, more_param, Part, LabelPart, IndexPart, CharPart, Parts}
use Rattle.ml_trees.specs.Tree.{no_part, more_part, Field, FieldPun, AssignedField, Fields, no_field, more_field}
use Rattle.token_reading.specs.Steps.{Read, ◌>>=◌, expect, expect_at, many, many_if, always}
use Rattle.token_reading.specs.Pieces.{more_uppers, qualifiers, lower_word, value_name, type_run, optional_type}
use Rattle.token_reading.specs.PatReading.{simple_pat, read_pat, last_semicolon}
pub use Rattle.expr_reading.specs.declared.wanted.Wanted.{Wanted}
pub use Rattle.expr_reading.specs.declared.wanted.Wanted.TheVariants as wanted

-- ---- what may follow

-- an operator or a `,` may follow
abbrev pub is_calm : Expr → Bool
is_calm e = not (on_edge is_form e) && not (on_edge is_if e)

-- a `;` may follow
abbrev pub no_form : Expr → Bool
no_form e = not (on_edge is_form e)

-- an `else` may follow
abbrev pub no_open_if : Expr → Bool
no_open_if e = not (on_edge is_open_if e)

-- a case may follow
abbrev pub no_cases : Case → Bool
no_cases c = not (on_body has_cases c)

-- a field may follow
abbrev pub ends_field : Field → Bool
ends_field (FieldPun path x run) = true
ends_field (AssignedField path x run at e) = no_form e

-- a `<-` follows a Postfix with a part alone
abbrev pub may_follow : Expr → List Tok → Bool
may_follow e (fixed key.LeftArrow ∷ ts) = is_postfix e
may_follow e ts = true

-- the operator that begins these tokens may follow
abbrev pub goes_on : Expr → List Tok → Bool
goes_on e ts = is_calm e && may_follow e ts

-- ---- what is read, put together

abbrev pub grown_chain : ℕ → Expr → Links → Expr
grown_chain n e no_link = e
grown_chain n e (more_link t e' es) = Chain n e (more_link t e' es)

abbrev pub grown_seq : Expr → Links → Bool → Expr
grown_seq e no_link false = e
grown_seq e no_link true = Seq e no_link true
grown_seq e (more_link t e' es) last = Seq e (more_link t e' es) last

abbrev pub grown_apply : Expr → Arguments → Expr
grown_apply f no_argument = f
grown_apply f (more_argument a es) = Apply f (more_argument a es)

abbrev pub grown_postfix : Expr → Parts → Expr
grown_postfix e no_part = e
grown_postfix e (more_part p ps) = Postfix e (more_part p ps)

-- an expression behind a `;`
abbrev pub cons_link : Tok × Expr → Links → Links
cons_link x es = more_link x.0 x.1 es

-- an operator, its operand, and whether more may follow
abbrev pub cons_operand : Tok × Expr × Bool → Links → Links
cons_operand x es = more_link x.0 x.1 es

abbrev pub last_of : Expr → Links → Expr
last_of e no_link = e
last_of e (more_link t e' es) = last_of e' es

abbrev pub last_field : Field → Fields → Field
last_field f no_field = f
last_field f (more_field f' fs) = last_field f' fs

-- what follows an `else`
pub data Otherwise : Type 0 where
  last_branch : Expr → Otherwise
  if_branch : ℕ → Expr → Expr → Otherwise

abbrev pub cons_branch : Otherwise → Tail → Tail
cons_branch (last_branch e) tail = or_else e
cons_branch (if_branch at c a) tail = or_if at c a tail

abbrev pub branch_ends : Otherwise → Bool
branch_ends (last_branch e) = false
branch_ends (if_branch at c a) = no_open_if a

-- what is between the parentheses after a module path
pub data LocalPart : Type 0 where
  given_module : ℕ → LocalModule → LocalPart
  given_none : ℕ → LocalPart

abbrev pub cons_local : LocalPart → LocalArguments → LocalArguments
cons_local (given_module at m) ms = more_local at m ms
cons_local (given_none at) ms = no_module at ms

-- an expression in brackets, or a name, behind a module path and a `.`
abbrev pub qualified : List Name → Expr → List Tok → Option (Expr × List Tok)
qualified path (Value [] x) r = Some (Value path x, r)
qualified path (UnitExpr at) r = Some (Opened path (UnitExpr at), r)
qualified path (Paren at e) r = Some (Opened path (Paren at e), r)
qualified path (EmptyList at b) r = Some (Opened path (EmptyList at b), r)
qualified path (ListExpr at b e es last) r = Some (Opened path (ListExpr at b e es last), r)
qualified path (Record at base f fs last) r = Some (Opened path (Record at base f fs last), r)
qualified path _ r = None

abbrev pub opened_or : List Name → List Tok → Option (Expr × List Tok) → Expr × List Tok
opened_or path ts None = (Constr path, ts)
opened_or path ts (Some x) = x

-- a constructor or a tag with what is behind it, if there is something
abbrev pub constr_applied : Expr → List Tok → Option (Expr × List Tok) → Expr × List Tok
constr_applied (Constr path) ts (Some x) = (ConstrApply path x.0, x.1)
constr_applied (Tag y) ts (Some x) = (TagApply y x.0, x.1)
constr_applied f ts o = (f, ts)

-- ---- small parts

-- a last `;` that may follow
abbrev pub semicolon_if : Bool → List Tok → Bool × List Tok
semicolon_if b ts = if b then last_semicolon ts else (false, ts)

-- an optional `|` before the first case
abbrev pub first_bar : List Tok → Bool × List Tok
first_bar (fixed key.Bar ∷ ts) = (true, ts)
first_bar ts = (false, ts)

abbrev pub optional_bang : List Tok → Option Name × List Tok
optional_bang (word class.Prefix x ∷ ts) = if bytes_eq x.text (codes "!") then (Some x, ts) else (None, word class.Prefix x ∷ ts)
optional_bang ts = (None, ts)

-- a module path
abbrev pub upper_path : ℕ → Read (List Name)
upper_path n (word class.Upper x ∷ ts) = Some (x ∷ (more_uppers n ts).0, (more_uppers n ts).1)
upper_path n _ = None

abbrev pub for_variable : Read Variable
for_variable (word class.Lower x ∷ ts) = Some (PlainVariable x, ts)
for_variable (placed key.Underscore at ∷ ts) = Some (AnyVariable at, ts)
for_variable _ = None

-- whether it is `downto`
abbrev pub for_direction : Read Bool
for_direction (fixed key.To ∷ ts) = Some (false, ts)
for_direction (fixed key.Downto ∷ ts) = Some (true, ts)
for_direction _ = None

-- after a `(`, an expression and a `:` with a type
abbrev pub typed_by : ℕ → Expr → List Tok → Read Expr
typed_by at e run (fixed key.RightParen ∷ r) = Some (Typed at e run, r)
typed_by at e run (fixed key.ColonGreater ∷ r) = type_run r >>= λ x. expect key.RightParen x.1 >>= λ r'. Some (Coerced at e (Some run) x.0, r')
typed_by at e run _ = None

-- after a `(` and an expression
abbrev pub closed_by : ℕ → Expr → Read Expr
closed_by at e (fixed key.RightParen ∷ r) = Some (Paren at e, r)
closed_by at e (fixed key.Colon ∷ r) = type_run r >>= λ x. typed_by at e x.0 x.1
closed_by at e (fixed key.ColonGreater ∷ r) = type_run r >>= λ x. expect key.RightParen x.1 >>= λ r'. Some (Coerced at e None x.0, r')
closed_by at e _ = None

-- ---- modules after `let module`

abbrev pub local_part : Read LocalModule → Read LocalPart
local_part sub (placed key.LeftParen at ∷ fixed key.RightParen ∷ ts) = Some (given_none at, ts)
local_part sub (placed key.LeftParen at ∷ ts) = sub ts >>= λ m. expect key.RightParen m.1 >>= λ r. Some (given_module at m.0, r)
local_part sub _ = None

abbrev pub local_parts : Read LocalModule → ℕ → List Tok → LocalArguments × List Tok
local_parts sub n ts = many no_local cons_local always (local_part sub) n ts

unfoldable pub local_module : Read LocalModule → ℕ → Read LocalModule
local_module sub n ts = upper_path n ts >>= λ p. Some (LocalPath p.0 (local_parts sub n p.1).0, (local_parts sub n p.1).1)

unfoldable pub read_local : ℕ → Read LocalModule
read_local zero ts = None
read_local (suc n) ts = local_module (read_local n) n ts

-- ---- expressions

abbrev pub simple_at : ℕ → Read Pat
simple_at n = simple_pat (read_pat n) n

module _ (sub : Wanted → Read Expr) (n : ℕ) where
  -- ---- expressions between `;`

  abbrev pub semicolon_part : Read Expr → Read (Tok × Expr)
  semicolon_part one ts = expect key.Semicolon ts >>= λ r. one r >>= λ x. Some ((fixed key.Semicolon, x.0), x.1)

  abbrev pub row : Read Expr → (Expr → Links → Bool → Expr) → Read Expr
  row one grown ts = do
    e ← one ts
    let more = many_if (no_form e.0) no_link cons_link (λ x. no_form x.1) (semicolon_part one) n e.1
    let last = semicolon_if (no_form (last_of e.0 more.0)) more.1
    Some (grown e.0 more.0 last.0, last.1)

  -- ---- brackets

  -- after a `(`
  unfoldable pub paren_expr : ℕ → Read Expr
  paren_expr at (fixed key.RightParen ∷ ts) = Some (UnitExpr at, ts)
  paren_expr at (t ∷ fixed key.RightParen ∷ ts) = if is_operator t then Some (Value [] (OperatorName at t), ts) else
      (sub wanted.Sequence (t ∷ fixed key.RightParen ∷ ts) >>= λ e. closed_by at e.0 e.1)
  paren_expr at ts = sub wanted.Sequence ts >>= λ e. closed_by at e.0 e.1

  -- after a `begin`
  unfoldable pub begin_expr : ℕ → Read Expr
  begin_expr at (fixed key.End ∷ ts) = Some (EmptyBegin at, ts)
  begin_expr at ts = sub wanted.Sequence ts >>= λ e. expect key.End e.1 >>= λ r. Some (Begin at e.0, r)

  abbrev pub list_expr : ℕ → Bracket → Read Expr
  list_expr at b ts = row (sub wanted.Expression) (ListExpr at b) ts >>= λ e. expect (closing b) e.1 >>= λ r. Some (e.0, r)

  -- after a `[` or `[|`
  unfoldable pub bracket_expr : ℕ → Bracket → Read Expr
  bracket_expr at bracket.List (fixed key.RightBracket ∷ ts) = Some (EmptyList at bracket.List, ts)
  bracket_expr at bracket.Array (fixed key.RightArray ∷ ts) = Some (EmptyList at bracket.Array, ts)
  bracket_expr at b ts = list_expr at b ts

  -- ---- records

  -- an `=` and an expression may follow a field
  abbrev pub equals_expr : List Tok → Option (ℕ × Expr × List Tok)
  equals_expr ts = do
    q ← expect_at key.Equals ts
    e ← sub wanted.Expression q.1
    Some (q.0, e.0, e.1)

  abbrev pub assigned_or : List Name → Name → Option (List Tok) → List Tok → Option (ℕ × Expr × List Tok) → Field × List Tok
  assigned_or path x run ts None = (FieldPun path x run, ts)
  assigned_or path x run ts (Some y) = (AssignedField path x run y.0 y.1, y.2)

  unfoldable pub field_expr : Read Field
  field_expr ts = do
    let path = qualifiers n ts
    x ← lower_word path.1
    let run = optional_type x.1
    Some (assigned_or path.0 x.0 run.0 run.1 (equals_expr run.1))

  abbrev pub next_field : Read Field
  next_field ts = expect key.Semicolon ts >>= field_expr

  -- an optional Postfix and `with` before the fields
  abbrev pub base_or : List Tok → Option (Expr × List Tok) → MaybeExpr × List Tok
  base_or ts None = (no_expr, ts)
  base_or ts (Some x) = (some_expr x.0, x.1)

  abbrev pub base_part : List Tok → MaybeExpr × List Tok
  base_part ts = base_or ts (sub wanted.Postfix ts >>= λ e. expect key.With e.1 >>= λ r. Some (e.0, r))

  abbrev pub record_end : ℕ → MaybeExpr → Field → Fields × List Tok → Option (Expr × List Tok)
  record_end at base f more = do
    let last = semicolon_if (ends_field (last_field f more.0)) more.1
    r ← expect key.RightBrace last.1
    Some (Record at base f more.0 last.0, r)

  -- after a `{`
  unfoldable pub brace_expr : ℕ → Read Expr
  brace_expr at ts = field_expr (base_part ts).1 >>= λ f. record_end at (base_part ts).0 f.0
      (many_if (ends_field f.0) no_field more_field ends_field next_field n f.1)

  -- ---- loops

  unfoldable pub while_expr : ℕ → Read Expr
  while_expr at ts = do
    c ← sub wanted.Sequence ts
    r ← expect key.Do c.1
    e ← sub wanted.Sequence r
    r ← expect key.Done e.1
    Some (While at c.0 e.0, r)

  unfoldable pub for_expr : ℕ → Read Expr
  for_expr at ts = do
    x ← for_variable ts
    q ← expect_at key.Equals x.1
    a ← sub wanted.Sequence q.1
    d ← for_direction a.1
    b ← sub wanted.Sequence d.1
    r ← expect key.Do b.1
    e ← sub wanted.Sequence r
    r ← expect key.Done e.1
    Some (For at x.0 q.0 a.0 d.0 b.0 e.0, r)

  -- ---- atoms

  -- what may follow a module path and a `.` too
  unfoldable pub enclosed : Read Expr
  enclosed (word class.Lower x ∷ ts) = Some (Value [] (PlainName x), ts)
  enclosed (placed key.LeftParen at ∷ ts) = paren_expr at ts
  enclosed (placed key.LeftBracket at ∷ ts) = bracket_expr at bracket.List ts
  enclosed (placed key.LeftArray at ∷ ts) = bracket_expr at bracket.Array ts
  enclosed (placed key.LeftBrace at ∷ ts) = brace_expr at ts
  enclosed _ = None

  abbrev pub opened_part : List Name → Read Expr
  opened_part path (fixed key.Dot ∷ ts) = enclosed ts >>= λ e. qualified path e.0 e.1
  opened_part path _ = None

  -- after the name of a module or constructor
  unfoldable pub upper_expr : Name → Read Expr
  upper_expr x ts =
      let more = more_uppers n ts in
      Some (opened_or (x ∷ more.0) more.1 (opened_part (x ∷ more.0) more.1))

  unfoldable pub atom : Read Expr
  atom (placed key.True at ∷ ts) = Some (BoolExpr at true, ts)
  atom (placed key.False at ∷ ts) = Some (BoolExpr at false, ts)
  atom (placed key.Begin at ∷ ts) = begin_expr at ts
  atom (placed key.While at ∷ ts) = while_expr at ts
  atom (placed key.For at ∷ ts) = for_expr at ts
  atom (word class.Upper x ∷ ts) = upper_expr x ts
  atom (word class.Tag x ∷ ts) = Some (Tag x, ts)
  atom (word c x ∷ ts) = if is_literal c then Some (Literal c x, ts) else enclosed (word c x ∷ ts)
  atom ts = enclosed ts

  unfoldable pub prefixed : Read Expr
  prefixed (word class.Prefix x ∷ ts) = sub wanted.Prefixed ts >>= λ e. Some (Prefixed x e.0, e.1)
  prefixed ts = atom ts

  -- ---- parts behind a `.`

  abbrev pub label_part : Read Part
  label_part ts = do
    let path = qualifiers n ts
    x ← lower_word path.1
    Some (LabelPart path.0 x.0, x.1)

  unfoldable pub part_behind : Read Part
  part_behind (fixed key.Dot ∷ placed key.LeftParen at ∷ ts) = sub wanted.Sequence ts >>= λ e. expect key.RightParen e.1 >>= λ r. Some
      (IndexPart at e.0, r)
  part_behind (fixed key.Dot ∷ placed key.LeftBracket at ∷ ts) = sub wanted.Sequence ts >>= λ e. expect key.RightBracket e.1 >>= λ r. Some
      (CharPart at e.0, r)
  part_behind (fixed key.Dot ∷ ts) = label_part ts
  part_behind _ = None

  unfoldable pub postfix : Read Expr
  postfix ts = do
    e ← prefixed ts
    let more = many_if (not (is_constr e.0)) no_part more_part always part_behind n e.1
    Some (grown_postfix e.0 more.0, more.1)

  -- ---- applications

  unfoldable pub argument : Read Argument
  argument (word class.Label x ∷ ts) = if has_colon x.text then (postfix ts >>= λ e. Some (Labelled x e.0, e.1)) else Some (LabelPun x, ts)
  argument ts = postfix ts >>= λ e. Some (Positional e.0, e.1)

  abbrev pub more_arguments : List Tok → Arguments × List Tok
  more_arguments ts = many no_argument more_argument always argument n ts

  abbrev pub applied : Expr → List Tok → Expr × List Tok
  applied f ts = if is_bare f then constr_applied f ts (postfix ts) else (grown_apply f (more_arguments ts).0, (more_arguments ts).1)

  unfoldable pub apply : Read Expr
  apply (placed key.Assert at ∷ ts) = postfix ts >>= λ e. Some (Assert at e.0, e.1)
  apply (placed key.Lazy at ∷ ts) = postfix ts >>= λ e. Some (Lazy at e.0, e.1)
  apply ts = postfix ts >>= λ f. Some (applied f.0 f.1)

  -- ---- parameters

  -- after `?l:`: `(`, a pattern, its type, `=` and a default value
  unfoldable pub default_param : Name → Read Param
  default_param x (placed key.LeftParen at ∷ ts) = do
    p ← read_pat n ts
    let run = optional_type p.1
    q ← expect_at key.Equals run.1
    e ← sub wanted.Expression q.1
    r ← expect key.RightParen e.1
    Some (DefaultParam x at p.0 run.0 q.0 e.0, r)
  default_param x _ = None

  abbrev pub default_if : Bool → Name → Read Param
  default_if b x ts = if b then default_param x ts else None

  -- a Simple, or else a default value
  abbrev pub pattern_or : Name → List Tok → Option (Pat × List Tok) → Option (Param × List Tok)
  pattern_or x ts (Some p) = Some (LabelPattern x p.0, p.1)
  pattern_or x ts None = default_if (is_optional x.text) x ts

  abbrev pub label_param : Name → Read Param
  label_param x ts = if has_colon x.text then pattern_or x ts (simple_at n ts) else Some (LabelParam x, ts)

  -- after `?`, `(`, a label and its type: `=` and a default value
  abbrev pub wrapped_default : ℕ → ℕ → Name → Option (List Tok) → Read Param
  wrapped_default at at' x run ts = do
    q ← expect_at key.Equals ts
    e ← sub wanted.Expression q.1
    r ← expect key.RightParen e.1
    Some (WrappedDefault at at' x run q.0 e.0, r)

  abbrev pub wrapped_end : ℕ → Bool → ℕ → Name → Option (List Tok) → Read Param
  wrapped_end at optional at' x run (fixed key.RightParen ∷ ts) = Some (WrappedParam at optional at' x run, ts)
  wrapped_end at optional at' x run ts = if optional then wrapped_default at at' x run ts else None

  -- after `~` or `?`
  unfoldable pub wrapped_param : ℕ → Bool → Read Param
  wrapped_param at optional (placed key.LeftParen at' ∷ word class.Lower x ∷ ts) =
      wrapped_end at optional at' x (optional_type ts).0 (optional_type ts).1
  wrapped_param at optional _ = None

  -- after `( type`
  abbrev pub types_end : ℕ → List Name × List Tok → Option (Param × List Tok)
  types_end at ([], r) = None
  types_end at (x ∷ xs, r) = expect key.RightParen r >>= λ r'. Some (TypesParam at (x ∷ xs), r')

  unfoldable pub param : Read Param
  param (word class.Label x ∷ ts) = label_param x ts
  param (placed key.Tilde at ∷ ts) = wrapped_param at false ts
  param (placed key.Question at ∷ ts) = wrapped_param at true ts
  param (placed key.LeftParen at ∷ fixed key.Type ∷ ts) = types_end at (many [] ◌∷◌ always lower_word n ts)
  param ts = simple_at n ts >>= λ p. Some (PatternParam p.0, p.1)

  abbrev pub more_params : List Tok → Params × List Tok
  more_params ts = many no_param more_param always param n ts

  -- ---- bindings

  -- an optional type, `=` and a value
  unfoldable pub bound : Read (Option (List Tok) × ℕ × Expr)
  bound ts = do
    let run = optional_type ts
    q ← expect_at key.Equals run.1
    e ← sub wanted.Sequence q.1
    Some ((run.0, q.0, e.0), e.1)

  abbrev pub plain_binding : Read Binding
  plain_binding ts = read_pat n ts >>= λ p. bound p.1 >>= λ v. Some (PlainBinding p.0 v.0.0 v.0.1 v.0.2, v.1)

  -- a name with parameters, or else a pattern
  abbrev pub named_binding : List Tok → ValueName → Params → Read Binding
  named_binding ts x no_param r = plain_binding ts
  named_binding ts x (more_param p ps) r = bound r >>= λ v. Some (AppliedBinding x (more_param p ps) v.0.0 v.0.1 v.0.2, v.1)

  abbrev pub binding_by : List Tok → Option (ValueName × List Tok) → Option (Binding × List Tok)
  binding_by ts None = plain_binding ts
  binding_by ts (Some x) = named_binding ts x.0 (more_params x.1).0 (more_params x.1).1

  unfoldable pub binding : Read Binding
  binding ts = binding_by ts (value_name ts)

  abbrev pub next_binding : Read Binding
  next_binding ts = expect key.And ts >>= binding

  abbrev pub more_bindings : List Tok → Bindings × List Tok
  more_bindings ts = many no_binding more_binding always next_binding n ts

  -- bindings between `and`
  unfoldable pub bindings : Read (Binding × Bindings)
  bindings ts = binding ts >>= λ b. Some ((b.0, (more_bindings b.1).0), (more_bindings b.1).1)

  -- ---- forms of level 1

  unfoldable pub let_values : ℕ → Bool → Read Expr
  let_values at recursive ts = do
    b ← bindings ts
    r ← expect key.In b.1
    e ← sub wanted.Sequence r
    Some (Let at recursive b.0.0 b.0.1 e.0, e.1)

  unfoldable pub let_open : ℕ → ℕ → Read Expr
  let_open at at' ts = do
    let bang = optional_bang ts
    p ← upper_path n bang.1
    r ← expect key.In p.1
    e ← sub wanted.Sequence r
    Some (LetOpen at at' bang.0 p.0 e.0, e.1)

  unfoldable pub let_module : ℕ → ℕ → Read Expr
  let_module at at' (word class.Upper x ∷ placed key.Equals q ∷ ts) = do
    m ← read_local n ts
    r ← expect key.In m.1
    e ← sub wanted.Sequence r
    Some (LetModule at at' x q m.0 e.0, e.1)
  let_module at at' _ = None

  -- after a `let`
  unfoldable pub let_expr : ℕ → Read Expr
  let_expr at (placed key.Open at' ∷ ts) = let_open at at' ts
  let_expr at (placed key.Module at' ∷ ts) = let_module at at' ts
  let_expr at (fixed key.Rec ∷ ts) = let_values at true ts
  let_expr at ts = let_values at false ts

  -- after a `fun`
  abbrev pub fun_end : ℕ → Params → Read Expr
  fun_end at no_param r = None
  fun_end at (more_param p ps) r = expect key.Arrow r >>= λ r'. sub wanted.Sequence r' >>= λ e. Some (Fun at (more_param p ps) e.0, e.1)

  unfoldable pub fun_expr : ℕ → Read Expr
  fun_expr at ts = fun_end at (more_params ts).0 (more_params ts).1

  -- an optional guard
  abbrev pub case_guard : Read MaybeExpr
  case_guard (fixed key.When ∷ ts) = sub wanted.Sequence ts >>= λ e. Some (some_expr e.0, e.1)
  case_guard ts = Some (no_expr, ts)

  unfoldable pub one_case : Read Case
  one_case ts = do
    p ← read_pat n ts
    g ← case_guard p.1
    r ← expect key.Arrow g.1
    e ← sub wanted.Sequence r
    Some (CaseOf p.0 g.0 e.0, e.1)

  abbrev pub next_case : Read Case
  next_case ts = expect key.Bar ts >>= one_case

  abbrev pub more_cases : Case → List Tok → Cases × List Tok
  more_cases c ts = many_if (no_cases c) no_case more_case no_cases next_case n ts

  -- cases between `|`
  unfoldable pub all_cases : (Bool → Case → Cases → Expr) → Read Expr
  all_cases grown ts = one_case (first_bar ts).1 >>= λ c. Some (grown (first_bar ts).0 c.0 (more_cases c.0 c.1).0, (more_cases c.0 c.1).1)

  -- after a `match` or a `try`
  unfoldable pub match_expr : (Expr → Bool → Case → Cases → Expr) → Read Expr
  match_expr grown ts = do
    e ← sub wanted.Sequence ts
    r ← expect key.With e.1
    all_cases (grown e.0) r

  -- ---- `if`

  -- a condition, `then` and a branch
  unfoldable pub then_branch : Read (Expr × Expr)
  then_branch ts = do
    c ← sub wanted.Sequence ts
    r ← expect key.Then c.1
    a ← sub wanted.Expression r
    Some ((c.0, a.0), a.1)

  unfoldable pub else_branch : Read Otherwise
  else_branch (fixed key.Else ∷ placed key.If at ∷ ts) = then_branch ts >>= λ x. Some (if_branch at x.0.0 x.0.1, x.1)
  else_branch (fixed key.Else ∷ ts) = sub wanted.Expression ts >>= λ e. Some (last_branch e.0, e.1)
  else_branch _ = None

  abbrev pub if_tail : Expr → List Tok → Tail × List Tok
  if_tail a ts = many_if (no_open_if a) no_else cons_branch branch_ends else_branch n ts

  -- after an `if`
  unfoldable pub if_expr : ℕ → Read Expr
  if_expr at ts = then_branch ts >>= λ x. Some (If at x.0.0 x.0.1 (if_tail x.0.1 x.1).0, (if_tail x.0.1 x.1).1)

  -- ---- the levels

  -- a form of level 1 or 2, or an expression of levels 13 to 16
  unfoldable pub unary : Read Expr
  unary (placed key.Let at ∷ ts) = let_expr at ts
  unary (placed key.Fun at ∷ ts) = fun_expr at ts
  unary (placed key.Function at ∷ ts) = all_cases (Function at) ts
  unary (placed key.Match at ∷ ts) = match_expr (Match at) ts
  unary (placed key.Try at ∷ ts) = match_expr (Try at) ts
  unary (placed key.If at ∷ ts) = if_expr at ts
  unary (word class.Infix x ∷ ts) = if is_minus x.text then (sub wanted.Operand ts >>= λ e. Some (Minus x e.0, e.1)) else None
  unary ts = apply ts

  -- an operator of this level and an operand
  abbrev pub operator_part : ℕ → Read Expr → Read (Tok × Expr × Bool)
  operator_part m one (t ∷ ts) = if op_level t == m then (one ts >>= λ x. Some ((t, x.0, goes_on x.0 x.1), x.1)) else None
  operator_part m one [] = None

  -- the levels from 13 - d on
  unfoldable pub tier : ℕ → Read Expr
  tier zero ts = unary ts
  tier (suc d) ts = do
    e ← tier d ts
    let more = many_if (goes_on e.0 e.1) no_link cons_operand (λ x. x.2) (operator_part (12 - d) (tier d)) n e.1
    Some (grown_chain (12 - d) e.0 more.0, more.1)

  abbrev pub expr : Read Expr
  expr = tier 10

  unfoldable pub seq : Read Expr
  seq ts = row expr grown_seq ts

  abbrev pub one_of : Wanted → Read Expr
  one_of wanted.Sequence = seq
  one_of wanted.Expression = expr
  one_of wanted.Operand = unary
  one_of wanted.Postfix = postfix
  one_of wanted.Prefixed = prefixed

-- the number bounds how deep expressions nest, and the turns
unfoldable pub read_expr : ℕ → Wanted → Read Expr
read_expr zero w ts = None
read_expr (suc n) w ts = one_of (read_expr n) n w ts
