-- Which trees are well formed: what may occur where, and the rules on right edges (own profile;
-- the OCaml manual, "Patterns", "Expressions", "Module types", "Module expressions" and
-- "Compilation units").
use Rattle.std.specs.Prelude.{◌≡◌, ◌≢◌, ℕ, ◌<◌, ◌≤◌, ◌⊎◌, List, [], ◌∷◌, Bool, true, false, ◌||◌, ◌&&◌, ◌==◌, not, Option, Some, None, if◌then◌else◌}
use Rattle.std.specs.Prelude.{codes, nat_le}
use Rattle.std.specs.List.{list_any}
use Prim.Native.String.{String}
use Rattle.std.specs.Str.{bytes_eq}
use Rattle.rotor_base.specs.declared.token.Class.{Class}
use Rattle.rotor_base.specs.declared.token.Class.TheVariants as class
use Rattle.ml_trees.specs.declared.fixed.Fixed.TheVariants as key
use Rattle.ml_trees.specs.Tok.{Name, Tok, fixed, placed, word}
use Rattle.ml_trees.specs.Runs.{is_type_run, is_declaration_run, has_colon, is_optional}
use Rattle.ml_trees.specs.Tree.{ValueName, PlainName, OperatorName, Pat, AsPat, OrPat, TuplePat, ConsPat, ConstrApplyPat, TagApplyPat, LazyPat}
use Rattle.ml_trees.specs.Tree.{ExceptionPat, AnyPat, ValuePat, LiteralPat, NegativePat, RangePat, ConstrPat, TagPat, BoolPat, UnitPat, ParenPat}
use Rattle.ml_trees.specs.Tree.{TypedPat, EmptyPat, ListPat, RecordPat, OpenedPat, Pats, no_pat, more_pat, PatField, PunnedField, MatchedField}
use Rattle.ml_trees.specs.Tree.{PatFields, no_pat_field, more_pat_field, LocalModule, LocalPath, LocalArguments, no_local, more_local, no_module}
use Rattle.ml_trees.specs.Tree.{Expr, Seq, Let, LetOpen, LetModule, Fun, Function, Match, Try, If, Chain, Minus, Apply, ConstrApply, TagApply}
use Rattle.ml_trees.specs.Tree.{Assert, Lazy, Postfix, Prefixed, Literal, BoolExpr, Value, Constr, Tag, UnitExpr, Paren, Typed, Coerced, EmptyBegin}
use Rattle.ml_trees.specs.Tree.{Begin, EmptyList, ListExpr, Record, Opened, While, For, Links, no_link, more_link, MaybeExpr, no_expr, some_expr}
use Rattle.ml_trees.specs.Tree.{Tail, no_else, or_else, or_if, Binding, PlainBinding, AppliedBinding, Bindings, no_binding, more_binding, Case}
use Rattle.ml_trees.specs.Tree.{CaseOf, Cases, no_case, more_case, Argument, Positional, LabelPun, Labelled, Arguments, no_argument, more_argument}
use Rattle.ml_trees.specs.Tree.{Param, PatternParam, LabelParam, LabelPattern, DefaultParam, WrappedParam, WrappedDefault, TypesParam, Params}
use Rattle.ml_trees.specs.Tree.{no_param, more_param, Part, LabelPart, IndexPart, CharPart, Parts, no_part, more_part, Field, FieldPun}
use Rattle.ml_trees.specs.Tree.{AssignedField, Fields, no_field, more_field, Constraint, ConstraintOf, WithClause, WithOf, ModExpr, ModPath, Struct}
use Rattle.ml_trees.specs.Tree.{Functor, ModApply, ModParen, Sealed, ModArgument, ModuleArgument, SealedArgument, NoArgument, ModArguments}
use Rattle.ml_trees.specs.Tree.{no_mod_argument, more_mod_argument, FunctorParam, NamedParam, NoParam, FunctorParams, no_functor_param}
use Rattle.ml_trees.specs.Tree.{more_functor_param, ModType, TypePath, Sig, TypeOf, TypeParen, With, FunctorType, ParamArrow, Arrow, MaybeType}
use Rattle.ml_trees.specs.Tree.{no_type, some_type, Item, ExprItem, SeparatorItem, ValueItem, ExternalItem, TypeItem, ExceptionItem, ModuleItem}
use Rattle.ml_trees.specs.Tree.{ModuleTypeItem, OpenItem, IncludeItem, Items, no_item, more_item, SigItem, SeparatorSig, ValSig, ExternalSig}
use Rattle.ml_trees.specs.Tree.{TypeSig, ExceptionSig, ModuleSig, AliasSig, ModuleTypeSig, OpenSig, IncludeSig, SigItems, no_sig_item, more_sig_item}
use Rattle.ml_trees.specs.Tree.{FileTree, Body, Face}

-- ---- words

-- a number, a character or a text
abbrev pub is_literal : Class → Bool
is_literal class.Int = true
is_literal class.Float = true
is_literal class.Char = true
is_literal class.Text = true
is_literal class.Quoted = true
is_literal _ = false

abbrev pub is_number : Class → Bool
is_number class.Int = true
is_number class.Float = true
is_number _ = false

-- `-` or `-.`
abbrev pub is_minus : List ℕ → Bool
is_minus text = bytes_eq text (codes "-") || bytes_eq text (codes "-.")

-- the keywords that are operators, and their levels
abbrev pub keyword_level : List ℕ → ℕ
keyword_level text =
    if bytes_eq text (codes "mod") || bytes_eq text (codes "land") || bytes_eq text (codes "lor") || bytes_eq text (codes "lxor") then 11 else
    if bytes_eq text (codes "lsl") || bytes_eq text (codes "lsr") || bytes_eq text (codes "asr") then 12 else
    0

-- what may be in parentheses as an operator
abbrev pub is_operator : Tok → Bool
is_operator (placed key.Equals at) = true
is_operator (word class.Prefix x) = true
is_operator (word class.Infix x) = not (bytes_eq x.text (codes "&"))
is_operator (word class.Mark x) = bytes_eq x.text (codes ":=")
is_operator (word class.Keyword x) = nat_le 1 (keyword_level x.text)
is_operator _ = false

abbrev pub WfName : ValueName → Type 0
WfName (PlainName x) = Unit {0}
WfName (OperatorName at t) = is_operator t ≡ true

abbrev pub WfNames : List ValueName → Type 0
WfNames [] = Unit {0}
WfNames (x ∷ xs) = WfName x × WfNames xs

-- an optional type
abbrev pub WfType : Option (List Tok) → Type 0
WfType None = Unit {0}
WfType (Some run) = is_type_run run ≡ true

-- an optional `!`
abbrev pub WfBang : Option Name → Type 0
WfBang None = Unit {0}
WfBang (Some x) = x.text ≡ codes "!"

-- ---- patterns

-- As, Or, Tuple, Cons, Applied, Simple
abbrev pub pat_level : Pat → ℕ
pat_level (AsPat p xs) = 0
pat_level (OrPat p ps) = 1
pat_level (TuplePat p ps) = 2
pat_level (ConsPat p ps) = 3
pat_level (ConstrApplyPat path p) = 4
pat_level (TagApplyPat x p) = 4
pat_level (LazyPat at p) = 4
pat_level (ExceptionPat at p) = 4
pat_level _ = 5

abbrev pub is_exception : Pat → Bool
is_exception (ExceptionPat at p) = true
is_exception _ = false

abbrev mutual
  pub WfPat : Pat → Type 0
  WfPat (AsPat p xs) = (1 ≤ pat_level p) × (xs ≢ []) × WfNames xs × WfPat p
  WfPat (OrPat p ps) = (2 ≤ pat_level p) × (ps ≢ no_pat) × WfPat p × WfPats 2 ps
  WfPat (TuplePat p ps) = (3 ≤ pat_level p) × (ps ≢ no_pat) × WfPat p × WfPats 3 ps
  WfPat (ConsPat p ps) = (4 ≤ pat_level p) × (ps ≢ no_pat) × WfPat p × WfPats 4 ps
  WfPat (ConstrApplyPat path p) = (path ≢ []) × (5 ≤ pat_level p) × WfPat p
  WfPat (TagApplyPat x p) = (5 ≤ pat_level p) × WfPat p
  WfPat (LazyPat at p) = (5 ≤ pat_level p) × WfPat p
  WfPat (ExceptionPat at p) = (4 ≤ pat_level p) × (is_exception p ≡ false) × WfPat p
  WfPat (AnyPat at) = Unit {0}
  WfPat (ValuePat x) = WfName x
  WfPat (LiteralPat c x) = is_literal c ≡ true
  WfPat (NegativePat x c y) = (is_minus x.text ≡ true) × (is_number c ≡ true)
  WfPat (RangePat x y) = Unit {0}
  WfPat (ConstrPat path) = path ≢ []
  WfPat (TagPat x) = Unit {0}
  WfPat (BoolPat at b) = Unit {0}
  WfPat (UnitPat at) = Unit {0}
  WfPat (ParenPat at p) = WfPat p
  WfPat (TypedPat at p run) = WfPat p × (is_type_run run ≡ true)
  WfPat (EmptyPat at b) = Unit {0}
  WfPat (ListPat at b p ps last) = WfPat p × WfPats 0 ps
  WfPat (RecordPat at f fs rest last) = WfPatField f × WfPatFields fs
  WfPat (OpenedPat path at p) = (path ≢ []) × WfPat p

  -- each of this level or a higher one
  pub WfPats : ℕ → Pats → Type 0
  WfPats n no_pat = Unit {0}
  WfPats n (more_pat p ps) = (n ≤ pat_level p) × WfPat p × WfPats n ps

  pub WfPatField : PatField → Type 0
  WfPatField (PunnedField path x run) = WfType run
  WfPatField (MatchedField path x run at p) = WfType run × WfPat p

  pub WfPatFields : PatFields → Type 0
  WfPatFields no_pat_field = Unit {0}
  WfPatFields (more_pat_field f fs) = WfPatField f × WfPatFields fs

-- ---- the levels of expressions, and of the operators between them

abbrev pub level : Expr → ℕ
level (Seq e es last) = 0
level (Let at rec b bs e) = 1
level (LetOpen at at' bang path e) = 1
level (LetModule at at' x eq m e) = 1
level (Fun at ps e) = 1
level (Function at bar c cs) = 1
level (Match at e bar c cs) = 1
level (Try at e bar c cs) = 1
level (If at c a tail) = 2
level (Chain n e es) = n
level (Minus x e) = 13
level (Apply f es) = 14
level (ConstrApply path e) = 14
level (TagApply x e) = 14
level (Assert at e) = 14
level (Lazy at e) = 14
level (Postfix e ps) = 15
level _ = 16

-- begins with one of these characters
abbrev pub begins_among : String → List ℕ → Bool
begins_among characters [] = false
begins_among characters (b ∷ bs) = list_any (λ x. x == b) (codes characters)

abbrev pub begins_power : List ℕ → Bool
begins_power [] = false
begins_power (b ∷ []) = false
begins_power (b ∷ c ∷ bs) = b == 42 && c == 42

-- the level of an Infix, or 0
unfoldable pub infix_level : List ℕ → ℕ
infix_level text =
    if bytes_eq text (codes "||") then 5 else
    if bytes_eq text (codes "&&") then 6 else
    if bytes_eq text (codes "!=") then 7 else
    if begins_among "=<>|&$" text then 7 else
    if begins_among "@^" text then 8 else
    if begins_among "+-" text then 10 else
    if begins_power text then 12 else
    if begins_among "*/%" text then 11 else
    0

-- the level of an operator, or 0
abbrev pub op_level : Tok → ℕ
op_level (fixed key.LeftArrow) = 3
op_level (fixed key.Comma) = 4
op_level (fixed key.ColonColon) = 9
op_level (placed key.Equals at) = 7
op_level (word class.Mark x) = if bytes_eq x.text (codes ":=") then 3 else 0
op_level (word class.Keyword x) = keyword_level x.text
op_level (word class.Infix x) = infix_level x.text
op_level _ = 0

-- ---- the right edge: the expression itself, its last part, the last part of that, and so on

-- a form of level 1
abbrev pub is_form : Expr → Bool
is_form (Let at rec b bs e) = true
is_form (LetOpen at at' bang path e) = true
is_form (LetModule at at' x eq m e) = true
is_form (Fun at ps e) = true
is_form (Function at bar c cs) = true
is_form (Match at e bar c cs) = true
is_form (Try at e bar c cs) = true
is_form _ = false

abbrev pub is_if : Expr → Bool
is_if (If at c a tail) = true
is_if _ = false

abbrev pub has_else : Tail → Bool
has_else no_else = false
has_else (or_else e) = true
has_else (or_if at c a tail) = has_else tail

-- an If that lacks a closing `else` branch
abbrev pub is_open_if : Expr → Bool
is_open_if (If at c a tail) = not (has_else tail)
is_open_if _ = false

abbrev pub has_cases : Expr → Bool
has_cases (Function at bar c cs) = true
has_cases (Match at e bar c cs) = true
has_cases (Try at e bar c cs) = true
has_cases _ = false

abbrev mutual
  -- some expression on the right edge passes the test
  pub on_edge : (Expr → Bool) → Expr → Bool
  on_edge q (Seq e es last) = q (Seq e es last) || not last && on_links q (on_edge q e) es
  on_edge q (Let at rec b bs e) = q (Let at rec b bs e) || on_edge q e
  on_edge q (LetOpen at at' bang path e) = q (LetOpen at at' bang path e) || on_edge q e
  on_edge q (LetModule at at' x eq m e) = q (LetModule at at' x eq m e) || on_edge q e
  on_edge q (Fun at ps e) = q (Fun at ps e) || on_edge q e
  on_edge q (Function at bar c cs) = q (Function at bar c cs) || on_cases q (on_body q c) cs
  on_edge q (Match at e bar c cs) = q (Match at e bar c cs) || on_cases q (on_body q c) cs
  on_edge q (Try at e bar c cs) = q (Try at e bar c cs) || on_cases q (on_body q c) cs
  on_edge q (If at c a tail) = q (If at c a tail) || on_tail q (on_edge q a) tail
  on_edge q (Chain n e es) = q (Chain n e es) || on_links q (on_edge q e) es
  on_edge q (Minus x e) = q (Minus x e) || on_edge q e
  on_edge q (Apply f es) = q (Apply f es)
  on_edge q (ConstrApply path e) = q (ConstrApply path e)
  on_edge q (TagApply x e) = q (TagApply x e)
  on_edge q (Assert at e) = q (Assert at e)
  on_edge q (Lazy at e) = q (Lazy at e)
  on_edge q (Postfix e ps) = q (Postfix e ps)
  on_edge q (Prefixed x e) = q (Prefixed x e)
  on_edge q (Literal c x) = q (Literal c x)
  on_edge q (BoolExpr at b) = q (BoolExpr at b)
  on_edge q (Value path x) = q (Value path x)
  on_edge q (Constr path) = q (Constr path)
  on_edge q (Tag x) = q (Tag x)
  on_edge q (UnitExpr at) = q (UnitExpr at)
  on_edge q (Paren at e) = q (Paren at e)
  on_edge q (Typed at e run) = q (Typed at e run)
  on_edge q (Coerced at e from to) = q (Coerced at e from to)
  on_edge q (EmptyBegin at) = q (EmptyBegin at)
  on_edge q (Begin at e) = q (Begin at e)
  on_edge q (EmptyList at b) = q (EmptyList at b)
  on_edge q (ListExpr at b e es last) = q (ListExpr at b e es last)
  on_edge q (Record at base f fs last) = q (Record at base f fs last)
  on_edge q (Opened path e) = q (Opened path e)
  on_edge q (While at c e) = q (While at c e)
  on_edge q (For at x eq a down b e) = q (For at x eq a down b e)

  -- what the last operand says, or the one before all of these
  pub on_links : (Expr → Bool) → Bool → Links → Bool
  on_links q before no_link = before
  on_links q before (more_link t e es) = on_links q (on_edge q e) es

  pub on_body : (Expr → Bool) → Case → Bool
  on_body q (CaseOf p guard e) = on_edge q e

  pub on_cases : (Expr → Bool) → Bool → Cases → Bool
  on_cases q before no_case = before
  on_cases q before (more_case c cs) = on_cases q (on_body q c) cs

  pub on_tail : (Expr → Bool) → Bool → Tail → Bool
  on_tail q before no_else = before
  on_tail q before (or_else e) = on_edge q e
  on_tail q before (or_if at c a tail) = on_tail q (on_edge q a) tail

-- 1. what an operator, a `,` or a `;` follows has no form of level 1 on its right edge
abbrev pub NoForm : Expr → Type 0
NoForm e = on_edge is_form e ≡ false

-- 2. what an operator or a `,` follows has no If there either
abbrev pub Calm : Expr → Type 0
Calm e = NoForm e × (on_edge is_if e ≡ false)

-- 3. what an `else` follows has no If without a closing `else` there
abbrev pub NoOpenIf : Expr → Type 0
NoOpenIf e = on_edge is_open_if e ≡ false

-- 4. a case that another follows has no Match, Try or Function there
abbrev pub NoCases : Case → Type 0
NoCases c = on_body has_cases c ≡ false

-- ---- expressions

-- an operand of a chain of this level: it has a higher level, or, in the last place, is of level 1 or 2
abbrev pub IsOperand : ℕ → Expr → Type 0
IsOperand n e = (n < level e) ⊎ ((0 < level e) × (level e < 3))

abbrev pub is_postfix : Expr → Bool
is_postfix (Postfix e ps) = true
is_postfix _ = false

-- what precedes a `<-` is a Postfix with a part
abbrev pub CanBeAssigned : Tok → Expr → Type 0
CanBeAssigned (fixed key.LeftArrow) e = is_postfix e ≡ true
CanBeAssigned t e = Unit {0}

-- a constructor or tag alone
abbrev pub is_bare : Expr → Bool
is_bare (Constr path) = true
is_bare (Tag x) = true
is_bare _ = false

-- the Postfix rule: a constructor, alone or after any number of Prefix words, has no part
abbrev pub is_constr : Expr → Bool
is_constr (Constr path) = true
is_constr (Prefixed x e) = is_constr e
is_constr _ = false

-- what may follow a module path and a `.`
abbrev pub is_bracketed : Expr → Bool
is_bracketed (UnitExpr at) = true
is_bracketed (Paren at e) = true
is_bracketed (EmptyList at b) = true
is_bracketed (ListExpr at b e es last) = true
is_bracketed (Record at base f fs last) = true
is_bracketed _ = false

abbrev mutual
  pub WfLocal : LocalModule → Type 0
  WfLocal (LocalPath path ms) = (path ≢ []) × WfLocals ms

  pub WfLocals : LocalArguments → Type 0
  WfLocals no_local = Unit {0}
  WfLocals (more_local at m ms) = WfLocal m × WfLocals ms
  WfLocals (no_module at ms) = WfLocals ms

-- a field that a `;` follows
abbrev pub EndsField : Field → Type 0
EndsField (FieldPun path x run) = Unit {0}
EndsField (AssignedField path x run at e) = NoForm e

abbrev mutual
  pub Wf : Expr → Type 0
  Wf (Seq e es last) = (0 < level e) × Wf e × WfSeq e es last × ((es ≢ no_link) ⊎ (last ≡ true))
  Wf (Let at rec b bs e) = WfBinding b × WfBindings bs × Wf e
  Wf (LetOpen at at' bang path e) = WfBang bang × (path ≢ []) × Wf e
  Wf (LetModule at at' x eq m e) = WfLocal m × Wf e
  Wf (Fun at ps e) = (ps ≢ no_param) × WfParams ps × Wf e
  Wf (Function at bar c cs) = WfCase c × WfCases c cs
  Wf (Match at e bar c cs) = Wf e × WfCase c × WfCases c cs
  Wf (Try at e bar c cs) = Wf e × WfCase c × WfCases c cs
  Wf (If at c a tail) = Wf c × (0 < level a) × Wf a × WfTail a tail
  Wf (Chain n e es) = (3 ≤ n) × (n ≤ 12) × (es ≢ no_link) × (n < level e) × Wf e × WfChain n e es
  Wf (Minus x e) = (is_minus x.text ≡ true) × IsOperand 12 e × Wf e
  Wf (Apply f es) = (14 < level f) × (is_bare f ≡ false) × Wf f × (es ≢ no_argument) × WfArguments es
  Wf (ConstrApply path e) = (path ≢ []) × (14 < level e) × Wf e
  Wf (TagApply x e) = (14 < level e) × Wf e
  Wf (Assert at e) = (14 < level e) × Wf e
  Wf (Lazy at e) = (14 < level e) × Wf e
  Wf (Postfix e ps) = (15 < level e) × (is_constr e ≡ false) × Wf e × (ps ≢ no_part) × WfParts ps
  Wf (Prefixed x e) = (15 < level e) × Wf e
  Wf (Literal c x) = is_literal c ≡ true
  Wf (BoolExpr at b) = Unit {0}
  Wf (Value path x) = WfName x
  Wf (Constr path) = path ≢ []
  Wf (Tag x) = Unit {0}
  Wf (UnitExpr at) = Unit {0}
  Wf (Paren at e) = Wf e
  Wf (Typed at e run) = Wf e × (is_type_run run ≡ true)
  Wf (Coerced at e from to) = Wf e × WfType from × (is_type_run to ≡ true)
  Wf (EmptyBegin at) = Unit {0}
  Wf (Begin at e) = Wf e
  Wf (EmptyList at b) = Unit {0}
  Wf (ListExpr at b e es last) = (0 < level e) × Wf e × WfSeq e es last
  Wf (Record at base f fs last) = WfBase base × WfField f × WfFields f fs last
  Wf (Opened path e) = (path ≢ []) × (is_bracketed e ≡ true) × Wf e
  Wf (While at c e) = Wf c × Wf e
  Wf (For at x eq a down b e) = Wf a × Wf b × Wf e

  -- after the first expression of a sequence, list or array
  pub WfSeq : Expr → Links → Bool → Type 0
  WfSeq e no_link last = (last ≡ true → NoForm e)
  WfSeq e (more_link t e' es) last = NoForm e × (t ≡ fixed key.Semicolon) × (0 < level e') × Wf e' × WfSeq e' es last

  -- after the first operand of a chain
  pub WfChain : ℕ → Expr → Links → Type 0
  WfChain n e no_link = Unit {0}
  WfChain n e (more_link t e' es) = Calm e × CanBeAssigned t e × (op_level t ≡ n) × IsOperand n e' × Wf e' × WfChain n e' es

  pub WfBase : MaybeExpr → Type 0
  WfBase no_expr = Unit {0}
  WfBase (some_expr e) = (14 < level e) × Wf e

  pub WfGuard : MaybeExpr → Type 0
  WfGuard no_expr = Unit {0}
  WfGuard (some_expr e) = Wf e

  -- after the first branch
  pub WfTail : Expr → Tail → Type 0
  WfTail a no_else = Unit {0}
  WfTail a (or_else e) = NoOpenIf a × (0 < level e) × (level e ≢ 2) × Wf e
  WfTail a (or_if at c b tail) = NoOpenIf a × Wf c × (0 < level b) × Wf b × WfTail b tail

  pub WfBinding : Binding → Type 0
  WfBinding (PlainBinding p run at e) = WfPat p × WfType run × Wf e
  WfBinding (AppliedBinding x ps run at e) = WfName x × (ps ≢ no_param) × WfParams ps × WfType run × Wf e

  pub WfBindings : Bindings → Type 0
  WfBindings no_binding = Unit {0}
  WfBindings (more_binding b bs) = WfBinding b × WfBindings bs

  pub WfCase : Case → Type 0
  WfCase (CaseOf p guard e) = WfPat p × WfGuard guard × Wf e

  -- after a case
  pub WfCases : Case → Cases → Type 0
  WfCases c no_case = Unit {0}
  WfCases c (more_case c' cs) = NoCases c × WfCase c' × WfCases c' cs

  pub WfArgument : Argument → Type 0
  WfArgument (Positional e) = (14 < level e) × Wf e
  WfArgument (LabelPun x) = has_colon x.text ≡ false
  WfArgument (Labelled x e) = (has_colon x.text ≡ true) × (14 < level e) × Wf e

  pub WfArguments : Arguments → Type 0
  WfArguments no_argument = Unit {0}
  WfArguments (more_argument a es) = WfArgument a × WfArguments es

  pub WfParam : Param → Type 0
  WfParam (PatternParam p) = (5 ≤ pat_level p) × WfPat p
  WfParam (LabelParam x) = has_colon x.text ≡ false
  WfParam (LabelPattern x p) = (has_colon x.text ≡ true) × (5 ≤ pat_level p) × WfPat p
  WfParam (DefaultParam x at p run eq e) = (has_colon x.text ≡ true) × (is_optional x.text ≡ true) × WfPat p × WfType run × (0 < level e) × Wf e
  WfParam (WrappedParam at optional at' x run) = WfType run
  WfParam (WrappedDefault at at' x run eq e) = WfType run × (0 < level e) × Wf e
  WfParam (TypesParam at xs) = xs ≢ []

  pub WfParams : Params → Type 0
  WfParams no_param = Unit {0}
  WfParams (more_param p ps) = WfParam p × WfParams ps

  pub WfPart : Part → Type 0
  WfPart (LabelPart path x) = Unit {0}
  WfPart (IndexPart at e) = Wf e
  WfPart (CharPart at e) = Wf e

  pub WfParts : Parts → Type 0
  WfParts no_part = Unit {0}
  WfParts (more_part p ps) = WfPart p × WfParts ps

  pub WfField : Field → Type 0
  WfField (FieldPun path x run) = WfType run
  WfField (AssignedField path x run at e) = WfType run × (0 < level e) × Wf e

  -- after the first field
  pub WfFields : Field → Fields → Bool → Type 0
  WfFields f no_field last = (last ≡ true → EndsField f)
  WfFields f (more_field f' fs) last = EndsField f × WfField f' × WfFields f' fs last

-- ---- modules

-- a type, `=` or `:=`, and a type
abbrev pub is_constraint_sign : Tok → Bool
is_constraint_sign (placed key.Equals at) = true
is_constraint_sign (word class.Mark x) = bytes_eq x.text (codes ":=")
is_constraint_sign _ = false

abbrev pub WfConstraint : Constraint → Type 0
WfConstraint (ConstraintOf a t private b) = (is_type_run a ≡ true) × (is_constraint_sign t ≡ true) × (is_type_run b ≡ true)

abbrev pub WfConstraints : List Constraint → Type 0
WfConstraints [] = Unit {0}
WfConstraints (c ∷ cs) = WfConstraint c × WfConstraints cs

abbrev pub WfWiths : List WithClause → Type 0
WfWiths [] = Unit {0}
WfWiths (WithOf c cs ∷ ws) = WfConstraint c × WfConstraints cs × WfWiths ws

abbrev pub is_functor : ModExpr → Bool
is_functor (Functor at ps m) = true
is_functor _ = false

-- SimpleMod
abbrev pub is_simple_mod : ModExpr → Bool
is_simple_mod (Functor at ps m) = false
is_simple_mod (ModApply m ms) = false
is_simple_mod _ = true

-- SimpleType
abbrev pub is_simple_type : ModType → Bool
is_simple_type (TypePath path) = true
is_simple_type (Sig at is) = true
is_simple_type (TypeOf at m) = true
is_simple_type (TypeParen at s) = true
is_simple_type _ = false

abbrev pub is_separator : Item → Bool
is_separator SeparatorItem = true
is_separator _ = false

abbrev pub WfExternal : ValueName → List Tok → List Name → Type 0
WfExternal x run texts = WfName x × (is_type_run run ≡ true) × (texts ≢ [])

abbrev pub WfOpen : Option Name → List Name → Type 0
WfOpen bang path = WfBang bang × (path ≢ [])

abbrev mutual
  pub WfMod : ModExpr → Type 0
  WfMod (ModPath path) = path ≢ []
  WfMod (Struct at is) = WfItems true is
  WfMod (Functor at ps m) = (ps ≢ no_functor_param) × WfFunctorParams ps × WfMod m
  WfMod (ModApply m ms) = (is_simple_mod m ≡ true) × WfMod m × (ms ≢ no_mod_argument) × WfModArguments ms
  WfMod (ModParen at m) = WfMod m
  WfMod (Sealed at m s) = WfMod m × WfModType s

  pub WfModArgument : ModArgument → Type 0
  WfModArgument (ModuleArgument at m) = WfMod m
  WfModArgument (SealedArgument at m s) = WfMod m × WfModType s
  WfModArgument (NoArgument at) = Unit {0}

  pub WfModArguments : ModArguments → Type 0
  WfModArguments no_mod_argument = Unit {0}
  WfModArguments (more_mod_argument m ms) = WfModArgument m × WfModArguments ms

  pub WfFunctorParam : FunctorParam → Type 0
  WfFunctorParam (NamedParam at x s) = WfModType s
  WfFunctorParam (NoParam at) = Unit {0}

  pub WfFunctorParams : FunctorParams → Type 0
  WfFunctorParams no_functor_param = Unit {0}
  WfFunctorParams (more_functor_param p ps) = WfFunctorParam p × WfFunctorParams ps

  pub WfModType : ModType → Type 0
  WfModType (TypePath path) = path ≢ []
  WfModType (Sig at is) = WfSigItems is
  WfModType (TypeOf at m) = (is_functor m ≡ false) × WfMod m
  WfModType (TypeParen at s) = WfModType s
  WfModType (With s ws) = (is_simple_type s ≡ true) × WfModType s × (ws ≢ []) × WfWiths ws
  WfModType (FunctorType at ps s) = (ps ≢ no_functor_param) × WfFunctorParams ps × WfModType s
  WfModType (ParamArrow p s) = WfFunctorParam p × WfModType s
  -- a type run takes `->`, so no `with` ends before it
  WfModType (Arrow s s') = (is_simple_type s ≡ true) × WfModType s × WfModType s'

  pub WfSignature : MaybeType → Type 0
  WfSignature no_type = Unit {0}
  WfSignature (some_type s) = WfModType s

  -- whether the item may be an expression
  pub WfItem : Bool → Item → Type 0
  WfItem fresh (ExprItem e) = (fresh ≡ true) × Wf e
  WfItem fresh SeparatorItem = Unit {0}
  WfItem fresh (ValueItem at rec b bs) = WfBinding b × WfBindings bs
  WfItem fresh (ExternalItem x run at texts) = WfExternal x run texts
  WfItem fresh (TypeItem run) = is_declaration_run run ≡ true
  WfItem fresh (ExceptionItem at run) = is_declaration_run run ≡ true
  WfItem fresh (ModuleItem at x ps s eq m) = WfFunctorParams ps × WfSignature s × WfMod m
  WfItem fresh (ModuleTypeItem at x eq s) = WfModType s
  WfItem fresh (OpenItem at bang path) = WfOpen bang path
  WfItem fresh (IncludeItem at m) = WfMod m

  -- the item at the beginning and one after `;;` may be an expression
  pub WfItems : Bool → Items → Type 0
  WfItems fresh no_item = Unit {0}
  WfItems fresh (more_item i is) = WfItem fresh i × WfItems (is_separator i) is

  pub WfSigItem : SigItem → Type 0
  WfSigItem SeparatorSig = Unit {0}
  WfSigItem (ValSig x run) = WfName x × (is_type_run run ≡ true)
  WfSigItem (ExternalSig x run at texts) = WfExternal x run texts
  WfSigItem (TypeSig run) = is_declaration_run run ≡ true
  WfSigItem (ExceptionSig at run) = is_declaration_run run ≡ true
  WfSigItem (ModuleSig at x ps s) = WfFunctorParams ps × WfModType s
  WfSigItem (AliasSig at x eq path) = path ≢ []
  WfSigItem (ModuleTypeSig at x eq s) = WfModType s
  WfSigItem (OpenSig at bang path) = WfOpen bang path
  WfSigItem (IncludeSig at s) = WfModType s

  pub WfSigItems : SigItems → Type 0
  WfSigItems no_sig_item = Unit {0}
  WfSigItems (more_sig_item i is) = WfSigItem i × WfSigItems is

abbrev pub WfFile : FileTree → Type 0
WfFile (Body file is) = WfItems true is
WfFile (Face file is) = WfSigItems is
