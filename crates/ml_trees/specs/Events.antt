-- The events of a tree: its words, one behind another, each with what it is, and where groups and scopes begin and end
-- (the OCaml manual, "The OCaml language"). This is the one definition with a clause for each form; what is done with
-- the events is given: a state takes them (tree_walk), or their words are listed (Words). An event is a phrase, as a name,
-- a path or a type, so that its words compute also where the phrase is a variable of a proof.
use Rattle.std.specs.Prelude.{ℕ, List, [], ◌∷◌, Bool, true, false, Option, Some, None}
use Rattle.rotor_base.specs.declared.token.Class.TheVariants as class
use Rattle.ml_trees.specs.declared.fixed.Fixed.{Fixed}
use Rattle.ml_trees.specs.declared.fixed.Fixed.TheVariants as key
use Rattle.ml_trees.specs.declared.word.Bracket.{Bracket}
use Rattle.ml_trees.specs.declared.word.Bracket.TheVariants as bracket
use Rattle.ml_trees.specs.Tok.{Name, Tok, fixed, placed, word}
use Rattle.ml_trees.specs.Tree.{ValueName, PlainName, Pat, AsPat, OrPat, TuplePat, ConsPat, ConstrApplyPat, TagApplyPat, LazyPat}
use Rattle.ml_trees.specs.Tree.{ExceptionPat, AnyPat, ValuePat, LiteralPat, NegativePat, RangePat, ConstrPat, TagPat, BoolPat, UnitPat, ParenPat}
use Rattle.ml_trees.specs.Tree.{TypedPat, EmptyPat, ListPat, RecordPat, OpenedPat, Pats, no_pat, more_pat, PatField, PunnedField, MatchedField}
use Rattle.ml_trees.specs.Tree.{PatFields, no_pat_field, more_pat_field, Variable, PlainVariable, AnyVariable, LocalModule, LocalPath}
use Rattle.ml_trees.specs.Tree.{LocalArguments, no_local, more_local, no_module, Expr, Seq, Let, LetOpen, LetModule, Fun, Function, Match, Try, If}
use Rattle.ml_trees.specs.Tree.{Chain, Minus, Apply, ConstrApply, TagApply, Assert, Lazy, Postfix, Prefixed, Literal, BoolExpr, Value, Constr, Tag}
use Rattle.ml_trees.specs.Tree.{UnitExpr, Paren, Typed, Coerced, EmptyBegin, Begin, EmptyList, ListExpr, Record, Opened, While, For}
use Rattle.ml_trees.specs.Tree.{Links, no_link}
use Rattle.ml_trees.specs.Tree.{more_link, MaybeExpr, no_expr, some_expr, Tail, no_else, or_else, or_if, Binding, PlainBinding, AppliedBinding}
use Rattle.ml_trees.specs.Tree.{Bindings, no_binding, more_binding, Case, CaseOf, Cases, no_case, more_case, Argument, Positional, LabelPun}
use Rattle.ml_trees.specs.Tree.{Labelled, Arguments, no_argument, more_argument, Param, PatternParam, LabelParam, LabelPattern, DefaultParam}
use Rattle.ml_trees.specs.Tree.{WrappedParam, WrappedDefault, TypesParam, Params, no_param, more_param, Part, LabelPart, IndexPart}
use Rattle.ml_trees.specs.Tree.{CharPart, Parts}
use Rattle.ml_trees.specs.Tree.{no_part, more_part, Field, FieldPun, AssignedField, Fields, no_field, more_field, ModuleName, UpperName, AnyName}
use Rattle.ml_trees.specs.Tree.{Constraint, ConstraintOf, WithClause, WithOf, ModExpr, ModPath, Struct, Functor, ModApply, ModParen, Sealed}
use Rattle.ml_trees.specs.Tree.{ModArgument, ModuleArgument, SealedArgument, NoArgument, ModArguments, no_mod_argument, more_mod_argument}
use Rattle.ml_trees.specs.Tree.{FunctorParam, NamedParam, NoParam, FunctorParams, no_functor_param, more_functor_param, ModType, TypePath, Sig}
use Rattle.ml_trees.specs.Tree.{TypeOf, TypeParen, With, FunctorType, ParamArrow, Arrow, MaybeType, no_type, some_type, Item, ExprItem}
use Rattle.ml_trees.specs.Tree.{SeparatorItem, ValueItem, ExternalItem, TypeItem, ExceptionItem, ModuleItem, ModuleTypeItem, OpenItem, IncludeItem}
use Rattle.ml_trees.specs.Tree.{Items, no_item, more_item, SigItem, SeparatorSig, ValSig, ExternalSig, TypeSig, ExceptionSig, ModuleSig, AliasSig}
use Rattle.ml_trees.specs.Tree.{ModuleTypeSig, OpenSig, IncludeSig, SigItems, no_sig_item, more_sig_item, FileTree, Body, Face}

-- ---- fixed words by a part of a tree

abbrev pub truth : Bool → Fixed
truth true = key.True
truth false = key.False

abbrev pub opening : Bracket → Fixed
opening bracket.List = key.LeftBracket
opening bracket.Array = key.LeftArray

abbrev pub closing : Bracket → Fixed
closing bracket.List = key.RightBracket
closing bracket.Array = key.RightArray

abbrev pub wrap : Bool → Fixed
wrap true = key.Question
wrap false = key.Tilde

abbrev pub direction : Bool → Fixed
direction true = key.Downto
direction false = key.To

-- ---- events

pub data Event : Type 0 where
  -- a word that is only a word
  said : Tok → Event
  -- the words of a type or of a declaration
  run_of : List Tok → Event
  -- the name of a value, which is declared or used
  value : Bool → ValueName → Event
  -- the same of a word that is a field or a label too
  field : Bool → Name → Event
  label : Bool → Name → Event
  -- an operator between operands, or before one; a sign before an operand
  operator : Tok → Event
  minus : Name → Event
  -- the path of a module, of something in a module, and of a module with a `.` behind it
  module_path : List Name → Event
  last_path : List Name → Event
  qualifier : List Name → Event
  -- the values that are declared from here on are one group, and its end: that of a `let` is listed where it begins, and
  -- each other one where it ends
  bindings_begin : Event
  group_begins : Event
  group_ends : Event
  -- a part of a pattern behind this word, and its end: behind a `|` its values are one group, which is listed where the
  -- or-pattern ends
  part_begins : Fixed → Event
  part_ends : Fixed → Event
  alternatives_end : Event
  -- a scope of modules, and its end: its modules are no longer bound
  scope_begins : Event
  scope_ends : Event
  -- from here on a module of this name is bound, if it has one
  brings : ModuleName → Event

module _ {A : Type 0} (◌▹◌ : Event → A → A) where
  infixr 35 ◌▹◌
  infixr 35 ◌▸◌
  abbrev pub ◌▸◌ : Tok → A → A
  t ▸ k = said t ▹ k

  -- each behind an `as`
  abbrev pub names_out : List ValueName → A → A
  names_out [] k = k
  names_out (x ∷ xs) k = fixed key.As ▸ value true x ▹ names_out xs k

  -- an optional `:` and type
  abbrev pub type_out : Option (List Tok) → A → A
  type_out None k = k
  type_out (Some ts) k = fixed key.Colon ▸ run_of ts ▹ k

  -- an optional fixed word
  abbrev pub optional_out : Fixed → Bool → A → A
  optional_out x true k = fixed x ▸ k
  optional_out x false k = k

  -- an optional `!`
  abbrev pub bang_out : Option Name → A → A
  bang_out None k = k
  bang_out (Some x) k = word class.Prefix x ▸ k

  -- ---- patterns

  -- an optional `;` and `_`
  abbrev pub open_out : Option ℕ → A → A
  open_out None k = k
  open_out (Some at) k = fixed key.Semicolon ▸ placed key.Underscore at ▸ k

  abbrev mutual
    pub pat_out : Pat → A → A
    pat_out (AsPat p xs) k = pat_out p (names_out xs k)
    pat_out (OrPat p ps) k = pat_out p (pats_out key.Bar ps (alternatives_end ▹ k))
    pat_out (TuplePat p ps) k = pat_out p (pats_out key.Comma ps k)
    pat_out (ConsPat p ps) k = pat_out p (pats_out key.ColonColon ps k)
    pat_out (ConstrApplyPat path p) k = last_path path ▹ pat_out p k
    pat_out (TagApplyPat x p) k = word class.Tag x ▸ pat_out p k
    pat_out (LazyPat at p) k = placed key.Lazy at ▸ pat_out p k
    pat_out (ExceptionPat at p) k = placed key.Exception at ▸ pat_out p k
    pat_out (AnyPat at) k = placed key.Underscore at ▸ k
    pat_out (ValuePat x) k = value true x ▹ k
    pat_out (LiteralPat c x) k = word c x ▸ k
    pat_out (NegativePat x c y) k = word class.Infix x ▸ word c y ▸ k
    pat_out (RangePat x y) k = word class.Char x ▸ fixed key.DotDot ▸ word class.Char y ▸ k
    pat_out (ConstrPat path) k = last_path path ▹ k
    pat_out (TagPat x) k = word class.Tag x ▸ k
    pat_out (BoolPat at b) k = placed (truth b) at ▸ k
    pat_out (UnitPat at) k = placed key.LeftParen at ▸ fixed key.RightParen ▸ k
    pat_out (ParenPat at p) k = placed key.LeftParen at ▸ pat_out p (fixed key.RightParen ▸ k)
    pat_out (TypedPat at p run) k = placed key.LeftParen at ▸ pat_out p (fixed key.Colon ▸ run_of run ▹ fixed key.RightParen ▸ k)
    pat_out (EmptyPat at b) k = placed (opening b) at ▸ fixed (closing b) ▸ k
    pat_out (ListPat at b p ps last) k =
        placed (opening b) at ▸ pat_out p (pats_out key.Semicolon ps (optional_out key.Semicolon last (fixed (closing b) ▸ k)))
    pat_out (RecordPat at f fs rest last) k =
        placed key.LeftBrace at ▸ pat_field_out f (pat_fields_out fs (open_out rest (optional_out key.Semicolon last (fixed key.RightBrace ▸
        k))))
    pat_out (OpenedPat path at p) k = module_path path ▹ fixed key.Dot ▸ placed key.LeftParen at ▸ pat_out p (fixed key.RightParen ▸ k)

    -- each behind a fixed word
    pub pats_out : Fixed → Pats → A → A
    pats_out sep no_pat k = k
    pats_out sep (more_pat p ps) k = fixed sep ▸ part_begins sep ▹ pat_out p (part_ends sep ▹ pats_out sep ps k)

    pub pat_field_out : PatField → A → A
    pat_field_out (PunnedField path x run) k = qualifier path ▹ field true x ▹ type_out run k
    pat_field_out (MatchedField path x run at p) k = qualifier path ▹ word class.Lower x ▸ type_out run (placed key.Equals at ▸ pat_out p k)

    -- each behind a `;`
    pub pat_fields_out : PatFields → A → A
    pat_fields_out no_pat_field k = k
    pat_fields_out (more_pat_field f fs) k = fixed key.Semicolon ▸ pat_field_out f (pat_fields_out fs k)

  -- ---- expressions

  abbrev pub variable_out : Variable → A → A
  variable_out (PlainVariable x) k = value true (PlainName x) ▹ k
  variable_out (AnyVariable at) k = placed key.Underscore at ▸ k

  abbrev mutual
    pub local_out : LocalModule → A → A
    local_out (LocalPath path ms) k = module_path path ▹ locals_out ms k

    pub locals_out : LocalArguments → A → A
    locals_out no_local k = k
    locals_out (more_local at m ms) k = placed key.LeftParen at ▸ local_out m (fixed key.RightParen ▸ locals_out ms k)
    locals_out (no_module at ms) k = placed key.LeftParen at ▸ fixed key.RightParen ▸ locals_out ms k

  -- names of types
  abbrev pub lowers_out : List Name → A → A
  lowers_out [] k = k
  lowers_out (x ∷ xs) k = word class.Lower x ▸ lowers_out xs k

  abbrev mutual
    pub expr_out : Expr → A → A
    expr_out (Seq e es last) k = expr_out e (links_out es (optional_out key.Semicolon last k))
    expr_out (Let at rec b bs e) k =
        placed key.Let at ▸ optional_out key.Rec rec (bindings_begin ▹ binding_out b (bindings_out bs (group_ends ▹ fixed key.In ▸ expr_out e k)))
    expr_out (LetOpen at at' bang path e) k = placed key.Let at ▸ placed key.Open at' ▸ bang_out bang (module_path path ▹ fixed key.In ▸ expr_out
        e k)
    expr_out (LetModule at at' x eq m e) k =
        placed key.Let at ▸ placed key.Module at' ▸ word class.Upper x ▸ placed key.Equals eq ▸ local_out m (fixed key.In ▸ scope_begins ▹
        brings (UpperName x) ▹ expr_out e (scope_ends ▹ k))
    expr_out (Fun at ps e) k = placed key.Fun at ▸ params_out ps (fixed key.Arrow ▸ expr_out e k)
    expr_out (Function at bar c cs) k = placed key.Function at ▸ optional_out key.Bar bar (case_out c (cases_out cs k))
    expr_out (Match at e bar c cs) k = placed key.Match at ▸ expr_out e (fixed key.With ▸ optional_out key.Bar bar (case_out c (cases_out cs k)))
    expr_out (Try at e bar c cs) k = placed key.Try at ▸ expr_out e (fixed key.With ▸ optional_out key.Bar bar (case_out c (cases_out cs k)))
    expr_out (If at c a tail) k = placed key.If at ▸ expr_out c (fixed key.Then ▸ expr_out a (tail_out tail k))
    expr_out (Chain n e es) k = expr_out e (links_out es k)
    expr_out (Minus x e) k = minus x ▹ expr_out e k
    expr_out (Apply f es) k = expr_out f (arguments_out es k)
    expr_out (ConstrApply path e) k = last_path path ▹ expr_out e k
    expr_out (TagApply x e) k = word class.Tag x ▸ expr_out e k
    expr_out (Assert at e) k = placed key.Assert at ▸ expr_out e k
    expr_out (Lazy at e) k = placed key.Lazy at ▸ expr_out e k
    expr_out (Postfix e ps) k = expr_out e (parts_out ps k)
    expr_out (Prefixed x e) k = operator (word class.Prefix x) ▹ expr_out e k
    expr_out (Literal c x) k = word c x ▸ k
    expr_out (BoolExpr at b) k = placed (truth b) at ▸ k
    expr_out (Value path x) k = qualifier path ▹ value false x ▹ k
    expr_out (Constr path) k = last_path path ▹ k
    expr_out (Tag x) k = word class.Tag x ▸ k
    expr_out (UnitExpr at) k = placed key.LeftParen at ▸ fixed key.RightParen ▸ k
    expr_out (Paren at e) k = placed key.LeftParen at ▸ expr_out e (fixed key.RightParen ▸ k)
    expr_out (Typed at e run) k = placed key.LeftParen at ▸ expr_out e (fixed key.Colon ▸ run_of run ▹ fixed key.RightParen ▸ k)
    expr_out (Coerced at e from to) k =
        placed key.LeftParen at ▸ expr_out e (type_out from (fixed key.ColonGreater ▸ run_of to ▹ fixed key.RightParen ▸ k))
    expr_out (EmptyBegin at) k = placed key.Begin at ▸ fixed key.End ▸ k
    expr_out (Begin at e) k = placed key.Begin at ▸ expr_out e (fixed key.End ▸ k)
    expr_out (EmptyList at b) k = placed (opening b) at ▸ fixed (closing b) ▸ k
    expr_out (ListExpr at b e es last) k = placed (opening b) at ▸ expr_out e (links_out es (optional_out key.Semicolon last (fixed (closing b) ▸
        k)))
    expr_out (Record at base f fs last) k =
        placed key.LeftBrace at ▸ base_out base (field_out f (fields_out fs (optional_out key.Semicolon last (fixed key.RightBrace ▸ k))))
    expr_out (Opened path e) k = module_path path ▹ fixed key.Dot ▸ expr_out e k
    expr_out (While at c e) k = placed key.While at ▸ expr_out c (fixed key.Do ▸ expr_out e (fixed key.Done ▸ k))
    expr_out (For at x eq a down b e) k =
        placed key.For at ▸ group_begins ▹ variable_out x (placed key.Equals eq ▸ expr_out a (fixed (direction down) ▸
        expr_out b (group_ends ▹ fixed key.Do ▸ expr_out e (fixed key.Done ▸ k))))

    pub links_out : Links → A → A
    links_out no_link k = k
    links_out (more_link t e es) k = operator t ▹ expr_out e (links_out es k)

    pub base_out : MaybeExpr → A → A
    base_out no_expr k = k
    base_out (some_expr e) k = expr_out e (fixed key.With ▸ k)

    pub guard_out : MaybeExpr → A → A
    guard_out no_expr k = k
    guard_out (some_expr e) k = fixed key.When ▸ expr_out e k

    pub tail_out : Tail → A → A
    tail_out no_else k = k
    tail_out (or_else e) k = fixed key.Else ▸ expr_out e k
    tail_out (or_if at c a tail) k = fixed key.Else ▸ placed key.If at ▸ expr_out c (fixed key.Then ▸ expr_out a (tail_out tail k))

    pub binding_out : Binding → A → A
    binding_out (PlainBinding p run at e) k = pat_out p (type_out run (placed key.Equals at ▸ expr_out e k))
    binding_out (AppliedBinding x ps run at e) k = value true x ▹ (params_out ps (type_out run (placed key.Equals at ▸ expr_out e k)))

    pub bindings_out : Bindings → A → A
    bindings_out no_binding k = k
    bindings_out (more_binding b bs) k = fixed key.And ▸ binding_out b (bindings_out bs k)

    pub case_out : Case → A → A
    case_out (CaseOf p guard e) k = group_begins ▹ pat_out p (group_ends ▹ guard_out guard (fixed key.Arrow ▸ expr_out e k))

    pub cases_out : Cases → A → A
    cases_out no_case k = k
    cases_out (more_case c cs) k = fixed key.Bar ▸ case_out c (cases_out cs k)

    pub argument_out : Argument → A → A
    argument_out (Positional e) k = expr_out e k
    argument_out (LabelPun x) k = label false x ▹ k
    argument_out (Labelled x e) k = word class.Label x ▸ expr_out e k

    pub arguments_out : Arguments → A → A
    arguments_out no_argument k = k
    arguments_out (more_argument a es) k = argument_out a (arguments_out es k)

    pub param_out : Param → A → A
    param_out (PatternParam p) k = group_begins ▹ pat_out p (group_ends ▹ k)
    param_out (LabelParam x) k = group_begins ▹ label true x ▹ group_ends ▹ k
    param_out (LabelPattern x p) k = word class.Label x ▸ group_begins ▹ pat_out p (group_ends ▹ k)
    param_out (DefaultParam x at p run eq e) k =
        word class.Label x ▸ placed key.LeftParen at ▸ group_begins ▹ pat_out p (type_out run (placed key.Equals eq ▸
        expr_out e (group_ends ▹ fixed key.RightParen ▸ k)))
    param_out (WrappedParam at optional at' x run) k =
        placed (wrap optional) at ▸ placed key.LeftParen at' ▸ group_begins ▹ field true x ▹ group_ends ▹ type_out run (fixed key.RightParen ▸ k)
    param_out (WrappedDefault at at' x run eq e) k =
        placed key.Question at ▸ placed key.LeftParen at' ▸ group_begins ▹ field true x ▹ type_out run (placed key.Equals eq ▸
        expr_out e (group_ends ▹ fixed key.RightParen ▸ k))
    param_out (TypesParam at xs) k = placed key.LeftParen at ▸ fixed key.Type ▸ lowers_out xs (fixed key.RightParen ▸ k)

    pub params_out : Params → A → A
    params_out no_param k = k
    params_out (more_param p ps) k = param_out p (params_out ps k)

    pub part_out : Part → A → A
    part_out (LabelPart path x) k = fixed key.Dot ▸ qualifier path ▹ word class.Lower x ▸ k
    part_out (IndexPart at e) k = fixed key.Dot ▸ placed key.LeftParen at ▸ expr_out e (fixed key.RightParen ▸ k)
    part_out (CharPart at e) k = fixed key.Dot ▸ placed key.LeftBracket at ▸ expr_out e (fixed key.RightBracket ▸ k)

    pub parts_out : Parts → A → A
    parts_out no_part k = k
    parts_out (more_part p ps) k = part_out p (parts_out ps k)

    pub field_out : Field → A → A
    field_out (FieldPun path x run) k = qualifier path ▹ field false x ▹ type_out run k
    field_out (AssignedField path x run at e) k = qualifier path ▹ word class.Lower x ▸ type_out run (placed key.Equals at ▸ expr_out e k)

    pub fields_out : Fields → A → A
    fields_out no_field k = k
    fields_out (more_field f fs) k = fixed key.Semicolon ▸ field_out f (fields_out fs k)

  -- ---- modules

  abbrev pub module_name_out : ModuleName → A → A
  module_name_out (UpperName x) k = word class.Upper x ▸ k
  module_name_out (AnyName at) k = placed key.Underscore at ▸ k

  abbrev pub constraint_out : Constraint → A → A
  constraint_out (ConstraintOf a t private b) k = fixed key.Type ▸ (run_of a ▹ (t ▸ optional_out key.Private private (run_of b ▹ k)))

  abbrev pub constraints_out : List Constraint → A → A
  constraints_out [] k = k
  constraints_out (c ∷ cs) k = fixed key.And ▸ constraint_out c (constraints_out cs k)

  abbrev pub withs_out : List WithClause → A → A
  withs_out [] k = k
  withs_out (WithOf c cs ∷ ws) k = fixed key.With ▸ constraint_out c (constraints_out cs (withs_out ws k))

  abbrev pub texts_out : List Name → A → A
  texts_out [] k = k
  texts_out (x ∷ xs) k = word class.Text x ▸ texts_out xs k

  abbrev pub external_out : ValueName → List Tok → ℕ → List Name → A → A
  external_out x run at texts k = fixed key.External ▸ value true x ▹ (fixed key.Colon ▸ (run_of run ▹ (placed key.Equals at ▸ texts_out texts k)))

  abbrev pub open_item_out : ℕ → Option Name → List Name → A → A
  open_item_out at bang path k = placed key.Open at ▸ bang_out bang (module_path path ▹ k)

  abbrev mutual
    pub mod_out : ModExpr → A → A
    mod_out (ModPath path) k = module_path path ▹ k
    mod_out (Struct at is) k = placed key.Struct at ▸ scope_begins ▹ items_out is (scope_ends ▹ fixed key.End ▸ k)
    mod_out (Functor at ps m) k = placed key.Functor at ▸ scope_begins ▹ functor_params_out ps (fixed key.Arrow ▸ mod_out m (scope_ends ▹ k))
    mod_out (ModApply m ms) k = mod_out m (mod_arguments_out ms k)
    mod_out (ModParen at m) k = placed key.LeftParen at ▸ mod_out m (fixed key.RightParen ▸ k)
    mod_out (Sealed at m s) k = placed key.LeftParen at ▸ mod_out m (fixed key.Colon ▸ mod_type_out s (fixed key.RightParen ▸ k))

    pub mod_argument_out : ModArgument → A → A
    mod_argument_out (ModuleArgument at m) k = placed key.LeftParen at ▸ mod_out m (fixed key.RightParen ▸ k)
    mod_argument_out (SealedArgument at m s) k = placed key.LeftParen at ▸ mod_out m (fixed key.Colon ▸ mod_type_out s (fixed key.RightParen ▸ k))
    mod_argument_out (NoArgument at) k = placed key.LeftParen at ▸ fixed key.RightParen ▸ k

    pub mod_arguments_out : ModArguments → A → A
    mod_arguments_out no_mod_argument k = k
    mod_arguments_out (more_mod_argument m ms) k = mod_argument_out m (mod_arguments_out ms k)

    pub functor_param_out : FunctorParam → A → A
    functor_param_out (NamedParam at x s) k =
        placed key.LeftParen at ▸ module_name_out x (fixed key.Colon ▸ mod_type_out s (brings x ▹ fixed key.RightParen ▸ k))
    functor_param_out (NoParam at) k = placed key.LeftParen at ▸ fixed key.RightParen ▸ k

    pub functor_params_out : FunctorParams → A → A
    functor_params_out no_functor_param k = k
    functor_params_out (more_functor_param p ps) k = functor_param_out p (functor_params_out ps k)

    pub mod_type_out : ModType → A → A
    mod_type_out (TypePath path) k = last_path path ▹ k
    mod_type_out (Sig at is) k = placed key.Sig at ▸ scope_begins ▹ sig_items_out is (scope_ends ▹ fixed key.End ▸ k)
    mod_type_out (TypeOf at m) k = placed key.Module at ▸ fixed key.Type ▸ fixed key.Of ▸ mod_out m k
    mod_type_out (TypeParen at s) k = placed key.LeftParen at ▸ mod_type_out s (fixed key.RightParen ▸ k)
    mod_type_out (With s ws) k = mod_type_out s (withs_out ws k)
    mod_type_out (FunctorType at ps s) k =
        placed key.Functor at ▸ scope_begins ▹ functor_params_out ps (fixed key.Arrow ▸ mod_type_out s (scope_ends ▹ k))
    mod_type_out (ParamArrow p s) k = scope_begins ▹ functor_param_out p (fixed key.Arrow ▸ mod_type_out s (scope_ends ▹ k))
    mod_type_out (Arrow s s') k = mod_type_out s (fixed key.Arrow ▸ mod_type_out s' k)

    pub signature_out : MaybeType → A → A
    signature_out no_type k = k
    signature_out (some_type s) k = fixed key.Colon ▸ mod_type_out s k

    pub item_out : Item → A → A
    item_out (ExprItem e) k = expr_out e k
    item_out SeparatorItem k = fixed key.DoubleSemicolon ▸ k
    item_out (ValueItem at rec b bs) k =
        placed key.Let at ▸ optional_out key.Rec rec (bindings_begin ▹ binding_out b (bindings_out bs (group_ends ▹ k)))
    item_out (ExternalItem x run at texts) k = external_out x run at texts k
    item_out (TypeItem run) k = fixed key.Type ▸ run_of run ▹ k
    item_out (ExceptionItem at run) k = placed key.Exception at ▸ run_of run ▹ k
    item_out (ModuleItem at x ps s eq m) k =
        placed key.Module at ▸ module_name_out x (scope_begins ▹ functor_params_out ps (signature_out s (placed key.Equals eq ▸
        mod_out m (scope_ends ▹ brings x ▹ k))))
    item_out (ModuleTypeItem at x eq s) k = placed key.Module at ▸ fixed key.Type ▸ word class.Upper x ▸ placed key.Equals eq ▸ mod_type_out s k
    item_out (OpenItem at bang path) k = open_item_out at bang path k
    item_out (IncludeItem at m) k = placed key.Include at ▸ mod_out m k

    pub items_out : Items → A → A
    items_out no_item k = k
    items_out (more_item i is) k = item_out i (items_out is k)

    pub sig_item_out : SigItem → A → A
    sig_item_out SeparatorSig k = fixed key.DoubleSemicolon ▸ k
    sig_item_out (ValSig x run) k = fixed key.Val ▸ value true x ▹ (fixed key.Colon ▸ run_of run ▹ k)
    sig_item_out (ExternalSig x run at texts) k = external_out x run at texts k
    sig_item_out (TypeSig run) k = fixed key.Type ▸ run_of run ▹ k
    sig_item_out (ExceptionSig at run) k = placed key.Exception at ▸ run_of run ▹ k
    sig_item_out (ModuleSig at x ps s) k =
        placed key.Module at ▸ module_name_out x (scope_begins ▹ functor_params_out ps (fixed key.Colon ▸ mod_type_out s (scope_ends ▹
        brings x ▹ k)))
    sig_item_out (AliasSig at x eq path) k =
        placed key.Module at ▸ word class.Upper x ▸ placed key.Equals eq ▸ module_path path ▹ brings (UpperName x) ▹ k
    sig_item_out (ModuleTypeSig at x eq s) k = placed key.Module at ▸ fixed key.Type ▸ word class.Upper x ▸ placed key.Equals eq ▸ mod_type_out s k
    sig_item_out (OpenSig at bang path) k = open_item_out at bang path k
    sig_item_out (IncludeSig at s) k = placed key.Include at ▸ mod_type_out s k

    pub sig_items_out : SigItems → A → A
    sig_items_out no_sig_item k = k
    sig_items_out (more_sig_item i is) k = sig_item_out i (sig_items_out is k)

  abbrev pub file_out : FileTree → A → A
  file_out (Body file is) k = items_out is k
  file_out (Face file is) k = sig_items_out is k
