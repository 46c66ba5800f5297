-- The groups of expressions, modules and units: they depend on no scope (own).
use Rattle.std.specs.Prelude.{ℕ, List, [], Option, Some, None, true, ◌∷◌, ◌++◌}
use Rattle.value_sites.specs.Places.{punned, label_site}
use Rattle.ml_trees.specs.Tree.{Expr, Seq, Let, LetOpen, LetModule, Fun, Function, Match, Try, If, Chain, Minus, Apply, ConstrApply, TagApply}
use Rattle.ml_trees.specs.Tree.{Assert, Lazy, Postfix, Prefixed, Literal, BoolExpr, Value, Constr, Tag, UnitExpr, Paren, Typed, Coerced, EmptyBegin}
use Rattle.ml_trees.specs.Tree.{Begin, EmptyList, ListExpr, Record, Opened, While, For, Links, no_link, more_link, MaybeExpr, no_expr, some_expr}
use Rattle.ml_trees.specs.Tree.{Tail, no_else, or_else, or_if, Binding, PlainBinding, AppliedBinding, Bindings, no_binding, more_binding, Case}
use Rattle.ml_trees.specs.Tree.{CaseOf, Cases, no_case, more_case, Argument, Positional, LabelPun, Labelled, Arguments, no_argument, more_argument}
use Rattle.ml_trees.specs.Tree.{Param, PatternParam, LabelParam, LabelPattern, DefaultParam, WrappedParam, WrappedDefault, TypesParam, Params}
use Rattle.ml_trees.specs.Tree.{no_param, more_param, Part, LabelPart, IndexPart, CharPart, Parts, no_part, more_part, Field, FieldPun}
use Rattle.ml_trees.specs.Tree.{AssignedField, Fields, no_field, more_field, ModExpr, ModPath, Struct, Functor, ModApply, ModParen, Sealed}
use Rattle.ml_trees.specs.Tree.{ModArgument, ModuleArgument, SealedArgument, NoArgument, ModArguments, no_mod_argument, more_mod_argument}
use Rattle.ml_trees.specs.Tree.{FunctorParam, NamedParam, NoParam, FunctorParams, no_functor_param, more_functor_param, ModType, TypePath, Sig}
use Rattle.ml_trees.specs.Tree.{TypeOf, TypeParen, With, FunctorType, ParamArrow, Arrow, MaybeType, no_type, some_type, Item, ExprItem}
use Rattle.ml_trees.specs.Tree.{SeparatorItem, ValueItem, ExternalItem, TypeItem, ExceptionItem, ModuleItem, ModuleTypeItem, OpenItem, IncludeItem}
use Rattle.ml_trees.specs.Tree.{Items, no_item, more_item, SigItem, SeparatorSig, ValSig, ExternalSig, TypeSig, ExceptionSig, ModuleSig, AliasSig}
use Rattle.ml_trees.specs.Tree.{ModuleTypeSig, OpenSig, IncludeSig, SigItems, no_sig_item, more_sig_item, FileTree, Body, Face, UnitTree}
use Rattle.shape_core.specs.Shape.{Entries}
use Rattle.binding_model.specs.Scopes.{bound, let_bound}
use Rattle.binding_model.specs.Steps.{groups_of}
use Rattle.binding_model.specs.Variables.{variables, for_variables}
use Rattle.binding_model.specs.Walk.{pat_steps}

module _ (file : ℕ) where
  abbrev mutual
    pub expr_groups : Expr → List Entries
    expr_groups (Seq e es last) = expr_groups e ++ links_groups es
    expr_groups (Let at rec b bs e) = let_bound file b bs ∷ (binding_groups b ++ (bindings_groups bs ++ expr_groups e))
    expr_groups (LetOpen at at' bang path e) = expr_groups e
    expr_groups (LetModule at at' x eq m e) = expr_groups e
    expr_groups (Fun at ps e) = params_groups ps ++ expr_groups e
    expr_groups (Function at bar c cs) = case_groups c ++ cases_groups cs
    expr_groups (Match at e bar c cs) = expr_groups e ++ (case_groups c ++ cases_groups cs)
    expr_groups (Try at e bar c cs) = expr_groups e ++ (case_groups c ++ cases_groups cs)
    expr_groups (If at c a tail) = expr_groups c ++ (expr_groups a ++ tail_groups tail)
    expr_groups (Chain n e es) = expr_groups e ++ links_groups es
    expr_groups (Minus x e) = expr_groups e
    expr_groups (Apply f es) = expr_groups f ++ arguments_groups es
    expr_groups (ConstrApply path e) = expr_groups e
    expr_groups (TagApply x e) = expr_groups e
    expr_groups (Assert at e) = expr_groups e
    expr_groups (Lazy at e) = expr_groups e
    expr_groups (Postfix e ps) = expr_groups e ++ parts_groups ps
    expr_groups (Prefixed x e) = expr_groups e
    expr_groups (Literal c x) = []
    expr_groups (BoolExpr at b) = []
    expr_groups (Value path x) = []
    expr_groups (Constr path) = []
    expr_groups (Tag x) = []
    expr_groups (UnitExpr at) = []
    expr_groups (Paren at e) = expr_groups e
    expr_groups (Typed at e run) = expr_groups e
    expr_groups (Coerced at e from to) = expr_groups e
    expr_groups (EmptyBegin at) = []
    expr_groups (Begin at e) = expr_groups e
    expr_groups (EmptyList at b) = []
    expr_groups (ListExpr at b e es last) = expr_groups e ++ links_groups es
    expr_groups (Record at base f fs last) = optional_groups base ++ (field_groups f ++ fields_groups fs)
    expr_groups (Opened path e) = expr_groups e
    expr_groups (While at c e) = expr_groups c ++ expr_groups e
    expr_groups (For at x eq a down b e) = expr_groups a ++ (expr_groups b ++ (bound file (for_variables x) ∷ (expr_groups e)))

    pub links_groups : Links → List Entries
    links_groups no_link = []
    links_groups (more_link t e es) = expr_groups e ++ links_groups es

    pub optional_groups : MaybeExpr → List Entries
    optional_groups no_expr = []
    optional_groups (some_expr e) = expr_groups e

    pub tail_groups : Tail → List Entries
    tail_groups no_else = []
    tail_groups (or_else e) = expr_groups e
    tail_groups (or_if at c a tail) = expr_groups c ++ (expr_groups a ++ tail_groups tail)

    pub binding_groups : Binding → List Entries
    binding_groups (PlainBinding p run at e) = groups_of (pat_steps file p) ++ expr_groups e
    binding_groups (AppliedBinding x ps run at e) = params_groups ps ++ expr_groups e

    pub bindings_groups : Bindings → List Entries
    bindings_groups no_binding = []
    bindings_groups (more_binding b bs) = binding_groups b ++ bindings_groups bs

    pub case_groups : Case → List Entries
    case_groups (CaseOf p guard e) = groups_of (pat_steps file p) ++ (bound file (variables p) ∷ (optional_groups guard ++ expr_groups e))

    pub cases_groups : Cases → List Entries
    cases_groups no_case = []
    cases_groups (more_case c cs) = case_groups c ++ cases_groups cs

    pub argument_groups : Argument → List Entries
    argument_groups (Positional e) = expr_groups e
    argument_groups (LabelPun x) = []
    argument_groups (Labelled x e) = expr_groups e

    pub arguments_groups : Arguments → List Entries
    arguments_groups no_argument = []
    arguments_groups (more_argument a es) = argument_groups a ++ arguments_groups es

    pub param_groups : Param → List Entries
    param_groups (PatternParam p) = groups_of (pat_steps file p) ++ (bound file (variables p) ∷ [])
    param_groups (LabelParam x) = bound file (label_site true x ∷ []) ∷ []
    param_groups (LabelPattern x p) = groups_of (pat_steps file p) ++ (bound file (variables p) ∷ [])
    param_groups (DefaultParam x at p run eq e) = groups_of (pat_steps file p) ++ (expr_groups e ++ (bound file (variables p) ∷ []))
    param_groups (WrappedParam at optional at' x run) = bound file (punned true x.at x.text ∷ []) ∷ []
    param_groups (WrappedDefault at at' x run eq e) = expr_groups e ++ (bound file (punned true x.at x.text ∷ []) ∷ [])
    param_groups (TypesParam at xs) = []

    pub params_groups : Params → List Entries
    params_groups no_param = []
    params_groups (more_param p ps) = param_groups p ++ params_groups ps

    pub part_groups : Part → List Entries
    part_groups (LabelPart path x) = []
    part_groups (IndexPart at e) = expr_groups e
    part_groups (CharPart at e) = expr_groups e

    pub parts_groups : Parts → List Entries
    parts_groups no_part = []
    parts_groups (more_part p ps) = part_groups p ++ parts_groups ps

    pub field_groups : Field → List Entries
    field_groups (FieldPun path x run) = []
    field_groups (AssignedField path x run at e) = expr_groups e

    pub fields_groups : Fields → List Entries
    fields_groups no_field = []
    fields_groups (more_field f fs) = field_groups f ++ fields_groups fs

  abbrev mutual
    pub mod_groups : ModExpr → List Entries
    mod_groups (ModPath path) = []
    mod_groups (Struct at is) = items_groups is
    mod_groups (Functor at ps m) = functor_groups ps ++ mod_groups m
    mod_groups (ModApply m ms) = mod_groups m ++ mod_arguments_groups ms
    mod_groups (ModParen at m) = mod_groups m
    mod_groups (Sealed at m s) = mod_groups m ++ type_groups s

    pub mod_argument_groups : ModArgument → List Entries
    mod_argument_groups (ModuleArgument at m) = mod_groups m
    mod_argument_groups (SealedArgument at m s) = mod_groups m ++ type_groups s
    mod_argument_groups (NoArgument at) = []

    pub mod_arguments_groups : ModArguments → List Entries
    mod_arguments_groups no_mod_argument = []
    mod_arguments_groups (more_mod_argument m ms) = mod_argument_groups m ++ mod_arguments_groups ms

    pub functor_param_groups : FunctorParam → List Entries
    functor_param_groups (NamedParam at x s) = type_groups s
    functor_param_groups (NoParam at) = []

    pub functor_groups : FunctorParams → List Entries
    functor_groups no_functor_param = []
    functor_groups (more_functor_param p ps) = functor_param_groups p ++ functor_groups ps

    pub type_groups : ModType → List Entries
    type_groups (TypePath path) = []
    type_groups (Sig at is) = sig_items_groups is
    type_groups (TypeOf at m) = mod_groups m
    type_groups (TypeParen at s) = type_groups s
    type_groups (With s ws) = type_groups s
    type_groups (FunctorType at ps s) = functor_groups ps ++ type_groups s
    type_groups (ParamArrow p s) = functor_param_groups p ++ type_groups s
    type_groups (Arrow s t) = type_groups s ++ type_groups t

    pub item_groups : Item → List Entries
    item_groups (ExprItem e) = expr_groups e
    item_groups SeparatorItem = []
    item_groups (ValueItem at rec b bs) = let_bound file b bs ∷ (binding_groups b ++ bindings_groups bs)
    item_groups (ExternalItem x run at ts) = []
    item_groups (TypeItem run) = []
    item_groups (ExceptionItem at run) = []
    item_groups (ModuleItem at x ps s eq m) = functor_groups ps ++ (maybe_type_groups s ++ mod_groups m)
    item_groups (ModuleTypeItem at x eq s) = type_groups s
    item_groups (OpenItem at bang path) = []
    item_groups (IncludeItem at m) = mod_groups m

    pub items_groups : Items → List Entries
    items_groups no_item = []
    items_groups (more_item i is) = item_groups i ++ items_groups is

    pub sig_item_groups : SigItem → List Entries
    sig_item_groups SeparatorSig = []
    sig_item_groups (ValSig x run) = []
    sig_item_groups (ExternalSig x run at ts) = []
    sig_item_groups (TypeSig run) = []
    sig_item_groups (ExceptionSig at run) = []
    sig_item_groups (ModuleSig at x ps s) = functor_groups ps ++ type_groups s
    sig_item_groups (AliasSig at x eq path) = []
    sig_item_groups (ModuleTypeSig at x eq s) = type_groups s
    sig_item_groups (OpenSig at bang path) = []
    sig_item_groups (IncludeSig at s) = type_groups s

    pub sig_items_groups : SigItems → List Entries
    sig_items_groups no_sig_item = []
    sig_items_groups (more_sig_item i is) = sig_item_groups i ++ sig_items_groups is

    pub maybe_type_groups : MaybeType → List Entries
    maybe_type_groups no_type = []
    maybe_type_groups (some_type s) = type_groups s

abbrev pub file_groups : FileTree → List Entries
file_groups (Body file is) = items_groups file is
file_groups (Face file is) = sig_items_groups file is

abbrev pub maybe_groups : Option FileTree → List Entries
maybe_groups None = []
maybe_groups (Some t) = file_groups t

abbrev pub unit_groups : UnitTree → List Entries
unit_groups u = maybe_groups u.body ++ maybe_groups u.face

-- the groups of a project
abbrev pub units_groups : List UnitTree → List Entries
units_groups [] = []
units_groups (u ∷ us) = unit_groups u ++ units_groups us
