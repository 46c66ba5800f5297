-- The groups of trees are those of their steps, in any scope.
use Rattle.std.proofs.Common.{◌≡◌, ℕ, ◌-◌, List, [], ◌∷◌, ◌++◌, true, false, refl, ap, ◌∙◌, append-nil, Option, Some, None}
use Rattle.ml_trees.specs.Tok.{Name as Word}
use Rattle.value_sites.specs.Places.{Site, punned, operated, operator_sites, name_sites, label_site}
use Rattle.ml_trees.specs.Tree.{ValueName, LocalModule, LocalPath, LocalArguments, no_local, more_local, no_module, Expr, Seq, Let, LetOpen}
use Rattle.ml_trees.specs.Tree.{LetModule, Fun, Function, Match, Try, If, Chain, Minus, Apply, ConstrApply, TagApply, Assert, Lazy, Postfix}
use Rattle.ml_trees.specs.Tree.{Prefixed, Literal, BoolExpr, Value, Constr, Tag, UnitExpr, Paren, Typed, Coerced, EmptyBegin, Begin, EmptyList}
use Rattle.ml_trees.specs.Tree.{ListExpr, Record, Opened, While, For, Links, no_link, more_link, MaybeExpr, no_expr, some_expr, Tail, no_else}
use Rattle.ml_trees.specs.Tree.{or_else, or_if, Binding, PlainBinding, AppliedBinding, Bindings, no_binding, more_binding, Case, CaseOf, Cases}
use Rattle.ml_trees.specs.Tree.{no_case, more_case, Argument, Positional, LabelPun, Labelled, Arguments, no_argument, more_argument, Param}
use Rattle.ml_trees.specs.Tree.{PatternParam, LabelParam, LabelPattern, DefaultParam, WrappedParam, WrappedDefault, TypesParam, Params, no_param}
use Rattle.ml_trees.specs.Tree.{more_param, Part, LabelPart, IndexPart, CharPart, Parts, no_part, more_part, Field, FieldPun, AssignedField, Fields}
use Rattle.ml_trees.specs.Tree.{no_field, more_field, ModExpr, ModPath, Struct, Functor, ModApply, ModParen, Sealed, ModArgument, ModuleArgument}
use Rattle.ml_trees.specs.Tree.{SealedArgument, NoArgument, ModArguments, no_mod_argument, more_mod_argument, FunctorParam, NamedParam, NoParam}
use Rattle.ml_trees.specs.Tree.{FunctorParams, no_functor_param, more_functor_param, ModType, TypePath, Sig, TypeOf, TypeParen, With, FunctorType}
use Rattle.ml_trees.specs.Tree.{ParamArrow, Arrow, MaybeType, no_type, some_type, Item, ExprItem, SeparatorItem, ValueItem, ExternalItem, TypeItem}
use Rattle.ml_trees.specs.Tree.{ExceptionItem, ModuleItem, ModuleTypeItem, OpenItem, IncludeItem, Items, no_item, more_item, SigItem, SeparatorSig}
use Rattle.ml_trees.specs.Tree.{ValSig, ExternalSig, TypeSig, ExceptionSig, ModuleSig, AliasSig, ModuleTypeSig, OpenSig, IncludeSig, SigItems}
use Rattle.ml_trees.specs.Tree.{no_sig_item, more_sig_item, FileTree, Body, Face, UnitTree}
use Rattle.shape_core.specs.Shape.{Shape, Struct as Structure, Functor as FunctorShape, Unitary, Opaque, Entries, none, a_mod, ◌⊕◌, brought}
use Rattle.binding_model.specs.Variables.{variables, param_variables, for_variables}
use Rattle.binding_model.specs.Scopes.{path_shape, applied, local_shape, here, bound, let_bound, let_scope, params_bound, opens, sig_opens, mod_shape}
use Rattle.binding_model.specs.Scopes.{params_in, param_in, adds, type_shape, sig_adds, after_unit}
use Rattle.binding_model.specs.Steps.{Steps, groups_of}
use Rattle.binding_model.specs.Walk.{path_start, pat_steps, apply_steps, local_steps, locals_steps, uses, uses_under, value_steps, expr_steps}
use Rattle.binding_model.specs.Walk.{links_steps, maybe_steps, tail_steps, binding_steps, bindings_steps, case_steps, cases_steps, argument_steps}
use Rattle.binding_model.specs.Walk.{arguments_steps, param_steps, params_steps, part_steps, parts_steps, field_steps, fields_steps, mod_steps}
use Rattle.binding_model.specs.Walk.{mod_argument_steps, mod_arguments_steps, functor_param_steps, functor_steps, type_steps, sealing_steps}
use Rattle.binding_model.specs.Walk.{item_steps, items_steps, sig_item_steps, sig_items_steps, file_steps, maybe_file_steps, unit_links, unit_steps}
use Rattle.binding_model.specs.Walk.{units_steps}
use Rattle.group_walk.specs.Groups.{expr_groups, links_groups, optional_groups, tail_groups, binding_groups, bindings_groups, case_groups}
use Rattle.group_walk.specs.Groups.{cases_groups, argument_groups, arguments_groups, param_groups, params_groups, part_groups, parts_groups}
use Rattle.group_walk.specs.Groups.{field_groups, fields_groups, mod_groups, mod_argument_groups, mod_arguments_groups, functor_param_groups}
use Rattle.group_walk.specs.Groups.{functor_groups, type_groups, item_groups, items_groups, sig_item_groups, sig_items_groups, maybe_type_groups}
use Rattle.group_walk.specs.Groups.{file_groups, maybe_groups, unit_groups, units_groups}

-- two parts of some steps
both : {A : Type 0} {a a' b b' : List A} → a ≡ a' → b ≡ b' → a ++ b ≡ a' ++ b'
both {A} {a} {a'} {b} {b'} h k = ap (λ s. s ++ b) h ∙ ap (λ s. a' ++ s) k

-- parts of which one has no group
last : {A : Type 0} {a a' : List A} → a ≡ a' → a ++ [] ≡ a'
last {A} {a} {a'} h = append-nil a ∙ h

ends : {A : Type 0} {a a' b : List A} → a ≡ a' → b ≡ [] → a ++ b ≡ a'
ends {A} {a} {a'} {b} h k = ap (λ s. a ++ s) k ∙ last h

none_then : {A : Type 0} {a b b' : List A} → a ≡ [] → b ≡ b' → a ++ b ≡ b'
none_then {A} {a} {b} {b'} h k = ap (λ s. s ++ b) h ∙ k

no_uses : (xs : List Site) (file : ℕ) (sc : Entries) → groups_of (uses file sc xs) ≡ []
no_uses [] file sc = refl
no_uses (x ∷ xs) file sc = no_uses xs file sc

no_uses_under : (xs : List Site) (file : ℕ) (s : Shape) → groups_of (uses_under file s xs) ≡ []
no_uses_under [] file s = refl
no_uses_under (x ∷ xs) file s = no_uses_under xs file s

no_value : (file : ℕ) (path : List Word) (x : ValueName) (sc : Entries) → groups_of (value_steps file sc path x) ≡ []
no_value file [] x sc = no_uses (name_sites [] false x) file sc
no_value file (X ∷ path) x sc = no_uses_under (name_sites [] false x) file (path_shape sc (X ∷ path))

no_apply : (f a : Shape) → groups_of (apply_steps f a) ≡ []
no_apply (Structure es) a = refl
no_apply (FunctorShape p r) a = refl
no_apply (Unitary r) a = refl
no_apply Opaque a = refl

mutual
  no_local_groups : (m : LocalModule) (sc : Entries) → groups_of (local_steps sc m) ≡ []
  no_local_groups (LocalPath path ms) sc = no_locals ms sc (path_shape sc path)

  no_locals : (ms : LocalArguments) (sc : Entries) (f : Shape) → groups_of (locals_steps sc f ms) ≡ []
  no_locals no_local sc f = refl
  no_locals (more_local at m ms) sc f = none_then (no_local_groups m sc) (none_then (no_apply f (local_shape sc m)) (no_locals ms sc (applied f)))
  no_locals (no_module at ms) sc f = none_then (no_apply f (Structure none)) (no_locals ms sc (applied f))

module _ (file : ℕ) where
  mutual
    pub expr_found : (x : Expr) (sc : Entries) → groups_of (expr_steps file sc x) ≡ expr_groups file x
    expr_found (Seq e es last) sc = both (expr_found e sc) (links_found es sc)
    expr_found (Let at rec b bs e) sc =
        ap (λ l. let_bound file b bs ∷ l)
        (both (binding_found b (let_scope file rec sc b bs))
        (both (bindings_found bs (let_scope file rec sc b bs)) (expr_found e (sc ⊕ let_bound file b bs))))
    expr_found (LetOpen at at' bang path e) sc = expr_found e (sc ⊕ brought (path_shape sc path) (here file at'))
    expr_found (LetModule at at' x eq m e) sc = none_then (no_local_groups m sc) (expr_found e (sc ⊕ a_mod x.text (local_shape sc m) none))
    expr_found (Fun at ps e) sc = both (params_found ps sc) (expr_found e (sc ⊕ params_bound file ps))
    expr_found (Function at bar c cs) sc = both (case_found c sc) (cases_found cs sc)
    expr_found (Match at e bar c cs) sc = both (expr_found e sc) (both (case_found c sc) (cases_found cs sc))
    expr_found (Try at e bar c cs) sc = both (expr_found e sc) (both (case_found c sc) (cases_found cs sc))
    expr_found (If at c a tail) sc = both (expr_found c sc) (both (expr_found a sc) (tail_found tail sc))
    expr_found (Chain n e es) sc = both (expr_found e sc) (links_found es sc)
    expr_found (Minus x e) sc = none_then (no_uses (operated false x.at (126 ∷ x.text) ∷ []) file sc) (expr_found e sc)
    expr_found (Apply f es) sc = both (expr_found f sc) (arguments_found es sc)
    expr_found (ConstrApply path e) sc = expr_found e sc
    expr_found (TagApply x e) sc = expr_found e sc
    expr_found (Assert at e) sc = expr_found e sc
    expr_found (Lazy at e) sc = expr_found e sc
    expr_found (Postfix e ps) sc = both (expr_found e sc) (parts_found ps sc)
    expr_found (Prefixed x e) sc = none_then (no_uses (operated false x.at x.text ∷ []) file sc) (expr_found e sc)
    expr_found (Literal c x) sc = refl
    expr_found (BoolExpr at b) sc = refl
    expr_found (Value path x) sc = no_value file path x sc
    expr_found (Constr path) sc = refl
    expr_found (Tag x) sc = refl
    expr_found (UnitExpr at) sc = refl
    expr_found (Paren at e) sc = expr_found e sc
    expr_found (Typed at e run) sc = expr_found e sc
    expr_found (Coerced at e from to) sc = expr_found e sc
    expr_found (EmptyBegin at) sc = refl
    expr_found (Begin at e) sc = expr_found e sc
    expr_found (EmptyList at b) sc = refl
    expr_found (ListExpr at b e es last) sc = both (expr_found e sc) (links_found es sc)
    expr_found (Record at base f fs last) sc = both (optional_found base sc) (both (field_found f sc) (fields_found fs sc))
    expr_found (Opened path e) sc = expr_found e (sc ⊕ brought (path_shape sc path) (here file (path_start path)))
    expr_found (While at c e) sc = both (expr_found c sc) (expr_found e sc)
    expr_found (For at x eq a down b e) sc =
        both (expr_found a sc) (both (expr_found b sc)
        (ap (λ l. bound file (for_variables x) ∷ l) (expr_found e (sc ⊕ bound file (for_variables x)))))

    pub links_found : (x : Links) (sc : Entries) → groups_of (links_steps file sc x) ≡ links_groups file x
    links_found no_link sc = refl
    links_found (more_link t e es) sc = none_then (no_uses (operator_sites [] false t) file sc) (both (expr_found e sc) (links_found es sc))

    pub optional_found : (x : MaybeExpr) (sc : Entries) → groups_of (maybe_steps file sc x) ≡ optional_groups file x
    optional_found no_expr sc = refl
    optional_found (some_expr e) sc = expr_found e sc

    pub tail_found : (x : Tail) (sc : Entries) → groups_of (tail_steps file sc x) ≡ tail_groups file x
    tail_found no_else sc = refl
    tail_found (or_else e) sc = expr_found e sc
    tail_found (or_if at c a tail) sc = both (expr_found c sc) (both (expr_found a sc) (tail_found tail sc))

    pub binding_found : (x : Binding) (sc : Entries) → groups_of (binding_steps file sc x) ≡ binding_groups file x
    binding_found (PlainBinding p run at e) sc = ap (λ l. groups_of (pat_steps file p) ++ l) (expr_found e sc)
    binding_found (AppliedBinding x ps run at e) sc = both (params_found ps sc) (expr_found e (sc ⊕ params_bound file ps))

    pub bindings_found : (x : Bindings) (sc : Entries) → groups_of (bindings_steps file sc x) ≡ bindings_groups file x
    bindings_found no_binding sc = refl
    bindings_found (more_binding b bs) sc = both (binding_found b sc) (bindings_found bs sc)

    pub case_found : (x : Case) (sc : Entries) → groups_of (case_steps file sc x) ≡ case_groups file x
    case_found (CaseOf p guard e) sc =
        ap (λ l. groups_of (pat_steps file p) ++ l)
        (ap (λ l. bound file (variables p) ∷ l)
        (both (optional_found guard (sc ⊕ bound file (variables p))) (expr_found e (sc ⊕ bound file (variables p)))))

    pub cases_found : (x : Cases) (sc : Entries) → groups_of (cases_steps file sc x) ≡ cases_groups file x
    cases_found no_case sc = refl
    cases_found (more_case c cs) sc = both (case_found c sc) (cases_found cs sc)

    pub argument_found : (x : Argument) (sc : Entries) → groups_of (argument_steps file sc x) ≡ argument_groups file x
    argument_found (Positional e) sc = expr_found e sc
    argument_found (LabelPun x) sc = no_uses (label_site false x ∷ []) file sc
    argument_found (Labelled x e) sc = expr_found e sc

    pub arguments_found : (x : Arguments) (sc : Entries) → groups_of (arguments_steps file sc x) ≡ arguments_groups file x
    arguments_found no_argument sc = refl
    arguments_found (more_argument a es) sc = both (argument_found a sc) (arguments_found es sc)

    pub param_found : (x : Param) (sc : Entries) → groups_of (param_steps file sc x) ≡ param_groups file x
    param_found (PatternParam p) sc = refl
    param_found (LabelParam x) sc = refl
    param_found (LabelPattern x p) sc = refl
    param_found (DefaultParam x at p run eq e) sc =
        ap (λ l. groups_of (pat_steps file p) ++ l) (ap (λ l. l ++ (bound file (variables p) ∷ [])) (expr_found e sc))
    param_found (WrappedParam at optional at' x run) sc = refl
    param_found (WrappedDefault at at' x run eq e) sc = ap (λ l. l ++ (bound file (punned true x.at x.text ∷ []) ∷ [])) (expr_found e sc)
    param_found (TypesParam at xs) sc = refl

    pub params_found : (x : Params) (sc : Entries) → groups_of (params_steps file sc x) ≡ params_groups file x
    params_found no_param sc = refl
    params_found (more_param p ps) sc = both (param_found p sc) (params_found ps (sc ⊕ bound file (param_variables p)))

    pub part_found : (x : Part) (sc : Entries) → groups_of (part_steps file sc x) ≡ part_groups file x
    part_found (LabelPart path x) sc = refl
    part_found (IndexPart at e) sc = expr_found e sc
    part_found (CharPart at e) sc = expr_found e sc

    pub parts_found : (x : Parts) (sc : Entries) → groups_of (parts_steps file sc x) ≡ parts_groups file x
    parts_found no_part sc = refl
    parts_found (more_part p ps) sc = both (part_found p sc) (parts_found ps sc)

    pub field_found : (x : Field) (sc : Entries) → groups_of (field_steps file sc x) ≡ field_groups file x
    field_found (FieldPun path x run) sc = no_uses (punned false x.at x.text ∷ []) file sc
    field_found (AssignedField path x run at e) sc = expr_found e sc

    pub fields_found : (x : Fields) (sc : Entries) → groups_of (fields_steps file sc x) ≡ fields_groups file x
    fields_found no_field sc = refl
    fields_found (more_field f fs) sc = both (field_found f sc) (fields_found fs sc)

  mutual
    pub mod_found : (x : ModExpr) (sc : Entries) → groups_of (mod_steps file sc x) ≡ mod_groups file x
    mod_found (ModPath path) sc = refl
    mod_found (Struct at is) sc = items_found is sc
    mod_found (Functor at ps m) sc = both (functor_found ps sc) (mod_found m (sc ⊕ params_in file sc ps))
    mod_found (ModApply m ms) sc = both (mod_found m sc) (mod_arguments_found ms sc (mod_shape file sc m))
    mod_found (ModParen at m) sc = mod_found m sc
    mod_found (Sealed at m s) sc = both (mod_found m sc) (last (type_found s sc))

    pub mod_argument_found : (x : ModArgument) (sc : Entries) (f : Shape) → groups_of (mod_argument_steps file sc f x) ≡ mod_argument_groups file x
    mod_argument_found (ModuleArgument at m) sc f = ends (mod_found m sc) (no_apply f (mod_shape file sc m))
    mod_argument_found (SealedArgument at m s) sc f = both (mod_found m sc) (ends (type_found s sc) (no_apply f (type_shape file sc s)))
    mod_argument_found (NoArgument at) sc f = no_apply f (Structure none)

    pub mod_arguments_found : (x : ModArguments) (sc : Entries) (f : Shape)
        → groups_of (mod_arguments_steps file sc f x) ≡ mod_arguments_groups file x
    mod_arguments_found no_mod_argument sc f = refl
    mod_arguments_found (more_mod_argument m ms) sc f = both (mod_argument_found m sc f) (mod_arguments_found ms sc (applied f))

    pub functor_param_found : (x : FunctorParam) (sc : Entries) → groups_of (functor_param_steps file sc x) ≡ functor_param_groups file x
    functor_param_found (NamedParam at x s) sc = last (type_found s sc)
    functor_param_found (NoParam at) sc = refl

    pub functor_found : (x : FunctorParams) (sc : Entries) → groups_of (functor_steps file sc x) ≡ functor_groups file x
    functor_found no_functor_param sc = refl
    functor_found (more_functor_param p ps) sc = both (functor_param_found p sc) (functor_found ps (sc ⊕ param_in file sc p))

    pub type_found : (x : ModType) (sc : Entries) → groups_of (type_steps file sc x) ≡ type_groups file x
    type_found (TypePath path) sc = refl
    type_found (Sig at is) sc = sig_items_found is sc
    type_found (TypeOf at m) sc = mod_found m sc
    type_found (TypeParen at s) sc = type_found s sc
    type_found (With s ws) sc = type_found s sc
    type_found (FunctorType at ps s) sc = both (functor_found ps sc) (type_found s (sc ⊕ params_in file sc ps))
    type_found (ParamArrow p s) sc = both (functor_param_found p sc) (type_found s (sc ⊕ param_in file sc p))
    type_found (Arrow s t) sc = both (type_found s sc) (type_found t sc)

    pub item_found : (x : Item) (sc : Entries) → groups_of (item_steps file sc x) ≡ item_groups file x
    item_found (ExprItem e) sc = expr_found e sc
    item_found SeparatorItem sc = refl
    item_found (ValueItem at rec b bs) sc =
        ap (λ l. let_bound file b bs ∷ l) (both (binding_found b (let_scope file rec sc b bs)) (bindings_found bs (let_scope file rec sc b bs)))
    item_found (ExternalItem x run at ts) sc = refl
    item_found (TypeItem run) sc = refl
    item_found (ExceptionItem at run) sc = refl
    item_found (ModuleItem at x ps s eq m) sc =
        both (functor_found ps sc)
        (last (sealed_found s (sc ⊕ params_in file sc ps) (mod_steps file (sc ⊕ params_in file sc ps) m)
        (mod_shape file (sc ⊕ params_in file sc ps) m) _ (mod_found m (sc ⊕ params_in file sc ps))))
    item_found (ModuleTypeItem at x eq s) sc = last (type_found s sc)
    item_found (OpenItem at bang path) sc = refl
    item_found (IncludeItem at m) sc = last (mod_found m sc)

    pub items_found : (x : Items) (sc : Entries) → groups_of (items_steps file sc x) ≡ items_groups file x
    items_found no_item sc = refl
    items_found (more_item i is) sc = both (item_found i sc) (items_found is (sc ⊕ adds file sc i ⊕ opens file sc i))

    pub sig_item_found : (x : SigItem) (sc : Entries) → groups_of (sig_item_steps file sc x) ≡ sig_item_groups file x
    sig_item_found SeparatorSig sc = refl
    sig_item_found (ValSig x run) sc = refl
    sig_item_found (ExternalSig x run at ts) sc = refl
    sig_item_found (TypeSig run) sc = refl
    sig_item_found (ExceptionSig at run) sc = refl
    sig_item_found (ModuleSig at x ps s) sc = both (functor_found ps sc) (last (type_found s (sc ⊕ params_in file sc ps)))
    sig_item_found (AliasSig at x eq path) sc = refl
    sig_item_found (ModuleTypeSig at x eq s) sc = last (type_found s sc)
    sig_item_found (OpenSig at bang path) sc = refl
    sig_item_found (IncludeSig at s) sc = last (type_found s sc)

    pub sig_items_found : (x : SigItems) (sc : Entries) → groups_of (sig_items_steps file sc x) ≡ sig_items_groups file x
    sig_items_found no_sig_item sc = refl
    sig_items_found (more_sig_item i is) sc = both (sig_item_found i sc) (sig_items_found is (sc ⊕ sig_adds file sc i ⊕ sig_opens file sc i))

    sealed_found : (x : MaybeType) (sc : Entries) (b : Steps) (s : Shape) (gs : List Entries) → groups_of b ≡ gs
        → groups_of (sealing_steps file sc x b s) ≡ maybe_type_groups file x ++ gs
    sealed_found no_type sc b s gs h = h
    sealed_found (some_type t) sc b s gs h = both (type_found t sc) (last h)

file_found : (t : FileTree) (sc : Entries) → groups_of (file_steps sc t) ≡ file_groups t
file_found (Body file is) sc = items_found file is sc
file_found (Face file is) sc = sig_items_found file is sc

maybe_found : (o : Option FileTree) (sc : Entries) → groups_of (maybe_file_steps sc o) ≡ maybe_groups o
maybe_found None sc = refl
maybe_found (Some t) sc = file_found t sc

no_links : (sc : Entries) (b f : Option FileTree) → groups_of (unit_links sc b f) ≡ []
no_links sc None None = refl
no_links sc (Some b) None = refl
no_links sc None (Some f) = refl
no_links sc (Some b) (Some f) = refl

unit_found : (u : UnitTree) (sc : Entries) → groups_of (unit_steps sc u) ≡ unit_groups u
unit_found u sc = both (maybe_found u.body sc) (ends (maybe_found u.face sc) (last (no_links sc u.body u.face)))

pub units_found : (us : List UnitTree) (sc : Entries) → groups_of (units_steps sc us) ≡ units_groups us
units_found [] sc = refl
units_found (u ∷ us) sc = both (unit_found u sc) (units_found us (after_unit sc u))
