-- What is said of all places found in a tree is said of those found before it.
use Rattle.std.proofs.Common.{List, [], ◌∷◌, ◌++◌, Bool, true, false, codes}
use Rattle.ml_trees.specs.declared.fixed.Fixed.TheVariants as key
use Rattle.value_sites.specs.Each.{Each}
use Rattle.ml_trees.specs.Tok.{Tok, placed, word}
use Rattle.value_sites.specs.Places.{Site, plain, punned, operated, operator_sites, name_sites, label_site}
use Rattle.value_sites.proofs.SitesByForm.{names_sites, pat_sites, pats_sites}
use Rattle.value_sites.specs.Places.{variable_sites}
use Rattle.value_sites.proofs.SitesByForm.{pat_field_sites, pat_fields_sites, expr_sites, links_sites, maybe_sites, tail_sites, binding_sites}
use Rattle.value_sites.proofs.SitesByForm.{bindings_sites, case_sites, cases_sites, argument_sites, arguments_sites, param_sites, params_sites}
use Rattle.value_sites.proofs.SitesByForm.{part_sites}
use Rattle.value_sites.proofs.SitesByForm.{parts_sites, field_sites, fields_sites, mod_sites, mod_argument_sites, mod_arguments_sites}
use Rattle.value_sites.proofs.SitesByForm.{functor_param_sites}
use Rattle.value_sites.proofs.SitesByForm.{functor_params_sites, mod_type_sites, signature_sites, item_sites, items_sites, sig_item_sites}
use Rattle.value_sites.proofs.SitesByForm.{sig_items_sites}
use Rattle.ml_trees.specs.Tree.{ValueName, PlainName, OperatorName, Pat, AsPat, OrPat, TuplePat, ConsPat, ConstrApplyPat, TagApplyPat, LazyPat}
use Rattle.ml_trees.specs.Tree.{ExceptionPat, AnyPat, ValuePat, LiteralPat, NegativePat, RangePat, ConstrPat, TagPat, BoolPat, UnitPat, ParenPat}
use Rattle.ml_trees.specs.Tree.{TypedPat, EmptyPat, ListPat, RecordPat, OpenedPat, Pats, no_pat, more_pat, PatField, PunnedField, MatchedField}
use Rattle.ml_trees.specs.Tree.{PatFields, no_pat_field, more_pat_field, Variable, PlainVariable, AnyVariable, Expr, Seq, Let, LetOpen, LetModule}
use Rattle.ml_trees.specs.Tree.{Fun, Function, Match, Try, If, Chain, Minus, Apply, ConstrApply, TagApply, Assert, Lazy, Postfix, Prefixed, Literal}
use Rattle.ml_trees.specs.Tree.{BoolExpr, Value, Constr, Tag, UnitExpr, Paren, Typed, Coerced, EmptyBegin, Begin, EmptyList, ListExpr, Record}
use Rattle.ml_trees.specs.Tree.{Opened, While, For, Links, no_link, more_link, MaybeExpr, no_expr, some_expr, Tail, no_else, or_else, or_if, Binding}
use Rattle.ml_trees.specs.Tree.{PlainBinding, AppliedBinding, Bindings, no_binding, more_binding, Case, CaseOf, Cases, no_case, more_case, Argument}
use Rattle.ml_trees.specs.Tree.{Positional, LabelPun, Labelled, Arguments, no_argument, more_argument, Param, PatternParam, LabelParam, LabelPattern}
use Rattle.ml_trees.specs.Tree.{DefaultParam, WrappedParam, WrappedDefault, TypesParam, Params, no_param, more_param, Part, LabelPart, IndexPart}
use Rattle.ml_trees.specs.Tree.{CharPart, Parts, no_part, more_part, Field, FieldPun, AssignedField, Fields, no_field, more_field, ModExpr, ModPath}
use Rattle.ml_trees.specs.Tree.{Struct, Functor, ModApply, ModParen, Sealed, ModArgument, ModuleArgument, SealedArgument, NoArgument, ModArguments}
use Rattle.ml_trees.specs.Tree.{no_mod_argument, more_mod_argument, FunctorParam, NamedParam, NoParam, FunctorParams, no_functor_param}
use Rattle.ml_trees.specs.Tree.{more_functor_param, ModType, TypePath, Sig, TypeOf, TypeParen, With, FunctorType, ParamArrow, Arrow, MaybeType}
use Rattle.ml_trees.specs.Tree.{no_type, some_type, Item, ExprItem, SeparatorItem, ValueItem, ExternalItem, TypeItem, ExceptionItem, ModuleItem}
use Rattle.ml_trees.specs.Tree.{ModuleTypeItem, OpenItem, IncludeItem, Items, no_item, more_item, SigItem, SeparatorSig, ValSig, ExternalSig}
use Rattle.ml_trees.specs.Tree.{TypeSig, ExceptionSig, ModuleSig, AliasSig, ModuleTypeSig, OpenSig, IncludeSig, SigItems, no_sig_item, more_sig_item}

module _ (P : Site → Type 0) where
  pub front : (xs ys : List Site) → Each P (xs ++ ys) → Each P xs
  front [] ys h = tt
  front (x ∷ xs) ys h = (h.0, front xs ys h.1)

  pub back : (xs ys : List Site) → Each P (xs ++ ys) → Each P ys
  back [] ys h = h
  back (x ∷ xs) ys h = back xs ys h.1

  pub operator_stay : (x0 : Bool) (x1 : Tok) (found : List Site) → Each P (operator_sites found x0 x1) → Each P found
  operator_stay binds (placed key.Equals at) found h = front found (operated binds at (codes "=") ∷ []) h
  operator_stay binds (word c x) found h = front found (operated binds x.at x.text ∷ []) h
  operator_stay binds _ found h = h

  pub name_stay : (x0 : Bool) (x1 : ValueName) (found : List Site) → Each P (name_sites found x0 x1) → Each P found
  name_stay binds (PlainName x) found h = front found (plain binds x ∷ []) h
  name_stay binds (OperatorName at t) found h = operator_stay binds t found h

  pub names_stay : (x0 : List ValueName) (found : List Site) → Each P (names_sites found x0) → Each P found
  names_stay [] found h = h
  names_stay (x ∷ xs) found h = name_stay true x found (names_stay xs (name_sites found true x) h)

  mutual
    pub pat_stay : (x0 : Pat) (found : List Site) → Each P (pat_sites found x0) → Each P found
    pat_stay (AsPat p xs) found h = pat_stay p found (names_stay xs (pat_sites found p) h)
    pat_stay (OrPat p ps) found h = pat_stay p found (pats_stay ps (pat_sites found p) h)
    pat_stay (TuplePat p ps) found h = pat_stay p found (pats_stay ps (pat_sites found p) h)
    pat_stay (ConsPat p ps) found h = pat_stay p found (pats_stay ps (pat_sites found p) h)
    pat_stay (ConstrApplyPat path p) found h = pat_stay p found h
    pat_stay (TagApplyPat x p) found h = pat_stay p found h
    pat_stay (LazyPat at p) found h = pat_stay p found h
    pat_stay (ExceptionPat at p) found h = pat_stay p found h
    pat_stay (AnyPat at) found h = h
    pat_stay (ValuePat x) found h = name_stay true x found h
    pat_stay (LiteralPat c x) found h = h
    pat_stay (NegativePat x c y) found h = h
    pat_stay (RangePat x y) found h = h
    pat_stay (ConstrPat path) found h = h
    pat_stay (TagPat x) found h = h
    pat_stay (BoolPat at b) found h = h
    pat_stay (UnitPat at) found h = h
    pat_stay (ParenPat at p) found h = pat_stay p found h
    pat_stay (TypedPat at p run) found h = pat_stay p found h
    pat_stay (EmptyPat at b) found h = h
    pat_stay (ListPat at b p ps last) found h = pat_stay p found (pats_stay ps (pat_sites found p) h)
    pat_stay (RecordPat at f fs rest last) found h = pat_field_stay f found (pat_fields_stay fs (pat_field_sites found f) h)
    pat_stay (OpenedPat path at p) found h = pat_stay p found h

    pub pats_stay : (x0 : Pats) (found : List Site) → Each P (pats_sites found x0) → Each P found
    pats_stay no_pat found h = h
    pats_stay (more_pat p ps) found h = pat_stay p found (pats_stay ps (pat_sites found p) h)

    pub pat_field_stay : (x0 : PatField) (found : List Site) → Each P (pat_field_sites found x0) → Each P found
    pat_field_stay (PunnedField path x run) found h = front found (punned true x.at x.text ∷ []) h
    pat_field_stay (MatchedField path x run at p) found h = pat_stay p found h

    pub pat_fields_stay : (x0 : PatFields) (found : List Site) → Each P (pat_fields_sites found x0) → Each P found
    pat_fields_stay no_pat_field found h = h
    pat_fields_stay (more_pat_field f fs) found h = pat_field_stay f found (pat_fields_stay fs (pat_field_sites found f) h)

  pub variable_stay : (x0 : Variable) (found : List Site) → Each P (variable_sites found x0) → Each P found
  variable_stay (PlainVariable x) found h = front found (plain true x ∷ []) h
  variable_stay (AnyVariable at) found h = h

  mutual
    pub expr_stay : (x0 : Expr) (found : List Site) → Each P (expr_sites found x0) → Each P found
    expr_stay (Seq e es last) found h = expr_stay e found (links_stay es (expr_sites found e) h)
    expr_stay (Let at rec b bs e) found h =
        binding_stay b found (bindings_stay bs (binding_sites found b) (expr_stay e (bindings_sites (binding_sites found b) bs) h))
    expr_stay (LetOpen at at' bang path e) found h = expr_stay e found h
    expr_stay (LetModule at at' x eq m e) found h = expr_stay e found h
    expr_stay (Fun at ps e) found h = params_stay ps found (expr_stay e (params_sites found ps) h)
    expr_stay (Function at bar c cs) found h = case_stay c found (cases_stay cs (case_sites found c) h)
    expr_stay (Match at e bar c cs) found h =
        expr_stay e found (case_stay c (expr_sites found e) (cases_stay cs (case_sites (expr_sites found e) c) h))
    expr_stay (Try at e bar c cs) found h = expr_stay e found (case_stay c (expr_sites found e) (cases_stay cs (case_sites (expr_sites found e) c) h))
    expr_stay (If at c a tail) found h = expr_stay c found (expr_stay a (expr_sites found c) (tail_stay tail (expr_sites (expr_sites found c) a) h))
    expr_stay (Chain n e es) found h = expr_stay e found (links_stay es (expr_sites found e) h)
    expr_stay (Minus x e) found h =
        front found (operated false x.at (126 ∷ x.text) ∷ []) (expr_stay e (found ++ operated false x.at (126 ∷ x.text) ∷ []) h)
    expr_stay (Apply f es) found h = expr_stay f found (arguments_stay es (expr_sites found f) h)
    expr_stay (ConstrApply path e) found h = expr_stay e found h
    expr_stay (TagApply x e) found h = expr_stay e found h
    expr_stay (Assert at e) found h = expr_stay e found h
    expr_stay (Lazy at e) found h = expr_stay e found h
    expr_stay (Postfix e ps) found h = expr_stay e found (parts_stay ps (expr_sites found e) h)
    expr_stay (Prefixed x e) found h = front found (operated false x.at x.text ∷ []) (expr_stay e (found ++ operated false x.at x.text ∷ []) h)
    expr_stay (Literal c x) found h = h
    expr_stay (BoolExpr at b) found h = h
    expr_stay (Value path x) found h = name_stay false x found h
    expr_stay (Constr path) found h = h
    expr_stay (Tag x) found h = h
    expr_stay (UnitExpr at) found h = h
    expr_stay (Paren at e) found h = expr_stay e found h
    expr_stay (Typed at e run) found h = expr_stay e found h
    expr_stay (Coerced at e from to) found h = expr_stay e found h
    expr_stay (EmptyBegin at) found h = h
    expr_stay (Begin at e) found h = expr_stay e found h
    expr_stay (EmptyList at b) found h = h
    expr_stay (ListExpr at b e es last) found h = expr_stay e found (links_stay es (expr_sites found e) h)
    expr_stay (Record at base f fs last) found h =
        maybe_stay base found (field_stay f (maybe_sites found base) (fields_stay fs (field_sites (maybe_sites found base) f) h))
    expr_stay (Opened path e) found h = expr_stay e found h
    expr_stay (While at c e) found h = expr_stay c found (expr_stay e (expr_sites found c) h)
    expr_stay (For at x eq a down b e) found h =
        variable_stay x found (expr_stay a (variable_sites found x)
        (expr_stay b (expr_sites (variable_sites found x) a) (expr_stay e (expr_sites (expr_sites (variable_sites found x) a) b) h)))

    pub links_stay : (x0 : Links) (found : List Site) → Each P (links_sites found x0) → Each P found
    links_stay no_link found h = h
    links_stay (more_link t e es) found h =
        operator_stay false t found (expr_stay e (operator_sites found false t) (links_stay es (expr_sites (operator_sites found false t) e) h))

    pub maybe_stay : (x0 : MaybeExpr) (found : List Site) → Each P (maybe_sites found x0) → Each P found
    maybe_stay no_expr found h = h
    maybe_stay (some_expr e) found h = expr_stay e found h

    pub tail_stay : (x0 : Tail) (found : List Site) → Each P (tail_sites found x0) → Each P found
    tail_stay no_else found h = h
    tail_stay (or_else e) found h = expr_stay e found h
    tail_stay (or_if at c a tail) found h =
        expr_stay c found (expr_stay a (expr_sites found c) (tail_stay tail (expr_sites (expr_sites found c) a) h))

    pub binding_stay : (x0 : Binding) (found : List Site) → Each P (binding_sites found x0) → Each P found
    binding_stay (PlainBinding p run at e) found h = pat_stay p found (expr_stay e (pat_sites found p) h)
    binding_stay (AppliedBinding x ps run at e) found h =
        name_stay true x found (params_stay ps (name_sites found true x) (expr_stay e (params_sites (name_sites found true x) ps) h))

    pub bindings_stay : (x0 : Bindings) (found : List Site) → Each P (bindings_sites found x0) → Each P found
    bindings_stay no_binding found h = h
    bindings_stay (more_binding b bs) found h = binding_stay b found (bindings_stay bs (binding_sites found b) h)

    pub case_stay : (x0 : Case) (found : List Site) → Each P (case_sites found x0) → Each P found
    case_stay (CaseOf p guard e) found h =
        pat_stay p found (maybe_stay guard (pat_sites found p) (expr_stay e (maybe_sites (pat_sites found p) guard) h))

    pub cases_stay : (x0 : Cases) (found : List Site) → Each P (cases_sites found x0) → Each P found
    cases_stay no_case found h = h
    cases_stay (more_case c cs) found h = case_stay c found (cases_stay cs (case_sites found c) h)

    pub argument_stay : (x0 : Argument) (found : List Site) → Each P (argument_sites found x0) → Each P found
    argument_stay (Positional e) found h = expr_stay e found h
    argument_stay (LabelPun x) found h = front found (label_site false x ∷ []) h
    argument_stay (Labelled x e) found h = expr_stay e found h

    pub arguments_stay : (x0 : Arguments) (found : List Site) → Each P (arguments_sites found x0) → Each P found
    arguments_stay no_argument found h = h
    arguments_stay (more_argument a es) found h = argument_stay a found (arguments_stay es (argument_sites found a) h)

    pub param_stay : (x0 : Param) (found : List Site) → Each P (param_sites found x0) → Each P found
    param_stay (PatternParam p) found h = pat_stay p found h
    param_stay (LabelParam x) found h = front found (label_site true x ∷ []) h
    param_stay (LabelPattern x p) found h = pat_stay p found h
    param_stay (DefaultParam x at p run eq e) found h = pat_stay p found (expr_stay e (pat_sites found p) h)
    param_stay (WrappedParam at optional at' x run) found h = front found (punned true x.at x.text ∷ []) h
    param_stay (WrappedDefault at at' x run eq e) found h =
        front found (punned true x.at x.text ∷ []) (expr_stay e (found ++ punned true x.at x.text ∷ []) h)
    param_stay (TypesParam at xs) found h = h

    pub params_stay : (x0 : Params) (found : List Site) → Each P (params_sites found x0) → Each P found
    params_stay no_param found h = h
    params_stay (more_param p ps) found h = param_stay p found (params_stay ps (param_sites found p) h)

    pub part_stay : (x0 : Part) (found : List Site) → Each P (part_sites found x0) → Each P found
    part_stay (LabelPart path x) found h = h
    part_stay (IndexPart at e) found h = expr_stay e found h
    part_stay (CharPart at e) found h = expr_stay e found h

    pub parts_stay : (x0 : Parts) (found : List Site) → Each P (parts_sites found x0) → Each P found
    parts_stay no_part found h = h
    parts_stay (more_part p ps) found h = part_stay p found (parts_stay ps (part_sites found p) h)

    pub field_stay : (x0 : Field) (found : List Site) → Each P (field_sites found x0) → Each P found
    field_stay (FieldPun path x run) found h = front found (punned false x.at x.text ∷ []) h
    field_stay (AssignedField path x run at e) found h = expr_stay e found h

    pub fields_stay : (x0 : Fields) (found : List Site) → Each P (fields_sites found x0) → Each P found
    fields_stay no_field found h = h
    fields_stay (more_field f fs) found h = field_stay f found (fields_stay fs (field_sites found f) h)

  mutual
    pub mod_stay : (x0 : ModExpr) (found : List Site) → Each P (mod_sites found x0) → Each P found
    mod_stay (ModPath path) found h = h
    mod_stay (Struct at is) found h = items_stay is found h
    mod_stay (Functor at ps m) found h = functor_params_stay ps found (mod_stay m (functor_params_sites found ps) h)
    mod_stay (ModApply m ms) found h = mod_stay m found (mod_arguments_stay ms (mod_sites found m) h)
    mod_stay (ModParen at m) found h = mod_stay m found h
    mod_stay (Sealed at m s) found h = mod_stay m found (mod_type_stay s (mod_sites found m) h)

    pub mod_argument_stay : (x0 : ModArgument) (found : List Site) → Each P (mod_argument_sites found x0) → Each P found
    mod_argument_stay (ModuleArgument at m) found h = mod_stay m found h
    mod_argument_stay (SealedArgument at m s) found h = mod_stay m found (mod_type_stay s (mod_sites found m) h)
    mod_argument_stay (NoArgument at) found h = h

    pub mod_arguments_stay : (x0 : ModArguments) (found : List Site) → Each P (mod_arguments_sites found x0) → Each P found
    mod_arguments_stay no_mod_argument found h = h
    mod_arguments_stay (more_mod_argument m ms) found h = mod_argument_stay m found (mod_arguments_stay ms (mod_argument_sites found m) h)

    pub functor_param_stay : (x0 : FunctorParam) (found : List Site) → Each P (functor_param_sites found x0) → Each P found
    functor_param_stay (NamedParam at x s) found h = mod_type_stay s found h
    functor_param_stay (NoParam at) found h = h

    pub functor_params_stay : (x0 : FunctorParams) (found : List Site) → Each P (functor_params_sites found x0) → Each P found
    functor_params_stay no_functor_param found h = h
    functor_params_stay (more_functor_param p ps) found h = functor_param_stay p found (functor_params_stay ps (functor_param_sites found p) h)

    pub mod_type_stay : (x0 : ModType) (found : List Site) → Each P (mod_type_sites found x0) → Each P found
    mod_type_stay (TypePath path) found h = h
    mod_type_stay (Sig at is) found h = sig_items_stay is found h
    mod_type_stay (TypeOf at m) found h = mod_stay m found h
    mod_type_stay (TypeParen at s) found h = mod_type_stay s found h
    mod_type_stay (With s ws) found h = mod_type_stay s found h
    mod_type_stay (FunctorType at ps s) found h = functor_params_stay ps found (mod_type_stay s (functor_params_sites found ps) h)
    mod_type_stay (ParamArrow p s) found h = functor_param_stay p found (mod_type_stay s (functor_param_sites found p) h)
    mod_type_stay (Arrow s s') found h = mod_type_stay s found (mod_type_stay s' (mod_type_sites found s) h)

    pub signature_stay : (x0 : MaybeType) (found : List Site) → Each P (signature_sites found x0) → Each P found
    signature_stay no_type found h = h
    signature_stay (some_type s) found h = mod_type_stay s found h

    pub item_stay : (x0 : Item) (found : List Site) → Each P (item_sites found x0) → Each P found
    item_stay (ExprItem e) found h = expr_stay e found h
    item_stay SeparatorItem found h = h
    item_stay (ValueItem at rec b bs) found h = binding_stay b found (bindings_stay bs (binding_sites found b) h)
    item_stay (ExternalItem x run at texts) found h = name_stay true x found h
    item_stay (TypeItem run) found h = h
    item_stay (ExceptionItem at run) found h = h
    item_stay (ModuleItem at x ps s eq m) found h =
        functor_params_stay ps found
        (signature_stay s (functor_params_sites found ps) (mod_stay m (signature_sites (functor_params_sites found ps) s) h))
    item_stay (ModuleTypeItem at x eq s) found h = mod_type_stay s found h
    item_stay (OpenItem at bang path) found h = h
    item_stay (IncludeItem at m) found h = mod_stay m found h

    pub items_stay : (x0 : Items) (found : List Site) → Each P (items_sites found x0) → Each P found
    items_stay no_item found h = h
    items_stay (more_item i is) found h = item_stay i found (items_stay is (item_sites found i) h)

    pub sig_item_stay : (x0 : SigItem) (found : List Site) → Each P (sig_item_sites found x0) → Each P found
    sig_item_stay SeparatorSig found h = h
    sig_item_stay (ValSig x run) found h = name_stay true x found h
    sig_item_stay (ExternalSig x run at texts) found h = name_stay true x found h
    sig_item_stay (TypeSig run) found h = h
    sig_item_stay (ExceptionSig at run) found h = h
    sig_item_stay (ModuleSig at x ps s) found h = functor_params_stay ps found (mod_type_stay s (functor_params_sites found ps) h)
    sig_item_stay (AliasSig at x eq path) found h = h
    sig_item_stay (ModuleTypeSig at x eq s) found h = mod_type_stay s found h
    sig_item_stay (OpenSig at bang path) found h = h
    sig_item_stay (IncludeSig at s) found h = mod_type_stay s found h

    pub sig_items_stay : (x0 : SigItems) (found : List Site) → Each P (sig_items_sites found x0) → Each P found
    sig_items_stay no_sig_item found h = h
    sig_items_stay (more_sig_item i is) found h = sig_item_stay i found (sig_items_stay is (sig_item_sites found i) h)
