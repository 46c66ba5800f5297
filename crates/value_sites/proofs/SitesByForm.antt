-- The places of a tree, with a clause for each form: Placed proves that they are those of its events. Each definition
-- gives the places found before, and then the tree's.
use Rattle.std.proofs.Common.{List, [], ◌∷◌, ◌++◌, true, false}
use Rattle.ml_trees.specs.Tree.{ValueName, Pat, AsPat, OrPat, TuplePat, ConsPat, ConstrApplyPat, TagApplyPat, LazyPat}
use Rattle.ml_trees.specs.Tree.{ExceptionPat, AnyPat, ValuePat, LiteralPat, NegativePat, RangePat, ConstrPat, TagPat, BoolPat, UnitPat, ParenPat}
use Rattle.ml_trees.specs.Tree.{TypedPat, EmptyPat, ListPat, RecordPat, OpenedPat, Pats, no_pat, more_pat, PatField, PunnedField, MatchedField}
use Rattle.ml_trees.specs.Tree.{PatFields, no_pat_field, more_pat_field, Expr, Seq, Let, LetOpen, LetModule}
use Rattle.ml_trees.specs.Tree.{Fun, Function, Match, Try, If, Chain, Minus, Apply, ConstrApply, TagApply, Assert, Lazy, Postfix, Prefixed, Literal}
use Rattle.ml_trees.specs.Tree.{BoolExpr, Value, Constr, Tag, UnitExpr, Paren, Typed, Coerced, EmptyBegin, Begin, EmptyList, ListExpr, Record}
use Rattle.ml_trees.specs.Tree.{Opened, While, For, Links, no_link, more_link, MaybeExpr, no_expr, some_expr, Tail, no_else, or_else, or_if, Binding}
use Rattle.ml_trees.specs.Tree.{PlainBinding, AppliedBinding, Bindings, no_binding, more_binding, Case, CaseOf, Cases, no_case, more_case, Argument}
use Rattle.ml_trees.specs.Tree.{Positional, LabelPun, Labelled, Arguments, no_argument, more_argument, Param, PatternParam, LabelParam, LabelPattern}
use Rattle.ml_trees.specs.Tree.{DefaultParam, WrappedParam, WrappedDefault, TypesParam, Params, no_param, more_param, Part, LabelPart, IndexPart}
use Rattle.ml_trees.specs.Tree.{CharPart, Parts, no_part, more_part, Field, FieldPun, AssignedField, Fields, no_field, more_field, ModExpr, ModPath}
use Rattle.ml_trees.specs.Tree.{Struct, Functor, ModApply, ModParen, Sealed, ModArgument, ModuleArgument, SealedArgument, NoArgument, ModArguments}
use Rattle.ml_trees.specs.Tree.{no_mod_argument, more_mod_argument, FunctorParam, NamedParam, NoParam, FunctorParams, no_functor_param}
use Rattle.ml_trees.specs.Tree.{more_functor_param, ModType, TypePath, Sig, TypeOf, TypeParen, With, FunctorType, ParamArrow, Arrow, MaybeType}
use Rattle.ml_trees.specs.Tree.{no_type, some_type, Item, ExprItem, SeparatorItem, ValueItem, ExternalItem, TypeItem, ExceptionItem, ModuleItem}
use Rattle.ml_trees.specs.Tree.{ModuleTypeItem, OpenItem, IncludeItem, Items, no_item, more_item, SigItem, SeparatorSig, ValSig, ExternalSig}
use Rattle.ml_trees.specs.Tree.{TypeSig, ExceptionSig, ModuleSig, AliasSig, ModuleTypeSig, OpenSig, IncludeSig, SigItems, no_sig_item, more_sig_item}
use Rattle.ml_trees.specs.Tree.{FileTree, Body, Face}
use Rattle.value_sites.specs.Places.{Site, punned, operated, operator_sites, name_sites, label_site, variable_sites}

-- ---- patterns

abbrev pub names_sites : List Site → List ValueName → List Site
names_sites found [] = found
names_sites found (x ∷ xs) = names_sites (name_sites found true x) xs

abbrev mutual
  pub pat_sites : List Site → Pat → List Site
  pat_sites found (AsPat p xs) = names_sites (pat_sites found p) xs
  pat_sites found (OrPat p ps) = pats_sites (pat_sites found p) ps
  pat_sites found (TuplePat p ps) = pats_sites (pat_sites found p) ps
  pat_sites found (ConsPat p ps) = pats_sites (pat_sites found p) ps
  pat_sites found (ConstrApplyPat path p) = pat_sites found p
  pat_sites found (TagApplyPat x p) = pat_sites found p
  pat_sites found (LazyPat at p) = pat_sites found p
  pat_sites found (ExceptionPat at p) = pat_sites found p
  pat_sites found (AnyPat at) = found
  pat_sites found (ValuePat x) = name_sites found true x
  pat_sites found (LiteralPat c x) = found
  pat_sites found (NegativePat x c y) = found
  pat_sites found (RangePat x y) = found
  pat_sites found (ConstrPat path) = found
  pat_sites found (TagPat x) = found
  pat_sites found (BoolPat at b) = found
  pat_sites found (UnitPat at) = found
  pat_sites found (ParenPat at p) = pat_sites found p
  pat_sites found (TypedPat at p run) = pat_sites found p
  pat_sites found (EmptyPat at b) = found
  pat_sites found (ListPat at b p ps last) = pats_sites (pat_sites found p) ps
  pat_sites found (RecordPat at f fs rest last) = pat_fields_sites (pat_field_sites found f) fs
  pat_sites found (OpenedPat path at p) = pat_sites found p

  pub pats_sites : List Site → Pats → List Site
  pats_sites found no_pat = found
  pats_sites found (more_pat p ps) = pats_sites (pat_sites found p) ps

  pub pat_field_sites : List Site → PatField → List Site
  pat_field_sites found (PunnedField path x run) = found ++ punned true x.at x.text ∷ []
  pat_field_sites found (MatchedField path x run at p) = pat_sites found p

  pub pat_fields_sites : List Site → PatFields → List Site
  pat_fields_sites found no_pat_field = found
  pat_fields_sites found (more_pat_field f fs) = pat_fields_sites (pat_field_sites found f) fs

-- ---- expressions

abbrev mutual
  pub expr_sites : List Site → Expr → List Site
  expr_sites found (Seq e es last) = links_sites (expr_sites found e) es
  expr_sites found (Let at rec b bs e) = expr_sites (bindings_sites (binding_sites found b) bs) e
  expr_sites found (LetOpen at at' bang path e) = expr_sites found e
  expr_sites found (LetModule at at' x eq m e) = expr_sites found e
  expr_sites found (Fun at ps e) = expr_sites (params_sites found ps) e
  expr_sites found (Function at bar c cs) = cases_sites (case_sites found c) cs
  expr_sites found (Match at e bar c cs) = cases_sites (case_sites (expr_sites found e) c) cs
  expr_sites found (Try at e bar c cs) = cases_sites (case_sites (expr_sites found e) c) cs
  expr_sites found (If at c a tail) = tail_sites (expr_sites (expr_sites found c) a) tail
  expr_sites found (Chain n e es) = links_sites (expr_sites found e) es
  expr_sites found (Minus x e) = expr_sites (found ++ operated false x.at (126 ∷ x.text) ∷ []) e
  expr_sites found (Apply f es) = arguments_sites (expr_sites found f) es
  expr_sites found (ConstrApply path e) = expr_sites found e
  expr_sites found (TagApply x e) = expr_sites found e
  expr_sites found (Assert at e) = expr_sites found e
  expr_sites found (Lazy at e) = expr_sites found e
  expr_sites found (Postfix e ps) = parts_sites (expr_sites found e) ps
  expr_sites found (Prefixed x e) = expr_sites (found ++ operated false x.at x.text ∷ []) e
  expr_sites found (Literal c x) = found
  expr_sites found (BoolExpr at b) = found
  expr_sites found (Value path x) = name_sites found false x
  expr_sites found (Constr path) = found
  expr_sites found (Tag x) = found
  expr_sites found (UnitExpr at) = found
  expr_sites found (Paren at e) = expr_sites found e
  expr_sites found (Typed at e run) = expr_sites found e
  expr_sites found (Coerced at e from to) = expr_sites found e
  expr_sites found (EmptyBegin at) = found
  expr_sites found (Begin at e) = expr_sites found e
  expr_sites found (EmptyList at b) = found
  expr_sites found (ListExpr at b e es last) = links_sites (expr_sites found e) es
  expr_sites found (Record at base f fs last) = fields_sites (field_sites (maybe_sites found base) f) fs
  expr_sites found (Opened path e) = expr_sites found e
  expr_sites found (While at c e) = expr_sites (expr_sites found c) e
  expr_sites found (For at x eq a down b e) = expr_sites (expr_sites (expr_sites (variable_sites found x) a) b) e

  pub links_sites : List Site → Links → List Site
  links_sites found no_link = found
  links_sites found (more_link t e es) = links_sites (expr_sites (operator_sites found false t) e) es

  pub maybe_sites : List Site → MaybeExpr → List Site
  maybe_sites found no_expr = found
  maybe_sites found (some_expr e) = expr_sites found e

  pub tail_sites : List Site → Tail → List Site
  tail_sites found no_else = found
  tail_sites found (or_else e) = expr_sites found e
  tail_sites found (or_if at c a tail) = tail_sites (expr_sites (expr_sites found c) a) tail

  pub binding_sites : List Site → Binding → List Site
  binding_sites found (PlainBinding p run at e) = expr_sites (pat_sites found p) e
  binding_sites found (AppliedBinding x ps run at e) = expr_sites (params_sites (name_sites found true x) ps) e

  pub bindings_sites : List Site → Bindings → List Site
  bindings_sites found no_binding = found
  bindings_sites found (more_binding b bs) = bindings_sites (binding_sites found b) bs

  pub case_sites : List Site → Case → List Site
  case_sites found (CaseOf p guard e) = expr_sites (maybe_sites (pat_sites found p) guard) e

  pub cases_sites : List Site → Cases → List Site
  cases_sites found no_case = found
  cases_sites found (more_case c cs) = cases_sites (case_sites found c) cs

  pub argument_sites : List Site → Argument → List Site
  argument_sites found (Positional e) = expr_sites found e
  argument_sites found (LabelPun x) = found ++ label_site false x ∷ []
  argument_sites found (Labelled x e) = expr_sites found e

  pub arguments_sites : List Site → Arguments → List Site
  arguments_sites found no_argument = found
  arguments_sites found (more_argument a es) = arguments_sites (argument_sites found a) es

  pub param_sites : List Site → Param → List Site
  param_sites found (PatternParam p) = pat_sites found p
  param_sites found (LabelParam x) = found ++ label_site true x ∷ []
  param_sites found (LabelPattern x p) = pat_sites found p
  param_sites found (DefaultParam x at p run eq e) = expr_sites (pat_sites found p) e
  param_sites found (WrappedParam at optional at' x run) = found ++ punned true x.at x.text ∷ []
  param_sites found (WrappedDefault at at' x run eq e) = expr_sites (found ++ punned true x.at x.text ∷ []) e
  param_sites found (TypesParam at xs) = found

  pub params_sites : List Site → Params → List Site
  params_sites found no_param = found
  params_sites found (more_param p ps) = params_sites (param_sites found p) ps

  pub part_sites : List Site → Part → List Site
  part_sites found (LabelPart path x) = found
  part_sites found (IndexPart at e) = expr_sites found e
  part_sites found (CharPart at e) = expr_sites found e

  pub parts_sites : List Site → Parts → List Site
  parts_sites found no_part = found
  parts_sites found (more_part p ps) = parts_sites (part_sites found p) ps

  pub field_sites : List Site → Field → List Site
  field_sites found (FieldPun path x run) = found ++ punned false x.at x.text ∷ []
  field_sites found (AssignedField path x run at e) = expr_sites found e

  pub fields_sites : List Site → Fields → List Site
  fields_sites found no_field = found
  fields_sites found (more_field f fs) = fields_sites (field_sites found f) fs

-- ---- modules

abbrev mutual
  pub mod_sites : List Site → ModExpr → List Site
  mod_sites found (ModPath path) = found
  mod_sites found (Struct at is) = items_sites found is
  mod_sites found (Functor at ps m) = mod_sites (functor_params_sites found ps) m
  mod_sites found (ModApply m ms) = mod_arguments_sites (mod_sites found m) ms
  mod_sites found (ModParen at m) = mod_sites found m
  mod_sites found (Sealed at m s) = mod_type_sites (mod_sites found m) s

  pub mod_argument_sites : List Site → ModArgument → List Site
  mod_argument_sites found (ModuleArgument at m) = mod_sites found m
  mod_argument_sites found (SealedArgument at m s) = mod_type_sites (mod_sites found m) s
  mod_argument_sites found (NoArgument at) = found

  pub mod_arguments_sites : List Site → ModArguments → List Site
  mod_arguments_sites found no_mod_argument = found
  mod_arguments_sites found (more_mod_argument m ms) = mod_arguments_sites (mod_argument_sites found m) ms

  pub functor_param_sites : List Site → FunctorParam → List Site
  functor_param_sites found (NamedParam at x s) = mod_type_sites found s
  functor_param_sites found (NoParam at) = found

  pub functor_params_sites : List Site → FunctorParams → List Site
  functor_params_sites found no_functor_param = found
  functor_params_sites found (more_functor_param p ps) = functor_params_sites (functor_param_sites found p) ps

  pub mod_type_sites : List Site → ModType → List Site
  mod_type_sites found (TypePath path) = found
  mod_type_sites found (Sig at is) = sig_items_sites found is
  mod_type_sites found (TypeOf at m) = mod_sites found m
  mod_type_sites found (TypeParen at s) = mod_type_sites found s
  mod_type_sites found (With s ws) = mod_type_sites found s
  mod_type_sites found (FunctorType at ps s) = mod_type_sites (functor_params_sites found ps) s
  mod_type_sites found (ParamArrow p s) = mod_type_sites (functor_param_sites found p) s
  mod_type_sites found (Arrow s s') = mod_type_sites (mod_type_sites found s) s'

  pub signature_sites : List Site → MaybeType → List Site
  signature_sites found no_type = found
  signature_sites found (some_type s) = mod_type_sites found s

  pub item_sites : List Site → Item → List Site
  item_sites found (ExprItem e) = expr_sites found e
  item_sites found SeparatorItem = found
  item_sites found (ValueItem at rec b bs) = bindings_sites (binding_sites found b) bs
  item_sites found (ExternalItem x run at texts) = name_sites found true x
  item_sites found (TypeItem run) = found
  item_sites found (ExceptionItem at run) = found
  item_sites found (ModuleItem at x ps s eq m) = mod_sites (signature_sites (functor_params_sites found ps) s) m
  item_sites found (ModuleTypeItem at x eq s) = mod_type_sites found s
  item_sites found (OpenItem at bang path) = found
  item_sites found (IncludeItem at m) = mod_sites found m

  pub items_sites : List Site → Items → List Site
  items_sites found no_item = found
  items_sites found (more_item i is) = items_sites (item_sites found i) is

  pub sig_item_sites : List Site → SigItem → List Site
  sig_item_sites found SeparatorSig = found
  sig_item_sites found (ValSig x run) = name_sites found true x
  sig_item_sites found (ExternalSig x run at texts) = name_sites found true x
  sig_item_sites found (TypeSig run) = found
  sig_item_sites found (ExceptionSig at run) = found
  sig_item_sites found (ModuleSig at x ps s) = mod_type_sites (functor_params_sites found ps) s
  sig_item_sites found (AliasSig at x eq path) = found
  sig_item_sites found (ModuleTypeSig at x eq s) = mod_type_sites found s
  sig_item_sites found (OpenSig at bang path) = found
  sig_item_sites found (IncludeSig at s) = mod_type_sites found s

  pub sig_items_sites : List Site → SigItems → List Site
  sig_items_sites found no_sig_item = found
  sig_items_sites found (more_sig_item i is) = sig_items_sites (sig_item_sites found i) is

-- ---- the places of a file

abbrev pub sites_by_form : FileTree → List Site
sites_by_form (Body file is) = items_sites [] is
sites_by_form (Face file is) = sig_items_sites [] is
