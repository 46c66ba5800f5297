-- The places of trees are those that their events add. Printed by scripts/print_walk.py.
use Rattle.std.proofs.Common.{◌≡◌, ◌∙◌, ◌∷◌, ℕ, List, [], true, refl, ap, sym}
use Rattle.rotor_base.specs.declared.token.Class.TheVariants as class
use Rattle.ml_trees.specs.declared.fixed.Fixed.{Fixed}
use Rattle.ml_trees.specs.declared.fixed.Fixed.TheVariants as key
use Rattle.ml_trees.specs.Tok.{word}
use Rattle.ml_trees.specs.Tree.{ValueName, Pat, AsPat, OrPat, TuplePat, ConsPat, ConstrApplyPat, TagApplyPat, LazyPat}
use Rattle.ml_trees.specs.Tree.{ExceptionPat, AnyPat, ValuePat, LiteralPat, NegativePat, RangePat, ConstrPat, TagPat, BoolPat, UnitPat, ParenPat}
use Rattle.ml_trees.specs.Tree.{TypedPat, EmptyPat, ListPat, RecordPat, OpenedPat, Pats, no_pat, more_pat, PatField, PunnedField, MatchedField}
use Rattle.ml_trees.specs.Tree.{PatFields, no_pat_field, more_pat_field, Variable, PlainVariable, AnyVariable, LocalModule, LocalPath}
use Rattle.ml_trees.specs.Tree.{LocalArguments, no_local, more_local, no_module, Expr, Seq, Let, LetOpen, LetModule, Fun, Function, Match, Try}
use Rattle.ml_trees.specs.Tree.{If}
use Rattle.ml_trees.specs.Tree.{Chain, Minus, Apply, ConstrApply, TagApply, Assert, Lazy, Postfix, Prefixed, Literal, BoolExpr, Value, Constr}
use Rattle.ml_trees.specs.Tree.{Tag}
use Rattle.ml_trees.specs.Tree.{UnitExpr, Paren, Typed, Coerced, EmptyBegin, Begin, EmptyList, ListExpr, Record, Opened, While, For}
use Rattle.ml_trees.specs.Tree.{Links, no_link}
use Rattle.ml_trees.specs.Tree.{more_link, MaybeExpr, no_expr, some_expr, Tail, no_else, or_else, or_if, Binding, PlainBinding, AppliedBinding}
use Rattle.ml_trees.specs.Tree.{Bindings, no_binding, more_binding, Case, CaseOf, Cases, no_case, more_case, Argument, Positional, LabelPun}
use Rattle.ml_trees.specs.Tree.{Labelled, Arguments, no_argument, more_argument, Param, PatternParam, LabelParam, LabelPattern, DefaultParam}
use Rattle.ml_trees.specs.Tree.{WrappedParam, WrappedDefault, TypesParam, Params, no_param, more_param, Part, LabelPart, IndexPart}
use Rattle.ml_trees.specs.Tree.{CharPart, Parts}
use Rattle.ml_trees.specs.Tree.{no_part, more_part, Field, FieldPun, AssignedField, Fields, no_field, more_field, ModuleName, UpperName, AnyName}
use Rattle.ml_trees.specs.Tree.{ModExpr, ModPath, Struct, Functor, ModApply, ModParen, Sealed}
use Rattle.ml_trees.specs.Tree.{ModArgument, ModuleArgument, SealedArgument, NoArgument, ModArguments, no_mod_argument, more_mod_argument}
use Rattle.ml_trees.specs.Tree.{FunctorParam, NamedParam, NoParam, FunctorParams, no_functor_param, more_functor_param, ModType, TypePath, Sig}
use Rattle.ml_trees.specs.Tree.{TypeOf, TypeParen, With, FunctorType, ParamArrow, Arrow, MaybeType, no_type, some_type, Item, ExprItem}
use Rattle.ml_trees.specs.Tree.{SeparatorItem, ValueItem, ExternalItem, TypeItem, ExceptionItem, ModuleItem, ModuleTypeItem, OpenItem}
use Rattle.ml_trees.specs.Tree.{IncludeItem}
use Rattle.ml_trees.specs.Tree.{Items, no_item, more_item, SigItem, SeparatorSig, ValSig, ExternalSig, TypeSig, ExceptionSig, ModuleSig}
use Rattle.ml_trees.specs.Tree.{AliasSig}
use Rattle.ml_trees.specs.Tree.{ModuleTypeSig, OpenSig, IncludeSig, SigItems, no_sig_item, more_sig_item, FileTree, Body, Face}
use Rattle.ml_trees.specs.Events.{value, field, operator, minus, module_path, last_path, qualifier, group_begins, group_ends, bindings_begin}
use Rattle.ml_trees.specs.Events.{part_begins, part_ends, alternatives_end, scope_begins, scope_ends, brings}
use Rattle.tree_events.specs.Told.{names_told, brings_told, pat_told, pats_told, pat_field_told, pat_fields_told, variable_told, local_told}
use Rattle.tree_events.specs.Told.{locals_told, expr_told, links_told, base_told, guard_told, binding_told, bindings_told, case_told, cases_told}
use Rattle.tree_events.specs.Told.{argument_told, arguments_told, param_told, params_told, part_told, parts_told, field_told, fields_told}
use Rattle.tree_events.specs.Told.{mod_told, mod_argument_told, mod_arguments_told, functor_param_told, functor_params_told, mod_type_told}
use Rattle.tree_events.specs.Told.{signature_told, item_told, items_told, sig_item_told, sig_items_told, file_told}
use Rattle.tree_events.proofs.Tells.{tail_told, told_AliasSig, told_AnyName, told_AnyPat, told_AnyVariable, told_AppliedBinding, told_Apply}
use Rattle.tree_events.proofs.Tells.{told_Arrow, told_AsPat, told_Assert, told_AssignedField, told_Begin, told_Body, told_BoolExpr, told_BoolPat}
use Rattle.tree_events.proofs.Tells.{told_CaseOf, told_Chain, told_CharPart, told_Coerced, told_ConsPat, told_Constr, told_ConstrApply}
use Rattle.tree_events.proofs.Tells.{told_ConstrApplyPat, told_ConstrPat, told_DefaultParam, told_EmptyBegin, told_EmptyList, told_EmptyPat}
use Rattle.tree_events.proofs.Tells.{told_ExceptionItem, told_ExceptionPat, told_ExceptionSig, told_ExprItem, told_ExternalItem}
use Rattle.tree_events.proofs.Tells.{told_ExternalSig, told_Face, told_FieldPun, told_For, told_Fun, told_Function, told_Functor}
use Rattle.tree_events.proofs.Tells.{told_FunctorType, told_If, told_IncludeItem, told_IncludeSig, told_IndexPart, told_LabelParam}
use Rattle.tree_events.proofs.Tells.{told_LabelPart, told_LabelPattern, told_LabelPun, told_Labelled, told_Lazy, told_LazyPat, told_Let}
use Rattle.tree_events.proofs.Tells.{told_LetModule, told_LetOpen, told_ListExpr, told_ListPat, told_Literal, told_LiteralPat, told_LocalPath}
use Rattle.tree_events.proofs.Tells.{told_Match, told_MatchedField, told_Minus, told_ModApply, told_ModParen, told_ModPath, told_ModuleArgument}
use Rattle.tree_events.proofs.Tells.{told_ModuleItem, told_ModuleSig, told_ModuleTypeItem, told_ModuleTypeSig, told_NamedParam, told_NegativePat}
use Rattle.tree_events.proofs.Tells.{told_NoArgument, told_NoParam, told_OpenItem, told_OpenSig, told_Opened, told_OpenedPat, told_OrPat}
use Rattle.tree_events.proofs.Tells.{told_ParamArrow, told_Paren, told_ParenPat, told_PatternParam, told_PlainBinding, told_PlainVariable}
use Rattle.tree_events.proofs.Tells.{told_Positional, told_Postfix, told_Prefixed, told_PunnedField, told_RangePat, told_Record, told_RecordPat}
use Rattle.tree_events.proofs.Tells.{told_Sealed, told_SealedArgument, told_SeparatorItem, told_SeparatorSig, told_Seq, told_Sig, told_Struct}
use Rattle.tree_events.proofs.Tells.{told_Tag, told_TagApply, told_TagApplyPat, told_TagPat, told_Try, told_TuplePat, told_TypeItem, told_TypeOf}
use Rattle.tree_events.proofs.Tells.{told_TypeParen, told_TypePath, told_TypeSig, told_Typed, told_TypedPat, told_TypesParam, told_UnitExpr}
use Rattle.tree_events.proofs.Tells.{told_UnitPat, told_UpperName, told_ValSig, told_Value, told_ValueItem, told_ValuePat, told_While, told_With}
use Rattle.tree_events.proofs.Tells.{told_WrappedDefault, told_WrappedParam, told_base_no_expr, told_base_some_expr, told_guard_no_expr}
use Rattle.tree_events.proofs.Tells.{told_guard_some_expr, told_more_argument, told_more_binding, told_more_case, told_more_field}
use Rattle.tree_events.proofs.Tells.{told_more_functor_param, told_more_item, told_more_link, told_more_local, told_more_mod_argument}
use Rattle.tree_events.proofs.Tells.{told_more_param, told_more_part, told_more_pat, told_more_pat_field, told_more_sig_item, told_names_end}
use Rattle.tree_events.proofs.Tells.{told_names_more, told_no_argument, told_no_binding, told_no_case, told_no_else, told_no_field}
use Rattle.tree_events.proofs.Tells.{told_no_functor_param, told_no_item, told_no_link, told_no_local, told_no_mod_argument, told_no_module}
use Rattle.tree_events.proofs.Tells.{told_no_param, told_no_part, told_no_pat, told_no_pat_field, told_no_sig_item, told_no_type, told_or_else}
use Rattle.tree_events.proofs.Tells.{told_or_if, told_some_type}
use Rattle.value_sites.specs.Places.{Site, adds_site, sites, variable_sites}
use Rattle.value_sites.proofs.SitesByForm.{sites_by_form, argument_sites, arguments_sites, binding_sites, bindings_sites, case_sites}
use Rattle.value_sites.proofs.SitesByForm.{cases_sites, expr_sites, field_sites, fields_sites, functor_param_sites, functor_params_sites}
use Rattle.value_sites.proofs.SitesByForm.{item_sites, items_sites, links_sites, maybe_sites, mod_argument_sites, mod_arguments_sites, mod_sites}
use Rattle.value_sites.proofs.SitesByForm.{mod_type_sites, names_sites, param_sites, params_sites, part_sites, parts_sites, pat_field_sites}
use Rattle.value_sites.proofs.SitesByForm.{pat_fields_sites, pat_sites, pats_sites, sig_item_sites, sig_items_sites, signature_sites, tail_sites}

names_placed : (x0 : List ValueName) (found : List Site) → names_told adds_site found x0 ≡ names_sites found x0
names_placed [] found = told_names_end adds_site found
names_placed (x ∷ xs) found = told_names_more adds_site found x xs
    ∙ names_placed xs (adds_site found (value true x))

brings_placed : (x0 : ModuleName) (found : List Site) → brings_told adds_site found x0 ≡ found
brings_placed (UpperName x) found = told_UpperName adds_site found x
brings_placed (AnyName at) found = told_AnyName adds_site found at

mutual
  pat_placed : (x0 : Pat) (found : List Site) → pat_told adds_site found x0 ≡ pat_sites found x0
  pat_placed (AsPat p xs) found = told_AsPat adds_site found p xs
      ∙ ap (λ w. names_told adds_site w xs) (pat_placed p found)
      ∙ names_placed xs (pat_sites found p)
  pat_placed (OrPat p ps) found = told_OrPat adds_site found p ps
      ∙ ap (λ w. adds_site (pats_told adds_site w key.Bar ps) alternatives_end) (pat_placed p found)
      ∙ ap (λ w. adds_site w alternatives_end) (pats_placed key.Bar ps (pat_sites found p))
  pat_placed (TuplePat p ps) found = told_TuplePat adds_site found p ps
      ∙ ap (λ w. pats_told adds_site w key.Comma ps) (pat_placed p found)
      ∙ pats_placed key.Comma ps (pat_sites found p)
  pat_placed (ConsPat p ps) found = told_ConsPat adds_site found p ps
      ∙ ap (λ w. pats_told adds_site w key.ColonColon ps) (pat_placed p found)
      ∙ pats_placed key.ColonColon ps (pat_sites found p)
  pat_placed (ConstrApplyPat path p) found = told_ConstrApplyPat adds_site found path p
      ∙ pat_placed p (adds_site found (last_path path))
  pat_placed (TagApplyPat x p) found = told_TagApplyPat adds_site found x p
      ∙ pat_placed p found
  pat_placed (LazyPat at p) found = told_LazyPat adds_site found at p
      ∙ pat_placed p found
  pat_placed (ExceptionPat at p) found = told_ExceptionPat adds_site found at p
      ∙ pat_placed p found
  pat_placed (AnyPat at) found = told_AnyPat adds_site found at
  pat_placed (ValuePat x) found = told_ValuePat adds_site found x
  pat_placed (LiteralPat c x) found = told_LiteralPat adds_site found c x
  pat_placed (NegativePat x c y) found = told_NegativePat adds_site found x c y
  pat_placed (RangePat x y) found = told_RangePat adds_site found x y
  pat_placed (ConstrPat path) found = told_ConstrPat adds_site found path
  pat_placed (TagPat x) found = told_TagPat adds_site found x
  pat_placed (BoolPat at b) found = told_BoolPat adds_site found at b
  pat_placed (UnitPat at) found = told_UnitPat adds_site found at
  pat_placed (ParenPat at p) found = told_ParenPat adds_site found at p
      ∙ pat_placed p found
  pat_placed (TypedPat at p run) found = told_TypedPat adds_site found at p run
      ∙ pat_placed p found
  pat_placed (EmptyPat at b) found = told_EmptyPat adds_site found at b
  pat_placed (ListPat at b p ps last) found = told_ListPat adds_site found at b p ps last
      ∙ ap (λ w. pats_told adds_site w key.Semicolon ps) (pat_placed p found)
      ∙ pats_placed key.Semicolon ps (pat_sites found p)
  pat_placed (RecordPat at f fs rest last) found = told_RecordPat adds_site found at f fs rest last
      ∙ ap (λ w. pat_fields_told adds_site w fs) (pat_field_placed f found)
      ∙ pat_fields_placed fs (pat_field_sites found f)
  pat_placed (OpenedPat path at p) found = told_OpenedPat adds_site found path at p
      ∙ pat_placed p (adds_site found (module_path path))

  pats_placed : (x0 : Fixed) (x1 : Pats) (found : List Site) → pats_told adds_site found x0 x1 ≡ pats_sites found x1
  pats_placed sep no_pat found = told_no_pat adds_site found sep
  pats_placed sep (more_pat p ps) found = told_more_pat adds_site found sep p ps
      ∙ ap (λ w. pats_told adds_site (adds_site w (part_ends sep)) sep ps) (pat_placed p (adds_site found (part_begins sep)))
      ∙ pats_placed sep ps (adds_site (pat_sites (adds_site found (part_begins sep)) p) (part_ends sep))

  pat_field_placed : (x0 : PatField) (found : List Site) → pat_field_told adds_site found x0 ≡ pat_field_sites found x0
  pat_field_placed (PunnedField path x run) found = told_PunnedField adds_site found path x run
  pat_field_placed (MatchedField path x run at p) found = told_MatchedField adds_site found path x run at p
      ∙ pat_placed p (adds_site found (qualifier path))

  pat_fields_placed : (x0 : PatFields) (found : List Site) → pat_fields_told adds_site found x0 ≡ pat_fields_sites found x0
  pat_fields_placed no_pat_field found = told_no_pat_field adds_site found
  pat_fields_placed (more_pat_field f fs) found = told_more_pat_field adds_site found f fs
      ∙ ap (λ w. pat_fields_told adds_site w fs) (pat_field_placed f found)
      ∙ pat_fields_placed fs (pat_field_sites found f)

variable_placed : (x0 : Variable) (found : List Site) → variable_told adds_site found x0 ≡ variable_sites found x0
variable_placed (PlainVariable x) found = told_PlainVariable adds_site found x
variable_placed (AnyVariable at) found = told_AnyVariable adds_site found at

mutual
  local_placed : (x0 : LocalModule) (found : List Site) → local_told adds_site found x0 ≡ found
  local_placed (LocalPath path ms) found = told_LocalPath adds_site found path ms
      ∙ locals_placed ms (adds_site found (module_path path))

  locals_placed : (x0 : LocalArguments) (found : List Site) → locals_told adds_site found x0 ≡ found
  locals_placed no_local found = told_no_local adds_site found
  locals_placed (more_local at m ms) found = told_more_local adds_site found at m ms
      ∙ ap (λ w. locals_told adds_site w ms) (local_placed m found)
      ∙ locals_placed ms found
  locals_placed (no_module at ms) found = told_no_module adds_site found at ms
      ∙ locals_placed ms found

mutual
  expr_placed : (x0 : Expr) (found : List Site) → expr_told adds_site found x0 ≡ expr_sites found x0
  expr_placed (Seq e es last) found = told_Seq adds_site found e es last
      ∙ ap (λ w. links_told adds_site w es) (expr_placed e found)
      ∙ links_placed es (expr_sites found e)
  expr_placed (Let at rec b bs e) found = told_Let adds_site found at rec b bs e
      ∙ ap (λ w. expr_told adds_site (adds_site (bindings_told adds_site w bs) group_ends) e) (binding_placed b (adds_site found bindings_begin))
      ∙ ap (λ w. expr_told adds_site (adds_site w group_ends) e) (bindings_placed bs (binding_sites (adds_site found bindings_begin) b))
      ∙ expr_placed e (adds_site (bindings_sites (binding_sites (adds_site found bindings_begin) b) bs) group_ends)
  expr_placed (LetOpen at at' bang path e) found = told_LetOpen adds_site found at at' bang path e
      ∙ expr_placed e (adds_site found (module_path path))
  expr_placed (LetModule at at' x eq m e) found = told_LetModule adds_site found at at' x eq m e
      ∙ ap (λ w. adds_site (expr_told adds_site (adds_site (adds_site w scope_begins) (brings (UpperName x))) e) scope_ends) (local_placed m
      found)
      ∙ ap (λ w. adds_site w scope_ends) (expr_placed e (adds_site (adds_site found scope_begins) (brings (UpperName x))))
  expr_placed (Fun at ps e) found = told_Fun adds_site found at ps e
      ∙ ap (λ w. expr_told adds_site w e) (params_placed ps found)
      ∙ expr_placed e (params_sites found ps)
  expr_placed (Function at bar c cs) found = told_Function adds_site found at bar c cs
      ∙ ap (λ w. cases_told adds_site w cs) (case_placed c found)
      ∙ cases_placed cs (case_sites found c)
  expr_placed (Match at e bar c cs) found = told_Match adds_site found at e bar c cs
      ∙ ap (λ w. cases_told adds_site (case_told adds_site w c) cs) (expr_placed e found)
      ∙ ap (λ w. cases_told adds_site w cs) (case_placed c (expr_sites found e))
      ∙ cases_placed cs (case_sites (expr_sites found e) c)
  expr_placed (Try at e bar c cs) found = told_Try adds_site found at e bar c cs
      ∙ ap (λ w. cases_told adds_site (case_told adds_site w c) cs) (expr_placed e found)
      ∙ ap (λ w. cases_told adds_site w cs) (case_placed c (expr_sites found e))
      ∙ cases_placed cs (case_sites (expr_sites found e) c)
  expr_placed (If at c a tail) found = told_If adds_site found at c a tail
      ∙ ap (λ w. tail_told adds_site (expr_told adds_site w a) tail) (expr_placed c found)
      ∙ ap (λ w. tail_told adds_site w tail) (expr_placed a (expr_sites found c))
      ∙ tail_placed tail (expr_sites (expr_sites found c) a)
  expr_placed (Chain n e es) found = told_Chain adds_site found n e es
      ∙ ap (λ w. links_told adds_site w es) (expr_placed e found)
      ∙ links_placed es (expr_sites found e)
  expr_placed (Minus x e) found = told_Minus adds_site found x e
      ∙ expr_placed e (adds_site found (minus x))
  expr_placed (Apply f es) found = told_Apply adds_site found f es
      ∙ ap (λ w. arguments_told adds_site w es) (expr_placed f found)
      ∙ arguments_placed es (expr_sites found f)
  expr_placed (ConstrApply path e) found = told_ConstrApply adds_site found path e
      ∙ expr_placed e (adds_site found (last_path path))
  expr_placed (TagApply x e) found = told_TagApply adds_site found x e
      ∙ expr_placed e found
  expr_placed (Assert at e) found = told_Assert adds_site found at e
      ∙ expr_placed e found
  expr_placed (Lazy at e) found = told_Lazy adds_site found at e
      ∙ expr_placed e found
  expr_placed (Postfix e ps) found = told_Postfix adds_site found e ps
      ∙ ap (λ w. parts_told adds_site w ps) (expr_placed e found)
      ∙ parts_placed ps (expr_sites found e)
  expr_placed (Prefixed x e) found = told_Prefixed adds_site found x e
      ∙ expr_placed e (adds_site found (operator (word class.Prefix x)))
  expr_placed (Literal c x) found = told_Literal adds_site found c x
  expr_placed (BoolExpr at b) found = told_BoolExpr adds_site found at b
  expr_placed (Value path x) found = told_Value adds_site found path x
  expr_placed (Constr path) found = told_Constr adds_site found path
  expr_placed (Tag x) found = told_Tag adds_site found x
  expr_placed (UnitExpr at) found = told_UnitExpr adds_site found at
  expr_placed (Paren at e) found = told_Paren adds_site found at e
      ∙ expr_placed e found
  expr_placed (Typed at e run) found = told_Typed adds_site found at e run
      ∙ expr_placed e found
  expr_placed (Coerced at e from to) found = told_Coerced adds_site found at e from to
      ∙ expr_placed e found
  expr_placed (EmptyBegin at) found = told_EmptyBegin adds_site found at
  expr_placed (Begin at e) found = told_Begin adds_site found at e
      ∙ expr_placed e found
  expr_placed (EmptyList at b) found = told_EmptyList adds_site found at b
  expr_placed (ListExpr at b e es last) found = told_ListExpr adds_site found at b e es last
      ∙ ap (λ w. links_told adds_site w es) (expr_placed e found)
      ∙ links_placed es (expr_sites found e)
  expr_placed (Record at base f fs last) found = told_Record adds_site found at base f fs last
      ∙ ap (λ w. fields_told adds_site (field_told adds_site w f) fs) (base_placed base found)
      ∙ ap (λ w. fields_told adds_site w fs) (field_placed f (maybe_sites found base))
      ∙ fields_placed fs (field_sites (maybe_sites found base) f)
  expr_placed (Opened path e) found = told_Opened adds_site found path e
      ∙ expr_placed e (adds_site found (module_path path))
  expr_placed (While at c e) found = told_While adds_site found at c e
      ∙ ap (λ w. expr_told adds_site w e) (expr_placed c found)
      ∙ expr_placed e (expr_sites found c)
  expr_placed (For at x eq a down b e) found = told_For adds_site found at x eq a down b e
      ∙ ap (λ w. expr_told adds_site (adds_site (expr_told adds_site (expr_told adds_site w a) b) group_ends) e) (variable_placed x (adds_site
      found group_begins))
      ∙ ap (λ w. expr_told adds_site (adds_site (expr_told adds_site w b) group_ends) e) (expr_placed a (variable_sites (adds_site found
      group_begins) x))
      ∙ ap (λ w. expr_told adds_site (adds_site w group_ends) e) (expr_placed b (expr_sites (variable_sites (adds_site found group_begins) x) a))
      ∙ expr_placed e (adds_site (expr_sites (expr_sites (variable_sites (adds_site found group_begins) x) a) b) group_ends)

  links_placed : (x0 : Links) (found : List Site) → links_told adds_site found x0 ≡ links_sites found x0
  links_placed no_link found = told_no_link adds_site found
  links_placed (more_link t e es) found = told_more_link adds_site found t e es
      ∙ ap (λ w. links_told adds_site w es) (expr_placed e (adds_site found (operator t)))
      ∙ links_placed es (expr_sites (adds_site found (operator t)) e)

  base_placed : (x0 : MaybeExpr) (found : List Site) → base_told adds_site found x0 ≡ maybe_sites found x0
  base_placed no_expr found = told_base_no_expr adds_site found
  base_placed (some_expr e) found = told_base_some_expr adds_site found e
      ∙ expr_placed e found

  guard_placed : (x0 : MaybeExpr) (found : List Site) → guard_told adds_site found x0 ≡ maybe_sites found x0
  guard_placed no_expr found = told_guard_no_expr adds_site found
  guard_placed (some_expr e) found = told_guard_some_expr adds_site found e
      ∙ expr_placed e found

  tail_placed : (x0 : Tail) (found : List Site) → tail_told adds_site found x0 ≡ tail_sites found x0
  tail_placed no_else found = told_no_else adds_site found
  tail_placed (or_else e) found = told_or_else adds_site found e
      ∙ expr_placed e found
  tail_placed (or_if at c a tail) found = told_or_if adds_site found at c a tail
      ∙ ap (λ w. tail_told adds_site (expr_told adds_site w a) tail) (expr_placed c found)
      ∙ ap (λ w. tail_told adds_site w tail) (expr_placed a (expr_sites found c))
      ∙ tail_placed tail (expr_sites (expr_sites found c) a)

  binding_placed : (x0 : Binding) (found : List Site) → binding_told adds_site found x0 ≡ binding_sites found x0
  binding_placed (PlainBinding p run at e) found = told_PlainBinding adds_site found p run at e
      ∙ ap (λ w. expr_told adds_site w e) (pat_placed p found)
      ∙ expr_placed e (pat_sites found p)
  binding_placed (AppliedBinding x ps run at e) found = told_AppliedBinding adds_site found x ps run at e
      ∙ ap (λ w. expr_told adds_site w e) (params_placed ps (adds_site found (value true x)))
      ∙ expr_placed e (params_sites (adds_site found (value true x)) ps)

  bindings_placed : (x0 : Bindings) (found : List Site) → bindings_told adds_site found x0 ≡ bindings_sites found x0
  bindings_placed no_binding found = told_no_binding adds_site found
  bindings_placed (more_binding b bs) found = told_more_binding adds_site found b bs
      ∙ ap (λ w. bindings_told adds_site w bs) (binding_placed b found)
      ∙ bindings_placed bs (binding_sites found b)

  case_placed : (x0 : Case) (found : List Site) → case_told adds_site found x0 ≡ case_sites found x0
  case_placed (CaseOf p guard e) found = told_CaseOf adds_site found p guard e
      ∙ ap (λ w. expr_told adds_site (guard_told adds_site (adds_site w group_ends) guard) e) (pat_placed p (adds_site found group_begins))
      ∙ ap (λ w. expr_told adds_site w e) (guard_placed guard (adds_site (pat_sites (adds_site found group_begins) p) group_ends))
      ∙ expr_placed e (maybe_sites (adds_site (pat_sites (adds_site found group_begins) p) group_ends) guard)

  cases_placed : (x0 : Cases) (found : List Site) → cases_told adds_site found x0 ≡ cases_sites found x0
  cases_placed no_case found = told_no_case adds_site found
  cases_placed (more_case c cs) found = told_more_case adds_site found c cs
      ∙ ap (λ w. cases_told adds_site w cs) (case_placed c found)
      ∙ cases_placed cs (case_sites found c)

  argument_placed : (x0 : Argument) (found : List Site) → argument_told adds_site found x0 ≡ argument_sites found x0
  argument_placed (Positional e) found = told_Positional adds_site found e
      ∙ expr_placed e found
  argument_placed (LabelPun x) found = told_LabelPun adds_site found x
  argument_placed (Labelled x e) found = told_Labelled adds_site found x e
      ∙ expr_placed e found

  arguments_placed : (x0 : Arguments) (found : List Site) → arguments_told adds_site found x0 ≡ arguments_sites found x0
  arguments_placed no_argument found = told_no_argument adds_site found
  arguments_placed (more_argument a es) found = told_more_argument adds_site found a es
      ∙ ap (λ w. arguments_told adds_site w es) (argument_placed a found)
      ∙ arguments_placed es (argument_sites found a)

  param_placed : (x0 : Param) (found : List Site) → param_told adds_site found x0 ≡ param_sites found x0
  param_placed (PatternParam p) found = told_PatternParam adds_site found p
      ∙ ap (λ w. adds_site w group_ends) (pat_placed p (adds_site found group_begins))
  param_placed (LabelParam x) found = told_LabelParam adds_site found x
  param_placed (LabelPattern x p) found = told_LabelPattern adds_site found x p
      ∙ ap (λ w. adds_site w group_ends) (pat_placed p (adds_site found group_begins))
  param_placed (DefaultParam x at p run eq e) found = told_DefaultParam adds_site found x at p run eq e
      ∙ ap (λ w. adds_site (expr_told adds_site w e) group_ends) (pat_placed p (adds_site found group_begins))
      ∙ ap (λ w. adds_site w group_ends) (expr_placed e (pat_sites (adds_site found group_begins) p))
  param_placed (WrappedParam at optional at' x run) found = told_WrappedParam adds_site found at optional at' x run
  param_placed (WrappedDefault at at' x run eq e) found = told_WrappedDefault adds_site found at at' x run eq e
      ∙ ap (λ w. adds_site w group_ends) (expr_placed e (adds_site (adds_site found group_begins) (field true x)))
  param_placed (TypesParam at xs) found = told_TypesParam adds_site found at xs

  params_placed : (x0 : Params) (found : List Site) → params_told adds_site found x0 ≡ params_sites found x0
  params_placed no_param found = told_no_param adds_site found
  params_placed (more_param p ps) found = told_more_param adds_site found p ps
      ∙ ap (λ w. params_told adds_site w ps) (param_placed p found)
      ∙ params_placed ps (param_sites found p)

  part_placed : (x0 : Part) (found : List Site) → part_told adds_site found x0 ≡ part_sites found x0
  part_placed (LabelPart path x) found = told_LabelPart adds_site found path x
  part_placed (IndexPart at e) found = told_IndexPart adds_site found at e
      ∙ expr_placed e found
  part_placed (CharPart at e) found = told_CharPart adds_site found at e
      ∙ expr_placed e found

  parts_placed : (x0 : Parts) (found : List Site) → parts_told adds_site found x0 ≡ parts_sites found x0
  parts_placed no_part found = told_no_part adds_site found
  parts_placed (more_part p ps) found = told_more_part adds_site found p ps
      ∙ ap (λ w. parts_told adds_site w ps) (part_placed p found)
      ∙ parts_placed ps (part_sites found p)

  field_placed : (x0 : Field) (found : List Site) → field_told adds_site found x0 ≡ field_sites found x0
  field_placed (FieldPun path x run) found = told_FieldPun adds_site found path x run
  field_placed (AssignedField path x run at e) found = told_AssignedField adds_site found path x run at e
      ∙ expr_placed e (adds_site found (qualifier path))

  fields_placed : (x0 : Fields) (found : List Site) → fields_told adds_site found x0 ≡ fields_sites found x0
  fields_placed no_field found = told_no_field adds_site found
  fields_placed (more_field f fs) found = told_more_field adds_site found f fs
      ∙ ap (λ w. fields_told adds_site w fs) (field_placed f found)
      ∙ fields_placed fs (field_sites found f)

mutual
  mod_placed : (x0 : ModExpr) (found : List Site) → mod_told adds_site found x0 ≡ mod_sites found x0
  mod_placed (ModPath path) found = told_ModPath adds_site found path
  mod_placed (Struct at is) found = told_Struct adds_site found at is
      ∙ ap (λ w. adds_site w scope_ends) (items_placed is (adds_site found scope_begins))
  mod_placed (Functor at ps m) found = told_Functor adds_site found at ps m
      ∙ ap (λ w. adds_site (mod_told adds_site w m) scope_ends) (functor_params_placed ps (adds_site found scope_begins))
      ∙ ap (λ w. adds_site w scope_ends) (mod_placed m (functor_params_sites (adds_site found scope_begins) ps))
  mod_placed (ModApply m ms) found = told_ModApply adds_site found m ms
      ∙ ap (λ w. mod_arguments_told adds_site w ms) (mod_placed m found)
      ∙ mod_arguments_placed ms (mod_sites found m)
  mod_placed (ModParen at m) found = told_ModParen adds_site found at m
      ∙ mod_placed m found
  mod_placed (Sealed at m s) found = told_Sealed adds_site found at m s
      ∙ ap (λ w. mod_type_told adds_site w s) (mod_placed m found)
      ∙ mod_type_placed s (mod_sites found m)

  mod_argument_placed : (x0 : ModArgument) (found : List Site) → mod_argument_told adds_site found x0 ≡ mod_argument_sites found x0
  mod_argument_placed (ModuleArgument at m) found = told_ModuleArgument adds_site found at m
      ∙ mod_placed m found
  mod_argument_placed (SealedArgument at m s) found = told_SealedArgument adds_site found at m s
      ∙ ap (λ w. mod_type_told adds_site w s) (mod_placed m found)
      ∙ mod_type_placed s (mod_sites found m)
  mod_argument_placed (NoArgument at) found = told_NoArgument adds_site found at

  mod_arguments_placed : (x0 : ModArguments) (found : List Site) → mod_arguments_told adds_site found x0 ≡ mod_arguments_sites found x0
  mod_arguments_placed no_mod_argument found = told_no_mod_argument adds_site found
  mod_arguments_placed (more_mod_argument m ms) found = told_more_mod_argument adds_site found m ms
      ∙ ap (λ w. mod_arguments_told adds_site w ms) (mod_argument_placed m found)
      ∙ mod_arguments_placed ms (mod_argument_sites found m)

  functor_param_placed : (x0 : FunctorParam) (found : List Site) → functor_param_told adds_site found x0 ≡ functor_param_sites found x0
  functor_param_placed (NamedParam at x s) found = told_NamedParam adds_site found at x s
      ∙ ap (λ w. brings_told adds_site w x) (mod_type_placed s found)
      ∙ brings_placed x (mod_type_sites found s)
  functor_param_placed (NoParam at) found = told_NoParam adds_site found at

  functor_params_placed : (x0 : FunctorParams) (found : List Site) → functor_params_told adds_site found x0 ≡ functor_params_sites found x0
  functor_params_placed no_functor_param found = told_no_functor_param adds_site found
  functor_params_placed (more_functor_param p ps) found = told_more_functor_param adds_site found p ps
      ∙ ap (λ w. functor_params_told adds_site w ps) (functor_param_placed p found)
      ∙ functor_params_placed ps (functor_param_sites found p)

  mod_type_placed : (x0 : ModType) (found : List Site) → mod_type_told adds_site found x0 ≡ mod_type_sites found x0
  mod_type_placed (TypePath path) found = told_TypePath adds_site found path
  mod_type_placed (Sig at is) found = told_Sig adds_site found at is
      ∙ ap (λ w. adds_site w scope_ends) (sig_items_placed is (adds_site found scope_begins))
  mod_type_placed (TypeOf at m) found = told_TypeOf adds_site found at m
      ∙ mod_placed m found
  mod_type_placed (TypeParen at s) found = told_TypeParen adds_site found at s
      ∙ mod_type_placed s found
  mod_type_placed (With s ws) found = told_With adds_site found s ws
      ∙ mod_type_placed s found
  mod_type_placed (FunctorType at ps s) found = told_FunctorType adds_site found at ps s
      ∙ ap (λ w. adds_site (mod_type_told adds_site w s) scope_ends) (functor_params_placed ps (adds_site found scope_begins))
      ∙ ap (λ w. adds_site w scope_ends) (mod_type_placed s (functor_params_sites (adds_site found scope_begins) ps))
  mod_type_placed (ParamArrow p s) found = told_ParamArrow adds_site found p s
      ∙ ap (λ w. adds_site (mod_type_told adds_site w s) scope_ends) (functor_param_placed p (adds_site found scope_begins))
      ∙ ap (λ w. adds_site w scope_ends) (mod_type_placed s (functor_param_sites (adds_site found scope_begins) p))
  mod_type_placed (Arrow s s') found = told_Arrow adds_site found s s'
      ∙ ap (λ w. mod_type_told adds_site w s') (mod_type_placed s found)
      ∙ mod_type_placed s' (mod_type_sites found s)

  signature_placed : (x0 : MaybeType) (found : List Site) → signature_told adds_site found x0 ≡ signature_sites found x0
  signature_placed no_type found = told_no_type adds_site found
  signature_placed (some_type s) found = told_some_type adds_site found s
      ∙ mod_type_placed s found

  item_placed : (x0 : Item) (found : List Site) → item_told adds_site found x0 ≡ item_sites found x0
  item_placed (ExprItem e) found = told_ExprItem adds_site found e
      ∙ expr_placed e found
  item_placed SeparatorItem found = told_SeparatorItem adds_site found
  item_placed (ValueItem at rec b bs) found = told_ValueItem adds_site found at rec b bs
      ∙ ap (λ w. adds_site (bindings_told adds_site w bs) group_ends) (binding_placed b (adds_site found bindings_begin))
      ∙ ap (λ w. adds_site w group_ends) (bindings_placed bs (binding_sites (adds_site found bindings_begin) b))
  item_placed (ExternalItem x run at texts) found = told_ExternalItem adds_site found x run at texts
  item_placed (TypeItem run) found = told_TypeItem adds_site found run
  item_placed (ExceptionItem at run) found = told_ExceptionItem adds_site found at run
  item_placed (ModuleItem at x ps s eq m) found = told_ModuleItem adds_site found at x ps s eq m
      ∙ ap (λ w. brings_told adds_site (adds_site (mod_told adds_site (signature_told adds_site w s) m) scope_ends) x) (functor_params_placed ps
      (adds_site found scope_begins))
      ∙ ap (λ w. brings_told adds_site (adds_site (mod_told adds_site w m) scope_ends) x) (signature_placed s (functor_params_sites (adds_site
      found scope_begins) ps))
      ∙ ap (λ w. brings_told adds_site (adds_site w scope_ends) x) (mod_placed m (signature_sites (functor_params_sites (adds_site found
      scope_begins) ps) s))
      ∙ brings_placed x (adds_site (mod_sites (signature_sites (functor_params_sites (adds_site found scope_begins) ps) s) m) scope_ends)
  item_placed (ModuleTypeItem at x eq s) found = told_ModuleTypeItem adds_site found at x eq s
      ∙ mod_type_placed s found
  item_placed (OpenItem at bang path) found = told_OpenItem adds_site found at bang path
  item_placed (IncludeItem at m) found = told_IncludeItem adds_site found at m
      ∙ mod_placed m found

  items_placed : (x0 : Items) (found : List Site) → items_told adds_site found x0 ≡ items_sites found x0
  items_placed no_item found = told_no_item adds_site found
  items_placed (more_item i is) found = told_more_item adds_site found i is
      ∙ ap (λ w. items_told adds_site w is) (item_placed i found)
      ∙ items_placed is (item_sites found i)

  sig_item_placed : (x0 : SigItem) (found : List Site) → sig_item_told adds_site found x0 ≡ sig_item_sites found x0
  sig_item_placed SeparatorSig found = told_SeparatorSig adds_site found
  sig_item_placed (ValSig x run) found = told_ValSig adds_site found x run
  sig_item_placed (ExternalSig x run at texts) found = told_ExternalSig adds_site found x run at texts
  sig_item_placed (TypeSig run) found = told_TypeSig adds_site found run
  sig_item_placed (ExceptionSig at run) found = told_ExceptionSig adds_site found at run
  sig_item_placed (ModuleSig at x ps s) found = told_ModuleSig adds_site found at x ps s
      ∙ ap (λ w. brings_told adds_site (adds_site (mod_type_told adds_site w s) scope_ends) x) (functor_params_placed ps (adds_site found
      scope_begins))
      ∙ ap (λ w. brings_told adds_site (adds_site w scope_ends) x) (mod_type_placed s (functor_params_sites (adds_site found scope_begins) ps))
      ∙ brings_placed x (adds_site (mod_type_sites (functor_params_sites (adds_site found scope_begins) ps) s) scope_ends)
  sig_item_placed (AliasSig at x eq path) found = told_AliasSig adds_site found at x eq path
  sig_item_placed (ModuleTypeSig at x eq s) found = told_ModuleTypeSig adds_site found at x eq s
      ∙ mod_type_placed s found
  sig_item_placed (OpenSig at bang path) found = told_OpenSig adds_site found at bang path
  sig_item_placed (IncludeSig at s) found = told_IncludeSig adds_site found at s
      ∙ mod_type_placed s found

  sig_items_placed : (x0 : SigItems) (found : List Site) → sig_items_told adds_site found x0 ≡ sig_items_sites found x0
  sig_items_placed no_sig_item found = told_no_sig_item adds_site found
  sig_items_placed (more_sig_item i is) found = told_more_sig_item adds_site found i is
      ∙ ap (λ w. sig_items_told adds_site w is) (sig_item_placed i found)
      ∙ sig_items_placed is (sig_item_sites found i)

-- the places of a file, as its events make them
pub file_told_placed : (t : FileTree) → file_told adds_site [] t ≡ sites t
unfolding file_told
file_told_placed t = refl

-- and form by form
pub file_placed : (t : FileTree) → sites t ≡ sites_by_form t
file_placed (Body file is) = sym (file_told_placed (Body file is)) ∙ told_Body adds_site [] file is ∙ items_placed is []
file_placed (Face file is) = sym (file_told_placed (Face file is)) ∙ told_Face adds_site [] file is ∙ sig_items_placed is []

-- the same of a body, and of an interface
pub body_placed : (file : ℕ) (is : Items) → sites (Body file is) ≡ items_sites [] is
body_placed file is = file_placed (Body file is)

pub face_placed : (file : ℕ) (is : SigItems) → sites (Face file is) ≡ sig_items_sites [] is
face_placed file is = file_placed (Face file is)
