-- The groups of trees are those that their events make. Printed by scripts/print_walk.py.
use Rattle.std.proofs.Common.{◌≡◌, ◌∙◌, ◌∷◌, ◌++◌, ℕ, List, [], true, Option, Some, None, refl, ap, sym, length, map, append_assoc}
use Rattle.ml_trees.specs.declared.fixed.Fixed.{Fixed}
use Rattle.ml_trees.specs.declared.fixed.Fixed.TheVariants as key
use Rattle.ml_trees.specs.Tree.{ValueName, Pat, AsPat, OrPat, TuplePat, ConsPat, ConstrApplyPat, TagApplyPat, LazyPat}
use Rattle.ml_trees.specs.Tree.{ExceptionPat, AnyPat, ValuePat, LiteralPat, NegativePat, RangePat, ConstrPat, TagPat, BoolPat, UnitPat, ParenPat}
use Rattle.ml_trees.specs.Tree.{TypedPat, EmptyPat, ListPat, RecordPat, OpenedPat, Pats, no_pat, more_pat, PatField, PunnedField, MatchedField}
use Rattle.ml_trees.specs.Tree.{PatFields, no_pat_field, more_pat_field, Variable, PlainVariable, AnyVariable, LocalModule, LocalPath}
use Rattle.ml_trees.specs.Tree.{LocalArguments, no_local, more_local, no_module, Expr, Seq, Let, LetOpen, LetModule, Fun, Function, Match, Try}
use Rattle.ml_trees.specs.Tree.{If}
use Rattle.ml_trees.specs.Tree.{Chain, Minus, Apply, ConstrApply, TagApply, Assert, Lazy, Postfix, Prefixed, Literal, BoolExpr, Value, Constr}
use Rattle.ml_trees.specs.Tree.{Tag}
use Rattle.ml_trees.specs.Tree.{UnitExpr, Paren, Typed, Coerced, EmptyBegin, Begin, EmptyList, ListExpr, Record, Opened, While, For}
use Rattle.ml_trees.specs.Tree.{Links, no_link}
use Rattle.ml_trees.specs.Tree.{more_link, MaybeExpr, no_expr, some_expr, Tail, no_else, or_else, or_if, Binding, PlainBinding, AppliedBinding}
use Rattle.ml_trees.specs.Tree.{Bindings, no_binding, more_binding, Case, CaseOf, Cases, no_case, more_case, Argument, Positional, LabelPun}
use Rattle.ml_trees.specs.Tree.{Labelled, Arguments, no_argument, more_argument, Param, PatternParam, LabelParam, LabelPattern, DefaultParam}
use Rattle.ml_trees.specs.Tree.{WrappedParam, WrappedDefault, TypesParam, Params, no_param, more_param, Part, LabelPart, IndexPart}
use Rattle.ml_trees.specs.Tree.{CharPart, Parts}
use Rattle.ml_trees.specs.Tree.{no_part, more_part, Field, FieldPun, AssignedField, Fields, no_field, more_field, ModuleName, UpperName, AnyName}
use Rattle.ml_trees.specs.Tree.{ModExpr, ModPath, Struct, Functor, ModApply, ModParen, Sealed}
use Rattle.ml_trees.specs.Tree.{ModArgument, ModuleArgument, SealedArgument, NoArgument, ModArguments, no_mod_argument, more_mod_argument}
use Rattle.ml_trees.specs.Tree.{FunctorParam, NamedParam, NoParam, FunctorParams, no_functor_param, more_functor_param, ModType, TypePath, Sig}
use Rattle.ml_trees.specs.Tree.{TypeOf, TypeParen, With, FunctorType, ParamArrow, Arrow, MaybeType, no_type, some_type, Item, ExprItem}
use Rattle.ml_trees.specs.Tree.{SeparatorItem, ValueItem, ExternalItem, TypeItem, ExceptionItem, ModuleItem, ModuleTypeItem, OpenItem}
use Rattle.ml_trees.specs.Tree.{IncludeItem}
use Rattle.ml_trees.specs.Tree.{Items, no_item, more_item, SigItem, SeparatorSig, ValSig, ExternalSig, TypeSig, ExceptionSig, ModuleSig}
use Rattle.ml_trees.specs.Tree.{AliasSig}
use Rattle.ml_trees.specs.Tree.{ModuleTypeSig, OpenSig, IncludeSig, SigItems, no_sig_item, more_sig_item, FileTree, Body, Face}
use Rattle.ml_trees.specs.Events.{group_ends, part_begins, part_ends, alternatives_end, scope_begins, scope_ends, brings}
use Rattle.rotor_base.specs.declared.place.Place.{Place}
use Rattle.value_sites.specs.Places.{Site, punned, name_sites}
use Rattle.shape_core.specs.Shape.{Entries}
use Rattle.binding_model.specs.Facts.{decls}
use Rattle.binding_model.specs.Scopes.{bound, let_bound}
use Rattle.binding_model.specs.Steps.{groups_of}
use Rattle.binding_model.specs.Variables.{binding_variables, bindings_variables, field_variables, fields_variables, for_variables, names}
use Rattle.binding_model.specs.Variables.{pats_variables, variables}
use Rattle.binding_model.specs.Walk.{ties, pat_steps, pats_steps, field_pat_steps, fields_pat_steps, file_number}
use Rattle.tree_events.specs.Told.{names_told, brings_told, pat_told, pats_told, pat_field_told, pat_fields_told, variable_told, local_told}
use Rattle.tree_events.specs.Told.{locals_told, expr_told, links_told, base_told, guard_told, binding_told, bindings_told, case_told, cases_told}
use Rattle.tree_events.specs.Told.{argument_told, arguments_told, param_told, params_told, part_told, parts_told, field_told, fields_told}
use Rattle.tree_events.specs.Told.{mod_told, mod_argument_told, mod_arguments_told, functor_param_told, functor_params_told, mod_type_told}
use Rattle.tree_events.specs.Told.{signature_told, item_told, items_told, sig_item_told, sig_items_told, file_told}
use Rattle.tree_events.proofs.Tells.{tail_told, told_AliasSig, told_AnyName, told_AnyPat, told_AnyVariable, told_AppliedBinding, told_Apply}
use Rattle.tree_events.proofs.Tells.{told_Arrow, told_AsPat, told_Assert, told_AssignedField, told_Begin, told_Body, told_BoolExpr, told_BoolPat}
use Rattle.tree_events.proofs.Tells.{told_CaseOf, told_Chain, told_CharPart, told_Coerced, told_ConsPat, told_Constr, told_ConstrApply}
use Rattle.tree_events.proofs.Tells.{told_ConstrApplyPat, told_ConstrPat, told_DefaultParam, told_EmptyBegin, told_EmptyList, told_EmptyPat}
use Rattle.tree_events.proofs.Tells.{told_ExceptionItem, told_ExceptionPat, told_ExceptionSig, told_ExprItem, told_ExternalItem}
use Rattle.tree_events.proofs.Tells.{told_ExternalSig, told_Face, told_FieldPun, told_For, told_Fun, told_Function, told_Functor}
use Rattle.tree_events.proofs.Tells.{told_FunctorType, told_If, told_IncludeItem, told_IncludeSig, told_IndexPart, told_LabelParam}
use Rattle.tree_events.proofs.Tells.{told_LabelPart, told_LabelPattern, told_LabelPun, told_Labelled, told_Lazy, told_LazyPat, told_Let}
use Rattle.tree_events.proofs.Tells.{told_LetModule, told_LetOpen, told_ListExpr, told_ListPat, told_Literal, told_LiteralPat, told_LocalPath}
use Rattle.tree_events.proofs.Tells.{told_Match, told_MatchedField, told_Minus, told_ModApply, told_ModParen, told_ModPath, told_ModuleArgument}
use Rattle.tree_events.proofs.Tells.{told_ModuleItem, told_ModuleSig, told_ModuleTypeItem, told_ModuleTypeSig, told_NamedParam, told_NegativePat}
use Rattle.tree_events.proofs.Tells.{told_NoArgument, told_NoParam, told_OpenItem, told_OpenSig, told_Opened, told_OpenedPat, told_OrPat}
use Rattle.tree_events.proofs.Tells.{told_ParamArrow, told_Paren, told_ParenPat, told_PatternParam, told_PlainBinding, told_PlainVariable}
use Rattle.tree_events.proofs.Tells.{told_Positional, told_Postfix, told_Prefixed, told_PunnedField, told_RangePat, told_Record, told_RecordPat}
use Rattle.tree_events.proofs.Tells.{told_Sealed, told_SealedArgument, told_SeparatorItem, told_SeparatorSig, told_Seq, told_Sig, told_Struct}
use Rattle.tree_events.proofs.Tells.{told_Tag, told_TagApply, told_TagApplyPat, told_TagPat, told_Try, told_TuplePat, told_TypeItem, told_TypeOf}
use Rattle.tree_events.proofs.Tells.{told_TypeParen, told_TypePath, told_TypeSig, told_Typed, told_TypedPat, told_TypesParam, told_UnitExpr}
use Rattle.tree_events.proofs.Tells.{told_UnitPat, told_UpperName, told_ValSig, told_Value, told_ValueItem, told_ValuePat, told_While, told_With}
use Rattle.tree_events.proofs.Tells.{told_WrappedDefault, told_WrappedParam, told_base_no_expr, told_base_some_expr, told_guard_no_expr}
use Rattle.tree_events.proofs.Tells.{told_guard_some_expr, told_more_argument, told_more_binding, told_more_case, told_more_field}
use Rattle.tree_events.proofs.Tells.{told_more_functor_param, told_more_item, told_more_link, told_more_local, told_more_mod_argument}
use Rattle.tree_events.proofs.Tells.{told_more_param, told_more_part, told_more_pat, told_more_pat_field, told_more_sig_item, told_names_end}
use Rattle.tree_events.proofs.Tells.{told_names_more, told_no_argument, told_no_binding, told_no_case, told_no_else, told_no_field}
use Rattle.tree_events.proofs.Tells.{told_no_functor_param, told_no_item, told_no_link, told_no_local, told_no_mod_argument, told_no_module}
use Rattle.tree_events.proofs.Tells.{told_no_param, told_no_part, told_no_pat, told_no_pat_field, told_no_sig_item, told_no_type, told_or_else}
use Rattle.tree_events.proofs.Tells.{told_or_if, told_some_type}
use Rattle.group_walk.specs.Groups.{argument_groups, arguments_groups, binding_groups, bindings_groups, case_groups, cases_groups, expr_groups}
use Rattle.group_walk.specs.Groups.{field_groups, fields_groups, file_groups, functor_groups, functor_param_groups, item_groups, items_groups}
use Rattle.group_walk.specs.Groups.{links_groups, maybe_type_groups, mod_argument_groups, mod_arguments_groups, mod_groups, optional_groups}
use Rattle.group_walk.specs.Groups.{param_groups, params_groups, part_groups, parts_groups, sig_item_groups, sig_items_groups, tail_groups}
use Rattle.group_walk.specs.Groups.{type_groups}
use Rattle.group_walk.specs.declared.groups.Begun.{Begun}
use Rattle.group_walk.specs.Grouping.{Grouping, begun, grouping, hears}
use Rattle.group_walk.proofs.Listed.{none_joined, two_joined, three_joined, four_joined, none_declared, two_declared, let_listed}

-- the groups of the parts of an or-pattern after the first
abbrev parts_of : ℕ → Pats → List Entries
parts_of file no_pat = []
parts_of file (more_pat p ps) = bound file (variables p) ∷ parts_of file ps

ties_listed : (file : ℕ) (before : List Site) (ps : Pats) → groups_of (ties file before ps) ≡ parts_of file ps
ties_listed file before no_pat = refl
ties_listed file before (more_pat p ps) = ap (λ l. bound file (variables p) ∷ l) (ties_listed file (variables p) ps)

names_grouped : (x0 : List ValueName) (file : ℕ) (found : List (List Place)) (places : List Place) (position : Option ℕ) (around : List Begun)
    → names_told hears (grouping file found (begun places [] position ∷ around)) x0 ≡ grouping file found (begun (places ++ decls (bound file
    (names x0))) [] position ∷ around)
names_grouped [] file found places position around = told_names_end hears (grouping file found (begun places [] position ∷ around))
    ∙ ap (λ z. grouping file found (begun z [] position ∷ around)) (none_declared file places)
names_grouped (x ∷ xs) file found places position around = told_names_more hears (grouping file found (begun places [] position ∷ around)) x xs
    ∙ names_grouped xs file found (places ++ decls (bound file (name_sites [] true x))) position around
    ∙ ap (λ z. grouping file found (begun z [] position ∷ around)) (two_declared file places (name_sites [] true x) (names xs))

brings_grouped : (x0 : ModuleName) (file : ℕ) (found : List (List Place)) (around : List Begun)
    → brings_told hears (grouping file found around) x0 ≡ grouping file found around
brings_grouped (UpperName x) file found around = told_UpperName hears (grouping file found around) x
brings_grouped (AnyName at) file found around = told_AnyName hears (grouping file found around) at

mutual
  pat_grouped : (x0 : Pat) (file : ℕ) (found : List (List Place)) (places : List Place) (position : Option ℕ) (around : List Begun)
      → pat_told hears (grouping file found (begun places [] position ∷ around)) x0 ≡ grouping file (found ++ map decls (groups_of (pat_steps
      file x0))) (begun (places ++ decls (bound file (variables x0))) [] position ∷ around)
  pat_grouped (AsPat p xs) file found places position around = told_AsPat hears (grouping file found (begun places [] position ∷ around)) p xs
      ∙ ap (λ w. names_told hears w xs) (pat_grouped p file found places position around)
      ∙ names_grouped xs file (found ++ map decls (groups_of (pat_steps file p))) (places ++ decls (bound file (variables p))) position around
      ∙ ap (λ z. grouping file (found ++ map decls (groups_of (pat_steps file (AsPat p xs)))) (begun z [] position ∷ around)) (two_declared file
      places (variables p) (names xs))
  pat_grouped (OrPat p ps) file g b n o = told_OrPat hears (grouping file g (begun b [] n ∷ o)) p ps
      ∙ ap (λ w. hears (pats_told hears w key.Bar ps) alternatives_end) (pat_grouped p file g b n o)
      ∙ ap (λ w. hears w alternatives_end) (alternatives_grouped ps file (g ++ map decls (groups_of (pat_steps file p)))
      (b ++ decls (bound file (variables p))) [] n o)
      ∙ ap (λ z. grouping file z (begun (b ++ decls (bound file (variables p))) [] n ∷ o))
      (three_joined g (groups_of (pat_steps file p)) (groups_of (pats_steps file ps)) (parts_of file ps)
      ∙ ap (λ l. g ++ map decls (groups_of (pat_steps file p) ++ (groups_of (pats_steps file ps) ++ l))) (sym (ties_listed file (variables p)
      ps)))
  pat_grouped (TuplePat p ps) file found places position around = told_TuplePat hears (grouping file found (begun places [] position ∷ around))
      p ps
      ∙ ap (λ w. pats_told hears w key.Comma ps) (pat_grouped p file found places position around)
      ∙ pats_grouped key.Comma ps (λ s. refl) (λ s. refl) file (found ++ map decls (groups_of (pat_steps file p))) (places ++ decls (bound file
      (variables p))) position around
      ∙ ap (λ z. grouping file z (begun ((places ++ decls (bound file (variables p))) ++ decls (bound file (pats_variables ps))) [] position ∷
      around)) (two_joined found (groups_of (pat_steps file p)) (groups_of (pats_steps file ps)))
      ∙ ap (λ z. grouping file (found ++ map decls (groups_of (pat_steps file (TuplePat p ps)))) (begun z [] position ∷ around)) (two_declared
      file places (variables p) (pats_variables ps))
  pat_grouped (ConsPat p ps) file found places position around = told_ConsPat hears (grouping file found (begun places [] position ∷ around)) p
      ps
      ∙ ap (λ w. pats_told hears w key.ColonColon ps) (pat_grouped p file found places position around)
      ∙ pats_grouped key.ColonColon ps (λ s. refl) (λ s. refl) file (found ++ map decls (groups_of (pat_steps file p))) (places ++ decls (bound
      file (variables p))) position around
      ∙ ap (λ z. grouping file z (begun ((places ++ decls (bound file (variables p))) ++ decls (bound file (pats_variables ps))) [] position ∷
      around)) (two_joined found (groups_of (pat_steps file p)) (groups_of (pats_steps file ps)))
      ∙ ap (λ z. grouping file (found ++ map decls (groups_of (pat_steps file (ConsPat p ps)))) (begun z [] position ∷ around)) (two_declared
      file places (variables p) (pats_variables ps))
  pat_grouped (ConstrApplyPat path p) file found places position around = told_ConstrApplyPat hears (grouping file found (begun places []
      position ∷ around)) path p
      ∙ pat_grouped p file found places position around
  pat_grouped (TagApplyPat x p) file found places position around = told_TagApplyPat hears (grouping file found (begun places [] position ∷
      around)) x p
      ∙ pat_grouped p file found places position around
  pat_grouped (LazyPat at p) file found places position around = told_LazyPat hears (grouping file found (begun places [] position ∷ around)) at
      p
      ∙ pat_grouped p file found places position around
  pat_grouped (ExceptionPat at p) file found places position around = told_ExceptionPat hears (grouping file found (begun places [] position ∷
      around)) at p
      ∙ pat_grouped p file found places position around
  pat_grouped (AnyPat at) file found places position around = told_AnyPat hears (grouping file found (begun places [] position ∷ around)) at
      ∙ ap (λ z. grouping file z (begun places [] position ∷ around)) (none_joined found)
      ∙ ap (λ z. grouping file (found ++ map decls (groups_of (pat_steps file (AnyPat at)))) (begun z [] position ∷ around)) (none_declared file
      places)
  pat_grouped (ValuePat x) file found places position around = told_ValuePat hears (grouping file found (begun places [] position ∷ around)) x
      ∙ ap (λ z. grouping file z (begun (places ++ decls (bound file (name_sites [] true x))) [] position ∷ around)) (none_joined found)
  pat_grouped (LiteralPat c x) file found places position around = told_LiteralPat hears (grouping file found (begun places [] position ∷
      around)) c x
      ∙ ap (λ z. grouping file z (begun places [] position ∷ around)) (none_joined found)
      ∙ ap (λ z. grouping file (found ++ map decls (groups_of (pat_steps file (LiteralPat c x)))) (begun z [] position ∷ around)) (none_declared
      file places)
  pat_grouped (NegativePat x c y) file found places position around = told_NegativePat hears (grouping file found (begun places [] position ∷
      around)) x c y
      ∙ ap (λ z. grouping file z (begun places [] position ∷ around)) (none_joined found)
      ∙ ap (λ z. grouping file (found ++ map decls (groups_of (pat_steps file (NegativePat x c y)))) (begun z [] position ∷ around))
      (none_declared file places)
  pat_grouped (RangePat x y) file found places position around = told_RangePat hears (grouping file found (begun places [] position ∷ around)) x
      y
      ∙ ap (λ z. grouping file z (begun places [] position ∷ around)) (none_joined found)
      ∙ ap (λ z. grouping file (found ++ map decls (groups_of (pat_steps file (RangePat x y)))) (begun z [] position ∷ around)) (none_declared
      file places)
  pat_grouped (ConstrPat path) file found places position around = told_ConstrPat hears (grouping file found (begun places [] position ∷
      around)) path
      ∙ ap (λ z. grouping file z (begun places [] position ∷ around)) (none_joined found)
      ∙ ap (λ z. grouping file (found ++ map decls (groups_of (pat_steps file (ConstrPat path)))) (begun z [] position ∷ around)) (none_declared
      file places)
  pat_grouped (TagPat x) file found places position around = told_TagPat hears (grouping file found (begun places [] position ∷ around)) x
      ∙ ap (λ z. grouping file z (begun places [] position ∷ around)) (none_joined found)
      ∙ ap (λ z. grouping file (found ++ map decls (groups_of (pat_steps file (TagPat x)))) (begun z [] position ∷ around)) (none_declared file
      places)
  pat_grouped (BoolPat at b) file found places position around = told_BoolPat hears (grouping file found (begun places [] position ∷ around)) at
      b
      ∙ ap (λ z. grouping file z (begun places [] position ∷ around)) (none_joined found)
      ∙ ap (λ z. grouping file (found ++ map decls (groups_of (pat_steps file (BoolPat at b)))) (begun z [] position ∷ around)) (none_declared
      file places)
  pat_grouped (UnitPat at) file found places position around = told_UnitPat hears (grouping file found (begun places [] position ∷ around)) at
      ∙ ap (λ z. grouping file z (begun places [] position ∷ around)) (none_joined found)
      ∙ ap (λ z. grouping file (found ++ map decls (groups_of (pat_steps file (UnitPat at)))) (begun z [] position ∷ around)) (none_declared
      file places)
  pat_grouped (ParenPat at p) file found places position around = told_ParenPat hears (grouping file found (begun places [] position ∷ around))
      at p
      ∙ pat_grouped p file found places position around
  pat_grouped (TypedPat at p run) file found places position around = told_TypedPat hears (grouping file found (begun places [] position ∷
      around)) at p run
      ∙ pat_grouped p file found places position around
  pat_grouped (EmptyPat at b) file found places position around = told_EmptyPat hears (grouping file found (begun places [] position ∷ around))
      at b
      ∙ ap (λ z. grouping file z (begun places [] position ∷ around)) (none_joined found)
      ∙ ap (λ z. grouping file (found ++ map decls (groups_of (pat_steps file (EmptyPat at b)))) (begun z [] position ∷ around)) (none_declared
      file places)
  pat_grouped (ListPat at b p ps last) file found places position around = told_ListPat hears (grouping file found (begun places [] position ∷
      around)) at b p ps last
      ∙ ap (λ w. pats_told hears w key.Semicolon ps) (pat_grouped p file found places position around)
      ∙ pats_grouped key.Semicolon ps (λ s. refl) (λ s. refl) file (found ++ map decls (groups_of (pat_steps file p))) (places ++ decls (bound
      file (variables p))) position around
      ∙ ap (λ z. grouping file z (begun ((places ++ decls (bound file (variables p))) ++ decls (bound file (pats_variables ps))) [] position ∷
      around)) (two_joined found (groups_of (pat_steps file p)) (groups_of (pats_steps file ps)))
      ∙ ap (λ z. grouping file (found ++ map decls (groups_of (pat_steps file (ListPat at b p ps last)))) (begun z [] position ∷ around))
      (two_declared file places (variables p) (pats_variables ps))
  pat_grouped (RecordPat at f fs rest last) file found places position around = told_RecordPat hears (grouping file found (begun places []
      position ∷ around)) at f fs rest last
      ∙ ap (λ w. pat_fields_told hears w fs) (pat_field_grouped f file found places position around)
      ∙ pat_fields_grouped fs file (found ++ map decls (groups_of (field_pat_steps file f))) (places ++ decls (bound file (field_variables f)))
      position around
      ∙ ap (λ z. grouping file z (begun ((places ++ decls (bound file (field_variables f))) ++ decls (bound file (fields_variables fs))) []
      position ∷ around)) (two_joined found (groups_of (field_pat_steps file f)) (groups_of (fields_pat_steps file fs)))
      ∙ ap (λ z. grouping file (found ++ map decls (groups_of (pat_steps file (RecordPat at f fs rest last)))) (begun z [] position ∷ around))
      (two_declared file places (field_variables f) (fields_variables fs))
  pat_grouped (OpenedPat path at p) file found places position around = told_OpenedPat hears (grouping file found (begun places [] position ∷
      around)) path at p
      ∙ pat_grouped p file found places position around

  pats_grouped : (x0 : Fixed) (x1 : Pats) (h : (s : Grouping) → hears s (part_begins x0) ≡ s) (h' : (s : Grouping) → hears s (part_ends x0) ≡ s)
      (file : ℕ) (found : List (List Place)) (places : List Place) (position : Option ℕ) (around : List Begun)
      → pats_told hears (grouping file found (begun places [] position ∷ around)) x0 x1 ≡ grouping file (found ++ map decls (groups_of
      (pats_steps file x1))) (begun (places ++ decls (bound file (pats_variables x1))) [] position ∷ around)
  pats_grouped sep no_pat h h' file found places position around = told_no_pat hears (grouping file found (begun places [] position ∷ around))
      sep
      ∙ ap (λ z. grouping file z (begun places [] position ∷ around)) (none_joined found)
      ∙ ap (λ z. grouping file (found ++ map decls (groups_of (pats_steps file no_pat))) (begun z [] position ∷ around)) (none_declared file
      places)
  pats_grouped sep (more_pat p ps) h h' file found places position around = told_more_pat hears (grouping file found (begun places [] position ∷
      around)) sep p ps
      ∙ ap (λ w. pats_told hears (hears (pat_told hears w p) (part_ends sep)) sep ps) (h (grouping file found (begun places [] position ∷
      around)))
      ∙ ap (λ w. pats_told hears (hears w (part_ends sep)) sep ps) (pat_grouped p file found places position around)
      ∙ ap (λ w. pats_told hears w sep ps) (h' (grouping file (found ++ map decls (groups_of (pat_steps file p))) (begun (places ++ decls (bound
      file (variables p))) [] position ∷ around)))
      ∙ pats_grouped sep ps h h' file (found ++ map decls (groups_of (pat_steps file p))) (places ++ decls (bound file (variables p))) position
      around
      ∙ ap (λ z. grouping file z (begun ((places ++ decls (bound file (variables p))) ++ decls (bound file (pats_variables ps))) [] position ∷
      around)) (two_joined found (groups_of (pat_steps file p)) (groups_of (pats_steps file ps)))
      ∙ ap (λ z. grouping file (found ++ map decls (groups_of (pats_steps file (more_pat p ps)))) (begun z [] position ∷ around)) (two_declared
      file places (variables p) (pats_variables ps))

  alternatives_grouped : (ps : Pats) (file : ℕ) (g : List (List Place)) (b : List Place) (l : List (List Place)) (n : Option ℕ) (o : List Begun)
      → pats_told hears (grouping file g (begun b l n ∷ o)) key.Bar ps
      ≡ grouping file (g ++ map decls (groups_of (pats_steps file ps))) (begun b (l ++ map decls (parts_of file ps)) n ∷ o)
  alternatives_grouped no_pat file g b l n o = told_no_pat hears (grouping file g (begun b l n ∷ o)) key.Bar
      ∙ ap (λ z. grouping file z (begun b l n ∷ o)) (none_joined g)
      ∙ ap (λ z. grouping file (g ++ map decls []) (begun b z n ∷ o)) (none_joined l)
  alternatives_grouped (more_pat p ps) file g b l n o = told_more_pat hears (grouping file g (begun b l n ∷ o)) key.Bar p ps
      ∙ ap (λ w. pats_told hears (hears w (part_ends key.Bar)) key.Bar ps) (pat_grouped p file g [] None (begun b l n ∷ o))
      ∙ alternatives_grouped ps file (g ++ map decls (groups_of (pat_steps file p))) b (l ++ decls (bound file (variables p)) ∷ []) n o
      ∙ ap (λ z. grouping file z (begun b ((l ++ decls (bound file (variables p)) ∷ []) ++ map decls (parts_of file ps)) n ∷ o))
      (two_joined g (groups_of (pat_steps file p)) (groups_of (pats_steps file ps)))
      ∙ ap (λ z. grouping file (g ++ map decls (groups_of (pat_steps file p) ++ groups_of (pats_steps file ps))) (begun b z n ∷ o))
      (two_joined l (bound file (variables p) ∷ []) (parts_of file ps))

  pat_field_grouped : (x0 : PatField) (file : ℕ) (found : List (List Place)) (places : List Place) (position : Option ℕ) (around : List Begun)
      → pat_field_told hears (grouping file found (begun places [] position ∷ around)) x0 ≡ grouping file (found ++ map decls (groups_of
      (field_pat_steps file x0))) (begun (places ++ decls (bound file (field_variables x0))) [] position ∷ around)
  pat_field_grouped (PunnedField path x run) file found places position around = told_PunnedField hears (grouping file found (begun places []
      position ∷ around)) path x run
      ∙ ap (λ z. grouping file z (begun (places ++ decls (bound file (punned true x.at x.text ∷ []))) [] position ∷ around)) (none_joined found)
  pat_field_grouped (MatchedField path x run at p) file found places position around = told_MatchedField hears (grouping file found (begun
      places [] position ∷ around)) path x run at p
      ∙ pat_grouped p file found places position around

  pat_fields_grouped : (x0 : PatFields) (file : ℕ) (found : List (List Place)) (places : List Place) (position : Option ℕ) (around : List Begun)
      → pat_fields_told hears (grouping file found (begun places [] position ∷ around)) x0 ≡ grouping file (found ++ map decls (groups_of
      (fields_pat_steps file x0))) (begun (places ++ decls (bound file (fields_variables x0))) [] position ∷ around)
  pat_fields_grouped no_pat_field file found places position around = told_no_pat_field hears (grouping file found (begun places [] position ∷
      around))
      ∙ ap (λ z. grouping file z (begun places [] position ∷ around)) (none_joined found)
      ∙ ap (λ z. grouping file (found ++ map decls (groups_of (fields_pat_steps file no_pat_field))) (begun z [] position ∷ around))
      (none_declared file places)
  pat_fields_grouped (more_pat_field f fs) file found places position around = told_more_pat_field hears (grouping file found (begun places []
      position ∷ around)) f fs
      ∙ ap (λ w. pat_fields_told hears w fs) (pat_field_grouped f file found places position around)
      ∙ pat_fields_grouped fs file (found ++ map decls (groups_of (field_pat_steps file f))) (places ++ decls (bound file (field_variables f)))
      position around
      ∙ ap (λ z. grouping file z (begun ((places ++ decls (bound file (field_variables f))) ++ decls (bound file (fields_variables fs))) []
      position ∷ around)) (two_joined found (groups_of (field_pat_steps file f)) (groups_of (fields_pat_steps file fs)))
      ∙ ap (λ z. grouping file (found ++ map decls (groups_of (fields_pat_steps file (more_pat_field f fs)))) (begun z [] position ∷ around))
      (two_declared file places (field_variables f) (fields_variables fs))

variable_grouped : (x0 : Variable) (file : ℕ) (found : List (List Place)) (places : List Place) (position : Option ℕ) (around : List Begun)
    → variable_told hears (grouping file found (begun places [] position ∷ around)) x0 ≡ grouping file found (begun (places ++ decls (bound file
    (for_variables x0))) [] position ∷ around)
variable_grouped (PlainVariable x) file found places position around = told_PlainVariable hears (grouping file found (begun places [] position ∷
    around)) x
variable_grouped (AnyVariable at) file found places position around = told_AnyVariable hears (grouping file found (begun places [] position ∷
    around)) at
    ∙ ap (λ z. grouping file found (begun z [] position ∷ around)) (none_declared file places)

mutual
  local_grouped : (x0 : LocalModule) (file : ℕ) (found : List (List Place)) (around : List Begun)
      → local_told hears (grouping file found around) x0 ≡ grouping file found around
  local_grouped (LocalPath path ms) file found around = told_LocalPath hears (grouping file found around) path ms
      ∙ locals_grouped ms file found around

  locals_grouped : (x0 : LocalArguments) (file : ℕ) (found : List (List Place)) (around : List Begun)
      → locals_told hears (grouping file found around) x0 ≡ grouping file found around
  locals_grouped no_local file found around = told_no_local hears (grouping file found around)
  locals_grouped (more_local at m ms) file found around = told_more_local hears (grouping file found around) at m ms
      ∙ ap (λ w. locals_told hears w ms) (local_grouped m file found around)
      ∙ locals_grouped ms file found around
  locals_grouped (no_module at ms) file found around = told_no_module hears (grouping file found around) at ms
      ∙ locals_grouped ms file found around

mutual
  expr_grouped : (x0 : Expr) (file : ℕ) (found : List (List Place)) (around : List Begun)
      → expr_told hears (grouping file found around) x0 ≡ grouping file (found ++ map decls (expr_groups file x0)) around
  expr_grouped (Seq e es last) file found around = told_Seq hears (grouping file found around) e es last
      ∙ ap (λ w. links_told hears w es) (expr_grouped e file found around)
      ∙ links_grouped es file (found ++ map decls (expr_groups file e)) around
      ∙ ap (λ z. grouping file z around) (two_joined found (expr_groups file e) (links_groups file es))
  expr_grouped (Let at rec b bs e) file g o = told_Let hears (grouping file g o) at rec b bs e
      ∙ ap (λ w. expr_told hears (hears (bindings_told hears w bs) group_ends) e) (binding_grouped b file (g ++ [] ∷ []) [] (Some (length g)) o)
      ∙ ap (λ w. expr_told hears (hears w group_ends) e) (bindings_grouped bs file ((g ++ [] ∷ []) ++ map decls (binding_groups file b))
      (decls (bound file (binding_variables b))) (Some (length g)) o)
      ∙ ap (λ w. expr_told hears (grouping file w o) e) (let_listed file g b bs)
      ∙ expr_grouped e file (g ++ map decls (let_bound file b bs ∷ (binding_groups file b ++ bindings_groups file bs))) o
      ∙ ap (λ z. grouping file z o) (two_joined g (let_bound file b bs ∷ (binding_groups file b ++ bindings_groups file bs)) (expr_groups file e)
      ∙ ap (λ l. g ++ map decls (let_bound file b bs ∷ l)) (append_assoc (binding_groups file b) (bindings_groups file bs) (expr_groups file e)))
  expr_grouped (LetOpen at at' bang path e) file found around = told_LetOpen hears (grouping file found around) at at' bang path e
      ∙ expr_grouped e file found around
  expr_grouped (LetModule at at' x eq m e) file found around = told_LetModule hears (grouping file found around) at at' x eq m e
      ∙ ap (λ w. hears (expr_told hears (hears (hears w scope_begins) (brings (UpperName x))) e) scope_ends) (local_grouped m file found around)
      ∙ ap (λ w. hears w scope_ends) (expr_grouped e file found around)
  expr_grouped (Fun at ps e) file found around = told_Fun hears (grouping file found around) at ps e
      ∙ ap (λ w. expr_told hears w e) (params_grouped ps file found around)
      ∙ expr_grouped e file (found ++ map decls (params_groups file ps)) around
      ∙ ap (λ z. grouping file z around) (two_joined found (params_groups file ps) (expr_groups file e))
  expr_grouped (Function at bar c cs) file found around = told_Function hears (grouping file found around) at bar c cs
      ∙ ap (λ w. cases_told hears w cs) (case_grouped c file found around)
      ∙ cases_grouped cs file (found ++ map decls (case_groups file c)) around
      ∙ ap (λ z. grouping file z around) (two_joined found (case_groups file c) (cases_groups file cs))
  expr_grouped (Match at e bar c cs) file found around = told_Match hears (grouping file found around) at e bar c cs
      ∙ ap (λ w. cases_told hears (case_told hears w c) cs) (expr_grouped e file found around)
      ∙ ap (λ w. cases_told hears w cs) (case_grouped c file (found ++ map decls (expr_groups file e)) around)
      ∙ cases_grouped cs file ((found ++ map decls (expr_groups file e)) ++ map decls (case_groups file c)) around
      ∙ ap (λ z. grouping file z around) (three_joined found (expr_groups file e) (case_groups file c) (cases_groups file cs))
  expr_grouped (Try at e bar c cs) file found around = told_Try hears (grouping file found around) at e bar c cs
      ∙ ap (λ w. cases_told hears (case_told hears w c) cs) (expr_grouped e file found around)
      ∙ ap (λ w. cases_told hears w cs) (case_grouped c file (found ++ map decls (expr_groups file e)) around)
      ∙ cases_grouped cs file ((found ++ map decls (expr_groups file e)) ++ map decls (case_groups file c)) around
      ∙ ap (λ z. grouping file z around) (three_joined found (expr_groups file e) (case_groups file c) (cases_groups file cs))
  expr_grouped (If at c a tail) file found around = told_If hears (grouping file found around) at c a tail
      ∙ ap (λ w. tail_told hears (expr_told hears w a) tail) (expr_grouped c file found around)
      ∙ ap (λ w. tail_told hears w tail) (expr_grouped a file (found ++ map decls (expr_groups file c)) around)
      ∙ tail_grouped tail file ((found ++ map decls (expr_groups file c)) ++ map decls (expr_groups file a)) around
      ∙ ap (λ z. grouping file z around) (three_joined found (expr_groups file c) (expr_groups file a) (tail_groups file tail))
  expr_grouped (Chain n e es) file found around = told_Chain hears (grouping file found around) n e es
      ∙ ap (λ w. links_told hears w es) (expr_grouped e file found around)
      ∙ links_grouped es file (found ++ map decls (expr_groups file e)) around
      ∙ ap (λ z. grouping file z around) (two_joined found (expr_groups file e) (links_groups file es))
  expr_grouped (Minus x e) file found around = told_Minus hears (grouping file found around) x e
      ∙ expr_grouped e file found around
  expr_grouped (Apply f es) file found around = told_Apply hears (grouping file found around) f es
      ∙ ap (λ w. arguments_told hears w es) (expr_grouped f file found around)
      ∙ arguments_grouped es file (found ++ map decls (expr_groups file f)) around
      ∙ ap (λ z. grouping file z around) (two_joined found (expr_groups file f) (arguments_groups file es))
  expr_grouped (ConstrApply path e) file found around = told_ConstrApply hears (grouping file found around) path e
      ∙ expr_grouped e file found around
  expr_grouped (TagApply x e) file found around = told_TagApply hears (grouping file found around) x e
      ∙ expr_grouped e file found around
  expr_grouped (Assert at e) file found around = told_Assert hears (grouping file found around) at e
      ∙ expr_grouped e file found around
  expr_grouped (Lazy at e) file found around = told_Lazy hears (grouping file found around) at e
      ∙ expr_grouped e file found around
  expr_grouped (Postfix e ps) file found around = told_Postfix hears (grouping file found around) e ps
      ∙ ap (λ w. parts_told hears w ps) (expr_grouped e file found around)
      ∙ parts_grouped ps file (found ++ map decls (expr_groups file e)) around
      ∙ ap (λ z. grouping file z around) (two_joined found (expr_groups file e) (parts_groups file ps))
  expr_grouped (Prefixed x e) file found around = told_Prefixed hears (grouping file found around) x e
      ∙ expr_grouped e file found around
  expr_grouped (Literal c x) file found around = told_Literal hears (grouping file found around) c x
      ∙ ap (λ z. grouping file z around) (none_joined found)
  expr_grouped (BoolExpr at b) file found around = told_BoolExpr hears (grouping file found around) at b
      ∙ ap (λ z. grouping file z around) (none_joined found)
  expr_grouped (Value path x) file found around = told_Value hears (grouping file found around) path x
      ∙ ap (λ z. grouping file z around) (none_joined found)
  expr_grouped (Constr path) file found around = told_Constr hears (grouping file found around) path
      ∙ ap (λ z. grouping file z around) (none_joined found)
  expr_grouped (Tag x) file found around = told_Tag hears (grouping file found around) x
      ∙ ap (λ z. grouping file z around) (none_joined found)
  expr_grouped (UnitExpr at) file found around = told_UnitExpr hears (grouping file found around) at
      ∙ ap (λ z. grouping file z around) (none_joined found)
  expr_grouped (Paren at e) file found around = told_Paren hears (grouping file found around) at e
      ∙ expr_grouped e file found around
  expr_grouped (Typed at e run) file found around = told_Typed hears (grouping file found around) at e run
      ∙ expr_grouped e file found around
  expr_grouped (Coerced at e from to) file found around = told_Coerced hears (grouping file found around) at e from to
      ∙ expr_grouped e file found around
  expr_grouped (EmptyBegin at) file found around = told_EmptyBegin hears (grouping file found around) at
      ∙ ap (λ z. grouping file z around) (none_joined found)
  expr_grouped (Begin at e) file found around = told_Begin hears (grouping file found around) at e
      ∙ expr_grouped e file found around
  expr_grouped (EmptyList at b) file found around = told_EmptyList hears (grouping file found around) at b
      ∙ ap (λ z. grouping file z around) (none_joined found)
  expr_grouped (ListExpr at b e es last) file found around = told_ListExpr hears (grouping file found around) at b e es last
      ∙ ap (λ w. links_told hears w es) (expr_grouped e file found around)
      ∙ links_grouped es file (found ++ map decls (expr_groups file e)) around
      ∙ ap (λ z. grouping file z around) (two_joined found (expr_groups file e) (links_groups file es))
  expr_grouped (Record at base f fs last) file found around = told_Record hears (grouping file found around) at base f fs last
      ∙ ap (λ w. fields_told hears (field_told hears w f) fs) (base_grouped base file found around)
      ∙ ap (λ w. fields_told hears w fs) (field_grouped f file (found ++ map decls (optional_groups file base)) around)
      ∙ fields_grouped fs file ((found ++ map decls (optional_groups file base)) ++ map decls (field_groups file f)) around
      ∙ ap (λ z. grouping file z around) (three_joined found (optional_groups file base) (field_groups file f) (fields_groups file fs))
  expr_grouped (Opened path e) file found around = told_Opened hears (grouping file found around) path e
      ∙ expr_grouped e file found around
  expr_grouped (While at c e) file found around = told_While hears (grouping file found around) at c e
      ∙ ap (λ w. expr_told hears w e) (expr_grouped c file found around)
      ∙ expr_grouped e file (found ++ map decls (expr_groups file c)) around
      ∙ ap (λ z. grouping file z around) (two_joined found (expr_groups file c) (expr_groups file e))
  expr_grouped (For at x eq a down b e) file found around = told_For hears (grouping file found around) at x eq a down b e
      ∙ ap (λ w. expr_told hears (hears (expr_told hears (expr_told hears w a) b) group_ends) e) (variable_grouped x file found [] None around)
      ∙ ap (λ w. expr_told hears (hears (expr_told hears w b) group_ends) e) (expr_grouped a file found (begun ([] ++ decls (bound file
      (for_variables x))) [] None ∷ around))
      ∙ ap (λ w. expr_told hears (hears w group_ends) e) (expr_grouped b file (found ++ map decls (expr_groups file a)) (begun ([] ++ decls
      (bound file (for_variables x))) [] None ∷ around))
      ∙ expr_grouped e file (((found ++ map decls (expr_groups file a)) ++ map decls (expr_groups file b)) ++ map decls (bound file
      (for_variables x) ∷ [])) around
      ∙ ap (λ z. grouping file z around) (four_joined found (expr_groups file a) (expr_groups file b) (bound file (for_variables x) ∷ [])
      (expr_groups file e))

  links_grouped : (x0 : Links) (file : ℕ) (found : List (List Place)) (around : List Begun)
      → links_told hears (grouping file found around) x0 ≡ grouping file (found ++ map decls (links_groups file x0)) around
  links_grouped no_link file found around = told_no_link hears (grouping file found around)
      ∙ ap (λ z. grouping file z around) (none_joined found)
  links_grouped (more_link t e es) file found around = told_more_link hears (grouping file found around) t e es
      ∙ ap (λ w. links_told hears w es) (expr_grouped e file found around)
      ∙ links_grouped es file (found ++ map decls (expr_groups file e)) around
      ∙ ap (λ z. grouping file z around) (two_joined found (expr_groups file e) (links_groups file es))

  base_grouped : (x0 : MaybeExpr) (file : ℕ) (found : List (List Place)) (around : List Begun)
      → base_told hears (grouping file found around) x0 ≡ grouping file (found ++ map decls (optional_groups file x0)) around
  base_grouped no_expr file found around = told_base_no_expr hears (grouping file found around)
      ∙ ap (λ z. grouping file z around) (none_joined found)
  base_grouped (some_expr e) file found around = told_base_some_expr hears (grouping file found around) e
      ∙ expr_grouped e file found around

  guard_grouped : (x0 : MaybeExpr) (file : ℕ) (found : List (List Place)) (around : List Begun)
      → guard_told hears (grouping file found around) x0 ≡ grouping file (found ++ map decls (optional_groups file x0)) around
  guard_grouped no_expr file found around = told_guard_no_expr hears (grouping file found around)
      ∙ ap (λ z. grouping file z around) (none_joined found)
  guard_grouped (some_expr e) file found around = told_guard_some_expr hears (grouping file found around) e
      ∙ expr_grouped e file found around

  tail_grouped : (x0 : Tail) (file : ℕ) (found : List (List Place)) (around : List Begun)
      → tail_told hears (grouping file found around) x0 ≡ grouping file (found ++ map decls (tail_groups file x0)) around
  tail_grouped no_else file found around = told_no_else hears (grouping file found around)
      ∙ ap (λ z. grouping file z around) (none_joined found)
  tail_grouped (or_else e) file found around = told_or_else hears (grouping file found around) e
      ∙ expr_grouped e file found around
  tail_grouped (or_if at c a tail) file found around = told_or_if hears (grouping file found around) at c a tail
      ∙ ap (λ w. tail_told hears (expr_told hears w a) tail) (expr_grouped c file found around)
      ∙ ap (λ w. tail_told hears w tail) (expr_grouped a file (found ++ map decls (expr_groups file c)) around)
      ∙ tail_grouped tail file ((found ++ map decls (expr_groups file c)) ++ map decls (expr_groups file a)) around
      ∙ ap (λ z. grouping file z around) (three_joined found (expr_groups file c) (expr_groups file a) (tail_groups file tail))

  binding_grouped : (x0 : Binding) (file : ℕ) (found : List (List Place)) (places : List Place) (position : Option ℕ) (around : List Begun)
      → binding_told hears (grouping file found (begun places [] position ∷ around)) x0 ≡ grouping file (found ++ map decls (binding_groups file
      x0)) (begun (places ++ decls (bound file (binding_variables x0))) [] position ∷ around)
  binding_grouped (PlainBinding p run at e) file found places position around = told_PlainBinding hears (grouping file found (begun places []
      position ∷ around)) p run at e
      ∙ ap (λ w. expr_told hears w e) (pat_grouped p file found places position around)
      ∙ expr_grouped e file (found ++ map decls (groups_of (pat_steps file p))) (begun (places ++ decls (bound file (variables p))) [] position
      ∷ around)
      ∙ ap (λ z. grouping file z (begun (places ++ decls (bound file (variables p))) [] position ∷ around)) (two_joined found (groups_of
      (pat_steps file p)) (expr_groups file e))
  binding_grouped (AppliedBinding x ps run at e) file found places position around = told_AppliedBinding hears (grouping file found (begun
      places [] position ∷ around)) x ps run at e
      ∙ ap (λ w. expr_told hears w e) (params_grouped ps file found (begun (places ++ decls (bound file (name_sites [] true x))) [] position ∷
      around))
      ∙ expr_grouped e file (found ++ map decls (params_groups file ps)) (begun (places ++ decls (bound file (name_sites [] true x))) []
      position ∷ around)
      ∙ ap (λ z. grouping file z (begun (places ++ decls (bound file (name_sites [] true x))) [] position ∷ around)) (two_joined found
      (params_groups file ps) (expr_groups file e))

  bindings_grouped : (x0 : Bindings) (file : ℕ) (found : List (List Place)) (places : List Place) (position : Option ℕ) (around : List Begun)
      → bindings_told hears (grouping file found (begun places [] position ∷ around)) x0 ≡ grouping file (found ++ map decls (bindings_groups
      file x0)) (begun (places ++ decls (bound file (bindings_variables x0))) [] position ∷ around)
  bindings_grouped no_binding file found places position around = told_no_binding hears (grouping file found (begun places [] position ∷ around))
      ∙ ap (λ z. grouping file z (begun places [] position ∷ around)) (none_joined found)
      ∙ ap (λ z. grouping file (found ++ map decls (bindings_groups file no_binding)) (begun z [] position ∷ around)) (none_declared file places)
  bindings_grouped (more_binding b bs) file found places position around = told_more_binding hears (grouping file found (begun places []
      position ∷ around)) b bs
      ∙ ap (λ w. bindings_told hears w bs) (binding_grouped b file found places position around)
      ∙ bindings_grouped bs file (found ++ map decls (binding_groups file b)) (places ++ decls (bound file (binding_variables b))) position
      around
      ∙ ap (λ z. grouping file z (begun ((places ++ decls (bound file (binding_variables b))) ++ decls (bound file (bindings_variables bs))) []
      position ∷ around)) (two_joined found (binding_groups file b) (bindings_groups file bs))
      ∙ ap (λ z. grouping file (found ++ map decls (bindings_groups file (more_binding b bs))) (begun z [] position ∷ around)) (two_declared
      file places (binding_variables b) (bindings_variables bs))

  case_grouped : (x0 : Case) (file : ℕ) (found : List (List Place)) (around : List Begun)
      → case_told hears (grouping file found around) x0 ≡ grouping file (found ++ map decls (case_groups file x0)) around
  case_grouped (CaseOf p guard e) file found around = told_CaseOf hears (grouping file found around) p guard e
      ∙ ap (λ w. expr_told hears (guard_told hears (hears w group_ends) guard) e) (pat_grouped p file found [] None around)
      ∙ ap (λ w. expr_told hears w e) (guard_grouped guard file ((found ++ map decls (groups_of (pat_steps file p))) ++ map decls (bound file
      (variables p) ∷ [])) around)
      ∙ expr_grouped e file (((found ++ map decls (groups_of (pat_steps file p))) ++ map decls (bound file (variables p) ∷ [])) ++ map decls
      (optional_groups file guard)) around
      ∙ ap (λ z. grouping file z around) (four_joined found (groups_of (pat_steps file p)) (bound file (variables p) ∷ []) (optional_groups file
      guard) (expr_groups file e))

  cases_grouped : (x0 : Cases) (file : ℕ) (found : List (List Place)) (around : List Begun)
      → cases_told hears (grouping file found around) x0 ≡ grouping file (found ++ map decls (cases_groups file x0)) around
  cases_grouped no_case file found around = told_no_case hears (grouping file found around)
      ∙ ap (λ z. grouping file z around) (none_joined found)
  cases_grouped (more_case c cs) file found around = told_more_case hears (grouping file found around) c cs
      ∙ ap (λ w. cases_told hears w cs) (case_grouped c file found around)
      ∙ cases_grouped cs file (found ++ map decls (case_groups file c)) around
      ∙ ap (λ z. grouping file z around) (two_joined found (case_groups file c) (cases_groups file cs))

  argument_grouped : (x0 : Argument) (file : ℕ) (found : List (List Place)) (around : List Begun)
      → argument_told hears (grouping file found around) x0 ≡ grouping file (found ++ map decls (argument_groups file x0)) around
  argument_grouped (Positional e) file found around = told_Positional hears (grouping file found around) e
      ∙ expr_grouped e file found around
  argument_grouped (LabelPun x) file found around = told_LabelPun hears (grouping file found around) x
      ∙ ap (λ z. grouping file z around) (none_joined found)
  argument_grouped (Labelled x e) file found around = told_Labelled hears (grouping file found around) x e
      ∙ expr_grouped e file found around

  arguments_grouped : (x0 : Arguments) (file : ℕ) (found : List (List Place)) (around : List Begun)
      → arguments_told hears (grouping file found around) x0 ≡ grouping file (found ++ map decls (arguments_groups file x0)) around
  arguments_grouped no_argument file found around = told_no_argument hears (grouping file found around)
      ∙ ap (λ z. grouping file z around) (none_joined found)
  arguments_grouped (more_argument a es) file found around = told_more_argument hears (grouping file found around) a es
      ∙ ap (λ w. arguments_told hears w es) (argument_grouped a file found around)
      ∙ arguments_grouped es file (found ++ map decls (argument_groups file a)) around
      ∙ ap (λ z. grouping file z around) (two_joined found (argument_groups file a) (arguments_groups file es))

  param_grouped : (x0 : Param) (file : ℕ) (found : List (List Place)) (around : List Begun)
      → param_told hears (grouping file found around) x0 ≡ grouping file (found ++ map decls (param_groups file x0)) around
  param_grouped (PatternParam p) file found around = told_PatternParam hears (grouping file found around) p
      ∙ ap (λ w. hears w group_ends) (pat_grouped p file found [] None around)
      ∙ ap (λ z. grouping file z around) (two_joined found (groups_of (pat_steps file p)) (bound file (variables p) ∷ []))
  param_grouped (LabelParam x) file found around = told_LabelParam hears (grouping file found around) x
  param_grouped (LabelPattern x p) file found around = told_LabelPattern hears (grouping file found around) x p
      ∙ ap (λ w. hears w group_ends) (pat_grouped p file found [] None around)
      ∙ ap (λ z. grouping file z around) (two_joined found (groups_of (pat_steps file p)) (bound file (variables p) ∷ []))
  param_grouped (DefaultParam x at p run eq e) file found around = told_DefaultParam hears (grouping file found around) x at p run eq e
      ∙ ap (λ w. hears (expr_told hears w e) group_ends) (pat_grouped p file found [] None around)
      ∙ ap (λ w. hears w group_ends) (expr_grouped e file (found ++ map decls (groups_of (pat_steps file p))) (begun ([] ++ decls (bound file
      (variables p))) [] None ∷ around))
      ∙ ap (λ z. grouping file z around) (three_joined found (groups_of (pat_steps file p)) (expr_groups file e) (bound file (variables p) ∷ []))
  param_grouped (WrappedParam at optional at' x run) file found around = told_WrappedParam hears (grouping file found around) at optional at' x
      run
  param_grouped (WrappedDefault at at' x run eq e) file found around = told_WrappedDefault hears (grouping file found around) at at' x run eq e
      ∙ ap (λ w. hears w group_ends) (expr_grouped e file found (begun ([] ++ decls (bound file (punned true x.at x.text ∷ []))) [] None ∷
      around))
      ∙ ap (λ z. grouping file z around) (two_joined found (expr_groups file e) (bound file (punned true x.at x.text ∷ []) ∷ []))
  param_grouped (TypesParam at xs) file found around = told_TypesParam hears (grouping file found around) at xs
      ∙ ap (λ z. grouping file z around) (none_joined found)

  params_grouped : (x0 : Params) (file : ℕ) (found : List (List Place)) (around : List Begun)
      → params_told hears (grouping file found around) x0 ≡ grouping file (found ++ map decls (params_groups file x0)) around
  params_grouped no_param file found around = told_no_param hears (grouping file found around)
      ∙ ap (λ z. grouping file z around) (none_joined found)
  params_grouped (more_param p ps) file found around = told_more_param hears (grouping file found around) p ps
      ∙ ap (λ w. params_told hears w ps) (param_grouped p file found around)
      ∙ params_grouped ps file (found ++ map decls (param_groups file p)) around
      ∙ ap (λ z. grouping file z around) (two_joined found (param_groups file p) (params_groups file ps))

  part_grouped : (x0 : Part) (file : ℕ) (found : List (List Place)) (around : List Begun)
      → part_told hears (grouping file found around) x0 ≡ grouping file (found ++ map decls (part_groups file x0)) around
  part_grouped (LabelPart path x) file found around = told_LabelPart hears (grouping file found around) path x
      ∙ ap (λ z. grouping file z around) (none_joined found)
  part_grouped (IndexPart at e) file found around = told_IndexPart hears (grouping file found around) at e
      ∙ expr_grouped e file found around
  part_grouped (CharPart at e) file found around = told_CharPart hears (grouping file found around) at e
      ∙ expr_grouped e file found around

  parts_grouped : (x0 : Parts) (file : ℕ) (found : List (List Place)) (around : List Begun)
      → parts_told hears (grouping file found around) x0 ≡ grouping file (found ++ map decls (parts_groups file x0)) around
  parts_grouped no_part file found around = told_no_part hears (grouping file found around)
      ∙ ap (λ z. grouping file z around) (none_joined found)
  parts_grouped (more_part p ps) file found around = told_more_part hears (grouping file found around) p ps
      ∙ ap (λ w. parts_told hears w ps) (part_grouped p file found around)
      ∙ parts_grouped ps file (found ++ map decls (part_groups file p)) around
      ∙ ap (λ z. grouping file z around) (two_joined found (part_groups file p) (parts_groups file ps))

  field_grouped : (x0 : Field) (file : ℕ) (found : List (List Place)) (around : List Begun)
      → field_told hears (grouping file found around) x0 ≡ grouping file (found ++ map decls (field_groups file x0)) around
  field_grouped (FieldPun path x run) file found around = told_FieldPun hears (grouping file found around) path x run
      ∙ ap (λ z. grouping file z around) (none_joined found)
  field_grouped (AssignedField path x run at e) file found around = told_AssignedField hears (grouping file found around) path x run at e
      ∙ expr_grouped e file found around

  fields_grouped : (x0 : Fields) (file : ℕ) (found : List (List Place)) (around : List Begun)
      → fields_told hears (grouping file found around) x0 ≡ grouping file (found ++ map decls (fields_groups file x0)) around
  fields_grouped no_field file found around = told_no_field hears (grouping file found around)
      ∙ ap (λ z. grouping file z around) (none_joined found)
  fields_grouped (more_field f fs) file found around = told_more_field hears (grouping file found around) f fs
      ∙ ap (λ w. fields_told hears w fs) (field_grouped f file found around)
      ∙ fields_grouped fs file (found ++ map decls (field_groups file f)) around
      ∙ ap (λ z. grouping file z around) (two_joined found (field_groups file f) (fields_groups file fs))

mutual
  mod_grouped : (x0 : ModExpr) (file : ℕ) (found : List (List Place))
      → mod_told hears (grouping file found []) x0 ≡ grouping file (found ++ map decls (mod_groups file x0)) []
  mod_grouped (ModPath path) file found = told_ModPath hears (grouping file found []) path
      ∙ ap (λ z. grouping file z []) (none_joined found)
  mod_grouped (Struct at is) file found = told_Struct hears (grouping file found []) at is
      ∙ ap (λ w. hears w scope_ends) (items_grouped is file found)
  mod_grouped (Functor at ps m) file found = told_Functor hears (grouping file found []) at ps m
      ∙ ap (λ w. hears (mod_told hears w m) scope_ends) (functor_params_grouped ps file found)
      ∙ ap (λ w. hears w scope_ends) (mod_grouped m file (found ++ map decls (functor_groups file ps)))
      ∙ ap (λ z. grouping file z []) (two_joined found (functor_groups file ps) (mod_groups file m))
  mod_grouped (ModApply m ms) file found = told_ModApply hears (grouping file found []) m ms
      ∙ ap (λ w. mod_arguments_told hears w ms) (mod_grouped m file found)
      ∙ mod_arguments_grouped ms file (found ++ map decls (mod_groups file m))
      ∙ ap (λ z. grouping file z []) (two_joined found (mod_groups file m) (mod_arguments_groups file ms))
  mod_grouped (ModParen at m) file found = told_ModParen hears (grouping file found []) at m
      ∙ mod_grouped m file found
  mod_grouped (Sealed at m s) file found = told_Sealed hears (grouping file found []) at m s
      ∙ ap (λ w. mod_type_told hears w s) (mod_grouped m file found)
      ∙ mod_type_grouped s file (found ++ map decls (mod_groups file m))
      ∙ ap (λ z. grouping file z []) (two_joined found (mod_groups file m) (type_groups file s))

  mod_argument_grouped : (x0 : ModArgument) (file : ℕ) (found : List (List Place))
      → mod_argument_told hears (grouping file found []) x0 ≡ grouping file (found ++ map decls (mod_argument_groups file x0)) []
  mod_argument_grouped (ModuleArgument at m) file found = told_ModuleArgument hears (grouping file found []) at m
      ∙ mod_grouped m file found
  mod_argument_grouped (SealedArgument at m s) file found = told_SealedArgument hears (grouping file found []) at m s
      ∙ ap (λ w. mod_type_told hears w s) (mod_grouped m file found)
      ∙ mod_type_grouped s file (found ++ map decls (mod_groups file m))
      ∙ ap (λ z. grouping file z []) (two_joined found (mod_groups file m) (type_groups file s))
  mod_argument_grouped (NoArgument at) file found = told_NoArgument hears (grouping file found []) at
      ∙ ap (λ z. grouping file z []) (none_joined found)

  mod_arguments_grouped : (x0 : ModArguments) (file : ℕ) (found : List (List Place))
      → mod_arguments_told hears (grouping file found []) x0 ≡ grouping file (found ++ map decls (mod_arguments_groups file x0)) []
  mod_arguments_grouped no_mod_argument file found = told_no_mod_argument hears (grouping file found [])
      ∙ ap (λ z. grouping file z []) (none_joined found)
  mod_arguments_grouped (more_mod_argument m ms) file found = told_more_mod_argument hears (grouping file found []) m ms
      ∙ ap (λ w. mod_arguments_told hears w ms) (mod_argument_grouped m file found)
      ∙ mod_arguments_grouped ms file (found ++ map decls (mod_argument_groups file m))
      ∙ ap (λ z. grouping file z []) (two_joined found (mod_argument_groups file m) (mod_arguments_groups file ms))

  functor_param_grouped : (x0 : FunctorParam) (file : ℕ) (found : List (List Place))
      → functor_param_told hears (grouping file found []) x0 ≡ grouping file (found ++ map decls (functor_param_groups file x0)) []
  functor_param_grouped (NamedParam at x s) file found = told_NamedParam hears (grouping file found []) at x s
      ∙ ap (λ w. brings_told hears w x) (mod_type_grouped s file found)
      ∙ brings_grouped x file (found ++ map decls (type_groups file s)) []
  functor_param_grouped (NoParam at) file found = told_NoParam hears (grouping file found []) at
      ∙ ap (λ z. grouping file z []) (none_joined found)

  functor_params_grouped : (x0 : FunctorParams) (file : ℕ) (found : List (List Place))
      → functor_params_told hears (grouping file found []) x0 ≡ grouping file (found ++ map decls (functor_groups file x0)) []
  functor_params_grouped no_functor_param file found = told_no_functor_param hears (grouping file found [])
      ∙ ap (λ z. grouping file z []) (none_joined found)
  functor_params_grouped (more_functor_param p ps) file found = told_more_functor_param hears (grouping file found []) p ps
      ∙ ap (λ w. functor_params_told hears w ps) (functor_param_grouped p file found)
      ∙ functor_params_grouped ps file (found ++ map decls (functor_param_groups file p))
      ∙ ap (λ z. grouping file z []) (two_joined found (functor_param_groups file p) (functor_groups file ps))

  mod_type_grouped : (x0 : ModType) (file : ℕ) (found : List (List Place))
      → mod_type_told hears (grouping file found []) x0 ≡ grouping file (found ++ map decls (type_groups file x0)) []
  mod_type_grouped (TypePath path) file found = told_TypePath hears (grouping file found []) path
      ∙ ap (λ z. grouping file z []) (none_joined found)
  mod_type_grouped (Sig at is) file found = told_Sig hears (grouping file found []) at is
      ∙ ap (λ w. hears w scope_ends) (sig_items_grouped is file found)
  mod_type_grouped (TypeOf at m) file found = told_TypeOf hears (grouping file found []) at m
      ∙ mod_grouped m file found
  mod_type_grouped (TypeParen at s) file found = told_TypeParen hears (grouping file found []) at s
      ∙ mod_type_grouped s file found
  mod_type_grouped (With s ws) file found = told_With hears (grouping file found []) s ws
      ∙ mod_type_grouped s file found
  mod_type_grouped (FunctorType at ps s) file found = told_FunctorType hears (grouping file found []) at ps s
      ∙ ap (λ w. hears (mod_type_told hears w s) scope_ends) (functor_params_grouped ps file found)
      ∙ ap (λ w. hears w scope_ends) (mod_type_grouped s file (found ++ map decls (functor_groups file ps)))
      ∙ ap (λ z. grouping file z []) (two_joined found (functor_groups file ps) (type_groups file s))
  mod_type_grouped (ParamArrow p s) file found = told_ParamArrow hears (grouping file found []) p s
      ∙ ap (λ w. hears (mod_type_told hears w s) scope_ends) (functor_param_grouped p file found)
      ∙ ap (λ w. hears w scope_ends) (mod_type_grouped s file (found ++ map decls (functor_param_groups file p)))
      ∙ ap (λ z. grouping file z []) (two_joined found (functor_param_groups file p) (type_groups file s))
  mod_type_grouped (Arrow s s') file found = told_Arrow hears (grouping file found []) s s'
      ∙ ap (λ w. mod_type_told hears w s') (mod_type_grouped s file found)
      ∙ mod_type_grouped s' file (found ++ map decls (type_groups file s))
      ∙ ap (λ z. grouping file z []) (two_joined found (type_groups file s) (type_groups file s'))

  signature_grouped : (x0 : MaybeType) (file : ℕ) (found : List (List Place))
      → signature_told hears (grouping file found []) x0 ≡ grouping file (found ++ map decls (maybe_type_groups file x0)) []
  signature_grouped no_type file found = told_no_type hears (grouping file found [])
      ∙ ap (λ z. grouping file z []) (none_joined found)
  signature_grouped (some_type s) file found = told_some_type hears (grouping file found []) s
      ∙ mod_type_grouped s file found

  item_grouped : (x0 : Item) (file : ℕ) (found : List (List Place))
      → item_told hears (grouping file found []) x0 ≡ grouping file (found ++ map decls (item_groups file x0)) []
  item_grouped (ExprItem e) file found = told_ExprItem hears (grouping file found []) e
      ∙ expr_grouped e file found []
  item_grouped SeparatorItem file found = told_SeparatorItem hears (grouping file found [])
      ∙ ap (λ z. grouping file z []) (none_joined found)
  item_grouped (ValueItem at rec b bs) file g = told_ValueItem hears (grouping file g []) at rec b bs
      ∙ ap (λ w. hears (bindings_told hears w bs) group_ends) (binding_grouped b file (g ++ [] ∷ []) [] (Some (length g)) [])
      ∙ ap (λ w. hears w group_ends) (bindings_grouped bs file ((g ++ [] ∷ []) ++ map decls (binding_groups file b))
      (decls (bound file (binding_variables b))) (Some (length g)) [])
      ∙ ap (λ w. grouping file w []) (let_listed file g b bs)
  item_grouped (ExternalItem x run at texts) file found = told_ExternalItem hears (grouping file found []) x run at texts
      ∙ ap (λ z. grouping file z []) (none_joined found)
  item_grouped (TypeItem run) file found = told_TypeItem hears (grouping file found []) run
      ∙ ap (λ z. grouping file z []) (none_joined found)
  item_grouped (ExceptionItem at run) file found = told_ExceptionItem hears (grouping file found []) at run
      ∙ ap (λ z. grouping file z []) (none_joined found)
  item_grouped (ModuleItem at x ps s eq m) file found = told_ModuleItem hears (grouping file found []) at x ps s eq m
      ∙ ap (λ w. brings_told hears (hears (mod_told hears (signature_told hears w s) m) scope_ends) x) (functor_params_grouped ps file found)
      ∙ ap (λ w. brings_told hears (hears (mod_told hears w m) scope_ends) x) (signature_grouped s file (found ++ map decls (functor_groups file
      ps)))
      ∙ ap (λ w. brings_told hears (hears w scope_ends) x) (mod_grouped m file ((found ++ map decls (functor_groups file ps)) ++ map decls
      (maybe_type_groups file s)))
      ∙ brings_grouped x file (((found ++ map decls (functor_groups file ps)) ++ map decls (maybe_type_groups file s)) ++ map decls (mod_groups
      file m)) []
      ∙ ap (λ z. grouping file z []) (three_joined found (functor_groups file ps) (maybe_type_groups file s) (mod_groups file m))
  item_grouped (ModuleTypeItem at x eq s) file found = told_ModuleTypeItem hears (grouping file found []) at x eq s
      ∙ mod_type_grouped s file found
  item_grouped (OpenItem at bang path) file found = told_OpenItem hears (grouping file found []) at bang path
      ∙ ap (λ z. grouping file z []) (none_joined found)
  item_grouped (IncludeItem at m) file found = told_IncludeItem hears (grouping file found []) at m
      ∙ mod_grouped m file found

  items_grouped : (x0 : Items) (file : ℕ) (found : List (List Place))
      → items_told hears (grouping file found []) x0 ≡ grouping file (found ++ map decls (items_groups file x0)) []
  items_grouped no_item file found = told_no_item hears (grouping file found [])
      ∙ ap (λ z. grouping file z []) (none_joined found)
  items_grouped (more_item i is) file found = told_more_item hears (grouping file found []) i is
      ∙ ap (λ w. items_told hears w is) (item_grouped i file found)
      ∙ items_grouped is file (found ++ map decls (item_groups file i))
      ∙ ap (λ z. grouping file z []) (two_joined found (item_groups file i) (items_groups file is))

  sig_item_grouped : (x0 : SigItem) (file : ℕ) (found : List (List Place))
      → sig_item_told hears (grouping file found []) x0 ≡ grouping file (found ++ map decls (sig_item_groups file x0)) []
  sig_item_grouped SeparatorSig file found = told_SeparatorSig hears (grouping file found [])
      ∙ ap (λ z. grouping file z []) (none_joined found)
  sig_item_grouped (ValSig x run) file found = told_ValSig hears (grouping file found []) x run
      ∙ ap (λ z. grouping file z []) (none_joined found)
  sig_item_grouped (ExternalSig x run at texts) file found = told_ExternalSig hears (grouping file found []) x run at texts
      ∙ ap (λ z. grouping file z []) (none_joined found)
  sig_item_grouped (TypeSig run) file found = told_TypeSig hears (grouping file found []) run
      ∙ ap (λ z. grouping file z []) (none_joined found)
  sig_item_grouped (ExceptionSig at run) file found = told_ExceptionSig hears (grouping file found []) at run
      ∙ ap (λ z. grouping file z []) (none_joined found)
  sig_item_grouped (ModuleSig at x ps s) file found = told_ModuleSig hears (grouping file found []) at x ps s
      ∙ ap (λ w. brings_told hears (hears (mod_type_told hears w s) scope_ends) x) (functor_params_grouped ps file found)
      ∙ ap (λ w. brings_told hears (hears w scope_ends) x) (mod_type_grouped s file (found ++ map decls (functor_groups file ps)))
      ∙ brings_grouped x file ((found ++ map decls (functor_groups file ps)) ++ map decls (type_groups file s)) []
      ∙ ap (λ z. grouping file z []) (two_joined found (functor_groups file ps) (type_groups file s))
  sig_item_grouped (AliasSig at x eq path) file found = told_AliasSig hears (grouping file found []) at x eq path
      ∙ ap (λ z. grouping file z []) (none_joined found)
  sig_item_grouped (ModuleTypeSig at x eq s) file found = told_ModuleTypeSig hears (grouping file found []) at x eq s
      ∙ mod_type_grouped s file found
  sig_item_grouped (OpenSig at bang path) file found = told_OpenSig hears (grouping file found []) at bang path
      ∙ ap (λ z. grouping file z []) (none_joined found)
  sig_item_grouped (IncludeSig at s) file found = told_IncludeSig hears (grouping file found []) at s
      ∙ mod_type_grouped s file found

  sig_items_grouped : (x0 : SigItems) (file : ℕ) (found : List (List Place))
      → sig_items_told hears (grouping file found []) x0 ≡ grouping file (found ++ map decls (sig_items_groups file x0)) []
  sig_items_grouped no_sig_item file found = told_no_sig_item hears (grouping file found [])
      ∙ ap (λ z. grouping file z []) (none_joined found)
  sig_items_grouped (more_sig_item i is) file found = told_more_sig_item hears (grouping file found []) i is
      ∙ ap (λ w. sig_items_told hears w is) (sig_item_grouped i file found)
      ∙ sig_items_grouped is file (found ++ map decls (sig_item_groups file i))
      ∙ ap (λ z. grouping file z []) (two_joined found (sig_item_groups file i) (sig_items_groups file is))

-- the groups of a file, behind those that were found before
pub file_grouped : (t : FileTree) (g : List (List Place))
    → (file_told hears (grouping (file_number t) g []) t).found ≡ g ++ map decls (file_groups t)
file_grouped (Body file is) g = ap (λ w. w.found) (told_Body hears (grouping file g []) file is ∙ items_grouped is file g)
file_grouped (Face file is) g = ap (λ w. w.found) (told_Face hears (grouping file g []) file is ∙ sig_items_grouped is file g)
