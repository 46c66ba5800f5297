-- What each form makes of a state: what its parts make of it, one behind another. Printed by scripts/print_walk.py.
use Rattle.std.proofs.Common.{◌≡◌, ◌∙◌, ◌∷◌, ℕ, List, [], Bool, true, false, Option, refl, ap, sym}
use Rattle.rotor_base.specs.declared.token.Class.TheVariants as class
use Rattle.ml_trees.specs.declared.fixed.Fixed.{Fixed}
use Rattle.ml_trees.specs.declared.fixed.Fixed.TheVariants as key
use Rattle.ml_trees.specs.declared.word.Bracket.{Bracket}
use Rattle.ml_trees.specs.Tok.{Name, Tok, word}
use Rattle.ml_trees.specs.Tree.{ValueName, PlainName, Pat, AsPat, OrPat, TuplePat, ConsPat, ConstrApplyPat, TagApplyPat, LazyPat}
use Rattle.ml_trees.specs.Tree.{ExceptionPat, AnyPat, ValuePat, LiteralPat, NegativePat, RangePat, ConstrPat, TagPat, BoolPat, UnitPat, ParenPat}
use Rattle.ml_trees.specs.Tree.{TypedPat, EmptyPat, ListPat, RecordPat, OpenedPat, Pats, no_pat, more_pat, PatField, PunnedField, MatchedField}
use Rattle.ml_trees.specs.Tree.{PatFields, no_pat_field, more_pat_field, Variable, PlainVariable, AnyVariable, LocalModule, LocalPath}
use Rattle.ml_trees.specs.Tree.{LocalArguments, no_local, more_local, no_module, Expr, Seq, Let, LetOpen, LetModule, Fun, Function, Match, Try}
use Rattle.ml_trees.specs.Tree.{If}
use Rattle.ml_trees.specs.Tree.{Chain, Minus, Apply, ConstrApply, TagApply, Assert, Lazy, Postfix, Prefixed, Literal, BoolExpr, Value, Constr}
use Rattle.ml_trees.specs.Tree.{Tag}
use Rattle.ml_trees.specs.Tree.{UnitExpr, Paren, Typed, Coerced, EmptyBegin, Begin, EmptyList, ListExpr, Record, Opened, While, For}
use Rattle.ml_trees.specs.Tree.{Links, no_link}
use Rattle.ml_trees.specs.Tree.{more_link, MaybeExpr, no_expr, some_expr, Tail, no_else, or_else, or_if, Binding, PlainBinding, AppliedBinding}
use Rattle.ml_trees.specs.Tree.{Bindings, no_binding, more_binding, Case, CaseOf, Cases, no_case, more_case, Argument, Positional, LabelPun}
use Rattle.ml_trees.specs.Tree.{Labelled, Arguments, no_argument, more_argument, Param, PatternParam, LabelParam, LabelPattern, DefaultParam}
use Rattle.ml_trees.specs.Tree.{WrappedParam, WrappedDefault, TypesParam, Params, no_param, more_param, Part, LabelPart, IndexPart}
use Rattle.ml_trees.specs.Tree.{CharPart, Parts}
use Rattle.ml_trees.specs.Tree.{no_part, more_part, Field, FieldPun, AssignedField, Fields, no_field, more_field, ModuleName, UpperName, AnyName}
use Rattle.ml_trees.specs.Tree.{WithClause, ModExpr, ModPath, Struct, Functor, ModApply, ModParen, Sealed}
use Rattle.ml_trees.specs.Tree.{ModArgument, ModuleArgument, SealedArgument, NoArgument, ModArguments, no_mod_argument, more_mod_argument}
use Rattle.ml_trees.specs.Tree.{FunctorParam, NamedParam, NoParam, FunctorParams, no_functor_param, more_functor_param, ModType, TypePath, Sig}
use Rattle.ml_trees.specs.Tree.{TypeOf, TypeParen, With, FunctorType, ParamArrow, Arrow, MaybeType, no_type, some_type, Item, ExprItem}
use Rattle.ml_trees.specs.Tree.{SeparatorItem, ValueItem, ExternalItem, TypeItem, ExceptionItem, ModuleItem, ModuleTypeItem, OpenItem}
use Rattle.ml_trees.specs.Tree.{IncludeItem}
use Rattle.ml_trees.specs.Tree.{Items, no_item, more_item, SigItem, SeparatorSig, ValSig, ExternalSig, TypeSig, ExceptionSig, ModuleSig}
use Rattle.ml_trees.specs.Tree.{AliasSig}
use Rattle.ml_trees.specs.Tree.{ModuleTypeSig, OpenSig, IncludeSig, SigItems, no_sig_item, more_sig_item, FileTree, Body, Face}
use Rattle.ml_trees.specs.Events.{Event, value, field, label, operator, minus, module_path, last_path, qualifier, group_begins, group_ends}
use Rattle.ml_trees.specs.Events.{bindings_begin, part_begins, part_ends, alternatives_end, scope_begins, scope_ends, brings}
use Rattle.ml_trees.specs.Events.{names_out, pat_out, pats_out, pat_field_out, pat_fields_out, variable_out, local_out, locals_out, expr_out}
use Rattle.ml_trees.specs.Events.{links_out, base_out, guard_out, tail_out, binding_out, bindings_out, case_out, cases_out, argument_out}
use Rattle.ml_trees.specs.Events.{arguments_out, param_out, params_out, part_out, parts_out, field_out, fields_out, mod_out, mod_argument_out}
use Rattle.ml_trees.specs.Events.{mod_arguments_out, functor_param_out, functor_params_out, mod_type_out, signature_out, item_out, items_out}
use Rattle.ml_trees.specs.Events.{sig_item_out, sig_items_out, file_out}
use Rattle.tree_events.specs.Told.{names_told, brings_told, pat_told, pats_told, pat_field_told, pat_fields_told, variable_told, local_told}
use Rattle.tree_events.specs.Told.{locals_told, expr_told, links_told, base_told, guard_told, binding_told, bindings_told, case_told, cases_told}
use Rattle.tree_events.specs.Told.{argument_told, arguments_told, param_told, params_told, part_told, parts_told, field_told, fields_told}
use Rattle.tree_events.specs.Told.{mod_told, mod_argument_told, mod_arguments_told, functor_param_told, functor_params_told, mod_type_told}
use Rattle.tree_events.specs.Told.{signature_told, item_told, items_told, sig_item_told, sig_items_told, file_told}
use Rattle.rotor_base.specs.declared.token.Class.{Class}
use Rattle.tree_events.specs.Behind.{behind}
use Rattle.tree_events.proofs.Silent.{type_silent, optional_silent, bang_silent, open_silent, lowers_silent, module_name_silent, withs_silent}
use Rattle.tree_events.proofs.Silent.{texts_silent}

unfoldable pub tail_told : {S : Type 0} → (S → Event → S) → S → Tail → S
tail_told step s x0 = tail_out (behind step) x0 (λ t. t) s

names_goes_on : {S : Type 0} (step : S → Event → S) (x0 : List ValueName) (k : S → S) (z : S) → names_out (behind step) x0 k z ≡ k (names_told
    step z x0)
unfolding names_told
names_goes_on step [] k z = refl
names_goes_on step (x ∷ xs) k z = names_goes_on step xs _ _ ∙ ap k (sym (names_goes_on step xs _ _))

brings_goes_on : {S : Type 0} (step : S → Event → S) (x0 : ModuleName) (k : S → S) (z : S) → behind step (brings x0) k z ≡ k (brings_told step z
    x0)
unfolding brings_told
brings_goes_on step (UpperName x) k z = refl
brings_goes_on step (AnyName at) k z = refl

mutual
  unfolding pat_told pats_told pat_field_told pat_fields_told

  pat_goes_on : {S : Type 0} (step : S → Event → S) (x0 : Pat) (k : S → S) (z : S) → pat_out (behind step) x0 k z ≡ k (pat_told step z x0)
  pat_goes_on step (AsPat p xs) k z = pat_goes_on step p _ _ ∙ names_goes_on step xs _ _ ∙ ap k (sym (pat_goes_on step p _ _ ∙ names_goes_on
      step xs _ _))
  pat_goes_on step (OrPat p ps) k z = pat_goes_on step p _ _ ∙ pats_goes_on step key.Bar ps _ _ ∙ ap k (sym (pat_goes_on step p _ _ ∙
      pats_goes_on step key.Bar ps _ _))
  pat_goes_on step (TuplePat p ps) k z = pat_goes_on step p _ _ ∙ pats_goes_on step key.Comma ps _ _ ∙ ap k (sym (pat_goes_on step p _ _ ∙
      pats_goes_on step key.Comma ps _ _))
  pat_goes_on step (ConsPat p ps) k z = pat_goes_on step p _ _ ∙ pats_goes_on step key.ColonColon ps _ _ ∙ ap k (sym (pat_goes_on step p _ _ ∙
      pats_goes_on step key.ColonColon ps _ _))
  pat_goes_on step (ConstrApplyPat path p) k z = pat_goes_on step p _ _ ∙ ap k (sym (pat_goes_on step p _ _))
  pat_goes_on step (TagApplyPat x p) k z = pat_goes_on step p _ _ ∙ ap k (sym (pat_goes_on step p _ _))
  pat_goes_on step (LazyPat at p) k z = pat_goes_on step p _ _ ∙ ap k (sym (pat_goes_on step p _ _))
  pat_goes_on step (ExceptionPat at p) k z = pat_goes_on step p _ _ ∙ ap k (sym (pat_goes_on step p _ _))
  pat_goes_on step (AnyPat at) k z = refl
  pat_goes_on step (ValuePat x) k z = refl
  pat_goes_on step (LiteralPat c x) k z = refl
  pat_goes_on step (NegativePat x c y) k z = refl
  pat_goes_on step (RangePat x y) k z = refl
  pat_goes_on step (ConstrPat path) k z = refl
  pat_goes_on step (TagPat x) k z = refl
  pat_goes_on step (BoolPat at b) k z = refl
  pat_goes_on step (UnitPat at) k z = refl
  pat_goes_on step (ParenPat at p) k z = pat_goes_on step p _ _ ∙ ap k (sym (pat_goes_on step p _ _))
  pat_goes_on step (TypedPat at p run) k z = pat_goes_on step p _ _ ∙ ap k (sym (pat_goes_on step p _ _))
  pat_goes_on step (EmptyPat at b) k z = refl
  pat_goes_on step (ListPat at b p ps last) k z = pat_goes_on step p _ _ ∙ pats_goes_on step key.Semicolon ps _ _ ∙ optional_silent step
      key.Semicolon last _ _ ∙ ap k (sym (pat_goes_on step p _ _ ∙ pats_goes_on step key.Semicolon ps _ _ ∙ optional_silent step key.Semicolon
      last _ _))
  pat_goes_on step (RecordPat at f fs rest last) k z = pat_field_goes_on step f _ _ ∙ pat_fields_goes_on step fs _ _ ∙ open_silent step rest _ _
      ∙ optional_silent step key.Semicolon last _ _ ∙ ap k (sym (pat_field_goes_on step f _ _ ∙ pat_fields_goes_on step fs _ _ ∙ open_silent
      step rest _ _ ∙ optional_silent step key.Semicolon last _ _))
  pat_goes_on step (OpenedPat path at p) k z = pat_goes_on step p _ _ ∙ ap k (sym (pat_goes_on step p _ _))

  pats_goes_on : {S : Type 0} (step : S → Event → S) (x0 : Fixed) (x1 : Pats) (k : S → S) (z : S) → pats_out (behind step) x0 x1 k z ≡ k
      (pats_told step z x0 x1)
  pats_goes_on step sep no_pat k z = refl
  pats_goes_on step sep (more_pat p ps) k z = pat_goes_on step p _ _ ∙ pats_goes_on step sep ps _ _ ∙ ap k (sym (pat_goes_on step p _ _ ∙
      pats_goes_on step sep ps _ _))

  pat_field_goes_on : {S : Type 0} (step : S → Event → S) (x0 : PatField) (k : S → S) (z : S) → pat_field_out (behind step) x0 k z ≡ k
      (pat_field_told step z x0)
  pat_field_goes_on step (PunnedField path x run) k z = type_silent step run _ _ ∙ ap k (sym (type_silent step run _ _))
  pat_field_goes_on step (MatchedField path x run at p) k z = type_silent step run _ _ ∙ pat_goes_on step p _ _ ∙ ap k (sym (type_silent step
      run _ _ ∙ pat_goes_on step p _ _))

  pat_fields_goes_on : {S : Type 0} (step : S → Event → S) (x0 : PatFields) (k : S → S) (z : S) → pat_fields_out (behind step) x0 k z ≡ k
      (pat_fields_told step z x0)
  pat_fields_goes_on step no_pat_field k z = refl
  pat_fields_goes_on step (more_pat_field f fs) k z = pat_field_goes_on step f _ _ ∙ pat_fields_goes_on step fs _ _ ∙ ap k (sym
      (pat_field_goes_on step f _ _ ∙ pat_fields_goes_on step fs _ _))

variable_goes_on : {S : Type 0} (step : S → Event → S) (x0 : Variable) (k : S → S) (z : S) → variable_out (behind step) x0 k z ≡ k
    (variable_told step z x0)
unfolding variable_told
variable_goes_on step (PlainVariable x) k z = refl
variable_goes_on step (AnyVariable at) k z = refl

mutual
  unfolding local_told locals_told

  local_goes_on : {S : Type 0} (step : S → Event → S) (x0 : LocalModule) (k : S → S) (z : S) → local_out (behind step) x0 k z ≡ k (local_told
      step z x0)
  local_goes_on step (LocalPath path ms) k z = locals_goes_on step ms _ _ ∙ ap k (sym (locals_goes_on step ms _ _))

  locals_goes_on : {S : Type 0} (step : S → Event → S) (x0 : LocalArguments) (k : S → S) (z : S) → locals_out (behind step) x0 k z ≡ k
      (locals_told step z x0)
  locals_goes_on step no_local k z = refl
  locals_goes_on step (more_local at m ms) k z = local_goes_on step m _ _ ∙ locals_goes_on step ms _ _ ∙ ap k (sym (local_goes_on step m _ _ ∙
      locals_goes_on step ms _ _))
  locals_goes_on step (no_module at ms) k z = locals_goes_on step ms _ _ ∙ ap k (sym (locals_goes_on step ms _ _))

mutual
  unfolding expr_told links_told base_told guard_told tail_told binding_told bindings_told case_told cases_told argument_told arguments_told
      param_told params_told part_told parts_told field_told fields_told

  expr_goes_on : {S : Type 0} (step : S → Event → S) (x0 : Expr) (k : S → S) (z : S) → expr_out (behind step) x0 k z ≡ k (expr_told step z x0)
  expr_goes_on step (Seq e es last) k z = expr_goes_on step e _ _ ∙ links_goes_on step es _ _ ∙ optional_silent step key.Semicolon last _ _ ∙ ap
      k (sym (expr_goes_on step e _ _ ∙ links_goes_on step es _ _ ∙ optional_silent step key.Semicolon last _ _))
  expr_goes_on step (Let at rec b bs e) k z = optional_silent step key.Rec rec _ _ ∙ binding_goes_on step b _ _ ∙ bindings_goes_on step bs _ _ ∙
      expr_goes_on step e _ _ ∙ ap k (sym (optional_silent step key.Rec rec _ _ ∙ binding_goes_on step b _ _ ∙ bindings_goes_on step bs _ _ ∙
      expr_goes_on step e _ _))
  expr_goes_on step (LetOpen at at' bang path e) k z = bang_silent step bang _ _ ∙ expr_goes_on step e _ _ ∙ ap k (sym (bang_silent step bang _
      _ ∙ expr_goes_on step e _ _))
  expr_goes_on step (LetModule at at' x eq m e) k z = local_goes_on step m _ _ ∙ expr_goes_on step e _ _ ∙ ap k (sym (local_goes_on step m _ _ ∙
      expr_goes_on step e _ _))
  expr_goes_on step (Fun at ps e) k z = params_goes_on step ps _ _ ∙ expr_goes_on step e _ _ ∙ ap k (sym (params_goes_on step ps _ _ ∙
      expr_goes_on step e _ _))
  expr_goes_on step (Function at bar c cs) k z = optional_silent step key.Bar bar _ _ ∙ case_goes_on step c _ _ ∙ cases_goes_on step cs _ _ ∙ ap
      k (sym (optional_silent step key.Bar bar _ _ ∙ case_goes_on step c _ _ ∙ cases_goes_on step cs _ _))
  expr_goes_on step (Match at e bar c cs) k z = expr_goes_on step e _ _ ∙ optional_silent step key.Bar bar _ _ ∙ case_goes_on step c _ _ ∙
      cases_goes_on step cs _ _ ∙ ap k (sym (expr_goes_on step e _ _ ∙ optional_silent step key.Bar bar _ _ ∙ case_goes_on step c _ _ ∙
      cases_goes_on step cs _ _))
  expr_goes_on step (Try at e bar c cs) k z = expr_goes_on step e _ _ ∙ optional_silent step key.Bar bar _ _ ∙ case_goes_on step c _ _ ∙
      cases_goes_on step cs _ _ ∙ ap k (sym (expr_goes_on step e _ _ ∙ optional_silent step key.Bar bar _ _ ∙ case_goes_on step c _ _ ∙
      cases_goes_on step cs _ _))
  expr_goes_on step (If at c a tail) k z = expr_goes_on step c _ _ ∙ expr_goes_on step a _ _ ∙ tail_goes_on step tail _ _ ∙ ap k (sym
      (expr_goes_on step c _ _ ∙ expr_goes_on step a _ _ ∙ tail_goes_on step tail _ _))
  expr_goes_on step (Chain n e es) k z = expr_goes_on step e _ _ ∙ links_goes_on step es _ _ ∙ ap k (sym (expr_goes_on step e _ _ ∙
      links_goes_on step es _ _))
  expr_goes_on step (Minus x e) k z = expr_goes_on step e _ _ ∙ ap k (sym (expr_goes_on step e _ _))
  expr_goes_on step (Apply f es) k z = expr_goes_on step f _ _ ∙ arguments_goes_on step es _ _ ∙ ap k (sym (expr_goes_on step f _ _ ∙
      arguments_goes_on step es _ _))
  expr_goes_on step (ConstrApply path e) k z = expr_goes_on step e _ _ ∙ ap k (sym (expr_goes_on step e _ _))
  expr_goes_on step (TagApply x e) k z = expr_goes_on step e _ _ ∙ ap k (sym (expr_goes_on step e _ _))
  expr_goes_on step (Assert at e) k z = expr_goes_on step e _ _ ∙ ap k (sym (expr_goes_on step e _ _))
  expr_goes_on step (Lazy at e) k z = expr_goes_on step e _ _ ∙ ap k (sym (expr_goes_on step e _ _))
  expr_goes_on step (Postfix e ps) k z = expr_goes_on step e _ _ ∙ parts_goes_on step ps _ _ ∙ ap k (sym (expr_goes_on step e _ _ ∙
      parts_goes_on step ps _ _))
  expr_goes_on step (Prefixed x e) k z = expr_goes_on step e _ _ ∙ ap k (sym (expr_goes_on step e _ _))
  expr_goes_on step (Literal c x) k z = refl
  expr_goes_on step (BoolExpr at b) k z = refl
  expr_goes_on step (Value path x) k z = refl
  expr_goes_on step (Constr path) k z = refl
  expr_goes_on step (Tag x) k z = refl
  expr_goes_on step (UnitExpr at) k z = refl
  expr_goes_on step (Paren at e) k z = expr_goes_on step e _ _ ∙ ap k (sym (expr_goes_on step e _ _))
  expr_goes_on step (Typed at e run) k z = expr_goes_on step e _ _ ∙ ap k (sym (expr_goes_on step e _ _))
  expr_goes_on step (Coerced at e from to) k z = expr_goes_on step e _ _ ∙ type_silent step from _ _ ∙ ap k (sym (expr_goes_on step e _ _ ∙
      type_silent step from _ _))
  expr_goes_on step (EmptyBegin at) k z = refl
  expr_goes_on step (Begin at e) k z = expr_goes_on step e _ _ ∙ ap k (sym (expr_goes_on step e _ _))
  expr_goes_on step (EmptyList at b) k z = refl
  expr_goes_on step (ListExpr at b e es last) k z = expr_goes_on step e _ _ ∙ links_goes_on step es _ _ ∙ optional_silent step key.Semicolon
      last _ _ ∙ ap k (sym (expr_goes_on step e _ _ ∙ links_goes_on step es _ _ ∙ optional_silent step key.Semicolon last _ _))
  expr_goes_on step (Record at base f fs last) k z = base_goes_on step base _ _ ∙ field_goes_on step f _ _ ∙ fields_goes_on step fs _ _ ∙
      optional_silent step key.Semicolon last _ _ ∙ ap k (sym (base_goes_on step base _ _ ∙ field_goes_on step f _ _ ∙ fields_goes_on step fs _
      _ ∙ optional_silent step key.Semicolon last _ _))
  expr_goes_on step (Opened path e) k z = expr_goes_on step e _ _ ∙ ap k (sym (expr_goes_on step e _ _))
  expr_goes_on step (While at c e) k z = expr_goes_on step c _ _ ∙ expr_goes_on step e _ _ ∙ ap k (sym (expr_goes_on step c _ _ ∙ expr_goes_on
      step e _ _))
  expr_goes_on step (For at x eq a down b e) k z = variable_goes_on step x _ _ ∙ expr_goes_on step a _ _ ∙ expr_goes_on step b _ _ ∙
      expr_goes_on step e _ _ ∙ ap k (sym (variable_goes_on step x _ _ ∙ expr_goes_on step a _ _ ∙ expr_goes_on step b _ _ ∙ expr_goes_on step e
      _ _))

  links_goes_on : {S : Type 0} (step : S → Event → S) (x0 : Links) (k : S → S) (z : S) → links_out (behind step) x0 k z ≡ k (links_told step z
      x0)
  links_goes_on step no_link k z = refl
  links_goes_on step (more_link t e es) k z = expr_goes_on step e _ _ ∙ links_goes_on step es _ _ ∙ ap k (sym (expr_goes_on step e _ _ ∙
      links_goes_on step es _ _))

  base_goes_on : {S : Type 0} (step : S → Event → S) (x0 : MaybeExpr) (k : S → S) (z : S) → base_out (behind step) x0 k z ≡ k (base_told step z
      x0)
  base_goes_on step no_expr k z = refl
  base_goes_on step (some_expr e) k z = expr_goes_on step e _ _ ∙ ap k (sym (expr_goes_on step e _ _))

  guard_goes_on : {S : Type 0} (step : S → Event → S) (x0 : MaybeExpr) (k : S → S) (z : S) → guard_out (behind step) x0 k z ≡ k (guard_told step
      z x0)
  guard_goes_on step no_expr k z = refl
  guard_goes_on step (some_expr e) k z = expr_goes_on step e _ _ ∙ ap k (sym (expr_goes_on step e _ _))

  tail_goes_on : {S : Type 0} (step : S → Event → S) (x0 : Tail) (k : S → S) (z : S) → tail_out (behind step) x0 k z ≡ k (tail_told step z x0)
  tail_goes_on step no_else k z = refl
  tail_goes_on step (or_else e) k z = expr_goes_on step e _ _ ∙ ap k (sym (expr_goes_on step e _ _))
  tail_goes_on step (or_if at c a tail) k z = expr_goes_on step c _ _ ∙ expr_goes_on step a _ _ ∙ tail_goes_on step tail _ _ ∙ ap k (sym
      (expr_goes_on step c _ _ ∙ expr_goes_on step a _ _ ∙ tail_goes_on step tail _ _))

  binding_goes_on : {S : Type 0} (step : S → Event → S) (x0 : Binding) (k : S → S) (z : S) → binding_out (behind step) x0 k z ≡ k (binding_told
      step z x0)
  binding_goes_on step (PlainBinding p run at e) k z = pat_goes_on step p _ _ ∙ type_silent step run _ _ ∙ expr_goes_on step e _ _ ∙ ap k (sym
      (pat_goes_on step p _ _ ∙ type_silent step run _ _ ∙ expr_goes_on step e _ _))
  binding_goes_on step (AppliedBinding x ps run at e) k z = params_goes_on step ps _ _ ∙ type_silent step run _ _ ∙ expr_goes_on step e _ _ ∙ ap
      k (sym (params_goes_on step ps _ _ ∙ type_silent step run _ _ ∙ expr_goes_on step e _ _))

  bindings_goes_on : {S : Type 0} (step : S → Event → S) (x0 : Bindings) (k : S → S) (z : S) → bindings_out (behind step) x0 k z ≡ k
      (bindings_told step z x0)
  bindings_goes_on step no_binding k z = refl
  bindings_goes_on step (more_binding b bs) k z = binding_goes_on step b _ _ ∙ bindings_goes_on step bs _ _ ∙ ap k (sym (binding_goes_on step b
      _ _ ∙ bindings_goes_on step bs _ _))

  case_goes_on : {S : Type 0} (step : S → Event → S) (x0 : Case) (k : S → S) (z : S) → case_out (behind step) x0 k z ≡ k (case_told step z x0)
  case_goes_on step (CaseOf p guard e) k z = pat_goes_on step p _ _ ∙ guard_goes_on step guard _ _ ∙ expr_goes_on step e _ _ ∙ ap k (sym
      (pat_goes_on step p _ _ ∙ guard_goes_on step guard _ _ ∙ expr_goes_on step e _ _))

  cases_goes_on : {S : Type 0} (step : S → Event → S) (x0 : Cases) (k : S → S) (z : S) → cases_out (behind step) x0 k z ≡ k (cases_told step z
      x0)
  cases_goes_on step no_case k z = refl
  cases_goes_on step (more_case c cs) k z = case_goes_on step c _ _ ∙ cases_goes_on step cs _ _ ∙ ap k (sym (case_goes_on step c _ _ ∙
      cases_goes_on step cs _ _))

  argument_goes_on : {S : Type 0} (step : S → Event → S) (x0 : Argument) (k : S → S) (z : S) → argument_out (behind step) x0 k z ≡ k
      (argument_told step z x0)
  argument_goes_on step (Positional e) k z = expr_goes_on step e _ _ ∙ ap k (sym (expr_goes_on step e _ _))
  argument_goes_on step (LabelPun x) k z = refl
  argument_goes_on step (Labelled x e) k z = expr_goes_on step e _ _ ∙ ap k (sym (expr_goes_on step e _ _))

  arguments_goes_on : {S : Type 0} (step : S → Event → S) (x0 : Arguments) (k : S → S) (z : S) → arguments_out (behind step) x0 k z ≡ k
      (arguments_told step z x0)
  arguments_goes_on step no_argument k z = refl
  arguments_goes_on step (more_argument a es) k z = argument_goes_on step a _ _ ∙ arguments_goes_on step es _ _ ∙ ap k (sym (argument_goes_on
      step a _ _ ∙ arguments_goes_on step es _ _))

  param_goes_on : {S : Type 0} (step : S → Event → S) (x0 : Param) (k : S → S) (z : S) → param_out (behind step) x0 k z ≡ k (param_told step z
      x0)
  param_goes_on step (PatternParam p) k z = pat_goes_on step p _ _ ∙ ap k (sym (pat_goes_on step p _ _))
  param_goes_on step (LabelParam x) k z = refl
  param_goes_on step (LabelPattern x p) k z = pat_goes_on step p _ _ ∙ ap k (sym (pat_goes_on step p _ _))
  param_goes_on step (DefaultParam x at p run eq e) k z = pat_goes_on step p _ _ ∙ type_silent step run _ _ ∙ expr_goes_on step e _ _ ∙ ap k
      (sym (pat_goes_on step p _ _ ∙ type_silent step run _ _ ∙ expr_goes_on step e _ _))
  param_goes_on step (WrappedParam at optional at' x run) k z = type_silent step run _ _ ∙ ap k (sym (type_silent step run _ _))
  param_goes_on step (WrappedDefault at at' x run eq e) k z = type_silent step run _ _ ∙ expr_goes_on step e _ _ ∙ ap k (sym (type_silent step
      run _ _ ∙ expr_goes_on step e _ _))
  param_goes_on step (TypesParam at xs) k z = lowers_silent step xs _ _ ∙ ap k (sym (lowers_silent step xs _ _))

  params_goes_on : {S : Type 0} (step : S → Event → S) (x0 : Params) (k : S → S) (z : S) → params_out (behind step) x0 k z ≡ k (params_told step
      z x0)
  params_goes_on step no_param k z = refl
  params_goes_on step (more_param p ps) k z = param_goes_on step p _ _ ∙ params_goes_on step ps _ _ ∙ ap k (sym (param_goes_on step p _ _ ∙
      params_goes_on step ps _ _))

  part_goes_on : {S : Type 0} (step : S → Event → S) (x0 : Part) (k : S → S) (z : S) → part_out (behind step) x0 k z ≡ k (part_told step z x0)
  part_goes_on step (LabelPart path x) k z = refl
  part_goes_on step (IndexPart at e) k z = expr_goes_on step e _ _ ∙ ap k (sym (expr_goes_on step e _ _))
  part_goes_on step (CharPart at e) k z = expr_goes_on step e _ _ ∙ ap k (sym (expr_goes_on step e _ _))

  parts_goes_on : {S : Type 0} (step : S → Event → S) (x0 : Parts) (k : S → S) (z : S) → parts_out (behind step) x0 k z ≡ k (parts_told step z
      x0)
  parts_goes_on step no_part k z = refl
  parts_goes_on step (more_part p ps) k z = part_goes_on step p _ _ ∙ parts_goes_on step ps _ _ ∙ ap k (sym (part_goes_on step p _ _ ∙
      parts_goes_on step ps _ _))

  field_goes_on : {S : Type 0} (step : S → Event → S) (x0 : Field) (k : S → S) (z : S) → field_out (behind step) x0 k z ≡ k (field_told step z
      x0)
  field_goes_on step (FieldPun path x run) k z = type_silent step run _ _ ∙ ap k (sym (type_silent step run _ _))
  field_goes_on step (AssignedField path x run at e) k z = type_silent step run _ _ ∙ expr_goes_on step e _ _ ∙ ap k (sym (type_silent step run
      _ _ ∙ expr_goes_on step e _ _))

  fields_goes_on : {S : Type 0} (step : S → Event → S) (x0 : Fields) (k : S → S) (z : S) → fields_out (behind step) x0 k z ≡ k (fields_told step
      z x0)
  fields_goes_on step no_field k z = refl
  fields_goes_on step (more_field f fs) k z = field_goes_on step f _ _ ∙ fields_goes_on step fs _ _ ∙ ap k (sym (field_goes_on step f _ _ ∙
      fields_goes_on step fs _ _))

mutual
  unfolding mod_told mod_argument_told mod_arguments_told functor_param_told functor_params_told mod_type_told signature_told item_told
      items_told sig_item_told sig_items_told

  mod_goes_on : {S : Type 0} (step : S → Event → S) (x0 : ModExpr) (k : S → S) (z : S) → mod_out (behind step) x0 k z ≡ k (mod_told step z x0)
  mod_goes_on step (ModPath path) k z = refl
  mod_goes_on step (Struct at is) k z = items_goes_on step is _ _ ∙ ap k (sym (items_goes_on step is _ _))
  mod_goes_on step (Functor at ps m) k z = functor_params_goes_on step ps _ _ ∙ mod_goes_on step m _ _ ∙ ap k (sym (functor_params_goes_on step
      ps _ _ ∙ mod_goes_on step m _ _))
  mod_goes_on step (ModApply m ms) k z = mod_goes_on step m _ _ ∙ mod_arguments_goes_on step ms _ _ ∙ ap k (sym (mod_goes_on step m _ _ ∙
      mod_arguments_goes_on step ms _ _))
  mod_goes_on step (ModParen at m) k z = mod_goes_on step m _ _ ∙ ap k (sym (mod_goes_on step m _ _))
  mod_goes_on step (Sealed at m s) k z = mod_goes_on step m _ _ ∙ mod_type_goes_on step s _ _ ∙ ap k (sym (mod_goes_on step m _ _ ∙
      mod_type_goes_on step s _ _))

  mod_argument_goes_on : {S : Type 0} (step : S → Event → S) (x0 : ModArgument) (k : S → S) (z : S) → mod_argument_out (behind step) x0 k z ≡ k
      (mod_argument_told step z x0)
  mod_argument_goes_on step (ModuleArgument at m) k z = mod_goes_on step m _ _ ∙ ap k (sym (mod_goes_on step m _ _))
  mod_argument_goes_on step (SealedArgument at m s) k z = mod_goes_on step m _ _ ∙ mod_type_goes_on step s _ _ ∙ ap k (sym (mod_goes_on step m _
      _ ∙ mod_type_goes_on step s _ _))
  mod_argument_goes_on step (NoArgument at) k z = refl

  mod_arguments_goes_on : {S : Type 0} (step : S → Event → S) (x0 : ModArguments) (k : S → S) (z : S) → mod_arguments_out (behind step) x0 k z ≡
      k (mod_arguments_told step z x0)
  mod_arguments_goes_on step no_mod_argument k z = refl
  mod_arguments_goes_on step (more_mod_argument m ms) k z = mod_argument_goes_on step m _ _ ∙ mod_arguments_goes_on step ms _ _ ∙ ap k (sym
      (mod_argument_goes_on step m _ _ ∙ mod_arguments_goes_on step ms _ _))

  functor_param_goes_on : {S : Type 0} (step : S → Event → S) (x0 : FunctorParam) (k : S → S) (z : S) → functor_param_out (behind step) x0 k z ≡
      k (functor_param_told step z x0)
  functor_param_goes_on step (NamedParam at x s) k z = module_name_silent step x _ _ ∙ mod_type_goes_on step s _ _ ∙ brings_goes_on step x _ _ ∙
      ap k (sym (module_name_silent step x _ _ ∙ mod_type_goes_on step s _ _ ∙ brings_goes_on step x _ _))
  functor_param_goes_on step (NoParam at) k z = refl

  functor_params_goes_on : {S : Type 0} (step : S → Event → S) (x0 : FunctorParams) (k : S → S) (z : S) → functor_params_out (behind step) x0 k
      z ≡ k (functor_params_told step z x0)
  functor_params_goes_on step no_functor_param k z = refl
  functor_params_goes_on step (more_functor_param p ps) k z = functor_param_goes_on step p _ _ ∙ functor_params_goes_on step ps _ _ ∙ ap k (sym
      (functor_param_goes_on step p _ _ ∙ functor_params_goes_on step ps _ _))

  mod_type_goes_on : {S : Type 0} (step : S → Event → S) (x0 : ModType) (k : S → S) (z : S) → mod_type_out (behind step) x0 k z ≡ k
      (mod_type_told step z x0)
  mod_type_goes_on step (TypePath path) k z = refl
  mod_type_goes_on step (Sig at is) k z = sig_items_goes_on step is _ _ ∙ ap k (sym (sig_items_goes_on step is _ _))
  mod_type_goes_on step (TypeOf at m) k z = mod_goes_on step m _ _ ∙ ap k (sym (mod_goes_on step m _ _))
  mod_type_goes_on step (TypeParen at s) k z = mod_type_goes_on step s _ _ ∙ ap k (sym (mod_type_goes_on step s _ _))
  mod_type_goes_on step (With s ws) k z = mod_type_goes_on step s _ _ ∙ withs_silent step ws _ _ ∙ ap k (sym (mod_type_goes_on step s _ _ ∙
      withs_silent step ws _ _))
  mod_type_goes_on step (FunctorType at ps s) k z = functor_params_goes_on step ps _ _ ∙ mod_type_goes_on step s _ _ ∙ ap k (sym
      (functor_params_goes_on step ps _ _ ∙ mod_type_goes_on step s _ _))
  mod_type_goes_on step (ParamArrow p s) k z = functor_param_goes_on step p _ _ ∙ mod_type_goes_on step s _ _ ∙ ap k (sym (functor_param_goes_on
      step p _ _ ∙ mod_type_goes_on step s _ _))
  mod_type_goes_on step (Arrow s s') k z = mod_type_goes_on step s _ _ ∙ mod_type_goes_on step s' _ _ ∙ ap k (sym (mod_type_goes_on step s _ _ ∙
      mod_type_goes_on step s' _ _))

  signature_goes_on : {S : Type 0} (step : S → Event → S) (x0 : MaybeType) (k : S → S) (z : S) → signature_out (behind step) x0 k z ≡ k
      (signature_told step z x0)
  signature_goes_on step no_type k z = refl
  signature_goes_on step (some_type s) k z = mod_type_goes_on step s _ _ ∙ ap k (sym (mod_type_goes_on step s _ _))

  item_goes_on : {S : Type 0} (step : S → Event → S) (x0 : Item) (k : S → S) (z : S) → item_out (behind step) x0 k z ≡ k (item_told step z x0)
  item_goes_on step (ExprItem e) k z = expr_goes_on step e _ _ ∙ ap k (sym (expr_goes_on step e _ _))
  item_goes_on step SeparatorItem k z = refl
  item_goes_on step (ValueItem at rec b bs) k z = optional_silent step key.Rec rec _ _ ∙ binding_goes_on step b _ _ ∙ bindings_goes_on step bs _
      _ ∙ ap k (sym (optional_silent step key.Rec rec _ _ ∙ binding_goes_on step b _ _ ∙ bindings_goes_on step bs _ _))
  item_goes_on step (ExternalItem x run at texts) k z = texts_silent step texts _ _ ∙ ap k (sym (texts_silent step texts _ _))
  item_goes_on step (TypeItem run) k z = refl
  item_goes_on step (ExceptionItem at run) k z = refl
  item_goes_on step (ModuleItem at x ps s eq m) k z = module_name_silent step x _ _ ∙ functor_params_goes_on step ps _ _ ∙ signature_goes_on
      step s _ _ ∙ mod_goes_on step m _ _ ∙ brings_goes_on step x _ _ ∙ ap k (sym (module_name_silent step x _ _ ∙ functor_params_goes_on step
      ps _ _ ∙ signature_goes_on step s _ _ ∙ mod_goes_on step m _ _ ∙ brings_goes_on step x _ _))
  item_goes_on step (ModuleTypeItem at x eq s) k z = mod_type_goes_on step s _ _ ∙ ap k (sym (mod_type_goes_on step s _ _))
  item_goes_on step (OpenItem at bang path) k z = bang_silent step bang _ _ ∙ ap k (sym (bang_silent step bang _ _))
  item_goes_on step (IncludeItem at m) k z = mod_goes_on step m _ _ ∙ ap k (sym (mod_goes_on step m _ _))

  items_goes_on : {S : Type 0} (step : S → Event → S) (x0 : Items) (k : S → S) (z : S) → items_out (behind step) x0 k z ≡ k (items_told step z
      x0)
  items_goes_on step no_item k z = refl
  items_goes_on step (more_item i is) k z = item_goes_on step i _ _ ∙ items_goes_on step is _ _ ∙ ap k (sym (item_goes_on step i _ _ ∙
      items_goes_on step is _ _))

  sig_item_goes_on : {S : Type 0} (step : S → Event → S) (x0 : SigItem) (k : S → S) (z : S) → sig_item_out (behind step) x0 k z ≡ k
      (sig_item_told step z x0)
  sig_item_goes_on step SeparatorSig k z = refl
  sig_item_goes_on step (ValSig x run) k z = refl
  sig_item_goes_on step (ExternalSig x run at texts) k z = texts_silent step texts _ _ ∙ ap k (sym (texts_silent step texts _ _))
  sig_item_goes_on step (TypeSig run) k z = refl
  sig_item_goes_on step (ExceptionSig at run) k z = refl
  sig_item_goes_on step (ModuleSig at x ps s) k z = module_name_silent step x _ _ ∙ functor_params_goes_on step ps _ _ ∙ mod_type_goes_on step s
      _ _ ∙ brings_goes_on step x _ _ ∙ ap k (sym (module_name_silent step x _ _ ∙ functor_params_goes_on step ps _ _ ∙ mod_type_goes_on step s
      _ _ ∙ brings_goes_on step x _ _))
  sig_item_goes_on step (AliasSig at x eq path) k z = refl
  sig_item_goes_on step (ModuleTypeSig at x eq s) k z = mod_type_goes_on step s _ _ ∙ ap k (sym (mod_type_goes_on step s _ _))
  sig_item_goes_on step (OpenSig at bang path) k z = bang_silent step bang _ _ ∙ ap k (sym (bang_silent step bang _ _))
  sig_item_goes_on step (IncludeSig at s) k z = mod_type_goes_on step s _ _ ∙ ap k (sym (mod_type_goes_on step s _ _))

  sig_items_goes_on : {S : Type 0} (step : S → Event → S) (x0 : SigItems) (k : S → S) (z : S) → sig_items_out (behind step) x0 k z ≡ k
      (sig_items_told step z x0)
  sig_items_goes_on step no_sig_item k z = refl
  sig_items_goes_on step (more_sig_item i is) k z = sig_item_goes_on step i _ _ ∙ sig_items_goes_on step is _ _ ∙ ap k (sym (sig_item_goes_on
      step i _ _ ∙ sig_items_goes_on step is _ _))

file_goes_on : {S : Type 0} (step : S → Event → S) (x0 : FileTree) (k : S → S) (z : S) → file_out (behind step) x0 k z ≡ k (file_told step z x0)
unfolding file_told
file_goes_on step (Body file is) k z = items_goes_on step is _ _ ∙ ap k (sym (items_goes_on step is _ _))
file_goes_on step (Face file is) k z = sig_items_goes_on step is _ _ ∙ ap k (sym (sig_items_goes_on step is _ _))

pub told_UpperName : {S : Type 0} (step : S → Event → S) (z : S) (x : Name) → brings_told step z (UpperName x) ≡ step z (brings (UpperName x))
unfolding brings_told
told_UpperName step z x = refl

pub told_AnyName : {S : Type 0} (step : S → Event → S) (z : S) (at : ℕ) → brings_told step z (AnyName at) ≡ z
unfolding brings_told
told_AnyName step z at = refl

pub told_names_end : {S : Type 0} (step : S → Event → S) (z : S) → names_told step z [] ≡ z
unfolding names_told
told_names_end step z = refl

pub told_names_more : {S : Type 0} (step : S → Event → S) (z : S) (x : ValueName) (xs : List ValueName) → names_told step z (x ∷ xs) ≡
    names_told step (step z (value true x)) xs
unfolding names_told
told_names_more step z x xs = names_goes_on step xs _ _

pub told_AsPat : {S : Type 0} (step : S → Event → S) (z : S) (p : Pat) (xs : List ValueName) → pat_told step z (AsPat p xs) ≡ names_told step
    (pat_told step z p) xs
unfolding pat_told
told_AsPat step z p xs = pat_goes_on step p _ _ ∙ names_goes_on step xs _ _

pub told_OrPat : {S : Type 0} (step : S → Event → S) (z : S) (p : Pat) (ps : Pats) → pat_told step z (OrPat p ps) ≡ step (pats_told step
    (pat_told step z p) key.Bar ps) alternatives_end
unfolding pat_told
told_OrPat step z p ps = pat_goes_on step p _ _ ∙ pats_goes_on step key.Bar ps _ _

pub told_TuplePat : {S : Type 0} (step : S → Event → S) (z : S) (p : Pat) (ps : Pats) → pat_told step z (TuplePat p ps) ≡ pats_told step
    (pat_told step z p) key.Comma ps
unfolding pat_told
told_TuplePat step z p ps = pat_goes_on step p _ _ ∙ pats_goes_on step key.Comma ps _ _

pub told_ConsPat : {S : Type 0} (step : S → Event → S) (z : S) (p : Pat) (ps : Pats) → pat_told step z (ConsPat p ps) ≡ pats_told step (pat_told
    step z p) key.ColonColon ps
unfolding pat_told
told_ConsPat step z p ps = pat_goes_on step p _ _ ∙ pats_goes_on step key.ColonColon ps _ _

pub told_ConstrApplyPat : {S : Type 0} (step : S → Event → S) (z : S) (path : List Name) (p : Pat) → pat_told step z (ConstrApplyPat path p) ≡
    pat_told step (step z (last_path path)) p
unfolding pat_told
told_ConstrApplyPat step z path p = pat_goes_on step p _ _

pub told_TagApplyPat : {S : Type 0} (step : S → Event → S) (z : S) (x : Name) (p : Pat) → pat_told step z (TagApplyPat x p) ≡ pat_told step z p
unfolding pat_told
told_TagApplyPat step z x p = pat_goes_on step p _ _

pub told_LazyPat : {S : Type 0} (step : S → Event → S) (z : S) (at : ℕ) (p : Pat) → pat_told step z (LazyPat at p) ≡ pat_told step z p
unfolding pat_told
told_LazyPat step z at p = pat_goes_on step p _ _

pub told_ExceptionPat : {S : Type 0} (step : S → Event → S) (z : S) (at : ℕ) (p : Pat) → pat_told step z (ExceptionPat at p) ≡ pat_told step z p
unfolding pat_told
told_ExceptionPat step z at p = pat_goes_on step p _ _

pub told_AnyPat : {S : Type 0} (step : S → Event → S) (z : S) (at : ℕ) → pat_told step z (AnyPat at) ≡ z
unfolding pat_told
told_AnyPat step z at = refl

pub told_ValuePat : {S : Type 0} (step : S → Event → S) (z : S) (x : ValueName) → pat_told step z (ValuePat x) ≡ step z (value true x)
unfolding pat_told
told_ValuePat step z x = refl

pub told_LiteralPat : {S : Type 0} (step : S → Event → S) (z : S) (c : Class) (x : Name) → pat_told step z (LiteralPat c x) ≡ z
unfolding pat_told
told_LiteralPat step z c x = refl

pub told_NegativePat : {S : Type 0} (step : S → Event → S) (z : S) (x : Name) (c : Class) (y : Name) → pat_told step z (NegativePat x c y) ≡ z
unfolding pat_told
told_NegativePat step z x c y = refl

pub told_RangePat : {S : Type 0} (step : S → Event → S) (z : S) (x : Name) (y : Name) → pat_told step z (RangePat x y) ≡ z
unfolding pat_told
told_RangePat step z x y = refl

pub told_ConstrPat : {S : Type 0} (step : S → Event → S) (z : S) (path : List Name) → pat_told step z (ConstrPat path) ≡ step z (last_path path)
unfolding pat_told
told_ConstrPat step z path = refl

pub told_TagPat : {S : Type 0} (step : S → Event → S) (z : S) (x : Name) → pat_told step z (TagPat x) ≡ z
unfolding pat_told
told_TagPat step z x = refl

pub told_BoolPat : {S : Type 0} (step : S → Event → S) (z : S) (at : ℕ) (b : Bool) → pat_told step z (BoolPat at b) ≡ z
unfolding pat_told
told_BoolPat step z at b = refl

pub told_UnitPat : {S : Type 0} (step : S → Event → S) (z : S) (at : ℕ) → pat_told step z (UnitPat at) ≡ z
unfolding pat_told
told_UnitPat step z at = refl

pub told_ParenPat : {S : Type 0} (step : S → Event → S) (z : S) (at : ℕ) (p : Pat) → pat_told step z (ParenPat at p) ≡ pat_told step z p
unfolding pat_told
told_ParenPat step z at p = pat_goes_on step p _ _

pub told_TypedPat : {S : Type 0} (step : S → Event → S) (z : S) (at : ℕ) (p : Pat) (run : List Tok) → pat_told step z (TypedPat at p run) ≡
    pat_told step z p
unfolding pat_told
told_TypedPat step z at p run = pat_goes_on step p _ _

pub told_EmptyPat : {S : Type 0} (step : S → Event → S) (z : S) (at : ℕ) (b : Bracket) → pat_told step z (EmptyPat at b) ≡ z
unfolding pat_told
told_EmptyPat step z at b = refl

pub told_ListPat : {S : Type 0} (step : S → Event → S) (z : S) (at : ℕ) (b : Bracket) (p : Pat) (ps : Pats) (last : Bool) → pat_told step z
    (ListPat at b p ps last) ≡ pats_told step (pat_told step z p) key.Semicolon ps
unfolding pat_told
told_ListPat step z at b p ps last = pat_goes_on step p _ _ ∙ pats_goes_on step key.Semicolon ps _ _ ∙ optional_silent step key.Semicolon last _
    _

pub told_RecordPat : {S : Type 0} (step : S → Event → S) (z : S) (at : ℕ) (f : PatField) (fs : PatFields) (rest : Option ℕ) (last : Bool) →
    pat_told step z (RecordPat at f fs rest last) ≡ pat_fields_told step (pat_field_told step z f) fs
unfolding pat_told
told_RecordPat step z at f fs rest last = pat_field_goes_on step f _ _ ∙ pat_fields_goes_on step fs _ _ ∙ open_silent step rest _ _ ∙
    optional_silent step key.Semicolon last _ _

pub told_OpenedPat : {S : Type 0} (step : S → Event → S) (z : S) (path : List Name) (at : ℕ) (p : Pat) → pat_told step z (OpenedPat path at p) ≡
    pat_told step (step z (module_path path)) p
unfolding pat_told
told_OpenedPat step z path at p = pat_goes_on step p _ _

pub told_no_pat : {S : Type 0} (step : S → Event → S) (z : S) (sep : Fixed) → pats_told step z sep no_pat ≡ z
unfolding pats_told
told_no_pat step z sep = refl

pub told_more_pat : {S : Type 0} (step : S → Event → S) (z : S) (sep : Fixed) (p : Pat) (ps : Pats) → pats_told step z sep (more_pat p ps) ≡
    pats_told step (step (pat_told step (step z (part_begins sep)) p) (part_ends sep)) sep ps
unfolding pats_told
told_more_pat step z sep p ps = pat_goes_on step p _ _ ∙ pats_goes_on step sep ps _ _

pub told_PunnedField : {S : Type 0} (step : S → Event → S) (z : S) (path : List Name) (x : Name) (run : Option (List Tok)) → pat_field_told step
    z (PunnedField path x run) ≡ step (step z (qualifier path)) (field true x)
unfolding pat_field_told
told_PunnedField step z path x run = type_silent step run _ _

pub told_MatchedField : {S : Type 0} (step : S → Event → S) (z : S) (path : List Name) (x : Name) (run : Option (List Tok)) (at : ℕ) (p : Pat) →
    pat_field_told step z (MatchedField path x run at p) ≡ pat_told step (step z (qualifier path)) p
unfolding pat_field_told
told_MatchedField step z path x run at p = type_silent step run _ _ ∙ pat_goes_on step p _ _

pub told_no_pat_field : {S : Type 0} (step : S → Event → S) (z : S) → pat_fields_told step z no_pat_field ≡ z
unfolding pat_fields_told
told_no_pat_field step z = refl

pub told_more_pat_field : {S : Type 0} (step : S → Event → S) (z : S) (f : PatField) (fs : PatFields) → pat_fields_told step z (more_pat_field f
    fs) ≡ pat_fields_told step (pat_field_told step z f) fs
unfolding pat_fields_told
told_more_pat_field step z f fs = pat_field_goes_on step f _ _ ∙ pat_fields_goes_on step fs _ _

pub told_PlainVariable : {S : Type 0} (step : S → Event → S) (z : S) (x : Name) → variable_told step z (PlainVariable x) ≡ step z (value true
    (PlainName x))
unfolding variable_told
told_PlainVariable step z x = refl

pub told_AnyVariable : {S : Type 0} (step : S → Event → S) (z : S) (at : ℕ) → variable_told step z (AnyVariable at) ≡ z
unfolding variable_told
told_AnyVariable step z at = refl

pub told_LocalPath : {S : Type 0} (step : S → Event → S) (z : S) (path : List Name) (ms : LocalArguments) → local_told step z (LocalPath path
    ms) ≡ locals_told step (step z (module_path path)) ms
unfolding local_told
told_LocalPath step z path ms = locals_goes_on step ms _ _

pub told_no_local : {S : Type 0} (step : S → Event → S) (z : S) → locals_told step z no_local ≡ z
unfolding locals_told
told_no_local step z = refl

pub told_more_local : {S : Type 0} (step : S → Event → S) (z : S) (at : ℕ) (m : LocalModule) (ms : LocalArguments) → locals_told step z
    (more_local at m ms) ≡ locals_told step (local_told step z m) ms
unfolding locals_told
told_more_local step z at m ms = local_goes_on step m _ _ ∙ locals_goes_on step ms _ _

pub told_no_module : {S : Type 0} (step : S → Event → S) (z : S) (at : ℕ) (ms : LocalArguments) → locals_told step z (no_module at ms) ≡
    locals_told step z ms
unfolding locals_told
told_no_module step z at ms = locals_goes_on step ms _ _

pub told_Seq : {S : Type 0} (step : S → Event → S) (z : S) (e : Expr) (es : Links) (last : Bool) → expr_told step z (Seq e es last) ≡ links_told
    step (expr_told step z e) es
unfolding expr_told
told_Seq step z e es last = expr_goes_on step e _ _ ∙ links_goes_on step es _ _ ∙ optional_silent step key.Semicolon last _ _

pub told_Let : {S : Type 0} (step : S → Event → S) (z : S) (at : ℕ) (rec : Bool) (b : Binding) (bs : Bindings) (e : Expr) → expr_told step z
    (Let at rec b bs e) ≡ expr_told step (step (bindings_told step (binding_told step (step z bindings_begin) b) bs) group_ends) e
unfolding expr_told
told_Let step z at rec b bs e = optional_silent step key.Rec rec _ _ ∙ binding_goes_on step b _ _ ∙ bindings_goes_on step bs _ _ ∙ expr_goes_on
    step e _ _

pub told_LetOpen : {S : Type 0} (step : S → Event → S) (z : S) (at : ℕ) (at' : ℕ) (bang : Option Name) (path : List Name) (e : Expr) → expr_told
    step z (LetOpen at at' bang path e) ≡ expr_told step (step z (module_path path)) e
unfolding expr_told
told_LetOpen step z at at' bang path e = bang_silent step bang _ _ ∙ expr_goes_on step e _ _

pub told_LetModule : {S : Type 0} (step : S → Event → S) (z : S) (at : ℕ) (at' : ℕ) (x : Name) (eq : ℕ) (m : LocalModule) (e : Expr) → expr_told
    step z (LetModule at at' x eq m e) ≡ step (expr_told step (step (step (local_told step z m) scope_begins) (brings (UpperName x))) e)
    scope_ends
unfolding expr_told
told_LetModule step z at at' x eq m e = local_goes_on step m _ _ ∙ expr_goes_on step e _ _

pub told_Fun : {S : Type 0} (step : S → Event → S) (z : S) (at : ℕ) (ps : Params) (e : Expr) → expr_told step z (Fun at ps e) ≡ expr_told step
    (params_told step z ps) e
unfolding expr_told
told_Fun step z at ps e = params_goes_on step ps _ _ ∙ expr_goes_on step e _ _

pub told_Function : {S : Type 0} (step : S → Event → S) (z : S) (at : ℕ) (bar : Bool) (c : Case) (cs : Cases) → expr_told step z (Function at
    bar c cs) ≡ cases_told step (case_told step z c) cs
unfolding expr_told
told_Function step z at bar c cs = optional_silent step key.Bar bar _ _ ∙ case_goes_on step c _ _ ∙ cases_goes_on step cs _ _

pub told_Match : {S : Type 0} (step : S → Event → S) (z : S) (at : ℕ) (e : Expr) (bar : Bool) (c : Case) (cs : Cases) → expr_told step z (Match
    at e bar c cs) ≡ cases_told step (case_told step (expr_told step z e) c) cs
unfolding expr_told
told_Match step z at e bar c cs = expr_goes_on step e _ _ ∙ optional_silent step key.Bar bar _ _ ∙ case_goes_on step c _ _ ∙ cases_goes_on step
    cs _ _

pub told_Try : {S : Type 0} (step : S → Event → S) (z : S) (at : ℕ) (e : Expr) (bar : Bool) (c : Case) (cs : Cases) → expr_told step z (Try at e
    bar c cs) ≡ cases_told step (case_told step (expr_told step z e) c) cs
unfolding expr_told
told_Try step z at e bar c cs = expr_goes_on step e _ _ ∙ optional_silent step key.Bar bar _ _ ∙ case_goes_on step c _ _ ∙ cases_goes_on step cs
    _ _

pub told_If : {S : Type 0} (step : S → Event → S) (z : S) (at : ℕ) (c : Expr) (a : Expr) (tail : Tail) → expr_told step z (If at c a tail) ≡
    tail_told step (expr_told step (expr_told step z c) a) tail
unfolding expr_told
told_If step z at c a tail = expr_goes_on step c _ _ ∙ expr_goes_on step a _ _ ∙ tail_goes_on step tail _ _

pub told_Chain : {S : Type 0} (step : S → Event → S) (z : S) (n : ℕ) (e : Expr) (es : Links) → expr_told step z (Chain n e es) ≡ links_told step
    (expr_told step z e) es
unfolding expr_told
told_Chain step z n e es = expr_goes_on step e _ _ ∙ links_goes_on step es _ _

pub told_Minus : {S : Type 0} (step : S → Event → S) (z : S) (x : Name) (e : Expr) → expr_told step z (Minus x e) ≡ expr_told step (step z
    (minus x)) e
unfolding expr_told
told_Minus step z x e = expr_goes_on step e _ _

pub told_Apply : {S : Type 0} (step : S → Event → S) (z : S) (f : Expr) (es : Arguments) → expr_told step z (Apply f es) ≡ arguments_told step
    (expr_told step z f) es
unfolding expr_told
told_Apply step z f es = expr_goes_on step f _ _ ∙ arguments_goes_on step es _ _

pub told_ConstrApply : {S : Type 0} (step : S → Event → S) (z : S) (path : List Name) (e : Expr) → expr_told step z (ConstrApply path e) ≡
    expr_told step (step z (last_path path)) e
unfolding expr_told
told_ConstrApply step z path e = expr_goes_on step e _ _

pub told_TagApply : {S : Type 0} (step : S → Event → S) (z : S) (x : Name) (e : Expr) → expr_told step z (TagApply x e) ≡ expr_told step z e
unfolding expr_told
told_TagApply step z x e = expr_goes_on step e _ _

pub told_Assert : {S : Type 0} (step : S → Event → S) (z : S) (at : ℕ) (e : Expr) → expr_told step z (Assert at e) ≡ expr_told step z e
unfolding expr_told
told_Assert step z at e = expr_goes_on step e _ _

pub told_Lazy : {S : Type 0} (step : S → Event → S) (z : S) (at : ℕ) (e : Expr) → expr_told step z (Lazy at e) ≡ expr_told step z e
unfolding expr_told
told_Lazy step z at e = expr_goes_on step e _ _

pub told_Postfix : {S : Type 0} (step : S → Event → S) (z : S) (e : Expr) (ps : Parts) → expr_told step z (Postfix e ps) ≡ parts_told step
    (expr_told step z e) ps
unfolding expr_told
told_Postfix step z e ps = expr_goes_on step e _ _ ∙ parts_goes_on step ps _ _

pub told_Prefixed : {S : Type 0} (step : S → Event → S) (z : S) (x : Name) (e : Expr) → expr_told step z (Prefixed x e) ≡ expr_told step (step z
    (operator (word class.Prefix x))) e
unfolding expr_told
told_Prefixed step z x e = expr_goes_on step e _ _

pub told_Literal : {S : Type 0} (step : S → Event → S) (z : S) (c : Class) (x : Name) → expr_told step z (Literal c x) ≡ z
unfolding expr_told
told_Literal step z c x = refl

pub told_BoolExpr : {S : Type 0} (step : S → Event → S) (z : S) (at : ℕ) (b : Bool) → expr_told step z (BoolExpr at b) ≡ z
unfolding expr_told
told_BoolExpr step z at b = refl

pub told_Value : {S : Type 0} (step : S → Event → S) (z : S) (path : List Name) (x : ValueName) → expr_told step z (Value path x) ≡ step (step z
    (qualifier path)) (value false x)
unfolding expr_told
told_Value step z path x = refl

pub told_Constr : {S : Type 0} (step : S → Event → S) (z : S) (path : List Name) → expr_told step z (Constr path) ≡ step z (last_path path)
unfolding expr_told
told_Constr step z path = refl

pub told_Tag : {S : Type 0} (step : S → Event → S) (z : S) (x : Name) → expr_told step z (Tag x) ≡ z
unfolding expr_told
told_Tag step z x = refl

pub told_UnitExpr : {S : Type 0} (step : S → Event → S) (z : S) (at : ℕ) → expr_told step z (UnitExpr at) ≡ z
unfolding expr_told
told_UnitExpr step z at = refl

pub told_Paren : {S : Type 0} (step : S → Event → S) (z : S) (at : ℕ) (e : Expr) → expr_told step z (Paren at e) ≡ expr_told step z e
unfolding expr_told
told_Paren step z at e = expr_goes_on step e _ _

pub told_Typed : {S : Type 0} (step : S → Event → S) (z : S) (at : ℕ) (e : Expr) (run : List Tok) → expr_told step z (Typed at e run) ≡
    expr_told step z e
unfolding expr_told
told_Typed step z at e run = expr_goes_on step e _ _

pub told_Coerced : {S : Type 0} (step : S → Event → S) (z : S) (at : ℕ) (e : Expr) (from : Option (List Tok)) (to : List Tok) → expr_told step z
    (Coerced at e from to) ≡ expr_told step z e
unfolding expr_told
told_Coerced step z at e from to = expr_goes_on step e _ _ ∙ type_silent step from _ _

pub told_EmptyBegin : {S : Type 0} (step : S → Event → S) (z : S) (at : ℕ) → expr_told step z (EmptyBegin at) ≡ z
unfolding expr_told
told_EmptyBegin step z at = refl

pub told_Begin : {S : Type 0} (step : S → Event → S) (z : S) (at : ℕ) (e : Expr) → expr_told step z (Begin at e) ≡ expr_told step z e
unfolding expr_told
told_Begin step z at e = expr_goes_on step e _ _

pub told_EmptyList : {S : Type 0} (step : S → Event → S) (z : S) (at : ℕ) (b : Bracket) → expr_told step z (EmptyList at b) ≡ z
unfolding expr_told
told_EmptyList step z at b = refl

pub told_ListExpr : {S : Type 0} (step : S → Event → S) (z : S) (at : ℕ) (b : Bracket) (e : Expr) (es : Links) (last : Bool) → expr_told step z
    (ListExpr at b e es last) ≡ links_told step (expr_told step z e) es
unfolding expr_told
told_ListExpr step z at b e es last = expr_goes_on step e _ _ ∙ links_goes_on step es _ _ ∙ optional_silent step key.Semicolon last _ _

pub told_Record : {S : Type 0} (step : S → Event → S) (z : S) (at : ℕ) (base : MaybeExpr) (f : Field) (fs : Fields) (last : Bool) → expr_told
    step z (Record at base f fs last) ≡ fields_told step (field_told step (base_told step z base) f) fs
unfolding expr_told
told_Record step z at base f fs last = base_goes_on step base _ _ ∙ field_goes_on step f _ _ ∙ fields_goes_on step fs _ _ ∙ optional_silent step
    key.Semicolon last _ _

pub told_Opened : {S : Type 0} (step : S → Event → S) (z : S) (path : List Name) (e : Expr) → expr_told step z (Opened path e) ≡ expr_told step
    (step z (module_path path)) e
unfolding expr_told
told_Opened step z path e = expr_goes_on step e _ _

pub told_While : {S : Type 0} (step : S → Event → S) (z : S) (at : ℕ) (c : Expr) (e : Expr) → expr_told step z (While at c e) ≡ expr_told step
    (expr_told step z c) e
unfolding expr_told
told_While step z at c e = expr_goes_on step c _ _ ∙ expr_goes_on step e _ _

pub told_For : {S : Type 0} (step : S → Event → S) (z : S) (at : ℕ) (x : Variable) (eq : ℕ) (a : Expr) (down : Bool) (b : Expr) (e : Expr) →
    expr_told step z (For at x eq a down b e) ≡ expr_told step (step (expr_told step (expr_told step (variable_told step (step z group_begins)
    x) a) b) group_ends) e
unfolding expr_told
told_For step z at x eq a down b e = variable_goes_on step x _ _ ∙ expr_goes_on step a _ _ ∙ expr_goes_on step b _ _ ∙ expr_goes_on step e _ _

pub told_no_link : {S : Type 0} (step : S → Event → S) (z : S) → links_told step z no_link ≡ z
unfolding links_told
told_no_link step z = refl

pub told_more_link : {S : Type 0} (step : S → Event → S) (z : S) (t : Tok) (e : Expr) (es : Links) → links_told step z (more_link t e es) ≡
    links_told step (expr_told step (step z (operator t)) e) es
unfolding links_told
told_more_link step z t e es = expr_goes_on step e _ _ ∙ links_goes_on step es _ _

pub told_base_no_expr : {S : Type 0} (step : S → Event → S) (z : S) → base_told step z no_expr ≡ z
unfolding base_told
told_base_no_expr step z = refl

pub told_base_some_expr : {S : Type 0} (step : S → Event → S) (z : S) (e : Expr) → base_told step z (some_expr e) ≡ expr_told step z e
unfolding base_told
told_base_some_expr step z e = expr_goes_on step e _ _

pub told_guard_no_expr : {S : Type 0} (step : S → Event → S) (z : S) → guard_told step z no_expr ≡ z
unfolding guard_told
told_guard_no_expr step z = refl

pub told_guard_some_expr : {S : Type 0} (step : S → Event → S) (z : S) (e : Expr) → guard_told step z (some_expr e) ≡ expr_told step z e
unfolding guard_told
told_guard_some_expr step z e = expr_goes_on step e _ _

pub told_no_else : {S : Type 0} (step : S → Event → S) (z : S) → tail_told step z no_else ≡ z
unfolding tail_told
told_no_else step z = refl

pub told_or_else : {S : Type 0} (step : S → Event → S) (z : S) (e : Expr) → tail_told step z (or_else e) ≡ expr_told step z e
unfolding tail_told
told_or_else step z e = expr_goes_on step e _ _

pub told_or_if : {S : Type 0} (step : S → Event → S) (z : S) (at : ℕ) (c : Expr) (a : Expr) (tail : Tail) → tail_told step z (or_if at c a tail)
    ≡ tail_told step (expr_told step (expr_told step z c) a) tail
unfolding tail_told
told_or_if step z at c a tail = expr_goes_on step c _ _ ∙ expr_goes_on step a _ _ ∙ tail_goes_on step tail _ _

pub told_PlainBinding : {S : Type 0} (step : S → Event → S) (z : S) (p : Pat) (run : Option (List Tok)) (at : ℕ) (e : Expr) → binding_told step
    z (PlainBinding p run at e) ≡ expr_told step (pat_told step z p) e
unfolding binding_told
told_PlainBinding step z p run at e = pat_goes_on step p _ _ ∙ type_silent step run _ _ ∙ expr_goes_on step e _ _

pub told_AppliedBinding : {S : Type 0} (step : S → Event → S) (z : S) (x : ValueName) (ps : Params) (run : Option (List Tok)) (at : ℕ) (e :
    Expr) → binding_told step z (AppliedBinding x ps run at e) ≡ expr_told step (params_told step (step z (value true x)) ps) e
unfolding binding_told
told_AppliedBinding step z x ps run at e = params_goes_on step ps _ _ ∙ type_silent step run _ _ ∙ expr_goes_on step e _ _

pub told_no_binding : {S : Type 0} (step : S → Event → S) (z : S) → bindings_told step z no_binding ≡ z
unfolding bindings_told
told_no_binding step z = refl

pub told_more_binding : {S : Type 0} (step : S → Event → S) (z : S) (b : Binding) (bs : Bindings) → bindings_told step z (more_binding b bs) ≡
    bindings_told step (binding_told step z b) bs
unfolding bindings_told
told_more_binding step z b bs = binding_goes_on step b _ _ ∙ bindings_goes_on step bs _ _

pub told_CaseOf : {S : Type 0} (step : S → Event → S) (z : S) (p : Pat) (guard : MaybeExpr) (e : Expr) → case_told step z (CaseOf p guard e) ≡
    expr_told step (guard_told step (step (pat_told step (step z group_begins) p) group_ends) guard) e
unfolding case_told
told_CaseOf step z p guard e = pat_goes_on step p _ _ ∙ guard_goes_on step guard _ _ ∙ expr_goes_on step e _ _

pub told_no_case : {S : Type 0} (step : S → Event → S) (z : S) → cases_told step z no_case ≡ z
unfolding cases_told
told_no_case step z = refl

pub told_more_case : {S : Type 0} (step : S → Event → S) (z : S) (c : Case) (cs : Cases) → cases_told step z (more_case c cs) ≡ cases_told step
    (case_told step z c) cs
unfolding cases_told
told_more_case step z c cs = case_goes_on step c _ _ ∙ cases_goes_on step cs _ _

pub told_Positional : {S : Type 0} (step : S → Event → S) (z : S) (e : Expr) → argument_told step z (Positional e) ≡ expr_told step z e
unfolding argument_told
told_Positional step z e = expr_goes_on step e _ _

pub told_LabelPun : {S : Type 0} (step : S → Event → S) (z : S) (x : Name) → argument_told step z (LabelPun x) ≡ step z (label false x)
unfolding argument_told
told_LabelPun step z x = refl

pub told_Labelled : {S : Type 0} (step : S → Event → S) (z : S) (x : Name) (e : Expr) → argument_told step z (Labelled x e) ≡ expr_told step z e
unfolding argument_told
told_Labelled step z x e = expr_goes_on step e _ _

pub told_no_argument : {S : Type 0} (step : S → Event → S) (z : S) → arguments_told step z no_argument ≡ z
unfolding arguments_told
told_no_argument step z = refl

pub told_more_argument : {S : Type 0} (step : S → Event → S) (z : S) (a : Argument) (es : Arguments) → arguments_told step z (more_argument a
    es) ≡ arguments_told step (argument_told step z a) es
unfolding arguments_told
told_more_argument step z a es = argument_goes_on step a _ _ ∙ arguments_goes_on step es _ _

pub told_PatternParam : {S : Type 0} (step : S → Event → S) (z : S) (p : Pat) → param_told step z (PatternParam p) ≡ step (pat_told step (step z
    group_begins) p) group_ends
unfolding param_told
told_PatternParam step z p = pat_goes_on step p _ _

pub told_LabelParam : {S : Type 0} (step : S → Event → S) (z : S) (x : Name) → param_told step z (LabelParam x) ≡ step (step (step z
    group_begins) (label true x)) group_ends
unfolding param_told
told_LabelParam step z x = refl

pub told_LabelPattern : {S : Type 0} (step : S → Event → S) (z : S) (x : Name) (p : Pat) → param_told step z (LabelPattern x p) ≡ step (pat_told
    step (step z group_begins) p) group_ends
unfolding param_told
told_LabelPattern step z x p = pat_goes_on step p _ _

pub told_DefaultParam : {S : Type 0} (step : S → Event → S) (z : S) (x : Name) (at : ℕ) (p : Pat) (run : Option (List Tok)) (eq : ℕ) (e : Expr)
    → param_told step z (DefaultParam x at p run eq e) ≡ step (expr_told step (pat_told step (step z group_begins) p) e) group_ends
unfolding param_told
told_DefaultParam step z x at p run eq e = pat_goes_on step p _ _ ∙ type_silent step run _ _ ∙ expr_goes_on step e _ _

pub told_WrappedParam : {S : Type 0} (step : S → Event → S) (z : S) (at : ℕ) (optional : Bool) (at' : ℕ) (x : Name) (run : Option (List Tok)) →
    param_told step z (WrappedParam at optional at' x run) ≡ step (step (step z group_begins) (field true x)) group_ends
unfolding param_told
told_WrappedParam step z at optional at' x run = type_silent step run _ _

pub told_WrappedDefault : {S : Type 0} (step : S → Event → S) (z : S) (at : ℕ) (at' : ℕ) (x : Name) (run : Option (List Tok)) (eq : ℕ) (e :
    Expr) → param_told step z (WrappedDefault at at' x run eq e) ≡ step (expr_told step (step (step z group_begins) (field true x)) e) group_ends
unfolding param_told
told_WrappedDefault step z at at' x run eq e = type_silent step run _ _ ∙ expr_goes_on step e _ _

pub told_TypesParam : {S : Type 0} (step : S → Event → S) (z : S) (at : ℕ) (xs : List Name) → param_told step z (TypesParam at xs) ≡ z
unfolding param_told
told_TypesParam step z at xs = lowers_silent step xs _ _

pub told_no_param : {S : Type 0} (step : S → Event → S) (z : S) → params_told step z no_param ≡ z
unfolding params_told
told_no_param step z = refl

pub told_more_param : {S : Type 0} (step : S → Event → S) (z : S) (p : Param) (ps : Params) → params_told step z (more_param p ps) ≡ params_told
    step (param_told step z p) ps
unfolding params_told
told_more_param step z p ps = param_goes_on step p _ _ ∙ params_goes_on step ps _ _

pub told_LabelPart : {S : Type 0} (step : S → Event → S) (z : S) (path : List Name) (x : Name) → part_told step z (LabelPart path x) ≡ step z
    (qualifier path)
unfolding part_told
told_LabelPart step z path x = refl

pub told_IndexPart : {S : Type 0} (step : S → Event → S) (z : S) (at : ℕ) (e : Expr) → part_told step z (IndexPart at e) ≡ expr_told step z e
unfolding part_told
told_IndexPart step z at e = expr_goes_on step e _ _

pub told_CharPart : {S : Type 0} (step : S → Event → S) (z : S) (at : ℕ) (e : Expr) → part_told step z (CharPart at e) ≡ expr_told step z e
unfolding part_told
told_CharPart step z at e = expr_goes_on step e _ _

pub told_no_part : {S : Type 0} (step : S → Event → S) (z : S) → parts_told step z no_part ≡ z
unfolding parts_told
told_no_part step z = refl

pub told_more_part : {S : Type 0} (step : S → Event → S) (z : S) (p : Part) (ps : Parts) → parts_told step z (more_part p ps) ≡ parts_told step
    (part_told step z p) ps
unfolding parts_told
told_more_part step z p ps = part_goes_on step p _ _ ∙ parts_goes_on step ps _ _

pub told_FieldPun : {S : Type 0} (step : S → Event → S) (z : S) (path : List Name) (x : Name) (run : Option (List Tok)) → field_told step z
    (FieldPun path x run) ≡ step (step z (qualifier path)) (field false x)
unfolding field_told
told_FieldPun step z path x run = type_silent step run _ _

pub told_AssignedField : {S : Type 0} (step : S → Event → S) (z : S) (path : List Name) (x : Name) (run : Option (List Tok)) (at : ℕ) (e : Expr)
    → field_told step z (AssignedField path x run at e) ≡ expr_told step (step z (qualifier path)) e
unfolding field_told
told_AssignedField step z path x run at e = type_silent step run _ _ ∙ expr_goes_on step e _ _

pub told_no_field : {S : Type 0} (step : S → Event → S) (z : S) → fields_told step z no_field ≡ z
unfolding fields_told
told_no_field step z = refl

pub told_more_field : {S : Type 0} (step : S → Event → S) (z : S) (f : Field) (fs : Fields) → fields_told step z (more_field f fs) ≡ fields_told
    step (field_told step z f) fs
unfolding fields_told
told_more_field step z f fs = field_goes_on step f _ _ ∙ fields_goes_on step fs _ _

pub told_ModPath : {S : Type 0} (step : S → Event → S) (z : S) (path : List Name) → mod_told step z (ModPath path) ≡ step z (module_path path)
unfolding mod_told
told_ModPath step z path = refl

pub told_Struct : {S : Type 0} (step : S → Event → S) (z : S) (at : ℕ) (is : Items) → mod_told step z (Struct at is) ≡ step (items_told step
    (step z scope_begins) is) scope_ends
unfolding mod_told
told_Struct step z at is = items_goes_on step is _ _

pub told_Functor : {S : Type 0} (step : S → Event → S) (z : S) (at : ℕ) (ps : FunctorParams) (m : ModExpr) → mod_told step z (Functor at ps m) ≡
    step (mod_told step (functor_params_told step (step z scope_begins) ps) m) scope_ends
unfolding mod_told
told_Functor step z at ps m = functor_params_goes_on step ps _ _ ∙ mod_goes_on step m _ _

pub told_ModApply : {S : Type 0} (step : S → Event → S) (z : S) (m : ModExpr) (ms : ModArguments) → mod_told step z (ModApply m ms) ≡
    mod_arguments_told step (mod_told step z m) ms
unfolding mod_told
told_ModApply step z m ms = mod_goes_on step m _ _ ∙ mod_arguments_goes_on step ms _ _

pub told_ModParen : {S : Type 0} (step : S → Event → S) (z : S) (at : ℕ) (m : ModExpr) → mod_told step z (ModParen at m) ≡ mod_told step z m
unfolding mod_told
told_ModParen step z at m = mod_goes_on step m _ _

pub told_Sealed : {S : Type 0} (step : S → Event → S) (z : S) (at : ℕ) (m : ModExpr) (s : ModType) → mod_told step z (Sealed at m s) ≡
    mod_type_told step (mod_told step z m) s
unfolding mod_told
told_Sealed step z at m s = mod_goes_on step m _ _ ∙ mod_type_goes_on step s _ _

pub told_ModuleArgument : {S : Type 0} (step : S → Event → S) (z : S) (at : ℕ) (m : ModExpr) → mod_argument_told step z (ModuleArgument at m) ≡
    mod_told step z m
unfolding mod_argument_told
told_ModuleArgument step z at m = mod_goes_on step m _ _

pub told_SealedArgument : {S : Type 0} (step : S → Event → S) (z : S) (at : ℕ) (m : ModExpr) (s : ModType) → mod_argument_told step z
    (SealedArgument at m s) ≡ mod_type_told step (mod_told step z m) s
unfolding mod_argument_told
told_SealedArgument step z at m s = mod_goes_on step m _ _ ∙ mod_type_goes_on step s _ _

pub told_NoArgument : {S : Type 0} (step : S → Event → S) (z : S) (at : ℕ) → mod_argument_told step z (NoArgument at) ≡ z
unfolding mod_argument_told
told_NoArgument step z at = refl

pub told_no_mod_argument : {S : Type 0} (step : S → Event → S) (z : S) → mod_arguments_told step z no_mod_argument ≡ z
unfolding mod_arguments_told
told_no_mod_argument step z = refl

pub told_more_mod_argument : {S : Type 0} (step : S → Event → S) (z : S) (m : ModArgument) (ms : ModArguments) → mod_arguments_told step z
    (more_mod_argument m ms) ≡ mod_arguments_told step (mod_argument_told step z m) ms
unfolding mod_arguments_told
told_more_mod_argument step z m ms = mod_argument_goes_on step m _ _ ∙ mod_arguments_goes_on step ms _ _

pub told_NamedParam : {S : Type 0} (step : S → Event → S) (z : S) (at : ℕ) (x : ModuleName) (s : ModType) → functor_param_told step z
    (NamedParam at x s) ≡ brings_told step (mod_type_told step z s) x
unfolding functor_param_told
told_NamedParam step z at x s = module_name_silent step x _ _ ∙ mod_type_goes_on step s _ _ ∙ brings_goes_on step x _ _

pub told_NoParam : {S : Type 0} (step : S → Event → S) (z : S) (at : ℕ) → functor_param_told step z (NoParam at) ≡ z
unfolding functor_param_told
told_NoParam step z at = refl

pub told_no_functor_param : {S : Type 0} (step : S → Event → S) (z : S) → functor_params_told step z no_functor_param ≡ z
unfolding functor_params_told
told_no_functor_param step z = refl

pub told_more_functor_param : {S : Type 0} (step : S → Event → S) (z : S) (p : FunctorParam) (ps : FunctorParams) → functor_params_told step z
    (more_functor_param p ps) ≡ functor_params_told step (functor_param_told step z p) ps
unfolding functor_params_told
told_more_functor_param step z p ps = functor_param_goes_on step p _ _ ∙ functor_params_goes_on step ps _ _

pub told_TypePath : {S : Type 0} (step : S → Event → S) (z : S) (path : List Name) → mod_type_told step z (TypePath path) ≡ step z (last_path
    path)
unfolding mod_type_told
told_TypePath step z path = refl

pub told_Sig : {S : Type 0} (step : S → Event → S) (z : S) (at : ℕ) (is : SigItems) → mod_type_told step z (Sig at is) ≡ step (sig_items_told
    step (step z scope_begins) is) scope_ends
unfolding mod_type_told
told_Sig step z at is = sig_items_goes_on step is _ _

pub told_TypeOf : {S : Type 0} (step : S → Event → S) (z : S) (at : ℕ) (m : ModExpr) → mod_type_told step z (TypeOf at m) ≡ mod_told step z m
unfolding mod_type_told
told_TypeOf step z at m = mod_goes_on step m _ _

pub told_TypeParen : {S : Type 0} (step : S → Event → S) (z : S) (at : ℕ) (s : ModType) → mod_type_told step z (TypeParen at s) ≡ mod_type_told
    step z s
unfolding mod_type_told
told_TypeParen step z at s = mod_type_goes_on step s _ _

pub told_With : {S : Type 0} (step : S → Event → S) (z : S) (s : ModType) (ws : List WithClause) → mod_type_told step z (With s ws) ≡
    mod_type_told step z s
unfolding mod_type_told
told_With step z s ws = mod_type_goes_on step s _ _ ∙ withs_silent step ws _ _

pub told_FunctorType : {S : Type 0} (step : S → Event → S) (z : S) (at : ℕ) (ps : FunctorParams) (s : ModType) → mod_type_told step z
    (FunctorType at ps s) ≡ step (mod_type_told step (functor_params_told step (step z scope_begins) ps) s) scope_ends
unfolding mod_type_told
told_FunctorType step z at ps s = functor_params_goes_on step ps _ _ ∙ mod_type_goes_on step s _ _

pub told_ParamArrow : {S : Type 0} (step : S → Event → S) (z : S) (p : FunctorParam) (s : ModType) → mod_type_told step z (ParamArrow p s) ≡
    step (mod_type_told step (functor_param_told step (step z scope_begins) p) s) scope_ends
unfolding mod_type_told
told_ParamArrow step z p s = functor_param_goes_on step p _ _ ∙ mod_type_goes_on step s _ _

pub told_Arrow : {S : Type 0} (step : S → Event → S) (z : S) (s : ModType) (s' : ModType) → mod_type_told step z (Arrow s s') ≡ mod_type_told
    step (mod_type_told step z s) s'
unfolding mod_type_told
told_Arrow step z s s' = mod_type_goes_on step s _ _ ∙ mod_type_goes_on step s' _ _

pub told_no_type : {S : Type 0} (step : S → Event → S) (z : S) → signature_told step z no_type ≡ z
unfolding signature_told
told_no_type step z = refl

pub told_some_type : {S : Type 0} (step : S → Event → S) (z : S) (s : ModType) → signature_told step z (some_type s) ≡ mod_type_told step z s
unfolding signature_told
told_some_type step z s = mod_type_goes_on step s _ _

pub told_ExprItem : {S : Type 0} (step : S → Event → S) (z : S) (e : Expr) → item_told step z (ExprItem e) ≡ expr_told step z e
unfolding item_told
told_ExprItem step z e = expr_goes_on step e _ _

pub told_SeparatorItem : {S : Type 0} (step : S → Event → S) (z : S) → item_told step z SeparatorItem ≡ z
unfolding item_told
told_SeparatorItem step z = refl

pub told_ValueItem : {S : Type 0} (step : S → Event → S) (z : S) (at : ℕ) (rec : Bool) (b : Binding) (bs : Bindings) → item_told step z
    (ValueItem at rec b bs) ≡ step (bindings_told step (binding_told step (step z bindings_begin) b) bs) group_ends
unfolding item_told
told_ValueItem step z at rec b bs = optional_silent step key.Rec rec _ _ ∙ binding_goes_on step b _ _ ∙ bindings_goes_on step bs _ _

pub told_ExternalItem : {S : Type 0} (step : S → Event → S) (z : S) (x : ValueName) (run : List Tok) (at : ℕ) (texts : List Name) → item_told
    step z (ExternalItem x run at texts) ≡ step z (value true x)
unfolding item_told
told_ExternalItem step z x run at texts = texts_silent step texts _ _

pub told_TypeItem : {S : Type 0} (step : S → Event → S) (z : S) (run : List Tok) → item_told step z (TypeItem run) ≡ z
unfolding item_told
told_TypeItem step z run = refl

pub told_ExceptionItem : {S : Type 0} (step : S → Event → S) (z : S) (at : ℕ) (run : List Tok) → item_told step z (ExceptionItem at run) ≡ z
unfolding item_told
told_ExceptionItem step z at run = refl

pub told_ModuleItem : {S : Type 0} (step : S → Event → S) (z : S) (at : ℕ) (x : ModuleName) (ps : FunctorParams) (s : MaybeType) (eq : ℕ) (m :
    ModExpr) → item_told step z (ModuleItem at x ps s eq m) ≡ brings_told step (step (mod_told step (signature_told step (functor_params_told
    step (step z scope_begins) ps) s) m) scope_ends) x
unfolding item_told
told_ModuleItem step z at x ps s eq m = module_name_silent step x _ _ ∙ functor_params_goes_on step ps _ _ ∙ signature_goes_on step s _ _ ∙
    mod_goes_on step m _ _ ∙ brings_goes_on step x _ _

pub told_ModuleTypeItem : {S : Type 0} (step : S → Event → S) (z : S) (at : ℕ) (x : Name) (eq : ℕ) (s : ModType) → item_told step z
    (ModuleTypeItem at x eq s) ≡ mod_type_told step z s
unfolding item_told
told_ModuleTypeItem step z at x eq s = mod_type_goes_on step s _ _

pub told_OpenItem : {S : Type 0} (step : S → Event → S) (z : S) (at : ℕ) (bang : Option Name) (path : List Name) → item_told step z (OpenItem at
    bang path) ≡ step z (module_path path)
unfolding item_told
told_OpenItem step z at bang path = bang_silent step bang _ _

pub told_IncludeItem : {S : Type 0} (step : S → Event → S) (z : S) (at : ℕ) (m : ModExpr) → item_told step z (IncludeItem at m) ≡ mod_told step
    z m
unfolding item_told
told_IncludeItem step z at m = mod_goes_on step m _ _

pub told_no_item : {S : Type 0} (step : S → Event → S) (z : S) → items_told step z no_item ≡ z
unfolding items_told
told_no_item step z = refl

pub told_more_item : {S : Type 0} (step : S → Event → S) (z : S) (i : Item) (is : Items) → items_told step z (more_item i is) ≡ items_told step
    (item_told step z i) is
unfolding items_told
told_more_item step z i is = item_goes_on step i _ _ ∙ items_goes_on step is _ _

pub told_SeparatorSig : {S : Type 0} (step : S → Event → S) (z : S) → sig_item_told step z SeparatorSig ≡ z
unfolding sig_item_told
told_SeparatorSig step z = refl

pub told_ValSig : {S : Type 0} (step : S → Event → S) (z : S) (x : ValueName) (run : List Tok) → sig_item_told step z (ValSig x run) ≡ step z
    (value true x)
unfolding sig_item_told
told_ValSig step z x run = refl

pub told_ExternalSig : {S : Type 0} (step : S → Event → S) (z : S) (x : ValueName) (run : List Tok) (at : ℕ) (texts : List Name) → sig_item_told
    step z (ExternalSig x run at texts) ≡ step z (value true x)
unfolding sig_item_told
told_ExternalSig step z x run at texts = texts_silent step texts _ _

pub told_TypeSig : {S : Type 0} (step : S → Event → S) (z : S) (run : List Tok) → sig_item_told step z (TypeSig run) ≡ z
unfolding sig_item_told
told_TypeSig step z run = refl

pub told_ExceptionSig : {S : Type 0} (step : S → Event → S) (z : S) (at : ℕ) (run : List Tok) → sig_item_told step z (ExceptionSig at run) ≡ z
unfolding sig_item_told
told_ExceptionSig step z at run = refl

pub told_ModuleSig : {S : Type 0} (step : S → Event → S) (z : S) (at : ℕ) (x : ModuleName) (ps : FunctorParams) (s : ModType) → sig_item_told
    step z (ModuleSig at x ps s) ≡ brings_told step (step (mod_type_told step (functor_params_told step (step z scope_begins) ps) s) scope_ends)
    x
unfolding sig_item_told
told_ModuleSig step z at x ps s = module_name_silent step x _ _ ∙ functor_params_goes_on step ps _ _ ∙ mod_type_goes_on step s _ _ ∙
    brings_goes_on step x _ _

pub told_AliasSig : {S : Type 0} (step : S → Event → S) (z : S) (at : ℕ) (x : Name) (eq : ℕ) (path : List Name) → sig_item_told step z (AliasSig
    at x eq path) ≡ step (step z (module_path path)) (brings (UpperName x))
unfolding sig_item_told
told_AliasSig step z at x eq path = refl

pub told_ModuleTypeSig : {S : Type 0} (step : S → Event → S) (z : S) (at : ℕ) (x : Name) (eq : ℕ) (s : ModType) → sig_item_told step z
    (ModuleTypeSig at x eq s) ≡ mod_type_told step z s
unfolding sig_item_told
told_ModuleTypeSig step z at x eq s = mod_type_goes_on step s _ _

pub told_OpenSig : {S : Type 0} (step : S → Event → S) (z : S) (at : ℕ) (bang : Option Name) (path : List Name) → sig_item_told step z (OpenSig
    at bang path) ≡ step z (module_path path)
unfolding sig_item_told
told_OpenSig step z at bang path = bang_silent step bang _ _

pub told_IncludeSig : {S : Type 0} (step : S → Event → S) (z : S) (at : ℕ) (s : ModType) → sig_item_told step z (IncludeSig at s) ≡
    mod_type_told step z s
unfolding sig_item_told
told_IncludeSig step z at s = mod_type_goes_on step s _ _

pub told_no_sig_item : {S : Type 0} (step : S → Event → S) (z : S) → sig_items_told step z no_sig_item ≡ z
unfolding sig_items_told
told_no_sig_item step z = refl

pub told_more_sig_item : {S : Type 0} (step : S → Event → S) (z : S) (i : SigItem) (is : SigItems) → sig_items_told step z (more_sig_item i is)
    ≡ sig_items_told step (sig_item_told step z i) is
unfolding sig_items_told
told_more_sig_item step z i is = sig_item_goes_on step i _ _ ∙ sig_items_goes_on step is _ _

pub told_Body : {S : Type 0} (step : S → Event → S) (z : S) (file : ℕ) (is : Items) → file_told step z (Body file is) ≡ items_told step z is
unfolding file_told
told_Body step z file is = items_goes_on step is _ _

pub told_Face : {S : Type 0} (step : S → Event → S) (z : S) (file : ℕ) (is : SigItems) → file_told step z (Face file is) ≡ sig_items_told step z
    is
unfolding file_told
told_Face step z file is = sig_items_goes_on step is _ _

pub ruleset pat_tells = (
  told_names_end,
  told_names_more,
  told_AsPat,
  told_OrPat,
  told_TuplePat,
  told_ConsPat,
  told_ConstrApplyPat,
  told_TagApplyPat,
  told_LazyPat,
  told_ExceptionPat,
  told_AnyPat,
  told_ValuePat,
  told_LiteralPat,
  told_NegativePat,
  told_RangePat,
  told_ConstrPat,
  told_TagPat,
  told_BoolPat,
  told_UnitPat,
  told_ParenPat,
  told_TypedPat,
  told_EmptyPat,
  told_ListPat,
  told_RecordPat,
  told_OpenedPat,
  told_no_pat,
  told_more_pat,
  told_PunnedField,
  told_MatchedField,
  told_no_pat_field,
  told_more_pat_field,
)

pub ruleset local_tells = (
  told_LocalPath,
  told_no_local,
  told_more_local,
  told_no_module,
)

pub ruleset expr_tells = (
  told_PlainVariable,
  told_AnyVariable,
  told_Seq,
  told_Let,
  told_LetOpen,
  told_LetModule,
  told_Fun,
  told_Function,
  told_Match,
  told_Try,
  told_If,
  told_Chain,
  told_Minus,
  told_Apply,
  told_ConstrApply,
  told_TagApply,
  told_Assert,
  told_Lazy,
  told_Postfix,
  told_Prefixed,
  told_Literal,
  told_BoolExpr,
  told_Value,
  told_Constr,
  told_Tag,
  told_UnitExpr,
  told_Paren,
  told_Typed,
  told_Coerced,
  told_EmptyBegin,
  told_Begin,
  told_EmptyList,
  told_ListExpr,
  told_Record,
  told_Opened,
  told_While,
  told_For,
  told_no_link,
  told_more_link,
  told_base_no_expr,
  told_base_some_expr,
  told_guard_no_expr,
  told_guard_some_expr,
  told_no_else,
  told_or_else,
  told_or_if,
  told_PlainBinding,
  told_AppliedBinding,
  told_no_binding,
  told_more_binding,
  told_CaseOf,
  told_no_case,
  told_more_case,
  told_Positional,
  told_LabelPun,
  told_Labelled,
  told_no_argument,
  told_more_argument,
  told_PatternParam,
  told_LabelParam,
  told_LabelPattern,
  told_DefaultParam,
  told_WrappedParam,
  told_WrappedDefault,
  told_TypesParam,
  told_no_param,
  told_more_param,
  told_LabelPart,
  told_IndexPart,
  told_CharPart,
  told_no_part,
  told_more_part,
  told_FieldPun,
  told_AssignedField,
  told_no_field,
  told_more_field,
)

pub ruleset module_tells = (
  told_UpperName,
  told_AnyName,
  told_ModPath,
  told_Struct,
  told_Functor,
  told_ModApply,
  told_ModParen,
  told_Sealed,
  told_ModuleArgument,
  told_SealedArgument,
  told_NoArgument,
  told_no_mod_argument,
  told_more_mod_argument,
  told_NamedParam,
  told_NoParam,
  told_no_functor_param,
  told_more_functor_param,
  told_TypePath,
  told_Sig,
  told_TypeOf,
  told_TypeParen,
  told_With,
  told_FunctorType,
  told_ParamArrow,
  told_Arrow,
  told_no_type,
  told_some_type,
  told_ExprItem,
  told_SeparatorItem,
  told_ValueItem,
  told_ExternalItem,
  told_TypeItem,
  told_ExceptionItem,
  told_ModuleItem,
  told_ModuleTypeItem,
  told_OpenItem,
  told_IncludeItem,
  told_no_item,
  told_more_item,
  told_SeparatorSig,
  told_ValSig,
  told_ExternalSig,
  told_TypeSig,
  told_ExceptionSig,
  told_ModuleSig,
  told_AliasSig,
  told_ModuleTypeSig,
  told_OpenSig,
  told_IncludeSig,
  told_no_sig_item,
  told_more_sig_item,
  told_Body,
  told_Face,
)
