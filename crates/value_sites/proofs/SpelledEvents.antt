-- What holds of the events of a respelled tree and of the tree, if each event keeps it. Printed by scripts/print_walk.py.
use Rattle.std.proofs.Common.{◌∷◌, ℕ, List, [], Bool, true, false, Option, Some, None, map}
use Rattle.rotor_base.specs.declared.token.Class.TheVariants as class
use Rattle.ml_trees.specs.declared.fixed.Fixed.{Fixed}
use Rattle.ml_trees.specs.declared.fixed.Fixed.TheVariants as key
use Rattle.ml_trees.specs.Tok.{Name, Tok, fixed, placed, word}
use Rattle.ml_trees.specs.Tree.{ValueName, PlainName, Pat, AsPat, OrPat, TuplePat, ConsPat, ConstrApplyPat, TagApplyPat, LazyPat}
use Rattle.ml_trees.specs.Tree.{ExceptionPat, AnyPat, ValuePat, LiteralPat, NegativePat, RangePat, ConstrPat, TagPat, BoolPat, UnitPat, ParenPat}
use Rattle.ml_trees.specs.Tree.{TypedPat, EmptyPat, ListPat, RecordPat, OpenedPat, Pats, no_pat, more_pat, PatField, PunnedField, MatchedField}
use Rattle.ml_trees.specs.Tree.{PatFields, no_pat_field, more_pat_field, Variable, PlainVariable, AnyVariable, LocalModule, LocalPath}
use Rattle.ml_trees.specs.Tree.{LocalArguments, no_local, more_local, no_module, Expr, Seq, Let, LetOpen, LetModule, Fun, Function, Match, Try}
use Rattle.ml_trees.specs.Tree.{If}
use Rattle.ml_trees.specs.Tree.{Chain, Minus, Apply, ConstrApply, TagApply, Assert, Lazy, Postfix, Prefixed, Literal, BoolExpr, Value, Constr}
use Rattle.ml_trees.specs.Tree.{Tag}
use Rattle.ml_trees.specs.Tree.{UnitExpr, Paren, Typed, Coerced, EmptyBegin, Begin, EmptyList, ListExpr, Record, Opened, While, For}
use Rattle.ml_trees.specs.Tree.{Links, no_link}
use Rattle.ml_trees.specs.Tree.{more_link, MaybeExpr, no_expr, some_expr, Tail, no_else, or_else, or_if, Binding, PlainBinding, AppliedBinding}
use Rattle.ml_trees.specs.Tree.{Bindings, no_binding, more_binding, Case, CaseOf, Cases, no_case, more_case, Argument, Positional, LabelPun}
use Rattle.ml_trees.specs.Tree.{Labelled, Arguments, no_argument, more_argument, Param, PatternParam, LabelParam, LabelPattern, DefaultParam}
use Rattle.ml_trees.specs.Tree.{WrappedParam, WrappedDefault, TypesParam, Params, no_param, more_param, Part, LabelPart, IndexPart}
use Rattle.ml_trees.specs.Tree.{CharPart, Parts}
use Rattle.ml_trees.specs.Tree.{no_part, more_part, Field, FieldPun, AssignedField, Fields, no_field, more_field, ModuleName, UpperName, AnyName}
use Rattle.ml_trees.specs.Tree.{Constraint, ConstraintOf, WithClause, WithOf, ModExpr, ModPath, Struct, Functor, ModApply, ModParen, Sealed}
use Rattle.ml_trees.specs.Tree.{ModArgument, ModuleArgument, SealedArgument, NoArgument, ModArguments, no_mod_argument, more_mod_argument}
use Rattle.ml_trees.specs.Tree.{FunctorParam, NamedParam, NoParam, FunctorParams, no_functor_param, more_functor_param, ModType, TypePath, Sig}
use Rattle.ml_trees.specs.Tree.{TypeOf, TypeParen, With, FunctorType, ParamArrow, Arrow, MaybeType, no_type, some_type, Item, ExprItem}
use Rattle.ml_trees.specs.Tree.{SeparatorItem, ValueItem, ExternalItem, TypeItem, ExceptionItem, ModuleItem, ModuleTypeItem, OpenItem}
use Rattle.ml_trees.specs.Tree.{IncludeItem}
use Rattle.ml_trees.specs.Tree.{Items, no_item, more_item, SigItem, SeparatorSig, ValSig, ExternalSig, TypeSig, ExceptionSig, ModuleSig}
use Rattle.ml_trees.specs.Tree.{AliasSig}
use Rattle.ml_trees.specs.Tree.{ModuleTypeSig, OpenSig, IncludeSig, SigItems, no_sig_item, more_sig_item, FileTree, Body, Face}
use Rattle.ml_trees.specs.Events.{Event, said, run_of, value, field, label, operator, minus, module_path, last_path, qualifier, group_begins}
use Rattle.ml_trees.specs.Events.{group_ends, bindings_begin, part_begins, part_ends, alternatives_end, scope_begins, scope_ends, brings}
use Rattle.ml_trees.specs.Events.{truth, opening, closing, wrap, direction, names_out, type_out, optional_out, bang_out, open_out, pat_out}
use Rattle.ml_trees.specs.Events.{pats_out, pat_field_out, pat_fields_out, variable_out, local_out, locals_out, lowers_out, expr_out, links_out}
use Rattle.ml_trees.specs.Events.{base_out, guard_out, tail_out, binding_out, bindings_out, case_out, cases_out, argument_out, arguments_out}
use Rattle.ml_trees.specs.Events.{param_out, params_out, part_out, parts_out, field_out, fields_out, module_name_out, constraint_out}
use Rattle.ml_trees.specs.Events.{constraints_out, withs_out, texts_out, external_out, open_item_out, mod_out, mod_argument_out}
use Rattle.ml_trees.specs.Events.{mod_arguments_out, functor_param_out, functor_params_out, mod_type_out, signature_out, item_out, items_out}
use Rattle.ml_trees.specs.Events.{sig_item_out, sig_items_out, file_out}
use Rattle.value_sites.specs.Respelled.{Spelling, spell, spell_tok, spell_run, spell_type, spell_value_name, spell_pat, spell_pats}
use Rattle.value_sites.specs.Respelled.{spell_pat_field, spell_pat_fields, spell_variable, spell_expr, spell_links, spell_maybe_expr, spell_tail}
use Rattle.value_sites.specs.Respelled.{spell_binding, spell_bindings, spell_case, spell_cases, spell_argument, spell_arguments, spell_param}
use Rattle.value_sites.specs.Respelled.{spell_params, spell_part, spell_parts, spell_field, spell_fields, spell_constraint, spell_with_clause}
use Rattle.value_sites.specs.Respelled.{spell_mod_expr, spell_mod_argument, spell_mod_arguments, spell_functor_param, spell_functor_params}
use Rattle.value_sites.specs.Respelled.{spell_mod_type, spell_maybe_type, spell_item, spell_items, spell_sig_item, spell_sig_items, spell_file}

-- an event with other words in the place of its lower-case ones
abbrev pub spell_event : Spelling → Event → Event
spell_event w (said t) = said (spell_tok w t)
spell_event w (run_of ts) = run_of (spell_run w ts)
spell_event w (value binds x) = value binds (spell_value_name w x)
spell_event w (field binds x) = field binds (spell w x)
spell_event w (operator t) = operator (spell_tok w t)
spell_event w e = e

-- what each event keeps, all events of a part keep
module _ {A B : Type 0} (◌▹◌ : Event → A → A) (◌▸◌ : Event → B → B) (R : A → B → Type 0) (w : Spelling)
    (keeps : (e : Event) (a : A) (b : B) → R a b → R (spell_event w e ▹ a) (e ▸ b)) where
  infixr 35 ◌▹◌
  infixr 35 ◌▸◌
  kept : (e : Event) {a : A} {b : B} → R a b → R (spell_event w e ▹ a) (e ▸ b)
  kept e h = keeps e _ _ h

  pub names_spelled : (x0 : List ValueName) {a : A} {b : B} → R a b → R (names_out ◌▹◌ (map (spell_value_name w) x0) a) (names_out ◌▸◌ x0 b)
  names_spelled [] h = h
  names_spelled (x ∷ xs) h = kept (said (fixed key.As)) (kept (value true x) (names_spelled xs h))

  pub type_spelled : (x0 : Option (List Tok)) {a : A} {b : B} → R a b → R (type_out ◌▹◌ (spell_type w x0) a) (type_out ◌▸◌ x0 b)
  type_spelled None h = h
  type_spelled (Some ts) h = kept (said (fixed key.Colon)) (kept (run_of ts) h)

  pub optional_spelled : (x0 : Fixed) (x1 : Bool) {a : A} {b : B} → R a b → R (optional_out ◌▹◌ x0 x1 a) (optional_out ◌▸◌ x0 x1 b)
  optional_spelled x true h = kept (said (fixed x)) h
  optional_spelled x false h = h

  pub bang_spelled : (x0 : Option Name) {a : A} {b : B} → R a b → R (bang_out ◌▹◌ x0 a) (bang_out ◌▸◌ x0 b)
  bang_spelled None h = h
  bang_spelled (Some x) h = kept (said (word class.Prefix x)) h

  pub open_spelled : (x0 : Option ℕ) {a : A} {b : B} → R a b → R (open_out ◌▹◌ x0 a) (open_out ◌▸◌ x0 b)
  open_spelled None h = h
  open_spelled (Some at) h = kept (said (fixed key.Semicolon)) (kept (said (placed key.Underscore at)) h)

  mutual
    pub pat_spelled : (x0 : Pat) {a : A} {b : B} → R a b → R (pat_out ◌▹◌ (spell_pat w x0) a) (pat_out ◌▸◌ x0 b)
    pat_spelled (AsPat p xs) h = pat_spelled p (names_spelled xs h)
    pat_spelled (OrPat p ps) h = pat_spelled p (pats_spelled key.Bar ps (kept alternatives_end h))
    pat_spelled (TuplePat p ps) h = pat_spelled p (pats_spelled key.Comma ps h)
    pat_spelled (ConsPat p ps) h = pat_spelled p (pats_spelled key.ColonColon ps h)
    pat_spelled (ConstrApplyPat path p) h = kept (last_path path) (pat_spelled p h)
    pat_spelled (TagApplyPat x p) h = kept (said (word class.Tag x)) (pat_spelled p h)
    pat_spelled (LazyPat at p) h = kept (said (placed key.Lazy at)) (pat_spelled p h)
    pat_spelled (ExceptionPat at p) h = kept (said (placed key.Exception at)) (pat_spelled p h)
    pat_spelled (AnyPat at) h = kept (said (placed key.Underscore at)) h
    pat_spelled (ValuePat x) h = kept (value true x) h
    pat_spelled (LiteralPat c x) h = kept (said (word c x)) h
    pat_spelled (NegativePat x c y) h = kept (said (word class.Infix x)) (kept (said (word c y)) h)
    pat_spelled (RangePat x y) h = kept (said (word class.Char x)) (kept (said (fixed key.DotDot)) (kept (said (word class.Char y)) h))
    pat_spelled (ConstrPat path) h = kept (last_path path) h
    pat_spelled (TagPat x) h = kept (said (word class.Tag x)) h
    pat_spelled (BoolPat at b) h = kept (said (placed (truth b) at)) h
    pat_spelled (UnitPat at) h = kept (said (placed key.LeftParen at)) (kept (said (fixed key.RightParen)) h)
    pat_spelled (ParenPat at p) h = kept (said (placed key.LeftParen at)) (pat_spelled p (kept (said (fixed key.RightParen)) h))
    pat_spelled (TypedPat at p run) h =
        kept (said (placed key.LeftParen at)) (pat_spelled p (kept (said (fixed key.Colon)) (kept (run_of run) (kept (said (fixed
        key.RightParen)) h))))
    pat_spelled (EmptyPat at b) h = kept (said (placed (opening b) at)) (kept (said (fixed (closing b))) h)
    pat_spelled (ListPat at b p ps last) h =
        kept (said (placed (opening b) at)) (pat_spelled p (pats_spelled key.Semicolon ps (optional_spelled key.Semicolon last (kept (said
        (fixed (closing b))) h))))
    pat_spelled (RecordPat at f fs rest last) h =
        kept (said (placed key.LeftBrace at)) (pat_field_spelled f (pat_fields_spelled fs (open_spelled rest (optional_spelled key.Semicolon
        last (kept (said (fixed key.RightBrace)) h)))))
    pat_spelled (OpenedPat path at p) h =
        kept (module_path path) (kept (said (fixed key.Dot)) (kept (said (placed key.LeftParen at)) (pat_spelled p (kept (said (fixed
        key.RightParen)) h))))

    pub pats_spelled : (x0 : Fixed) (x1 : Pats) {a : A} {b : B} → R a b → R (pats_out ◌▹◌ x0 (spell_pats w x1) a) (pats_out ◌▸◌ x0 x1 b)
    pats_spelled sep no_pat h = h
    pats_spelled sep (more_pat p ps) h =
        kept (said (fixed sep)) (kept (part_begins sep) (pat_spelled p (kept (part_ends sep) (pats_spelled sep ps h))))

    pub pat_field_spelled : (x0 : PatField) {a : A} {b : B} → R a b → R (pat_field_out ◌▹◌ (spell_pat_field w x0) a) (pat_field_out ◌▸◌ x0 b)
    pat_field_spelled (PunnedField path x run) h = kept (qualifier path) (kept (field true x) (type_spelled run h))
    pat_field_spelled (MatchedField path x run at p) h =
        kept (qualifier path) (kept (said (word class.Lower x)) (type_spelled run (kept (said (placed key.Equals at)) (pat_spelled p h))))

    pub pat_fields_spelled : (x0 : PatFields) {a : A} {b : B}
        → R a b → R (pat_fields_out ◌▹◌ (spell_pat_fields w x0) a) (pat_fields_out ◌▸◌ x0 b)
    pat_fields_spelled no_pat_field h = h
    pat_fields_spelled (more_pat_field f fs) h = kept (said (fixed key.Semicolon)) (pat_field_spelled f (pat_fields_spelled fs h))

  pub variable_spelled : (x0 : Variable) {a : A} {b : B} → R a b → R (variable_out ◌▹◌ (spell_variable w x0) a) (variable_out ◌▸◌ x0 b)
  variable_spelled (PlainVariable x) h = kept (value true (PlainName x)) h
  variable_spelled (AnyVariable at) h = kept (said (placed key.Underscore at)) h

  mutual
    pub local_spelled : (x0 : LocalModule) {a : A} {b : B} → R a b → R (local_out ◌▹◌ x0 a) (local_out ◌▸◌ x0 b)
    local_spelled (LocalPath path ms) h = kept (module_path path) (locals_spelled ms h)

    pub locals_spelled : (x0 : LocalArguments) {a : A} {b : B} → R a b → R (locals_out ◌▹◌ x0 a) (locals_out ◌▸◌ x0 b)
    locals_spelled no_local h = h
    locals_spelled (more_local at m ms) h =
        kept (said (placed key.LeftParen at)) (local_spelled m (kept (said (fixed key.RightParen)) (locals_spelled ms h)))
    locals_spelled (no_module at ms) h = kept (said (placed key.LeftParen at)) (kept (said (fixed key.RightParen)) (locals_spelled ms h))

  pub lowers_spelled : (x0 : List Name) {a : A} {b : B} → R a b → R (lowers_out ◌▹◌ (map (spell w) x0) a) (lowers_out ◌▸◌ x0 b)
  lowers_spelled [] h = h
  lowers_spelled (x ∷ xs) h = kept (said (word class.Lower x)) (lowers_spelled xs h)

  mutual
    pub expr_spelled : (x0 : Expr) {a : A} {b : B} → R a b → R (expr_out ◌▹◌ (spell_expr w x0) a) (expr_out ◌▸◌ x0 b)
    expr_spelled (Seq e es last) h = expr_spelled e (links_spelled es (optional_spelled key.Semicolon last h))
    expr_spelled (Let at rec b bs e) h =
        kept (said (placed key.Let at)) (optional_spelled key.Rec rec (kept bindings_begin (binding_spelled b (bindings_spelled bs (kept
        group_ends (kept (said (fixed key.In)) (expr_spelled e h)))))))
    expr_spelled (LetOpen at at' bang path e) h =
        kept (said (placed key.Let at)) (kept (said (placed key.Open at')) (bang_spelled bang (kept (module_path path) (kept (said (fixed
        key.In)) (expr_spelled e h)))))
    expr_spelled (LetModule at at' x eq m e) h =
        kept (said (placed key.Let at)) (kept (said (placed key.Module at')) (kept (said (word class.Upper x)) (kept (said (placed key.Equals
        eq)) (local_spelled m (kept (said (fixed key.In)) (kept scope_begins (kept (brings (UpperName x)) (expr_spelled e (kept scope_ends
        h)))))))))
    expr_spelled (Fun at ps e) h = kept (said (placed key.Fun at)) (params_spelled ps (kept (said (fixed key.Arrow)) (expr_spelled e h)))
    expr_spelled (Function at bar c cs) h =
        kept (said (placed key.Function at)) (optional_spelled key.Bar bar (case_spelled c (cases_spelled cs h)))
    expr_spelled (Match at e bar c cs) h =
        kept (said (placed key.Match at)) (expr_spelled e (kept (said (fixed key.With)) (optional_spelled key.Bar bar (case_spelled c
        (cases_spelled cs h)))))
    expr_spelled (Try at e bar c cs) h =
        kept (said (placed key.Try at)) (expr_spelled e (kept (said (fixed key.With)) (optional_spelled key.Bar bar (case_spelled c
        (cases_spelled cs h)))))
    expr_spelled (If at c a tail) h =
        kept (said (placed key.If at)) (expr_spelled c (kept (said (fixed key.Then)) (expr_spelled a (tail_spelled tail h))))
    expr_spelled (Chain n e es) h = expr_spelled e (links_spelled es h)
    expr_spelled (Minus x e) h = kept (minus x) (expr_spelled e h)
    expr_spelled (Apply f es) h = expr_spelled f (arguments_spelled es h)
    expr_spelled (ConstrApply path e) h = kept (last_path path) (expr_spelled e h)
    expr_spelled (TagApply x e) h = kept (said (word class.Tag x)) (expr_spelled e h)
    expr_spelled (Assert at e) h = kept (said (placed key.Assert at)) (expr_spelled e h)
    expr_spelled (Lazy at e) h = kept (said (placed key.Lazy at)) (expr_spelled e h)
    expr_spelled (Postfix e ps) h = expr_spelled e (parts_spelled ps h)
    expr_spelled (Prefixed x e) h = kept (operator (word class.Prefix x)) (expr_spelled e h)
    expr_spelled (Literal c x) h = kept (said (word c x)) h
    expr_spelled (BoolExpr at b) h = kept (said (placed (truth b) at)) h
    expr_spelled (Value path x) h = kept (qualifier path) (kept (value false x) h)
    expr_spelled (Constr path) h = kept (last_path path) h
    expr_spelled (Tag x) h = kept (said (word class.Tag x)) h
    expr_spelled (UnitExpr at) h = kept (said (placed key.LeftParen at)) (kept (said (fixed key.RightParen)) h)
    expr_spelled (Paren at e) h = kept (said (placed key.LeftParen at)) (expr_spelled e (kept (said (fixed key.RightParen)) h))
    expr_spelled (Typed at e run) h =
        kept (said (placed key.LeftParen at)) (expr_spelled e (kept (said (fixed key.Colon)) (kept (run_of run) (kept (said (fixed
        key.RightParen)) h))))
    expr_spelled (Coerced at e from to) h =
        kept (said (placed key.LeftParen at)) (expr_spelled e (type_spelled from (kept (said (fixed key.ColonGreater)) (kept (run_of to) (kept
        (said (fixed key.RightParen)) h)))))
    expr_spelled (EmptyBegin at) h = kept (said (placed key.Begin at)) (kept (said (fixed key.End)) h)
    expr_spelled (Begin at e) h = kept (said (placed key.Begin at)) (expr_spelled e (kept (said (fixed key.End)) h))
    expr_spelled (EmptyList at b) h = kept (said (placed (opening b) at)) (kept (said (fixed (closing b))) h)
    expr_spelled (ListExpr at b e es last) h =
        kept (said (placed (opening b) at)) (expr_spelled e (links_spelled es (optional_spelled key.Semicolon last (kept (said (fixed (closing
        b))) h))))
    expr_spelled (Record at base f fs last) h =
        kept (said (placed key.LeftBrace at)) (base_spelled base (field_spelled f (fields_spelled fs (optional_spelled key.Semicolon last (kept
        (said (fixed key.RightBrace)) h)))))
    expr_spelled (Opened path e) h = kept (module_path path) (kept (said (fixed key.Dot)) (expr_spelled e h))
    expr_spelled (While at c e) h =
        kept (said (placed key.While at)) (expr_spelled c (kept (said (fixed key.Do)) (expr_spelled e (kept (said (fixed key.Done)) h))))
    expr_spelled (For at x eq a down b e) h =
        kept (said (placed key.For at)) (kept group_begins (variable_spelled x (kept (said (placed key.Equals eq)) (expr_spelled a (kept (said
        (fixed (direction down))) (expr_spelled b (kept group_ends (kept (said (fixed key.Do)) (expr_spelled e (kept (said (fixed key.Done))
        h))))))))))

    pub links_spelled : (x0 : Links) {a : A} {b : B} → R a b → R (links_out ◌▹◌ (spell_links w x0) a) (links_out ◌▸◌ x0 b)
    links_spelled no_link h = h
    links_spelled (more_link t e es) h = kept (operator t) (expr_spelled e (links_spelled es h))

    pub base_spelled : (x0 : MaybeExpr) {a : A} {b : B} → R a b → R (base_out ◌▹◌ (spell_maybe_expr w x0) a) (base_out ◌▸◌ x0 b)
    base_spelled no_expr h = h
    base_spelled (some_expr e) h = expr_spelled e (kept (said (fixed key.With)) h)

    pub guard_spelled : (x0 : MaybeExpr) {a : A} {b : B} → R a b → R (guard_out ◌▹◌ (spell_maybe_expr w x0) a) (guard_out ◌▸◌ x0 b)
    guard_spelled no_expr h = h
    guard_spelled (some_expr e) h = kept (said (fixed key.When)) (expr_spelled e h)

    pub tail_spelled : (x0 : Tail) {a : A} {b : B} → R a b → R (tail_out ◌▹◌ (spell_tail w x0) a) (tail_out ◌▸◌ x0 b)
    tail_spelled no_else h = h
    tail_spelled (or_else e) h = kept (said (fixed key.Else)) (expr_spelled e h)
    tail_spelled (or_if at c a tail) h =
        kept (said (fixed key.Else)) (kept (said (placed key.If at)) (expr_spelled c (kept (said (fixed key.Then)) (expr_spelled a (tail_spelled
        tail h)))))

    pub binding_spelled : (x0 : Binding) {a : A} {b : B} → R a b → R (binding_out ◌▹◌ (spell_binding w x0) a) (binding_out ◌▸◌ x0 b)
    binding_spelled (PlainBinding p run at e) h = pat_spelled p (type_spelled run (kept (said (placed key.Equals at)) (expr_spelled e h)))
    binding_spelled (AppliedBinding x ps run at e) h =
        kept (value true x) (params_spelled ps (type_spelled run (kept (said (placed key.Equals at)) (expr_spelled e h))))

    pub bindings_spelled : (x0 : Bindings) {a : A} {b : B} → R a b → R (bindings_out ◌▹◌ (spell_bindings w x0) a) (bindings_out ◌▸◌ x0 b)
    bindings_spelled no_binding h = h
    bindings_spelled (more_binding b bs) h = kept (said (fixed key.And)) (binding_spelled b (bindings_spelled bs h))

    pub case_spelled : (x0 : Case) {a : A} {b : B} → R a b → R (case_out ◌▹◌ (spell_case w x0) a) (case_out ◌▸◌ x0 b)
    case_spelled (CaseOf p guard e) h =
        kept group_begins (pat_spelled p (kept group_ends (guard_spelled guard (kept (said (fixed key.Arrow)) (expr_spelled e h)))))

    pub cases_spelled : (x0 : Cases) {a : A} {b : B} → R a b → R (cases_out ◌▹◌ (spell_cases w x0) a) (cases_out ◌▸◌ x0 b)
    cases_spelled no_case h = h
    cases_spelled (more_case c cs) h = kept (said (fixed key.Bar)) (case_spelled c (cases_spelled cs h))

    pub argument_spelled : (x0 : Argument) {a : A} {b : B} → R a b → R (argument_out ◌▹◌ (spell_argument w x0) a) (argument_out ◌▸◌ x0 b)
    argument_spelled (Positional e) h = expr_spelled e h
    argument_spelled (LabelPun x) h = kept (label false x) h
    argument_spelled (Labelled x e) h = kept (said (word class.Label x)) (expr_spelled e h)

    pub arguments_spelled : (x0 : Arguments) {a : A} {b : B} → R a b → R (arguments_out ◌▹◌ (spell_arguments w x0) a) (arguments_out ◌▸◌ x0 b)
    arguments_spelled no_argument h = h
    arguments_spelled (more_argument a es) h = argument_spelled a (arguments_spelled es h)

    pub param_spelled : (x0 : Param) {a : A} {b : B} → R a b → R (param_out ◌▹◌ (spell_param w x0) a) (param_out ◌▸◌ x0 b)
    param_spelled (PatternParam p) h = kept group_begins (pat_spelled p (kept group_ends h))
    param_spelled (LabelParam x) h = kept group_begins (kept (label true x) (kept group_ends h))
    param_spelled (LabelPattern x p) h = kept (said (word class.Label x)) (kept group_begins (pat_spelled p (kept group_ends h)))
    param_spelled (DefaultParam x at p run eq e) h =
        kept (said (word class.Label x)) (kept (said (placed key.LeftParen at)) (kept group_begins (pat_spelled p (type_spelled run (kept (said
        (placed key.Equals eq)) (expr_spelled e (kept group_ends (kept (said (fixed key.RightParen)) h))))))))
    param_spelled (WrappedParam at optional at' x run) h =
        kept (said (placed (wrap optional) at)) (kept (said (placed key.LeftParen at')) (kept group_begins (kept (field true x) (kept group_ends
        (type_spelled run (kept (said (fixed key.RightParen)) h))))))
    param_spelled (WrappedDefault at at' x run eq e) h =
        kept (said (placed key.Question at)) (kept (said (placed key.LeftParen at')) (kept group_begins (kept (field true x) (type_spelled run
        (kept (said (placed key.Equals eq)) (expr_spelled e (kept group_ends (kept (said (fixed key.RightParen)) h))))))))
    param_spelled (TypesParam at xs) h =
        kept (said (placed key.LeftParen at)) (kept (said (fixed key.Type)) (lowers_spelled xs (kept (said (fixed key.RightParen)) h)))

    pub params_spelled : (x0 : Params) {a : A} {b : B} → R a b → R (params_out ◌▹◌ (spell_params w x0) a) (params_out ◌▸◌ x0 b)
    params_spelled no_param h = h
    params_spelled (more_param p ps) h = param_spelled p (params_spelled ps h)

    pub part_spelled : (x0 : Part) {a : A} {b : B} → R a b → R (part_out ◌▹◌ (spell_part w x0) a) (part_out ◌▸◌ x0 b)
    part_spelled (LabelPart path x) h = kept (said (fixed key.Dot)) (kept (qualifier path) (kept (said (word class.Lower x)) h))
    part_spelled (IndexPart at e) h =
        kept (said (fixed key.Dot)) (kept (said (placed key.LeftParen at)) (expr_spelled e (kept (said (fixed key.RightParen)) h)))
    part_spelled (CharPart at e) h =
        kept (said (fixed key.Dot)) (kept (said (placed key.LeftBracket at)) (expr_spelled e (kept (said (fixed key.RightBracket)) h)))

    pub parts_spelled : (x0 : Parts) {a : A} {b : B} → R a b → R (parts_out ◌▹◌ (spell_parts w x0) a) (parts_out ◌▸◌ x0 b)
    parts_spelled no_part h = h
    parts_spelled (more_part p ps) h = part_spelled p (parts_spelled ps h)

    pub field_spelled : (x0 : Field) {a : A} {b : B} → R a b → R (field_out ◌▹◌ (spell_field w x0) a) (field_out ◌▸◌ x0 b)
    field_spelled (FieldPun path x run) h = kept (qualifier path) (kept (field false x) (type_spelled run h))
    field_spelled (AssignedField path x run at e) h =
        kept (qualifier path) (kept (said (word class.Lower x)) (type_spelled run (kept (said (placed key.Equals at)) (expr_spelled e h))))

    pub fields_spelled : (x0 : Fields) {a : A} {b : B} → R a b → R (fields_out ◌▹◌ (spell_fields w x0) a) (fields_out ◌▸◌ x0 b)
    fields_spelled no_field h = h
    fields_spelled (more_field f fs) h = kept (said (fixed key.Semicolon)) (field_spelled f (fields_spelled fs h))

  pub module_name_spelled : (x0 : ModuleName) {a : A} {b : B} → R a b → R (module_name_out ◌▹◌ x0 a) (module_name_out ◌▸◌ x0 b)
  module_name_spelled (UpperName x) h = kept (said (word class.Upper x)) h
  module_name_spelled (AnyName at) h = kept (said (placed key.Underscore at)) h

  pub constraint_spelled : (x0 : Constraint) {a : A} {b : B} → R a b → R (constraint_out ◌▹◌ (spell_constraint w x0) a) (constraint_out ◌▸◌ x0 b)
  constraint_spelled (ConstraintOf a t private b) h =
      kept (said (fixed key.Type)) (kept (run_of a) (kept (said t) (optional_spelled key.Private private (kept (run_of b) h))))

  pub constraints_spelled : (x0 : List Constraint) {a : A} {b : B}
      → R a b → R (constraints_out ◌▹◌ (map (spell_constraint w) x0) a) (constraints_out ◌▸◌ x0 b)
  constraints_spelled [] h = h
  constraints_spelled (c ∷ cs) h = kept (said (fixed key.And)) (constraint_spelled c (constraints_spelled cs h))

  pub withs_spelled : (x0 : List WithClause) {a : A} {b : B} → R a b → R (withs_out ◌▹◌ (map (spell_with_clause w) x0) a) (withs_out ◌▸◌ x0 b)
  withs_spelled [] h = h
  withs_spelled (WithOf c cs ∷ ws) h = kept (said (fixed key.With)) (constraint_spelled c (constraints_spelled cs (withs_spelled ws h)))

  pub texts_spelled : (x0 : List Name) {a : A} {b : B} → R a b → R (texts_out ◌▹◌ x0 a) (texts_out ◌▸◌ x0 b)
  texts_spelled [] h = h
  texts_spelled (x ∷ xs) h = kept (said (word class.Text x)) (texts_spelled xs h)

  pub external_spelled : (x0 : ValueName) (x1 : List Tok) (x2 : ℕ) (x3 : List Name) {a : A} {b : B}
      → R a b → R (external_out ◌▹◌ (spell_value_name w x0) (spell_run w x1) x2 x3 a) (external_out ◌▸◌ x0 x1 x2 x3 b)
  external_spelled x run at texts h =
      kept (said (fixed key.External)) (kept (value true x) (kept (said (fixed key.Colon)) (kept (run_of run) (kept (said (placed key.Equals
      at)) (texts_spelled texts h)))))

  pub open_item_spelled : (x0 : ℕ) (x1 : Option Name) (x2 : List Name) {a : A} {b : B}
      → R a b → R (open_item_out ◌▹◌ x0 x1 x2 a) (open_item_out ◌▸◌ x0 x1 x2 b)
  open_item_spelled at bang path h = kept (said (placed key.Open at)) (bang_spelled bang (kept (module_path path) h))

  mutual
    pub mod_spelled : (x0 : ModExpr) {a : A} {b : B} → R a b → R (mod_out ◌▹◌ (spell_mod_expr w x0) a) (mod_out ◌▸◌ x0 b)
    mod_spelled (ModPath path) h = kept (module_path path) h
    mod_spelled (Struct at is) h =
        kept (said (placed key.Struct at)) (kept scope_begins (items_spelled is (kept scope_ends (kept (said (fixed key.End)) h))))
    mod_spelled (Functor at ps m) h =
        kept (said (placed key.Functor at)) (kept scope_begins (functor_params_spelled ps (kept (said (fixed key.Arrow)) (mod_spelled m (kept
        scope_ends h)))))
    mod_spelled (ModApply m ms) h = mod_spelled m (mod_arguments_spelled ms h)
    mod_spelled (ModParen at m) h = kept (said (placed key.LeftParen at)) (mod_spelled m (kept (said (fixed key.RightParen)) h))
    mod_spelled (Sealed at m s) h =
        kept (said (placed key.LeftParen at)) (mod_spelled m (kept (said (fixed key.Colon)) (mod_type_spelled s (kept (said (fixed
        key.RightParen)) h))))

    pub mod_argument_spelled : (x0 : ModArgument) {a : A} {b : B}
        → R a b → R (mod_argument_out ◌▹◌ (spell_mod_argument w x0) a) (mod_argument_out ◌▸◌ x0 b)
    mod_argument_spelled (ModuleArgument at m) h = kept (said (placed key.LeftParen at)) (mod_spelled m (kept (said (fixed key.RightParen)) h))
    mod_argument_spelled (SealedArgument at m s) h =
        kept (said (placed key.LeftParen at)) (mod_spelled m (kept (said (fixed key.Colon)) (mod_type_spelled s (kept (said (fixed
        key.RightParen)) h))))
    mod_argument_spelled (NoArgument at) h = kept (said (placed key.LeftParen at)) (kept (said (fixed key.RightParen)) h)

    pub mod_arguments_spelled : (x0 : ModArguments) {a : A} {b : B}
        → R a b → R (mod_arguments_out ◌▹◌ (spell_mod_arguments w x0) a) (mod_arguments_out ◌▸◌ x0 b)
    mod_arguments_spelled no_mod_argument h = h
    mod_arguments_spelled (more_mod_argument m ms) h = mod_argument_spelled m (mod_arguments_spelled ms h)

    pub functor_param_spelled : (x0 : FunctorParam) {a : A} {b : B}
        → R a b → R (functor_param_out ◌▹◌ (spell_functor_param w x0) a) (functor_param_out ◌▸◌ x0 b)
    functor_param_spelled (NamedParam at x s) h =
        kept (said (placed key.LeftParen at)) (module_name_spelled x (kept (said (fixed key.Colon)) (mod_type_spelled s (kept (brings x) (kept
        (said (fixed key.RightParen)) h)))))
    functor_param_spelled (NoParam at) h = kept (said (placed key.LeftParen at)) (kept (said (fixed key.RightParen)) h)

    pub functor_params_spelled : (x0 : FunctorParams) {a : A} {b : B}
        → R a b → R (functor_params_out ◌▹◌ (spell_functor_params w x0) a) (functor_params_out ◌▸◌ x0 b)
    functor_params_spelled no_functor_param h = h
    functor_params_spelled (more_functor_param p ps) h = functor_param_spelled p (functor_params_spelled ps h)

    pub mod_type_spelled : (x0 : ModType) {a : A} {b : B} → R a b → R (mod_type_out ◌▹◌ (spell_mod_type w x0) a) (mod_type_out ◌▸◌ x0 b)
    mod_type_spelled (TypePath path) h = kept (last_path path) h
    mod_type_spelled (Sig at is) h =
        kept (said (placed key.Sig at)) (kept scope_begins (sig_items_spelled is (kept scope_ends (kept (said (fixed key.End)) h))))
    mod_type_spelled (TypeOf at m) h =
        kept (said (placed key.Module at)) (kept (said (fixed key.Type)) (kept (said (fixed key.Of)) (mod_spelled m h)))
    mod_type_spelled (TypeParen at s) h = kept (said (placed key.LeftParen at)) (mod_type_spelled s (kept (said (fixed key.RightParen)) h))
    mod_type_spelled (With s ws) h = mod_type_spelled s (withs_spelled ws h)
    mod_type_spelled (FunctorType at ps s) h =
        kept (said (placed key.Functor at)) (kept scope_begins (functor_params_spelled ps (kept (said (fixed key.Arrow)) (mod_type_spelled s
        (kept scope_ends h)))))
    mod_type_spelled (ParamArrow p s) h =
        kept scope_begins (functor_param_spelled p (kept (said (fixed key.Arrow)) (mod_type_spelled s (kept scope_ends h))))
    mod_type_spelled (Arrow s s') h = mod_type_spelled s (kept (said (fixed key.Arrow)) (mod_type_spelled s' h))

    pub signature_spelled : (x0 : MaybeType) {a : A} {b : B} → R a b → R (signature_out ◌▹◌ (spell_maybe_type w x0) a) (signature_out ◌▸◌ x0 b)
    signature_spelled no_type h = h
    signature_spelled (some_type s) h = kept (said (fixed key.Colon)) (mod_type_spelled s h)

    pub item_spelled : (x0 : Item) {a : A} {b : B} → R a b → R (item_out ◌▹◌ (spell_item w x0) a) (item_out ◌▸◌ x0 b)
    item_spelled (ExprItem e) h = expr_spelled e h
    item_spelled SeparatorItem h = kept (said (fixed key.DoubleSemicolon)) h
    item_spelled (ValueItem at rec b bs) h =
        kept (said (placed key.Let at)) (optional_spelled key.Rec rec (kept bindings_begin (binding_spelled b (bindings_spelled bs (kept
        group_ends h)))))
    item_spelled (ExternalItem x run at texts) h = external_spelled x run at texts h
    item_spelled (TypeItem run) h = kept (said (fixed key.Type)) (kept (run_of run) h)
    item_spelled (ExceptionItem at run) h = kept (said (placed key.Exception at)) (kept (run_of run) h)
    item_spelled (ModuleItem at x ps s eq m) h =
        kept (said (placed key.Module at)) (module_name_spelled x (kept scope_begins (functor_params_spelled ps (signature_spelled s (kept (said
        (placed key.Equals eq)) (mod_spelled m (kept scope_ends (kept (brings x) h))))))))
    item_spelled (ModuleTypeItem at x eq s) h =
        kept (said (placed key.Module at)) (kept (said (fixed key.Type)) (kept (said (word class.Upper x)) (kept (said (placed key.Equals eq))
        (mod_type_spelled s h))))
    item_spelled (OpenItem at bang path) h = open_item_spelled at bang path h
    item_spelled (IncludeItem at m) h = kept (said (placed key.Include at)) (mod_spelled m h)

    pub items_spelled : (x0 : Items) {a : A} {b : B} → R a b → R (items_out ◌▹◌ (spell_items w x0) a) (items_out ◌▸◌ x0 b)
    items_spelled no_item h = h
    items_spelled (more_item i is) h = item_spelled i (items_spelled is h)

    pub sig_item_spelled : (x0 : SigItem) {a : A} {b : B} → R a b → R (sig_item_out ◌▹◌ (spell_sig_item w x0) a) (sig_item_out ◌▸◌ x0 b)
    sig_item_spelled SeparatorSig h = kept (said (fixed key.DoubleSemicolon)) h
    sig_item_spelled (ValSig x run) h = kept (said (fixed key.Val)) (kept (value true x) (kept (said (fixed key.Colon)) (kept (run_of run) h)))
    sig_item_spelled (ExternalSig x run at texts) h = external_spelled x run at texts h
    sig_item_spelled (TypeSig run) h = kept (said (fixed key.Type)) (kept (run_of run) h)
    sig_item_spelled (ExceptionSig at run) h = kept (said (placed key.Exception at)) (kept (run_of run) h)
    sig_item_spelled (ModuleSig at x ps s) h =
        kept (said (placed key.Module at)) (module_name_spelled x (kept scope_begins (functor_params_spelled ps (kept (said (fixed key.Colon))
        (mod_type_spelled s (kept scope_ends (kept (brings x) h)))))))
    sig_item_spelled (AliasSig at x eq path) h =
        kept (said (placed key.Module at)) (kept (said (word class.Upper x)) (kept (said (placed key.Equals eq)) (kept (module_path path) (kept
        (brings (UpperName x)) h))))
    sig_item_spelled (ModuleTypeSig at x eq s) h =
        kept (said (placed key.Module at)) (kept (said (fixed key.Type)) (kept (said (word class.Upper x)) (kept (said (placed key.Equals eq))
        (mod_type_spelled s h))))
    sig_item_spelled (OpenSig at bang path) h = open_item_spelled at bang path h
    sig_item_spelled (IncludeSig at s) h = kept (said (placed key.Include at)) (mod_type_spelled s h)

    pub sig_items_spelled : (x0 : SigItems) {a : A} {b : B} → R a b → R (sig_items_out ◌▹◌ (spell_sig_items w x0) a) (sig_items_out ◌▸◌ x0 b)
    sig_items_spelled no_sig_item h = h
    sig_items_spelled (more_sig_item i is) h = sig_item_spelled i (sig_items_spelled is h)

  pub file_spelled : (x0 : FileTree) {a : A} {b : B} → R a b → R (file_out ◌▹◌ (spell_file w x0) a) (file_out ◌▸◌ x0 b)
  file_spelled (Body file is) h = items_spelled is h
  file_spelled (Face file is) h = sig_items_spelled is h
