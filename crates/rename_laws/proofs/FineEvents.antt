-- What holds of the events of a well-formed tree, if each event keeps it. Printed by scripts/print_walk.py.
use Rattle.std.proofs.Common.{◌≡◌, ℕ, ◌≤◌, List, [], ◌∷◌, Bool, true, false, if◌then◌else◌, Option, Some, None, codes}
use Rattle.std.proofs.Common.{bytes_eq, nat_le, refl, ap, arith}
use Rattle.std.proofs.lemmas.Bool.Decides.{nat_tests}
use Rattle.rotor_base.specs.declared.token.Class.TheVariants as class
use Rattle.ml_trees.specs.declared.fixed.Fixed.{Fixed}
use Rattle.ml_trees.specs.declared.fixed.Fixed.TheVariants as key
use Rattle.ml_trees.specs.Tok.{Name, Tok, fixed, placed, word}
use Rattle.ml_trees.specs.Tree.{ValueName, PlainName, Pat, AsPat, OrPat, TuplePat, ConsPat, ConstrApplyPat, TagApplyPat, LazyPat}
use Rattle.ml_trees.specs.Tree.{ExceptionPat, AnyPat, ValuePat, LiteralPat, NegativePat, RangePat, ConstrPat, TagPat, BoolPat, UnitPat, ParenPat}
use Rattle.ml_trees.specs.Tree.{TypedPat, EmptyPat, ListPat, RecordPat, OpenedPat, Pats, no_pat, more_pat, PatField, PunnedField, MatchedField}
use Rattle.ml_trees.specs.Tree.{PatFields, no_pat_field, more_pat_field, Variable, PlainVariable, AnyVariable, LocalModule, LocalPath}
use Rattle.ml_trees.specs.Tree.{LocalArguments, no_local, more_local, no_module, Expr, Seq, Let, LetOpen, LetModule, Fun, Function, Match, Try}
use Rattle.ml_trees.specs.Tree.{If}
use Rattle.ml_trees.specs.Tree.{Chain, Minus, Apply, ConstrApply, TagApply, Assert, Lazy, Postfix, Prefixed, Literal, BoolExpr, Value, Constr}
use Rattle.ml_trees.specs.Tree.{Tag}
use Rattle.ml_trees.specs.Tree.{UnitExpr, Paren, Typed, Coerced, EmptyBegin, Begin, EmptyList, ListExpr, Record, Opened, While, For}
use Rattle.ml_trees.specs.Tree.{Links, no_link}
use Rattle.ml_trees.specs.Tree.{more_link, MaybeExpr, no_expr, some_expr, Tail, no_else, or_else, or_if, Binding, PlainBinding, AppliedBinding}
use Rattle.ml_trees.specs.Tree.{Bindings, no_binding, more_binding, Case, CaseOf, Cases, no_case, more_case, Argument, Positional, LabelPun}
use Rattle.ml_trees.specs.Tree.{Labelled, Arguments, no_argument, more_argument, Param, PatternParam, LabelParam, LabelPattern, DefaultParam}
use Rattle.ml_trees.specs.Tree.{WrappedParam, WrappedDefault, TypesParam, Params, no_param, more_param, Part, LabelPart, IndexPart}
use Rattle.ml_trees.specs.Tree.{CharPart, Parts}
use Rattle.ml_trees.specs.Tree.{no_part, more_part, Field, FieldPun, AssignedField, Fields, no_field, more_field, ModuleName, UpperName, AnyName}
use Rattle.ml_trees.specs.Tree.{Constraint, ConstraintOf, WithClause, WithOf, ModExpr, ModPath, Struct, Functor, ModApply, ModParen, Sealed}
use Rattle.ml_trees.specs.Tree.{ModArgument, ModuleArgument, SealedArgument, NoArgument, ModArguments, no_mod_argument, more_mod_argument}
use Rattle.ml_trees.specs.Tree.{FunctorParam, NamedParam, NoParam, FunctorParams, no_functor_param, more_functor_param, ModType, TypePath, Sig}
use Rattle.ml_trees.specs.Tree.{TypeOf, TypeParen, With, FunctorType, ParamArrow, Arrow, MaybeType, no_type, some_type, Item, ExprItem}
use Rattle.ml_trees.specs.Tree.{SeparatorItem, ValueItem, ExternalItem, TypeItem, ExceptionItem, ModuleItem, ModuleTypeItem, OpenItem}
use Rattle.ml_trees.specs.Tree.{IncludeItem}
use Rattle.ml_trees.specs.Tree.{Items, no_item, more_item, SigItem, SeparatorSig, ValSig, ExternalSig, TypeSig, ExceptionSig, ModuleSig}
use Rattle.ml_trees.specs.Tree.{AliasSig}
use Rattle.ml_trees.specs.Tree.{ModuleTypeSig, OpenSig, IncludeSig, SigItems, no_sig_item, more_sig_item, FileTree, Body, Face}
use Rattle.ml_trees.specs.Events.{Event, said, run_of, value, field, label, operator, minus, module_path, last_path, qualifier, group_begins}
use Rattle.ml_trees.specs.Events.{group_ends, bindings_begin, part_begins, part_ends, alternatives_end, scope_begins, scope_ends, brings}
use Rattle.ml_trees.specs.Events.{truth, opening, closing, wrap, direction, names_out, type_out, optional_out, bang_out, open_out, pat_out}
use Rattle.ml_trees.specs.Events.{pats_out, pat_field_out, pat_fields_out, variable_out, local_out, locals_out, lowers_out, expr_out, links_out}
use Rattle.ml_trees.specs.Events.{base_out, guard_out, tail_out, binding_out, bindings_out, case_out, cases_out, argument_out, arguments_out}
use Rattle.ml_trees.specs.Events.{param_out, params_out, part_out, parts_out, field_out, fields_out, module_name_out, constraint_out}
use Rattle.ml_trees.specs.Events.{constraints_out, withs_out, texts_out, external_out, open_item_out, mod_out, mod_argument_out}
use Rattle.ml_trees.specs.Events.{mod_arguments_out, functor_param_out, functor_params_out, mod_type_out, signature_out, item_out, items_out}
use Rattle.ml_trees.specs.Events.{sig_item_out, sig_items_out, file_out}
use Rattle.ml_trees.specs.WellFormed.{keyword_level, op_level, is_separator, WfName, WfNames, WfPat, WfPats, WfPatField, WfPatFields, Wf, WfSeq}
use Rattle.ml_trees.specs.WellFormed.{WfChain, WfBase, WfGuard, WfTail, WfBinding, WfBindings, WfCase, WfCases, WfArgument, WfArguments, WfParam}
use Rattle.ml_trees.specs.WellFormed.{WfParams, WfPart, WfParts, WfField, WfFields, WfExternal, WfMod, WfModArgument, WfModArguments}
use Rattle.ml_trees.specs.WellFormed.{WfFunctorParam, WfFunctorParams, WfModType, WfSignature, WfItem, WfItems, WfSigItem, WfSigItems, WfFile}
use Rattle.ml_trees.specs.Runs.{has_colon}

-- this word is no operator, or one that may be in its place
abbrev pub is_sign : Tok → Bool
is_sign (word class.Prefix x) = true
is_sign (word class.Infix x) = true
is_sign (word class.Mark x) = bytes_eq x.text (codes ":=")
is_sign (word class.Keyword x) = nat_le 1 (keyword_level x.text)
is_sign (word c x) = false
is_sign (placed x at) = true
is_sign (fixed x) = true

mark_level : (b : Bool) (n : ℕ) → 3 ≤ n → (if b then 3 else 0) ≡ n → b ≡ true
mark_level true n low e = refl
mark_level false n low e = absurd (omega (arith, low, e))

level_sign : (t : Tok) (n : ℕ) → 3 ≤ n → op_level t ≡ n → is_sign t ≡ true
level_sign (word class.Prefix x) n low e = refl
level_sign (word class.Infix x) n low e = refl
level_sign (word class.Mark x) n low e = mark_level (bytes_eq x.text (codes ":=")) n low e
level_sign (word class.Keyword x) n low e = let more : 1 ≤ keyword_level x.text = omega (arith, low, e) in grind (arith, nat_tests, more)
level_sign (word c x) n low e = absurd (omega (arith, low, e))
level_sign (placed x at) n low e = refl
level_sign (fixed x) n low e = refl

-- each link has such a word, and a well-formed operand
abbrev AreSigns : Links → Type 0
AreSigns no_link = Unit {0}
AreSigns (more_link t e es) = (is_sign t ≡ true) × Wf e × AreSigns es

sign_seq : (e : Expr) (es : Links) (last : Bool) → WfSeq e es last → AreSigns es
sign_seq e no_link last h = tt
sign_seq e (more_link t e' es) last h = (ap is_sign h.1, h.3, sign_seq e' es last h.4)

sign_chain : (n : ℕ) (e : Expr) (es : Links) → 3 ≤ n → WfChain n e es → AreSigns es
sign_chain n e no_link low h = tt
sign_chain n e (more_link t e' es) low h = (level_sign t n low h.2, h.4, sign_chain n e' es low h.5)

-- what is known of an event of a well-formed tree
abbrev pub Fine : Event → Type 0
Fine (value binds x) = WfName x
Fine (label binds x) = has_colon x.text ≡ false
Fine (operator t) = is_sign t ≡ true
Fine _ = Unit {0}

-- what each event keeps of which this is known, all events of a well-formed part keep
module _ {A B : Type 0} (◌▹◌ : Event → A → A) (◌▸◌ : Event → B → B) (R : A → B → Type 0)
    (keeps : (e : Event) (a : A) (b : B) → Fine e → R a b → R (e ▹ a) (e ▸ b)) where
  infixr 35 ◌▹◌
  infixr 35 ◌▸◌
  kept : (e : Event) {a : A} {b : B} → Fine e → R a b → R (e ▹ a) (e ▸ b)
  kept e g h = keeps e _ _ g h

  pub names_fine : (x0 : List ValueName) {a : A} {b : B} → WfNames x0 → R a b → R (names_out ◌▹◌ x0 a) (names_out ◌▸◌ x0 b)
  names_fine [] g h = h
  names_fine (x ∷ xs) g h = kept (said (fixed key.As)) tt (kept (value true x) g.0 (names_fine xs g.1 h))

  pub type_fine : (x0 : Option (List Tok)) {a : A} {b : B} → R a b → R (type_out ◌▹◌ x0 a) (type_out ◌▸◌ x0 b)
  type_fine None h = h
  type_fine (Some ts) h = kept (said (fixed key.Colon)) tt (kept (run_of ts) tt h)

  pub optional_fine : (x0 : Fixed) (x1 : Bool) {a : A} {b : B} → R a b → R (optional_out ◌▹◌ x0 x1 a) (optional_out ◌▸◌ x0 x1 b)
  optional_fine x true h = kept (said (fixed x)) tt h
  optional_fine x false h = h

  pub bang_fine : (x0 : Option Name) {a : A} {b : B} → R a b → R (bang_out ◌▹◌ x0 a) (bang_out ◌▸◌ x0 b)
  bang_fine None h = h
  bang_fine (Some x) h = kept (said (word class.Prefix x)) tt h

  pub open_fine : (x0 : Option ℕ) {a : A} {b : B} → R a b → R (open_out ◌▹◌ x0 a) (open_out ◌▸◌ x0 b)
  open_fine None h = h
  open_fine (Some at) h = kept (said (fixed key.Semicolon)) tt (kept (said (placed key.Underscore at)) tt h)

  mutual
    pub pat_fine : (x0 : Pat) {a : A} {b : B} → WfPat x0 → R a b → R (pat_out ◌▹◌ x0 a) (pat_out ◌▸◌ x0 b)
    pat_fine (AsPat p xs) g h = pat_fine p g.3 (names_fine xs g.2 h)
    pat_fine (OrPat p ps) g h = pat_fine p g.2 (pats_fine 2 key.Bar ps g.3 (kept alternatives_end tt h))
    pat_fine (TuplePat p ps) g h = pat_fine p g.2 (pats_fine 3 key.Comma ps g.3 h)
    pat_fine (ConsPat p ps) g h = pat_fine p g.2 (pats_fine 4 key.ColonColon ps g.3 h)
    pat_fine (ConstrApplyPat path p) g h = kept (last_path path) tt (pat_fine p g.2 h)
    pat_fine (TagApplyPat x p) g h = kept (said (word class.Tag x)) tt (pat_fine p g.1 h)
    pat_fine (LazyPat at p) g h = kept (said (placed key.Lazy at)) tt (pat_fine p g.1 h)
    pat_fine (ExceptionPat at p) g h = kept (said (placed key.Exception at)) tt (pat_fine p g.2 h)
    pat_fine (AnyPat at) g h = kept (said (placed key.Underscore at)) tt h
    pat_fine (ValuePat x) g h = kept (value true x) g h
    pat_fine (LiteralPat c x) g h = kept (said (word c x)) tt h
    pat_fine (NegativePat x c y) g h = kept (said (word class.Infix x)) tt (kept (said (word c y)) tt h)
    pat_fine (RangePat x y) g h = kept (said (word class.Char x)) tt (kept (said (fixed key.DotDot)) tt (kept (said (word class.Char y)) tt h))
    pat_fine (ConstrPat path) g h = kept (last_path path) tt h
    pat_fine (TagPat x) g h = kept (said (word class.Tag x)) tt h
    pat_fine (BoolPat at b) g h = kept (said (placed (truth b) at)) tt h
    pat_fine (UnitPat at) g h = kept (said (placed key.LeftParen at)) tt (kept (said (fixed key.RightParen)) tt h)
    pat_fine (ParenPat at p) g h = kept (said (placed key.LeftParen at)) tt (pat_fine p g (kept (said (fixed key.RightParen)) tt h))
    pat_fine (TypedPat at p run) g h =
        kept (said (placed key.LeftParen at)) tt (pat_fine p g.0 (kept (said (fixed key.Colon)) tt (kept (run_of run) tt (kept (said (fixed
        key.RightParen)) tt h))))
    pat_fine (EmptyPat at b) g h = kept (said (placed (opening b) at)) tt (kept (said (fixed (closing b))) tt h)
    pat_fine (ListPat at b p ps last) g h =
        kept (said (placed (opening b) at)) tt (pat_fine p g.0 (pats_fine 0 key.Semicolon ps g.1 (optional_fine key.Semicolon last (kept (said
        (fixed (closing b))) tt h))))
    pat_fine (RecordPat at f fs rest last) g h =
        kept (said (placed key.LeftBrace at)) tt (pat_field_fine f g.0 (pat_fields_fine fs g.1 (open_fine rest (optional_fine key.Semicolon last
        (kept (said (fixed key.RightBrace)) tt h)))))
    pat_fine (OpenedPat path at p) g h =
        kept (module_path path) tt (kept (said (fixed key.Dot)) tt (kept (said (placed key.LeftParen at)) tt (pat_fine p g.1 (kept (said (fixed
        key.RightParen)) tt h))))

    pub pats_fine : (y0 : ℕ) (x0 : Fixed) (x1 : Pats) {a : A} {b : B} → WfPats y0 x1 → R a b → R (pats_out ◌▹◌ x0 x1 a) (pats_out ◌▸◌ x0 x1 b)
    pats_fine n sep no_pat g h = h
    pats_fine n sep (more_pat p ps) g h =
        kept (said (fixed sep)) tt (kept (part_begins sep) tt (pat_fine p g.1 (kept (part_ends sep) tt (pats_fine n sep ps g.2 h))))

    pub pat_field_fine : (x0 : PatField) {a : A} {b : B} → WfPatField x0 → R a b → R (pat_field_out ◌▹◌ x0 a) (pat_field_out ◌▸◌ x0 b)
    pat_field_fine (PunnedField path x run) g h = kept (qualifier path) tt (kept (field true x) tt (type_fine run h))
    pat_field_fine (MatchedField path x run at p) g h =
        kept (qualifier path) tt (kept (said (word class.Lower x)) tt (type_fine run (kept (said (placed key.Equals at)) tt (pat_fine p g.1 h))))

    pub pat_fields_fine : (x0 : PatFields) {a : A} {b : B} → WfPatFields x0 → R a b → R (pat_fields_out ◌▹◌ x0 a) (pat_fields_out ◌▸◌ x0 b)
    pat_fields_fine no_pat_field g h = h
    pat_fields_fine (more_pat_field f fs) g h = kept (said (fixed key.Semicolon)) tt (pat_field_fine f g.0 (pat_fields_fine fs g.1 h))

  pub variable_fine : (x0 : Variable) {a : A} {b : B} → R a b → R (variable_out ◌▹◌ x0 a) (variable_out ◌▸◌ x0 b)
  variable_fine (PlainVariable x) h = kept (value true (PlainName x)) tt h
  variable_fine (AnyVariable at) h = kept (said (placed key.Underscore at)) tt h

  mutual
    pub local_fine : (x0 : LocalModule) {a : A} {b : B} → R a b → R (local_out ◌▹◌ x0 a) (local_out ◌▸◌ x0 b)
    local_fine (LocalPath path ms) h = kept (module_path path) tt (locals_fine ms h)

    pub locals_fine : (x0 : LocalArguments) {a : A} {b : B} → R a b → R (locals_out ◌▹◌ x0 a) (locals_out ◌▸◌ x0 b)
    locals_fine no_local h = h
    locals_fine (more_local at m ms) h =
        kept (said (placed key.LeftParen at)) tt (local_fine m (kept (said (fixed key.RightParen)) tt (locals_fine ms h)))
    locals_fine (no_module at ms) h = kept (said (placed key.LeftParen at)) tt (kept (said (fixed key.RightParen)) tt (locals_fine ms h))

  pub lowers_fine : (x0 : List Name) {a : A} {b : B} → R a b → R (lowers_out ◌▹◌ x0 a) (lowers_out ◌▸◌ x0 b)
  lowers_fine [] h = h
  lowers_fine (x ∷ xs) h = kept (said (word class.Lower x)) tt (lowers_fine xs h)

  mutual
    pub expr_fine : (x0 : Expr) {a : A} {b : B} → Wf x0 → R a b → R (expr_out ◌▹◌ x0 a) (expr_out ◌▸◌ x0 b)
    expr_fine (Seq e es last) g h = expr_fine e g.1 (links_fine es (sign_seq e es last g.2) (optional_fine key.Semicolon last h))
    expr_fine (Let at rec b bs e) g h =
        kept (said (placed key.Let at)) tt (optional_fine key.Rec rec (kept bindings_begin tt (binding_fine b g.0 (bindings_fine bs g.1 (kept
        group_ends tt (kept (said (fixed key.In)) tt (expr_fine e g.2 h)))))))
    expr_fine (LetOpen at at' bang path e) g h =
        kept (said (placed key.Let at)) tt (kept (said (placed key.Open at')) tt (bang_fine bang (kept (module_path path) tt (kept (said (fixed
        key.In)) tt (expr_fine e g.2 h)))))
    expr_fine (LetModule at at' x eq m e) g h =
        kept (said (placed key.Let at)) tt (kept (said (placed key.Module at')) tt (kept (said (word class.Upper x)) tt (kept (said (placed
        key.Equals eq)) tt (local_fine m (kept (said (fixed key.In)) tt (kept scope_begins tt (kept (brings (UpperName x)) tt (expr_fine e
        g.1 (kept scope_ends tt h)))))))))
    expr_fine (Fun at ps e) g h = kept (said (placed key.Fun at)) tt (params_fine ps g.1 (kept (said (fixed key.Arrow)) tt (expr_fine e g.2 h)))
    expr_fine (Function at bar c cs) g h =
        kept (said (placed key.Function at)) tt (optional_fine key.Bar bar (case_fine c g.0 (cases_fine c cs g.1 h)))
    expr_fine (Match at e bar c cs) g h =
        kept (said (placed key.Match at)) tt (expr_fine e g.0 (kept (said (fixed key.With)) tt (optional_fine key.Bar bar (case_fine c g.1
        (cases_fine c cs g.2 h)))))
    expr_fine (Try at e bar c cs) g h =
        kept (said (placed key.Try at)) tt (expr_fine e g.0 (kept (said (fixed key.With)) tt (optional_fine key.Bar bar (case_fine c g.1
        (cases_fine c cs g.2 h)))))
    expr_fine (If at c a tail) g h =
        kept (said (placed key.If at)) tt (expr_fine c g.0 (kept (said (fixed key.Then)) tt (expr_fine a g.2 (tail_fine a tail g.3 h))))
    expr_fine (Chain n e es) g h = expr_fine e g.4 (links_fine es (sign_chain n e es g.0 g.5) h)
    expr_fine (Minus x e) g h = kept (minus x) tt (expr_fine e g.2 h)
    expr_fine (Apply f es) g h = expr_fine f g.2 (arguments_fine es g.4 h)
    expr_fine (ConstrApply path e) g h = kept (last_path path) tt (expr_fine e g.2 h)
    expr_fine (TagApply x e) g h = kept (said (word class.Tag x)) tt (expr_fine e g.1 h)
    expr_fine (Assert at e) g h = kept (said (placed key.Assert at)) tt (expr_fine e g.1 h)
    expr_fine (Lazy at e) g h = kept (said (placed key.Lazy at)) tt (expr_fine e g.1 h)
    expr_fine (Postfix e ps) g h = expr_fine e g.2 (parts_fine ps g.4 h)
    expr_fine (Prefixed x e) g h = kept (operator (word class.Prefix x)) refl (expr_fine e g.1 h)
    expr_fine (Literal c x) g h = kept (said (word c x)) tt h
    expr_fine (BoolExpr at b) g h = kept (said (placed (truth b) at)) tt h
    expr_fine (Value path x) g h = kept (qualifier path) tt (kept (value false x) g h)
    expr_fine (Constr path) g h = kept (last_path path) tt h
    expr_fine (Tag x) g h = kept (said (word class.Tag x)) tt h
    expr_fine (UnitExpr at) g h = kept (said (placed key.LeftParen at)) tt (kept (said (fixed key.RightParen)) tt h)
    expr_fine (Paren at e) g h = kept (said (placed key.LeftParen at)) tt (expr_fine e g (kept (said (fixed key.RightParen)) tt h))
    expr_fine (Typed at e run) g h =
        kept (said (placed key.LeftParen at)) tt (expr_fine e g.0 (kept (said (fixed key.Colon)) tt (kept (run_of run) tt (kept (said (fixed
        key.RightParen)) tt h))))
    expr_fine (Coerced at e from to) g h =
        kept (said (placed key.LeftParen at)) tt (expr_fine e g.0 (type_fine from (kept (said (fixed key.ColonGreater)) tt (kept (run_of to) tt
        (kept (said (fixed key.RightParen)) tt h)))))
    expr_fine (EmptyBegin at) g h = kept (said (placed key.Begin at)) tt (kept (said (fixed key.End)) tt h)
    expr_fine (Begin at e) g h = kept (said (placed key.Begin at)) tt (expr_fine e g (kept (said (fixed key.End)) tt h))
    expr_fine (EmptyList at b) g h = kept (said (placed (opening b) at)) tt (kept (said (fixed (closing b))) tt h)
    expr_fine (ListExpr at b e es last) g h =
        kept (said (placed (opening b) at)) tt (expr_fine e g.1 (links_fine es (sign_seq e es last g.2) (optional_fine key.Semicolon last (kept
        (said (fixed (closing b))) tt h))))
    expr_fine (Record at base f fs last) g h =
        kept (said (placed key.LeftBrace at)) tt (base_fine base g.0 (field_fine f g.1 (fields_fine f last fs g.2 (optional_fine key.Semicolon
        last (kept (said (fixed key.RightBrace)) tt h)))))
    expr_fine (Opened path e) g h = kept (module_path path) tt (kept (said (fixed key.Dot)) tt (expr_fine e g.2 h))
    expr_fine (While at c e) g h =
        kept (said (placed key.While at)) tt (expr_fine c g.0 (kept (said (fixed key.Do)) tt (expr_fine e g.1 (kept (said (fixed key.Done)) tt
        h))))
    expr_fine (For at x eq a down b e) g h =
        kept (said (placed key.For at)) tt (kept group_begins tt (variable_fine x (kept (said (placed key.Equals eq)) tt (expr_fine a g.0 (kept
        (said (fixed (direction down))) tt (expr_fine b g.1 (kept group_ends tt (kept (said (fixed key.Do)) tt (expr_fine e g.2 (kept (said
        (fixed key.Done)) tt h))))))))))

    pub links_fine : (x0 : Links) {a : A} {b : B} → AreSigns x0 → R a b → R (links_out ◌▹◌ x0 a) (links_out ◌▸◌ x0 b)
    links_fine no_link g h = h
    links_fine (more_link t e es) g h = kept (operator t) g.0 (expr_fine e g.1 (links_fine es g.2 h))

    pub base_fine : (x0 : MaybeExpr) {a : A} {b : B} → WfBase x0 → R a b → R (base_out ◌▹◌ x0 a) (base_out ◌▸◌ x0 b)
    base_fine no_expr g h = h
    base_fine (some_expr e) g h = expr_fine e g.1 (kept (said (fixed key.With)) tt h)

    pub guard_fine : (x0 : MaybeExpr) {a : A} {b : B} → WfGuard x0 → R a b → R (guard_out ◌▹◌ x0 a) (guard_out ◌▸◌ x0 b)
    guard_fine no_expr g h = h
    guard_fine (some_expr e) g h = kept (said (fixed key.When)) tt (expr_fine e g h)

    pub tail_fine : (y0 : Expr) (x0 : Tail) {a : A} {b : B} → WfTail y0 x0 → R a b → R (tail_out ◌▹◌ x0 a) (tail_out ◌▸◌ x0 b)
    tail_fine a no_else g h = h
    tail_fine a (or_else e) g h = kept (said (fixed key.Else)) tt (expr_fine e g.3 h)
    tail_fine _ (or_if at c a tail) g h =
        kept (said (fixed key.Else)) tt (kept (said (placed key.If at)) tt (expr_fine c g.1 (kept (said (fixed key.Then)) tt (expr_fine a g.3
        (tail_fine a tail g.4 h)))))

    pub binding_fine : (x0 : Binding) {a : A} {b : B} → WfBinding x0 → R a b → R (binding_out ◌▹◌ x0 a) (binding_out ◌▸◌ x0 b)
    binding_fine (PlainBinding p run at e) g h = pat_fine p g.0 (type_fine run (kept (said (placed key.Equals at)) tt (expr_fine e g.2 h)))
    binding_fine (AppliedBinding x ps run at e) g h =
        kept (value true x) g.0 (params_fine ps g.2 (type_fine run (kept (said (placed key.Equals at)) tt (expr_fine e g.4 h))))

    pub bindings_fine : (x0 : Bindings) {a : A} {b : B} → WfBindings x0 → R a b → R (bindings_out ◌▹◌ x0 a) (bindings_out ◌▸◌ x0 b)
    bindings_fine no_binding g h = h
    bindings_fine (more_binding b bs) g h = kept (said (fixed key.And)) tt (binding_fine b g.0 (bindings_fine bs g.1 h))

    pub case_fine : (x0 : Case) {a : A} {b : B} → WfCase x0 → R a b → R (case_out ◌▹◌ x0 a) (case_out ◌▸◌ x0 b)
    case_fine (CaseOf p guard e) g h =
        kept group_begins tt (pat_fine p g.0 (kept group_ends tt (guard_fine guard g.1 (kept (said (fixed key.Arrow)) tt (expr_fine e g.2 h)))))

    pub cases_fine : (y0 : Case) (x0 : Cases) {a : A} {b : B} → WfCases y0 x0 → R a b → R (cases_out ◌▹◌ x0 a) (cases_out ◌▸◌ x0 b)
    cases_fine c no_case g h = h
    cases_fine _ (more_case c cs) g h = kept (said (fixed key.Bar)) tt (case_fine c g.1 (cases_fine c cs g.2 h))

    pub argument_fine : (x0 : Argument) {a : A} {b : B} → WfArgument x0 → R a b → R (argument_out ◌▹◌ x0 a) (argument_out ◌▸◌ x0 b)
    argument_fine (Positional e) g h = expr_fine e g.1 h
    argument_fine (LabelPun x) g h = kept (label false x) g h
    argument_fine (Labelled x e) g h = kept (said (word class.Label x)) tt (expr_fine e g.2 h)

    pub arguments_fine : (x0 : Arguments) {a : A} {b : B} → WfArguments x0 → R a b → R (arguments_out ◌▹◌ x0 a) (arguments_out ◌▸◌ x0 b)
    arguments_fine no_argument g h = h
    arguments_fine (more_argument a es) g h = argument_fine a g.0 (arguments_fine es g.1 h)

    pub param_fine : (x0 : Param) {a : A} {b : B} → WfParam x0 → R a b → R (param_out ◌▹◌ x0 a) (param_out ◌▸◌ x0 b)
    param_fine (PatternParam p) g h = kept group_begins tt (pat_fine p g.1 (kept group_ends tt h))
    param_fine (LabelParam x) g h = kept group_begins tt (kept (label true x) g (kept group_ends tt h))
    param_fine (LabelPattern x p) g h = kept (said (word class.Label x)) tt (kept group_begins tt (pat_fine p g.2 (kept group_ends tt h)))
    param_fine (DefaultParam x at p run eq e) g h =
        kept (said (word class.Label x)) tt (kept (said (placed key.LeftParen at)) tt (kept group_begins tt (pat_fine p g.2 (type_fine run (kept
        (said (placed key.Equals eq)) tt (expr_fine e g.5 (kept group_ends tt (kept (said (fixed key.RightParen)) tt h))))))))
    param_fine (WrappedParam at optional at' x run) g h =
        kept (said (placed (wrap optional) at)) tt (kept (said (placed key.LeftParen at')) tt (kept group_begins tt (kept (field true x) tt
        (kept group_ends tt (type_fine run (kept (said (fixed key.RightParen)) tt h))))))
    param_fine (WrappedDefault at at' x run eq e) g h =
        kept (said (placed key.Question at)) tt (kept (said (placed key.LeftParen at')) tt (kept group_begins tt (kept (field true x) tt
        (type_fine run (kept (said (placed key.Equals eq)) tt (expr_fine e g.2 (kept group_ends tt (kept (said (fixed key.RightParen)) tt
        h))))))))
    param_fine (TypesParam at xs) g h =
        kept (said (placed key.LeftParen at)) tt (kept (said (fixed key.Type)) tt (lowers_fine xs (kept (said (fixed key.RightParen)) tt h)))

    pub params_fine : (x0 : Params) {a : A} {b : B} → WfParams x0 → R a b → R (params_out ◌▹◌ x0 a) (params_out ◌▸◌ x0 b)
    params_fine no_param g h = h
    params_fine (more_param p ps) g h = param_fine p g.0 (params_fine ps g.1 h)

    pub part_fine : (x0 : Part) {a : A} {b : B} → WfPart x0 → R a b → R (part_out ◌▹◌ x0 a) (part_out ◌▸◌ x0 b)
    part_fine (LabelPart path x) g h = kept (said (fixed key.Dot)) tt (kept (qualifier path) tt (kept (said (word class.Lower x)) tt h))
    part_fine (IndexPart at e) g h =
        kept (said (fixed key.Dot)) tt (kept (said (placed key.LeftParen at)) tt (expr_fine e g (kept (said (fixed key.RightParen)) tt h)))
    part_fine (CharPart at e) g h =
        kept (said (fixed key.Dot)) tt (kept (said (placed key.LeftBracket at)) tt (expr_fine e g (kept (said (fixed key.RightBracket)) tt h)))

    pub parts_fine : (x0 : Parts) {a : A} {b : B} → WfParts x0 → R a b → R (parts_out ◌▹◌ x0 a) (parts_out ◌▸◌ x0 b)
    parts_fine no_part g h = h
    parts_fine (more_part p ps) g h = part_fine p g.0 (parts_fine ps g.1 h)

    pub field_fine : (x0 : Field) {a : A} {b : B} → WfField x0 → R a b → R (field_out ◌▹◌ x0 a) (field_out ◌▸◌ x0 b)
    field_fine (FieldPun path x run) g h = kept (qualifier path) tt (kept (field false x) tt (type_fine run h))
    field_fine (AssignedField path x run at e) g h =
        kept (qualifier path) tt (kept (said (word class.Lower x)) tt (type_fine run (kept (said (placed key.Equals at)) tt (expr_fine e g.2
        h))))

    pub fields_fine : (y0 : Field) (y1 : Bool) (x0 : Fields) {a : A} {b : B}
        → WfFields y0 x0 y1 → R a b → R (fields_out ◌▹◌ x0 a) (fields_out ◌▸◌ x0 b)
    fields_fine f last no_field g h = h
    fields_fine _ last (more_field f fs) g h = kept (said (fixed key.Semicolon)) tt (field_fine f g.1 (fields_fine f last fs g.2 h))

  pub module_name_fine : (x0 : ModuleName) {a : A} {b : B} → R a b → R (module_name_out ◌▹◌ x0 a) (module_name_out ◌▸◌ x0 b)
  module_name_fine (UpperName x) h = kept (said (word class.Upper x)) tt h
  module_name_fine (AnyName at) h = kept (said (placed key.Underscore at)) tt h

  pub constraint_fine : (x0 : Constraint) {a : A} {b : B} → R a b → R (constraint_out ◌▹◌ x0 a) (constraint_out ◌▸◌ x0 b)
  constraint_fine (ConstraintOf a t private b) h =
      kept (said (fixed key.Type)) tt (kept (run_of a) tt (kept (said t) tt (optional_fine key.Private private (kept (run_of b) tt h))))

  pub constraints_fine : (x0 : List Constraint) {a : A} {b : B} → R a b → R (constraints_out ◌▹◌ x0 a) (constraints_out ◌▸◌ x0 b)
  constraints_fine [] h = h
  constraints_fine (c ∷ cs) h = kept (said (fixed key.And)) tt (constraint_fine c (constraints_fine cs h))

  pub withs_fine : (x0 : List WithClause) {a : A} {b : B} → R a b → R (withs_out ◌▹◌ x0 a) (withs_out ◌▸◌ x0 b)
  withs_fine [] h = h
  withs_fine (WithOf c cs ∷ ws) h = kept (said (fixed key.With)) tt (constraint_fine c (constraints_fine cs (withs_fine ws h)))

  pub texts_fine : (x0 : List Name) {a : A} {b : B} → R a b → R (texts_out ◌▹◌ x0 a) (texts_out ◌▸◌ x0 b)
  texts_fine [] h = h
  texts_fine (x ∷ xs) h = kept (said (word class.Text x)) tt (texts_fine xs h)

  pub external_fine : (x0 : ValueName) (x1 : List Tok) (x2 : ℕ) (x3 : List Name) {a : A} {b : B}
      → WfExternal x0 x1 x3 → R a b → R (external_out ◌▹◌ x0 x1 x2 x3 a) (external_out ◌▸◌ x0 x1 x2 x3 b)
  external_fine x run at texts g h =
      kept (said (fixed key.External)) tt (kept (value true x) g.0 (kept (said (fixed key.Colon)) tt (kept (run_of run) tt (kept (said (placed
      key.Equals at)) tt (texts_fine texts h)))))

  pub open_item_fine : (x0 : ℕ) (x1 : Option Name) (x2 : List Name) {a : A} {b : B}
      → R a b → R (open_item_out ◌▹◌ x0 x1 x2 a) (open_item_out ◌▸◌ x0 x1 x2 b)
  open_item_fine at bang path h = kept (said (placed key.Open at)) tt (bang_fine bang (kept (module_path path) tt h))

  mutual
    pub mod_fine : (x0 : ModExpr) {a : A} {b : B} → WfMod x0 → R a b → R (mod_out ◌▹◌ x0 a) (mod_out ◌▸◌ x0 b)
    mod_fine (ModPath path) g h = kept (module_path path) tt h
    mod_fine (Struct at is) g h =
        kept (said (placed key.Struct at)) tt (kept scope_begins tt (items_fine true is g (kept scope_ends tt (kept (said (fixed key.End)) tt
        h))))
    mod_fine (Functor at ps m) g h =
        kept (said (placed key.Functor at)) tt (kept scope_begins tt (functor_params_fine ps g.1 (kept (said (fixed key.Arrow)) tt (mod_fine m
        g.2 (kept scope_ends tt h)))))
    mod_fine (ModApply m ms) g h = mod_fine m g.1 (mod_arguments_fine ms g.3 h)
    mod_fine (ModParen at m) g h = kept (said (placed key.LeftParen at)) tt (mod_fine m g (kept (said (fixed key.RightParen)) tt h))
    mod_fine (Sealed at m s) g h =
        kept (said (placed key.LeftParen at)) tt (mod_fine m g.0 (kept (said (fixed key.Colon)) tt (mod_type_fine s g.1 (kept (said (fixed
        key.RightParen)) tt h))))

    pub mod_argument_fine : (x0 : ModArgument) {a : A} {b : B}
        → WfModArgument x0 → R a b → R (mod_argument_out ◌▹◌ x0 a) (mod_argument_out ◌▸◌ x0 b)
    mod_argument_fine (ModuleArgument at m) g h =
        kept (said (placed key.LeftParen at)) tt (mod_fine m g (kept (said (fixed key.RightParen)) tt h))
    mod_argument_fine (SealedArgument at m s) g h =
        kept (said (placed key.LeftParen at)) tt (mod_fine m g.0 (kept (said (fixed key.Colon)) tt (mod_type_fine s g.1 (kept (said (fixed
        key.RightParen)) tt h))))
    mod_argument_fine (NoArgument at) g h = kept (said (placed key.LeftParen at)) tt (kept (said (fixed key.RightParen)) tt h)

    pub mod_arguments_fine : (x0 : ModArguments) {a : A} {b : B}
        → WfModArguments x0 → R a b → R (mod_arguments_out ◌▹◌ x0 a) (mod_arguments_out ◌▸◌ x0 b)
    mod_arguments_fine no_mod_argument g h = h
    mod_arguments_fine (more_mod_argument m ms) g h = mod_argument_fine m g.0 (mod_arguments_fine ms g.1 h)

    pub functor_param_fine : (x0 : FunctorParam) {a : A} {b : B}
        → WfFunctorParam x0 → R a b → R (functor_param_out ◌▹◌ x0 a) (functor_param_out ◌▸◌ x0 b)
    functor_param_fine (NamedParam at x s) g h =
        kept (said (placed key.LeftParen at)) tt (module_name_fine x (kept (said (fixed key.Colon)) tt (mod_type_fine s g (kept (brings x) tt
        (kept (said (fixed key.RightParen)) tt h)))))
    functor_param_fine (NoParam at) g h = kept (said (placed key.LeftParen at)) tt (kept (said (fixed key.RightParen)) tt h)

    pub functor_params_fine : (x0 : FunctorParams) {a : A} {b : B}
        → WfFunctorParams x0 → R a b → R (functor_params_out ◌▹◌ x0 a) (functor_params_out ◌▸◌ x0 b)
    functor_params_fine no_functor_param g h = h
    functor_params_fine (more_functor_param p ps) g h = functor_param_fine p g.0 (functor_params_fine ps g.1 h)

    pub mod_type_fine : (x0 : ModType) {a : A} {b : B} → WfModType x0 → R a b → R (mod_type_out ◌▹◌ x0 a) (mod_type_out ◌▸◌ x0 b)
    mod_type_fine (TypePath path) g h = kept (last_path path) tt h
    mod_type_fine (Sig at is) g h =
        kept (said (placed key.Sig at)) tt (kept scope_begins tt (sig_items_fine is g (kept scope_ends tt (kept (said (fixed key.End)) tt h))))
    mod_type_fine (TypeOf at m) g h =
        kept (said (placed key.Module at)) tt (kept (said (fixed key.Type)) tt (kept (said (fixed key.Of)) tt (mod_fine m g.1 h)))
    mod_type_fine (TypeParen at s) g h = kept (said (placed key.LeftParen at)) tt (mod_type_fine s g (kept (said (fixed key.RightParen)) tt h))
    mod_type_fine (With s ws) g h = mod_type_fine s g.1 (withs_fine ws h)
    mod_type_fine (FunctorType at ps s) g h =
        kept (said (placed key.Functor at)) tt (kept scope_begins tt (functor_params_fine ps g.1 (kept (said (fixed key.Arrow)) tt
        (mod_type_fine s g.2 (kept scope_ends tt h)))))
    mod_type_fine (ParamArrow p s) g h =
        kept scope_begins tt (functor_param_fine p g.0 (kept (said (fixed key.Arrow)) tt (mod_type_fine s g.1 (kept scope_ends tt h))))
    mod_type_fine (Arrow s s') g h = mod_type_fine s g.1 (kept (said (fixed key.Arrow)) tt (mod_type_fine s' g.2 h))

    pub signature_fine : (x0 : MaybeType) {a : A} {b : B} → WfSignature x0 → R a b → R (signature_out ◌▹◌ x0 a) (signature_out ◌▸◌ x0 b)
    signature_fine no_type g h = h
    signature_fine (some_type s) g h = kept (said (fixed key.Colon)) tt (mod_type_fine s g h)

    pub item_fine : (y0 : Bool) (x0 : Item) {a : A} {b : B} → WfItem y0 x0 → R a b → R (item_out ◌▹◌ x0 a) (item_out ◌▸◌ x0 b)
    item_fine fresh (ExprItem e) g h = expr_fine e g.1 h
    item_fine fresh SeparatorItem g h = kept (said (fixed key.DoubleSemicolon)) tt h
    item_fine fresh (ValueItem at rec b bs) g h =
        kept (said (placed key.Let at)) tt (optional_fine key.Rec rec (kept bindings_begin tt (binding_fine b g.0 (bindings_fine bs g.1 (kept
        group_ends tt h)))))
    item_fine fresh (ExternalItem x run at texts) g h = external_fine x run at texts g h
    item_fine fresh (TypeItem run) g h = kept (said (fixed key.Type)) tt (kept (run_of run) tt h)
    item_fine fresh (ExceptionItem at run) g h = kept (said (placed key.Exception at)) tt (kept (run_of run) tt h)
    item_fine fresh (ModuleItem at x ps s eq m) g h =
        kept (said (placed key.Module at)) tt (module_name_fine x (kept scope_begins tt (functor_params_fine ps g.0 (signature_fine s g.1 (kept
        (said (placed key.Equals eq)) tt (mod_fine m g.2 (kept scope_ends tt (kept (brings x) tt h))))))))
    item_fine fresh (ModuleTypeItem at x eq s) g h =
        kept (said (placed key.Module at)) tt (kept (said (fixed key.Type)) tt (kept (said (word class.Upper x)) tt (kept (said (placed
        key.Equals eq)) tt (mod_type_fine s g h))))
    item_fine fresh (OpenItem at bang path) g h = open_item_fine at bang path h
    item_fine fresh (IncludeItem at m) g h = kept (said (placed key.Include at)) tt (mod_fine m g h)

    pub items_fine : (y0 : Bool) (x0 : Items) {a : A} {b : B} → WfItems y0 x0 → R a b → R (items_out ◌▹◌ x0 a) (items_out ◌▸◌ x0 b)
    items_fine fresh no_item g h = h
    items_fine fresh (more_item i is) g h = item_fine fresh i g.0 (items_fine (is_separator i) is g.1 h)

    pub sig_item_fine : (x0 : SigItem) {a : A} {b : B} → WfSigItem x0 → R a b → R (sig_item_out ◌▹◌ x0 a) (sig_item_out ◌▸◌ x0 b)
    sig_item_fine SeparatorSig g h = kept (said (fixed key.DoubleSemicolon)) tt h
    sig_item_fine (ValSig x run) g h =
        kept (said (fixed key.Val)) tt (kept (value true x) g.0 (kept (said (fixed key.Colon)) tt (kept (run_of run) tt h)))
    sig_item_fine (ExternalSig x run at texts) g h = external_fine x run at texts g h
    sig_item_fine (TypeSig run) g h = kept (said (fixed key.Type)) tt (kept (run_of run) tt h)
    sig_item_fine (ExceptionSig at run) g h = kept (said (placed key.Exception at)) tt (kept (run_of run) tt h)
    sig_item_fine (ModuleSig at x ps s) g h =
        kept (said (placed key.Module at)) tt (module_name_fine x (kept scope_begins tt (functor_params_fine ps g.0 (kept (said (fixed
        key.Colon)) tt (mod_type_fine s g.1 (kept scope_ends tt (kept (brings x) tt h)))))))
    sig_item_fine (AliasSig at x eq path) g h =
        kept (said (placed key.Module at)) tt (kept (said (word class.Upper x)) tt (kept (said (placed key.Equals eq)) tt (kept (module_path
        path) tt (kept (brings (UpperName x)) tt h))))
    sig_item_fine (ModuleTypeSig at x eq s) g h =
        kept (said (placed key.Module at)) tt (kept (said (fixed key.Type)) tt (kept (said (word class.Upper x)) tt (kept (said (placed
        key.Equals eq)) tt (mod_type_fine s g h))))
    sig_item_fine (OpenSig at bang path) g h = open_item_fine at bang path h
    sig_item_fine (IncludeSig at s) g h = kept (said (placed key.Include at)) tt (mod_type_fine s g h)

    pub sig_items_fine : (x0 : SigItems) {a : A} {b : B} → WfSigItems x0 → R a b → R (sig_items_out ◌▹◌ x0 a) (sig_items_out ◌▸◌ x0 b)
    sig_items_fine no_sig_item g h = h
    sig_items_fine (more_sig_item i is) g h = sig_item_fine i g.0 (sig_items_fine is g.1 h)

  pub file_fine : (x0 : FileTree) {a : A} {b : B} → WfFile x0 → R a b → R (file_out ◌▹◌ x0 a) (file_out ◌▸◌ x0 b)
  file_fine (Body file is) g h = items_fine true is g h
  file_fine (Face file is) g h = sig_items_fine is g h
