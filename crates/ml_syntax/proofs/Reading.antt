-- Reading the words of a well-formed tree one by one finds its places.
use Rattle.std.proofs.Common.{◌≡◌, ℕ, ◌<◌, ◌≤◌, List, [], ◌∷◌, ◌++◌, Bool, true, false, not, Option, Some, None, refl, ap, subst, arith, sym}
use Rattle.rotor_base.specs.declared.token.Class.TheVariants as class
use Rattle.ml_trees.specs.declared.fixed.Fixed.{Fixed}
use Rattle.ml_trees.specs.declared.fixed.Fixed.TheVariants as key
use Rattle.ml_trees.specs.declared.word.Bracket.{Bracket}
use Rattle.ml_trees.specs.declared.word.Bracket.TheVariants as bracket
use Rattle.ml_syntax.proofs.Steps.{Read, is_brace, pass, loose, name, first, label, equals, sign, minus}
use Rattle.ml_trees.specs.Tok.{Name, Tok, fixed, placed, word}
use Rattle.ml_trees.specs.Tree.{ValueName, PlainName, OperatorName, Pat, AsPat, OrPat, TuplePat, ConsPat, ConstrApplyPat, TagApplyPat, LazyPat}
use Rattle.ml_trees.specs.Tree.{ExceptionPat, AnyPat, ValuePat, LiteralPat, NegativePat, RangePat, ConstrPat, TagPat, BoolPat, UnitPat, ParenPat}
use Rattle.ml_trees.specs.Tree.{TypedPat, EmptyPat, ListPat, RecordPat, OpenedPat, Pats, no_pat, more_pat, PatField, PunnedField, MatchedField}
use Rattle.ml_trees.specs.Tree.{PatFields, no_pat_field, more_pat_field, Variable, PlainVariable, AnyVariable, LocalModule, LocalPath}
use Rattle.ml_trees.specs.Tree.{LocalArguments, no_local, more_local, no_module, Expr, Seq, Let, LetOpen, LetModule, Fun, Function, Match, Try, If}
use Rattle.ml_trees.specs.Tree.{Chain, Minus, Apply, ConstrApply, TagApply, Assert, Lazy, Postfix, Prefixed, Literal, BoolExpr, Value, Constr, Tag}
use Rattle.ml_trees.specs.Tree.{UnitExpr, Paren, Typed, Coerced, EmptyBegin, Begin, EmptyList, ListExpr, Record, Opened, While, For, Links, no_link}
use Rattle.ml_trees.specs.Tree.{more_link, MaybeExpr, no_expr, some_expr, Tail, no_else, or_else, or_if, Binding, PlainBinding, AppliedBinding}
use Rattle.ml_trees.specs.Tree.{Bindings, no_binding, more_binding, Case, CaseOf, Cases, no_case, more_case, Argument, Positional, LabelPun}
use Rattle.ml_trees.specs.Tree.{Labelled, Arguments, no_argument, more_argument, Param, PatternParam, LabelParam, LabelPattern, DefaultParam}
use Rattle.ml_trees.specs.Tree.{WrappedParam, WrappedDefault, TypesParam, Params, no_param, more_param, Part, LabelPart, IndexPart, CharPart, Parts}
use Rattle.ml_trees.specs.Tree.{no_part, more_part, Field, FieldPun, AssignedField, Fields, no_field, more_field, ModuleName, UpperName, AnyName}
use Rattle.ml_trees.specs.Tree.{Constraint, ConstraintOf, WithClause, WithOf, ModExpr, ModPath, Struct, Functor, ModApply, ModParen, Sealed}
use Rattle.ml_trees.specs.Tree.{ModArgument, ModuleArgument, SealedArgument, NoArgument, ModArguments, no_mod_argument, more_mod_argument}
use Rattle.ml_trees.specs.Tree.{FunctorParam, NamedParam, NoParam, FunctorParams, no_functor_param, more_functor_param, ModType, TypePath, Sig}
use Rattle.ml_trees.specs.Tree.{TypeOf, TypeParen, With, FunctorType, ParamArrow, Arrow, MaybeType, no_type, some_type, Item, ExprItem}
use Rattle.ml_trees.specs.Tree.{SeparatorItem, ValueItem, ExternalItem, TypeItem, ExceptionItem, ModuleItem, ModuleTypeItem, OpenItem, IncludeItem}
use Rattle.ml_trees.specs.Tree.{Items, no_item, more_item, SigItem, SeparatorSig, ValSig, ExternalSig, TypeSig, ExceptionSig, ModuleSig, AliasSig}
use Rattle.ml_trees.specs.Tree.{ModuleTypeSig, OpenSig, IncludeSig, SigItems, no_sig_item, more_sig_item, FileTree, Body, Face}
use Rattle.ml_trees.proofs.Words.{dotted_then, path_then, qualified_then, name_then, names_then, type_then, optional_then, bang_then, truth, opening}
use Rattle.ml_trees.proofs.Words.{closing, open_then, pat_then, pats_then, pat_field_then, pat_fields_then, variable_then, local_then, locals_then}
use Rattle.ml_trees.proofs.Words.{lowers_then, wrap, direction, expr_then, links_then, base_then, guard_then, tail_then, binding_then, bindings_then}
use Rattle.ml_trees.proofs.Words.{case_then, cases_then, argument_then, arguments_then, param_then, params_then, part_then, parts_then, field_then}
use Rattle.ml_trees.proofs.Words.{fields_then, module_name_then, constraint_then, constraints_then, withs_then, texts_then, mod_then}
use Rattle.ml_trees.proofs.Words.{mod_argument_then, mod_arguments_then, functor_param_then, functor_params_then, mod_type_then, signature_then}
use Rattle.ml_trees.proofs.Words.{item_then, items_then, sig_item_then, sig_items_then, words}
use Rattle.ml_trees.specs.WellFormed.{level, op_level, Wf, WfSeq, WfChain, WfBase, WfGuard, WfTail, WfBinding, WfBindings, WfCase, WfCases}
use Rattle.ml_trees.specs.WellFormed.{WfArgument, WfArguments, WfParam, WfParams, WfPart, WfParts, WfField, WfFields, is_separator, WfMod}
use Rattle.ml_trees.specs.WellFormed.{WfModArgument, WfModArguments, WfFunctorParam, WfFunctorParams, WfModType, WfSignature, WfItem, WfItems}
use Rattle.ml_trees.specs.WellFormed.{WfSigItem, WfSigItems, WfFile}
use Rattle.value_sites.specs.Places.{Site, plain, punned, operator_sites, name_sites}
use Rattle.value_sites.proofs.SitesByForm.{names_sites, pat_sites, pats_sites, pat_field_sites}
use Rattle.value_sites.specs.Places.{variable_sites}
use Rattle.value_sites.proofs.SitesByForm.{pat_fields_sites, expr_sites, links_sites, maybe_sites, tail_sites, binding_sites, bindings_sites}
use Rattle.value_sites.proofs.SitesByForm.{case_sites, cases_sites, argument_sites, arguments_sites, param_sites, params_sites, part_sites}
use Rattle.value_sites.proofs.SitesByForm.{parts_sites}
use Rattle.value_sites.proofs.SitesByForm.{field_sites, fields_sites, mod_sites, mod_argument_sites, mod_arguments_sites, functor_param_sites}
use Rattle.value_sites.proofs.SitesByForm.{functor_params_sites, mod_type_sites, signature_sites, item_sites, items_sites, sig_item_sites}
use Rattle.value_sites.proofs.SitesByForm.{sig_items_sites}
use Rattle.value_sites.specs.Places.{sites}
use Rattle.ml_syntax.specs.Standing.{begins_bar, is_safe}
use Rattle.value_sites.proofs.Placed.{body_placed, face_placed}

pub type_safe : (run : Option (List Tok)) (k : List Tok) → is_safe k ≡ true → is_safe (type_then run k) ≡ true
type_safe None k u = u
type_safe (Some run) k u = refl

pub optional_safe : (x : Fixed) (last : Bool) (k : List Tok) → begins_bar (fixed x) ≡ false → is_safe k ≡ true
    → is_safe (optional_then x last k) ≡ true
optional_safe x true k e u = ap not e
optional_safe x false k e u = u

pub open_safe : (rest : Option ℕ) (k : List Tok) → is_safe k ≡ true → is_safe (open_then rest k) ≡ true
open_safe None k u = u
open_safe (Some at) k u = refl

pub pat_fields_safe : (fs : PatFields) (k : List Tok) → is_safe k ≡ true → is_safe (pat_fields_then fs k) ≡ true
pat_fields_safe no_pat_field k u = u
pat_fields_safe (more_pat_field f fs) k u = refl

pub fields_safe : (fs : Fields) (k : List Tok) → is_safe k ≡ true → is_safe (fields_then fs k) ≡ true
fields_safe no_field k u = u
fields_safe (more_field f fs) k u = refl

pub part_safe : (p : Part) (k : List Tok) → is_safe (part_then p k) ≡ true
part_safe (LabelPart path x) k = refl
part_safe (IndexPart at e) k = refl
part_safe (CharPart at e) k = refl

truth_no : (b : Bool) (at : ℕ) → is_brace (placed (truth b) at) ≡ false
truth_no true at = refl
truth_no false at = refl

opening_no : (b : Bracket) (at : ℕ) → is_brace (placed (opening b) at) ≡ false
opening_no bracket.List at = refl
opening_no bracket.Array at = refl

wrap_no : (b : Bool) (at : ℕ) → is_brace (placed (wrap b) at) ≡ false
wrap_no true at = refl
wrap_no false at = refl

-- the words between the operands are no braces
abbrev Plain : Links → Type 0
Plain no_link = Unit {0}
Plain (more_link t e es) = (is_brace t ≡ false) × Wf e × Plain es

operator_calm : (t : Tok) (n : ℕ) → 3 ≤ n → op_level t ≡ n → is_brace t ≡ false
operator_calm (placed key.LeftBrace at) n low e = absurd (omega (arith, low, e))
operator_calm _ n low e = refl

plain_seq : (e : Expr) (es : Links) (last : Bool) → WfSeq e es last → Plain es
plain_seq e no_link last h = tt
plain_seq e (more_link t e' es) last h = (ap is_brace h.1, h.3, plain_seq e' es last h.4)

plain_chain : (n : ℕ) (e : Expr) (es : Links) → 3 ≤ n → WfChain n e es → Plain es
plain_chain n e no_link low h = tt
plain_chain n e (more_link t e' es) low h = (operator_calm t n low h.2, h.4, plain_chain n e' es low h.5)

to_true : (b : Bool) {ts : List Tok} {found : List Site} {k : List Tok} → Read ts b found k → Read ts true found k
to_true true r = r
to_true false r = loose r

weak : (b : Bool) {ts : List Tok} {found : List Site} {k : List Tok} → Read ts false found k → Read ts b found k
weak true r = loose r
weak false r = r

calm : {b : Bool} {ts : List Tok} {found : List Site} {k : List Tok} (t : Tok) → is_brace t ≡ false → Read ts b found (t ∷ k) → Read ts false found k
calm {ts = ts} {found = found} {k = k} t e r = subst (λ v. Read ts v found k) e (pass t r)

run_read : (b : Bool) (run : List Tok) {ts : List Tok} {found : List Site} {k : List Tok} → Read ts b found (run ++ k) → Read ts true found k
run_read b [] r = to_true b r
run_read b (t ∷ ts) r = run_read (is_brace t) ts (pass t r)

type_read : (b : Bool) (run : Option (List Tok)) {ts : List Tok} {found : List Site} {k : List Tok} → Read ts b found (type_then run k)
    → Read ts true found k
type_read b None r = to_true b r
type_read b (Some run) r = run_read false run (pass (fixed key.Colon) r)

optional_read : (b : Bool) (x : Fixed) (last : Bool) {ts : List Tok} {found : List Site} {k : List Tok} → Read ts b found (optional_then x last k)
    → Read ts b found k
optional_read b x true r = weak b (pass (fixed x) r)
optional_read b x false r = r

bang_read : (b : Bool) (bang : Option Name) {ts : List Tok} {found : List Site} {k : List Tok} → Read ts b found (bang_then bang k)
    → Read ts b found k
bang_read b None r = r
bang_read b (Some x) r = weak b (pass (word class.Prefix x) r)

open_read : (b : Bool) (rest : Option ℕ) {ts : List Tok} {found : List Site} {k : List Tok} → Read ts b found (open_then rest k) → Read ts b found k
open_read b None r = r
open_read b (Some at) r = weak b (pass (placed key.Underscore at) (pass (fixed key.Semicolon) r))

dotted_read : (b : Bool) (path : List Name) {ts : List Tok} {found : List Site} {k : List Tok} → Read ts b found (dotted_then path k)
    → Read ts b found k
dotted_read b [] r = r
dotted_read b (x ∷ xs) r = dotted_read b xs (weak b (pass (word class.Upper x) (pass (fixed key.Dot) r)))

path_read : (b : Bool) (path : List Name) {ts : List Tok} {found : List Site} {k : List Tok} → Read ts b found (path_then path k) → Read ts b found k
path_read b [] r = r
path_read b (x ∷ xs) r = dotted_read b xs (weak b (pass (word class.Upper x) r))

qualified_read : (b : Bool) (path : List Name) {ts : List Tok} {found : List Site} {k : List Tok} → Read ts b found (qualified_then path k)
    → Read ts b found k
qualified_read b [] r = r
qualified_read b (x ∷ xs) r = qualified_read b xs (weak b (pass (fixed key.Dot) (pass (word class.Upper x) r)))

texts_read : (xs : List Name) {ts : List Tok} {found : List Site} {k : List Tok} → Read ts false found (texts_then xs k) → Read ts false found k
texts_read [] r = r
texts_read (x ∷ xs) r = texts_read xs (pass (word class.Text x) r)

lowers_read : (xs : List Name) {ts : List Tok} {found : List Site} {k : List Tok} → Read ts false found (lowers_then xs k) → Read ts false found k
lowers_read [] r = r
lowers_read (x ∷ xs) r = lowers_read xs (pass (word class.Lower x) r)

module_name_read : (x : ModuleName) {ts : List Tok} {found : List Site} {k : List Tok} → Read ts false found (module_name_then x k)
    → Read ts false found k
module_name_read (UpperName x) r = pass (word class.Upper x) r
module_name_read (AnyName at) r = pass (placed key.Underscore at) r

constraint_read : (c : Constraint) {ts : List Tok} {found : List Site} {k : List Tok} → Read ts true found (constraint_then c k)
    → Read ts true found k
constraint_read (ConstraintOf a t private b) r =
    run_read true b (optional_read true key.Private private (to_true (is_brace t) (pass t (run_read false a (pass (fixed key.Type) r)))))

constraints_read : (cs : List Constraint) {ts : List Tok} {found : List Site} {k : List Tok} → Read ts true found (constraints_then cs k)
    → Read ts true found k
constraints_read [] r = r
constraints_read (c ∷ cs) r = constraints_read cs (constraint_read c (loose (pass (fixed key.And) r)))

withs_read : (ws : List WithClause) {ts : List Tok} {found : List Site} {k : List Tok} → Read ts true found (withs_then ws k) → Read ts true found k
withs_read [] r = r
withs_read (WithOf c cs ∷ ws) r = withs_read ws (constraints_read cs (constraint_read c (loose (pass (fixed key.With) r))))

calm_operator : {b : Bool} (binds : Bool) (t : Tok) {ts : List Tok} {found : List Site} {k : List Tok} → is_brace t ≡ false → Read ts b found (t ∷ k)
    → Read ts false (operator_sites found binds t) k
calm_operator binds (placed key.Equals at) e r = equals binds at r
calm_operator binds (placed x at) e r = calm (placed x at) e r
calm_operator binds (word c x) e r = sign binds c x r
calm_operator binds (fixed x) e r = pass (fixed x) r

operator_read : {b : Bool} (binds : Bool) (t : Tok) {ts : List Tok} {found : List Site} {k : List Tok} → Read ts b found (t ∷ k)
    → Read ts true (operator_sites found binds t) k
operator_read binds (placed key.Equals at) r = loose (equals binds at r)
operator_read binds (placed x at) r = to_true (is_brace (placed x at)) (pass (placed x at) r)
operator_read binds (word c x) r = loose (sign binds c x r)
operator_read binds (fixed x) r = loose (pass (fixed x) r)

name_read : (binds : Bool) (x : ValueName) {ts : List Tok} {found : List Site} {k : List Tok} → Read ts false found (name_then x k)
    → Read ts false (name_sites found binds x) k
name_read binds (PlainName x) r = name (plain binds x) x (refl, refl, refl) r
name_read binds (OperatorName at t) r = pass (fixed key.RightParen) (operator_read binds t (pass (placed key.LeftParen at) r))

name_first : (binds : Bool) (x : ValueName) {ts : List Tok} {found : List Site} {k : List Tok} → is_safe k ≡ true → Read ts true found (name_then x k)
    → Read ts true (name_sites found binds x) k
name_first binds (PlainName x) u r = loose (first (plain binds x) x (refl, refl, refl) u r)
name_first binds (OperatorName at t) u r = loose (pass (fixed key.RightParen) (operator_read binds t (pass (placed key.LeftParen at) r)))

names_read : (xs : List ValueName) {ts : List Tok} {found : List Site} {k : List Tok} → Read ts false found (names_then xs k)
    → Read ts false (names_sites found xs) k
names_read [] r = r
names_read (x ∷ xs) r = names_read xs (name_read true x (pass (fixed key.As) r))

mutual
  pat_read : (x : Pat) → {ts : List Tok} {found : List Site} {k : List Tok} → Read ts false found (pat_then x k) → Read ts false (pat_sites found x) k
  pat_read (AsPat p xs) r = names_read xs (pat_read p r)
  pat_read (OrPat p ps) r = pats_read key.Bar ps (pat_read p r)
  pat_read (TuplePat p ps) r = pats_read key.Comma ps (pat_read p r)
  pat_read (ConsPat p ps) r = pats_read key.ColonColon ps (pat_read p r)
  pat_read (ConstrApplyPat path p) r = pat_read p (path_read false path r)
  pat_read (TagApplyPat x p) r = pat_read p (pass (word class.Tag x) r)
  pat_read (LazyPat at p) r = pat_read p (pass (placed key.Lazy at) r)
  pat_read (ExceptionPat at p) r = pat_read p (pass (placed key.Exception at) r)
  pat_read (AnyPat at) r = pass (placed key.Underscore at) r
  pat_read (ValuePat x) r = name_read true x r
  pat_read (LiteralPat c x) r = pass (word c x) r
  pat_read (NegativePat x c y) r = pass (word c y) (pass (word class.Infix x) r)
  pat_read (RangePat x y) r = pass (word class.Char y) (pass (fixed key.DotDot) (pass (word class.Char x) r))
  pat_read (ConstrPat path) r = path_read false path r
  pat_read (TagPat x) r = pass (word class.Tag x) r
  pat_read (BoolPat at b) r = calm (placed (truth b) at) (truth_no b at) r
  pat_read (UnitPat at) r = pass (fixed key.RightParen) (pass (placed key.LeftParen at) r)
  pat_read (ParenPat at p) r = pass (fixed key.RightParen) (pat_read p (pass (placed key.LeftParen at) r))
  pat_read (TypedPat at p run) r =
      pass (fixed key.RightParen) (run_read false run (pass (fixed key.Colon) (pat_read p (pass (placed key.LeftParen at) r))))
  pat_read (EmptyPat at b) r = pass (fixed (closing b)) (calm (placed (opening b) at) (opening_no b at) r)
  pat_read (ListPat at b p ps last) r =
      pass (fixed (closing b))
      (optional_read false key.Semicolon last (pats_read key.Semicolon ps (pat_read p (calm (placed (opening b) at) (opening_no b at) r))))
  pat_read (RecordPat at f fs rest last) r =
      pass (fixed key.RightBrace)
      (optional_read true key.Semicolon last
      (open_read true rest (pat_fields_read fs (open_safe rest _ (optional_safe key.Semicolon last _ refl refl))
      (pat_field_read f (pat_fields_safe fs _ (open_safe rest _ (optional_safe key.Semicolon last _ refl refl)))
      (pass (placed key.LeftBrace at) r)))))
  pat_read (OpenedPat path at p) r =
      pass (fixed key.RightParen) (pat_read p (pass (placed key.LeftParen at) (pass (fixed key.Dot) (path_read false path r))))

  pats_read : (s0 : Fixed) (x : Pats) → {ts : List Tok} {found : List Site} {k : List Tok} → Read ts false found (pats_then s0 x k)
      → Read ts false (pats_sites found x) k
  pats_read sep no_pat r = r
  pats_read sep (more_pat p ps) r = pats_read sep ps (pat_read p (pass (fixed sep) r))

  pat_field_read : (x : PatField) → {ts : List Tok} {found : List Site} {k : List Tok} → is_safe k ≡ true → Read ts true found (pat_field_then x k)
      → Read ts true (pat_field_sites found x) k
  pat_field_read (PunnedField path x run) u r =
      type_read false run (first (punned true x.at x.text) x (refl, refl, refl) (type_safe run _ u) (qualified_read true path r))
  pat_field_read (MatchedField path x run at p) u r =
      loose (pat_read p (pass (placed key.Equals at) (type_read false run (pass (word class.Lower x) (qualified_read true path r)))))

  pat_fields_read : (x : PatFields) → {ts : List Tok} {found : List Site} {k : List Tok} → is_safe k ≡ true → Read ts true found (pat_fields_then x k)
      → Read ts true (pat_fields_sites found x) k
  pat_fields_read no_pat_field u r = r
  pat_fields_read (more_pat_field f fs) u r = pat_fields_read fs u (pat_field_read f (pat_fields_safe fs _ u) (loose (pass (fixed key.Semicolon) r)))

variable_read : (x : Variable) → {ts : List Tok} {found : List Site} {k : List Tok} → Read ts false found (variable_then x k)
    → Read ts false (variable_sites found x) k
variable_read (PlainVariable x) r = name (plain true x) x (refl, refl, refl) r
variable_read (AnyVariable at) r = pass (placed key.Underscore at) r

mutual
  local_read : (x : LocalModule) → {ts : List Tok} {found : List Site} {k : List Tok} → Read ts false found (local_then x k) → Read ts false found k
  local_read (LocalPath path ms) r = locals_read ms (path_read false path r)

  locals_read : (x : LocalArguments) → {ts : List Tok} {found : List Site} {k : List Tok} → Read ts false found (locals_then x k)
      → Read ts false found k
  locals_read no_local r = r
  locals_read (more_local at m ms) r = locals_read ms (pass (fixed key.RightParen) (local_read m (pass (placed key.LeftParen at) r)))
  locals_read (no_module at ms) r = locals_read ms (pass (fixed key.RightParen) (pass (placed key.LeftParen at) r))

mutual
  expr_read : (x : Expr) → {ts : List Tok} {found : List Site} {k : List Tok} → Wf x → Read ts false found (expr_then x k)
      → Read ts false (expr_sites found x) k
  expr_read (Seq e es last) h r = optional_read false key.Semicolon last (links_read es (plain_seq e es last h.2) (expr_read e h.1 r))
  expr_read (Let at rec b bs e) h r =
      expr_read e h.2 (pass (fixed key.In) (bindings_read bs h.1 (binding_read b h.0 (optional_read false key.Rec rec (pass (placed key.Let at) r)))))
  expr_read (LetOpen at at' bang path e) h r =
      expr_read e h.2 (pass (fixed key.In) (path_read false path (bang_read false bang (pass (placed key.Open at') (pass (placed key.Let at) r)))))
  expr_read (LetModule at at' x eq m e) h r =
      expr_read e h.1 (pass (fixed key.In)
      (local_read m (pass (placed key.Equals eq) (pass (word class.Upper x) (pass (placed key.Module at') (pass (placed key.Let at) r))))))
  expr_read (Fun at ps e) h r = expr_read e h.2 (pass (fixed key.Arrow) (params_read ps h.1 (pass (placed key.Fun at) r)))
  expr_read (Function at bar c cs) h r = cases_read c cs h.1 (case_read c h.0 (optional_read false key.Bar bar (pass (placed key.Function at) r)))
  expr_read (Match at e bar c cs) h r =
      cases_read c cs h.2 (case_read c h.1 (optional_read false key.Bar bar (pass (fixed key.With) (expr_read e h.0 (pass (placed key.Match at) r)))))
  expr_read (Try at e bar c cs) h r =
      cases_read c cs h.2 (case_read c h.1 (optional_read false key.Bar bar (pass (fixed key.With) (expr_read e h.0 (pass (placed key.Try at) r)))))
  expr_read (If at c a tail) h r = tail_read a tail h.3 (expr_read a h.2 (pass (fixed key.Then) (expr_read c h.0 (pass (placed key.If at) r))))
  expr_read (Chain n e es) h r = links_read es (plain_chain n e es h.0 h.5) (expr_read e h.4 r)
  expr_read (Minus x e) h r = expr_read e h.2 (minus x r)
  expr_read (Apply f es) h r = arguments_read es h.4 (expr_read f h.2 r)
  expr_read (ConstrApply path e) h r = expr_read e h.2 (path_read false path r)
  expr_read (TagApply x e) h r = expr_read e h.1 (pass (word class.Tag x) r)
  expr_read (Assert at e) h r = expr_read e h.1 (pass (placed key.Assert at) r)
  expr_read (Lazy at e) h r = expr_read e h.1 (pass (placed key.Lazy at) r)
  expr_read (Postfix e ps) h r = parts_read ps h.4 (expr_read e h.2 r)
  expr_read (Prefixed x e) h r = expr_read e h.1 (sign false class.Prefix x r)
  expr_read (Literal c x) h r = pass (word c x) r
  expr_read (BoolExpr at b) h r = calm (placed (truth b) at) (truth_no b at) r
  expr_read (Value path x) h r = name_read false x (qualified_read false path r)
  expr_read (Constr path) h r = path_read false path r
  expr_read (Tag x) h r = pass (word class.Tag x) r
  expr_read (UnitExpr at) h r = pass (fixed key.RightParen) (pass (placed key.LeftParen at) r)
  expr_read (Paren at e) h r = pass (fixed key.RightParen) (expr_read e h (pass (placed key.LeftParen at) r))
  expr_read (Typed at e run) h r =
      pass (fixed key.RightParen) (run_read false run (pass (fixed key.Colon) (expr_read e h.0 (pass (placed key.LeftParen at) r))))
  expr_read (Coerced at e from to) h r =
      pass (fixed key.RightParen)
      (run_read false to (pass (fixed key.ColonGreater) (type_read false from (expr_read e h.0 (pass (placed key.LeftParen at) r)))))
  expr_read (EmptyBegin at) h r = pass (fixed key.End) (pass (placed key.Begin at) r)
  expr_read (Begin at e) h r = pass (fixed key.End) (expr_read e h (pass (placed key.Begin at) r))
  expr_read (EmptyList at b) h r = pass (fixed (closing b)) (calm (placed (opening b) at) (opening_no b at) r)
  expr_read (ListExpr at b e es last) h r =
      pass (fixed (closing b))
      (optional_read false key.Semicolon last
      (links_read es (plain_seq e es last h.2) (expr_read e h.1 (calm (placed (opening b) at) (opening_no b at) r))))
  expr_read (Record at base f fs last) h r =
      pass (fixed key.RightBrace)
      (optional_read true key.Semicolon last
      (fields_read f fs last h.2 (optional_safe key.Semicolon last _ refl refl)
      (field_read f h.1 (fields_safe fs _ (optional_safe key.Semicolon last _ refl refl)) (base_read base h.0 (pass (placed key.LeftBrace at) r)))))
  expr_read (Opened path e) h r = expr_read e h.2 (pass (fixed key.Dot) (path_read false path r))
  expr_read (While at c e) h r = pass (fixed key.Done) (expr_read e h.1 (pass (fixed key.Do) (expr_read c h.0 (pass (placed key.While at) r))))
  expr_read (For at x eq a down b e) h r =
      pass (fixed key.Done) (expr_read e h.2
      (pass (fixed key.Do) (expr_read b h.1
      (pass (fixed (direction down)) (expr_read a h.0 (pass (placed key.Equals eq) (variable_read x (pass (placed key.For at) r))))))))

  opened_read : (x : Expr) → {ts : List Tok} {found : List Site} {k : List Tok} → 14 < level x → Wf x → is_safe k ≡ true
      → Read ts true found (expr_then x k) → Read ts true (expr_sites found x) k
  opened_read (Seq e es last) l h u r = absurd (omega (arith, l))
  opened_read (Let at rec b bs e) l h u r = absurd (omega (arith, l))
  opened_read (LetOpen at at' bang path e) l h u r = absurd (omega (arith, l))
  opened_read (LetModule at at' x eq m e) l h u r = absurd (omega (arith, l))
  opened_read (Fun at ps e) l h u r = absurd (omega (arith, l))
  opened_read (Function at bar c cs) l h u r = absurd (omega (arith, l))
  opened_read (Match at e bar c cs) l h u r = absurd (omega (arith, l))
  opened_read (Try at e bar c cs) l h u r = absurd (omega (arith, l))
  opened_read (If at c a tail) l h u r = absurd (omega (arith, l))
  opened_read (Chain n e es) l h u r = absurd (omega (arith, l, h.1))
  opened_read (Minus x e) l h u r = absurd (omega (arith, l))
  opened_read (Apply f es) l h u r = absurd (omega (arith, l))
  opened_read (ConstrApply path e) l h u r = absurd (omega (arith, l))
  opened_read (TagApply x e) l h u r = absurd (omega (arith, l))
  opened_read (Assert at e) l h u r = absurd (omega (arith, l))
  opened_read (Lazy at e) l h u r = absurd (omega (arith, l))
  opened_read (Postfix e no_part) l h u r = absurd (h.3 refl)
  opened_read (Postfix e (more_part p ps)) l h u r =
      loose (parts_read ps h.4.1 (part_read p h.4.0 (opened_read e (omega (arith, h.0)) h.2 (part_safe p _) r)))
  opened_read (Prefixed x e) l h u r = loose (expr_read e h.1 (sign false class.Prefix x r))
  opened_read (Literal c x) l h u r = loose (pass (word c x) r)
  opened_read (BoolExpr at b) l h u r = loose (calm (placed (truth b) at) (truth_no b at) r)
  opened_read (Value path x) l h u r = name_first false x u (qualified_read true path r)
  opened_read (Constr path) l h u r = path_read true path r
  opened_read (Tag x) l h u r = loose (pass (word class.Tag x) r)
  opened_read (UnitExpr at) l h u r = loose (pass (fixed key.RightParen) (pass (placed key.LeftParen at) r))
  opened_read (Paren at e) l h u r = loose (pass (fixed key.RightParen) (expr_read e h (pass (placed key.LeftParen at) r)))
  opened_read (Typed at e run) l h u r =
      loose (pass (fixed key.RightParen) (run_read false run (pass (fixed key.Colon) (expr_read e h.0 (pass (placed key.LeftParen at) r)))))
  opened_read (Coerced at e from to) l h u r =
      loose (pass (fixed key.RightParen)
      (run_read false to (pass (fixed key.ColonGreater) (type_read false from (expr_read e h.0 (pass (placed key.LeftParen at) r))))))
  opened_read (EmptyBegin at) l h u r = loose (pass (fixed key.End) (pass (placed key.Begin at) r))
  opened_read (Begin at e) l h u r = loose (pass (fixed key.End) (expr_read e h (pass (placed key.Begin at) r)))
  opened_read (EmptyList at b) l h u r = loose (pass (fixed (closing b)) (calm (placed (opening b) at) (opening_no b at) r))
  opened_read (ListExpr at b e es last) l h u r =
      loose (pass (fixed (closing b))
      (optional_read false key.Semicolon last
      (links_read es (plain_seq e es last h.2) (expr_read e h.1 (calm (placed (opening b) at) (opening_no b at) r)))))
  opened_read (Record at base f fs last) l h u r =
      loose (pass (fixed key.RightBrace)
      (optional_read true key.Semicolon last
      (fields_read f fs last h.2 (optional_safe key.Semicolon last _ refl refl)
      (field_read f h.1 (fields_safe fs _ (optional_safe key.Semicolon last _ refl refl)) (base_read base h.0 (pass (placed key.LeftBrace at) r))))))
  opened_read (Opened path e) l h u r = loose (expr_read e h.2 (pass (fixed key.Dot) (path_read true path r)))
  opened_read (While at c e) l h u r =
      loose (pass (fixed key.Done) (expr_read e h.1 (pass (fixed key.Do) (expr_read c h.0 (pass (placed key.While at) r)))))
  opened_read (For at x eq a down b e) l h u r =
      loose (pass (fixed key.Done)
      (expr_read e h.2 (pass (fixed key.Do)
      (expr_read b h.1 (pass (fixed (direction down))
      (expr_read a h.0 (pass (placed key.Equals eq) (variable_read x (pass (placed key.For at) r)))))))))

  links_read : (x : Links) → {ts : List Tok} {found : List Site} {k : List Tok} → Plain x → Read ts false found (links_then x k)
      → Read ts false (links_sites found x) k
  links_read no_link h r = r
  links_read (more_link t e es) h r = links_read es h.2 (expr_read e h.1 (calm_operator false t h.0 r))

  guard_read : (x : MaybeExpr) → {ts : List Tok} {found : List Site} {k : List Tok} → WfGuard x → Read ts false found (guard_then x k)
      → Read ts false (maybe_sites found x) k
  guard_read no_expr h r = r
  guard_read (some_expr e) h r = expr_read e h (pass (fixed key.When) r)

  tail_read : (before : Expr) (x : Tail) → {ts : List Tok} {found : List Site} {k : List Tok} → WfTail before x → Read ts false found (tail_then x k)
      → Read ts false (tail_sites found x) k
  tail_read before no_else h r = r
  tail_read before (or_else e) h r = expr_read e h.3 (pass (fixed key.Else) r)
  tail_read before (or_if at c a tail) h r =
      tail_read a tail h.4 (expr_read a h.3 (pass (fixed key.Then) (expr_read c h.1 (pass (placed key.If at) (pass (fixed key.Else) r)))))

  binding_read : (x : Binding) → {ts : List Tok} {found : List Site} {k : List Tok} → WfBinding x → Read ts false found (binding_then x k)
      → Read ts false (binding_sites found x) k
  binding_read (PlainBinding p run at e) h r = expr_read e h.2 (pass (placed key.Equals at) (type_read false run (pat_read p r)))
  binding_read (AppliedBinding x ps run at e) h r =
      expr_read e h.4 (pass (placed key.Equals at) (type_read false run (params_read ps h.2 (name_read true x r))))

  bindings_read : (x : Bindings) → {ts : List Tok} {found : List Site} {k : List Tok} → WfBindings x → Read ts false found (bindings_then x k)
      → Read ts false (bindings_sites found x) k
  bindings_read no_binding h r = r
  bindings_read (more_binding b bs) h r = bindings_read bs h.1 (binding_read b h.0 (pass (fixed key.And) r))

  case_read : (x : Case) → {ts : List Tok} {found : List Site} {k : List Tok} → WfCase x → Read ts false found (case_then x k)
      → Read ts false (case_sites found x) k
  case_read (CaseOf p guard e) h r = expr_read e h.2 (pass (fixed key.Arrow) (guard_read guard h.1 (pat_read p r)))

  cases_read : (before : Case) (x : Cases) → {ts : List Tok} {found : List Site} {k : List Tok} → WfCases before x
      → Read ts false found (cases_then x k) → Read ts false (cases_sites found x) k
  cases_read before no_case h r = r
  cases_read before (more_case c cs) h r = cases_read c cs h.2 (case_read c h.1 (pass (fixed key.Bar) r))

  argument_read : (x : Argument) → {ts : List Tok} {found : List Site} {k : List Tok} → WfArgument x → Read ts false found (argument_then x k)
      → Read ts false (argument_sites found x) k
  argument_read (Positional e) h r = expr_read e h.1 r
  argument_read (LabelPun x) h r = label false x r
  argument_read (Labelled x e) h r = expr_read e h.2 (pass (word class.Label x) r)

  arguments_read : (x : Arguments) → {ts : List Tok} {found : List Site} {k : List Tok} → WfArguments x → Read ts false found (arguments_then x k)
      → Read ts false (arguments_sites found x) k
  arguments_read no_argument h r = r
  arguments_read (more_argument a es) h r = arguments_read es h.1 (argument_read a h.0 r)

  param_read : (x : Param) → {ts : List Tok} {found : List Site} {k : List Tok} → WfParam x → Read ts false found (param_then x k)
      → Read ts false (param_sites found x) k
  param_read (PatternParam p) h r = pat_read p r
  param_read (LabelParam x) h r = label true x r
  param_read (LabelPattern x p) h r = pat_read p (pass (word class.Label x) r)
  param_read (DefaultParam x at p run eq e) h r =
      pass (fixed key.RightParen)
      (expr_read e h.5 (pass (placed key.Equals eq)
      (type_read false run (pat_read p (pass (placed key.LeftParen at) (pass (word class.Label x) r))))))
  param_read (WrappedParam at optional at' x run) h r =
      pass (fixed key.RightParen)
      (type_read false run (name (punned true x.at x.text) x (refl, refl, refl)
      (pass (placed key.LeftParen at') (calm (placed (wrap optional) at) (wrap_no optional at) r))))
  param_read (WrappedDefault at at' x run eq e) h r =
      pass (fixed key.RightParen)
      (expr_read e h.2 (pass (placed key.Equals eq)
      (type_read false run (name (punned true x.at x.text) x (refl, refl, refl)
      (pass (placed key.LeftParen at') (pass (placed key.Question at) r))))))
  param_read (TypesParam at xs) h r = pass (fixed key.RightParen) (lowers_read xs (pass (fixed key.Type) (pass (placed key.LeftParen at) r)))

  params_read : (x : Params) → {ts : List Tok} {found : List Site} {k : List Tok} → WfParams x → Read ts false found (params_then x k)
      → Read ts false (params_sites found x) k
  params_read no_param h r = r
  params_read (more_param p ps) h r = params_read ps h.1 (param_read p h.0 r)

  part_read : (x : Part) → {ts : List Tok} {found : List Site} {k : List Tok} → WfPart x → Read ts true found (part_then x k)
      → Read ts false (part_sites found x) k
  part_read (LabelPart path x) h r = pass (word class.Lower x) (qualified_read false path (pass (fixed key.Dot) r))
  part_read (IndexPart at e) h r = pass (fixed key.RightParen) (expr_read e h (pass (placed key.LeftParen at) (pass (fixed key.Dot) r)))
  part_read (CharPart at e) h r = pass (fixed key.RightBracket) (expr_read e h (pass (placed key.LeftBracket at) (pass (fixed key.Dot) r)))

  parts_read : (x : Parts) → {ts : List Tok} {found : List Site} {k : List Tok} → WfParts x → Read ts false found (parts_then x k)
      → Read ts false (parts_sites found x) k
  parts_read no_part h r = r
  parts_read (more_part p ps) h r = parts_read ps h.1 (part_read p h.0 (loose r))

  field_read : (x : Field) → {ts : List Tok} {found : List Site} {k : List Tok} → WfField x → is_safe k ≡ true → Read ts true found (field_then x k)
      → Read ts true (field_sites found x) k
  field_read (FieldPun path x run) h u r =
      type_read false run (first (punned false x.at x.text) x (refl, refl, refl) (type_safe run _ u) (qualified_read true path r))
  field_read (AssignedField path x run at e) h u r =
      loose (expr_read e h.2 (pass (placed key.Equals at) (type_read false run (pass (word class.Lower x) (qualified_read true path r)))))

  fields_read : (before : Field) (x : Fields) (last : Bool) → {ts : List Tok} {found : List Site} {k : List Tok} → WfFields before x last
      → is_safe k ≡ true → Read ts true found (fields_then x k) → Read ts true (fields_sites found x) k
  fields_read before no_field last h u r = r
  fields_read before (more_field f fs) last h u r =
      fields_read f fs last h.2 u (field_read f h.1 (fields_safe fs _ u) (loose (pass (fixed key.Semicolon) r)))

  base_read : (x : MaybeExpr) → {ts : List Tok} {found : List Site} {k : List Tok} → WfBase x → Read ts true found (base_then x k)
      → Read ts true (maybe_sites found x) k
  base_read no_expr h r = r
  base_read (some_expr e) h r = loose (pass (fixed key.With) (opened_read e h.0 h.1 refl r))

mutual
  mod_read : (x : ModExpr) → {ts : List Tok} {found : List Site} {k : List Tok} → WfMod x → Read ts false found (mod_then x k)
      → Read ts false (mod_sites found x) k
  mod_read (ModPath path) h r = path_read false path r
  mod_read (Struct at is) h r = pass (fixed key.End) (items_read true is h (pass (placed key.Struct at) r))
  mod_read (Functor at ps m) h r = mod_read m h.2 (pass (fixed key.Arrow) (functor_params_read ps h.1 (pass (placed key.Functor at) r)))
  mod_read (ModApply m ms) h r = mod_arguments_read ms h.3 (mod_read m h.1 r)
  mod_read (ModParen at m) h r = pass (fixed key.RightParen) (mod_read m h (pass (placed key.LeftParen at) r))
  mod_read (Sealed at m s) h r =
      pass (fixed key.RightParen) (mod_type_read s h.1 (pass (fixed key.Colon) (mod_read m h.0 (pass (placed key.LeftParen at) r))))

  mod_argument_read : (x : ModArgument) → {ts : List Tok} {found : List Site} {k : List Tok} → WfModArgument x
      → Read ts false found (mod_argument_then x k) → Read ts false (mod_argument_sites found x) k
  mod_argument_read (ModuleArgument at m) h r = pass (fixed key.RightParen) (mod_read m h (pass (placed key.LeftParen at) r))
  mod_argument_read (SealedArgument at m s) h r =
      pass (fixed key.RightParen) (mod_type_read s h.1 (pass (fixed key.Colon) (mod_read m h.0 (pass (placed key.LeftParen at) r))))
  mod_argument_read (NoArgument at) h r = pass (fixed key.RightParen) (pass (placed key.LeftParen at) r)

  mod_arguments_read : (x : ModArguments) → {ts : List Tok} {found : List Site} {k : List Tok} → WfModArguments x
      → Read ts false found (mod_arguments_then x k) → Read ts false (mod_arguments_sites found x) k
  mod_arguments_read no_mod_argument h r = r
  mod_arguments_read (more_mod_argument m ms) h r = mod_arguments_read ms h.1 (mod_argument_read m h.0 r)

  functor_param_read : (x : FunctorParam) → {ts : List Tok} {found : List Site} {k : List Tok} → WfFunctorParam x
      → Read ts false found (functor_param_then x k) → Read ts false (functor_param_sites found x) k
  functor_param_read (NamedParam at x s) h r =
      pass (fixed key.RightParen) (mod_type_read s h (pass (fixed key.Colon) (module_name_read x (pass (placed key.LeftParen at) r))))
  functor_param_read (NoParam at) h r = pass (fixed key.RightParen) (pass (placed key.LeftParen at) r)

  functor_params_read : (x : FunctorParams) → {ts : List Tok} {found : List Site} {k : List Tok} → WfFunctorParams x
      → Read ts false found (functor_params_then x k) → Read ts false (functor_params_sites found x) k
  functor_params_read no_functor_param h r = r
  functor_params_read (more_functor_param p ps) h r = functor_params_read ps h.1 (functor_param_read p h.0 r)

  mod_type_read : (x : ModType) → {ts : List Tok} {found : List Site} {k : List Tok} → WfModType x → Read ts false found (mod_type_then x k)
      → Read ts true (mod_type_sites found x) k
  mod_type_read (TypePath path) h r = loose (path_read false path r)
  mod_type_read (Sig at is) h r = loose (pass (fixed key.End) (sig_items_read is h (loose (pass (placed key.Sig at) r))))
  mod_type_read (TypeOf at m) h r = loose (mod_read m h.1 (pass (fixed key.Of) (pass (fixed key.Type) (pass (placed key.Module at) r))))
  mod_type_read (TypeParen at s) h r = loose (pass (fixed key.RightParen) (mod_type_read s h (pass (placed key.LeftParen at) r)))
  mod_type_read (With s ws) h r = withs_read ws (mod_type_read s h.1 r)
  mod_type_read (FunctorType at ps s) h r = mod_type_read s h.2 (pass (fixed key.Arrow) (functor_params_read ps h.1 (pass (placed key.Functor at) r)))
  mod_type_read (ParamArrow p s) h r = mod_type_read s h.1 (pass (fixed key.Arrow) (functor_param_read p h.0 r))
  mod_type_read (Arrow s s') h r = mod_type_read s' h.2 (pass (fixed key.Arrow) (mod_type_read s h.1 r))

  signature_read : (x : MaybeType) → {ts : List Tok} {found : List Site} {k : List Tok} → WfSignature x → Read ts false found (signature_then x k)
      → Read ts true (signature_sites found x) k
  signature_read no_type h r = loose r
  signature_read (some_type s) h r = mod_type_read s h (pass (fixed key.Colon) r)

  item_read : (fresh : Bool) (x : Item) → {ts : List Tok} {found : List Site} {k : List Tok} → WfItem fresh x
      → Read ts (not fresh) found (item_then x k) → Read ts (not (is_separator x)) (item_sites found x) k
  item_read true (ExprItem e) h r = loose (expr_read e h.1 r)
  item_read false (ExprItem e) h r = let wrong : false ≡ true = h.0 in cc
  item_read fresh SeparatorItem h r = pass (fixed key.DoubleSemicolon) r
  item_read fresh (ValueItem at rec b bs) h r =
      loose (bindings_read bs h.1 (binding_read b h.0 (optional_read false key.Rec rec (pass (placed key.Let at) r))))
  item_read fresh (ExternalItem x run at texts) h r =
      loose (texts_read texts (pass (placed key.Equals at)
      (run_read false run (pass (fixed key.Colon) (name_read true x (pass (fixed key.External) r))))))
  item_read fresh (TypeItem run) h r = run_read false run (pass (fixed key.Type) r)
  item_read fresh (ExceptionItem at run) h r = run_read false run (pass (placed key.Exception at) r)
  item_read fresh (ModuleItem at x ps s eq m) h r =
      loose (mod_read m h.2 (pass (placed key.Equals eq)
      (signature_read s h.1 (functor_params_read ps h.0 (module_name_read x (pass (placed key.Module at) r))))))
  item_read fresh (ModuleTypeItem at x eq s) h r =
      mod_type_read s h (pass (placed key.Equals eq) (pass (word class.Upper x) (pass (fixed key.Type) (pass (placed key.Module at) r))))
  item_read fresh (OpenItem at bang path) h r = loose (path_read false path (bang_read false bang (pass (placed key.Open at) r)))
  item_read fresh (IncludeItem at m) h r = loose (mod_read m h (pass (placed key.Include at) r))

  items_read : (fresh : Bool) (x : Items) → {ts : List Tok} {found : List Site} {k : List Tok} → WfItems fresh x
      → Read ts (not fresh) found (items_then x k) → Read ts true (items_sites found x) k
  items_read fresh no_item h r = to_true (not fresh) r
  items_read fresh (more_item i is) h r = items_read (is_separator i) is h.1 (item_read fresh i h.0 r)

  sig_item_read : (x : SigItem) → {ts : List Tok} {found : List Site} {k : List Tok} → WfSigItem x → Read ts true found (sig_item_then x k)
      → Read ts true (sig_item_sites found x) k
  sig_item_read SeparatorSig h r = loose (pass (fixed key.DoubleSemicolon) r)
  sig_item_read (ValSig x run) h r = run_read false run (pass (fixed key.Colon) (name_read true x (pass (fixed key.Val) r)))
  sig_item_read (ExternalSig x run at texts) h r =
      loose (texts_read texts (pass (placed key.Equals at)
      (run_read false run (pass (fixed key.Colon) (name_read true x (pass (fixed key.External) r))))))
  sig_item_read (TypeSig run) h r = run_read false run (pass (fixed key.Type) r)
  sig_item_read (ExceptionSig at run) h r = run_read false run (pass (placed key.Exception at) r)
  sig_item_read (ModuleSig at x ps s) h r =
      mod_type_read s h.1 (pass (fixed key.Colon) (functor_params_read ps h.0 (module_name_read x (pass (placed key.Module at) r))))
  sig_item_read (AliasSig at x eq path) h r =
      loose (path_read false path (pass (placed key.Equals eq) (pass (word class.Upper x) (pass (placed key.Module at) r))))
  sig_item_read (ModuleTypeSig at x eq s) h r =
      mod_type_read s h (pass (placed key.Equals eq) (pass (word class.Upper x) (pass (fixed key.Type) (pass (placed key.Module at) r))))
  sig_item_read (OpenSig at bang path) h r = loose (path_read false path (bang_read false bang (pass (placed key.Open at) r)))
  sig_item_read (IncludeSig at s) h r = mod_type_read s h (pass (placed key.Include at) r)

  sig_items_read : (x : SigItems) → {ts : List Tok} {found : List Site} {k : List Tok} → WfSigItems x → Read ts true found (sig_items_then x k)
      → Read ts true (sig_items_sites found x) k
  sig_items_read no_sig_item h r = r
  sig_items_read (more_sig_item i is) h r = sig_items_read is h.1 (sig_item_read i h.0 r)

pub file_read : (t : FileTree) {ts : List Tok} → WfFile t → Read ts false [] (words t) → Read ts true (sites t) []
file_read (Body file is) {ts} h r = subst (λ (l : List Site). Read ts true l []) (sym (body_placed file is)) (items_read true is h r)
file_read (Face file is) {ts} h r = subst (λ (l : List Site). Read ts true l []) (sym (face_placed file is)) (sig_items_read is h (loose r))
