-- No module, module type, item or file is missed: each is read from its words.
use Rattle.std.proofs.Common.{◌≡◌, ◌≢◌, ℕ, zero, suc, ◌<◌, ◌≤◌, List, [], ◌∷◌, ◌++◌, length, Bool, true, false, Option, Some, None, refl, sym, ap}
use Rattle.std.proofs.Common.{subst, ◌∙◌, arith}
use Rattle.rotor_base.specs.declared.token.Class.TheVariants as class
use Rattle.ml_trees.specs.declared.fixed.Fixed.{Fixed}
use Rattle.ml_trees.specs.declared.fixed.Fixed.TheVariants as key
use Rattle.ml_trees.specs.declared.word.Bracket.{Bracket}
use Rattle.ml_trees.specs.declared.word.Bracket.TheVariants as bracket
use Rattle.ml_trees.specs.Tok.{Name, Tok, fixed, placed, word}
use Rattle.expr_reading.specs.declared.wanted.Wanted.TheVariants as wanted
use Rattle.ml_trees.specs.Runs.{bracketing, after_bracket, beside_type, in_type, in_declaration, is_type_run}
use Rattle.ml_trees.proofs.Words.{links_then, arguments_then, parts_then, opening, truth, path_then, qualified_then, name_then, optional_then}
use Rattle.ml_trees.proofs.Words.{bang_then, expr_then, binding_then, bindings_then, module_name_then, constraint_then, constraints_then, withs_then}
use Rattle.ml_trees.proofs.Words.{texts_then, external_then, mod_then, mod_argument_then, mod_arguments_then, functor_param_then, functor_params_then}
use Rattle.ml_trees.proofs.Words.{mod_type_then, signature_then, items_then, sig_item_then, sig_items_then}
use Rattle.ml_trees.proofs.Words.{item_then as item_then_words}
use Rattle.ml_trees.specs.WellFormed.{WfOpen, WfExternal, WfBinding, WfBindings, Wf, level, is_constraint_sign, WfConstraint, WfConstraints, WfWiths}
use Rattle.ml_trees.specs.WellFormed.{is_functor, is_simple_mod, is_simple_type, is_separator, WfMod, WfModArgument, WfModArguments, WfFunctorParam}
use Rattle.ml_trees.specs.WellFormed.{WfFunctorParams, WfModType, WfSignature, WfItem, WfItems, WfSigItem, WfSigItems}
use Rattle.ml_trees.specs.Tree.{LocalModule, ValueName, PlainName, OperatorName, Expr, Seq, Let, LetOpen, LetModule, Fun, Function, Match, Try, If}
use Rattle.ml_trees.specs.Tree.{Chain, Minus, Apply, ConstrApply, TagApply, Assert, Lazy, Postfix, Prefixed, Literal, BoolExpr, Value, Constr, Tag}
use Rattle.ml_trees.specs.Tree.{UnitExpr, Paren, Typed, Coerced, EmptyBegin, Begin, EmptyList, ListExpr, Record, Opened, While, For, Binding}
use Rattle.ml_trees.specs.Tree.{Bindings, ModuleName, UpperName, AnyName, Constraint, ConstraintOf, WithClause, WithOf, ModExpr, ModPath, Struct}
use Rattle.ml_trees.specs.Tree.{Functor, ModApply, ModParen, Sealed, ModArgument, ModuleArgument, SealedArgument, NoArgument, ModArguments}
use Rattle.ml_trees.specs.Tree.{no_mod_argument, more_mod_argument, FunctorParam, NamedParam, NoParam, FunctorParams, no_functor_param}
use Rattle.ml_trees.specs.Tree.{more_functor_param, ModType, TypePath, Sig, TypeOf, TypeParen, With, FunctorType, ParamArrow, Arrow, MaybeType}
use Rattle.ml_trees.specs.Tree.{no_type, some_type, Item, ExprItem, SeparatorItem, ValueItem, ExternalItem, TypeItem, ExceptionItem, ModuleItem}
use Rattle.ml_trees.specs.Tree.{ModuleTypeItem, OpenItem, IncludeItem, Items, no_item, more_item, SigItem, SeparatorSig, ValSig, ExternalSig}
use Rattle.ml_trees.specs.Tree.{TypeSig, ExceptionSig, ModuleSig, AliasSig, ModuleTypeSig, OpenSig, IncludeSig, SigItems, no_sig_item, more_sig_item}
use Rattle.ml_trees.specs.Tree.{Body, Face}
use Rattle.token_reading.specs.Steps.{Read, ◌>>=◌, expect, many, always}
use Rattle.token_reading.specs.Pieces.{dot_upper}
use Rattle.token_reading.proofs.Stepping.{some_is, from_some}
use Rattle.token_reading.proofs.Reach.{Reach, stop, no_turn, more_turns}
use Rattle.pattern_reading.proofs.LongerPat.{begins_pat, Opens, path_longer, name_longer, run_longer, optional_longer}
use Rattle.token_reading.proofs.ReachPieces.{name_read, Blocked, NoColon, type_run_read, declaration_run_read}
use Rattle.expr_reading.specs.ExprReading.{bindings, read_expr}
use Rattle.expr_laws.proofs.LongerExpr.{bang_more, binding_more, bindings_more, path_strict, expr_longer}
use Rattle.expr_laws.proofs.FirstWord.{begins_expr, Begins, expr_begins}
use Rattle.expr_laws.proofs.FoundExpr.{expr_reads}
use Rattle.expr_laws.proofs.GoesExpr.{grip, Holds, Begun, Headed, Goes, clash, fixed_begun, by_level, by_form, by_if, by_else, by_bar, by_more}
use Rattle.expr_laws.proofs.ReachParams.{path_read}
use Rattle.expr_laws.proofs.ReachForms.{bang_read, bindings_reach, in_exact, binding_opens, last_value, NotForm, operand_not_form}
use Rattle.expr_laws.proofs.ReachExpr.{expr_reach, binding_good, bindings_good}
use Rattle.module_reading.specs.ModReading.{grown_mod, module_name, text_word, optional_private, constraint, next_constraint, more_constraints}
use Rattle.module_reading.specs.ModReading.{with_clause, with_clauses, external_rest, open_rest, some_bindings, value_rest, named_param}
use Rattle.module_reading.specs.ModReading.{functor_param}
use Rattle.module_reading.specs.ModReading.{functor_params, signature_of, module_rest, plain_item, item_of, items_of, module_sig_rest, sig_item}
use Rattle.module_reading.specs.ModReading.{sig_items, simple_mod, argument_closed, mod_argument, mod_arguments, mod_apply, mod_expr, simple_type}
use Rattle.module_reading.specs.ModReading.{with_type, param_or, mod_type, read_mod, read_type, read_body, read_face}
use Rattle.module_laws.proofs.LongerMod.{module_name_more, constraint_more, constraints_more, withs_more, texts_more, mod_more, mod_arguments_more}
use Rattle.module_laws.proofs.LongerMod.{functor_params_more, mod_type_more, signature_more, item_more, items_more, sig_items_more}
use Rattle.module_laws.proofs.FoundMod.{next_constraint_found, clause_found, simple_plain, functor_param_found, sig_item_found, mod_argument_found}
use Rattle.module_laws.proofs.FoundMod.{mod_reads, type_reads}

-- ---- what follows

-- words at which an item begins, or the items end
abbrev pub starts_item : Tok → Bool
starts_item (fixed key.End) = true
starts_item (fixed key.DoubleSemicolon) = true
starts_item (fixed key.Type) = true
starts_item (fixed key.External) = true
starts_item (fixed key.Val) = true
starts_item (placed key.Let at) = true
starts_item (placed key.Exception at) = true
starts_item (placed key.Module at) = true
starts_item (placed key.Open at) = true
starts_item (placed key.Include at) = true
starts_item _ = false

-- words at which a module type ends
abbrev pub closes : Tok → Bool
closes (fixed key.RightParen) = true
closes (placed key.Equals at) = true
closes t = starts_item t

-- words at which a module expression ends
abbrev pub follows : Tok → Bool
follows (fixed key.Colon) = true
follows (fixed key.With) = true
follows (fixed key.Arrow) = true
follows t = closes t

abbrev pub ItemStart : List Tok → Type 0
ItemStart [] = Unit {0}
ItemStart (t ∷ ts) = starts_item t ≡ true

abbrev pub Closed : List Tok → Type 0
Closed [] = Unit {0}
Closed (t ∷ ts) = closes t ≡ true

abbrev pub Follows : List Tok → Type 0
Follows [] = Unit {0}
Follows (t ∷ ts) = follows t ≡ true

start_closes : (t : Tok) → starts_item t ≡ true → closes t ≡ true
start_closes (fixed key.RightParen) h = refl
start_closes (placed key.Equals at) h = refl
start_closes (fixed x) h = fixed_closes x h
  where
    fixed_closes : (x : Fixed) → starts_item (fixed x) ≡ true → closes (fixed x) ≡ true
    fixed_closes key.RightParen h = refl
    fixed_closes _ h = h
start_closes (placed x at) h = placed_closes x at h
  where
    placed_closes : (x : Fixed) (at : ℕ) → starts_item (placed x at) ≡ true → closes (placed x at) ≡ true
    placed_closes key.Equals at h = refl
    placed_closes _ at h = h
start_closes (word c x) h = absurd cc

close_follows : (t : Tok) → closes t ≡ true → follows t ≡ true
close_follows (fixed x) h = by x h
  where
    by : (x : Fixed) → closes (fixed x) ≡ true → follows (fixed x) ≡ true
    by key.Colon h = refl
    by key.With h = refl
    by key.Arrow h = refl
    by _ h = h
close_follows (placed x at) h = h
close_follows (word c x) h = absurd cc

pub start_closed : (r : List Tok) → ItemStart r → Closed r
start_closed [] h = tt
start_closed (t ∷ r) h = start_closes t h

pub closed_follows : (r : List Tok) → Closed r → Follows r
closed_follows [] h = tt
closed_follows (t ∷ r) h = close_follows t h

no_dot : (r : List Tok) → Follows r → dot_upper r ≡ None
no_dot [] h = refl
no_dot (fixed key.Dot ∷ r) h = absurd cc
no_dot (_ ∷ r) h = refl

type_ends : (r : List Tok) → Closed r → Blocked beside_type in_type r
type_ends [] h = tt
type_ends (t ∷ r) h = by t h
  where
    by : (t : Tok) → closes t ≡ true → after_bracket beside_type in_type t (bracketing t) [] ≡ None
    by (fixed key.RightParen) h = refl
    by (fixed key.End) h = refl
    by (fixed key.DoubleSemicolon) h = refl
    by (fixed key.Type) h = refl
    by (fixed key.External) h = refl
    by (fixed key.Val) h = refl
    by (placed key.Equals at) h = refl
    by (placed key.Let at) h = refl
    by (placed key.Exception at) h = refl
    by (placed key.Module at) h = refl
    by (placed key.Open at) h = refl
    by (placed key.Include at) h = refl
    by _ h = absurd cc

declaration_ends : (r : List Tok) → ItemStart r → Blocked in_declaration in_declaration r
declaration_ends [] h = tt
declaration_ends (t ∷ r) h = by t h
  where
    by : (t : Tok) → starts_item t ≡ true → after_bracket in_declaration in_declaration t (bracketing t) [] ≡ None
    by (fixed key.End) h = refl
    by (fixed key.DoubleSemicolon) h = refl
    by (fixed key.Type) h = refl
    by (fixed key.External) h = refl
    by (fixed key.Val) h = refl
    by (placed key.Let at) h = refl
    by (placed key.Exception at) h = refl
    by (placed key.Module at) h = refl
    by (placed key.Open at) h = refl
    by (placed key.Include at) h = refl
    by _ h = absurd cc

closed_no_with : (n : ℕ) (r : List Tok) → Closed r → with_clause n r ≡ None
unfolding with_clause
closed_no_with n [] h = refl
closed_no_with n (fixed key.With ∷ r) h = absurd cc
closed_no_with n (_ ∷ r) h = refl

closed_no_arrow : (r : List Tok) → Closed r → expect key.Arrow r ≡ None
closed_no_arrow [] h = refl
closed_no_arrow (fixed key.Arrow ∷ r) h = absurd cc
closed_no_arrow (_ ∷ r) h = refl

start_no_text : (r : List Tok) → ItemStart r → text_word r ≡ None
start_no_text [] h = refl
start_no_text (word class.Text x ∷ r) h = absurd cc
start_no_text (_ ∷ r) h = refl

item_grip : (t : Tok) → starts_item t ≡ true → grip t ≡ 0
item_grip (fixed key.End) h = refl
item_grip (fixed key.DoubleSemicolon) h = refl
item_grip (fixed key.Type) h = refl
item_grip (fixed key.External) h = refl
item_grip (fixed key.Val) h = refl
item_grip (placed key.Let at) h = refl
item_grip (placed key.Exception at) h = refl
item_grip (placed key.Module at) h = refl
item_grip (placed key.Open at) h = refl
item_grip (placed key.Include at) h = refl
item_grip _ h = absurd cc

start_holds : (n : ℕ) (r : List Tok) → ItemStart r → Holds n r → ⊥
start_holds n [] s h = h
start_holds n (t ∷ r) s h = omega (arith, h, item_grip t s)

headed_item : (k : Fixed) (r : List Tok) → starts_item (fixed k) ≡ false → ItemStart r → Headed k r → ⊥
headed_item k r un s h = let q : ItemStart (fixed k ∷ h.0) = subst ItemStart h.1 s in clash q un

-- what follows an item: another, or the end, and no expression
pub record Follow (r : List Tok) : Type 0 where
  pub start : ItemStart r
  pub none : Begun r → ⊥

goes_stop : (n : ℕ) (e : Expr) (r : List Tok) → Follow r → Goes n e r → ⊥
goes_stop n e r s (by_level h) = start_holds n r s.start h
goes_stop n e r s (by_form p h) = start_holds 0 r s.start h
goes_stop n e r s (by_if p h) = start_holds 1 r s.start h
goes_stop n e r s (by_else p h) = headed_item key.Else r refl s.start h
goes_stop n e r s (by_bar p h) = headed_item key.Bar r refl s.start h
goes_stop n e r s (by_more p q b) = s.none b

-- ---- no expression begins here

head_is : (t u : Tok) (ts us : List Tok) → t ∷ ts ≡ u ∷ us → t ≡ u
head_is t u ts us e = cc

tail_is : (t u : Tok) (ts us : List Tok) → t ∷ ts ≡ u ∷ us → ts ≡ us
tail_is t u ts us e = cc

pub not_begun : (t : Tok) (ts : List Tok) → begins_expr t ≡ false → Begun (t ∷ ts) → ⊥
not_begun t ts un b =
    let g = subst Begins (sym b.words) (expr_begins b.tree b.rest b.wf) in
    let q = head_is t g.first ts g.rest g.is in
    clash (subst (λ u. begins_expr u ≡ true) (sym q) g.begins) un

empty_begun : Begun [] → ⊥
empty_begun b = let g = subst Begins (sym b.words) (expr_begins b.tree b.rest b.wf) in let q = g.is in absurd cc

-- an expression begins the words of a sequence
seq_begun : (e : Expr) (k : List Tok) → Wf e → Begun (expr_then e k)
seq_begun (Seq e es last) k w = record { tree = e; rest = links_then es (optional_then key.Semicolon last k); fits = w.0; wf = w.1; words = refl }
seq_begun (Let at recursive b bs e) k w = record { tree = Let at recursive b bs e; rest = k; fits = omega arith; wf = w; words = refl }
seq_begun (LetOpen at at' bang path e) k w = record { tree = LetOpen at at' bang path e; rest = k; fits = omega arith; wf = w; words = refl }
seq_begun (LetModule at at' x eq m e) k w = record { tree = LetModule at at' x eq m e; rest = k; fits = omega arith; wf = w; words = refl }
seq_begun (Fun at ps e) k w = record { tree = Fun at ps e; rest = k; fits = omega arith; wf = w; words = refl }
seq_begun (Function at bar c cs) k w = record { tree = Function at bar c cs; rest = k; fits = omega arith; wf = w; words = refl }
seq_begun (Match at e bar c cs) k w = record { tree = Match at e bar c cs; rest = k; fits = omega arith; wf = w; words = refl }
seq_begun (Try at e bar c cs) k w = record { tree = Try at e bar c cs; rest = k; fits = omega arith; wf = w; words = refl }
seq_begun (If at c a tail) k w = record { tree = If at c a tail; rest = k; fits = omega arith; wf = w; words = refl }
seq_begun (Chain n e es) k w = record { tree = Chain n e es; rest = k; fits = omega (arith, w.0); wf = w; words = refl }
seq_begun (Minus x e) k w = record { tree = Minus x e; rest = k; fits = omega arith; wf = w; words = refl }
seq_begun (Apply f es) k w = record { tree = Apply f es; rest = k; fits = omega arith; wf = w; words = refl }
seq_begun (ConstrApply path e) k w = record { tree = ConstrApply path e; rest = k; fits = omega arith; wf = w; words = refl }
seq_begun (TagApply x e) k w = record { tree = TagApply x e; rest = k; fits = omega arith; wf = w; words = refl }
seq_begun (Assert at e) k w = record { tree = Assert at e; rest = k; fits = omega arith; wf = w; words = refl }
seq_begun (Lazy at e) k w = record { tree = Lazy at e; rest = k; fits = omega arith; wf = w; words = refl }
seq_begun (Postfix e ps) k w = record { tree = Postfix e ps; rest = k; fits = omega arith; wf = w; words = refl }
seq_begun (Prefixed x e) k w = record { tree = Prefixed x e; rest = k; fits = omega arith; wf = w; words = refl }
seq_begun (Literal c x) k w = record { tree = Literal c x; rest = k; fits = omega arith; wf = w; words = refl }
seq_begun (BoolExpr at b) k w = record { tree = BoolExpr at b; rest = k; fits = omega arith; wf = w; words = refl }
seq_begun (Value path x) k w = record { tree = Value path x; rest = k; fits = omega arith; wf = w; words = refl }
seq_begun (Constr path) k w = record { tree = Constr path; rest = k; fits = omega arith; wf = w; words = refl }
seq_begun (Tag x) k w = record { tree = Tag x; rest = k; fits = omega arith; wf = w; words = refl }
seq_begun (UnitExpr at) k w = record { tree = UnitExpr at; rest = k; fits = omega arith; wf = w; words = refl }
seq_begun (Paren at e) k w = record { tree = Paren at e; rest = k; fits = omega arith; wf = w; words = refl }
seq_begun (Typed at e run) k w = record { tree = Typed at e run; rest = k; fits = omega arith; wf = w; words = refl }
seq_begun (Coerced at e from to) k w = record { tree = Coerced at e from to; rest = k; fits = omega arith; wf = w; words = refl }
seq_begun (EmptyBegin at) k w = record { tree = EmptyBegin at; rest = k; fits = omega arith; wf = w; words = refl }
seq_begun (Begin at e) k w = record { tree = Begin at e; rest = k; fits = omega arith; wf = w; words = refl }
seq_begun (EmptyList at b) k w = record { tree = EmptyList at b; rest = k; fits = omega arith; wf = w; words = refl }
seq_begun (ListExpr at b e es last) k w = record { tree = ListExpr at b e es last; rest = k; fits = omega arith; wf = w; words = refl }
seq_begun (Record at base f fs last) k w = record { tree = Record at base f fs last; rest = k; fits = omega arith; wf = w; words = refl }
seq_begun (Opened path e) k w = record { tree = Opened path e; rest = k; fits = omega arith; wf = w; words = refl }
seq_begun (While at c e) k w = record { tree = While at c e; rest = k; fits = omega arith; wf = w; words = refl }
seq_begun (For at x eq a down b e) k w = record { tree = For at x eq a down b e; rest = k; fits = omega arith; wf = w; words = refl }

pub expr_none : (f : ℕ) (ts : List Tok) → (Begun ts → ⊥) → read_expr f wanted.Sequence ts ≡ None
expr_none f ts never = by (read_expr f wanted.Sequence ts) refl
  where
    by : (o : Option (Expr × List Tok)) → read_expr f wanted.Sequence ts ≡ o → read_expr f wanted.Sequence ts ≡ None
    by None e = e
    by (Some x) e = let v = expr_reads f wanted.Sequence ts x e in absurd (never (subst Begun (sym v.words) (seq_begun x.0 x.1 v.wf)))

-- ---- a `let` without `in` begins no expression

-- an expression that begins with `let`
data IsLet : Expr → Type 0 where
  is_let : (at : ℕ) (recursive : Bool) (b : Binding) (bs : Bindings) (e : Expr) → IsLet (Let at recursive b bs e)
  is_let_open : (at at' : ℕ) (bang : Option Name) (path : List Name) (e : Expr) → IsLet (LetOpen at at' bang path e)
  is_let_module : (at at' : ℕ) (x : Name) (q : ℕ) (m : LocalModule) (e : Expr) → IsLet (LetModule at at' x q m e)

let_is : (e : Expr) (at : ℕ) (ts k : List Tok) → 0 < level e → Wf e → placed key.Let at ∷ ts ≡ expr_then e k → IsLet e
let_is (Let at' recursive b bs e) at ts k lv w q = is_let at' recursive b bs e
let_is (LetOpen at' at'' bang path e) at ts k lv w q = is_let_open at' at'' bang path e
let_is (LetModule at' at'' x s m e) at ts k lv w q = is_let_module at' at'' x s m e
let_is (Fun at' ps e) at ts k lv w q = absurd cc
let_is (Function at' bar c cs) at ts k lv w q = absurd cc
let_is (Match at' e bar c cs) at ts k lv w q = absurd cc
let_is (Try at' e bar c cs) at ts k lv w q = absurd cc
let_is (If at' c a tail) at ts k lv w q = absurd cc
let_is (Seq e es last) at ts k lv w q = absurd (omega (arith, lv))
let_is (Chain n e es) at ts k lv w q = absurd (subst NotForm (sym q) (operand_not_form (Chain n e es) k (omega (arith, w.0)) w))
let_is e at ts k lv w q = absurd (subst NotForm (sym q) (operand_not_form e k (omega arith) w))

-- bindings behind an optional `rec` are read whole, if nothing goes on with them
bindings_exact : (b : Binding) (bs : Bindings) → WfBinding b → WfBindings bs → (r : List Tok) → Follow r → (f : ℕ)
    → length (binding_then b (bindings_then bs r)) ≤ f → bindings (read_expr f) f (binding_then b (bindings_then bs r)) ≡ Some ((b, bs), r)
bindings_exact b bs w ws r s f len =
    stop (λ h. h) (bindings_reach f ⊥ r (λ h. headed_item key.And r refl s.start h) b bs (binding_good b) (bindings_good bs) w ws
    (λ h. goes_stop 0 (last_value b bs) r s h) len)

opens_no_fixed : (k : Fixed) (ts us : List Tok) → Opens ts → ts ≡ fixed k ∷ us → ⊥
opens_no_fixed k ts us o q = by o.first o.begins (head_is o.first (fixed k) o.rest us (sym o.is ∙ q))
  where
    by : (t : Tok) → begins_pat t ≡ true → t ≡ fixed k → ⊥
    by (fixed x) b e = absurd cc
    by (placed x at) b e = absurd cc
    by (word c x) b e = absurd cc

opens_no_placed : (k : Fixed) (at : ℕ) (ts us : List Tok) → begins_pat (placed k at) ≡ false → Opens ts → ts ≡ placed k at ∷ us → ⊥
opens_no_placed k at ts us un o q = clash (subst (λ t. begins_pat t ≡ true) (head_is o.first (placed k at) o.rest us (sym o.is ∙ q)) o.begins) un

-- the bindings of a `let` with `in` are not those of an item
same_bindings : (b b' : Binding) (bs bs' : Bindings) (r k : List Tok) → WfBinding b → WfBindings bs → WfBinding b' → WfBindings bs' → Follow r
    → binding_then b (bindings_then bs r) ≡ binding_then b' (bindings_then bs' (fixed key.In ∷ k)) → ⊥
same_bindings b b' bs bs' r k w ws w' ws' s q =
    let f = length (binding_then b (bindings_then bs r)) in
    let one = bindings_exact b bs w ws r s f (omega arith) in
    let two = in_exact b' bs' (binding_good b') (bindings_good bs') w' ws' f k (omega (arith, ap length q)) in
    let both = some_is (sym one ∙ subst (λ ts. bindings (read_expr f) f ts ≡ Some ((b', bs'), fixed key.In ∷ k)) (sym q) two) in
    by r s (ap (λ (z : (Binding × Bindings) × List Tok). z.1) both)
  where
    by : (r : List Tok) → Follow r → r ≡ fixed key.In ∷ k → ⊥
    by r s e = let h : starts_item (fixed key.In) ≡ true = subst ItemStart e s.start in absurd cc

value_not_begun : (at : ℕ) (recursive : Bool) (b : Binding) (bs : Bindings) (r : List Tok) → WfBinding b → WfBindings bs → Follow r
    → Begun (placed key.Let at ∷ optional_then key.Rec recursive (binding_then b (bindings_then bs r))) → ⊥
value_not_begun at recursive b bs r w ws s g =
    by g.tree g.rest g.wf g.words
    (let_is g.tree at (optional_then key.Rec recursive (binding_then b (bindings_then bs r))) g.rest g.fits g.wf g.words)
  where
    first_opens : Opens (binding_then b (bindings_then bs r))
    first_opens = binding_opens b (bindings_then bs r) w

    by_rec : (recursive recursive' : Bool) (b' : Binding) (bs' : Bindings) (k : List Tok) → WfBinding b' → WfBindings bs'
        → optional_then key.Rec recursive (binding_then b (bindings_then bs r)) ≡ optional_then key.Rec recursive'
        (binding_then b' (bindings_then bs' (fixed key.In ∷ k))) → ⊥
    by_rec true true b' bs' k w' ws' q = same_bindings b b' bs bs' r k w ws w' ws' s (tail_is (fixed key.Rec) (fixed key.Rec) _ _ q)
    by_rec false false b' bs' k w' ws' q = same_bindings b b' bs bs' r k w ws w' ws' s q
    by_rec true false b' bs' k w' ws' q = opens_no_fixed key.Rec (binding_then b' (bindings_then bs' (fixed key.In ∷ k)))
        (binding_then b (bindings_then bs r)) (binding_opens b' (bindings_then bs' (fixed key.In ∷ k)) w') (sym q)
    by_rec false true b' bs' k w' ws' q = opens_no_fixed key.Rec (binding_then b (bindings_then bs r))
        (binding_then b' (bindings_then bs' (fixed key.In ∷ k))) first_opens q

    by_open : (recursive : Bool) (k : Fixed) (at' : ℕ) (us : List Tok) → begins_pat (placed k at') ≡ false
        → optional_then key.Rec recursive (binding_then b (bindings_then bs r)) ≡ placed k at' ∷ us → ⊥
    by_open true k at' us un q = absurd cc
    by_open false k at' us un q = opens_no_placed k at' (binding_then b (bindings_then bs r)) us un first_opens q

    by : (e : Expr) (k : List Tok) → Wf e → placed key.Let at ∷ optional_then key.Rec recursive (binding_then b (bindings_then bs r)) ≡ expr_then e k
        → IsLet e → ⊥
    by _ k we q (is_let at' recursive' b' bs' e) = by_rec recursive recursive' b' bs' (expr_then e k) we.0 we.1 (tail_is _ _ _ _ q)
    by _ k we q (is_let_open at' at'' bang path e) = by_open recursive key.Open at'' _ refl (tail_is _ _ _ _ q)
    by _ k we q (is_let_module at' at'' x y m e) = by_open recursive key.Module at'' _ refl (tail_is _ _ _ _ q)

-- ---- what is read at each level

abbrev pub simple_mod_at : ℕ → Read ModExpr
simple_mod_at f = simple_mod (read_mod f) (read_type f) f

abbrev pub mod_apply_at : ℕ → Read ModExpr
mod_apply_at f = mod_apply (read_mod f) (read_type f) f

abbrev pub mod_expr_at : ℕ → Read ModExpr
mod_expr_at f = mod_expr (read_mod f) (read_type f) f

abbrev pub simple_type_at : ℕ → Read ModType
simple_type_at f = simple_type (read_mod f) (read_type f) f

abbrev pub mod_type_at : ℕ → Read ModType
mod_type_at f = mod_type (read_mod f) (read_type f) f

abbrev pub param_at : ℕ → Read FunctorParam
param_at f = functor_param (read_mod f) (read_type f) f

abbrev pub item_at : ℕ → Bool → Read Item
item_at f = item_of (read_mod f) (read_type f) f

abbrev pub items_at : ℕ → ℕ → Bool → List Tok → Items × List Tok
items_at f = items_of (read_mod f) (read_type f) f

abbrev pub sig_item_at : ℕ → Read SigItem
sig_item_at f = sig_item (read_mod f) (read_type f) f

-- the tokens at which the items of a file or a module end
pub data EndsItems : List Tok → Type 0 where
  at_end : EndsItems []
  at_word : (r : List Tok) → EndsItems (fixed key.End ∷ r)

pub record GoodMod (m : ModExpr) : Type 0 where
  pub lone : is_simple_mod m ≡ true → WfMod m → (f : ℕ) (r : List Tok) → dot_upper r ≡ None → length (mod_then m r) ≤ suc f
      → simple_mod_at f (mod_then m r) ≡ Some (m, r)
  pub flat : is_functor m ≡ false → WfMod m → (f : ℕ) (r : List Tok) → Follows r → length (mod_then m r) ≤ suc f
      → mod_apply_at f (mod_then m r) ≡ Some (m, r)
  pub full : WfMod m → (f : ℕ) (r : List Tok) → Follows r → length (mod_then m r) ≤ suc f → mod_expr_at f (mod_then m r) ≡ Some (m, r)

pub record GoodType (s : ModType) : Type 0 where
  pub lone : is_simple_type s ≡ true → WfModType s → (f : ℕ) (r : List Tok) → Follows r → length (mod_type_then s r) ≤ suc f
      → simple_type_at f (mod_type_then s r) ≡ Some (s, r)
  pub full : WfModType s → (f : ℕ) (r : List Tok) → Closed r → length (mod_type_then s r) ≤ suc f → mod_type_at f (mod_type_then s r) ≡ Some (s, r)

abbrev pub GoodArgument : ModArgument → Type 0
GoodArgument (ModuleArgument at m) = GoodMod m
GoodArgument (SealedArgument at m s) = GoodMod m × GoodType s
GoodArgument (NoArgument at) = Unit {0}

abbrev pub GoodArguments : ModArguments → Type 0
GoodArguments no_mod_argument = Unit {0}
GoodArguments (more_mod_argument a ms) = GoodArgument a × GoodArguments ms

abbrev pub GoodParam : FunctorParam → Type 0
GoodParam (NamedParam at x s) = GoodType s
GoodParam (NoParam at) = Unit {0}

abbrev pub GoodParams : FunctorParams → Type 0
GoodParams no_functor_param = Unit {0}
GoodParams (more_functor_param p ps) = GoodParam p × GoodParams ps

abbrev pub GoodMaybe : MaybeType → Type 0
GoodMaybe no_type = Unit {0}
GoodMaybe (some_type s) = GoodType s

abbrev pub GoodItem : Item → Type 0
GoodItem (ModuleItem at x ps s q m) = GoodParams ps × GoodMaybe s × GoodMod m
GoodItem (ModuleTypeItem at x q s) = GoodType s
GoodItem (IncludeItem at m) = GoodMod m
GoodItem _ = Unit {0}

abbrev pub GoodItems : Items → Type 0
GoodItems no_item = Unit {0}
GoodItems (more_item i is) = GoodItem i × GoodItems is

abbrev pub GoodSigItem : SigItem → Type 0
GoodSigItem (ModuleSig at x ps s) = GoodParams ps × GoodType s
GoodSigItem (ModuleTypeSig at x q s) = GoodType s
GoodSigItem (IncludeSig at s) = GoodType s
GoodSigItem _ = Unit {0}

abbrev pub GoodSigItems : SigItems → Type 0
GoodSigItems no_sig_item = Unit {0}
GoodSigItems (more_sig_item i is) = GoodSigItem i × GoodSigItems is

-- ---- lengths

pub mod_longer : (m : ModExpr) (k : List Tok) → WfMod m → length k < length (mod_then m k)
mod_longer (ModPath path) k w = path_strict path k w
mod_longer (Struct at is) k w = omega (arith, items_more is (fixed key.End ∷ k))
mod_longer (Functor at ps m) k w = omega (arith, functor_params_more ps (fixed key.Arrow ∷ mod_then m k), mod_more m k)
mod_longer (ModApply m ms) k w = omega (arith, mod_longer m (mod_arguments_then ms k) w.1, mod_arguments_more ms k)
mod_longer (ModParen at m) k w = omega (arith, mod_more m (fixed key.RightParen ∷ k))
mod_longer (Sealed at m s) k w =
    omega (arith, mod_more m (fixed key.Colon ∷ mod_type_then s (fixed key.RightParen ∷ k)), mod_type_more s (fixed key.RightParen ∷ k))

pub param_longer : (p : FunctorParam) (k : List Tok) → length k < length (functor_param_then p k)
param_longer (NamedParam at x s) k =
    omega (arith, module_name_more x (fixed key.Colon ∷ mod_type_then s (fixed key.RightParen ∷ k)), mod_type_more s (fixed key.RightParen ∷ k))
param_longer (NoParam at) k = omega arith

pub type_longer : (s : ModType) (k : List Tok) → WfModType s → length k < length (mod_type_then s k)
type_longer (TypePath path) k w = path_strict path k w
type_longer (Sig at is) k w = omega (arith, sig_items_more is (fixed key.End ∷ k))
type_longer (TypeOf at m) k w = omega (arith, mod_more m k)
type_longer (TypeParen at s) k w = omega (arith, mod_type_more s (fixed key.RightParen ∷ k))
type_longer (With s ws) k w = omega (arith, type_longer s (withs_then ws k) w.1, withs_more ws k)
type_longer (FunctorType at ps s) k w = omega (arith, functor_params_more ps (fixed key.Arrow ∷ mod_type_then s k), mod_type_more s k)
type_longer (ParamArrow p s) k w = omega (arith, param_longer p (fixed key.Arrow ∷ mod_type_then s k), mod_type_more s k)
type_longer (Arrow s s') k w = omega (arith, type_longer s (fixed key.Arrow ∷ mod_type_then s' k) w.1, mod_type_more s' k)

pub argument_longer : (a : ModArgument) (k : List Tok) → length k < length (mod_argument_then a k)
argument_longer (ModuleArgument at m) k = omega (arith, mod_more m (fixed key.RightParen ∷ k))
argument_longer (SealedArgument at m s) k =
    omega (arith, mod_more m (fixed key.Colon ∷ mod_type_then s (fixed key.RightParen ∷ k)), mod_type_more s (fixed key.RightParen ∷ k))
argument_longer (NoArgument at) k = omega arith

external_longer : (x : ValueName) (run : List Tok) (at : ℕ) (texts : List Name) (k : List Tok) → length k < length (external_then x run at texts k)
external_longer x run at texts k =
    omega (
      arith,
      name_longer x (fixed key.Colon ∷ (run ++ (placed key.Equals at ∷ texts_then texts k))),
      run_longer run
          (placed key.Equals at ∷ texts_then texts k),
      texts_more texts k,
    )

pub item_longer : (fresh : Bool) (i : Item) (k : List Tok) → WfItem fresh i → length k < length (item_then_words i k)
item_longer fresh (ExprItem e) k w = expr_longer e k w.1
item_longer fresh SeparatorItem k w = omega arith
item_longer fresh (ValueItem at recursive b bs) k w =
    omega (arith, optional_longer key.Rec recursive (binding_then b (bindings_then bs k)), binding_more b (bindings_then bs k), bindings_more bs k)
item_longer fresh (ExternalItem x run at texts) k w = external_longer x run at texts k
item_longer fresh (TypeItem run) k w = omega (arith, run_longer run k)
item_longer fresh (ExceptionItem at run) k w = omega (arith, run_longer run k)
item_longer fresh (ModuleItem at x ps s q m) k w =
    omega (
      arith,
      item_more (ModuleItem at x ps s q m) k,
      module_name_more x
          (functor_params_then ps (signature_then s (placed key.Equals q ∷ mod_then m k))),
      functor_params_more ps
          (signature_then s (placed key.Equals q ∷ mod_then m k)),
      signature_more s (placed key.Equals q ∷ mod_then m k),
      mod_more m k,
    )
item_longer fresh (ModuleTypeItem at x q s) k w = omega (arith, mod_type_more s k)
item_longer fresh (OpenItem at bang path) k w = omega (arith, bang_more bang (path_then path k), path_longer path k)
item_longer fresh (IncludeItem at m) k w = omega (arith, mod_more m k)

pub sig_item_longer : (i : SigItem) (k : List Tok) → length k < length (sig_item_then i k)
sig_item_longer SeparatorSig k = omega arith
sig_item_longer (ValSig x run) k = omega (arith, name_longer x (fixed key.Colon ∷ (run ++ k)), run_longer run k)
sig_item_longer (ExternalSig x run at texts) k = external_longer x run at texts k
sig_item_longer (TypeSig run) k = omega (arith, run_longer run k)
sig_item_longer (ExceptionSig at run) k = omega (arith, run_longer run k)
sig_item_longer (ModuleSig at x ps s) k =
    omega (
      arith,
      module_name_more x (functor_params_then ps (fixed key.Colon ∷ mod_type_then s k)),
      functor_params_more ps
          (fixed key.Colon ∷ mod_type_then s k),
      mod_type_more s k,
    )
sig_item_longer (AliasSig at x q path) k = omega (arith, path_longer path k)
sig_item_longer (ModuleTypeSig at x q s) k = omega (arith, mod_type_more s k)
sig_item_longer (OpenSig at bang path) k = omega (arith, bang_more bang (path_then path k), path_longer path k)
sig_item_longer (IncludeSig at s) k = omega (arith, mod_type_more s k)

-- ---- through the knot

sub_mod : (m : ModExpr) → GoodMod m → WfMod m → (f : ℕ) (r : List Tok) → Follows r → length (mod_then m r) ≤ f
    → read_mod f (mod_then m r) ≡ Some (m, r)
unfolding read_mod
sub_mod m g w zero r s len = absurd (omega (arith, len, mod_longer m r w))
sub_mod m g w (suc f) r s len = g.full w f r s len

sub_type : (t : ModType) → GoodType t → WfModType t → (f : ℕ) (r : List Tok) → Closed r → length (mod_type_then t r) ≤ f
    → read_type f (mod_type_then t r) ≡ Some (t, r)
unfolding read_type
sub_type t g w zero r s len = absurd (omega (arith, len, type_longer t r w))
sub_type t g w (suc f) r s len = g.full w f r s len

-- ---- parameters of functors

module _ (f : ℕ) where
  pub name_read_module : (x : ModuleName) (k : List Tok) → module_name (module_name_then x k) ≡ Some (x, k)
  name_read_module (UpperName x) k = refl
  name_read_module (AnyName at) k = refl

  named_is : (at : ℕ) (x : ModuleName) (k : List Tok) → param_at f (placed key.LeftParen at ∷ module_name_then x k) ≡ named_param (read_mod f)
      (read_type f) f at (module_name_then x k)
  unfolding functor_param
  named_is at (UpperName x) k = refl
  named_is at (AnyName at') k = refl

  no_param_read : (at : ℕ) (k : List Tok) → param_at f (placed key.LeftParen at ∷ fixed key.RightParen ∷ k) ≡ Some (NoParam at, k)
  unfolding functor_param
  no_param_read at k = refl

  pub param_read : (p : FunctorParam) → GoodParam p → WfFunctorParam p → (k : List Tok) → length (functor_param_then p k) ≤ suc f
      → param_at f (functor_param_then p k) ≡ Some (p, k)
  param_read (NamedParam at x s) g w k len =
      let rest : List Tok = fixed key.Colon ∷ mod_type_then s (fixed key.RightParen ∷ k) in
      let l = module_name_more x rest in
      let inside = sub_type s g w f (fixed key.RightParen ∷ k) refl (omega (arith, len, l)) in
      named_is at x rest ∙ rw (name_read_module x rest, inside) refl
  param_read (NoParam at) g w k len = no_param_read at k

  param_shorter : (ts : List Tok) (x : FunctorParam × List Tok) → param_at f ts ≡ Some x → length x.1 < length ts
  param_shorter ts x e = let p = functor_param_found (read_mod f) (read_type f) f (mod_reads f) (type_reads f) ts x e in
      omega (arith, ap length p.words, param_longer x.0 x.1)

  -- parameters end if no `(` follows
  abbrev pub NoParen : List Tok → Type 0
  NoParen (placed key.LeftParen at ∷ r) = ⊥
  NoParen _ = Unit {0}

  paren_none : (k : List Tok) → NoParen k → param_at f k ≡ None
  unfolding functor_param
  paren_none [] h = refl
  paren_none (placed key.LeftParen at ∷ r) h = absurd h
  paren_none (_ ∷ r) h = refl

  params_reach : (ps : FunctorParams) → GoodParams ps → WfFunctorParams ps → (k : List Tok) → NoParen k → (n : ℕ)
      → length (functor_params_then ps k) ≤ n → n ≤ suc f
      → Reach ⊥ ps k (Some (many no_functor_param more_functor_param always (param_at f) n (functor_params_then ps k)))
  params_reach no_functor_param g w k h n len le = no_turn no_functor_param more_functor_param always (param_at f) param_shorter ⊥ true k (length k) n
      (λ _ x e. let q = sym (paren_none k h) ∙ e in absurd cc)
  params_reach (more_functor_param p ps) g w k h zero len le = absurd (omega (arith, len, param_longer p (functor_params_then ps k)))
  params_reach (more_functor_param p ps) g w k h (suc n) len le =
      let rest : List Tok = functor_params_then ps k in
      more_turns no_functor_param more_functor_param always (param_at f) param_shorter ⊥ p ps k (functor_param_then p rest) rest (length k) n
      (param_read p g.0 w.0 rest (omega (arith, len, le))) refl
      (params_reach ps g.1 w.1 k h n (omega (arith, len, param_longer p rest)) (omega (arith, le)))

  pub params_exact : (ps : FunctorParams) → GoodParams ps → WfFunctorParams ps → (k : List Tok) → NoParen k → length (functor_params_then ps k) ≤ f
      → functor_params (read_mod f) (read_type f) f (functor_params_then ps k) ≡ (ps, k)
  params_exact ps g w k h len = some_is (stop {C = ⊥} (λ c. c) (params_reach ps g w k h f len (omega arith)))

  -- ---- small parts of items

  texts_reach : (xs : List Name) (k : List Tok) → ItemStart k → (n : ℕ) → length (texts_then xs k) ≤ n
      → Reach ⊥ xs k (Some (many [] ◌∷◌ always text_word n (texts_then xs k)))
  texts_reach [] k h n len = no_turn [] ◌∷◌ always text_word text_shorter ⊥ true k (length k) n
      (λ _ x e. let q = sym (start_no_text k h) ∙ e in absurd cc)
    where
      text_shorter : (ts : List Tok) (x : Name × List Tok) → text_word ts ≡ Some x → length x.1 < length ts
      text_shorter (word class.Text y ∷ ts) x e = from_some (λ (z : Name × List Tok). length z.1 < length (word class.Text y ∷ ts)) e (omega arith)
      text_shorter _ x e = absurd cc
  texts_reach (x ∷ xs) k h zero len = absurd (omega (arith, len))
  texts_reach (x ∷ xs) k h (suc n) len = more_turns [] ◌∷◌ always text_word shorter ⊥ x xs k (word class.Text x ∷ texts_then xs k) (texts_then xs k)
      (length k) n refl refl (texts_reach xs k h n (omega (arith, len)))
    where
      shorter : (ts : List Tok) (x : Name × List Tok) → text_word ts ≡ Some x → length x.1 < length ts
      shorter (word class.Text y ∷ ts) x e = from_some (λ (z : Name × List Tok). length z.1 < length (word class.Text y ∷ ts)) e (omega arith)
      shorter _ x e = absurd cc

  external_read : (x : ValueName) (run : List Tok) (at : ℕ) (texts : List Name) (k : List Tok) → WfExternal x run texts → ItemStart k
      → length (external_then x run at texts k) ≤ suc f
      → external_rest f (name_then x (fixed key.Colon ∷ (run ++ (placed key.Equals at ∷ texts_then texts k)))) ≡ Some
      (record { name = x; run = run; at = at; texts = texts }, k)
  unfolding external_rest
  external_read x run at [] k w h len = absurd (w.2 refl)
  external_read x run at (y ∷ ys) k w h len =
      let behind : List Tok = placed key.Equals at ∷ texts_then (y ∷ ys) k in
      let rest : List Tok = fixed key.Colon ∷ (run ++ behind) in
      let l = name_longer x rest in
      let l2 = run_longer run behind in
      let n = name_read x rest w.0 in
      let t = type_run_read run behind w.1 refl in
      let m = some_is (stop {C = ⊥} (λ c. c) (texts_reach (y ∷ ys) k h f (omega (arith, len, l, l2)))) in
      rw (n, t, m) refl

  open_read : (bang : Option Name) (path : List Name) (k : List Tok) → WfOpen bang path → Follows k → length (path_then path k) ≤ suc f
      → open_rest f (bang_then bang (path_then path k)) ≡ Some ((bang, path), k)
  unfolding open_rest
  open_read bang path k w h len =
      let b = bang_read bang path k w.0 w.1 in
      let p = path_read f path k w.1 len (no_dot k h) in
      rw (b, p) refl

  pub opens_plain : (at : ℕ) (ts : List Tok) → Opens ts → value_rest f at ts ≡ some_bindings f false at ts
  unfolding value_rest
  opens_plain at ts o = subst (λ k. value_rest f at k ≡ some_bindings f false at k) (sym o.is) (by o.first o.rest o.begins)
    where
      by : (t : Tok) (rest : List Tok) → begins_pat t ≡ true → value_rest f at (t ∷ rest) ≡ some_bindings f false at (t ∷ rest)
      by (fixed x) rest b = absurd cc
      by (placed x at') rest b = refl
      by (word c x) rest b = refl

  rec_is : (at : ℕ) (ts : List Tok) → value_rest f at (fixed key.Rec ∷ ts) ≡ some_bindings f true at ts
  unfolding value_rest
  rec_is at ts = refl

  value_read : (at : ℕ) (recursive : Bool) (b : Binding) (bs : Bindings) (k : List Tok) → WfBinding b → WfBindings bs → Follow k
      → length (optional_then key.Rec recursive (binding_then b (bindings_then bs k))) ≤ f
      → value_rest f at (optional_then key.Rec recursive (binding_then b (bindings_then bs k))) ≡ Some (ValueItem at recursive b bs, k)
  value_read at true b bs k w ws s len = rec_is at (binding_then b (bindings_then bs k))
      ∙ rw (bindings_exact b bs w ws k s f (omega (arith, len))) refl
  value_read at false b bs k w ws s len = opens_plain at (binding_then b (bindings_then bs k)) (binding_opens b (bindings_then bs k) w)
      ∙ rw (bindings_exact b bs w ws k s f len) refl

  -- ---- constraints

  run_no_private : (run k : List Tok) → is_type_run run ≡ true → optional_private (run ++ k) ≡ (false, run ++ k)
  run_no_private [] k h = absurd cc
  run_no_private (fixed key.Private ∷ ts) k h = absurd (private_first ts h)
    where
      private_first : (ts : List Tok) → is_type_run (fixed key.Private ∷ ts) ≡ true → ⊥
      private_first [] h = absurd cc
      private_first (t ∷ ts) h = absurd cc
  run_no_private (_ ∷ ts) k h = refl

  pub sign_ends : (t : Tok) (k : List Tok) → is_constraint_sign t ≡ true → Blocked beside_type in_type (t ∷ k)
  sign_ends (placed key.Equals at) k h = refl
  sign_ends (word class.Mark x) k h = refl
  sign_ends _ k h = absurd cc

  pub private_run : (private : Bool) (b k : List Tok) → is_type_run b ≡ true
      → optional_private (optional_then key.Private private (b ++ k)) ≡ (private, b ++ k)
  private_run true b k h = refl
  private_run false b k h = run_no_private b k h

  pub constraint_read : (c : Constraint) (k : List Tok) → WfConstraint c → Blocked beside_type in_type k
      → constraint (constraint_then c k) ≡ Some (c, k)
  unfolding constraint
  constraint_read (ConstraintOf a t private b) k w h =
      let behind : List Tok = t ∷ optional_then key.Private private (b ++ k) in
      let first = type_run_read a behind w.0 (sign_ends t (optional_then key.Private private (b ++ k)) w.1) in
      let p = private_run private b k w.2 in
      let second = type_run_read b k w.2 h in
      rw (first, w.1, p, second) refl

  pub next_shorter : (ts : List Tok) (x : Constraint × List Tok) → next_constraint ts ≡ Some x → length x.1 < length ts
  next_shorter ts x e = let p = next_constraint_found ts x e in omega (arith, ap length p.1, ap length p.2.words, constraint_more x.0 x.1)

  -- what follows the constraints of a `with`
  pub data EndsClause : List Tok → Type 0 where
    at_with : (r : List Tok) → EndsClause (fixed key.With ∷ r)
    at_close : (r : List Tok) → Closed r → EndsClause r

  clause_blocked : (r : List Tok) → EndsClause r → Blocked beside_type in_type r
  clause_blocked _ (at_with r) = refl
  clause_blocked r (at_close _ h) = type_ends r h

  closed_no_and : (r : List Tok) → Closed r → next_constraint r ≡ None
  closed_no_and [] h = refl
  closed_no_and (fixed key.And ∷ r) h = absurd cc
  closed_no_and (_ ∷ r) h = refl

  clause_no_and : (r : List Tok) → EndsClause r → next_constraint r ≡ None
  clause_no_and _ (at_with r) = refl
  clause_no_and r (at_close _ h) = closed_no_and r h

  constraints_blocked : (cs : List Constraint) (r : List Tok) → EndsClause r → Blocked beside_type in_type (constraints_then cs r)
  constraints_blocked [] r e = clause_blocked r e
  constraints_blocked (c ∷ cs) r e = refl

  constraints_reach : (cs : List Constraint) (r : List Tok) → WfConstraints cs → EndsClause r → (n : ℕ) → length (constraints_then cs r) ≤ n
      → Reach ⊥ cs r (Some (more_constraints n (constraints_then cs r)))
  constraints_reach [] r w h n len = no_turn [] ◌∷◌ always next_constraint next_shorter ⊥ true r (length r) n
      (λ _ x e. let q = sym (clause_no_and r h) ∙ e in absurd cc)
  constraints_reach (c ∷ cs) r w h zero len = absurd (omega (arith, len))
  constraints_reach (c ∷ cs) r w h (suc n) len =
      let rest : List Tok = constraints_then cs r in
      more_turns [] ◌∷◌ always next_constraint next_shorter ⊥ c cs r (fixed key.And ∷ constraint_then c rest) rest (length r) n
      (constraint_read c rest w.0 (constraints_blocked cs r h)) refl
      (constraints_reach cs r w.1 h n (omega (arith, len, constraint_more c rest)))

  pub clause_read : (c : Constraint) (cs : List Constraint) (r : List Tok) → WfConstraint c → WfConstraints cs → EndsClause r
      → length (constraints_then cs r) ≤ f → with_clause f (withs_then (WithOf c cs ∷ []) r) ≡ Some (WithOf c cs, r)
  unfolding with_clause
  clause_read c cs r w ws h len =
      let first = constraint_read c (constraints_then cs r) w (constraints_blocked cs r h) in
      let m = some_is (stop {C = ⊥} (λ c. c) (constraints_reach cs r ws h f len)) in
      rw (first, m) refl

  pub clause_shorter : (ts : List Tok) (x : WithClause × List Tok) → with_clause f ts ≡ Some x → length x.1 < length ts
  clause_shorter ts x e = by x.0 (clause_found f ts x e).words
    where
      by : (w : WithClause) → ts ≡ withs_then (w ∷ []) x.1 → length x.1 < length ts
      by (WithOf c cs) q = omega (arith, ap length q, constraint_more c (constraints_then cs x.1), constraints_more cs x.1)

  withs_end : (ws : List WithClause) (r : List Tok) → Closed r → EndsClause (withs_then ws r)
  withs_end [] r h = at_close r h
  withs_end (WithOf c cs ∷ ws) r h = at_with (constraint_then c (constraints_then cs (withs_then ws r)))

  withs_reach : (ws : List WithClause) (r : List Tok) → WfWiths ws → Closed r → (n : ℕ) → length (withs_then ws r) ≤ n → n ≤ suc f
      → Reach ⊥ ws r (Some (many [] ◌∷◌ always (with_clause f) n (withs_then ws r)))
  withs_reach [] r w h n len le = no_turn [] ◌∷◌ always (with_clause f) clause_shorter ⊥ true r (length r) n
      (λ _ x e. let q = sym (closed_no_with f r h) ∙ e in absurd cc)
  withs_reach (WithOf c cs ∷ ws) r w h zero len le = absurd (omega (arith, len))
  withs_reach (WithOf c cs ∷ ws) r w h (suc n) len le =
      let rest : List Tok = withs_then ws r in
      let l = constraint_more c (constraints_then cs rest) in
      let l2 = constraints_more cs rest in
      more_turns [] ◌∷◌ always (with_clause f) clause_shorter ⊥ (WithOf c cs) ws r (withs_then (WithOf c cs ∷ ws) r) rest (length r) n
      (clause_read c cs rest w.0 w.1 (withs_end ws r h) (omega (arith, len, le, l))) refl
      (withs_reach ws r w.2 h n (omega (arith, len, l, l2)) (omega (arith, le)))

  -- ---- items

  abbrev pub plain_at : Read Item
  plain_at = plain_item (read_mod f) (read_type f) f

  pub signature_read : (s : MaybeType) (q : ℕ) (k : List Tok) → GoodMaybe s → WfSignature s → length (signature_then s (placed key.Equals q ∷ k)) ≤ f
      → signature_of (read_mod f) (read_type f) f (signature_then s (placed key.Equals q ∷ k)) ≡ Some (s, placed key.Equals q ∷ k)
  signature_read no_type q k g w len = refl
  signature_read (some_type s) q k g w len = rw (sub_type s g w f (placed key.Equals q ∷ k) refl (omega (arith, len))) refl

  pub signature_no_paren : (s : MaybeType) (q : ℕ) (k : List Tok) → NoParen (signature_then s (placed key.Equals q ∷ k))
  signature_no_paren no_type q k = tt
  signature_no_paren (some_type s) q k = tt

  pub module_is : (at : ℕ) (x : ModuleName) (k : List Tok) → plain_at (placed key.Module at ∷ module_name_then x k) ≡ module_rest (read_mod f)
      (read_type f) f at (module_name_then x k)
  unfolding plain_item
  module_is at (UpperName x) k = refl
  module_is at (AnyName at') k = refl

  module_read : (at : ℕ) (x : ModuleName) (ps : FunctorParams) (s : MaybeType) (q : ℕ) (m : ModExpr) (k : List Tok)
      → GoodItem (ModuleItem at x ps s q m) → WfFunctorParams ps → WfSignature s → WfMod m → Follows k
      → length (item_then_words (ModuleItem at x ps s q m) k) ≤ suc f
      → plain_at (item_then_words (ModuleItem at x ps s q m) k) ≡ Some (ModuleItem at x ps s q m, k)
  module_read at x ps s q m k g wp ws wm h len =
      let k1 : List Tok = placed key.Equals q ∷ mod_then m k in
      let k2 : List Tok = signature_then s k1 in
      let k3 : List Tok = functor_params_then ps k2 in
      let l0 = module_name_more x k3 in
      let l1 = functor_params_more ps k2 in
      let l2 = signature_more s k1 in
      let p = params_exact ps g.0 wp k2 (signature_no_paren s q (mod_then m k)) (omega (arith, len, l0)) in
      let t = signature_read s q (mod_then m k) g.1 ws (omega (arith, len, l0, l1)) in
      let b = sub_mod m g.2 wm f k h (omega (arith, len, l0, l1, l2)) in
      module_is at x k3 ∙ rw (name_read_module x k3, p, t, b) refl

  plain_read : (i : Item) → GoodItem i → WfItem false i → (k : List Tok) → Follow k → length (item_then_words i k) ≤ suc f
      → plain_at (item_then_words i k) ≡ Some (i, k)
  unfolding plain_item
  plain_read (ExprItem e) g w k s len = absurd cc
  plain_read SeparatorItem g w k s len = refl
  plain_read (ValueItem at recursive b bs) g w k s len = value_read at recursive b bs k w.0 w.1 s (omega (arith, len))
  plain_read (ExternalItem x run at texts) g w k s len = rw (external_read x run at texts k w s.start len) refl
  plain_read (TypeItem run) g w k s len = rw (declaration_run_read run k w (declaration_ends k s.start)) refl
  plain_read (ExceptionItem at run) g w k s len = rw (declaration_run_read run k w (declaration_ends k s.start)) refl
  plain_read (ModuleItem at x ps t q m) g w k s len = module_read at x ps t q m k g w.0 w.1 w.2 (closed_follows k (start_closed k s.start)) len
  plain_read (ModuleTypeItem at x q t) g w k s len = rw (sub_type t g w f k (start_closed k s.start) (omega (arith, len))) refl
  plain_read (OpenItem at bang path) g w k s len =
      rw (open_read bang path k w (closed_follows k (start_closed k s.start)) (omega (arith, len, bang_more bang (path_then path k)))) refl
  plain_read (IncludeItem at m) g w k s len = rw (sub_mod m g w f k (closed_follows k (start_closed k s.start)) (omega (arith, len))) refl

  -- a `;;` is read as an item, also if an expression may be read
  separator_read : (fresh : Bool) (k : List Tok) → item_at f fresh (fixed key.DoubleSemicolon ∷ k) ≡ Some (SeparatorItem, k)
  unfolding item_of plain_item
  separator_read true k = rw (expr_none f (fixed key.DoubleSemicolon ∷ k) (fixed_begun key.DoubleSemicolon k)) refl
  separator_read false k = refl

  -- an item that may be an expression, if no expression begins
  fresh_is : (ts : List Tok) → (Begun ts → ⊥) → item_at f true ts ≡ plain_at ts
  unfolding item_of
  fresh_is ts never = rw (expr_none f ts never) refl

  pub plain_is : (ts : List Tok) → item_at f false ts ≡ plain_at ts
  unfolding item_of
  plain_is ts = refl

  expression_read : (e : Expr) (k : List Tok) → Wf e → Follow k → length (expr_then e k) ≤ f → item_at f true (expr_then e k) ≡ Some (ExprItem e, k)
  unfolding item_of
  expression_read e k w s len = rw (stop (goes_stop 0 e k s) (expr_reach e w f k len)) refl

  -- no expression begins the words of another item
  item_not_begun : (i : Item) → WfItem false i → (k : List Tok) → Follow k → Begun (item_then_words i k) → ⊥
  item_not_begun (ExprItem e) w k s b = absurd cc
  item_not_begun SeparatorItem w k s b = fixed_begun key.DoubleSemicolon k b
  item_not_begun (ValueItem at recursive v vs) w k s b = value_not_begun at recursive v vs k w.0 w.1 s b
  item_not_begun (ExternalItem x run at texts) w k s b = fixed_begun key.External _ b
  item_not_begun (TypeItem run) w k s b = fixed_begun key.Type _ b
  item_not_begun (ExceptionItem at run) w k s b = not_begun (placed key.Exception at) _ refl b
  item_not_begun (ModuleItem at x ps t q m) w k s b = not_begun (placed key.Module at) _ refl b
  item_not_begun (ModuleTypeItem at x q t) w k s b = not_begun (placed key.Module at) _ refl b
  item_not_begun (OpenItem at bang path) w k s b = not_begun (placed key.Open at) _ refl b
  item_not_begun (IncludeItem at m) w k s b = not_begun (placed key.Include at) _ refl b

-- whether the item is an expression
abbrev is_expression : Item → Bool
is_expression (ExprItem e) = true
is_expression _ = false

wf_plain : (fresh : Bool) (i : Item) → is_expression i ≡ false → WfItem fresh i → WfItem false i
wf_plain fresh (ExprItem e) p w = absurd cc
wf_plain fresh SeparatorItem p w = w
wf_plain fresh (ValueItem at recursive b bs) p w = w
wf_plain fresh (ExternalItem x run at texts) p w = w
wf_plain fresh (TypeItem run) p w = w
wf_plain fresh (ExceptionItem at run) p w = w
wf_plain fresh (ModuleItem at x ps t q m) p w = w
wf_plain fresh (ModuleTypeItem at x q t) p w = w
wf_plain fresh (OpenItem at bang path) p w = w
wf_plain fresh (IncludeItem at m) p w = w

item_start : (i : Item) (k : List Tok) → WfItem false i → ItemStart (item_then_words i k)
item_start (ExprItem e) k w = absurd cc
item_start SeparatorItem k w = refl
item_start (ValueItem at recursive b bs) k w = refl
item_start (ExternalItem x run at texts) k w = refl
item_start (TypeItem run) k w = refl
item_start (ExceptionItem at run) k w = refl
item_start (ModuleItem at x ps t q m) k w = refl
item_start (ModuleTypeItem at x q t) k w = refl
item_start (OpenItem at bang path) k w = refl
item_start (IncludeItem at m) k w = refl

ends_follow : (r : List Tok) → EndsItems r → Follow r
ends_follow _ at_end = record { start = tt; none = empty_begun }
ends_follow _ (at_word r) = record { start = refl; none = fixed_begun key.End r }

-- behind an item that is no `;;` no expression begins
items_follow : (is : Items) (r : List Tok) → WfItems false is → EndsItems r → Follow (items_then is r)
items_follow no_item r w h = ends_follow r h
items_follow (more_item SeparatorItem is) r w h = record { start = refl; none = fixed_begun key.DoubleSemicolon (items_then is r) }
items_follow (more_item (ExprItem e) is) r w h = absurd (let q = w.0.0 in cc)
items_follow (more_item (ValueItem at recursive b bs) is) r w h = let s = items_follow is r w.1 h in
    record { start = refl; none = value_not_begun at recursive b bs (items_then is r) w.0.0 w.0.1 s }
items_follow (more_item (ExternalItem x run at texts) is) r w h = record { start = refl; none = fixed_begun key.External _ }
items_follow (more_item (TypeItem run) is) r w h = record { start = refl; none = fixed_begun key.Type _ }
items_follow (more_item (ExceptionItem at run) is) r w h = record { start = refl; none = not_begun (placed key.Exception at) _ refl }
items_follow (more_item (ModuleItem at x ps t q m) is) r w h = record { start = refl; none = not_begun (placed key.Module at) _ refl }
items_follow (more_item (ModuleTypeItem at x q t) is) r w h = record { start = refl; none = not_begun (placed key.Module at) _ refl }
items_follow (more_item (OpenItem at bang path) is) r w h = record { start = refl; none = not_begun (placed key.Open at) _ refl }
items_follow (more_item (IncludeItem at m) is) r w h = record { start = refl; none = not_begun (placed key.Include at) _ refl }

plain_item_read : (f : ℕ) (fresh : Bool) (i : Item) → GoodItem i → WfItem false i → (k : List Tok) → Follow k → length (item_then_words i k) ≤ f
    → item_at f fresh (item_then_words i k) ≡ Some (i, k)
plain_item_read f true i g w k s len = fresh_is f (item_then_words i k) (item_not_begun f i w k s) ∙ plain_read f i g w k s (omega (arith, len))
plain_item_read f false i g w k s len = plain_is f (item_then_words i k) ∙ plain_read f i g w k s (omega (arith, len))

item_read : (f : ℕ) (fresh : Bool) (i : Item) (is : Items) (r : List Tok) → GoodItem i → WfItem fresh i → WfItems (is_separator i) is → EndsItems r
    → length (item_then_words i (items_then is r)) ≤ f → item_at f fresh (item_then_words i (items_then is r)) ≡ Some (i, items_then is r)
item_read f fresh SeparatorItem is r g w ws h len = separator_read f fresh (items_then is r)
item_read f true (ExprItem e) is r g w ws h len = expression_read f e (items_then is r) w.1 (items_follow is r ws h) len
item_read f false (ExprItem e) is r g w ws h len = absurd (let q = w.0 in cc)
item_read f fresh (ValueItem at recursive b bs) is r g w ws h len = plain_item_read f fresh (ValueItem at recursive b bs) g w (items_then is r)
    (items_follow is r ws h) len
item_read f fresh (ExternalItem x run at texts) is r g w ws h len = plain_item_read f fresh (ExternalItem x run at texts) g w (items_then is r)
    (items_follow is r ws h) len
item_read f fresh (TypeItem run) is r g w ws h len = plain_item_read f fresh (TypeItem run) g w (items_then is r) (items_follow is r ws h) len
item_read f fresh (ExceptionItem at run) is r g w ws h len = plain_item_read f fresh (ExceptionItem at run) g w (items_then is r)
    (items_follow is r ws h) len
item_read f fresh (ModuleItem at x ps t q m) is r g w ws h len = plain_item_read f fresh (ModuleItem at x ps t q m) g w (items_then is r)
    (items_follow is r ws h) len
item_read f fresh (ModuleTypeItem at x q t) is r g w ws h len = plain_item_read f fresh (ModuleTypeItem at x q t) g w (items_then is r)
    (items_follow is r ws h) len
item_read f fresh (OpenItem at bang path) is r g w ws h len = plain_item_read f fresh (OpenItem at bang path) g w (items_then is r)
    (items_follow is r ws h) len
item_read f fresh (IncludeItem at m) is r g w ws h len = plain_item_read f fresh (IncludeItem at m) g w (items_then is r) (items_follow is r ws h) len

end_none : (f : ℕ) (fresh : Bool) (r : List Tok) → EndsItems r → item_at f fresh r ≡ None
unfolding item_of plain_item
end_none f true _ at_end = rw (expr_none f [] empty_begun) refl
end_none f false _ at_end = refl
end_none f true _ (at_word r) = rw (expr_none f (fixed key.End ∷ r) (fixed_begun key.End r)) refl
end_none f false _ (at_word r) = refl

items_read : (is : Items) → GoodItems is → (fresh : Bool) → WfItems fresh is → (f : ℕ) (r : List Tok) → EndsItems r → (k : ℕ)
    → length (items_then is r) ≤ k → length (items_then is r) ≤ f → items_at f k fresh (items_then is r) ≡ (is, r)
unfolding items_of
items_read no_item g fresh w f r h zero len le = refl
items_read no_item g fresh w f r h (suc k) len le = rw (end_none f fresh r h) refl
items_read (more_item i is) g fresh w f r h zero len le = absurd (omega (arith, len, item_longer fresh i (items_then is r) w.0))
items_read (more_item i is) g fresh w f r h (suc k) len le =
    let l = item_longer fresh i (items_then is r) w.0 in
    let first = item_read f fresh i is r g.0 w.0 w.1 h le in
    let more = items_read is g.1 (is_separator i) w.1 f r h k (omega (arith, len, l)) (omega (arith, le, l)) in
    rw (first, more) refl

-- ---- items of signatures

sig_start : (i : SigItem) (k : List Tok) → ItemStart (sig_item_then i k)
sig_start SeparatorSig k = refl
sig_start (ValSig x run) k = refl
sig_start (ExternalSig x run at texts) k = refl
sig_start (TypeSig run) k = refl
sig_start (ExceptionSig at run) k = refl
sig_start (ModuleSig at x ps s) k = refl
sig_start (AliasSig at x q path) k = refl
sig_start (ModuleTypeSig at x q s) k = refl
sig_start (OpenSig at bang path) k = refl
sig_start (IncludeSig at s) k = refl

sig_items_start : (is : SigItems) (r : List Tok) → EndsItems r → ItemStart (sig_items_then is r)
sig_items_start no_sig_item _ at_end = tt
sig_items_start no_sig_item _ (at_word r) = refl
sig_items_start (more_sig_item i is) r h = sig_start i (sig_items_then is r)

pub module_sig_is : (f at : ℕ) (x : ModuleName) (ps : FunctorParams) (k : List Tok)
    → sig_item_at f (placed key.Module at ∷ module_name_then x (functor_params_then ps (fixed key.Colon ∷ k))) ≡ module_sig_rest (read_mod f)
    (read_type f) f at (module_name_then x (functor_params_then ps (fixed key.Colon ∷ k)))
unfolding sig_item
module_sig_is f at (AnyName at') ps k = refl
module_sig_is f at (UpperName x) no_functor_param k = refl
module_sig_is f at (UpperName x) (more_functor_param (NamedParam at' y s) ps) k = refl
module_sig_is f at (UpperName x) (more_functor_param (NoParam at') ps) k = refl

module_sig_read : (f at : ℕ) (x : ModuleName) (ps : FunctorParams) (s : ModType) (k : List Tok) → GoodParams ps → GoodType s → WfFunctorParams ps
    → WfModType s → Closed k → length (sig_item_then (ModuleSig at x ps s) k) ≤ suc f
    → sig_item_at f (sig_item_then (ModuleSig at x ps s) k) ≡ Some (ModuleSig at x ps s, k)
module_sig_read f at x ps s k g gs w ws h len =
    let k1 : List Tok = fixed key.Colon ∷ mod_type_then s k in
    let k2 : List Tok = functor_params_then ps k1 in
    let l0 = module_name_more x k2 in
    let l1 = functor_params_more ps k1 in
    let p = params_exact f ps g w k1 tt (omega (arith, len, l0)) in
    let t = sub_type s gs ws f k h (omega (arith, len, l0, l1)) in
    module_sig_is f at x ps (mod_type_then s k) ∙ rw (name_read_module f x k2, p, t) refl

sig_item_read : (f : ℕ) (i : SigItem) → GoodSigItem i → WfSigItem i → (k : List Tok) → ItemStart k → length (sig_item_then i k) ≤ suc f
    → sig_item_at f (sig_item_then i k) ≡ Some (i, k)
unfolding sig_item
sig_item_read f SeparatorSig g w k s len = refl
sig_item_read f (ValSig x run) g w k s len =
    rw (name_read x (fixed key.Colon ∷ (run ++ k)) w.0, type_run_read run k w.1 (type_ends k (start_closed k s))) refl
sig_item_read f (ExternalSig x run at texts) g w k s len = rw (external_read f x run at texts k w s len) refl
sig_item_read f (TypeSig run) g w k s len = rw (declaration_run_read run k w (declaration_ends k s)) refl
sig_item_read f (ExceptionSig at run) g w k s len = rw (declaration_run_read run k w (declaration_ends k s)) refl
sig_item_read f (ModuleSig at x ps t) g w k s len = module_sig_read f at x ps t k g.0 g.1 w.0 w.1 (start_closed k s) len
sig_item_read f (AliasSig at x q path) g w k s len =
    rw (path_read f path k w (omega (arith, len)) (no_dot k (closed_follows k (start_closed k s)))) refl
sig_item_read f (ModuleTypeSig at x q t) g w k s len = rw (sub_type t g w f k (start_closed k s) (omega (arith, len))) refl
sig_item_read f (OpenSig at bang path) g w k s len =
    rw (open_read f bang path k w (closed_follows k (start_closed k s)) (omega (arith, len, bang_more bang (path_then path k)))) refl
sig_item_read f (IncludeSig at t) g w k s len = rw (sub_type t g w f k (start_closed k s) (omega (arith, len))) refl

pub sig_shorter : (f : ℕ) (ts : List Tok) (x : SigItem × List Tok) → sig_item_at f ts ≡ Some x → length x.1 < length ts
sig_shorter f ts x e = let p = sig_item_found (read_mod f) (read_type f) f (mod_reads f) (type_reads f) ts x e in
    omega (arith, ap length p.words, sig_item_longer x.0 x.1)

sig_end_none : (f : ℕ) (r : List Tok) → EndsItems r → sig_item_at f r ≡ None
unfolding sig_item
sig_end_none f _ at_end = refl
sig_end_none f _ (at_word r) = refl

sig_items_reach : (f : ℕ) (is : SigItems) → GoodSigItems is → WfSigItems is → (r : List Tok) → EndsItems r → (n : ℕ)
    → length (sig_items_then is r) ≤ n → n ≤ suc f
    → Reach ⊥ is r (Some (many no_sig_item more_sig_item always (sig_item_at f) n (sig_items_then is r)))
sig_items_reach f no_sig_item g w r h n len le = no_turn no_sig_item more_sig_item always (sig_item_at f) (sig_shorter f) ⊥ true r (length r) n
    (λ _ x e. let q = sym (sig_end_none f r h) ∙ e in absurd cc)
sig_items_reach f (more_sig_item i is) g w r h zero len le = absurd (omega (arith, len, sig_item_longer i (sig_items_then is r)))
sig_items_reach f (more_sig_item i is) g w r h (suc n) len le =
    let rest : List Tok = sig_items_then is r in
    more_turns no_sig_item more_sig_item always (sig_item_at f) (sig_shorter f) ⊥ i is r (sig_item_then i rest) rest (length r) n
    (sig_item_read f i g.0 w.0 rest (sig_items_start is r h) (omega (arith, len, le))) refl
    (sig_items_reach f is g.1 w.1 r h n (omega (arith, len, sig_item_longer i rest)) (omega (arith, le)))

sig_items_read : (f : ℕ) (is : SigItems) → GoodSigItems is → WfSigItems is → (r : List Tok) → EndsItems r → length (sig_items_then is r) ≤ f
    → sig_items (read_mod f) (read_type f) f (sig_items_then is r) ≡ (is, r)
sig_items_read f is g w r h len = some_is (stop {C = ⊥} (λ c. c) (sig_items_reach f is g w r h f len (omega arith)))

-- ---- module expressions

module _ (f : ℕ) where
  abbrev pub argument_at : Read ModArgument
  argument_at = mod_argument (read_mod f) (read_type f) f

  -- the words of a module begin with no `)`
  abbrev NoClose : List Tok → Type 0
  NoClose (fixed x ∷ r) = ⊥
  NoClose [] = ⊥
  NoClose _ = Unit {0}

  mod_no_close : (m : ModExpr) (k : List Tok) → WfMod m → NoClose (mod_then m k)
  mod_no_close (ModPath []) k w = absurd (w refl)
  mod_no_close (ModPath (x ∷ xs)) k w = tt
  mod_no_close (Struct at is) k w = tt
  mod_no_close (Functor at ps m) k w = tt
  mod_no_close (ModApply m ms) k w = mod_no_close m (mod_arguments_then ms k) w.1
  mod_no_close (ModParen at m) k w = tt
  mod_no_close (Sealed at m s) k w = tt

  argument_is : (at : ℕ) (ts : List Tok) → NoClose ts
      → argument_at (placed key.LeftParen at ∷ ts) ≡ (read_mod f ts >>= λ m. argument_closed (read_mod f) (read_type f) f at m.0 m.1)
  unfolding mod_argument
  argument_is at [] h = absurd h
  argument_is at (fixed x ∷ ts) h = absurd h
  argument_is at (placed x at' ∷ ts) h = refl
  argument_is at (word c x ∷ ts) h = refl

  no_argument_read : (at : ℕ) (k : List Tok) → argument_at (placed key.LeftParen at ∷ fixed key.RightParen ∷ k) ≡ Some (NoArgument at, k)
  unfolding mod_argument
  no_argument_read at k = refl

  pub argument_read : (a : ModArgument) → GoodArgument a → WfModArgument a → (k : List Tok) → length (mod_argument_then a k) ≤ suc f
      → argument_at (mod_argument_then a k) ≡ Some (a, k)
  argument_read (ModuleArgument at m) g w k len =
      let inside = sub_mod m g w f (fixed key.RightParen ∷ k) refl (omega (arith, len)) in
      argument_is at (mod_then m (fixed key.RightParen ∷ k)) (mod_no_close m (fixed key.RightParen ∷ k) w) ∙ rw inside refl
  argument_read (SealedArgument at m s) g w k len =
      let rest : List Tok = fixed key.Colon ∷ mod_type_then s (fixed key.RightParen ∷ k) in
      let l = mod_more m rest in
      let inside = sub_mod m g.0 w.0 f rest refl (omega (arith, len)) in
      let type = sub_type s g.1 w.1 f (fixed key.RightParen ∷ k) refl (omega (arith, len, l)) in
      argument_is at (mod_then m rest) (mod_no_close m rest w.0) ∙ rw (inside, type) refl
  argument_read (NoArgument at) g w k len = no_argument_read at k

  pub argument_shorter : (ts : List Tok) (x : ModArgument × List Tok) → argument_at ts ≡ Some x → length x.1 < length ts
  argument_shorter ts x e = let p = mod_argument_found (read_mod f) (read_type f) f (mod_reads f) (type_reads f) ts x e in
      omega (arith, ap length p.words, argument_longer x.0 x.1)

  no_argument : (r : List Tok) → Follows r → argument_at r ≡ None
  unfolding mod_argument
  no_argument [] h = refl
  no_argument (placed key.LeftParen at ∷ r) h = absurd cc
  no_argument (_ ∷ r) h = refl

  arguments_reach : (ms : ModArguments) → GoodArguments ms → WfModArguments ms → (r : List Tok) → Follows r → (n : ℕ)
      → length (mod_arguments_then ms r) ≤ n → n ≤ suc f
      → Reach ⊥ ms r (Some (many no_mod_argument more_mod_argument always argument_at n (mod_arguments_then ms r)))
  arguments_reach no_mod_argument g w r h n len le = no_turn no_mod_argument more_mod_argument always argument_at argument_shorter ⊥ true r
      (length r) n (λ _ x e. let q = sym (no_argument r h) ∙ e in absurd cc)
  arguments_reach (more_mod_argument a ms) g w r h zero len le = absurd (omega (arith, len, argument_longer a (mod_arguments_then ms r)))
  arguments_reach (more_mod_argument a ms) g w r h (suc n) len le =
      let rest : List Tok = mod_arguments_then ms r in
      more_turns no_mod_argument more_mod_argument always argument_at argument_shorter ⊥ a ms r (mod_argument_then a rest) rest (length r) n
      (argument_read a g.0 w.0 rest (omega (arith, len, le))) refl
      (arguments_reach ms g.1 w.1 r h n (omega (arith, len, argument_longer a rest)) (omega (arith, le)))

  arguments_exact : (ms : ModArguments) → GoodArguments ms → WfModArguments ms → (r : List Tok) → Follows r → length (mod_arguments_then ms r) ≤ f
      → mod_arguments (read_mod f) (read_type f) f (mod_arguments_then ms r) ≡ (ms, r)
  arguments_exact ms g w r h len = some_is (stop {C = ⊥} (λ c. c) (arguments_reach ms g w r h f len (omega arith)))

  path_mod_read : (path : List Name) (r : List Tok) → path ≢ [] → dot_upper r ≡ None → length (path_then path r) ≤ suc f
      → simple_mod_at f (path_then path r) ≡ Some (ModPath path, r)
  unfolding simple_mod
  path_mod_read [] r w h len = absurd (w refl)
  path_mod_read (x ∷ xs) r w h len = ap (λ (o : Option (List Name × List Tok)). o >>= λ p. Some (ModPath p.0, p.1)) (path_read f (x ∷ xs) r w len h)

  pub struct_read : (at : ℕ) (is : Items) (r : List Tok) → GoodItems is → WfItems true is → length (mod_then (Struct at is) r) ≤ suc f
      → simple_mod_at f (mod_then (Struct at is) r) ≡ Some (Struct at is, r)
  unfolding simple_mod
  struct_read at is r g w len = rw (items_read is g true w f (fixed key.End ∷ r) (at_word r) f (omega (arith, len)) (omega (arith, len))) refl

  pub paren_mod_read : (at : ℕ) (m : ModExpr) (r : List Tok) → GoodMod m → WfMod m → length (mod_then (ModParen at m) r) ≤ suc f
      → simple_mod_at f (mod_then (ModParen at m) r) ≡ Some (ModParen at m, r)
  unfolding simple_mod
  paren_mod_read at m r g w len = rw (sub_mod m g w f (fixed key.RightParen ∷ r) refl (omega (arith, len))) refl

  pub sealed_read : (at : ℕ) (m : ModExpr) (s : ModType) (r : List Tok) → GoodMod m → GoodType s → WfMod m → WfModType s
      → length (mod_then (Sealed at m s) r) ≤ suc f → simple_mod_at f (mod_then (Sealed at m s) r) ≡ Some (Sealed at m s, r)
  unfolding simple_mod
  sealed_read at m s r g gs w ws len =
      let rest : List Tok = fixed key.Colon ∷ mod_type_then s (fixed key.RightParen ∷ r) in
      let l = mod_more m rest in
      let inside = sub_mod m g w f rest refl (omega (arith, len)) in
      let type = sub_type s gs ws f (fixed key.RightParen ∷ r) refl (omega (arith, len, l)) in
      rw (inside, type) refl

  arguments_no_dot : (ms : ModArguments) (r : List Tok) → Follows r → dot_upper (mod_arguments_then ms r) ≡ None
  arguments_no_dot no_mod_argument r h = no_dot r h
  arguments_no_dot (more_mod_argument (ModuleArgument at m) ms) r h = refl
  arguments_no_dot (more_mod_argument (SealedArgument at m s) ms) r h = refl
  arguments_no_dot (more_mod_argument (NoArgument at) ms) r h = refl

  apply_read : (m : ModExpr) (ms : ModArguments) (r : List Tok) → GoodMod m → GoodArguments ms → is_simple_mod m ≡ true → WfMod m → WfModArguments ms
      → Follows r → length (mod_then m (mod_arguments_then ms r)) ≤ suc f → mod_apply_at f (mod_then m (mod_arguments_then ms r)) ≡ Some
      (grown_mod m ms, r)
  unfolding mod_apply
  apply_read m ms r g gs p w ws h len =
      let first = g.lone p w f (mod_arguments_then ms r) (arguments_no_dot ms r h) len in
      let l = mod_longer m (mod_arguments_then ms r) w in
      let more = arguments_exact ms gs ws r h (omega (arith, len, l)) in
      rw (first, more) refl

  functor_read : (at : ℕ) (ps : FunctorParams) (m : ModExpr) (r : List Tok) → GoodParams ps → GoodMod m → WfMod (Functor at ps m) → Follows r
      → length (mod_then (Functor at ps m) r) ≤ suc f → mod_expr_at f (mod_then (Functor at ps m) r) ≡ Some (Functor at ps m, r)
  unfolding mod_expr
  functor_read at no_functor_param m r gs g w h len = absurd (w.0 refl)
  functor_read at (more_functor_param p ps) m r gs g w h len =
      let rest : List Tok = fixed key.Arrow ∷ mod_then m r in
      let l = functor_params_more (more_functor_param p ps) rest in
      let first = params_exact f (more_functor_param p ps) gs w.1 rest tt (omega (arith, len)) in
      let inside = sub_mod m g w.2 f r h (omega (arith, len, l)) in
      rw (first, inside) refl

  -- not a `functor`
  pub mod_plain : (m : ModExpr) (k : List Tok) → is_functor m ≡ false → WfMod m → mod_expr_at f (mod_then m k) ≡ mod_apply_at f (mod_then m k)
  unfolding mod_expr
  mod_plain (ModPath []) k p w = absurd (w refl)
  mod_plain (ModPath (x ∷ xs)) k p w = refl
  mod_plain (Struct at is) k p w = refl
  mod_plain (Functor at ps m) k p w = absurd cc
  mod_plain (ModParen at m) k p w = refl
  mod_plain (Sealed at m s) k p w = refl
  mod_plain (ModApply (ModPath []) ms) k p w = absurd (w.1 refl)
  mod_plain (ModApply (ModPath (x ∷ xs)) ms) k p w = refl
  mod_plain (ModApply (Struct at is) ms) k p w = refl
  mod_plain (ModApply (Functor at ps m) ms) k p w = absurd (let q = w.0 in cc)
  mod_plain (ModApply (ModApply m ms') ms) k p w = absurd (let q = w.0 in cc)
  mod_plain (ModApply (ModParen at m) ms) k p w = refl
  mod_plain (ModApply (Sealed at m s) ms) k p w = refl

flat_read : (f : ℕ) (m : ModExpr) (r : List Tok) → simple_mod_at f (mod_then m r) ≡ Some (m, r) → Follows r → WfMod m → length (mod_then m r) ≤ suc f
    → mod_apply_at f (mod_then m r) ≡ Some (m, r)
unfolding mod_apply
flat_read f m r first s w len = rw (first, arguments_exact f no_mod_argument tt tt r s (omega (arith, len, mod_longer m r w))) refl

lone_mod : (m : ModExpr) → is_simple_mod m ≡ true
    → (WfMod m → (f : ℕ) (r : List Tok) → dot_upper r ≡ None → length (mod_then m r) ≤ suc f → simple_mod_at f (mod_then m r) ≡ Some (m, r))
    → GoodMod m
lone_mod m p h =
    let lone : is_simple_mod m ≡ true → WfMod m → (f : ℕ) (r : List Tok) → dot_upper r ≡ None → length (mod_then m r) ≤ suc f
    → simple_mod_at f (mod_then m r) ≡ Some (m, r) = λ _. h in
    let flat : is_functor m ≡ false → WfMod m → (f : ℕ) (r : List Tok) → Follows r → length (mod_then m r) ≤ suc f
    → mod_apply_at f (mod_then m r) ≡ Some (m, r) = λ _ w f r s len. flat_read f m r (h w f r (no_dot r s) len) s w len in
    record { lone = lone; flat = flat; full = λ w f r s len. mod_plain f m r (simple_plain m p) w ∙ flat (simple_plain m p) w f r s len }

-- ---- module types

module _ (f : ℕ) where
  path_type_read : (path : List Name) (r : List Tok) → path ≢ [] → Follows r → length (path_then path r) ≤ suc f
      → simple_type_at f (path_then path r) ≡ Some (TypePath path, r)
  unfolding simple_type
  path_type_read [] r w h len = absurd (w refl)
  path_type_read (x ∷ xs) r w h len = ap (λ (o : Option (List Name × List Tok)). o >>= λ p. Some (TypePath p.0, p.1))
      (path_read f (x ∷ xs) r w len (no_dot r h))

  pub sig_read : (at : ℕ) (is : SigItems) (r : List Tok) → GoodSigItems is → WfSigItems is → length (mod_type_then (Sig at is) r) ≤ suc f
      → simple_type_at f (mod_type_then (Sig at is) r) ≡ Some (Sig at is, r)
  unfolding simple_type
  sig_read at is r g w len = rw (sig_items_read f is g w (fixed key.End ∷ r) (at_word r) (omega (arith, len))) refl

  type_of_read : (at : ℕ) (m : ModExpr) (r : List Tok) → GoodMod m → is_functor m ≡ false → WfMod m → Follows r
      → length (mod_type_then (TypeOf at m) r) ≤ suc f → simple_type_at f (mod_type_then (TypeOf at m) r) ≡ Some (TypeOf at m, r)
  unfolding simple_type
  type_of_read at m r g p w h len = rw (g.flat p w f r h (omega (arith, len))) refl

  pub paren_type_read : (at : ℕ) (s : ModType) (r : List Tok) → GoodType s → WfModType s → length (mod_type_then (TypeParen at s) r) ≤ suc f
      → simple_type_at f (mod_type_then (TypeParen at s) r) ≡ Some (TypeParen at s, r)
  unfolding simple_type
  paren_type_read at s r g w len = rw (sub_type s g w f (fixed key.RightParen ∷ r) refl (omega (arith, len))) refl

  -- the tokens begin with neither a `)` nor a name and a `:`
  abbrev NoName : List Tok → Type 0
  NoName (word class.Upper x ∷ fixed key.Colon ∷ r) = ⊥
  NoName (placed key.Underscore at ∷ r) = ⊥
  NoName (fixed x ∷ r) = ⊥
  NoName [] = ⊥
  NoName _ = Unit {0}

  upper_no_name : (x : Name) (k : List Tok) → NoColon k → NoName (word class.Upper x ∷ k)
  upper_no_name x [] h = tt
  upper_no_name x (fixed key.Colon ∷ r) h = absurd h
  upper_no_name x (_ ∷ r) h = tt

  no_name : (s : ModType) (k : List Tok) → WfModType s → NoColon k → NoName (mod_type_then s k)
  no_name (TypePath []) k w h = absurd (w refl)
  no_name (TypePath (x ∷ [])) k w h = upper_no_name x k h
  no_name (TypePath (x ∷ y ∷ ys)) k w h = tt
  no_name (Sig at is) k w h = tt
  no_name (TypeOf at m) k w h = tt
  no_name (TypeParen at s) k w h = tt
  no_name (With s []) k w h = absurd (w.2 refl)
  no_name (With s (WithOf c cs ∷ ws)) k w h = no_name s (withs_then (WithOf c cs ∷ ws) k) w.1 tt
  no_name (FunctorType at ps s) k w h = tt
  no_name (ParamArrow (NamedParam at x s') s) k w h = tt
  no_name (ParamArrow (NoParam at) s) k w h = tt
  no_name (Arrow s s') k w h = no_name s (fixed key.Arrow ∷ mod_type_then s' k) w.1 tt

  paren_no_param : (at : ℕ) (ts : List Tok) → NoName ts → param_at f (placed key.LeftParen at ∷ ts) ≡ None
  unfolding functor_param
  paren_no_param at [] h = absurd h
  paren_no_param at (fixed x ∷ r) h = absurd h
  paren_no_param at (word class.Upper x ∷ fixed key.Colon ∷ r) h = absurd h
  paren_no_param at (word class.Upper x ∷ _) h = refl
  paren_no_param at (word _ x ∷ r) h = refl
  paren_no_param at (placed key.Underscore at' ∷ r) h = absurd h
  paren_no_param at (placed _ at' ∷ r) h = refl

  abbrev pub with_at : Read ModType
  with_at = with_type (read_mod f) (read_type f) f

  paren_is_with : (at : ℕ) (ts : List Tok) → NoName ts → mod_type_at f (placed key.LeftParen at ∷ ts) ≡ with_at (placed key.LeftParen at ∷ ts)
  unfolding mod_type
  paren_is_with at ts h = rw (paren_no_param at ts h) refl

  -- no parameter begins a SimpleType
  pub type_plain : (s : ModType) (k : List Tok) → is_simple_type s ≡ true → WfModType s
      → mod_type_at f (mod_type_then s k) ≡ with_at (mod_type_then s k)
  unfolding mod_type functor_param
  type_plain (TypePath []) k p w = absurd (w refl)
  type_plain (TypePath (x ∷ xs)) k p w = refl
  type_plain (Sig at is) k p w = refl
  type_plain (TypeOf at m) k p w = refl
  type_plain (TypeParen at s) k p w = paren_is_with at (mod_type_then s (fixed key.RightParen ∷ k)) (no_name s (fixed key.RightParen ∷ k) w tt)
  type_plain _ k p w = absurd cc

  with_read : (s : ModType) (ws : List WithClause) (r : List Tok) → GoodType s → WfModType (With s ws) → Closed r
      → length (mod_type_then (With s ws) r) ≤ suc f → mod_type_at f (mod_type_then (With s ws) r) ≡ Some (With s ws, r)
  with_read s [] r g w h len = absurd (w.2 refl)
  with_read s (WithOf c cs ∷ ws) r g w h len =
      let rest : List Tok = withs_then (WithOf c cs ∷ ws) r in
      let l = type_longer s rest w.1 in
      let first = g.lone w.0 w.1 f rest refl len in
      let more = some_is (stop {C = ⊥} (λ c. c) (withs_reach f (WithOf c cs ∷ ws) r w.3 h f (omega (arith, len, l)) (omega arith))) in
      type_plain s rest w.0 w.1 ∙ rw (first, more) refl

  pub no_withs : (r : List Tok) → with_clause f r ≡ None → with_clauses f r ≡ ([], r)
  no_withs r h = some_is (stop {C = ⊥} (λ c. c)
      (no_turn [] ◌∷◌ always (with_clause f) (clause_shorter f) ⊥ true r (length r) f (λ _ x e. let q = sym h ∙ e in absurd cc)))

  lone_type_read : (s : ModType) (r : List Tok) → is_simple_type s ≡ true → WfModType s → simple_type_at f (mod_type_then s r) ≡ Some (s, r)
      → Closed r → mod_type_at f (mod_type_then s r) ≡ Some (s, r)
  lone_type_read s r p w first h = type_plain s r p w ∙ rw (first, no_withs r (closed_no_with f r h), closed_no_arrow r h) refl

  pub arrow_no_with : (k : List Tok) → with_clause f (fixed key.Arrow ∷ k) ≡ None
  unfolding with_clause
  arrow_no_with k = refl

  arrow_read : (s s' : ModType) (r : List Tok) → GoodType s → GoodType s' → WfModType (Arrow s s') → Closed r
      → length (mod_type_then (Arrow s s') r) ≤ suc f → mod_type_at f (mod_type_then (Arrow s s') r) ≡ Some (Arrow s s', r)
  arrow_read s s' r g g' w h len =
      let rest : List Tok = fixed key.Arrow ∷ mod_type_then s' r in
      let l = type_longer s rest w.1 in
      let first = g.lone w.0 w.1 f rest refl len in
      let inside = sub_type s' g' w.2 f r h (omega (arith, len, l)) in
      type_plain s rest w.0 w.1 ∙ rw (first, no_withs rest (arrow_no_with (mod_type_then s' r)), inside) refl

  pub param_arrow_is : (p : FunctorParam) (k : List Tok) → mod_type_at f (functor_param_then p k) ≡ param_or (read_mod f) (read_type f) f
      (functor_param_then p k) (param_at f (functor_param_then p k))
  unfolding mod_type
  param_arrow_is (NamedParam at x s) k = refl
  param_arrow_is (NoParam at) k = refl

  param_arrow_read : (p : FunctorParam) (s : ModType) (r : List Tok) → GoodParam p → GoodType s → WfModType (ParamArrow p s) → Closed r
      → length (mod_type_then (ParamArrow p s) r) ≤ suc f → mod_type_at f (mod_type_then (ParamArrow p s) r) ≡ Some (ParamArrow p s, r)
  param_arrow_read p s r gp g w h len =
      let rest : List Tok = fixed key.Arrow ∷ mod_type_then s r in
      let l = param_longer p rest in
      let first = param_read f p gp w.0 rest len in
      let inside = sub_type s g w.1 f r h (omega (arith, len, l)) in
      param_arrow_is p rest ∙ rw (first, inside) refl

  functor_type_read : (at : ℕ) (ps : FunctorParams) (s : ModType) (r : List Tok) → GoodParams ps → GoodType s → WfModType (FunctorType at ps s)
      → Closed r → length (mod_type_then (FunctorType at ps s) r) ≤ suc f → mod_type_at f (mod_type_then (FunctorType at ps s) r) ≡ Some
      (FunctorType at ps s, r)
  unfolding mod_type
  functor_type_read at no_functor_param s r gs g w h len = absurd (w.0 refl)
  functor_type_read at (more_functor_param p ps) s r gs g w h len =
      let rest : List Tok = fixed key.Arrow ∷ mod_type_then s r in
      let l = functor_params_more (more_functor_param p ps) rest in
      let first = params_exact f (more_functor_param p ps) gs w.1 rest tt (omega (arith, len)) in
      let inside = sub_type s g w.2 f r h (omega (arith, len, l)) in
      rw (first, inside) refl

lone_type : (s : ModType) → is_simple_type s ≡ true
    → (WfModType s → (f : ℕ) (r : List Tok) → Follows r → length (mod_type_then s r) ≤ suc f → simple_type_at f (mod_type_then s r) ≡ Some (s, r))
    → GoodType s
lone_type s p h = record { lone = λ _. h; full = λ w f r c len. lone_type_read f s r p w (h w f r (closed_follows r c) len) c }

whole_type : (s : ModType) → is_simple_type s ≡ false
    → (WfModType s → (f : ℕ) (r : List Tok) → Closed r → length (mod_type_then s r) ≤ suc f → mod_type_at f (mod_type_then s r) ≡ Some (s, r))
    → GoodType s
whole_type s p h = record { lone = λ q. absurd (clash q p); full = h }

-- ---- the induction

apply_good : (m : ModExpr) (ms : ModArguments) → GoodMod m → GoodArguments ms → GoodMod (ModApply m ms)
apply_good m no_mod_argument g gs = record { lone = λ p. absurd cc; flat = λ p w. absurd (w.2 refl); full = λ w. absurd (w.2 refl) }
apply_good m (more_mod_argument a ms) g gs = record {
  lone = λ p. absurd cc;
  flat = λ p w f r s len. apply_read f m (more_mod_argument a ms) r g gs w.0 w.1 w.3 s len;
  full = λ w f r s len. mod_plain f (ModApply m (more_mod_argument a ms)) r refl w ∙ apply_read f m (more_mod_argument a ms) r g gs w.0 w.1 w.3 s len;
}

mutual
  pub mod_good : (m : ModExpr) → GoodMod m
  mod_good (ModPath path) = lone_mod (ModPath path) refl (λ w f r d len. path_mod_read f path r w d len)
  mod_good (Struct at is) = lone_mod (Struct at is) refl (λ w f r d len. struct_read f at is r (items_good is) w len)
  mod_good (Functor at ps m) =
      record { lone = λ p. absurd cc; flat = λ p. absurd cc; full = λ w f r s len. functor_read f at ps m r (params_good ps) (mod_good m) w s len }
  mod_good (ModApply m ms) = apply_good m ms (mod_good m) (arguments_good ms)
  mod_good (ModParen at m) = lone_mod (ModParen at m) refl (λ w f r d len. paren_mod_read f at m r (mod_good m) w len)
  mod_good (Sealed at m s) = lone_mod (Sealed at m s) refl (λ w f r d len. sealed_read f at m s r (mod_good m) (type_good s) w.0 w.1 len)

  pub argument_good : (a : ModArgument) → GoodArgument a
  argument_good (ModuleArgument at m) = mod_good m
  argument_good (SealedArgument at m s) = (mod_good m, type_good s)
  argument_good (NoArgument at) = tt

  pub arguments_good : (ms : ModArguments) → GoodArguments ms
  arguments_good no_mod_argument = tt
  arguments_good (more_mod_argument a ms) = (argument_good a, arguments_good ms)

  pub param_good : (p : FunctorParam) → GoodParam p
  param_good (NamedParam at x s) = type_good s
  param_good (NoParam at) = tt

  pub params_good : (ps : FunctorParams) → GoodParams ps
  params_good no_functor_param = tt
  params_good (more_functor_param p ps) = (param_good p, params_good ps)

  pub type_good : (s : ModType) → GoodType s
  type_good (TypePath path) = lone_type (TypePath path) refl (λ w f r s len. path_type_read f path r w s len)
  type_good (Sig at is) = lone_type (Sig at is) refl (λ w f r s len. sig_read f at is r (sig_items_good is) w len)
  type_good (TypeOf at m) = lone_type (TypeOf at m) refl (λ w f r s len. type_of_read f at m r (mod_good m) w.0 w.1 s len)
  type_good (TypeParen at t) = lone_type (TypeParen at t) refl (λ w f r s len. paren_type_read f at t r (type_good t) w len)
  type_good (With t ws) = whole_type (With t ws) refl (λ w f r s len. with_read f t ws r (type_good t) w s len)
  type_good (FunctorType at ps t) =
      whole_type (FunctorType at ps t) refl (λ w f r s len. functor_type_read f at ps t r (params_good ps) (type_good t) w s len)
  type_good (ParamArrow p t) = whole_type (ParamArrow p t) refl (λ w f r s len. param_arrow_read f p t r (param_good p) (type_good t) w s len)
  type_good (Arrow t t') = whole_type (Arrow t t') refl (λ w f r s len. arrow_read f t t' r (type_good t) (type_good t') w s len)

  pub maybe_good : (s : MaybeType) → GoodMaybe s
  maybe_good no_type = tt
  maybe_good (some_type s) = type_good s

  pub item_good : (i : Item) → GoodItem i
  item_good (ExprItem e) = tt
  item_good SeparatorItem = tt
  item_good (ValueItem at recursive b bs) = tt
  item_good (ExternalItem x run at texts) = tt
  item_good (TypeItem run) = tt
  item_good (ExceptionItem at run) = tt
  item_good (ModuleItem at x ps s q m) = (params_good ps, maybe_good s, mod_good m)
  item_good (ModuleTypeItem at x q s) = type_good s
  item_good (OpenItem at bang path) = tt
  item_good (IncludeItem at m) = mod_good m

  pub items_good : (is : Items) → GoodItems is
  items_good no_item = tt
  items_good (more_item i is) = (item_good i, items_good is)

  pub sig_item_good : (i : SigItem) → GoodSigItem i
  sig_item_good SeparatorSig = tt
  sig_item_good (ValSig x run) = tt
  sig_item_good (ExternalSig x run at texts) = tt
  sig_item_good (TypeSig run) = tt
  sig_item_good (ExceptionSig at run) = tt
  sig_item_good (ModuleSig at x ps s) = (params_good ps, type_good s)
  sig_item_good (AliasSig at x q path) = tt
  sig_item_good (ModuleTypeSig at x q s) = type_good s
  sig_item_good (OpenSig at bang path) = tt
  sig_item_good (IncludeSig at s) = type_good s

  pub sig_items_good : (is : SigItems) → GoodSigItems is
  sig_items_good no_sig_item = tt
  sig_items_good (more_sig_item i is) = (sig_item_good i, sig_items_good is)

-- ---- files

pub body_read : (file n : ℕ) (is : Items) → WfItems true is → length (items_then is []) ≤ n
    → read_body file n (items_then is []) ≡ Some (Body file is)
unfolding read_body
body_read file n is w len = rw (items_read is (items_good is) true w n [] at_end n len len) refl

pub face_read : (file n : ℕ) (is : SigItems) → WfSigItems is → length (sig_items_then is []) ≤ n
    → read_face file n (sig_items_then is []) ≡ Some (Face file is)
unfolding read_face
face_read file n is w len = rw (sig_items_read n is (sig_items_good is) w [] at_end len) refl
