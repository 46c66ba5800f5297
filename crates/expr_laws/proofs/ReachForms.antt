-- No binding, case or form of levels 1 and 2 is missed, if none of its parts is.
use Rattle.std.proofs.Common.{◌≡◌, ◌≢◌, ℕ, zero, suc, ◌<◌, ◌≤◌, List, [], ◌∷◌, length, Bool, true, false, not, Option, Some, None, refl, sym, ap}
use Rattle.std.proofs.Common.{subst, ◌∙◌, arith, codes}
use Rattle.std.specs.Str.{bytes_eq}
use Rattle.std.proofs.lemmas.Slice.Eq.{bytes_eq-Decides}
use Rattle.rotor_base.specs.declared.token.Class.TheVariants as class
use Rattle.ml_trees.specs.declared.fixed.Fixed.TheVariants as key
use Rattle.ml_trees.specs.declared.word.Bracket.{Bracket}
use Rattle.ml_trees.specs.declared.word.Bracket.TheVariants as bracket
use Rattle.ml_trees.specs.Tok.{Name, Tok, fixed, placed, word}
use Rattle.expr_reading.specs.declared.wanted.Wanted.TheVariants as wanted
use Rattle.ml_trees.proofs.Words.{opening, truth, path_then, qualified_then, name_then, type_then, optional_then, bang_then, local_then, expr_then}
use Rattle.ml_trees.proofs.Words.{links_then, guard_then, tail_then, binding_then, bindings_then, case_then, cases_then, arguments_then, params_then}
use Rattle.ml_trees.proofs.Words.{parts_then}
use Rattle.ml_trees.specs.WellFormed.{WfType, WfBang, level, on_edge, has_else, is_form, is_open_if, has_cases, NoOpenIf, NoCases, Wf, WfGuard}
use Rattle.ml_trees.specs.WellFormed.{WfTail, WfBinding, WfBindings, WfCase, WfCases}
use Rattle.ml_trees.specs.Tree.{Pat, ValuePat, ValueName, PlainName, OperatorName, LocalModule, Expr, Seq, Let, LetOpen, LetModule, Fun, Function}
use Rattle.ml_trees.specs.Tree.{Match, Try, If, Chain, Minus, Apply, ConstrApply, TagApply, Assert, Lazy, Postfix, Prefixed, Literal, BoolExpr}
use Rattle.ml_trees.specs.Tree.{Value, Constr, Tag, UnitExpr, Paren, Typed, Coerced, EmptyBegin, Begin, EmptyList, ListExpr, Record, Opened, While}
use Rattle.ml_trees.specs.Tree.{For, MaybeExpr, no_expr, some_expr, Tail, no_else, or_else, or_if, Binding, PlainBinding, AppliedBinding, Bindings}
use Rattle.ml_trees.specs.Tree.{no_binding, more_binding, Case, CaseOf, Cases, no_case, more_case, Params, no_param, more_param}
use Rattle.token_reading.specs.Steps.{Read, ◌>>=◌, many, always}
use Rattle.token_reading.specs.Pieces.{value_name}
use Rattle.token_reading.proofs.Reach.{Reach, stop, and_then, as_read, many_shorter, many_if_shorter, no_turn, last_turn, more_turns, map_some}
use Rattle.token_reading.proofs.Reach.{map_read}
use Rattle.token_reading.proofs.Reach.{expect_same}
use Rattle.pattern_reading.proofs.LongerPat.{begins_pat, Opens, pat_opens, pat_longer, path_longer, type_longer, name_longer, optional_longer}
use Rattle.token_reading.proofs.ReachPieces.{name_read, type_read}
use Rattle.pattern_reading.proofs.ReachSimple.{Goes as PatGoes}
use Rattle.expr_reading.specs.ExprReading.{no_open_if, no_cases, cons_branch, branch_ends, first_bar, optional_bang, bound, binding_by, binding}
use Rattle.expr_reading.specs.ExprReading.{next_binding, more_bindings, bindings, let_values, let_open, let_module, let_expr, fun_expr, case_guard}
use Rattle.expr_reading.specs.ExprReading.{one_case, next_case, more_cases, all_cases, match_expr, then_branch, else_branch, if_tail, if_expr}
use Rattle.expr_reading.specs.ExprReading.{read_expr, Otherwise, last_branch, if_branch}
use Rattle.expr_laws.proofs.LongerExpr.{bang_more, local_more, expr_more, guard_more, binding_more, bindings_more, params_more, expr_longer}
use Rattle.expr_laws.proofs.FoundExpr.{PartOf, next_binding_found, next_case_found, else_found, expr_reads, of_last, of_if}
use Rattle.expr_laws.proofs.GoesExpr.{Headed, Goes, closer_stops, else_stops, bar_stops, Edges, goes_form, goes_if, body_of, last_body, on_body_is}
use Rattle.expr_laws.proofs.GoesExpr.{end_of, let_edges, let_open_edges, let_module_edges, fun_edges, function_edges, match_edges, try_edges}
use Rattle.expr_laws.proofs.GoesExpr.{if_edges, by_else, by_bar}
use Rattle.expr_laws.proofs.ReachParams.{Good, GoodMaybe, GoodTail, GoodParams, GoodBinding, GoodBindings, GoodCase, GoodCases, sub_seq, sub_expr}
use Rattle.expr_laws.proofs.ReachParams.{seq_exact, pat_exact, path_read, local_read, NoParam, plain_is, type_ends, params_exact, at_in, at_arrow}

-- ---- bindings

-- the value of a binding, and of the last of some
abbrev pub value_of : Binding → Expr
value_of (PlainBinding p run at e) = e
value_of (AppliedBinding x ps run at e) = e

abbrev pub last_value : Binding → Bindings → Expr
last_value b no_binding = value_of b
last_value b (more_binding b' bs) = last_value b' bs

abbrev pub binding_at : ℕ → Read Binding
binding_at f = binding (read_expr f) f

bound_reach : {C : Type 0} (run : Option (List Tok)) (at : ℕ) (e : Expr) → Good e → WfType run → Wf e → (f : ℕ) (r : List Tok) → (Goes 0 e r → C)
    → length (type_then run (placed key.Equals at ∷ expr_then e r)) ≤ f
    → Reach C (run, at, e) r (bound (read_expr f) f (type_then run (placed key.Equals at ∷ expr_then e r)))
unfolding bound
bound_reach run at e g w we f r to len =
    let l = type_longer run (placed key.Equals at ∷ expr_then e r) in
    let t = type_read run (placed key.Equals at ∷ expr_then e r) w refl tt in
    rw t (map_read (λ e. (run, at, e)) to (sub_seq e g we f r (omega (arith, len, l))))

equals_stop : (run : Option (List Tok)) (q : ℕ) (k : List Tok) → PatGoes 0 (type_then run (placed key.Equals q ∷ k)) → ⊥
equals_stop None q k h = absurd (omega (arith, h))
equals_stop (Some run) q k h = absurd (omega (arith, h))

equals_no_param : (run : Option (List Tok)) (q : ℕ) (k : List Tok) → NoParam (type_then run (placed key.Equals q ∷ k))
equals_no_param None q k = tt
equals_no_param (Some run) q k = tt

applied_is : (f : ℕ) (x : ValueName) (k : List Tok) → binding_at f k ≡ binding_by (read_expr f) f k (value_name k)
unfolding binding
applied_is f x k = refl

applied_reach : {C : Type 0} (x : ValueName) (ps : Params) (run : Option (List Tok)) (at : ℕ) (e : Expr) → GoodParams ps → Good e
    → WfBinding (AppliedBinding x ps run at e) → (f : ℕ) (r : List Tok) → (Goes 0 e r → C)
    → length (binding_then (AppliedBinding x ps run at e) r) ≤ f
    → Reach C (AppliedBinding x ps run at e) r (binding_at f (binding_then (AppliedBinding x ps run at e) r))
applied_reach x no_param run at e gs g w f r to len = absurd (w.1 refl)
applied_reach x (more_param p ps) run at e gs g w f r to len =
    let rest : List Tok = type_then run (placed key.Equals at ∷ expr_then e r) in
    let l = name_longer x (params_then (more_param p ps) rest) in
    let l2 = params_more (more_param p ps) rest in
    let n = name_read x (params_then (more_param p ps) rest) w.0 in
    let m = params_exact f (more_param p ps) gs w.2 rest (type_ends run at (expr_then e r)) (omega (arith, len, l)) in
    as_read (applied_is f x (name_then x (params_then (more_param p ps) rest)))
    (rw (n, m) (map_read (λ (v : Option (List Tok) × ℕ × Expr). AppliedBinding x (more_param p ps) v.0 v.1 v.2) (λ h. h)
    (bound_reach run at e g w.3 w.4 f r to (omega (arith, len, l, l2)))))

plain_reach : {C : Type 0} (p : Pat) (run : Option (List Tok)) (at : ℕ) (e : Expr) → Good e → WfBinding (PlainBinding p run at e)
    → (f : ℕ) (r : List Tok) → (Goes 0 e r → C) → length (binding_then (PlainBinding p run at e) r) ≤ f
    → Reach C (PlainBinding p run at e) r (binding_at f (binding_then (PlainBinding p run at e) r))
plain_reach p run at e g w f r to len =
    let rest : List Tok = type_then run (placed key.Equals at ∷ expr_then e r) in
    let l = pat_longer p rest w.0 in
    let n = pat_exact p w.0 f rest (equals_stop run at (expr_then e r)) len in
    as_read (plain_is f p rest w.0 (equals_no_param run at (expr_then e r)))
    (rw n (map_read (λ (v : Option (List Tok) × ℕ × Expr). PlainBinding p v.0 v.1 v.2) (λ h. h)
    (bound_reach run at e g w.1 w.2 f r to (omega (arith, len, l)))))

pub binding_reach : {C : Type 0} (b : Binding) → GoodBinding b → WfBinding b → (f : ℕ) (r : List Tok) → (Goes 0 (value_of b) r → C)
    → length (binding_then b r) ≤ f → Reach C b r (binding_at f (binding_then b r))
binding_reach (PlainBinding p run at e) g w f r to len = plain_reach p run at e g w f r to len
binding_reach (AppliedBinding x ps run at e) g w f r to len = applied_reach x ps run at e g.0 g.1 w f r to len

pub binding_longer : (b : Binding) (k : List Tok) → WfBinding b → length k < length (binding_then b k)
binding_longer (PlainBinding p run at e) k w =
    omega (
      arith,
      pat_longer p (type_then run (placed key.Equals at ∷ expr_then e k)) w.0,
      type_longer run (placed key.Equals at ∷ expr_then e k),
      expr_more e k,
    )
binding_longer (AppliedBinding x ps run at e) k w =
    omega (
      arith,
      name_longer x (params_then ps (type_then run (placed key.Equals at ∷ expr_then e k))),
      params_more ps
          (type_then run (placed key.Equals at ∷ expr_then e k)),
      type_longer run (placed key.Equals at ∷ expr_then e k),
      expr_more e k,
    )

and_stops : (e : Expr) (r : List Tok) → Goes 0 e (fixed key.And ∷ r) → ⊥
and_stops e r h = closer_stops 0 e key.And r refl (λ q. cc) (λ q. cc) h

module _ (f : ℕ) where
  abbrev next_binding_at : Read Binding
  next_binding_at = next_binding (read_expr f) f

  next_binding_is : (ts : List Tok) (x : Binding × List Tok) → next_binding_at ts ≡ Some x → Headed key.And ts × (length x.1 < length ts)
  next_binding_is ts x e =
      let p = next_binding_found (read_expr f) f (expr_reads f) ts x e in
      ((p.0, p.1), omega (arith, ap length p.1, ap length p.2.words, binding_longer x.0 x.1 p.2.wf))

  next_binding_shorter : (ts : List Tok) (x : Binding × List Tok) → next_binding_at ts ≡ Some x → length x.1 < length ts
  next_binding_shorter ts x e = (next_binding_is ts x e).1

  module _ (C : Type 0) (r : List Tok) (and : Headed key.And r → C) where
    and_next : (x : Binding × List Tok) → next_binding_at r ≡ Some x → C × (length x.1 < length r)
    and_next x e = let p = next_binding_is r x e in (and p.0, p.1)

    more_reach : (b : Binding) (bs : Bindings) → GoodBindings (more_binding b bs) → WfBindings (more_binding b bs) → (Goes 0 (last_value b bs) r → C)
        → (n : ℕ) → length (bindings_then (more_binding b bs) r) ≤ n → n ≤ f
        → Reach C (more_binding b bs) r (Some (many no_binding more_binding always next_binding_at n (bindings_then (more_binding b bs) r)))
    more_reach b bs g w to zero len le = absurd (omega (arith, len))
    more_reach b no_binding g w to (suc n) len le =
        let part = as_read (ap (λ o. o >>= binding_at f) (expect_same key.And (binding_then b r)))
        (binding_reach b g.0 w.0 f r to (omega (arith, len, le))) in
        last_turn no_binding more_binding always next_binding_at next_binding_shorter C b r (fixed key.And ∷ binding_then b r) (length r) n part
        (λ h x k. and_next x k)
    more_reach b (more_binding b' bs) g w to (suc n) len le =
        let rest : List Tok = bindings_then (more_binding b' bs) r in
        let l = binding_longer b rest w.0 in
        let part = ap (λ o. o >>= binding_at f) (expect_same key.And (binding_then b rest))
        ∙ stop (and_stops (value_of b) (binding_then b' (bindings_then bs r)))
        (binding_reach b g.0 w.0 f rest (λ h. h) (omega (arith, len, le))) in
        more_turns no_binding more_binding always next_binding_at next_binding_shorter C b (more_binding b' bs) r
        (fixed key.And ∷ binding_then b rest) rest (length r) n part refl
        (more_reach b' bs g.1 w.1 to n (omega (arith, len, l)) (omega (arith, le)))

    bindings_is : (ts : List Tok)
        → bindings (read_expr f) f ts
        ≡ (binding_at f ts >>= λ b. Some ((b.0, (more_bindings (read_expr f) f b.1).0), (more_bindings (read_expr f) f b.1).1))
    unfolding bindings
    bindings_is ts = refl

    -- bindings are read whole, if nothing goes on with the last value and no `and` follows
    pub bindings_reach : (b : Binding) (bs : Bindings) → GoodBinding b → GoodBindings bs → WfBinding b → WfBindings bs
        → (Goes 0 (last_value b bs) r → C) → length (binding_then b (bindings_then bs r)) ≤ f
        → Reach C (b, bs) r (bindings (read_expr f) f (binding_then b (bindings_then bs r)))
    bindings_reach b no_binding g gs w ws to len =
        as_read (bindings_is (binding_then b r))
        (and_then (b, no_binding) r (λ x. Some ((x.0, (more_bindings (read_expr f) f x.1).0), (more_bindings (read_expr f) f x.1).1))
        (map_some (λ bs. (b, bs)) no_binding r (length r) (more_bindings (read_expr f) f r)
        (no_turn no_binding more_binding always next_binding_at next_binding_shorter C true r (length r) f (λ _ x k. and_next x k)))
        to
        (λ x. (
          ((x.0, (more_bindings (read_expr f) f x.1).0), (more_bindings (read_expr f) f x.1).1),
          refl,
          many_shorter no_binding more_binding always next_binding_at next_binding_shorter f x.1,
        ))
        (binding_reach b g w f r (λ h. h) len))
    bindings_reach b (more_binding b' bs) g gs w ws to len =
        let rest : List Tok = bindings_then (more_binding b' bs) r in
        let l = binding_longer b rest w in
        let first = stop (and_stops (value_of b) (binding_then b' (bindings_then bs r))) (binding_reach b g w f rest (λ h. h) len) in
        as_read (bindings_is (binding_then b rest)
        ∙ ap (λ o. o >>= λ x. Some ((x.0, (more_bindings (read_expr f) f x.1).0), (more_bindings (read_expr f) f x.1).1)) first)
        (map_some (λ bs. (b, bs)) (more_binding b' bs) r (length r) (more_bindings (read_expr f) f rest)
        (more_reach b' bs gs ws to f (omega (arith, len, l)) (omega arith)))

-- followed by `in`
pub in_exact : (b : Binding) (bs : Bindings) → GoodBinding b → GoodBindings bs → WfBinding b → WfBindings bs → (f : ℕ) (r : List Tok)
    → length (binding_then b (bindings_then bs (fixed key.In ∷ r))) ≤ f
    → bindings (read_expr f) f (binding_then b (bindings_then bs (fixed key.In ∷ r))) ≡ Some ((b, bs), fixed key.In ∷ r)
in_exact b bs g gs w ws f r len =
    stop (λ h. h) (bindings_reach f ⊥ (fixed key.In ∷ r) (λ h. let q = h.1 in absurd cc) b bs g gs w ws
    (λ h. closer_stops 0 (last_value b bs) key.In r refl (λ q. cc) (λ q. cc) h) len)

-- ---- forms after `let`

-- what is read as a form goes on as the form does
abbrev pub FormReach : Expr → List Tok → Option (Expr × List Tok) → Type 0
FormReach e r res = Reach (Goes 13 e r) e r res

values_reach : (at : ℕ) (recursive : Bool) (b : Binding) (bs : Bindings) (e : Expr) → GoodBinding b → GoodBindings bs → Good e
    → Wf (Let at recursive b bs e) → (f : ℕ) (r : List Tok) → length (binding_then b (bindings_then bs (fixed key.In ∷ expr_then e r))) ≤ f
    → FormReach (Let at recursive b bs e) r
    (let_values (read_expr f) f at recursive (binding_then b (bindings_then bs (fixed key.In ∷ expr_then e r))))
unfolding let_values
values_reach at recursive b bs e g gs ge w f r len =
    let whole : Expr = Let at recursive b bs e in
    let l = binding_more b (bindings_then bs (fixed key.In ∷ expr_then e r)) in
    let l2 = bindings_more bs (fixed key.In ∷ expr_then e r) in
    let first = in_exact b bs g gs w.0 w.1 f (expr_then e r) len in
    rw first (map_read (Let at recursive b bs) (goes_form 0 13 e whole r refl (let_edges at recursive b bs e))
    (sub_seq e ge w.2 f r (omega (arith, len, l, l2))))

pub binding_opens : (b : Binding) (k : List Tok) → WfBinding b → Opens (binding_then b k)
binding_opens (PlainBinding p run at e) k w = pat_opens p (type_then run (placed key.Equals at ∷ expr_then e k)) w.0
binding_opens (AppliedBinding x ps run at e) k w = pat_opens (ValuePat x) (params_then ps (type_then run (placed key.Equals at ∷ expr_then e k))) w.0

let_plain : (f at : ℕ) (ts : List Tok) → Opens ts → let_expr (read_expr f) f at ts ≡ let_values (read_expr f) f at false ts
unfolding let_expr
let_plain f at ts o = subst (λ k. let_expr (read_expr f) f at k ≡ let_values (read_expr f) f at false k) (sym o.is)
    (let_by f at o.first o.rest o.begins)
  where
    let_by : (f at : ℕ) (t : Tok) (rest : List Tok) → begins_pat t ≡ true
        → let_expr (read_expr f) f at (t ∷ rest) ≡ let_values (read_expr f) f at false (t ∷ rest)
    let_by f at (fixed x) rest b = absurd cc
    let_by f at (placed key.Open at') rest b = absurd cc
    let_by f at (placed key.Module at') rest b = absurd cc
    let_by f at (placed _ at') rest b = refl
    let_by f at (word c x) rest b = refl

let_recursive : (f at : ℕ) (ts : List Tok) → let_expr (read_expr f) f at (fixed key.Rec ∷ ts) ≡ let_values (read_expr f) f at true ts
unfolding let_expr
let_recursive f at ts = refl

pub let_reach : (at : ℕ) (recursive : Bool) (b : Binding) (bs : Bindings) (e : Expr) → GoodBinding b → GoodBindings bs → Good e
    → Wf (Let at recursive b bs e) → (f : ℕ) (r : List Tok) → length (expr_then (Let at recursive b bs e) r) ≤ suc f
    → FormReach (Let at recursive b bs e) r
    (let_expr (read_expr f) f at (optional_then key.Rec recursive (binding_then b (bindings_then bs (fixed key.In ∷ expr_then e r)))))
let_reach at true b bs e g gs ge w f r len = as_read (let_recursive f at (binding_then b (bindings_then bs (fixed key.In ∷ expr_then e r))))
    (values_reach at true b bs e g gs ge w f r (omega (arith, len)))
let_reach at false b bs e g gs ge w f r len =
    as_read (let_plain f at (binding_then b (bindings_then bs (fixed key.In ∷ expr_then e r)))
    (binding_opens b (bindings_then bs (fixed key.In ∷ expr_then e r)) w.0)) (values_reach at false b bs e g gs ge w f r (omega (arith, len)))

pub bang_read : (bang : Option Name) (path : List Name) (k : List Tok) → WfBang bang → path ≢ []
    → optional_bang (bang_then bang (path_then path k)) ≡ (bang, path_then path k)
bang_read bang [] k w h = absurd (h refl)
bang_read None (x ∷ xs) k w h = refl
bang_read (Some y) (x ∷ xs) k w h = let e : bytes_eq y.text (codes "!") ≡ true = (bytes_eq-Decides y.text (codes "!")).1 w in rw e refl

pub let_open_reach : (at at' : ℕ) (bang : Option Name) (path : List Name) (e : Expr) → Good e → Wf (LetOpen at at' bang path e)
    → (f : ℕ) (r : List Tok) → length (expr_then (LetOpen at at' bang path e) r) ≤ suc f
    → FormReach (LetOpen at at' bang path e) r
    (let_expr (read_expr f) f at (placed key.Open at' ∷ bang_then bang (path_then path (fixed key.In ∷ expr_then e r))))
unfolding let_expr let_open
let_open_reach at at' bang path e ge w f r len =
    let whole : Expr = LetOpen at at' bang path e in
    let rest : List Tok = fixed key.In ∷ expr_then e r in
    let l = bang_more bang (path_then path rest) in
    let l2 = path_longer path rest in
    let b = bang_read bang path rest w.0 w.1 in
    let p = path_read f path rest w.1 (omega (arith, len, l)) refl in
    rw (b, p) (map_read (LetOpen at at' bang path) (goes_form 0 13 e whole r refl (let_open_edges at at' bang path e))
    (sub_seq e ge w.2 f r (omega (arith, len, l, l2))))

pub let_module_reach : (at at' : ℕ) (x : Name) (q : ℕ) (m : LocalModule) (e : Expr) → Good e → Wf (LetModule at at' x q m e) → (f : ℕ) (r : List Tok)
    → length (expr_then (LetModule at at' x q m e) r) ≤ suc f
    → FormReach (LetModule at at' x q m e) r
    (let_expr (read_expr f) f at (placed key.Module at' ∷ word class.Upper x ∷ placed key.Equals q ∷ local_then m (fixed key.In ∷ expr_then e r)))
unfolding let_expr let_module
let_module_reach at at' x q m e ge w f r len =
    let whole : Expr = LetModule at at' x q m e in
    let rest : List Tok = fixed key.In ∷ expr_then e r in
    let l = local_more m rest in
    let i = local_read m w.0 f rest (at_in (expr_then e r)) (omega (arith, len)) in
    rw i (map_read (LetModule at at' x q m) (goes_form 0 13 e whole r refl (let_module_edges at at' x q m e))
    (sub_seq e ge w.1 f r (omega (arith, len, l))))

-- ---- `fun`

pub fun_reach : (at : ℕ) (ps : Params) (e : Expr) → GoodParams ps → Good e → Wf (Fun at ps e) → (f : ℕ) (r : List Tok)
    → length (expr_then (Fun at ps e) r) ≤ suc f
    → FormReach (Fun at ps e) r (fun_expr (read_expr f) f at (params_then ps (fixed key.Arrow ∷ expr_then e r)))
unfolding fun_expr
fun_reach at no_param e gs ge w f r len = absurd (w.0 refl)
fun_reach at (more_param p ps) e gs ge w f r len =
    let whole : Expr = Fun at (more_param p ps) e in
    let rest : List Tok = fixed key.Arrow ∷ expr_then e r in
    let l = params_more (more_param p ps) rest in
    let m = params_exact f (more_param p ps) gs w.1 rest (at_arrow (expr_then e r)) (omega (arith, len)) in
    rw m (map_read (Fun at (more_param p ps)) (goes_form 0 13 e whole r refl (fun_edges at (more_param p ps) e))
    (sub_seq e ge w.2 f r (omega (arith, len, l))))

-- ---- cases

abbrev pub case_at : ℕ → Read Case
case_at f = one_case (read_expr f) f

guard_stop : (g : MaybeExpr) (k : List Tok) → PatGoes 0 (guard_then g (fixed key.Arrow ∷ k)) → ⊥
guard_stop no_expr k h = absurd (omega (arith, h))
guard_stop (some_expr e) k h = absurd (omega (arith, h))

guard_read : (g : MaybeExpr) → GoodMaybe g → WfGuard g → (f : ℕ) (k : List Tok) → length (guard_then g (fixed key.Arrow ∷ k)) ≤ f
    → case_guard (read_expr f) f (guard_then g (fixed key.Arrow ∷ k)) ≡ Some (g, fixed key.Arrow ∷ k)
guard_read no_expr g w f k len = refl
guard_read (some_expr e) g w f k len = rw (seq_exact e g w f key.Arrow k refl (λ h. cc) (λ h. cc) (omega (arith, len))) refl

-- a case whose body is read exactly, or farther
pub case_reach : {C : Type 0} (c : Case) → GoodCase c → WfCase c → (f : ℕ) (r : List Tok) → (Goes 0 (body_of c) r → C) → length (case_then c r) ≤ f
    → Reach C c r (case_at f (case_then c r))
unfolding one_case
case_reach (CaseOf p guard e) g w f r to len =
    let rest : List Tok = guard_then guard (fixed key.Arrow ∷ expr_then e r) in
    let l = pat_longer p rest w.0 in
    let l2 = guard_more guard (fixed key.Arrow ∷ expr_then e r) in
    let n = pat_exact p w.0 f rest (guard_stop guard (expr_then e r)) len in
    let u = guard_read guard g.0 w.1 f (expr_then e r) (omega (arith, len, l)) in
    rw (n, u) (map_read (CaseOf p guard) to (sub_seq e g.1 w.2 f r (omega (arith, len, l, l2))))

pub case_longer : (c : Case) (k : List Tok) → WfCase c → length k < length (case_then c k)
case_longer (CaseOf p guard e) k w =
    omega (
      arith,
      pat_longer p (guard_then guard (fixed key.Arrow ∷ expr_then e k)) w.0,
      guard_more guard (fixed key.Arrow ∷ expr_then e k),
      expr_more e k,
    )

case_stops : (c : Case) (r : List Tok) → NoCases c → Goes 0 (body_of c) (fixed key.Bar ∷ r) → ⊥
case_stops c r q h = bar_stops 0 (body_of c) r (sym (on_body_is has_cases c) ∙ q) h

module _ (f : ℕ) where
  abbrev next_case_at : Read Case
  next_case_at = next_case (read_expr f) f

  next_case_is : (ts : List Tok) (x : Case × List Tok) → next_case_at ts ≡ Some x → Headed key.Bar ts × (length x.1 < length ts)
  next_case_is ts x e =
      let p = next_case_found (read_expr f) f (expr_reads f) ts x e in
      ((p.0, p.1), omega (arith, ap length p.1, ap length p.2.words, case_longer x.0 x.1 p.2.wf))

  next_case_shorter : (ts : List Tok) (x : Case × List Tok) → next_case_at ts ≡ Some x → length x.1 < length ts
  next_case_shorter ts x e = (next_case_is ts x e).1

  module _ (C : Type 0) (r : List Tok) (bar : Headed key.Bar r → C) where
    bar_next : (x : Case × List Tok) → next_case_at r ≡ Some x → C × (length x.1 < length r)
    bar_next x e = let p = next_case_is r x e in (bar p.0, p.1)

    cases_reach : (c0 c : Case) (cs : Cases) → GoodCases (more_case c cs) → WfCases c0 (more_case c cs) → (Goes 0 (last_body c cs) r → C) → (n : ℕ)
        → length (cases_then (more_case c cs) r) ≤ n → n ≤ f
        → Reach C (more_case c cs) r (Some (many no_case more_case no_cases next_case_at n (cases_then (more_case c cs) r)))
    cases_reach c0 c cs g w to zero len le = absurd (omega (arith, len))
    cases_reach c0 c no_case g w to (suc n) len le =
        let part = as_read (ap (λ o. o >>= case_at f) (expect_same key.Bar (case_then c r))) (case_reach c g.0 w.1 f r to (omega (arith, len, le))) in
        last_turn no_case more_case no_cases next_case_at next_case_shorter C c r (fixed key.Bar ∷ case_then c r) (length r) n part
        (λ h x k. bar_next x k)
    cases_reach c0 c (more_case c' cs) g w to (suc n) len le =
        let rest : List Tok = cases_then (more_case c' cs) r in
        let l = case_longer c rest w.1 in
        let part = ap (λ o. o >>= case_at f) (expect_same key.Bar (case_then c rest)) ∙ stop (case_stops c (case_then c' (cases_then cs r)) w.2.0)
        (case_reach c g.0 w.1 f rest (λ h. h) (omega (arith, len, le))) in
        let on : no_cases c ≡ true = ap not w.2.0 in
        more_turns no_case more_case no_cases next_case_at next_case_shorter C c (more_case c' cs) r (fixed key.Bar ∷ case_then c rest) rest
        (length r) n part on
        (cases_reach c c' cs g.1 w.2 to n (omega (arith, len, l)) (omega (arith, le)))

    -- all further cases
    more_cases_reach : (c : Case) (cs : Cases) → GoodCases cs → WfCases c cs → (Goes 0 (last_body c cs) r → C) → length (cases_then cs r) ≤ f
        → Reach C cs r (Some (more_cases (read_expr f) f c (cases_then cs r)))
    more_cases_reach c no_case g w to len = no_turn no_case more_case no_cases next_case_at next_case_shorter C (no_cases c) r (length r) f
        (λ h x k. bar_next x k)
    more_cases_reach c (more_case c' cs) g w to len =
        let on : no_cases c ≡ true = ap not w.0 in
        rw on (cases_reach c c' cs g w to f len (omega arith))

  bar_read : (bar : Bool) (c : Case) (k : List Tok) → WfCase c → first_bar (optional_then key.Bar bar (case_then c k)) ≡ (bar, case_then c k)
  bar_read true c k w = refl
  bar_read false (CaseOf p guard e) k w =
      let o = pat_opens p (guard_then guard (fixed key.Arrow ∷ expr_then e k)) w.0 in
      subst (λ (ts : List Tok). first_bar ts ≡ (false, ts)) (sym o.is) (by o.first o.rest o.begins)
    where
      by : (t : Tok) (rest : List Tok) → begins_pat t ≡ true → first_bar (t ∷ rest) ≡ (false, t ∷ rest)
      by (fixed x) rest b = absurd cc
      by (placed x at) rest b = refl
      by (word d x) rest b = refl

  -- cases after a first `|` or not, put together by `grown`
  module _ (grown : Bool → Case → Cases → Expr) (bar : Bool) (c : Case) (cs : Cases) (r : List Tok)
      (form : on_edge is_form (grown bar c cs) ≡ true) (has : on_edge has_cases (grown bar c cs) ≡ true)
      (edges : Edges (last_body c cs) (grown bar c cs)) where
    to_whole : Goes 0 (last_body c cs) r → Goes 13 (grown bar c cs) r
    to_whole h = goes_form 0 13 (last_body c cs) (grown bar c cs) r form edges h

    abbrev grow : Case × List Tok → Option (Expr × List Tok)
    grow x = Some (grown bar x.0 (more_cases (read_expr f) f x.0 x.1).0, (more_cases (read_expr f) f x.0 x.1).1)

    all_is : (ts : List Tok) → first_bar (optional_then key.Bar bar ts) ≡ (bar, ts)
        → all_cases (read_expr f) f grown (optional_then key.Bar bar ts) ≡ (case_at f ts >>= grow)
    unfolding all_cases
    all_is ts h = rw h refl

  all_cases_reach : (grown : Bool → Case → Cases → Expr) (bar : Bool) (c : Case) (cs : Cases) → GoodCase c → GoodCases cs → WfCase c → WfCases c cs
      → (r : List Tok)
      → on_edge is_form (grown bar c cs) ≡ true → on_edge has_cases (grown bar c cs) ≡ true → Edges (last_body c cs) (grown bar c cs)
      → length (case_then c (cases_then cs r)) ≤ f
      → FormReach (grown bar c cs) r (all_cases (read_expr f) f grown (optional_then key.Bar bar (case_then c (cases_then cs r))))
  all_cases_reach grown bar c no_case g gs w ws r form has edges len =
      let to = to_whole grown bar c no_case r form has edges in
      as_read (all_is grown bar c no_case r form has edges (case_then c r) (bar_read bar c r w))
      (and_then (grown bar c no_case) r (grow grown bar c no_case r form has edges)
      (map_some (grown bar c) no_case r (length r) (more_cases (read_expr f) f c r)
      (more_cases_reach (Goes 13 (grown bar c no_case) r) r (λ h. by_bar has h) c no_case tt tt to (omega (arith, len, case_longer c r w))))
      to
      (λ x. (
        (grown bar x.0 (more_cases (read_expr f) f x.0 x.1).0, (more_cases (read_expr f) f x.0 x.1).1),
        refl,
        many_if_shorter no_case more_case no_cases next_case_at next_case_shorter (no_cases x.0) f x.1,
      ))
      (case_reach c g w f r (λ h. h) len))
  all_cases_reach grown bar c (more_case c' cs) g gs w ws r form has edges len =
      let rest : List Tok = cases_then (more_case c' cs) r in
      let to = to_whole grown bar c (more_case c' cs) r form has edges in
      let first = stop (case_stops c (case_then c' (cases_then cs r)) ws.0) (case_reach c g w f rest (λ h. h) len) in
      as_read (all_is grown bar c (more_case c' cs) r form has edges (case_then c rest) (bar_read bar c rest w)
      ∙ ap (λ o. o >>= grow grown bar c (more_case c' cs) r form has edges) first)
      (map_some (grown bar c) (more_case c' cs) r (length r) (more_cases (read_expr f) f c rest)
      (more_cases_reach (Goes 13 (grown bar c (more_case c' cs)) r) r (λ h. by_bar has h) c (more_case c' cs) gs ws to
      (omega (arith, len, case_longer c rest w))))

  pub function_reach : (at : ℕ) (bar : Bool) (c : Case) (cs : Cases) → GoodCase c → GoodCases cs → Wf (Function at bar c cs) → (r : List Tok)
      → length (expr_then (Function at bar c cs) r) ≤ suc f
      → FormReach (Function at bar c cs) r (all_cases (read_expr f) f (Function at) (optional_then key.Bar bar (case_then c (cases_then cs r))))
  function_reach at bar c cs g gs w r len = all_cases_reach (Function at) bar c cs g gs w.0 w.1 r refl refl (function_edges at bar c cs)
      (omega (arith, len, optional_longer key.Bar bar (case_then c (cases_then cs r))))

  match_is : (grown : Expr → Bool → Case → Cases → Expr) (e : Expr) (rest : List Tok) → Good e → Wf e
      → length (expr_then e (fixed key.With ∷ rest)) ≤ f → match_expr (read_expr f) f grown (expr_then e (fixed key.With ∷ rest)) ≡ all_cases
      (read_expr f) f (grown e) rest
  unfolding match_expr
  match_is grown e rest g w len = rw (seq_exact e g w f key.With rest refl (λ h. cc) (λ h. cc) len) refl

  pub match_reach : (at : ℕ) (e : Expr) (bar : Bool) (c : Case) (cs : Cases) → Good e → GoodCase c → GoodCases cs → Wf (Match at e bar c cs)
      → (r : List Tok) → length (expr_then (Match at e bar c cs) r) ≤ suc f
      → FormReach (Match at e bar c cs) r
      (match_expr (read_expr f) f (Match at) (expr_then e (fixed key.With ∷ optional_then key.Bar bar (case_then c (cases_then cs r)))))
  match_reach at e bar c cs ge g gs w r len =
      let rest : List Tok = optional_then key.Bar bar (case_then c (cases_then cs r)) in
      as_read (match_is (Match at) e rest ge w.0 (omega (arith, len)))
      (all_cases_reach (Match at e) bar c cs g gs w.1 w.2 r refl refl (match_edges at e bar c cs)
      (omega (arith, len, expr_more e (fixed key.With ∷ rest), optional_longer key.Bar bar (case_then c (cases_then cs r)))))

  pub try_reach : (at : ℕ) (e : Expr) (bar : Bool) (c : Case) (cs : Cases) → Good e → GoodCase c → GoodCases cs → Wf (Try at e bar c cs)
      → (r : List Tok) → length (expr_then (Try at e bar c cs) r) ≤ suc f
      → FormReach (Try at e bar c cs) r
      (match_expr (read_expr f) f (Try at) (expr_then e (fixed key.With ∷ optional_then key.Bar bar (case_then c (cases_then cs r)))))
  try_reach at e bar c cs ge g gs w r len =
      let rest : List Tok = optional_then key.Bar bar (case_then c (cases_then cs r)) in
      as_read (match_is (Try at) e rest ge w.0 (omega (arith, len)))
      (all_cases_reach (Try at e) bar c cs g gs w.1 w.2 r refl refl (try_edges at e bar c cs)
      (omega (arith, len, expr_more e (fixed key.With ∷ rest), optional_longer key.Bar bar (case_then c (cases_then cs r)))))

-- ---- `if`

branch_reach : {C : Type 0} (c a : Expr) → Good c → Good a → Wf c → 0 < level a → Wf a → (f : ℕ) (r : List Tok) → (Goes 3 a r → C)
    → length (expr_then c (fixed key.Then ∷ expr_then a r)) ≤ f
    → Reach C (c, a) r (then_branch (read_expr f) f (expr_then c (fixed key.Then ∷ expr_then a r)))
unfolding then_branch
branch_reach c a gc ga wc la wa f r to len =
    let l = expr_longer c (fixed key.Then ∷ expr_then a r) wc in
    let e1 = seq_exact c gc wc f key.Then (expr_then a r) refl (λ h. cc) (λ h. cc) len in
    rw e1 (map_read (λ a. (c, a)) to (sub_expr a ga la wa f r (omega (arith, len, l))))

-- neither an `if` nor a `let`
abbrev pub NotForm : List Tok → Type 0
NotForm (placed key.If at ∷ ts) = ⊥
NotForm (placed key.Let at ∷ ts) = ⊥
NotForm _ = Unit {0}

path_not_form : (path : List Name) (k : List Tok) → path ≢ [] → NotForm (path_then path k)
path_not_form [] k h = absurd (h refl)
path_not_form (x ∷ xs) k h = tt

value_not_form : (path : List Name) (x : ValueName) (k : List Tok) → NotForm (qualified_then path (name_then x k))
value_not_form [] (PlainName x) k = tt
value_not_form [] (OperatorName at t) k = tt
value_not_form (y ∷ ys) x k = tt

bool_not_form : (at : ℕ) (b : Bool) (k : List Tok) → NotForm (placed (truth b) at ∷ k)
bool_not_form at true k = tt
bool_not_form at false k = tt

bracket_not_form : (at : ℕ) (b : Bracket) (k : List Tok) → NotForm (placed (opening b) at ∷ k)
bracket_not_form at bracket.List k = tt
bracket_not_form at bracket.Array k = tt

pub operand_not_form : (e : Expr) (k : List Tok) → 2 < level e → Wf e → NotForm (expr_then e k)
operand_not_form (Seq e es last) k h w = absurd (omega (arith, h))
operand_not_form (Let at recursive b bs e) k h w = absurd (omega (arith, h))
operand_not_form (LetOpen at at' bang path e) k h w = absurd (omega (arith, h))
operand_not_form (LetModule at at' x eq m e) k h w = absurd (omega (arith, h))
operand_not_form (Fun at ps e) k h w = absurd (omega (arith, h))
operand_not_form (Function at bar c cs) k h w = absurd (omega (arith, h))
operand_not_form (Match at e bar c cs) k h w = absurd (omega (arith, h))
operand_not_form (Try at e bar c cs) k h w = absurd (omega (arith, h))
operand_not_form (If at c a tail) k h w = absurd (omega (arith, h))
operand_not_form (Chain n e es) k h w = operand_not_form e (links_then es k) (omega (arith, w.0, w.3)) w.4
operand_not_form (Minus x e) k h w = tt
operand_not_form (Apply f es) k h w = operand_not_form f (arguments_then es k) (omega (arith, w.0)) w.2
operand_not_form (ConstrApply path e) k h w = path_not_form path _ w.0
operand_not_form (TagApply x e) k h w = tt
operand_not_form (Assert at e) k h w = tt
operand_not_form (Lazy at e) k h w = tt
operand_not_form (Postfix e ps) k h w = operand_not_form e (parts_then ps k) (omega (arith, w.0)) w.2
operand_not_form (Prefixed x e) k h w = tt
operand_not_form (Literal c x) k h w = tt
operand_not_form (BoolExpr at b) k h w = bool_not_form at b k
operand_not_form (Value path x) k h w = value_not_form path x k
operand_not_form (Constr path) k h w = path_not_form path k w
operand_not_form (Tag x) k h w = tt
operand_not_form (UnitExpr at) k h w = tt
operand_not_form (Paren at e) k h w = tt
operand_not_form (Typed at e run) k h w = tt
operand_not_form (Coerced at e from to) k h w = tt
operand_not_form (EmptyBegin at) k h w = tt
operand_not_form (Begin at e) k h w = tt
operand_not_form (EmptyList at b) k h w = bracket_not_form at b _
operand_not_form (ListExpr at b e es last) k h w = bracket_not_form at b _
operand_not_form (Record at base f fs last) k h w = tt
operand_not_form (Opened path e) k h w = path_not_form path _ w.0
operand_not_form (While at c e) k h w = tt
operand_not_form (For at x eq a down b e) k h w = tt

-- not an `if`
abbrev NotIf : List Tok → Type 0
NotIf (placed key.If at ∷ ts) = ⊥
NotIf _ = Unit {0}

form_not_if : (ts : List Tok) → NotForm ts → NotIf ts
form_not_if (placed key.If at ∷ ts) h = h
form_not_if ts h = tt

not_if : (e : Expr) (k : List Tok) → 0 < level e → level e ≢ 2 → Wf e → NotIf (expr_then e k)
not_if e k lv two w = by e lv two w
  where
    by : (e : Expr) → 0 < level e → level e ≢ 2 → Wf e → NotIf (expr_then e k)
    by (Let at recursive b bs e) lv two w = tt
    by (LetOpen at at' bang path e) lv two w = tt
    by (LetModule at at' x q m e) lv two w = tt
    by (Fun at ps e) lv two w = tt
    by (Function at bar c cs) lv two w = tt
    by (Match at e bar c cs) lv two w = tt
    by (Try at e bar c cs) lv two w = tt
    by (If at c a tail) lv two w = absurd (two refl)
    by (Seq e es last) lv two w = absurd (omega (arith, lv))
    by (Chain n e es) lv two w = form_not_if (expr_then (Chain n e es) k) (operand_not_form (Chain n e es) k (omega (arith, w.0)) w)
    by e lv two w = form_not_if (expr_then e k) (operand_not_form e k (omega arith) w)

part_ends : (p : Otherwise) (ts r : List Tok) → PartOf p ts r → Headed key.Else ts × (length r < length ts)
part_ends _ ts r (of_last e _ _ lv two w q) = ((expr_then e r, q), omega (arith, ap length q, expr_more e r))
part_ends _ ts r (of_if at c a _ _ wc lv wa q) = (
  (placed key.If at ∷ expr_then c (fixed key.Then ∷ expr_then a r), q),
  omega (arith, ap length q, expr_more c (fixed key.Then ∷ expr_then a r), expr_more a r),
)

open_if : (at : ℕ) (c a : Expr) (tail : Tail) → has_else tail ≡ false → on_edge is_open_if (If at c a tail) ≡ true
open_if at c a tail h = rw h refl

module _ (f : ℕ) where
  abbrev part_at : Read Otherwise
  part_at = else_branch (read_expr f) f

  last_part_is : (ts : List Tok) → NotIf ts → part_at (fixed key.Else ∷ ts) ≡ (read_expr f wanted.Expression ts >>= λ e. Some (last_branch e.0, e.1))
  unfolding else_branch
  last_part_is [] h = refl
  last_part_is (placed key.If at ∷ ts) h = absurd h
  last_part_is (_ ∷ ts) h = refl

  if_part_is : (at : ℕ) (ts : List Tok)
      → part_at (fixed key.Else ∷ placed key.If at ∷ ts) ≡ (then_branch (read_expr f) f ts >>= λ x. Some (if_branch at x.0.0 x.0.1, x.1))
  unfolding else_branch
  if_part_is at ts = refl

  part_head : (ts : List Tok) (x : Otherwise × List Tok) → part_at ts ≡ Some x → Headed key.Else ts × (length x.1 < length ts)
  part_head ts x e = part_ends x.0 ts x.1 (else_found (read_expr f) f (expr_reads f) ts x e)

  part_shorter : (ts : List Tok) (x : Otherwise × List Tok) → part_at ts ≡ Some x → length x.1 < length ts
  part_shorter ts x e = (part_head ts x e).1

  -- the expression behind an `else` is reached, as the last branch
  else_reach : {C : Type 0} (e : Expr) → Good e → 0 < level e → level e ≢ 2 → Wf e → (r : List Tok) → (Goes 3 e r → C) → length (expr_then e r) ≤ f
      → Reach C (last_branch e) r (part_at (fixed key.Else ∷ expr_then e r))
  else_reach e g lv two w r to len = as_read (last_part_is (expr_then e r) (not_if e r lv two w))
      (map_read last_branch to (sub_expr e g lv w f r len))

  else_if_reach : {C : Type 0} (at : ℕ) (c a : Expr) → Good c → Good a → Wf c → 0 < level a → Wf a → (r : List Tok) → (Goes 3 a r → C)
      → length (expr_then c (fixed key.Then ∷ expr_then a r)) ≤ f
      → Reach C (if_branch at c a) r (part_at (fixed key.Else ∷ placed key.If at ∷ expr_then c (fixed key.Then ∷ expr_then a r)))
  else_if_reach at c a gc ga wc la wa r to len = as_read (if_part_is at (expr_then c (fixed key.Then ∷ expr_then a r)))
      (map_read (λ (x : Expr × Expr). if_branch at x.0 x.1) (λ h. h) (branch_reach c a gc ga wc la wa f r to len))

  -- C: what follows goes on with the last branch; or it is an `else`, and the tail has none
  module _ (C : Type 0) (r : List Tok) where
    tail_next : (tail : Tail) → (has_else tail ≡ false → Headed key.Else r → C) → has_else tail ≡ false → (x : Otherwise × List Tok)
        → part_at r ≡ Some x → C × (length x.1 < length r)
    tail_next tail ends h x e = let p = part_head r x e in (ends h p.0, p.1)

    tail_reach : (b : Expr) (tail : Tail) → tail ≢ no_else → GoodTail tail → WfTail b tail → (Goes 3 (end_of b tail) r → C)
        → (has_else tail ≡ false → Headed key.Else r → C) → (n : ℕ) → length (tail_then tail r) ≤ n → n ≤ f
        → Reach C tail r (Some (many no_else cons_branch branch_ends part_at n (tail_then tail r)))
    tail_reach b no_else some g w to ends n len le = absurd (some refl)
    tail_reach b (or_else e) some g w to ends zero len le = absurd (omega (arith, len))
    tail_reach b (or_else e) some g w to ends (suc n) len le =
        last_turn no_else cons_branch branch_ends part_at part_shorter C (last_branch e) r (fixed key.Else ∷ expr_then e r) (length r) n
        (else_reach e g w.1 w.2 w.3 r to (omega (arith, len, le))) (λ h x k. absurd cc)
    tail_reach b (or_if at c a tail) some g w to ends zero len le = absurd (omega (arith, len))
    tail_reach b (or_if at c a no_else) some g w to ends (suc n) len le =
        last_turn no_else cons_branch branch_ends part_at part_shorter C (if_branch at c a) r
        (fixed key.Else ∷ placed key.If at ∷ expr_then c (fixed key.Then ∷ expr_then a r)) (length r) n
        (else_if_reach at c a g.0 g.1 w.1 w.2 w.3 r to (omega (arith, len, le))) (λ h x k. tail_next no_else ends refl x k)
    tail_reach b (or_if at c a (or_else e)) some g w to ends (suc n) len le =
        let rest : List Tok = tail_then (or_else e) r in
        let l1 = expr_more c (fixed key.Then ∷ expr_then a rest) in
        let l2 = expr_more a rest in
        let part = stop (else_stops 3 a (expr_then e r) w.4.0) (else_if_reach at c a g.0 g.1 w.1 w.2 w.3 rest (λ h. h) (omega (arith, len, le))) in
        more_turns no_else cons_branch branch_ends part_at part_shorter C (if_branch at c a) (or_else e) r
        (fixed key.Else ∷ placed key.If at ∷ expr_then c (fixed key.Then ∷ expr_then a rest)) rest (length r) n part (ap not w.4.0)
        (tail_reach a (or_else e) (λ q. cc) g.2 w.4 to ends n (omega (arith, len, l1, l2)) (omega (arith, le)))
    tail_reach b (or_if at c a (or_if at' c' a' tail)) some g w to ends (suc n) len le =
        let rest : List Tok = tail_then (or_if at' c' a' tail) r in
        let l1 = expr_more c (fixed key.Then ∷ expr_then a rest) in
        let l2 = expr_more a rest in
        let part = stop (else_stops 3 a (placed key.If at' ∷ expr_then c' (fixed key.Then ∷ expr_then a' (tail_then tail r))) w.4.0)
        (else_if_reach at c a g.0 g.1 w.1 w.2 w.3 rest (λ h. h) (omega (arith, len, le))) in
        more_turns no_else cons_branch branch_ends part_at part_shorter C (if_branch at c a) (or_if at' c' a' tail) r
        (fixed key.Else ∷ placed key.If at ∷ expr_then c (fixed key.Then ∷ expr_then a rest)) rest (length r) n part (ap not w.4.0)
        (tail_reach a (or_if at' c' a' tail) (λ q. cc) g.2 w.4 to ends n (omega (arith, len, l1, l2)) (omega (arith, le)))

  abbrev tail_from : Expr → List Tok → Tail × List Tok
  tail_from a r = if_tail (read_expr f) f a r

  branch_exact : (at : ℕ) (c a : Expr) (tail : Tail) → tail ≢ no_else → Good c → Good a → Wf (If at c a tail) → NoOpenIf a → (r : List Tok)
      → length (expr_then c (fixed key.Then ∷ expr_then a (tail_then tail r))) ≤ f
      → then_branch (read_expr f) f (expr_then c (fixed key.Then ∷ expr_then a (tail_then tail r))) ≡ Some ((c, a), tail_then tail r)
  branch_exact at c a no_else some gc ga w quiet r len = absurd (some refl)
  branch_exact at c a (or_else e) some gc ga w quiet r len =
      stop (else_stops 3 a (expr_then e r) quiet) (branch_reach c a gc ga w.0 w.1 w.2 f (tail_then (or_else e) r) (λ h. h) len)
  branch_exact at c a (or_if at' c' a' tail) some gc ga w quiet r len =
      stop (else_stops 3 a (placed key.If at' ∷ expr_then c' (fixed key.Then ∷ expr_then a' (tail_then tail r))) quiet)
      (branch_reach c a gc ga w.0 w.1 w.2 f (tail_then (or_if at' c' a' tail) r) (λ h. h) len)

  abbrev whole_if : ℕ → (Expr × Expr) × List Tok → Option (Expr × List Tok)
  whole_if at x = Some (If at x.0.0 x.0.1 (tail_from x.0.1 x.1).0, (tail_from x.0.1 x.1).1)

  if_more : (at : ℕ) (c a : Expr) (tail : Tail) → tail ≢ no_else → Good c → Good a → GoodTail tail → Wf (If at c a tail) → NoOpenIf a → (r : List Tok)
      → length (expr_then c (fixed key.Then ∷ expr_then a (tail_then tail r))) ≤ f
      → FormReach (If at c a tail) r (then_branch (read_expr f) f (expr_then c (fixed key.Then ∷ expr_then a (tail_then tail r))) >>= whole_if at)
  if_more at c a tail some gc ga gt w quiet r len =
      let whole : Expr = If at c a tail in
      let rest : List Tok = tail_then tail r in
      let to : Goes 3 (end_of a tail) r → Goes 13 whole r = goes_if 3 13 (end_of a tail) whole r (omega arith) refl (if_edges at c a tail) in
      let first = branch_exact at c a tail some gc ga w quiet r len in
      let on : no_open_if a ≡ true = ap not quiet in
      let l1 = expr_more c (fixed key.Then ∷ expr_then a rest) in
      let l2 = expr_more a rest in
      let ends : has_else tail ≡ false → Headed key.Else r → Goes 13 whole r = λ h q. by_else (open_if at c a tail h) q in
      rw (first, on) (map_some (If at c a) tail r (length r) (many no_else cons_branch branch_ends part_at f rest)
      (tail_reach (Goes 13 whole r) r a tail some gt w.3 to ends f (omega (arith, len, l1, l2)) (omega arith)))

  if_end : (at : ℕ) (c a : Expr) (tail : Tail) → Good c → Good a → GoodTail tail → Wf (If at c a tail) → (r : List Tok)
      → length (expr_then c (fixed key.Then ∷ expr_then a (tail_then tail r))) ≤ f
      → FormReach (If at c a tail) r (then_branch (read_expr f) f (expr_then c (fixed key.Then ∷ expr_then a (tail_then tail r))) >>= whole_if at)
  if_end at c a no_else gc ga gt w r len =
      let whole : Expr = If at c a no_else in
      let to : Goes 3 a r → Goes 13 whole r = goes_if 3 13 a whole r (omega arith) refl (if_edges at c a no_else) in
      and_then whole r (whole_if at)
      (map_some (If at c a) no_else r (length r) (tail_from a r)
      (no_turn no_else cons_branch branch_ends part_at part_shorter (Goes 13 whole r) (no_open_if a) r (length r) f
      (λ h x k. tail_next (Goes 13 whole r) r no_else (λ _ q. by_else refl q) refl x k)))
      to
      (λ x. (
        (If at x.0.0 x.0.1 (tail_from x.0.1 x.1).0, (tail_from x.0.1 x.1).1),
        refl,
        many_if_shorter no_else cons_branch branch_ends part_at
            part_shorter (no_open_if x.0.1) f x.1,
      ))
      (branch_reach c a gc ga w.0 w.1 w.2 f r (λ h. h) len)
  if_end at c a (or_else e) gc ga gt w r len = if_more at c a (or_else e) (λ q. cc) gc ga gt w w.3.0 r len
  if_end at c a (or_if at' c' a' tail) gc ga gt w r len = if_more at c a (or_if at' c' a' tail) (λ q. cc) gc ga gt w w.3.0 r len

  pub if_reach : (at : ℕ) (c a : Expr) (tail : Tail) → Good c → Good a → GoodTail tail → Wf (If at c a tail) → (r : List Tok)
      → length (expr_then (If at c a tail) r) ≤ suc f
      → FormReach (If at c a tail) r (if_expr (read_expr f) f at (expr_then c (fixed key.Then ∷ expr_then a (tail_then tail r))))
  unfolding if_expr
  if_reach at c a tail gc ga gt w r len = if_end at c a tail gc ga gt w r (omega (arith, len))
