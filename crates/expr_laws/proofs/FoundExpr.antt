-- What is read as an expression is one, and has the words read.
use Rattle.std.proofs.Common.{◌≡◌, ◌≢◌, ℕ, zero, suc, ◌-◌, ◌<◌, ◌≤◌, inl, inr, List, [], ◌∷◌, ◌++◌, length, Bool, true, false, cond, not, ◌&&◌, ◌==◌}
use Rattle.std.proofs.Common.{Option, Some, None, refl, sym, ap, subst, ◌∙◌, arith, codes}
use Rattle.std.specs.Str.{bytes_eq}
use Rattle.std.proofs.lemmas.Bool.{eqb-true}
use Rattle.std.proofs.lemmas.Slice.Eq.{bytes_eq-Decides}
use Rattle.rotor_base.specs.declared.token.Class.{Class}
use Rattle.rotor_base.specs.declared.token.Class.TheVariants as class
use Rattle.ml_trees.specs.declared.fixed.Fixed.{Fixed}
use Rattle.ml_trees.specs.declared.fixed.Fixed.TheVariants as key
use Rattle.ml_trees.specs.declared.word.Bracket.{Bracket}
use Rattle.ml_trees.specs.declared.word.Bracket.TheVariants as bracket
use Rattle.ml_trees.specs.Tok.{Name, Tok, fixed, placed, word}
use Rattle.expr_reading.specs.declared.wanted.Wanted.TheVariants as wanted
use Rattle.ml_trees.specs.Runs.{has_colon, is_optional, is_type_run}
use Rattle.ml_trees.proofs.Words.{wrap, direction, closing, opening, dotted_then, path_then, qualified_then, name_then, type_then, optional_then}
use Rattle.ml_trees.proofs.Words.{bang_then, pat_then, variable_then, local_then, locals_then, lowers_then, expr_then, links_then, base_then}
use Rattle.ml_trees.proofs.Words.{guard_then, tail_then, binding_then, bindings_then, case_then, cases_then, argument_then, arguments_then}
use Rattle.ml_trees.proofs.Words.{param_then, params_then, part_then, parts_then, field_then, fields_then}
use Rattle.ml_trees.specs.WellFormed.{WfName, WfType, WfBang, is_literal, is_minus, is_operator, level, op_level, on_edge, is_form, is_if, NoForm}
use Rattle.ml_trees.specs.WellFormed.{Calm, NoOpenIf, NoCases, IsOperand, CanBeAssigned, is_bare, is_constr, is_bracketed, WfLocal, WfLocals}
use Rattle.ml_trees.specs.WellFormed.{EndsField, Wf, WfSeq, WfChain, WfBase, WfGuard, WfTail, WfBinding, WfBindings, WfCase, WfCases, WfArgument}
use Rattle.ml_trees.specs.WellFormed.{WfArguments, WfParam, WfParams, WfPart, WfParts, WfField, WfFields}
use Rattle.ml_trees.specs.Tree.{Pat, ValueName, OperatorName, Variable, LocalModule, LocalArguments, no_local, Expr, Seq, Let, LetOpen, LetModule}
use Rattle.ml_trees.specs.Tree.{Fun, Function, Match, Try, If, Chain, Minus, Assert, Lazy, Prefixed, Literal, Value, Constr, Tag, UnitExpr, Paren}
use Rattle.ml_trees.specs.Tree.{Coerced, Begin, EmptyList, ListExpr, Record, Opened, Links, no_link, more_link, MaybeExpr, some_expr, Tail, no_else}
use Rattle.ml_trees.specs.Tree.{Binding, Bindings, no_binding, more_binding, Case, Cases, no_case, more_case, Argument, Positional, LabelPun}
use Rattle.ml_trees.specs.Tree.{Labelled, Arguments, no_argument, more_argument, Param, PatternParam, LabelParam, Params, no_param, more_param, Part}
use Rattle.ml_trees.specs.Tree.{IndexPart, CharPart, Parts, no_part, more_part, Field, FieldPun, AssignedField, Fields, no_field, more_field}
use Rattle.token_reading.specs.Steps.{Read, ◌>>=◌, expect, expect_at, many, many_if, always}
use Rattle.token_reading.specs.Pieces.{more_uppers, qualifiers, lower_word, value_name, type_run, optional_type}
use Rattle.token_reading.specs.PatReading.{read_pat, last_semicolon}
use Rattle.token_reading.proofs.Stepping.{from_some, bind_ok, expect_ok, expect_at_ok, many_ind, many_if_ind}
use Rattle.token_reading.proofs.FoundPieces.{uppers_found, qualifiers_found, lower_ok, name_found, type_run_found, optional_type_found}
use Rattle.pattern_reading.proofs.FoundPat.{pat_found, simple_found}
use Rattle.expr_reading.specs.ExprReading.{is_calm, no_form, no_open_if, no_cases, ends_field, may_follow, goes_on, grown_chain, grown_seq}
use Rattle.expr_reading.specs.ExprReading.{grown_apply, grown_postfix, cons_link, cons_operand, last_of, last_field, cons_branch, branch_ends}
use Rattle.expr_reading.specs.ExprReading.{cons_local, qualified, opened_or, constr_applied, semicolon_if, first_bar, optional_bang, upper_path}
use Rattle.expr_reading.specs.ExprReading.{for_variable, for_direction, typed_by, closed_by, local_part, local_parts, local_module, read_local}
use Rattle.expr_reading.specs.ExprReading.{simple_at, semicolon_part, row, paren_expr, begin_expr, list_expr, bracket_expr, equals_expr, assigned_or}
use Rattle.expr_reading.specs.ExprReading.{field_expr, next_field, base_or, base_part, brace_expr, while_expr, for_expr, enclosed, opened_part}
use Rattle.expr_reading.specs.ExprReading.{upper_expr, atom, prefixed, label_part, part_behind, postfix, argument, more_arguments, applied, apply}
use Rattle.expr_reading.specs.ExprReading.{default_param, default_if, pattern_or, wrapped_default, wrapped_end, wrapped_param, types_end, param}
use Rattle.expr_reading.specs.ExprReading.{more_params, bound, plain_binding, named_binding, binding_by, binding, next_binding, more_bindings}
use Rattle.expr_reading.specs.ExprReading.{bindings, let_values, let_open, let_module, let_expr, fun_end, fun_expr, case_guard, one_case, next_case}
use Rattle.expr_reading.specs.ExprReading.{more_cases, all_cases, match_expr, then_branch, else_branch, if_expr, unary, operator_part, tier, expr}
use Rattle.expr_reading.specs.ExprReading.{seq, one_of, read_expr, Otherwise, last_branch, if_branch, LocalPart, given_module, given_none}
use Rattle.expr_reading.specs.declared.wanted.Wanted.{Wanted}
use Rattle.expr_laws.proofs.LongerExpr.{expr_longer}

pub record IsExpr (C : Expr → Type 0) (ts : List Tok) (x : Expr × List Tok) : Type 0 where
  pub fits : C x.0
  pub wf : Wf x.0
  pub words : ts ≡ expr_then x.0 x.1

abbrev pub Finds : (Expr → Type 0) → Read Expr → Type 0
Finds C one = (ts : List Tok) (x : Expr × List Tok) → one ts ≡ Some x → IsExpr C ts x

abbrev pub Any : Expr → Type 0
Any e = Unit {0}

abbrev pub Above : ℕ → Expr → Type 0
Above n e = n < level e

abbrev pub Low : Expr → Type 0
Low e = (0 < level e) × (level e < 3)

abbrev pub fits_of : Wanted → Expr → Type 0
fits_of wanted.Sequence = Any
fits_of wanted.Expression = Above 0
fits_of wanted.Operand = IsOperand 12
fits_of wanted.Postfix = Above 14
fits_of wanted.Prefixed = Above 15

abbrev pub key_then : Fixed → List Tok → List Tok
key_then k ts = fixed k ∷ ts

abbrev pub place_then : Fixed → ℕ → List Tok → List Tok
place_then k at ts = placed k at ∷ ts

abbrev pub word_then : Class → Name → List Tok → List Tok
word_then c x ts = word c x ∷ ts

-- ---- tests

pub not_true : (b : Bool) → not b ≡ true → b ≡ false
not_true true e = absurd cc
not_true false e = refl

pub not_false : (b : Bool) → not b ≡ false → b ≡ true
not_false true e = refl
not_false false e = absurd cc

pub and_true : (a b : Bool) → a && b ≡ true → (a ≡ true) × (b ≡ true)
and_true true b e = (refl, e)
and_true false b e = absurd cc

pub calm_is : (e : Expr) → is_calm e ≡ true → Calm e
calm_is e h = let p = and_true (not (on_edge is_form e)) (not (on_edge is_if e)) h in (not_true _ p.0, not_true _ p.1)

pub going_calm : (e : Expr) (ts : List Tok) → goes_on e ts ≡ true → Calm e
going_calm e ts h = calm_is e (and_true (is_calm e) (may_follow e ts) h).0

assigned : (e : Expr) (t : Tok) (ts : List Tok) → may_follow e (t ∷ ts) ≡ true → CanBeAssigned t e
assigned e (fixed key.LeftArrow) ts h = h
assigned e _ ts h = tt

pub going_assigned : (e : Expr) (t : Tok) (ts : List Tok) → goes_on e (t ∷ ts) ≡ true → CanBeAssigned t e
going_assigned e t ts h = assigned e t ts (and_true (is_calm e) (may_follow e (t ∷ ts)) h).1

-- an operand that more may follow is no form
pub calm_operand : (n : ℕ) (e : Expr) → IsOperand n e → Wf e → Calm e → n < level e
calm_operand n e (inl h) w c = h
calm_operand n (Let at recursive b bs e) (inr h) w c = absurd cc
calm_operand n (LetOpen at at' bang path e) (inr h) w c = absurd cc
calm_operand n (LetModule at at' x q m e) (inr h) w c = absurd cc
calm_operand n (Fun at ps e) (inr h) w c = absurd cc
calm_operand n (Function at bar x cs) (inr h) w c = absurd cc
calm_operand n (Match at e bar x cs) (inr h) w c = absurd cc
calm_operand n (Try at e bar x cs) (inr h) w c = absurd cc
calm_operand n (If at e a tail) (inr h) w c = absurd cc
calm_operand n (Chain m e es) (inr h) w c = absurd (omega (arith, w.0, h.1))
calm_operand n _ (inr h) w c = absurd (omega (arith, h.0, h.1))

pub lower_operand : (m : ℕ) (e : Expr) → IsOperand m e → IsOperand (m - 1) e
lower_operand m e (inl h) = inl (omega arith)
lower_operand m e (inr h) = inr h

pub is_expr : (e : Expr) → IsOperand 2 e → 0 < level e
is_expr e (inl h) = omega arith
is_expr e (inr h) = h.0

last_semicolon_ok : (ts : List Tok) → ts ≡ optional_then key.Semicolon (last_semicolon ts).0 (last_semicolon ts).1
last_semicolon_ok (fixed key.Semicolon ∷ ts) = refl
last_semicolon_ok _ = refl

pub semicolon_found : (b : Bool) (ts : List Tok) → (ts ≡ optional_then key.Semicolon (semicolon_if b ts).0 (semicolon_if b ts).1)
    × ((semicolon_if b ts).0 ≡ true → b ≡ true)
semicolon_found true ts = (last_semicolon_ok ts, λ _. refl)
semicolon_found false ts = (refl, λ e. absurd cc)

pub bar_ok : (ts : List Tok) → ts ≡ optional_then key.Bar (first_bar ts).0 (first_bar ts).1
bar_ok (fixed key.Bar ∷ ts) = refl
bar_ok _ = refl

-- only an `if` of its own begins with `if`
pub begins_if : (e : Expr) (t : Tok) (ts k : List Tok) → Wf e → level e ≡ 2 → t ∷ ts ≡ expr_then e k → (at : ℕ) × (t ≡ placed key.If at)
begins_if (If at c a tail) t ts k w h q = (at, cc)
begins_if (Chain n e es) t ts k w h q = absurd (omega (arith, w.0, h))
begins_if (Seq e es last) t ts k w h q = absurd (omega (arith, h))
begins_if _ t ts k w h q = absurd (omega (arith, h))

pub some_words : (e : Expr) (k : List Tok) → Wf e → [] ≡ expr_then e k → ⊥
some_words e k w q = omega (arith, ap length q, expr_longer e k w)

-- ---- small parts

bang_by : (x : Name) (ts : List Tok) (b : Bool) → bytes_eq x.text (codes "!") ≡ b
    → WfBang (cond {A = Option Name × List Tok} b (Some x, ts) (None, word class.Prefix x ∷ ts)).0
    × (word class.Prefix x ∷ ts ≡ bang_then (cond {A = Option Name × List Tok} b (Some x, ts) (None, word class.Prefix x ∷ ts)).0
    (cond {A = Option Name × List Tok} b (Some x, ts) (None, word class.Prefix x ∷ ts)).1)
bang_by x ts true h = ((bytes_eq-Decides x.text (codes "!")).0 h, refl)
bang_by x ts false h = (tt, refl)

pub bang_found : (ts : List Tok) → WfBang (optional_bang ts).0 × (ts ≡ bang_then (optional_bang ts).0 (optional_bang ts).1)
bang_found (word class.Prefix x ∷ ts) = bang_by x ts (bytes_eq x.text (codes "!")) refl
bang_found _ = (tt, refl)

pub path_found : (n : ℕ) (ts : List Tok) (x : List Name × List Tok) → upper_path n ts ≡ Some x → (x.0 ≢ []) × (ts ≡ path_then x.0 x.1)
path_found n (word class.Upper y ∷ ts) x e = from_some (λ (z : List Name × List Tok). (z.0 ≢ []) × (word class.Upper y ∷ ts ≡ path_then z.0 z.1)) e
    ((λ q. cc), ap (word_then class.Upper y) (uppers_found n ts))
path_found n _ x e = absurd cc

variable_ok : (ts : List Tok) (x : Variable × List Tok) → for_variable ts ≡ Some x → ts ≡ variable_then x.0 x.1
variable_ok (word class.Lower y ∷ ts) x e = from_some (λ (z : Variable × List Tok). word class.Lower y ∷ ts ≡ variable_then z.0 z.1) e refl
variable_ok (placed key.Underscore at ∷ ts) x e =
    from_some (λ (z : Variable × List Tok). placed key.Underscore at ∷ ts ≡ variable_then z.0 z.1) e refl
variable_ok _ x e = absurd cc

direction_ok : (ts : List Tok) (x : Bool × List Tok) → for_direction ts ≡ Some x → ts ≡ fixed (direction x.0) ∷ x.1
direction_ok (fixed key.To ∷ ts) x e = from_some (λ (z : Bool × List Tok). fixed key.To ∷ ts ≡ fixed (direction z.0) ∷ z.1) e refl
direction_ok (fixed key.Downto ∷ ts) x e = from_some (λ (z : Bool × List Tok). fixed key.Downto ∷ ts ≡ fixed (direction z.0) ∷ z.1) e refl
direction_ok _ x e = absurd cc

-- after a `(` and an expression
coerced_found : (at : ℕ) (e : Expr) (from : Option (List Tok)) (ts : List Tok) (x : Expr × List Tok) → Wf e → WfType from
    → (type_run ts >>= λ y. expect key.RightParen y.1 >>= λ r. Some (Coerced at e from y.0, r)) ≡ Some x
    → IsExpr (Above 15) (placed key.LeftParen at ∷ expr_then e (type_then from (fixed key.ColonGreater ∷ ts))) x
coerced_found at e from ts x w wt h =
    let a = bind_ok (type_run ts) _ x h in
    let b = bind_ok (expect key.RightParen a.0.1) _ x a.2 in
    let f = type_run_found ts a.0 a.1 in
    from_some (IsExpr (Above 15) (placed key.LeftParen at ∷ expr_then e (type_then from (fixed key.ColonGreater ∷ ts)))) b.2 (record {
      fits = omega arith;
      wf = (w, wt, f.wf);
      words = ap (λ (k : List Tok). placed key.LeftParen at ∷ expr_then e (type_then from (fixed key.ColonGreater ∷ k)))
          (f.words ∙ ap (λ (k : List Tok). a.0.0 ++ k) (expect_ok key.RightParen a.0.1 b.0 b.1));
    })

typed_found : (at : ℕ) (e : Expr) (run ts : List Tok) (x : Expr × List Tok) → Wf e → is_type_run run ≡ true → typed_by at e run ts ≡ Some x
    → IsExpr (Above 15) (placed key.LeftParen at ∷ expr_then e (fixed key.Colon ∷ (run ++ ts))) x
typed_found at e run (fixed key.RightParen ∷ r) x w t h =
    from_some (IsExpr (Above 15) (placed key.LeftParen at ∷ expr_then e (fixed key.Colon ∷ (run ++ key_then key.RightParen r)))) h
    (record { fits = omega arith; wf = (w, t); words = refl })
typed_found at e run (fixed key.ColonGreater ∷ r) x w t h = coerced_found at e (Some run) r x w t h
typed_found at e run _ x w t h = absurd cc

pub closed_found : (at : ℕ) (e : Expr) (ts : List Tok) (x : Expr × List Tok) → Wf e → closed_by at e ts ≡ Some x
    → IsExpr (Above 15) (placed key.LeftParen at ∷ expr_then e ts) x
closed_found at e (fixed key.RightParen ∷ r) x w h =
    from_some (IsExpr (Above 15) (placed key.LeftParen at ∷ expr_then e (key_then key.RightParen r))) h
    (record { fits = omega arith; wf = w; words = refl })
closed_found at e (fixed key.Colon ∷ r) x w h =
    let a = bind_ok (type_run r) _ x h in
    let f = type_run_found r a.0 a.1 in
    subst (λ (k : List Tok). IsExpr (Above 15) (placed key.LeftParen at ∷ expr_then e (fixed key.Colon ∷ k)) x) (sym f.words)
    (typed_found at e a.0.0 a.0.1 x w f.wf a.2)
closed_found at e (fixed key.ColonGreater ∷ r) x w h = coerced_found at e None r x w tt h
closed_found at e _ x w h = absurd cc

-- ---- modules after `let module`

-- what one argument, and more, has to do with the tokens
pub data IsLocalPart : LocalPart → List Tok → List Tok → Type 0 where
  is_given : (at : ℕ) (m : LocalModule) (ts r : List Tok) → WfLocal m → ts ≡ placed key.LeftParen at ∷ local_then m (fixed key.RightParen ∷ r)
      → IsLocalPart (given_module at m) ts r
  is_none : (at : ℕ) (ts r : List Tok) → ts ≡ placed key.LeftParen at ∷ fixed key.RightParen ∷ r → IsLocalPart (given_none at) ts r

pub record AreLocals (ms : LocalArguments) (ts r : List Tok) : Type 0 where
  pub wf : WfLocals ms
  pub words : ts ≡ locals_then ms r

pub record IsLocal (ts : List Tok) (x : LocalModule × List Tok) : Type 0 where
  pub wf : WfLocal x.0
  pub words : ts ≡ local_then x.0 x.1

module _ (sub : Read LocalModule) (finds : (ts : List Tok) (x : LocalModule × List Tok) → sub ts ≡ Some x → IsLocal ts x) where
  given_found : (at : ℕ) (ts : List Tok) (x : LocalPart × List Tok)
      → (sub ts >>= λ m. expect key.RightParen m.1 >>= λ r. Some (given_module at m.0, r)) ≡ Some x
      → IsLocalPart x.0 (placed key.LeftParen at ∷ ts) x.1
  given_found at ts x e =
      let a = bind_ok (sub ts) _ x e in
      let b = bind_ok (expect key.RightParen a.0.1) _ x a.2 in
      let f = finds ts a.0 a.1 in
      from_some (λ (y : LocalPart × List Tok). IsLocalPart y.0 (placed key.LeftParen at ∷ ts) y.1) b.2
      (is_given at a.0.0 (placed key.LeftParen at ∷ ts) b.0 f.wf
      (ap (place_then key.LeftParen at) (f.words ∙ ap (local_then a.0.0) (expect_ok key.RightParen a.0.1 b.0 b.1))))

  pub local_part_found : (ts : List Tok) (x : LocalPart × List Tok) → local_part sub ts ≡ Some x → IsLocalPart x.0 ts x.1
  local_part_found (placed key.LeftParen at ∷ fixed key.RightParen ∷ ts) x e =
      from_some (λ (y : LocalPart × List Tok). IsLocalPart y.0 (placed key.LeftParen at ∷ fixed key.RightParen ∷ ts) y.1) e
      (is_none at (placed key.LeftParen at ∷ fixed key.RightParen ∷ ts) ts refl)
  local_part_found (placed key.LeftParen at ∷ ts) x e = given_found at ts x e
  local_part_found _ x e = absurd cc

  local_cons : (p : LocalPart) (ms : LocalArguments) (ts r r' : List Tok) → IsLocalPart p ts r → AreLocals ms r r' → AreLocals (cons_local p ms) ts r'
  local_cons _ ms ts r r' (is_given at m _ _ w q) f =
      record { wf = (w, f.wf); words = q ∙ ap (λ (k : List Tok). placed key.LeftParen at ∷ local_then m (fixed key.RightParen ∷ k)) f.words }
  local_cons _ ms ts r r' (is_none at _ _ q) f =
      record { wf = f.wf; words = q ∙ ap (λ (k : List Tok). placed key.LeftParen at ∷ fixed key.RightParen ∷ k) f.words }

  pub locals_found : (n : ℕ) (ts : List Tok) → AreLocals (local_parts sub n ts).0 ts (local_parts sub n ts).1
  locals_found n ts = many_ind no_local cons_local always (local_part sub) AreLocals
      (λ ts. record { wf = tt; words = refl })
      (λ ts x e. local_cons x.0 no_local ts x.1 x.1 (local_part_found ts x e) (record { wf = tt; words = refl }))
      (λ ts x l r e h q. local_cons x.0 l ts x.1 r (local_part_found ts x e) q)
      n ts

  local_module_found : (n : ℕ) (ts : List Tok) (x : LocalModule × List Tok) → local_module sub n ts ≡ Some x → IsLocal ts x
  unfolding local_module
  local_module_found n ts x e =
      let a = bind_ok (upper_path n ts) _ x e in
      let p = path_found n ts a.0 a.1 in
      let f = locals_found n a.0.1 in
      from_some (IsLocal ts) a.2 (record { wf = (p.0, f.wf); words = p.1 ∙ ap (path_then a.0.0) f.words })

pub local_found : (n : ℕ) (ts : List Tok) (x : LocalModule × List Tok) → read_local n ts ≡ Some x → IsLocal ts x
unfolding read_local
local_found zero ts x e = absurd cc
local_found (suc n) ts x e = local_module_found (read_local n) (local_found n) n ts x e

-- ---- what an expression behind a module path becomes

qualified_value : (path : List Name) (x : ValueName) (k : List Tok) → path ≢ [] → path_then path (fixed key.Dot ∷ name_then x k) ≡ qualified_then path
    (name_then x k)
qualified_value [] x k h = absurd (h refl)
qualified_value (y ∷ ys) x k h = ap (word_then class.Upper y) (go ys)
  where
    go : (ys : List Name) → dotted_then ys (fixed key.Dot ∷ name_then x k) ≡ fixed key.Dot ∷ qualified_then ys (name_then x k)
    go [] = refl
    go (z ∷ zs) = ap (λ (w : List Tok). fixed key.Dot ∷ word class.Upper z ∷ w) (go zs)

-- the words of a qualified name
pub qualified_words : (y : Name) (ys : List Name) (k : List Tok) → qualified_then (y ∷ ys) k ≡ path_then (y ∷ ys) (fixed key.Dot ∷ k)
qualified_words y [] k = refl
qualified_words y (z ∷ zs) k = ap (λ (w : List Tok). word class.Upper y ∷ fixed key.Dot ∷ w) (tail_same z zs k)
  where
    tail_same : (z : Name) (zs : List Name) (k : List Tok) → qualified_then (z ∷ zs) k ≡ word class.Upper z ∷ dotted_then zs (fixed key.Dot ∷ k)
    tail_same z [] k = refl
    tail_same z (u ∷ us) k = ap (λ (w : List Tok). word class.Upper z ∷ fixed key.Dot ∷ w) (tail_same u us k)

qualified_by : (path : List Name) (e : Expr) (r : List Tok) (x : Expr × List Tok) → path ≢ [] → is_bracketed e ≡ true → Wf e
    → Some (Opened path e, r) ≡ Some x → IsExpr (Above 15) (path_then path (fixed key.Dot ∷ expr_then e r)) x
qualified_by path e r x h b w q = from_some (IsExpr (Above 15) (path_then path (fixed key.Dot ∷ expr_then e r))) q
    (record { fits = omega arith; wf = (h, b, w); words = refl })

pub qualified_found : (path : List Name) (e : Expr) (r : List Tok) (x : Expr × List Tok) → path ≢ [] → Wf e → qualified path e r ≡ Some x
    → IsExpr (Above 15) (path_then path (fixed key.Dot ∷ expr_then e r)) x
qualified_found path (Value [] y) r x h w q = from_some (IsExpr (Above 15) (path_then path (fixed key.Dot ∷ name_then y r))) q
    (record { fits = omega arith; wf = w; words = qualified_value path y r h })
qualified_found path (UnitExpr at) r x h w q = qualified_by path (UnitExpr at) r x h refl w q
qualified_found path (Paren at e) r x h w q = qualified_by path (Paren at e) r x h refl w q
qualified_found path (EmptyList at b) r x h w q = qualified_by path (EmptyList at b) r x h refl w q
qualified_found path (ListExpr at b e es last) r x h w q = qualified_by path (ListExpr at b e es last) r x h refl w q
qualified_found path (Record at base f fs last) r x h w q = qualified_by path (Record at base f fs last) r x h refl w q
qualified_found path _ r x h w q = absurd cc

-- a part of an `if` behind its first branch
pub data PartOf : Otherwise → List Tok → List Tok → Type 0 where
  of_last : (e : Expr) (ts r : List Tok) → 0 < level e → level e ≢ 2 → Wf e → ts ≡ fixed key.Else ∷ expr_then e r → PartOf (last_branch e) ts r
  of_if : (at : ℕ) (c a : Expr) (ts r : List Tok) → Wf c → 0 < level a → Wf a
      → ts ≡ fixed key.Else ∷ placed key.If at ∷ expr_then c (fixed key.Then ∷ expr_then a r) → PartOf (if_branch at c a) ts r

module _ (sub : Wanted → Read Expr) (n : ℕ) (finds : (w : Wanted) → Finds (fits_of w) (sub w)) where
  -- ---- rows between `;`

  pub record IsRow (es : Links) (ts r : List Tok) : Type 0 where
    pub wf : (e : Expr) → NoForm e → (last : Bool) → (last ≡ true → NoForm (last_of e es)) → WfSeq e es last
    pub words : ts ≡ links_then es r

  module _ (one : Read Expr) (one_found : Finds (Above 0) one) where
    pub semicolon_part_found : (ts : List Tok) (x : (Tok × Expr) × List Tok) → semicolon_part sub n one ts ≡ Some x
        → (r : List Tok) × (ts ≡ fixed key.Semicolon ∷ r) × (x.0.0 ≡ fixed key.Semicolon) × IsExpr (Above 0) r (x.0.1, x.1)
    semicolon_part_found ts x e =
        let a = bind_ok (expect key.Semicolon ts) _ x e in
        let b = bind_ok (one a.0) _ x a.2 in
        from_some (λ (y : (Tok × Expr) × List Tok). (r : List Tok) × (ts ≡ fixed key.Semicolon ∷ r) × (y.0.0 ≡ fixed key.Semicolon)
        × IsExpr (Above 0) r (y.0.1, y.1)) b.2 (a.0, expect_ok key.Semicolon ts a.0 a.1, refl, one_found a.0 b.0 b.1)

    abbrev row_at : Bool → List Tok → Links × List Tok
    row_at b ts = many_if b no_link cons_link (λ x. no_form x.1) (semicolon_part sub n one) n ts

    pub row_found : (b : Bool) (ts : List Tok) → IsRow (row_at b ts).0 ts (row_at b ts).1
    row_found b ts = many_if_ind no_link cons_link (λ x. no_form x.1) (semicolon_part sub n one) IsRow
        (λ ts. record { wf = λ e h last k. k; words = refl })
        (λ ts x e. let p = semicolon_part_found ts x e in
        record {
          wf = λ e h last k. (h, p.2, p.3.fits, p.3.wf, k);
          words = p.1 ∙ ap (key_then key.Semicolon) p.3.words
              ∙ ap (λ t. t ∷ expr_then x.0.1 x.1) (sym p.2);
        })
        (λ ts x l r e h q. let p = semicolon_part_found ts x e in
        record {
          wf = λ e h' last k. (h', p.2, p.3.fits, p.3.wf, q.wf x.0.1 (not_true _ h) last k);
          words = p.1
              ∙ ap (key_then key.Semicolon) (p.3.words ∙ ap (expr_then x.0.1) q.words) ∙ ap (λ t. t ∷ expr_then x.0.1 (links_then l r)) (sym p.2);
        })
        b n ts

    row_wf_by : (b : Bool) (e : Expr) (ts : List Tok) (last : Bool) → no_form e ≡ b → (last ≡ true → NoForm (last_of e (row_at b ts).0))
        → WfSeq e (row_at b ts).0 last
    row_wf_by true e ts last h k = (row_found true ts).wf e (not_true _ h) last k
    row_wf_by false e ts last h k = k

    pub record IsWholeRow (ts : List Tok) (e : Expr) (es : Links) (last : Bool) (r : List Tok) : Type 0 where
      pub fits : 0 < level e
      pub wf : Wf e
      pub row_wf : WfSeq e es last
      pub words : ts ≡ expr_then e (links_then es (optional_then key.Semicolon last r))

    pub whole_row_found : (grown : Expr → Links → Bool → Expr) (P : Expr × List Tok → Type 0) (ts : List Tok) (x : Expr × List Tok)
        → ((e : Expr) (es : Links) (last : Bool) (r : List Tok) → IsWholeRow ts e es last r → P (grown e es last, r))
        → row sub n one grown ts ≡ Some x → P x
    whole_row_found grown P ts x gives e =
        let a = bind_ok (one ts) _ x e in
        let v = one_found ts a.0 a.1 in
        let m = row_at (no_form a.0.0) a.0.1 in
        let r = row_found (no_form a.0.0) a.0.1 in
        let s = semicolon_found (no_form (last_of a.0.0 m.0)) m.1 in
        from_some P a.2 (gives a.0.0 m.0 (semicolon_if (no_form (last_of a.0.0 m.0)) m.1).0 (semicolon_if (no_form (last_of a.0.0 m.0)) m.1).1
        (record {
          fits = v.fits;
          wf = v.wf;
          row_wf = row_wf_by (no_form a.0.0) a.0.0 a.0.1 _ refl (λ k. not_true _ (s.1 k));
          words = v.words ∙ ap (expr_then a.0.0) (r.words ∙ ap (links_then m.0) s.0);
        }))

  -- ---- brackets

  paren_found : (at : ℕ) (ts : List Tok) (x : Expr × List Tok) → (sub wanted.Sequence ts >>= λ e. closed_by at e.0 e.1) ≡ Some x
      → IsExpr (Above 15) (placed key.LeftParen at ∷ ts) x
  paren_found at ts x e =
      let a = bind_ok (sub wanted.Sequence ts) _ x e in
      let v = finds wanted.Sequence ts a.0 a.1 in
      subst (λ (k : List Tok). IsExpr (Above 15) (placed key.LeftParen at ∷ k) x) (sym v.words) (closed_found at a.0.0 a.0.1 x v.wf a.2)

  lone_operator : (at : ℕ) (t : Tok) (ts : List Tok) (x : Expr × List Tok) (b : Bool) → is_operator t ≡ b
      → cond b (Some (Value [] (OperatorName at t), ts)) (sub wanted.Sequence (t ∷ fixed key.RightParen ∷ ts) >>= λ e. closed_by at e.0 e.1) ≡ Some x
      → IsExpr (Above 15) (placed key.LeftParen at ∷ t ∷ fixed key.RightParen ∷ ts) x
  lone_operator at t ts x true h e = from_some (IsExpr (Above 15) (placed key.LeftParen at ∷ t ∷ fixed key.RightParen ∷ ts)) e
      (record { fits = omega arith; wf = h; words = refl })
  lone_operator at t ts x false h e = paren_found at (t ∷ fixed key.RightParen ∷ ts) x e

  pub paren_expr_found : (at : ℕ) (ts : List Tok) (x : Expr × List Tok) → paren_expr sub n at ts ≡ Some x
      → IsExpr (Above 15) (placed key.LeftParen at ∷ ts) x
  unfolding paren_expr
  paren_expr_found at (fixed key.RightParen ∷ ts) x e = from_some (IsExpr (Above 15) (placed key.LeftParen at ∷ fixed key.RightParen ∷ ts)) e
      (record { fits = omega arith; wf = tt; words = refl })
  paren_expr_found at (t ∷ fixed key.RightParen ∷ ts) x e = lone_operator at t ts x (is_operator t) refl e
  paren_expr_found at ts x e = paren_found at ts x e

  begin_found : (at : ℕ) (ts : List Tok) (x : Expr × List Tok) → (sub wanted.Sequence ts >>= λ e. expect key.End e.1 >>= λ r. Some (Begin at e.0, r))
      ≡ Some x → IsExpr (Above 15) (placed key.Begin at ∷ ts) x
  begin_found at ts x e =
      let a = bind_ok (sub wanted.Sequence ts) _ x e in
      let b = bind_ok (expect key.End a.0.1) _ x a.2 in
      let v = finds wanted.Sequence ts a.0 a.1 in
      from_some (IsExpr (Above 15) (placed key.Begin at ∷ ts)) b.2
      (record {
        fits = omega arith;
        wf = v.wf;
        words = ap (place_then key.Begin at) (v.words ∙ ap (expr_then a.0.0) (expect_ok key.End a.0.1 b.0 b.1));
      })

  begin_expr_found : (at : ℕ) (ts : List Tok) (x : Expr × List Tok) → begin_expr sub n at ts ≡ Some x → IsExpr (Above 15) (placed key.Begin at ∷ ts) x
  unfolding begin_expr
  begin_expr_found at (fixed key.End ∷ ts) x e = from_some (IsExpr (Above 15) (placed key.Begin at ∷ fixed key.End ∷ ts)) e
      (record { fits = omega arith; wf = tt; words = refl })
  begin_expr_found at ts x e = begin_found at ts x e

  list_found : (at : ℕ) (b : Bracket) (ts : List Tok) (x : Expr × List Tok) → list_expr sub n at b ts ≡ Some x
      → IsExpr (Above 15) (placed (opening b) at ∷ ts) x
  list_found at b ts x e =
      let a = bind_ok (row sub n (sub wanted.Expression) (ListExpr at b) ts) _ x e in
      let d = bind_ok (expect (closing b) a.0.1) _ x a.2 in
      let c = expect_ok (closing b) a.0.1 d.0 d.1 in
      from_some (IsExpr (Above 15) (placed (opening b) at ∷ ts)) d.2
      (whole_row_found (sub wanted.Expression) (finds wanted.Expression) (ListExpr at b)
      (λ (y : Expr × List Tok). y.1 ≡ fixed (closing b) ∷ d.0 → IsExpr (Above 15) (placed (opening b) at ∷ ts) (y.0, d.0)) ts a.0
      (λ e es last r h q. record {
        fits = omega arith;
        wf = (h.fits, h.wf, h.row_wf);
        words = ap (place_then (opening b) at) (h.words ∙ ap (λ k. expr_then e (links_then es (optional_then key.Semicolon last k))) q);
      })
      a.1 c)

  pub bracket_found : (at : ℕ) (b : Bracket) (ts : List Tok) (x : Expr × List Tok) → bracket_expr sub n at b ts ≡ Some x
      → IsExpr (Above 15) (placed (opening b) at ∷ ts) x
  unfolding bracket_expr
  bracket_found at bracket.List (fixed key.RightBracket ∷ ts) x e =
      from_some (IsExpr (Above 15) (placed key.LeftBracket at ∷ fixed key.RightBracket ∷ ts)) e (record { fits = omega arith; wf = tt; words = refl })
  bracket_found at bracket.Array (fixed key.RightArray ∷ ts) x e =
      from_some (IsExpr (Above 15) (placed key.LeftArray at ∷ fixed key.RightArray ∷ ts)) e (record { fits = omega arith; wf = tt; words = refl })
  bracket_found at bracket.List ts x e = list_found at bracket.List ts x e
  bracket_found at bracket.Array ts x e = list_found at bracket.Array ts x e

  -- ---- records

  equals_found : (ts : List Tok) (x : ℕ × Expr × List Tok) → equals_expr sub n ts ≡ Some x → (0 < level x.1) × Wf x.1
      × (ts ≡ placed key.Equals x.0 ∷ expr_then x.1 x.2)
  equals_found ts x e =
      let a = bind_ok (expect_at key.Equals ts) _ x e in
      let b = bind_ok (sub wanted.Expression a.0.1) _ x a.2 in
      let v = finds wanted.Expression a.0.1 b.0 b.1 in
      from_some (λ (y : ℕ × Expr × List Tok). (0 < level y.1) × Wf y.1 × (ts ≡ placed key.Equals y.0 ∷ expr_then y.1 y.2)) b.2
      (v.fits, v.wf, expect_at_ok key.Equals ts a.0 a.1 ∙ ap (place_then key.Equals a.0.0) v.words)

  pub record IsField (ts : List Tok) (x : Field × List Tok) : Type 0 where
    pub wf : WfField x.0
    pub words : ts ≡ field_then x.0 x.1

  assigned_found : (path : List Name) (y : Name) (run : Option (List Tok)) (ts r : List Tok) (o : Option (ℕ × Expr × List Tok)) → WfType run
      → ts ≡ qualified_then path (word class.Lower y ∷ type_then run r) → equals_expr sub n r ≡ o → IsField ts (assigned_or sub n path y run r o)
  assigned_found path y run ts r None w q h = record { wf = w; words = q }
  assigned_found path y run ts r (Some x) w q h = let f = equals_found r x h in
      record { wf = (w, f.0, f.1); words = q ∙ ap (λ (k : List Tok). qualified_then path (word class.Lower y ∷ type_then run k)) f.2 }

  pub field_found : (ts : List Tok) (x : Field × List Tok) → field_expr sub n ts ≡ Some x → IsField ts x
  unfolding field_expr
  field_found ts x e =
      let path = qualifiers n ts in
      let a = bind_ok (lower_word path.1) _ x e in
      let run = optional_type a.0.1 in
      let t = optional_type_found a.0.1 in
      from_some (IsField ts) a.2 (assigned_found path.0 a.0.0 run.0 ts run.1 (equals_expr sub n run.1) t.wf
      (qualifiers_found n ts ∙ ap (qualified_then path.0) (lower_ok path.1 a.0 a.1 ∙ ap (word_then class.Lower a.0.0) t.words)) refl)

  pub next_field_found : (ts : List Tok) (x : Field × List Tok) → next_field sub n ts ≡ Some x → (r : List Tok) × (ts ≡ fixed key.Semicolon ∷ r)
      × IsField r x
  next_field_found ts x e =
      let a = bind_ok (expect key.Semicolon ts) (field_expr sub n) x e in
      (a.0, expect_ok key.Semicolon ts a.0 a.1, field_found a.0 x a.2)

  pub ends_is : (f : Field) → ends_field f ≡ true → EndsField f
  ends_is (FieldPun path x run) h = tt
  ends_is (AssignedField path x run at e) h = not_true _ h

  pub record AreFields (fs : Fields) (ts r : List Tok) : Type 0 where
    pub wf : (f : Field) → EndsField f → (last : Bool) → (last ≡ true → EndsField (last_field f fs)) → WfFields f fs last
    pub words : ts ≡ fields_then fs r

  abbrev fields_at : Bool → List Tok → Fields × List Tok
  fields_at b ts = many_if b no_field more_field ends_field (next_field sub n) n ts

  fields_found : (b : Bool) (ts : List Tok) → AreFields (fields_at b ts).0 ts (fields_at b ts).1
  fields_found b ts = many_if_ind no_field more_field ends_field (next_field sub n) AreFields
      (λ ts. record { wf = λ f h last k. k; words = refl })
      (λ ts x e. let p = next_field_found ts x e in record { wf = λ f h last k. (h, p.2.wf, k); words = p.1 ∙ ap (key_then key.Semicolon) p.2.words })
      (λ ts x l r e h q. let p = next_field_found ts x e in
      record {
        wf = λ f h' last k. (h', p.2.wf, q.wf x.0 (ends_is x.0 h) last k);
        words = p.1
            ∙ ap (key_then key.Semicolon) (p.2.words ∙ ap (field_then x.0) q.words);
      })
      b n ts

  fields_wf_by : (b : Bool) (f : Field) (ts : List Tok) (last : Bool) → ends_field f ≡ b → (last ≡ true → EndsField (last_field f (fields_at b ts).0))
      → WfFields f (fields_at b ts).0 last
  fields_wf_by true f ts last h k = (fields_found true ts).wf f (ends_is f h) last k
  fields_wf_by false f ts last h k = k

  pub record IsBase (ts : List Tok) (x : MaybeExpr × List Tok) : Type 0 where
    pub wf : WfBase x.0
    pub words : ts ≡ base_then x.0 x.1

  base_by : (ts : List Tok) (o : Option (Expr × List Tok)) → (sub wanted.Postfix ts >>= λ e. expect key.With e.1 >>= λ r. Some (e.0, r)) ≡ o
      → IsBase ts (base_or sub n ts o)
  base_by ts None q = record { wf = tt; words = refl }
  base_by ts (Some x) q =
      let a = bind_ok (sub wanted.Postfix ts) _ x q in
      let b = bind_ok (expect key.With a.0.1) _ x a.2 in
      let v = finds wanted.Postfix ts a.0 a.1 in
      from_some (λ (y : Expr × List Tok). IsBase ts (some_expr y.0, y.1)) b.2
      (record { wf = (v.fits, v.wf); words = v.words ∙ ap (expr_then a.0.0) (expect_ok key.With a.0.1 b.0 b.1) })

  pub base_found : (ts : List Tok) → IsBase ts (base_part sub n ts)
  base_found ts = base_by ts (sub wanted.Postfix ts >>= λ e. expect key.With e.1 >>= λ r. Some (e.0, r)) refl

  pub brace_found : (at : ℕ) (ts : List Tok) (x : Expr × List Tok) → brace_expr sub n at ts ≡ Some x
      → IsExpr (Above 15) (placed key.LeftBrace at ∷ ts) x
  unfolding brace_expr
  brace_found at ts x e =
      let base = base_part sub n ts in
      let b = base_found ts in
      let a = bind_ok (field_expr sub n base.1) _ x e in
      let f = field_found base.1 a.0 a.1 in
      let more = fields_at (ends_field a.0.0) a.0.1 in
      let last = semicolon_if (ends_field (last_field a.0.0 more.0)) more.1 in
      let s = semicolon_found (ends_field (last_field a.0.0 more.0)) more.1 in
      let c = bind_ok (expect key.RightBrace last.1) _ x a.2 in
      let fs = fields_found (ends_field a.0.0) a.0.1 in
      from_some (IsExpr (Above 15) (placed key.LeftBrace at ∷ ts)) c.2 (record {
        fits = omega arith;
        wf = (b.wf, f.wf, fields_wf_by (ends_field a.0.0) a.0.0 a.0.1 last.0 refl (λ k. ends_is (last_field a.0.0 more.0) (s.1 k)));
        words = ap (place_then key.LeftBrace at)
            (b.words ∙ ap (base_then base.0)
            (f.words ∙ ap (field_then a.0.0)
            (fs.words ∙ ap (fields_then more.0) (s.0 ∙ ap (optional_then key.Semicolon last.0) (expect_ok key.RightBrace last.1 c.0 c.1)))));
      })

  -- ---- loops

  while_found : (at : ℕ) (ts : List Tok) (x : Expr × List Tok) → while_expr sub n at ts ≡ Some x → IsExpr (Above 15) (placed key.While at ∷ ts) x
  unfolding while_expr
  while_found at ts x e =
      let a = bind_ok (sub wanted.Sequence ts) _ x e in
      let b = bind_ok (expect key.Do a.0.1) _ x a.2 in
      let c = bind_ok (sub wanted.Sequence b.0) _ x b.2 in
      let d = bind_ok (expect key.Done c.0.1) _ x c.2 in
      let v = finds wanted.Sequence ts a.0 a.1 in
      let w = finds wanted.Sequence b.0 c.0 c.1 in
      from_some (IsExpr (Above 15) (placed key.While at ∷ ts)) d.2 (record {
        fits = omega arith;
        wf = (v.wf, w.wf);
        words = ap (place_then key.While at)
            (v.words ∙ ap (expr_then a.0.0)
            (expect_ok key.Do a.0.1 b.0 b.1 ∙ ap (key_then key.Do) (w.words ∙ ap (expr_then c.0.0) (expect_ok key.Done c.0.1 d.0 d.1))));
      })

  for_found : (at : ℕ) (ts : List Tok) (x : Expr × List Tok) → for_expr sub n at ts ≡ Some x → IsExpr (Above 15) (placed key.For at ∷ ts) x
  unfolding for_expr
  for_found at ts x e =
      let i = bind_ok (for_variable ts) _ x e in
      let q = bind_ok (expect_at key.Equals i.0.1) _ x i.2 in
      let a = bind_ok (sub wanted.Sequence q.0.1) _ x q.2 in
      let d = bind_ok (for_direction a.0.1) _ x a.2 in
      let b = bind_ok (sub wanted.Sequence d.0.1) _ x d.2 in
      let o = bind_ok (expect key.Do b.0.1) _ x b.2 in
      let c = bind_ok (sub wanted.Sequence o.0) _ x o.2 in
      let z = bind_ok (expect key.Done c.0.1) _ x c.2 in
      let va = finds wanted.Sequence q.0.1 a.0 a.1 in
      let vb = finds wanted.Sequence d.0.1 b.0 b.1 in
      let vc = finds wanted.Sequence o.0 c.0 c.1 in
      from_some (IsExpr (Above 15) (placed key.For at ∷ ts)) z.2 (record {
        fits = omega arith;
        wf = (va.wf, vb.wf, vc.wf);
        words = ap (place_then key.For at)
            (variable_ok ts i.0 i.1 ∙ ap (variable_then i.0.0)
            (expect_at_ok key.Equals i.0.1 q.0 q.1
            ∙ ap (place_then key.Equals q.0.0)
            (va.words ∙ ap (expr_then a.0.0)
            (direction_ok a.0.1 d.0 d.1
            ∙ ap (key_then (direction d.0.0))
            (vb.words ∙ ap (expr_then b.0.0)
            (expect_ok key.Do b.0.1 o.0 o.1 ∙ ap (key_then key.Do) (vc.words ∙ ap (expr_then c.0.0) (expect_ok key.Done c.0.1 z.0 z.1))))))));
      })

  -- ---- atoms

  pub enclosed_found : Finds (Above 15) (enclosed sub n)
  unfolding enclosed
  enclosed_found (word class.Lower y ∷ ts) x e =
      from_some (IsExpr (Above 15) (word class.Lower y ∷ ts)) e (record { fits = omega arith; wf = tt; words = refl })
  enclosed_found (placed key.LeftParen at ∷ ts) x e = paren_expr_found at ts x e
  enclosed_found (placed key.LeftBracket at ∷ ts) x e = bracket_found at bracket.List ts x e
  enclosed_found (placed key.LeftArray at ∷ ts) x e = bracket_found at bracket.Array ts x e
  enclosed_found (placed key.LeftBrace at ∷ ts) x e = brace_found at ts x e
  enclosed_found _ x e = absurd cc

  pub opened_found : (path ts : _) (x : Expr × List Tok) → path ≢ [] → opened_part sub n path ts ≡ Some x → IsExpr (Above 15) (path_then path ts) x
  opened_found path (fixed key.Dot ∷ ts) x h e =
      let a = bind_ok (enclosed sub n ts) _ x e in
      let v = enclosed_found ts a.0 a.1 in
      subst (λ (k : List Tok). IsExpr (Above 15) (path_then path (fixed key.Dot ∷ k)) x) (sym v.words) (qualified_found path a.0.0 a.0.1 x h v.wf a.2)
  opened_found path _ x h e = absurd cc

  upper_by : (path : List Name) (r : List Tok) (o : Option (Expr × List Tok)) → path ≢ [] → opened_part sub n path r ≡ o
      → IsExpr (Above 15) (path_then path r) (opened_or path r o)
  upper_by path r None h q = record { fits = omega arith; wf = h; words = refl }
  upper_by path r (Some x) h q = opened_found path r x h q

  pub upper_found : (y : Name) (ts : List Tok) (x : Expr × List Tok) → upper_expr sub n y ts ≡ Some x → IsExpr (Above 15) (word class.Upper y ∷ ts) x
  unfolding upper_expr
  upper_found y ts x e =
      let more = more_uppers n ts in
      from_some (IsExpr (Above 15) (word class.Upper y ∷ ts)) e
      (subst (λ (k : List Tok). IsExpr (Above 15) (word class.Upper y ∷ k)
      (opened_or (y ∷ more.0) more.1 (opened_part sub n (y ∷ more.0) more.1))) (sym (uppers_found n ts))
      (upper_by (y ∷ more.0) more.1 (opened_part sub n (y ∷ more.0) more.1) (λ q. cc) refl))

  literal_by : (c : Class) (y : Name) (ts : List Tok) (x : Expr × List Tok) (b : Bool) → is_literal c ≡ b
      → cond b (Some (Literal c y, ts)) (enclosed sub n (word c y ∷ ts)) ≡ Some x → IsExpr (Above 15) (word c y ∷ ts) x
  literal_by c y ts x true h e = from_some (IsExpr (Above 15) (word c y ∷ ts)) e (record { fits = omega arith; wf = h; words = refl })
  literal_by c y ts x false h e = enclosed_found (word c y ∷ ts) x e

  pub atom_found : Finds (Above 15) (atom sub n)
  unfolding atom
  atom_found (placed key.True at ∷ ts) x e =
      from_some (IsExpr (Above 15) (placed key.True at ∷ ts)) e (record { fits = omega arith; wf = tt; words = refl })
  atom_found (placed key.False at ∷ ts) x e =
      from_some (IsExpr (Above 15) (placed key.False at ∷ ts)) e (record { fits = omega arith; wf = tt; words = refl })
  atom_found (placed key.Begin at ∷ ts) x e = begin_expr_found at ts x e
  atom_found (placed key.While at ∷ ts) x e = while_found at ts x e
  atom_found (placed key.For at ∷ ts) x e = for_found at ts x e
  atom_found (word class.Upper y ∷ ts) x e = upper_found y ts x e
  atom_found (word class.Tag y ∷ ts) x e =
      from_some (IsExpr (Above 15) (word class.Tag y ∷ ts)) e (record { fits = omega arith; wf = tt; words = refl })
  atom_found (word c y ∷ ts) x e = literal_by c y ts x (is_literal c) refl e
  atom_found ts x e = enclosed_found ts x e

  prefix_found : (y : Name) (ts : List Tok) (x : Expr × List Tok) → (sub wanted.Prefixed ts >>= λ e. Some (Prefixed y e.0, e.1)) ≡ Some x
      → IsExpr (Above 15) (word class.Prefix y ∷ ts) x
  prefix_found y ts x e =
      let a = bind_ok (sub wanted.Prefixed ts) _ x e in
      let v = finds wanted.Prefixed ts a.0 a.1 in
      from_some (IsExpr (Above 15) (word class.Prefix y ∷ ts)) a.2
      (record { fits = omega arith; wf = (v.fits, v.wf); words = ap (word_then class.Prefix y) v.words })

  pub prefixed_found : Finds (Above 15) (prefixed sub n)
  unfolding prefixed
  prefixed_found (word class.Prefix y ∷ ts) x e = prefix_found y ts x e
  prefixed_found ts x e = atom_found ts x e

  -- ---- parts behind a `.`

  pub record IsPart (ts : List Tok) (x : Part × List Tok) : Type 0 where
    pub wf : WfPart x.0
    pub words : ts ≡ part_then x.0 x.1

  bracketed_part : (close : Fixed) (put : Expr → Part) (ts : List Tok) (P : Part × List Tok → Type 0) (x : Part × List Tok)
      → ((e : Expr) (r : List Tok) → Wf e → ts ≡ expr_then e (fixed close ∷ r) → P (put e, r))
      → (sub wanted.Sequence ts >>= λ e. expect close e.1 >>= λ r. Some (put e.0, r)) ≡ Some x → P x
  bracketed_part close put ts P x gives e =
      let a = bind_ok (sub wanted.Sequence ts) _ x e in
      let b = bind_ok (expect close a.0.1) _ x a.2 in
      let v = finds wanted.Sequence ts a.0 a.1 in
      from_some P b.2 (gives a.0.0 b.0 v.wf (v.words ∙ ap (expr_then a.0.0) (expect_ok close a.0.1 b.0 b.1)))

  label_part_found : (ts : List Tok) (x : Part × List Tok) → label_part sub n ts ≡ Some x → IsPart (fixed key.Dot ∷ ts) x
  label_part_found ts x e =
      let path = qualifiers n ts in
      let a = bind_ok (lower_word path.1) _ x e in
      from_some (IsPart (fixed key.Dot ∷ ts)) a.2
      (record { wf = tt; words = ap (key_then key.Dot) (qualifiers_found n ts ∙ ap (qualified_then path.0) (lower_ok path.1 a.0 a.1)) })

  pub part_found : (ts : List Tok) (x : Part × List Tok) → part_behind sub n ts ≡ Some x → IsPart ts x
  unfolding part_behind
  part_found (fixed key.Dot ∷ placed key.LeftParen at ∷ ts) x e =
      bracketed_part key.RightParen (IndexPart at) ts (IsPart (fixed key.Dot ∷ placed key.LeftParen at ∷ ts)) x
      (λ e r w q. record { wf = w; words = ap (λ (k : List Tok). fixed key.Dot ∷ placed key.LeftParen at ∷ k) q }) e
  part_found (fixed key.Dot ∷ placed key.LeftBracket at ∷ ts) x e =
      bracketed_part key.RightBracket (CharPart at) ts (IsPart (fixed key.Dot ∷ placed key.LeftBracket at ∷ ts)) x
      (λ e r w q. record { wf = w; words = ap (λ (k : List Tok). fixed key.Dot ∷ placed key.LeftBracket at ∷ k) q }) e
  part_found (fixed key.Dot ∷ ts) x e = label_part_found ts x e
  part_found _ x e = absurd cc

  pub record AreParts (ps : Parts) (ts r : List Tok) : Type 0 where
    pub wf : WfParts ps
    pub words : ts ≡ parts_then ps r

  abbrev parts_at : Bool → List Tok → Parts × List Tok
  parts_at b ts = many_if b no_part more_part always (part_behind sub n) n ts

  parts_found : (b : Bool) (ts : List Tok) → AreParts (parts_at b ts).0 ts (parts_at b ts).1
  parts_found b ts = many_if_ind no_part more_part always (part_behind sub n) AreParts
      (λ ts. record { wf = tt; words = refl })
      (λ ts x e. let p = part_found ts x e in record { wf = (p.wf, tt); words = p.words })
      (λ ts x l r e h q. let p = part_found ts x e in record { wf = (p.wf, q.wf); words = p.words ∙ ap (part_then x.0) q.words })
      b n ts

  postfix_grown : (e : Expr) (ps : Parts) (ts r r' : List Tok) → IsExpr (Above 15) ts (e, r) → (ps ≢ no_part → is_constr e ≡ false) → AreParts ps r r'
      → IsExpr (Above 14) ts (grown_postfix e ps, r')
  postfix_grown e no_part ts r r' a c b = record { fits = omega (arith, a.fits); wf = a.wf; words = a.words ∙ ap (expr_then e) b.words }
  postfix_grown e (more_part p ps) ts r r' a c b =
      record { fits = omega arith; wf = (a.fits, c (λ q. cc), a.wf, (λ q. cc), b.wf); words = a.words ∙ ap (expr_then e) b.words }

  no_constr : (b : Bool) (e : Expr) (ts : List Tok) → not (is_constr e) ≡ b → (parts_at b ts).0 ≢ no_part → is_constr e ≡ false
  no_constr true e ts h k = not_true _ h
  no_constr false e ts h k = absurd (k refl)

  pub postfix_found : Finds (Above 14) (postfix sub n)
  unfolding postfix
  postfix_found ts x e =
      let a = bind_ok (prefixed sub n ts) _ x e in
      from_some (IsExpr (Above 14) ts) a.2
      (postfix_grown a.0.0 _ ts a.0.1 _ (prefixed_found ts a.0 a.1) (no_constr (not (is_constr a.0.0)) a.0.0 a.0.1 refl)
      (parts_found (not (is_constr a.0.0)) a.0.1))

  -- ---- applications

  pub record IsArgument (ts : List Tok) (x : Argument × List Tok) : Type 0 where
    pub wf : WfArgument x.0
    pub words : ts ≡ argument_then x.0 x.1

  label_by : (y : Name) (ts : List Tok) (x : Argument × List Tok) (b : Bool) → has_colon y.text ≡ b
      → cond b (postfix sub n ts >>= λ e. Some (Labelled y e.0, e.1)) (Some (LabelPun y, ts)) ≡ Some x → IsArgument (word class.Label y ∷ ts) x
  label_by y ts x true h e =
      let a = bind_ok (postfix sub n ts) _ x e in
      let v = postfix_found ts a.0 a.1 in
      from_some (IsArgument (word class.Label y ∷ ts)) a.2 (record { wf = (h, v.fits, v.wf); words = ap (word_then class.Label y) v.words })
  label_by y ts x false h e = from_some (IsArgument (word class.Label y ∷ ts)) e (record { wf = h; words = refl })

  positional_found : (ts : List Tok) (x : Argument × List Tok) → (postfix sub n ts >>= λ e. Some (Positional e.0, e.1)) ≡ Some x → IsArgument ts x
  positional_found ts x e =
      let a = bind_ok (postfix sub n ts) _ x e in
      let v = postfix_found ts a.0 a.1 in
      from_some (IsArgument ts) a.2 (record { wf = (v.fits, v.wf); words = v.words })

  pub argument_found : (ts : List Tok) (x : Argument × List Tok) → argument sub n ts ≡ Some x → IsArgument ts x
  unfolding argument
  argument_found (word class.Label y ∷ ts) x e = label_by y ts x (has_colon y.text) refl e
  argument_found ts x e = positional_found ts x e

  pub record AreArguments (es : Arguments) (ts r : List Tok) : Type 0 where
    pub wf : WfArguments es
    pub words : ts ≡ arguments_then es r

  arguments_found : (ts : List Tok) → AreArguments (more_arguments sub n ts).0 ts (more_arguments sub n ts).1
  arguments_found ts = many_ind no_argument more_argument always (argument sub n) AreArguments
      (λ ts. record { wf = tt; words = refl })
      (λ ts x e. let p = argument_found ts x e in record { wf = (p.wf, tt); words = p.words })
      (λ ts x l r e h q. let p = argument_found ts x e in record { wf = (p.wf, q.wf); words = p.words ∙ ap (argument_then x.0) q.words })
      n ts

  apply_grown : (e : Expr) (es : Arguments) (ts r r' : List Tok) → is_bare e ≡ false → IsExpr (Above 14) ts (e, r) → AreArguments es r r'
      → IsExpr (Above 13) ts (grown_apply e es, r')
  apply_grown e no_argument ts r r' p a b = record { fits = omega (arith, a.fits); wf = a.wf; words = a.words ∙ ap (expr_then e) b.words }
  apply_grown e (more_argument x xs) ts r r' p a b =
      record { fits = omega arith; wf = (a.fits, p, a.wf, (λ q. cc), b.wf); words = a.words ∙ ap (expr_then e) b.words }

  constr_applied_found : (f : Expr) (ts r : List Tok) (o : Option (Expr × List Tok)) → IsExpr (Above 14) ts (f, r)
      → ((x : Expr × List Tok) → o ≡ Some x → IsExpr (Above 14) r x) → IsExpr (Above 13) ts (constr_applied f r o)
  constr_applied_found (Constr path) ts r (Some x) a b = let f = b x refl in
      record { fits = omega arith; wf = (a.wf, f.fits, f.wf); words = a.words ∙ ap (path_then path) f.words }
  constr_applied_found (Tag y) ts r (Some x) a b = let f = b x refl in
      record { fits = omega arith; wf = (f.fits, f.wf); words = a.words ∙ ap (word_then class.Tag y) f.words }
  constr_applied_found _ ts r o a b = record { fits = omega (arith, a.fits); wf = a.wf; words = a.words }

  applied_by : (f : Expr) (ts r : List Tok) (b : Bool) → is_bare f ≡ b → IsExpr (Above 14) ts (f, r)
      → IsExpr (Above 13) ts (cond {A = Expr × List Tok} b (constr_applied f r (postfix sub n r))
      (grown_apply f (more_arguments sub n r).0, (more_arguments sub n r).1))
  applied_by f ts r true h a = constr_applied_found f ts r (postfix sub n r) a (λ x e. postfix_found r x e)
  applied_by f ts r false h a = apply_grown f (more_arguments sub n r).0 ts r (more_arguments sub n r).1 h a (arguments_found r)

  led_found : (k : Fixed) (at : ℕ) (put : Expr → Expr) (ts : List Tok) (P : Expr × List Tok → Type 0) (x : Expr × List Tok)
      → ((e : Expr) (r : List Tok) → IsExpr (Above 14) ts (e, r) → P (put e, r)) → (postfix sub n ts >>= λ e. Some (put e.0, e.1)) ≡ Some x → P x
  led_found k at put ts P x gives e =
      let a = bind_ok (postfix sub n ts) _ x e in
      from_some P a.2 (gives a.0.0 a.0.1 (postfix_found ts a.0 a.1))

  plain_apply : (ts : List Tok) (x : Expr × List Tok) → (postfix sub n ts >>= λ f. Some (applied sub n f.0 f.1)) ≡ Some x → IsExpr (Above 13) ts x
  plain_apply ts x e =
      let a = bind_ok (postfix sub n ts) _ x e in
      from_some (IsExpr (Above 13) ts) a.2 (applied_by a.0.0 ts a.0.1 (is_bare a.0.0) refl (postfix_found ts a.0 a.1))

  pub apply_found : Finds (Above 13) (apply sub n)
  unfolding apply
  apply_found (placed key.Assert at ∷ ts) x e = led_found key.Assert at (Assert at) ts (IsExpr (Above 13) (placed key.Assert at ∷ ts)) x
      (λ e r v. record { fits = omega arith; wf = (v.fits, v.wf); words = ap (place_then key.Assert at) v.words }) e
  apply_found (placed key.Lazy at ∷ ts) x e = led_found key.Lazy at (Lazy at) ts (IsExpr (Above 13) (placed key.Lazy at ∷ ts)) x
      (λ e r v. record { fits = omega arith; wf = (v.fits, v.wf); words = ap (place_then key.Lazy at) v.words }) e
  apply_found ts x e = plain_apply ts x e

  -- ---- parameters

  pub record IsParam (ts : List Tok) (x : Param × List Tok) : Type 0 where
    pub wf : WfParam x.0
    pub words : ts ≡ param_then x.0 x.1

  default_found : (y : Name) (ts : List Tok) (x : Param × List Tok) → has_colon y.text ≡ true → is_optional y.text ≡ true
      → default_param sub n y ts ≡ Some x → IsParam (word class.Label y ∷ ts) x
  unfolding default_param
  default_found y (placed key.LeftParen at ∷ ts) x c o h =
      let a = bind_ok (read_pat n ts) _ x h in
      let run = optional_type a.0.1 in
      let q = bind_ok (expect_at key.Equals run.1) _ x a.2 in
      let b = bind_ok (sub wanted.Expression q.0.1) _ x q.2 in
      let d = bind_ok (expect key.RightParen b.0.1) _ x b.2 in
      let p = pat_found n ts a.0 a.1 in
      let t = optional_type_found a.0.1 in
      let v = finds wanted.Expression q.0.1 b.0 b.1 in
      from_some (IsParam (word class.Label y ∷ placed key.LeftParen at ∷ ts)) d.2 (record {
        wf = (c, o, p.wf, t.wf, v.fits, v.wf);
        words = ap (λ (k : List Tok). word class.Label y ∷ placed key.LeftParen at ∷ k)
            (p.words ∙ ap (pat_then a.0.0)
            (t.words ∙ ap (type_then run.0)
            (expect_at_ok key.Equals run.1 q.0 q.1
            ∙ ap (place_then key.Equals q.0.0) (v.words ∙ ap (expr_then b.0.0) (expect_ok key.RightParen b.0.1 d.0 d.1)))));
      })
  default_found y _ x c o h = absurd cc

  default_by : (y : Name) (ts : List Tok) (x : Param × List Tok) (b : Bool) → has_colon y.text ≡ true → is_optional y.text ≡ b
      → default_if sub n b y ts ≡ Some x → IsParam (word class.Label y ∷ ts) x
  default_by y ts x true c o h = default_found y ts x c o h
  default_by y ts x false c o h = absurd cc

  pattern_by : (y : Name) (ts : List Tok) (x : Param × List Tok) (o : Option (Pat × List Tok)) → has_colon y.text ≡ true → simple_at n ts ≡ o
      → pattern_or sub n y ts o ≡ Some x → IsParam (word class.Label y ∷ ts) x
  pattern_by y ts x (Some p) c q h = let f = simple_found (read_pat n) n (pat_found n) ts p q in
      from_some (IsParam (word class.Label y ∷ ts)) h (record { wf = (c, f.level, f.wf); words = ap (word_then class.Label y) f.words })
  pattern_by y ts x None c q h = default_by y ts x (is_optional y.text) c refl h

  label_param_by : (y : Name) (ts : List Tok) (x : Param × List Tok) (b : Bool) → has_colon y.text ≡ b
      → cond b (pattern_or sub n y ts (simple_at n ts)) (Some (LabelParam y, ts)) ≡ Some x → IsParam (word class.Label y ∷ ts) x
  label_param_by y ts x true c h = pattern_by y ts x (simple_at n ts) c refl h
  label_param_by y ts x false c h = from_some (IsParam (word class.Label y ∷ ts)) h (record { wf = c; words = refl })

  wrapped_default_found : (at at' : ℕ) (y : Name) (run : Option (List Tok)) (ts : List Tok) (x : Param × List Tok) → WfType run
      → wrapped_default sub n at at' y run ts ≡ Some x
      → IsParam (placed key.Question at ∷ placed key.LeftParen at' ∷ word class.Lower y ∷ type_then run ts) x
  wrapped_default_found at at' y run ts x w h =
      let q = bind_ok (expect_at key.Equals ts) _ x h in
      let b = bind_ok (sub wanted.Expression q.0.1) _ x q.2 in
      let d = bind_ok (expect key.RightParen b.0.1) _ x b.2 in
      let v = finds wanted.Expression q.0.1 b.0 b.1 in
      from_some (IsParam (placed key.Question at ∷ placed key.LeftParen at' ∷ word class.Lower y ∷ type_then run ts)) d.2 (record {
        wf = (w, v.fits, v.wf);
        words = ap (λ (k : List Tok). placed key.Question at ∷ placed key.LeftParen at' ∷ word class.Lower y ∷ type_then run k)
            (expect_at_ok key.Equals ts q.0 q.1
            ∙ ap (place_then key.Equals q.0.0) (v.words ∙ ap (expr_then b.0.0) (expect_ok key.RightParen b.0.1 d.0 d.1)));
      })

  wrapped_by : (at : ℕ) (optional : Bool) (at' : ℕ) (y : Name) (run : Option (List Tok)) (ts : List Tok) (x : Param × List Tok) → WfType run
      → cond optional (wrapped_default sub n at at' y run ts) None ≡ Some x
      → IsParam (placed (wrap optional) at ∷ placed key.LeftParen at' ∷ word class.Lower y ∷ type_then run ts) x
  wrapped_by at true at' y run ts x w h = wrapped_default_found at at' y run ts x w h
  wrapped_by at false at' y run ts x w h = absurd cc

  wrapped_end_found : (at : ℕ) (optional : Bool) (at' : ℕ) (y : Name) (run : Option (List Tok)) (ts : List Tok) (x : Param × List Tok) → WfType run
      → wrapped_end sub n at optional at' y run ts ≡ Some x
      → IsParam (placed (wrap optional) at ∷ placed key.LeftParen at' ∷ word class.Lower y ∷ type_then run ts) x
  wrapped_end_found at optional at' y run (fixed key.RightParen ∷ ts) x w h =
      from_some (IsParam (placed (wrap optional) at ∷ placed key.LeftParen at' ∷ word class.Lower y ∷ type_then run (key_then key.RightParen ts))) h
      (record { wf = w; words = refl })
  wrapped_end_found at optional at' y run ts x w h = wrapped_by at optional at' y run ts x w h

  wrapped_found : (at : ℕ) (optional : Bool) (ts : List Tok) (x : Param × List Tok) → wrapped_param sub n at optional ts ≡ Some x
      → IsParam (placed (wrap optional) at ∷ ts) x
  unfolding wrapped_param
  wrapped_found at optional (placed key.LeftParen at' ∷ word class.Lower y ∷ ts) x h =
      let t = optional_type_found ts in
      subst (λ (k : List Tok). IsParam (placed (wrap optional) at ∷ placed key.LeftParen at' ∷ word class.Lower y ∷ k) x) (sym t.words)
      (wrapped_end_found at optional at' y (optional_type ts).0 (optional_type ts).1 x t.wf h)
  wrapped_found at optional _ x h = absurd cc

  lowers_found : (ts : List Tok) → ts ≡ lowers_then (many [] ◌∷◌ always lower_word n ts).0 (many [] ◌∷◌ always lower_word n ts).1
  lowers_found ts = many_ind [] ◌∷◌ always lower_word (λ l ts r. ts ≡ lowers_then l r)
      (λ ts. refl)
      (λ ts x e. lower_ok ts x e)
      (λ ts x l r e h q. lower_ok ts x e ∙ ap (word_then class.Lower x.0) q)
      n ts

  types_by : (at : ℕ) (ts : List Tok) (m : List Name × List Tok) (x : Param × List Tok) → ts ≡ lowers_then m.0 m.1 → types_end sub n at m ≡ Some x
      → IsParam (placed key.LeftParen at ∷ fixed key.Type ∷ ts) x
  types_by at ts ([], r) x q h = absurd cc
  types_by at ts (y ∷ ys, r) x q h =
      let a = bind_ok (expect key.RightParen r) _ x h in
      from_some (IsParam (placed key.LeftParen at ∷ fixed key.Type ∷ ts)) a.2
      (record {
        wf = λ e. cc;
        words = ap (λ (k : List Tok). placed key.LeftParen at ∷ fixed key.Type ∷ k)
            (q ∙ ap (lowers_then (y ∷ ys)) (expect_ok key.RightParen r a.0 a.1));
      })

  pattern_found : (ts : List Tok) (x : Param × List Tok) → (simple_at n ts >>= λ p. Some (PatternParam p.0, p.1)) ≡ Some x → IsParam ts x
  pattern_found ts x e =
      let a = bind_ok (simple_at n ts) _ x e in
      let f = simple_found (read_pat n) n (pat_found n) ts a.0 a.1 in
      from_some (IsParam ts) a.2 (record { wf = (f.level, f.wf); words = f.words })

  pub param_found : (ts : List Tok) (x : Param × List Tok) → param sub n ts ≡ Some x → IsParam ts x
  unfolding param
  param_found (word class.Label y ∷ ts) x e = label_param_by y ts x (has_colon y.text) refl e
  param_found (placed key.Tilde at ∷ ts) x e = wrapped_found at false ts x e
  param_found (placed key.Question at ∷ ts) x e = wrapped_found at true ts x e
  param_found (placed key.LeftParen at ∷ fixed key.Type ∷ ts) x e = types_by at ts (many [] ◌∷◌ always lower_word n ts) x (lowers_found ts) e
  param_found ts x e = pattern_found ts x e

  pub record AreParams (ps : Params) (ts r : List Tok) : Type 0 where
    pub wf : WfParams ps
    pub words : ts ≡ params_then ps r

  pub params_found : (ts : List Tok) → AreParams (more_params sub n ts).0 ts (more_params sub n ts).1
  params_found ts = many_ind no_param more_param always (param sub n) AreParams
      (λ ts. record { wf = tt; words = refl })
      (λ ts x e. let p = param_found ts x e in record { wf = (p.wf, tt); words = p.words })
      (λ ts x l r e h q. let p = param_found ts x e in record { wf = (p.wf, q.wf); words = p.words ∙ ap (param_then x.0) q.words })
      n ts

  -- ---- bindings

  pub record IsBound (ts : List Tok) (x : (Option (List Tok) × ℕ × Expr) × List Tok) : Type 0 where
    pub type_wf : WfType x.0.0
    pub wf : Wf x.0.2
    pub words : ts ≡ type_then x.0.0 (placed key.Equals x.0.1 ∷ expr_then x.0.2 x.1)

  bound_found : (ts : List Tok) (x : (Option (List Tok) × ℕ × Expr) × List Tok) → bound sub n ts ≡ Some x → IsBound ts x
  unfolding bound
  bound_found ts x h =
      let run = optional_type ts in
      let q = bind_ok (expect_at key.Equals run.1) _ x h in
      let b = bind_ok (sub wanted.Sequence q.0.1) _ x q.2 in
      let t = optional_type_found ts in
      let v = finds wanted.Sequence q.0.1 b.0 b.1 in
      from_some (IsBound ts) b.2
      (record {
        type_wf = t.wf;
        wf = v.wf;
        words = t.words
            ∙ ap (type_then run.0) (expect_at_ok key.Equals run.1 q.0 q.1 ∙ ap (place_then key.Equals q.0.0) v.words);
      })

  pub record IsBinding (ts : List Tok) (x : Binding × List Tok) : Type 0 where
    pub wf : WfBinding x.0
    pub words : ts ≡ binding_then x.0 x.1

  plain_found : (ts : List Tok) (x : Binding × List Tok) → plain_binding sub n ts ≡ Some x → IsBinding ts x
  plain_found ts x e =
      let a = bind_ok (read_pat n ts) _ x e in
      let b = bind_ok (bound sub n a.0.1) _ x a.2 in
      let p = pat_found n ts a.0 a.1 in
      let v = bound_found a.0.1 b.0 b.1 in
      from_some (IsBinding ts) b.2 (record { wf = (p.wf, v.type_wf, v.wf); words = p.words ∙ ap (pat_then a.0.0) v.words })

  named_found : (ts : List Tok) (y : ValueName) (ps : Params) (r s : List Tok) (x : Binding × List Tok) → WfName y → ts ≡ name_then y r
      → AreParams ps r s → named_binding sub n ts y ps s ≡ Some x → IsBinding ts x
  named_found ts y no_param r s x w q f e = plain_found ts x e
  named_found ts y (more_param p ps) r s x w q f e =
      let a = bind_ok (bound sub n s) _ x e in
      let v = bound_found s a.0 a.1 in
      from_some (IsBinding ts) a.2
      (record { wf = (w, (λ k. cc), f.wf, v.type_wf, v.wf); words = q ∙ ap (name_then y) (f.words ∙ ap (params_then (more_param p ps)) v.words) })

  binding_found_by : (ts : List Tok) (o : Option (ValueName × List Tok)) (x : Binding × List Tok) → value_name ts ≡ o → binding_by sub n ts o ≡ Some x
      → IsBinding ts x
  binding_found_by ts None x q e = plain_found ts x e
  binding_found_by ts (Some y) x q e = let f = name_found ts y q in
      named_found ts y.0 (more_params sub n y.1).0 y.1 (more_params sub n y.1).1 x f.wf f.words (params_found y.1) e

  pub binding_found : (ts : List Tok) (x : Binding × List Tok) → binding sub n ts ≡ Some x → IsBinding ts x
  unfolding binding
  binding_found ts x e = binding_found_by ts (value_name ts) x refl e

  pub next_binding_found : (ts : List Tok) (x : Binding × List Tok) → next_binding sub n ts ≡ Some x → (r : List Tok) × (ts ≡ fixed key.And ∷ r)
      × IsBinding r x
  next_binding_found ts x e = let a = bind_ok (expect key.And ts) (binding sub n) x e in (a.0, expect_ok key.And ts a.0 a.1, binding_found a.0 x a.2)

  pub record AreBindings (bs : Bindings) (ts r : List Tok) : Type 0 where
    pub wf : WfBindings bs
    pub words : ts ≡ bindings_then bs r

  more_bindings_found : (ts : List Tok) → AreBindings (more_bindings sub n ts).0 ts (more_bindings sub n ts).1
  more_bindings_found ts = many_ind no_binding more_binding always (next_binding sub n) AreBindings
      (λ ts. record { wf = tt; words = refl })
      (λ ts x e. let p = next_binding_found ts x e in record { wf = (p.2.wf, tt); words = p.1 ∙ ap (key_then key.And) p.2.words })
      (λ ts x l r e h q. let p = next_binding_found ts x e in
      record { wf = (p.2.wf, q.wf); words = p.1 ∙ ap (key_then key.And) (p.2.words ∙ ap (binding_then x.0) q.words) })
      n ts

  pub record AreAll (ts : List Tok) (x : (Binding × Bindings) × List Tok) : Type 0 where
    pub first : WfBinding x.0.0
    pub more : WfBindings x.0.1
    pub words : ts ≡ binding_then x.0.0 (bindings_then x.0.1 x.1)

  pub bindings_found : (ts : List Tok) (x : (Binding × Bindings) × List Tok) → bindings sub n ts ≡ Some x → AreAll ts x
  unfolding bindings
  bindings_found ts x e =
      let a = bind_ok (binding sub n ts) _ x e in
      let b = binding_found ts a.0 a.1 in
      let m = more_bindings_found a.0.1 in
      from_some (AreAll ts) a.2 (record { first = b.wf; more = m.wf; words = b.words ∙ ap (binding_then a.0.0) m.words })

  -- ---- forms of level 1

  abbrev Form : Fixed → ℕ → List Tok → Expr × List Tok → Type 0
  Form k at ts x = IsExpr (λ e. level e ≡ 1) (placed k at ∷ ts) x

  let_values_found : (at : ℕ) (recursive : Bool) (ts : List Tok) (x : Expr × List Tok) → let_values sub n at recursive ts ≡ Some x
      → Form key.Let at (optional_then key.Rec recursive ts) x
  unfolding let_values
  let_values_found at recursive ts x e =
      let a = bind_ok (bindings sub n ts) _ x e in
      let b = bind_ok (expect key.In a.0.1) _ x a.2 in
      let c = bind_ok (sub wanted.Sequence b.0) _ x b.2 in
      let bs = bindings_found ts a.0 a.1 in
      let v = finds wanted.Sequence b.0 c.0 c.1 in
      from_some (Form key.Let at (optional_then key.Rec recursive ts)) c.2 (record {
        fits = refl;
        wf = (bs.first, bs.more, v.wf);
        words = ap (λ (k : List Tok). placed key.Let at ∷ optional_then key.Rec recursive k)
            (bs.words ∙ ap (λ (k : List Tok). binding_then a.0.0.0 (bindings_then a.0.0.1 k))
            (expect_ok key.In a.0.1 b.0 b.1 ∙ ap (key_then key.In) v.words));
      })

  let_open_found : (at at' : ℕ) (ts : List Tok) (x : Expr × List Tok) → let_open sub n at at' ts ≡ Some x
      → Form key.Let at (placed key.Open at' ∷ ts) x
  unfolding let_open
  let_open_found at at' ts x e =
      let bang = optional_bang ts in
      let a = bind_ok (upper_path n bang.1) _ x e in
      let b = bind_ok (expect key.In a.0.1) _ x a.2 in
      let c = bind_ok (sub wanted.Sequence b.0) _ x b.2 in
      let g = bang_found ts in
      let p = path_found n bang.1 a.0 a.1 in
      let v = finds wanted.Sequence b.0 c.0 c.1 in
      from_some (Form key.Let at (placed key.Open at' ∷ ts)) c.2 (record {
        fits = refl;
        wf = (g.0, p.0, v.wf);
        words = ap (λ (k : List Tok). placed key.Let at ∷ placed key.Open at' ∷ k)
            (g.1 ∙ ap (bang_then bang.0) (p.1 ∙ ap (path_then a.0.0) (expect_ok key.In a.0.1 b.0 b.1 ∙ ap (key_then key.In) v.words)));
      })

  let_module_found : (at at' : ℕ) (ts : List Tok) (x : Expr × List Tok) → let_module sub n at at' ts ≡ Some x
      → Form key.Let at (placed key.Module at' ∷ ts) x
  unfolding let_module
  let_module_found at at' (word class.Upper y ∷ placed key.Equals q ∷ ts) x e =
      let a = bind_ok (read_local n ts) _ x e in
      let b = bind_ok (expect key.In a.0.1) _ x a.2 in
      let c = bind_ok (sub wanted.Sequence b.0) _ x b.2 in
      let m = local_found n ts a.0 a.1 in
      let v = finds wanted.Sequence b.0 c.0 c.1 in
      from_some (Form key.Let at (placed key.Module at' ∷ word class.Upper y ∷ placed key.Equals q ∷ ts)) c.2 (record {
        fits = refl;
        wf = (m.wf, v.wf);
        words = ap (λ (k : List Tok). placed key.Let at ∷ placed key.Module at' ∷ word class.Upper y ∷ placed key.Equals q ∷ k)
            (m.words ∙ ap (local_then a.0.0) (expect_ok key.In a.0.1 b.0 b.1 ∙ ap (key_then key.In) v.words));
      })
  let_module_found at at' _ x e = absurd cc

  let_found : (at : ℕ) (ts : List Tok) (x : Expr × List Tok) → let_expr sub n at ts ≡ Some x → Form key.Let at ts x
  unfolding let_expr
  let_found at (placed key.Open at' ∷ ts) x e = let_open_found at at' ts x e
  let_found at (placed key.Module at' ∷ ts) x e = let_module_found at at' ts x e
  let_found at (fixed key.Rec ∷ ts) x e = let_values_found at true ts x e
  let_found at ts x e = let_values_found at false ts x e

  fun_by : (at : ℕ) (ps : Params) (ts r : List Tok) (x : Expr × List Tok) → AreParams ps ts r → fun_end sub n at ps r ≡ Some x → Form key.Fun at ts x
  fun_by at no_param ts r x f e = absurd cc
  fun_by at (more_param p ps) ts r x f e =
      let b = bind_ok (expect key.Arrow r) _ x e in
      let c = bind_ok (sub wanted.Sequence b.0) _ x b.2 in
      let v = finds wanted.Sequence b.0 c.0 c.1 in
      from_some (Form key.Fun at ts) c.2
      (record {
        fits = refl;
        wf = ((λ q. cc), f.wf, v.wf);
        words = ap (place_then key.Fun at)
            (f.words ∙ ap (params_then (more_param p ps)) (expect_ok key.Arrow r b.0 b.1 ∙ ap (key_then key.Arrow) v.words));
      })

  fun_found : (at : ℕ) (ts : List Tok) (x : Expr × List Tok) → fun_expr sub n at ts ≡ Some x → Form key.Fun at ts x
  unfolding fun_expr
  fun_found at ts x e = fun_by at (more_params sub n ts).0 ts (more_params sub n ts).1 x (params_found ts) e

  -- ---- cases

  pub record IsGuard (ts : List Tok) (x : MaybeExpr × List Tok) : Type 0 where
    pub wf : WfGuard x.0
    pub words : ts ≡ guard_then x.0 x.1

  when_found : (ts : List Tok) (x : MaybeExpr × List Tok) → (sub wanted.Sequence ts >>= λ e. Some (some_expr e.0, e.1)) ≡ Some x
      → IsGuard (fixed key.When ∷ ts) x
  when_found ts x e =
      let a = bind_ok (sub wanted.Sequence ts) _ x e in
      let v = finds wanted.Sequence ts a.0 a.1 in
      from_some (IsGuard (fixed key.When ∷ ts)) a.2 (record { wf = v.wf; words = ap (key_then key.When) v.words })

  guard_found : (ts : List Tok) (x : MaybeExpr × List Tok) → case_guard sub n ts ≡ Some x → IsGuard ts x
  guard_found (fixed key.When ∷ ts) x e = when_found ts x e
  guard_found ts x e = from_some (IsGuard ts) e (record { wf = tt; words = refl })

  pub record IsCase (ts : List Tok) (x : Case × List Tok) : Type 0 where
    pub wf : WfCase x.0
    pub words : ts ≡ case_then x.0 x.1

  pub case_found : (ts : List Tok) (x : Case × List Tok) → one_case sub n ts ≡ Some x → IsCase ts x
  unfolding one_case
  case_found ts x e =
      let a = bind_ok (read_pat n ts) _ x e in
      let g = bind_ok (case_guard sub n a.0.1) _ x a.2 in
      let b = bind_ok (expect key.Arrow g.0.1) _ x g.2 in
      let c = bind_ok (sub wanted.Sequence b.0) _ x b.2 in
      let p = pat_found n ts a.0 a.1 in
      let u = guard_found a.0.1 g.0 g.1 in
      let v = finds wanted.Sequence b.0 c.0 c.1 in
      from_some (IsCase ts) c.2
      (record {
        wf = (p.wf, u.wf, v.wf);
        words = p.words
            ∙ ap (pat_then a.0.0) (u.words ∙ ap (guard_then g.0.0) (expect_ok key.Arrow g.0.1 b.0 b.1 ∙ ap (key_then key.Arrow) v.words));
      })

  pub next_case_found : (ts : List Tok) (x : Case × List Tok) → next_case sub n ts ≡ Some x → (r : List Tok) × (ts ≡ fixed key.Bar ∷ r) × IsCase r x
  next_case_found ts x e = let a = bind_ok (expect key.Bar ts) (one_case sub n) x e in (a.0, expect_ok key.Bar ts a.0 a.1, case_found a.0 x a.2)

  pub record AreCases (cs : Cases) (ts r : List Tok) : Type 0 where
    pub wf : (c : Case) → NoCases c → WfCases c cs
    pub words : ts ≡ cases_then cs r

  abbrev cases_at : Bool → List Tok → Cases × List Tok
  cases_at b ts = many_if b no_case more_case no_cases (next_case sub n) n ts

  cases_found : (b : Bool) (ts : List Tok) → AreCases (cases_at b ts).0 ts (cases_at b ts).1
  cases_found b ts = many_if_ind no_case more_case no_cases (next_case sub n) AreCases
      (λ ts. record { wf = λ c h. tt; words = refl })
      (λ ts x e. let p = next_case_found ts x e in record { wf = λ c h. (h, p.2.wf, tt); words = p.1 ∙ ap (key_then key.Bar) p.2.words })
      (λ ts x l r e h q. let p = next_case_found ts x e in
      record { wf = λ c h'. (h', p.2.wf, q.wf x.0 (not_true _ h)); words = p.1 ∙ ap (key_then key.Bar) (p.2.words ∙ ap (case_then x.0) q.words) })
      b n ts

  cases_wf_by : (b : Bool) (c : Case) (ts : List Tok) → no_cases c ≡ b → WfCases c (cases_at b ts).0
  cases_wf_by true c ts h = (cases_found true ts).wf c (not_true _ h)
  cases_wf_by false c ts h = tt

  all_cases_found : (grown : Bool → Case → Cases → Expr) (P : Expr × List Tok → Type 0) (ts : List Tok) (x : Expr × List Tok)
      → ((bar : Bool) (c : Case) (cs : Cases) (r : List Tok) → WfCase c → WfCases c cs
      → ts ≡ optional_then key.Bar bar (case_then c (cases_then cs r)) → P (grown bar c cs, r))
      → all_cases sub n grown ts ≡ Some x → P x
  unfolding all_cases
  all_cases_found grown P ts x gives e =
      let a = bind_ok (one_case sub n (first_bar ts).1) _ x e in
      let c = case_found (first_bar ts).1 a.0 a.1 in
      let m = cases_found (no_cases a.0.0) a.0.1 in
      from_some P a.2 (gives (first_bar ts).0 a.0.0 (more_cases sub n a.0.0 a.0.1).0 (more_cases sub n a.0.0 a.0.1).1 c.wf
      (cases_wf_by (no_cases a.0.0) a.0.0 a.0.1 refl)
      (bar_ok ts ∙ ap (optional_then key.Bar (first_bar ts).0) (c.words ∙ ap (case_then a.0.0) m.words)))

  function_found : (at : ℕ) (ts : List Tok) (x : Expr × List Tok) → all_cases sub n (Function at) ts ≡ Some x → Form key.Function at ts x
  function_found at ts x e = all_cases_found (Function at) (Form key.Function at ts) ts x
      (λ bar c cs r w ws q. record { fits = refl; wf = (w, ws); words = ap (place_then key.Function at) q }) e

  match_found_by : (grown : Expr → Bool → Case → Cases → Expr) (P : Expr × List Tok → Type 0) (ts : List Tok) (x : Expr × List Tok)
      → ((e : Expr) (bar : Bool) (c : Case) (cs : Cases) (r : List Tok) → Wf e → WfCase c → WfCases c cs
      → ts ≡ expr_then e (fixed key.With ∷ optional_then key.Bar bar (case_then c (cases_then cs r))) → P (grown e bar c cs, r))
      → match_expr sub n grown ts ≡ Some x → P x
  unfolding match_expr
  match_found_by grown P ts x gives e =
      let a = bind_ok (sub wanted.Sequence ts) _ x e in
      let b = bind_ok (expect key.With a.0.1) _ x a.2 in
      let v = finds wanted.Sequence ts a.0 a.1 in
      all_cases_found (grown a.0.0) P b.0 x
      (λ bar c cs r w ws q. gives a.0.0 bar c cs r v.wf w ws
      (v.words ∙ ap (expr_then a.0.0) (expect_ok key.With a.0.1 b.0 b.1 ∙ ap (key_then key.With) q))) b.2

  match_found : (at : ℕ) (ts : List Tok) (x : Expr × List Tok) → match_expr sub n (Match at) ts ≡ Some x → Form key.Match at ts x
  match_found at ts x e = match_found_by (Match at) (Form key.Match at ts) ts x
      (λ e bar c cs r v w ws q. record { fits = refl; wf = (v, w, ws); words = ap (place_then key.Match at) q }) e

  try_found : (at : ℕ) (ts : List Tok) (x : Expr × List Tok) → match_expr sub n (Try at) ts ≡ Some x → Form key.Try at ts x
  try_found at ts x e = match_found_by (Try at) (Form key.Try at ts) ts x
      (λ e bar c cs r v w ws q. record { fits = refl; wf = (v, w, ws); words = ap (place_then key.Try at) q }) e

  -- ---- `if`

  pub record IsBranch (ts : List Tok) (x : (Expr × Expr) × List Tok) : Type 0 where
    pub test_wf : Wf x.0.0
    pub fits : 0 < level x.0.1
    pub wf : Wf x.0.1
    pub words : ts ≡ expr_then x.0.0 (fixed key.Then ∷ expr_then x.0.1 x.1)

  pub branch_found : (ts : List Tok) (x : (Expr × Expr) × List Tok) → then_branch sub n ts ≡ Some x → IsBranch ts x
  unfolding then_branch
  branch_found ts x e =
      let a = bind_ok (sub wanted.Sequence ts) _ x e in
      let b = bind_ok (expect key.Then a.0.1) _ x a.2 in
      let c = bind_ok (sub wanted.Expression b.0) _ x b.2 in
      let v = finds wanted.Sequence ts a.0 a.1 in
      let w = finds wanted.Expression b.0 c.0 c.1 in
      from_some (IsBranch ts) c.2
      (record {
        test_wf = v.wf;
        fits = w.fits;
        wf = w.wf;
        words = v.words
            ∙ ap (expr_then a.0.0) (expect_ok key.Then a.0.1 b.0 b.1 ∙ ap (key_then key.Then) w.words);
      })

  -- what follows a branch
  pub record IsTail (tail : Tail) (ts r : List Tok) : Type 0 where
    pub wf : (e : Expr) → NoOpenIf e → WfTail e tail
    pub words : ts ≡ tail_then tail r

  if_branch_found : (at : ℕ) (ts : List Tok) (x : Otherwise × List Tok)
      → (then_branch sub n ts >>= λ x. Some (if_branch at x.0.0 x.0.1, x.1)) ≡ Some x → PartOf x.0 (fixed key.Else ∷ placed key.If at ∷ ts) x.1
  if_branch_found at ts x e =
      let a = bind_ok (then_branch sub n ts) _ x e in
      let b = branch_found ts a.0 a.1 in
      from_some (λ (y : Otherwise × List Tok). PartOf y.0 (fixed key.Else ∷ placed key.If at ∷ ts) y.1) a.2
      (of_if at a.0.0.0 a.0.0.1 (fixed key.Else ∷ placed key.If at ∷ ts) a.0.1 b.test_wf b.fits b.wf
      (ap (λ (k : List Tok). fixed key.Else ∷ placed key.If at ∷ k) b.words))

  last_branch_found : (t : Tok) (ts : List Tok) (x : Otherwise × List Tok) → ((at : ℕ) → t ≡ placed key.If at → ⊥)
      → (sub wanted.Expression (t ∷ ts) >>= λ e. Some (last_branch e.0, e.1)) ≡ Some x → PartOf x.0 (fixed key.Else ∷ t ∷ ts) x.1
  last_branch_found t ts x not_if e =
      let a = bind_ok (sub wanted.Expression (t ∷ ts)) _ x e in
      let v = finds wanted.Expression (t ∷ ts) a.0 a.1 in
      from_some (λ (y : Otherwise × List Tok). PartOf y.0 (fixed key.Else ∷ t ∷ ts) y.1) a.2
      (of_last a.0.0 (fixed key.Else ∷ t ∷ ts) a.0.1 v.fits (λ h. let q = begins_if a.0.0 t ts a.0.1 v.wf h v.words in not_if q.0 q.1) v.wf
      (ap (key_then key.Else) v.words))

  no_words : (x : Otherwise × List Tok) → (sub wanted.Expression [] >>= λ e. Some (last_branch e.0, e.1)) ≡ Some x
      → PartOf x.0 (fixed key.Else ∷ []) x.1
  no_words x e =
      let a = bind_ok (sub wanted.Expression []) _ x e in
      let v = finds wanted.Expression [] a.0 a.1 in
      absurd (some_words a.0.0 a.0.1 v.wf v.words)

  pub else_found : (ts : List Tok) (x : Otherwise × List Tok) → else_branch sub n ts ≡ Some x → PartOf x.0 ts x.1
  unfolding else_branch
  else_found (fixed key.Else ∷ placed key.If at ∷ ts) x e = if_branch_found at ts x e
  else_found (fixed key.Else ∷ []) x e = no_words x e
  else_found (fixed key.Else ∷ fixed k ∷ ts) x e = last_branch_found (fixed k) ts x (λ at h. cc) e
  else_found (fixed key.Else ∷ word c y ∷ ts) x e = last_branch_found (word c y) ts x (λ at h. cc) e
  else_found (fixed key.Else ∷ t ∷ ts) x e = last_branch_found t ts x (λ at h. cc) e
  else_found [] x e = absurd cc
  else_found (_ ∷ ts) x e = absurd cc

  tail_last : (p : Otherwise) (ts r : List Tok) → PartOf p ts r → IsTail (cons_branch p no_else) ts r
  tail_last _ ts r (of_last e _ _ lv two w q) = record { wf = λ b k. (k, lv, two, w); words = q }
  tail_last _ ts r (of_if at c a _ _ wc lv wa q) = record { wf = λ b k. (k, wc, lv, wa, tt); words = q }

  tail_more : (p : Otherwise) (tail : Tail) (ts r r' : List Tok) → PartOf p ts r → branch_ends p ≡ true → IsTail tail r r'
      → IsTail (cons_branch p tail) ts r'
  tail_more _ tail ts r r' (of_last e _ _ lv two w q) g t = absurd cc
  tail_more _ tail ts r r' (of_if at c a _ _ wc lv wa q) g t =
      record {
        wf = λ b k. (k, wc, lv, wa, t.wf a (not_true _ g));
        words = q
            ∙ ap (λ (k : List Tok). fixed key.Else ∷ placed key.If at ∷ expr_then c (fixed key.Then ∷ expr_then a k)) t.words;
      }

  abbrev tail_at : Bool → List Tok → Tail × List Tok
  tail_at b ts = many_if b no_else cons_branch branch_ends (else_branch sub n) n ts

  tail_found : (b : Bool) (ts : List Tok) → IsTail (tail_at b ts).0 ts (tail_at b ts).1
  tail_found b ts = many_if_ind no_else cons_branch branch_ends (else_branch sub n) IsTail
      (λ ts. record { wf = λ e h. tt; words = refl })
      (λ ts x e. tail_last x.0 ts x.1 (else_found ts x e))
      (λ ts x l r e h q. tail_more x.0 l ts x.1 r (else_found ts x e) h q)
      b n ts

  tail_wf_by : (b : Bool) (e : Expr) (ts : List Tok) → no_open_if e ≡ b → WfTail e (tail_at b ts).0
  tail_wf_by true e ts h = (tail_found true ts).wf e (not_true _ h)
  tail_wf_by false e ts h = tt

  if_found : (at : ℕ) (ts : List Tok) (x : Expr × List Tok) → if_expr sub n at ts ≡ Some x → IsExpr (λ e. level e ≡ 2) (placed key.If at ∷ ts) x
  unfolding if_expr
  if_found at ts x e =
      let a = bind_ok (then_branch sub n ts) _ x e in
      let p = branch_found ts a.0 a.1 in
      let m = tail_found (no_open_if a.0.0.1) a.0.1 in
      from_some (IsExpr (λ e. level e ≡ 2) (placed key.If at ∷ ts)) a.2 (record {
        fits = refl;
        wf = (p.test_wf, p.fits, p.wf, tail_wf_by (no_open_if a.0.0.1) a.0.0.1 a.0.1 refl);
        words = ap (place_then key.If at) (p.words ∙ ap (λ (k : List Tok). expr_then a.0.0.0 (fixed key.Then ∷ expr_then a.0.0.1 k)) m.words);
      })

  -- ---- the levels

  of_form : (ts : List Tok) (x : Expr × List Tok) → IsExpr (λ e. level e ≡ 1) ts x → IsExpr (IsOperand 12) ts x
  of_form ts x v = record { fits = inr (omega (arith, v.fits), omega (arith, v.fits)); wf = v.wf; words = v.words }

  of_if_form : (ts : List Tok) (x : Expr × List Tok) → IsExpr (λ e. level e ≡ 2) ts x → IsExpr (IsOperand 12) ts x
  of_if_form ts x v = record { fits = inr (omega (arith, v.fits), omega (arith, v.fits)); wf = v.wf; words = v.words }

  of_apply : (ts : List Tok) (x : Expr × List Tok) → IsExpr (Above 13) ts x → IsExpr (IsOperand 12) ts x
  of_apply ts x v = record { fits = inl (omega (arith, v.fits)); wf = v.wf; words = v.words }

  minus_by : (y : Name) (ts : List Tok) (x : Expr × List Tok) (b : Bool) → is_minus y.text ≡ b
      → cond b (sub wanted.Operand ts >>= λ e. Some (Minus y e.0, e.1)) None ≡ Some x → IsExpr (IsOperand 12) (word class.Infix y ∷ ts) x
  minus_by y ts x true h e =
      let a = bind_ok (sub wanted.Operand ts) _ x e in
      let v = finds wanted.Operand ts a.0 a.1 in
      from_some (IsExpr (IsOperand 12) (word class.Infix y ∷ ts)) a.2
      (record { fits = inl (omega arith); wf = (h, v.fits, v.wf); words = ap (word_then class.Infix y) v.words })
  minus_by y ts x false h e = absurd cc

  pub unary_found : Finds (IsOperand 12) (unary sub n)
  unfolding unary
  unary_found (placed key.Let at ∷ ts) x e = of_form _ x (let_found at ts x e)
  unary_found (placed key.Fun at ∷ ts) x e = of_form _ x (fun_found at ts x e)
  unary_found (placed key.Function at ∷ ts) x e = of_form _ x (function_found at ts x e)
  unary_found (placed key.Match at ∷ ts) x e = of_form _ x (match_found at ts x e)
  unary_found (placed key.Try at ∷ ts) x e = of_form _ x (try_found at ts x e)
  unary_found (placed key.If at ∷ ts) x e = of_if_form _ x (if_found at ts x e)
  unary_found (word class.Infix y ∷ ts) x e = minus_by y ts x (is_minus y.text) refl e
  unary_found ts x e = of_apply ts x (apply_found ts x e)

  -- ---- chains

  pub record AreLinks (m : ℕ) (es : Links) (ts r : List Tok) : Type 0 where
    pub wf : (e : Expr) → goes_on e ts ≡ true → WfChain m e es
    pub words : ts ≡ links_then es r

  pub record IsOperator (m : ℕ) (ts : List Tok) (x : (Tok × Expr × Bool) × List Tok) : Type 0 where
    pub rest : List Tok
    pub is : ts ≡ x.0.0 ∷ rest
    pub op : op_level x.0.0 ≡ m
    pub more : x.0.2 ≡ goes_on x.0.1 x.1
    pub operand : IsExpr (IsOperand m) rest (x.0.1, x.1)

  module _ (m : ℕ) (one : Read Expr) (one_found : Finds (IsOperand m) one) where
    operator_by : (t : Tok) (ts : List Tok) (x : (Tok × Expr × Bool) × List Tok) (b : Bool) → op_level t == m ≡ b
        → cond b (one ts >>= λ x. Some ((t, x.0, goes_on x.0 x.1), x.1)) None ≡ Some x → IsOperator m (t ∷ ts) x
    operator_by t ts x true h e =
        let a = bind_ok (one ts) _ x e in
        from_some (IsOperator m (t ∷ ts)) a.2 (record { rest = ts; is = refl; op = eqb-true _ _ h; more = refl; operand = one_found ts a.0 a.1 })
    operator_by t ts x false h e = absurd cc

    pub operator_found : (ts : List Tok) (x : (Tok × Expr × Bool) × List Tok) → operator_part sub n m one ts ≡ Some x → IsOperator m ts x
    operator_found (t ∷ ts) x e = operator_by t ts x (op_level t == m) refl e
    operator_found [] x e = absurd cc

    abbrev links_at : Bool → List Tok → Links × List Tok
    links_at b ts = many_if b no_link cons_operand (λ x. x.2) (operator_part sub n m one) n ts

    head_wf : (e : Expr) (ts : List Tok) (x : (Tok × Expr × Bool) × List Tok) → IsOperator m ts x → goes_on e ts ≡ true
        → Calm e × CanBeAssigned x.0.0 e
    head_wf e ts x p h = let k = subst (λ l. goes_on e l ≡ true) p.is h in (going_calm e (x.0.0 ∷ p.rest) k, going_assigned e x.0.0 p.rest k)

    pub links_found : (b : Bool) (ts : List Tok) → AreLinks m (links_at b ts).0 ts (links_at b ts).1
    links_found b ts = many_if_ind no_link cons_operand (λ x. x.2) (operator_part sub n m one) (AreLinks m)
        (λ ts. record { wf = λ e h. tt; words = refl })
        (λ ts x e. let p = operator_found ts x e in
        record {
          wf = λ e h. let g = head_wf e ts x p h in (g.0, g.1, p.op, p.operand.fits, p.operand.wf, tt);
          words = p.is
              ∙ ap (λ (k : List Tok). x.0.0 ∷ k) p.operand.words;
        })
        (λ ts x l r e h q. let p = operator_found ts x e in
        record {
          wf = λ e h'. let g = head_wf e ts x p h' in (g.0, g.1, p.op, p.operand.fits, p.operand.wf, q.wf x.0.1 (sym p.more ∙ h));
          words = p.is ∙ ap (λ (k : List Tok). x.0.0 ∷ k) (p.operand.words ∙ ap (expr_then x.0.1) q.words);
        })
        b n ts

    chain_grown : (e : Expr) (es : Links) (ts r r' : List Tok) → 3 ≤ m → m ≤ 12 → IsExpr (IsOperand m) ts (e, r)
        → ((es ≢ no_link) → Calm e × WfChain m e es) → r ≡ links_then es r' → IsExpr (IsOperand (m - 1)) ts (grown_chain m e es, r')
    chain_grown e no_link ts r r' lo hi a b q = record { fits = lower_operand m e a.fits; wf = a.wf; words = a.words ∙ ap (expr_then e) q }
    chain_grown e (more_link t e' es) ts r r' lo hi a b q =
        let c = b (λ q. cc) in
        record {
          fits = inl (omega arith);
          wf = (lo, hi, (λ q. cc), calm_operand m e a.fits a.wf c.0, a.wf, c.1);
          words = a.words
              ∙ ap (expr_then e) q;
        }

    chain_wf_by : (b : Bool) (e : Expr) (ts : List Tok) → goes_on e ts ≡ b → (links_at b ts).0 ≢ no_link → Calm e × WfChain m e (links_at b ts).0
    chain_wf_by true e ts h k = (going_calm e ts h, (links_found true ts).wf e h)
    chain_wf_by false e ts h k = absurd (k refl)

  pub tier_found : (d : ℕ) → d ≤ 10 → Finds (IsOperand (12 - d)) (tier sub n d)
  unfolding tier
  tier_found zero le ts x e = unary_found ts x e
  tier_found (suc d) le ts x e =
      let a = bind_ok (tier sub n d ts) _ x e in
      let one_found = tier_found d (omega arith) in
      let v = one_found ts a.0 a.1 in
      let m = links_found (12 - d) (tier sub n d) one_found (goes_on a.0.0 a.0.1) a.0.1 in
      let g = chain_grown (12 - d) (tier sub n d) one_found a.0.0 _ ts a.0.1 _ (omega arith) (omega arith) v
      (chain_wf_by (12 - d) (tier sub n d) one_found (goes_on a.0.0 a.0.1) a.0.0 a.0.1 refl) m.words in
      let same : (12 - d) - 1 ≡ 12 - suc d = omega arith in
      subst (λ k. IsExpr (IsOperand k) ts x) same (from_some (IsExpr (IsOperand ((12 - d) - 1)) ts) a.2 g)

  pub expr_found : Finds (Above 0) (expr sub n)
  expr_found ts x e = let v = tier_found 10 (omega arith) ts x e in record { fits = is_expr x.0 v.fits; wf = v.wf; words = v.words }

  seq_grown : (ts : List Tok) (e : Expr) (es : Links) (last : Bool) (r : List Tok) → IsWholeRow (expr sub n) expr_found ts e es last r
      → IsExpr Any ts (grown_seq e es last, r)
  seq_grown ts e no_link false r h = record { fits = tt; wf = h.wf; words = h.words }
  seq_grown ts e no_link true r h = record { fits = tt; wf = (h.fits, h.wf, h.row_wf, inr refl); words = h.words }
  seq_grown ts e (more_link t e' es) last r h = record { fits = tt; wf = (h.fits, h.wf, h.row_wf, inl (λ q. cc)); words = h.words }

  pub seq_found : Finds Any (seq sub n)
  unfolding seq
  seq_found ts x e = whole_row_found (expr sub n) expr_found grown_seq (IsExpr Any ts) ts x (seq_grown ts) e

  pub one_found : (w : Wanted) → Finds (fits_of w) (one_of sub n w)
  one_found wanted.Sequence = seq_found
  one_found wanted.Expression = expr_found
  one_found wanted.Operand = unary_found
  one_found wanted.Postfix = postfix_found
  one_found wanted.Prefixed = prefixed_found

pub expr_reads : (n : ℕ) (w : Wanted) → Finds (fits_of w) (read_expr n w)
unfolding read_expr
expr_reads zero w ts x e = absurd cc
expr_reads (suc n) w ts x e = one_found (read_expr n) n (expr_reads n) w ts x e
