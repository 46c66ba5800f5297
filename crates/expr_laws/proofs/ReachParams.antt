-- No expression is missed: what is read from its words and more is this expression, or goes farther. The beginning:
-- what this says of an expression at each level, and module paths, parameters and names.
use Rattle.std.proofs.Common.{◌≡◌, ◌≢◌, ℕ, zero, suc, ◌-◌, ◌<◌, ◌≤◌, inl, inr, List, [], ◌∷◌, ◌++◌, length, Bool, true, false, cond, Option, Some}
use Rattle.std.proofs.Common.{None, refl, sym, ap, subst, ◌∙◌, arith}
use Rattle.rotor_base.specs.declared.token.Class.{Class}
use Rattle.rotor_base.specs.declared.token.Class.TheVariants as class
use Rattle.ml_trees.specs.declared.fixed.Fixed.{Fixed}
use Rattle.ml_trees.specs.declared.fixed.Fixed.TheVariants as key
use Rattle.ml_trees.specs.declared.word.Bracket.TheVariants as bracket
use Rattle.ml_trees.specs.Tok.{Name, Tok, fixed, placed, word}
use Rattle.expr_reading.specs.declared.wanted.Wanted.TheVariants as wanted
use Rattle.ml_trees.specs.Runs.{has_colon}
use Rattle.ml_trees.proofs.Words.{wrap, path_then, name_then, names_then, type_then, pat_then, local_then, locals_then, lowers_then, expr_then}
use Rattle.ml_trees.proofs.Words.{param_then, params_then}
use Rattle.ml_trees.specs.WellFormed.{WfName, WfType, WfPat, pat_level, is_operator, level, IsOperand, is_bracketed, WfLocal, WfLocals, Wf, WfParam}
use Rattle.ml_trees.specs.WellFormed.{WfParams}
use Rattle.ml_trees.specs.Tree.{Pat, AsPat, OrPat, TuplePat, ConsPat, ConstrApplyPat, TagApplyPat, LazyPat, ExceptionPat, AnyPat, ValuePat}
use Rattle.ml_trees.specs.Tree.{LiteralPat, NegativePat, RangePat, ConstrPat, TagPat, BoolPat, UnitPat, ParenPat, TypedPat, EmptyPat, ListPat}
use Rattle.ml_trees.specs.Tree.{RecordPat, OpenedPat, no_pat, more_pat, ValueName, PlainName, OperatorName, LocalModule, LocalPath, LocalArguments}
use Rattle.ml_trees.specs.Tree.{no_local, more_local, no_module, Expr, Links, no_link, more_link, MaybeExpr, no_expr, some_expr, Tail, no_else}
use Rattle.ml_trees.specs.Tree.{or_else, or_if, Binding, PlainBinding, AppliedBinding, Bindings, no_binding, more_binding, Case, CaseOf, Cases}
use Rattle.ml_trees.specs.Tree.{no_case, more_case, Argument, Positional, LabelPun, Labelled, Arguments, no_argument, more_argument, Param}
use Rattle.ml_trees.specs.Tree.{PatternParam, LabelParam, LabelPattern, DefaultParam, WrappedParam, WrappedDefault, TypesParam, Params, no_param}
use Rattle.ml_trees.specs.Tree.{more_param, Part, LabelPart, IndexPart, CharPart, Parts, no_part, more_part, Field, FieldPun, AssignedField, Fields}
use Rattle.ml_trees.specs.Tree.{no_field, more_field}
use Rattle.token_reading.specs.Steps.{Read, ◌>>=◌, expect, many, always}
use Rattle.token_reading.specs.Pieces.{dot_upper, lower_word, operator_at, value_name}
use Rattle.token_reading.specs.PatReading.{simple_pat, read_pat, closed_by as pat_closed_by}
use Rattle.token_reading.proofs.Stepping.{some_is, from_some}
use Rattle.token_reading.proofs.Reach.{Reach, stop, no_turn, more_turns}
use Rattle.token_reading.proofs.FoundPieces.{lower_ok}
use Rattle.pattern_reading.proofs.LongerPat.{begins_pat, Opens, pat_opens, pat_longer, type_longer}
use Rattle.token_reading.proofs.ReachPieces.{uppers_reach, name_read, type_run_read, type_read}
use Rattle.pattern_reading.proofs.ReachSimple.{grip as pat_grip, Goes as PatGoes, paren_else}
use Rattle.pattern_reading.proofs.ReachPat.{pat_reach, simple_reach}
use Rattle.expr_reading.specs.ExprReading.{cons_local, upper_path, local_part, local_parts, local_module, read_local, simple_at, enclosed, prefixed}
use Rattle.expr_reading.specs.ExprReading.{postfix, default_param, wrapped_param, param, more_params, plain_binding, binding_by, binding, tier, seq}
use Rattle.expr_reading.specs.ExprReading.{read_expr, LocalPart, given_module, given_none}
use Rattle.expr_laws.proofs.LongerExpr.{lowers_more, local_more, expr_more, param_more, path_strict, expr_longer}
use Rattle.expr_laws.proofs.FoundExpr.{IsLocalPart, local_part_found, local_found, param_found, expr_reads, is_given, is_none}
use Rattle.expr_laws.proofs.GoesExpr.{grip, Holds, Goes, closer_stops, AtDot}

abbrev pub enclosed_at : ℕ → Read Expr
enclosed_at f = enclosed (read_expr f) f

abbrev pub prefixed_at : ℕ → Read Expr
prefixed_at f = prefixed (read_expr f) f

abbrev pub postfix_at : ℕ → Read Expr
postfix_at f = postfix (read_expr f) f

abbrev pub tier_at : ℕ → ℕ → Read Expr
tier_at f d = tier (read_expr f) f d

abbrev pub seq_at : ℕ → Read Expr
seq_at f = seq (read_expr f) f

-- what is read at each level from the words of an expression and more
pub record Good (e : Expr) : Type 0 where
  pub encloseds : is_bracketed e ≡ true → Wf e → (f : ℕ) (r : List Tok) → length (expr_then e r) ≤ suc f → enclosed_at f (expr_then e r) ≡ Some (e, r)
  pub prefixeds : 15 < level e → Wf e → (f : ℕ) (r : List Tok) → length (expr_then e r) ≤ suc f
      → Reach (AtDot e r) e r (prefixed_at f (expr_then e r))
  pub posts : 14 < level e → Wf e → (f : ℕ) (r : List Tok) → length (expr_then e r) ≤ suc f → Reach (Holds 15 r) e r (postfix_at f (expr_then e r))
  pub tiers : (d : ℕ) → d ≤ 10 → IsOperand (12 - d) e → Wf e → (f : ℕ) (r : List Tok) → length (expr_then e r) ≤ suc f
      → Reach (Goes (13 - d) e r) e r (tier_at f d (expr_then e r))
  pub seqs : Wf e → (f : ℕ) (r : List Tok) → length (expr_then e r) ≤ suc f → Reach (Goes 0 e r) e r (seq_at f (expr_then e r))

abbrev pub AllLinks : (Expr → Type 0) → Links → Type 0
AllLinks G no_link = Unit {0}
AllLinks G (more_link t e es) = G e × AllLinks G es

abbrev pub GoodLinks : Links → Type 0
GoodLinks = AllLinks Good

abbrev pub GoodMaybe : MaybeExpr → Type 0
GoodMaybe no_expr = Unit {0}
GoodMaybe (some_expr e) = Good e

abbrev pub GoodTail : Tail → Type 0
GoodTail no_else = Unit {0}
GoodTail (or_else e) = Good e
GoodTail (or_if at c e es) = Good c × Good e × GoodTail es

abbrev pub GoodParam : Param → Type 0
GoodParam (DefaultParam x at p run q e) = Good e
GoodParam (WrappedDefault at at' x run q e) = Good e
GoodParam _ = Unit {0}

abbrev pub GoodParams : Params → Type 0
GoodParams no_param = Unit {0}
GoodParams (more_param p ps) = GoodParam p × GoodParams ps

abbrev pub GoodBinding : Binding → Type 0
GoodBinding (PlainBinding p run at e) = Good e
GoodBinding (AppliedBinding x ps run at e) = GoodParams ps × Good e

abbrev pub GoodBindings : Bindings → Type 0
GoodBindings no_binding = Unit {0}
GoodBindings (more_binding b bs) = GoodBinding b × GoodBindings bs

abbrev pub GoodCase : Case → Type 0
GoodCase (CaseOf p guard e) = GoodMaybe guard × Good e

abbrev pub GoodCases : Cases → Type 0
GoodCases no_case = Unit {0}
GoodCases (more_case c cs) = GoodCase c × GoodCases cs

abbrev pub GoodArgument : Argument → Type 0
GoodArgument (Positional e) = Good e
GoodArgument (LabelPun x) = Unit {0}
GoodArgument (Labelled x e) = Good e

abbrev pub GoodArguments : Arguments → Type 0
GoodArguments no_argument = Unit {0}
GoodArguments (more_argument a es) = GoodArgument a × GoodArguments es

abbrev pub GoodPart : Part → Type 0
GoodPart (LabelPart path x) = Unit {0}
GoodPart (IndexPart at e) = Good e
GoodPart (CharPart at e) = Good e

abbrev pub GoodParts : Parts → Type 0
GoodParts no_part = Unit {0}
GoodParts (more_part p ps) = GoodPart p × GoodParts ps

abbrev pub GoodField : Field → Type 0
GoodField (FieldPun path x run) = Unit {0}
GoodField (AssignedField path x run at e) = Good e

abbrev pub GoodFields : Fields → Type 0
GoodFields no_field = Unit {0}
GoodFields (more_field f fs) = GoodField f × GoodFields fs

-- ---- through the knot

pub sub_seq : (e : Expr) → Good e → Wf e → (f : ℕ) (r : List Tok) → length (expr_then e r) ≤ f
    → Reach (Goes 0 e r) e r (read_expr f wanted.Sequence (expr_then e r))
unfolding read_expr
sub_seq e g w zero r len = absurd (omega (arith, len, expr_longer e r w))
sub_seq e g w (suc f) r len = g.seqs w f r len

pub operand_of : (e : Expr) → 0 < level e → IsOperand 2 e
operand_of e h = by (level e) refl
  where
    by : (n : ℕ) → level e ≡ n → IsOperand 2 e
    by zero q = absurd (omega (arith, h, q))
    by (suc zero) q = inr (h, omega (arith, q))
    by (suc (suc zero)) q = inr (h, omega (arith, q))
    by (suc (suc (suc n))) q = inl (omega (arith, q))

pub sub_expr : (e : Expr) → Good e → 0 < level e → Wf e → (f : ℕ) (r : List Tok) → length (expr_then e r) ≤ f
    → Reach (Goes 3 e r) e r (read_expr f wanted.Expression (expr_then e r))
unfolding read_expr
sub_expr e g h w zero r len = absurd (omega (arith, len, expr_longer e r w))
sub_expr e g h w (suc f) r len = g.tiers 10 (omega arith) (operand_of e h) w f r len

pub sub_operand : (e : Expr) → Good e → IsOperand 12 e → Wf e → (f : ℕ) (r : List Tok) → length (expr_then e r) ≤ f
    → Reach (Goes 13 e r) e r (read_expr f wanted.Operand (expr_then e r))
unfolding read_expr tier
sub_operand e g h w zero r len = absurd (omega (arith, len, expr_longer e r w))
sub_operand e g h w (suc f) r len = g.tiers 0 (omega arith) h w f r len

pub sub_postfix : (e : Expr) → Good e → 14 < level e → Wf e → (f : ℕ) (r : List Tok) → length (expr_then e r) ≤ f
    → Reach (Holds 15 r) e r (read_expr f wanted.Postfix (expr_then e r))
unfolding read_expr
sub_postfix e g h w zero r len = absurd (omega (arith, len, expr_longer e r w))
sub_postfix e g h w (suc f) r len = g.posts h w f r len

pub sub_prefixed : (e : Expr) → Good e → 15 < level e → Wf e → (f : ℕ) (r : List Tok) → length (expr_then e r) ≤ f
    → Reach (AtDot e r) e r (read_expr f wanted.Prefixed (expr_then e r))
unfolding read_expr
sub_prefixed e g h w zero r len = absurd (omega (arith, len, expr_longer e r w))
sub_prefixed e g h w (suc f) r len = g.prefixeds h w f r len

-- followed by a word that ends an expression
pub seq_exact : (e : Expr) → Good e → Wf e → (f : ℕ) (k : Fixed) (r : List Tok) → grip (fixed k) ≡ 0 → (fixed k ≡ fixed key.Else → ⊥)
    → (fixed k ≡ fixed key.Bar → ⊥) → length (expr_then e (fixed k ∷ r)) ≤ f → read_expr f wanted.Sequence (expr_then e (fixed k ∷ r)) ≡ Some
    (e, fixed k ∷ r)
seq_exact e g w f k r z x y len = stop (closer_stops 0 e k r z x y) (sub_seq e g w f (fixed k ∷ r) len)

pub expr_exact : (e : Expr) → Good e → 0 < level e → Wf e → (f : ℕ) (k : Fixed) (r : List Tok) → grip (fixed k) ≡ 0 → (fixed k ≡ fixed key.Else → ⊥)
    → (fixed k ≡ fixed key.Bar → ⊥) → length (expr_then e (fixed k ∷ r)) ≤ f → read_expr f wanted.Expression (expr_then e (fixed k ∷ r)) ≡ Some
    (e, fixed k ∷ r)
expr_exact e g h w f k r z x y len = stop (closer_stops 3 e k r z x y) (sub_expr e g h w f (fixed k ∷ r) len)

pub pat_exact : (p : Pat) → WfPat p → (f : ℕ) (r : List Tok) → (PatGoes 0 r → ⊥) → length (pat_then p r) ≤ f → read_pat f (pat_then p r) ≡ Some (p, r)
pat_exact p w f r never len = stop never (pat_reach p w f r len)

-- ---- module paths

pub path_read : (f : ℕ) (path : List Name) (r : List Tok) → path ≢ [] → length (path_then path r) ≤ suc f → dot_upper r ≡ None
    → upper_path f (path_then path r) ≡ Some (path, r)
path_read f [] r some len none = absurd (some refl)
path_read f (y ∷ ys) r some len none =
    let more = some_is (stop {C = ⊥} (λ c. c) (uppers_reach ⊥ ys r f (omega (arith, len)) (λ x e. let q = sym none ∙ e in absurd cc))) in
    rw more refl

-- what follows a module
pub data EndsLocal : List Tok → Type 0 where
  at_in : (r : List Tok) → EndsLocal (fixed key.In ∷ r)
  at_paren : (r : List Tok) → EndsLocal (fixed key.RightParen ∷ r)

no_dot : (ms : LocalArguments) (k : List Tok) → EndsLocal k → dot_upper (locals_then ms k) ≡ None
no_dot no_local _ (at_in r) = refl
no_dot no_local _ (at_paren r) = refl
no_dot (more_local at m ms) k ends = refl
no_dot (no_module at ms) k ends = refl

no_local_part : (sub : Read LocalModule) (k : List Tok) → EndsLocal k → local_part sub k ≡ None
no_local_part sub _ (at_in r) = refl
no_local_part sub _ (at_paren r) = refl

part_shorter : (p : LocalPart) (ts r : List Tok) → IsLocalPart p ts r → length r < length ts
part_shorter _ ts r (is_given at m _ _ w q) = omega (arith, ap length q, local_more m (fixed key.RightParen ∷ r))
part_shorter _ ts r (is_none at _ _ q) = omega (arith, ap length q)

local_shorter : (f : ℕ) (ts : List Tok) (x : LocalPart × List Tok) → local_part (read_local f) ts ≡ Some x → length x.1 < length ts
local_shorter f ts x e = part_shorter x.0 ts x.1 (local_part_found (read_local f) (local_found f) ts x e)

local_first : (sub : Read LocalModule) (at : ℕ) (m : LocalModule) (k : List Tok) → WfLocal m
    → local_part sub (placed key.LeftParen at ∷ local_then m k)
    ≡ (sub (local_then m k) >>= λ m. expect key.RightParen m.1 >>= λ r. Some (given_module at m.0, r))
local_first sub at (LocalPath [] ms) k w = absurd (w.0 refl)
local_first sub at (LocalPath (x ∷ xs) ms) k w = refl

mutual
  unfolding read_local local_module

  pub local_read : (m : LocalModule) → WfLocal m → (f : ℕ) (k : List Tok) → EndsLocal k → length (local_then m k) ≤ f
      → read_local f (local_then m k) ≡ Some (m, k)
  local_read (LocalPath path ms) w zero k ends len = absurd (omega (arith, len, path_strict path (locals_then ms k) w.0))
  local_read (LocalPath path ms) w (suc f) k ends len =
      let shorter = path_strict path (locals_then ms k) w.0 in
      let p = path_read f path (locals_then ms k) w.0 len (no_dot ms k ends) in
      let m = some_is (stop {C = ⊥} (λ c. c) (locals_read ms w.1 f k ends f (omega (arith, len, shorter)) (omega arith))) in
      rw (p, m) refl

  locals_read : (ms : LocalArguments) → WfLocals ms → (f : ℕ) (k : List Tok) → EndsLocal k → (n : ℕ) → length (locals_then ms k) ≤ n → n ≤ f
      → Reach ⊥ ms k (Some (local_parts (read_local f) n (locals_then ms k)))
  locals_read no_local w f k ends n len le = no_turn no_local cons_local always (local_part (read_local f)) (local_shorter f) ⊥ true k (length k) n
      (λ _ x e. let q = sym (no_local_part (read_local f) k ends) ∙ e in absurd cc)
  locals_read (more_local at m ms) w f k ends zero len le = absurd (omega (arith, len))
  locals_read (more_local at m ms) w f k ends (suc n) len le =
      let rest : List Tok = locals_then ms k in
      let longer = local_more m (fixed key.RightParen ∷ rest) in
      let inside = local_read m w.0 f (fixed key.RightParen ∷ rest) (at_paren rest) (omega (arith, len, le)) in
      let part : local_part (read_local f) (placed key.LeftParen at ∷ local_then m (fixed key.RightParen ∷ rest)) ≡ Some (given_module at m, rest) =
      local_first (read_local f) at m (fixed key.RightParen ∷ rest) w.0 ∙ rw inside refl in
      more_turns no_local cons_local always (local_part (read_local f)) (local_shorter f) ⊥ (given_module at m) ms k
      (placed key.LeftParen at ∷ local_then m (fixed key.RightParen ∷ rest)) rest (length k) n part refl
      (locals_read ms w.1 f k ends n (omega (arith, len, longer)) (omega (arith, le)))
  locals_read (no_module at ms) w f k ends zero len le = absurd (omega (arith, len))
  locals_read (no_module at ms) w f k ends (suc n) len le =
      more_turns no_local cons_local always (local_part (read_local f)) (local_shorter f) ⊥ (given_none at) ms k
      (placed key.LeftParen at ∷ fixed key.RightParen ∷ locals_then ms k) (locals_then ms k) (length k) n refl refl
      (locals_read ms w f k ends n (omega (arith, len)) (omega (arith, le)))

-- ---- names before patterns

-- no parameter begins here
abbrev pub NoParam : List Tok → Type 0
NoParam [] = Unit {0}
NoParam (fixed x ∷ r) = Unit {0}
NoParam (placed key.Equals at ∷ r) = Unit {0}
NoParam _ = ⊥

abbrev pub param_at : ℕ → Read Param
param_at f = param (read_expr f) f

pub no_param_read : (f : ℕ) (k : List Tok) → NoParam k → param_at f k ≡ None
unfolding param simple_pat
no_param_read f [] h = refl
no_param_read f (fixed x ∷ r) h = refl
no_param_read f (placed key.Equals at ∷ r) h = refl
no_param_read f _ h = absurd h

operator_ends : (at : ℕ) (ts : List Tok) (x : ValueName × List Tok) → Opens ts → operator_at at ts ≡ Some x → ⊥
operator_ends at ts x o e = by o.first o.rest o.begins o.behind (subst (λ k. operator_at at k ≡ Some x) o.is e)
  where
    by : (t : Tok) (rest : List Tok) → begins_pat t ≡ true
        → (is_operator t ≡ true → (c : Class) × (y : Name) × (r : List Tok) × (rest ≡ word c y ∷ r)) → operator_at at (t ∷ rest) ≡ Some x → ⊥
    by t (fixed key.RightParen ∷ r) b behind e = or (is_operator t) refl e
      where
        or : (b : Bool) → is_operator t ≡ b → cond b (Some (OperatorName at t, r)) None ≡ Some x → ⊥
        or true h e = let q = behind h in let z = q.3 in absurd cc
        or false h e = absurd cc
    by t _ b behind e = absurd cc

unit_ends : (at : ℕ) (k : List Tok) (x : ValueName × List Tok) → operator_at at (fixed key.RightParen ∷ k) ≡ Some x → ⊥
unit_ends at (fixed key.RightParen ∷ k) x e = absurd cc
unit_ends at _ x e = absurd cc

-- if a name is read before a pattern's end, what follows it is no parameter
name_first : (p : Pat) (k : List Tok) → WfPat p → NoParam k → (x : ValueName × List Tok) → value_name (pat_then p k) ≡ Some x → NoParam x.1
name_first (AsPat p []) k w h x e = absurd (w.1 refl)
name_first (AsPat p (y ∷ ys)) k w h x e = name_first p (names_then (y ∷ ys) k) w.3 tt x e
name_first (OrPat p no_pat) k w h x e = absurd (w.1 refl)
name_first (OrPat p (more_pat q qs)) k w h x e = name_first p _ w.2 tt x e
name_first (TuplePat p no_pat) k w h x e = absurd (w.1 refl)
name_first (TuplePat p (more_pat q qs)) k w h x e = name_first p _ w.2 tt x e
name_first (ConsPat p no_pat) k w h x e = absurd (w.1 refl)
name_first (ConsPat p (more_pat q qs)) k w h x e = name_first p _ w.2 tt x e
name_first (ConstrApplyPat [] p) k w h x e = absurd (w.0 refl)
name_first (ConstrApplyPat (y ∷ ys) p) k w h x e = absurd cc
name_first (TagApplyPat y p) k w h x e = absurd cc
name_first (LazyPat at p) k w h x e = absurd cc
name_first (ExceptionPat at p) k w h x e = absurd cc
name_first (AnyPat at) k w h x e = absurd cc
name_first (ValuePat y) k w h x e = value_first y k w h x e
  where
    value_first : (y : ValueName) (k : List Tok) → WfName y → NoParam k → (x : ValueName × List Tok) → value_name (name_then y k) ≡ Some x
        → NoParam x.1
    value_first (PlainName y) k w h x e = from_some (λ (z : ValueName × List Tok). NoParam z.1) e h
    value_first (OperatorName at t) k w h x e = from_some (λ (z : ValueName × List Tok). NoParam z.1) (sym (name_read (OperatorName at t) k w) ∙ e) h
name_first (LiteralPat class.Lower y) k w h x e = absurd cc
name_first (LiteralPat _ y) k w h x e = absurd cc
name_first (NegativePat y c z) k w h x e = absurd cc
name_first (RangePat y z) k w h x e = absurd cc
name_first (ConstrPat []) k w h x e = absurd (w refl)
name_first (ConstrPat (y ∷ ys)) k w h x e = absurd cc
name_first (TagPat y) k w h x e = absurd cc
name_first (BoolPat at true) k w h x e = absurd cc
name_first (BoolPat at false) k w h x e = absurd cc
name_first (UnitPat at) k w h x e = absurd (unit_ends at k x e)
name_first (ParenPat at p) k w h x e =
    absurd (operator_ends at (pat_then p (fixed key.RightParen ∷ k)) x (pat_opens p (fixed key.RightParen ∷ k) w) e)
name_first (TypedPat at p run) k w h x e =
    absurd (operator_ends at (pat_then p (fixed key.Colon ∷ (run ++ (fixed key.RightParen ∷ k)))) x
    (pat_opens p (fixed key.Colon ∷ (run ++ (fixed key.RightParen ∷ k))) w.0) e)
name_first (EmptyPat at bracket.List) k w h x e = absurd cc
name_first (EmptyPat at bracket.Array) k w h x e = absurd cc
name_first (ListPat at bracket.List p ps last) k w h x e = absurd cc
name_first (ListPat at bracket.Array p ps last) k w h x e = absurd cc
name_first (RecordPat at f fs rest last) k w h x e = absurd cc
name_first (OpenedPat [] at p) k w h x e = absurd (w.0 refl)
name_first (OpenedPat (y ∷ ys) at p) k w h x e = absurd cc

none_more : (f n : ℕ) (ts : List Tok) → NoParam ts → many no_param more_param always (param_at f) n ts ≡ (no_param, ts)
unfolding many
none_more f zero ts h = refl
none_more f (suc n) ts h = rw (no_param_read f ts h) refl

-- a binding whose pattern is no name with parameters
pub plain_is : (f : ℕ) (p : Pat) (k : List Tok) → WfPat p → NoParam k → binding (read_expr f) f (pat_then p k) ≡ plain_binding (read_expr f) f
    (pat_then p k)
unfolding binding
plain_is f p k w h = by (value_name (pat_then p k)) refl
  where
    by : (o : Option (ValueName × List Tok)) → value_name (pat_then p k) ≡ o → binding_by (read_expr f) f (pat_then p k) o ≡ plain_binding
        (read_expr f) f (pat_then p k)
    by None e = refl
    by (Some x) e = rw (none_more f f x.1 (name_first p k w h x e)) refl

-- ---- parameters

-- what follows a parameter goes on with no Simple pattern
placed_stops : (x : Fixed) (at : ℕ) → 5 < pat_grip (placed x at) → ⊥
placed_stops x at h = by (begins_pat (placed x at)) h
  where
    by : (b : Bool) → 5 < cond b 5 0 → ⊥
    by true h = absurd (omega (arith, h))
    by false h = absurd (omega (arith, h))

opens_stop : (ts : List Tok) → Opens ts → PatGoes 5 ts → ⊥
opens_stop ts o h = by o.first o.begins (subst (PatGoes 5) o.is h)
  where
    by : (t : Tok) → begins_pat t ≡ true → 5 < pat_grip t → ⊥
    by (fixed x) b h = absurd cc
    by (placed x at) b h = placed_stops x at h
    by (word c x) b h = absurd (omega (arith, h))

param_stops : (p : Param) (k : List Tok) → WfParam p → PatGoes 5 (param_then p k) → ⊥
param_stops (PatternParam p) k w h = opens_stop (pat_then p k) (pat_opens p k w.1) h
param_stops (LabelParam x) k w h = absurd (omega (arith, h))
param_stops (LabelPattern x p) k w h = absurd (omega (arith, h))
param_stops (DefaultParam x at p run q e) k w h = absurd (omega (arith, h))
param_stops (WrappedParam at optional at' x run) k w h = placed_stops (wrap optional) at h
param_stops (WrappedDefault at at' x run q e) k w h = absurd (omega (arith, h))
param_stops (TypesParam at xs) k w h = absurd (omega (arith, h))

-- what follows the parameters
pub data EndsParams : List Tok → Type 0 where
  at_arrow : (r : List Tok) → EndsParams (fixed key.Arrow ∷ r)
  at_colon : (r : List Tok) → EndsParams (fixed key.Colon ∷ r)
  at_equals : (at : ℕ) (r : List Tok) → EndsParams (placed key.Equals at ∷ r)

ends_no_param : (k : List Tok) → EndsParams k → NoParam k
ends_no_param _ (at_arrow r) = tt
ends_no_param _ (at_colon r) = tt
ends_no_param _ (at_equals at r) = tt

ends_stop : (k : List Tok) → EndsParams k → PatGoes 5 k → ⊥
ends_stop _ (at_arrow r) h = absurd (omega (arith, h))
ends_stop _ (at_colon r) h = absurd (omega (arith, h))
ends_stop _ (at_equals at r) h = absurd (omega (arith, h))

pub type_ends : (run : Option (List Tok)) (at : ℕ) (k : List Tok) → EndsParams (type_then run (placed key.Equals at ∷ k))
type_ends None at k = at_equals at k
type_ends (Some run) at k = at_colon (run ++ (placed key.Equals at ∷ k))

params_stop : (ps : Params) (k : List Tok) → WfParams ps → EndsParams k → PatGoes 5 (params_then ps k) → ⊥
params_stop no_param k w ends h = ends_stop k ends h
params_stop (more_param p ps) k w ends h = param_stops p (params_then ps k) w.0 h

-- the tokens do not begin with `type`
abbrev NotType : List Tok → Type 0
NotType (fixed key.Type ∷ r) = ⊥
NotType _ = Unit {0}

opens_not_type : (ts : List Tok) → Opens ts → NotType ts
opens_not_type ts o = subst NotType (sym o.is) (by o.first o.begins)
  where
    by : (t : Tok) → begins_pat t ≡ true → NotType (t ∷ o.rest)
    by (fixed x) b = absurd cc
    by (placed x at) b = tt
    by (word c x) b = tt

operator_not_type : (t : Tok) (r : List Tok) → is_operator t ≡ true → NotType (t ∷ r)
operator_not_type (fixed x) r h = absurd cc
operator_not_type (placed x at) r h = tt
operator_not_type (word c x) r h = tt

module _ (f : ℕ) where
  abbrev as_pattern : List Tok → Option (Param × List Tok)
  as_pattern ts = simple_at f ts >>= λ q. Some (PatternParam q.0, q.1)

  paren_param : (at : ℕ) (ts : List Tok) → NotType ts → param_at f (placed key.LeftParen at ∷ ts) ≡ as_pattern (placed key.LeftParen at ∷ ts)
  unfolding param
  paren_param at [] h = refl
  paren_param at (fixed key.Type ∷ ts) h = absurd h
  paren_param at (_ ∷ ts) h = refl

  literal_param : (c : Class) (x : Name) (k : List Tok) → WfPat (LiteralPat c x) → param_at f (word c x ∷ k) ≡ as_pattern (word c x ∷ k)
  unfolding param
  literal_param class.Label x k w = absurd cc
  literal_param _ x k w = refl

  name_param : (x : ValueName) (k : List Tok) → WfName x → param_at f (name_then x k) ≡ as_pattern (name_then x k)
  unfolding param
  name_param (PlainName x) k w = refl
  name_param (OperatorName at t) k w = paren_param at (t ∷ fixed key.RightParen ∷ k) (operator_not_type t (fixed key.RightParen ∷ k) w)

  path_param : (path : List Name) (k : List Tok) → path ≢ [] → param_at f (path_then path k) ≡ as_pattern (path_then path k)
  unfolding param
  path_param [] k h = absurd (h refl)
  path_param (x ∷ xs) k h = refl

  simple_param : (p : Pat) (k : List Tok) → 5 ≤ pat_level p → WfPat p → param_at f (pat_then p k) ≡ as_pattern (pat_then p k)
  unfolding param
  simple_param (AsPat p xs) k h w = absurd (omega (arith, h))
  simple_param (OrPat p ps) k h w = absurd (omega (arith, h))
  simple_param (TuplePat p ps) k h w = absurd (omega (arith, h))
  simple_param (ConsPat p ps) k h w = absurd (omega (arith, h))
  simple_param (ConstrApplyPat path p) k h w = absurd (omega (arith, h))
  simple_param (TagApplyPat x p) k h w = absurd (omega (arith, h))
  simple_param (LazyPat at p) k h w = absurd (omega (arith, h))
  simple_param (ExceptionPat at p) k h w = absurd (omega (arith, h))
  simple_param (AnyPat at) k h w = refl
  simple_param (ValuePat x) k h w = name_param x k w
  simple_param (LiteralPat c x) k h w = literal_param c x k w
  simple_param (NegativePat x c y) k h w = refl
  simple_param (RangePat x y) k h w = refl
  simple_param (ConstrPat path) k h w = path_param path k w
  simple_param (TagPat x) k h w = refl
  simple_param (BoolPat at true) k h w = refl
  simple_param (BoolPat at false) k h w = refl
  simple_param (UnitPat at) k h w = paren_param at (fixed key.RightParen ∷ k) tt
  simple_param (ParenPat at p) k h w = paren_param at _ (opens_not_type _ (pat_opens p (fixed key.RightParen ∷ k) w))
  simple_param (TypedPat at p run) k h w =
      paren_param at _ (opens_not_type _ (pat_opens p (fixed key.Colon ∷ (run ++ (fixed key.RightParen ∷ k))) w.0))
  simple_param (EmptyPat at bracket.List) k h w = refl
  simple_param (EmptyPat at bracket.Array) k h w = refl
  simple_param (ListPat at bracket.List p ps last) k h w = refl
  simple_param (ListPat at bracket.Array p ps last) k h w = refl
  simple_param (RecordPat at x fs rest last) k h w = refl
  simple_param (OpenedPat path at p) k h w = path_param path _ w.0

  simple_exact : (p : Pat) (r : List Tok) → 5 ≤ pat_level p → WfPat p → (PatGoes 5 r → ⊥) → length (pat_then p r) ≤ suc f
      → simple_at f (pat_then p r) ≡ Some (p, r)
  simple_exact p r h w never len = stop never (simple_reach p h w f r len)

  -- a `(`, a pattern, its type and an `=` are no Simple pattern
  no_simple : (at : ℕ) (p : Pat) (run : Option (List Tok)) (q : ℕ) (k : List Tok) → WfPat p → WfType run
      → length (pat_then p (type_then run (placed key.Equals q ∷ k))) ≤ f
      → simple_at f (placed key.LeftParen at ∷ pat_then p (type_then run (placed key.Equals q ∷ k))) ≡ None
  unfolding simple_pat
  no_simple at p run q k w t len =
      let rest : List Tok = type_then run (placed key.Equals q ∷ k) in
      let inside = pat_exact p w f rest (equals_stops run) len in
      paren_else (read_pat f) f at (pat_then p rest) (pat_opens p rest w) ∙ rw inside (closed_none run t)
    where
      equals_stops : (run : Option (List Tok)) → PatGoes 0 (type_then run (placed key.Equals q ∷ k)) → ⊥
      equals_stops None h = absurd (omega (arith, h))
      equals_stops (Some run) h = absurd (omega (arith, h))

      closed_none : (run : Option (List Tok)) → WfType run → pat_closed_by at p (type_then run (placed key.Equals q ∷ k)) ≡ None
      closed_none None t = refl
      closed_none (Some run) t = rw (type_run_read run (placed key.Equals q ∷ k) t refl) refl

  lower_shorter : (ts : List Tok) (x : Name × List Tok) → lower_word ts ≡ Some x → length x.1 < length ts
  lower_shorter ts x e = omega (arith, ap length (lower_ok ts x e))

  lowers_read : (xs : List Name) (r : List Tok) (n : ℕ) → length (lowers_then xs (fixed key.RightParen ∷ r)) ≤ n
      → Reach ⊥ xs (fixed key.RightParen ∷ r) (Some (many [] ◌∷◌ always lower_word n (lowers_then xs (fixed key.RightParen ∷ r))))
  lowers_read [] r n len = no_turn [] ◌∷◌ always lower_word lower_shorter ⊥ true (fixed key.RightParen ∷ r) (length (fixed key.RightParen ∷ r)) n
      (λ _ x e. absurd cc)
  lowers_read (x ∷ xs) r zero len = absurd (omega (arith, len))
  lowers_read (x ∷ xs) r (suc n) len = more_turns [] ◌∷◌ always lower_word lower_shorter ⊥ x xs (fixed key.RightParen ∷ r)
      (word class.Lower x ∷ lowers_then xs (fixed key.RightParen ∷ r)) (lowers_then xs (fixed key.RightParen ∷ r))
      (length (fixed key.RightParen ∷ r)) n refl refl (lowers_read xs r n (omega (arith, len)))

  equals_stop : (run : Option (List Tok)) (q : ℕ) (k : List Tok) → PatGoes 0 (type_then run (placed key.Equals q ∷ k)) → ⊥
  equals_stop None q k h = absurd (omega (arith, h))
  equals_stop (Some run) q k h = absurd (omega (arith, h))

  default_read : (x : Name) (at : ℕ) (p : Pat) (run : Option (List Tok)) (q : ℕ) (e : Expr) (r : List Tok) → Good e
      → WfParam (DefaultParam x at p run q e) → length (param_then (DefaultParam x at p run q e) r) ≤ suc f
      → param_at f (param_then (DefaultParam x at p run q e) r) ≡ Some (DefaultParam x at p run q e, r)
  unfolding param default_param
  default_read x at p run q e r g w len =
      let k : List Tok = expr_then e (fixed key.RightParen ∷ r) in
      let rest : List Tok = type_then run (placed key.Equals q ∷ k) in
      let longer = pat_longer p rest w.2 in
      let l2 = type_longer run (placed key.Equals q ∷ k) in
      let none = no_simple at p run q k w.2 w.3 (omega (arith, len)) in
      let first = pat_exact p w.2 f rest (equals_stop run q k) (omega (arith, len)) in
      let t = type_read run (placed key.Equals q ∷ k) w.3 refl tt in
      let v = expr_exact e g w.4 w.5 f key.RightParen r refl (λ h. cc) (λ h. cc) (omega (arith, len, longer, l2)) in
      rw (w.0, none, w.1, first, t, v) refl

  wrapped_read : (at : ℕ) (optional : Bool) (at' : ℕ) (x : Name) (run : Option (List Tok)) (r : List Tok) → WfType run
      → param_at f (param_then (WrappedParam at optional at' x run) r) ≡ Some (WrappedParam at optional at' x run, r)
  unfolding param wrapped_param
  wrapped_read at true at' x run r w = rw (type_read run (fixed key.RightParen ∷ r) w refl tt) refl
  wrapped_read at false at' x run r w = rw (type_read run (fixed key.RightParen ∷ r) w refl tt) refl

  wrapped_default_read : (at at' : ℕ) (x : Name) (run : Option (List Tok)) (q : ℕ) (e : Expr) (r : List Tok) → Good e
      → WfParam (WrappedDefault at at' x run q e) → length (param_then (WrappedDefault at at' x run q e) r) ≤ suc f
      → param_at f (param_then (WrappedDefault at at' x run q e) r) ≡ Some (WrappedDefault at at' x run q e, r)
  unfolding param wrapped_param
  wrapped_default_read at at' x run q e r g w len =
      let k : List Tok = expr_then e (fixed key.RightParen ∷ r) in
      let l2 = type_longer run (placed key.Equals q ∷ k) in
      let v = expr_exact e g w.1 w.2 f key.RightParen r refl (λ h. cc) (λ h. cc) (omega (arith, len, l2)) in
      rw (type_read run (placed key.Equals q ∷ k) w.0 refl tt, v) refl

  types_read : (at : ℕ) (xs : List Name) (r : List Tok) → xs ≢ [] → length (param_then (TypesParam at xs) r) ≤ suc f
      → param_at f (param_then (TypesParam at xs) r) ≡ Some (TypesParam at xs, r)
  unfolding param
  types_read at [] r h len = absurd (h refl)
  types_read at (x ∷ xs) r h len =
      let m = some_is (stop {C = ⊥} (λ c. c) (lowers_read (x ∷ xs) r f (omega (arith, len)))) in
      rw m refl

  label_read : (x : Name) (r : List Tok) → has_colon x.text ≡ false → param_at f (word class.Label x ∷ r) ≡ Some (LabelParam x, r)
  unfolding param
  label_read x r w = rw w refl

  label_pattern_read : (x : Name) (p : Pat) (r : List Tok) → has_colon x.text ≡ true → simple_at f (pat_then p r) ≡ Some (p, r)
      → param_at f (word class.Label x ∷ pat_then p r) ≡ Some (LabelPattern x p, r)
  unfolding param
  label_pattern_read x p r w e = rw (w, e) refl

  pub param_read : (p : Param) → GoodParam p → WfParam p → (r : List Tok) → (PatGoes 5 r → ⊥) → length (param_then p r) ≤ suc f
      → param_at f (param_then p r) ≡ Some (p, r)
  param_read (PatternParam p) g w r never len = simple_param p r w.0 w.1 ∙ rw (simple_exact p r w.0 w.1 never len) refl
  param_read (LabelParam x) g w r never len = label_read x r w
  param_read (LabelPattern x p) g w r never len = label_pattern_read x p r w.0 (simple_exact p r w.1 w.2 never (omega (arith, len)))
  param_read (DefaultParam x at p run q e) g w r never len = default_read x at p run q e r g w len
  param_read (WrappedParam at optional at' x run) g w r never len = wrapped_read at optional at' x run r w
  param_read (WrappedDefault at at' x run q e) g w r never len = wrapped_default_read at at' x run q e r g w len
  param_read (TypesParam at xs) g w r never len = types_read at xs r w len

  param_longer : (p : Param) (k : List Tok) → WfParam p → length k < length (param_then p k)
  param_longer (PatternParam p) k w = pat_longer p k w.1
  param_longer (LabelParam x) k w = omega arith
  param_longer (LabelPattern x p) k w = omega (arith, pat_longer p k w.2)
  param_longer (DefaultParam x at p run q e) k w =
      omega (
        arith,
        param_more (DefaultParam x at p run q e) k,
        pat_longer p
            (type_then run (placed key.Equals q ∷ expr_then e (fixed key.RightParen ∷ k))) w.2,
        type_longer run
            (placed key.Equals q ∷ expr_then e (fixed key.RightParen ∷ k)),
        expr_more e (fixed key.RightParen ∷ k),
      )
  param_longer (WrappedParam at optional at' x run) k w = omega (arith, type_longer run (fixed key.RightParen ∷ k))
  param_longer (WrappedDefault at at' x run q e) k w =
      omega (arith, type_longer run (placed key.Equals q ∷ expr_then e (fixed key.RightParen ∷ k)), expr_more e (fixed key.RightParen ∷ k))
  param_longer (TypesParam at xs) k w = omega (arith, lowers_more xs (fixed key.RightParen ∷ k))

  pub param_shorter : (ts : List Tok) (x : Param × List Tok) → param_at f ts ≡ Some x → length x.1 < length ts
  param_shorter ts x e =
      let p = param_found (read_expr f) f (expr_reads f) ts x e in
      omega (arith, ap length p.words, param_longer x.0 x.1 p.wf)

  pub params_read : (ps : Params) → GoodParams ps → WfParams ps → (k : List Tok) → EndsParams k → (n : ℕ) → length (params_then ps k) ≤ n → n ≤ suc f
      → Reach ⊥ ps k (Some (many no_param more_param always (param_at f) n (params_then ps k)))
  params_read no_param g w k ends n len le = no_turn no_param more_param always (param_at f) param_shorter ⊥ true k (length k) n
      (λ _ x e. let q = sym (no_param_read f k (ends_no_param k ends)) ∙ e in absurd cc)
  params_read (more_param p ps) g w k ends zero len le = absurd (omega (arith, len, param_longer p (params_then ps k) w.0))
  params_read (more_param p ps) g w k ends (suc n) len le =
      let rest : List Tok = params_then ps k in
      let longer = param_longer p rest w.0 in
      let part = param_read p g.0 w.0 rest (params_stop ps k w.1 ends) (omega (arith, len, le)) in
      more_turns no_param more_param always (param_at f) param_shorter ⊥ p ps k (param_then p rest) rest (length k) n part refl
      (params_read ps g.1 w.1 k ends n (omega (arith, len, longer)) (omega (arith, le)))

  pub params_exact : (ps : Params) → GoodParams ps → WfParams ps → (k : List Tok) → EndsParams k → length (params_then ps k) ≤ f
      → more_params (read_expr f) f (params_then ps k) ≡ (ps, k)
  params_exact ps g w k ends len = some_is (stop {C = ⊥} (λ c. c) (params_read ps g w k ends f len (omega arith)))
