-- No record is missed, if none of its parts is.
use Rattle.std.proofs.Common.{◌≡◌, ℕ, zero, suc, ◌<◌, ◌≤◌, List, [], ◌∷◌, ◌++◌, length, Bool, true, false, not, Option, Some, None, refl, sym, ap}
use Rattle.std.proofs.Common.{◌∙◌, arith}
use Rattle.rotor_base.specs.declared.token.Class.TheVariants as class
use Rattle.ml_trees.specs.declared.fixed.Fixed.{Fixed}
use Rattle.ml_trees.specs.declared.fixed.Fixed.TheVariants as key
use Rattle.ml_trees.specs.Tok.{Name, Tok, fixed, placed, word}
use Rattle.expr_reading.specs.declared.wanted.Wanted.TheVariants as wanted
use Rattle.ml_trees.proofs.Words.{qualified_then, type_then, optional_then, expr_then, base_then, field_then, fields_then}
use Rattle.ml_trees.specs.WellFormed.{WfType, level, EndsField, Wf, WfBase, WfField, WfFields}
use Rattle.ml_trees.specs.Tree.{PlainName, Expr, Value, Record, MaybeExpr, no_expr, some_expr, Field, FieldPun, AssignedField, Fields, no_field}
use Rattle.ml_trees.specs.Tree.{more_field}
use Rattle.token_reading.specs.Steps.{◌>>=◌, expect, many, many_if}
use Rattle.token_reading.specs.Pieces.{qualifiers, optional_type}
use Rattle.token_reading.proofs.Stepping.{some_is}
use Rattle.token_reading.proofs.Reach.{Reach, exact, stop, no_turn, last_turn, more_turns, expect_same}
use Rattle.pattern_reading.proofs.LongerPat.{qualified_longer, type_longer}
use Rattle.token_reading.proofs.ReachPieces.{qualifiers_reach, type_read}
use Rattle.expr_reading.specs.ExprReading.{ends_field, last_field, semicolon_if, equals_expr, field_expr, next_field, base_part, brace_expr, enclosed}
use Rattle.expr_reading.specs.ExprReading.{read_expr}
use Rattle.expr_laws.proofs.LongerExpr.{base_more, field_more}
use Rattle.expr_laws.proofs.FoundExpr.{next_field_found, expr_reads}
use Rattle.expr_laws.proofs.GoesExpr.{Holds, semicolon_stops}
use Rattle.expr_laws.proofs.ReachParams.{enclosed_at, Good, GoodMaybe, GoodField, GoodFields, sub_expr, sub_postfix, expr_exact}
use Rattle.expr_laws.proofs.ReachAtoms.{value_read, as_postfix}

-- what follows a field: a `;` if one may, or the `}`
data FollowsField (x : Field) : List Tok → Type 0 where
  before_semicolon : (r : List Tok) → EndsField x → FollowsField x (fixed key.Semicolon ∷ r)
  before_brace : (r : List Tok) → FollowsField x (fixed key.RightBrace ∷ r)

-- the end of a record
abbrev brace_end : Bool → List Tok → List Tok
brace_end last r = optional_then key.Semicolon last (fixed key.RightBrace ∷ r)

fields_follow : (x : Field) (fs : Fields) (last : Bool) (r : List Tok) → WfFields x fs last → FollowsField x (fields_then fs (brace_end last r))
fields_follow x no_field true r w = before_semicolon (fixed key.RightBrace ∷ r) (w refl)
fields_follow x no_field false r w = before_brace r
fields_follow x (more_field y fs) last r w = before_semicolon (field_then y (fields_then fs (brace_end last r))) w.0

field_type : (x : Field) (run : Option (List Tok)) (k : List Tok) → WfType run → FollowsField x k → optional_type (type_then run k) ≡ (run, k)
field_type x run _ w (before_semicolon r e) = type_read run (fixed key.Semicolon ∷ r) w refl tt
field_type x run _ w (before_brace r) = type_read run (fixed key.RightBrace ∷ r) w refl tt

no_equals : (f : ℕ) (x : Field) (k : List Tok) → FollowsField x k → equals_expr (read_expr f) f k ≡ None
no_equals f x _ (before_semicolon r e) = refl
no_equals f x _ (before_brace r) = refl

assigned_exact : (f : ℕ) (path : List Name) (x : Name) (run : Option (List Tok)) (at : ℕ) (e : Expr) (k : List Tok) → Good e → 0 < level e → Wf e
    → FollowsField (AssignedField path x run at e) k → length (expr_then e k) ≤ f → read_expr f wanted.Expression (expr_then e k) ≡ Some (e, k)
assigned_exact f path x run at e _ g lv w (before_semicolon r q) len =
    stop (semicolon_stops 3 e r (omega arith) q) (sub_expr e g lv w f (fixed key.Semicolon ∷ r) len)
assigned_exact f path x run at e _ g lv w (before_brace r) len = expr_exact e g lv w f key.RightBrace r refl (λ h. cc) (λ h. cc) len

field_read : (f : ℕ) (x : Field) (k : List Tok) → GoodField x → WfField x → FollowsField x k → length (field_then x k) ≤ f
    → field_expr (read_expr f) f (field_then x k) ≡ Some (x, k)
unfolding field_expr
field_read f (FieldPun path x run) k g w ends len =
    let q = qualifiers_reach path (word class.Lower x ∷ type_then run k) f len refl in
    let t = field_type (FieldPun path x run) run k w ends in
    let e = no_equals f (FieldPun path x run) k ends in
    rw (q, t, e) refl
field_read f (AssignedField path x run at e) k g w ends len =
    let rest : List Tok = placed key.Equals at ∷ expr_then e k in
    let q = qualifiers_reach path (word class.Lower x ∷ type_then run rest) f len refl in
    let l = qualified_longer path (word class.Lower x ∷ type_then run rest) in
    let l2 = type_longer run rest in
    let t = type_read run rest w.0 refl tt in
    let v = assigned_exact f path x run at e k g w.1 w.2 ends (omega (arith, len, l, l2)) in
    rw (q, t, v) refl

fixed_qualifiers : (f : ℕ) (k : Fixed) (r : List Tok) → qualifiers f (fixed k ∷ r) ≡ ([], fixed k ∷ r)
unfolding many
fixed_qualifiers zero k r = refl
fixed_qualifiers (suc f) k r = refl

brace_no_field : (f : ℕ) (r : List Tok) → field_expr (read_expr f) f (fixed key.RightBrace ∷ r) ≡ None
unfolding field_expr
brace_no_field f r = rw (fixed_qualifiers f key.RightBrace r) refl

no_next : (f : ℕ) (last : Bool) (r : List Tok) → next_field (read_expr f) f (brace_end last r) ≡ None
no_next f true r = brace_no_field f r
no_next f false r = refl

field_shorter : (f : ℕ) (ts : List Tok) (x : Field × List Tok) → next_field (read_expr f) f ts ≡ Some x → length x.1 < length ts
field_shorter f ts x e =
    let p = next_field_found (read_expr f) f (expr_reads f) ts x e in
    omega (arith, ap length p.1, ap length p.2.words, field_more x.0 x.1)

ends_true : (x : Field) → EndsField x → ends_field x ≡ true
ends_true (FieldPun path x run) h = refl
ends_true (AssignedField path x run at e) h = ap not h

next_ends : (f : ℕ) (last : Bool) (r : List Tok) (x : Field × List Tok) → next_field (read_expr f) f (brace_end last r) ≡ Some x
    → ⊥ × (length x.1 < length (brace_end last r))
next_ends f last r x e = let q = sym (no_next f last r) ∙ e in absurd cc

fields_reach : (f : ℕ) (x0 x : Field) (fs : Fields) (last : Bool) (r : List Tok) → GoodFields (more_field x fs) → WfFields x0 (more_field x fs) last
    → (n : ℕ) → length (fields_then (more_field x fs) (brace_end last r)) ≤ n → n ≤ f
    → Reach ⊥ (more_field x fs) (brace_end last r)
    (Some (many no_field more_field ends_field (next_field (read_expr f) f) n (fields_then (more_field x fs) (brace_end last r))))
fields_reach f x0 x fs last r g w zero len le = absurd (omega (arith, len))
fields_reach f x0 x no_field last r g w (suc n) len le =
    let k : List Tok = brace_end last r in
    let part = ap (λ o. o >>= field_expr (read_expr f) f) (expect_same key.Semicolon (field_then x k))
    ∙ field_read f x k g.0 w.1 (fields_follow x no_field last r w.2) (omega (arith, len, le)) in
    last_turn no_field more_field ends_field (next_field (read_expr f) f) (field_shorter f) ⊥ x k (fixed key.Semicolon ∷ field_then x k) (length k) n
    (exact part) (λ h y e. next_ends f last r y e)
fields_reach f x0 x (more_field y fs) last r g w (suc n) len le =
    let k : List Tok = fields_then (more_field y fs) (brace_end last r) in
    let l = field_more x k in
    let part = ap (λ o. o >>= field_expr (read_expr f) f) (expect_same key.Semicolon (field_then x k))
    ∙ field_read f x k g.0 w.1 (fields_follow x (more_field y fs) last r w.2) (omega (arith, len, le)) in
    more_turns no_field more_field ends_field (next_field (read_expr f) f) (field_shorter f) ⊥ x (more_field y fs) (brace_end last r)
    (fixed key.Semicolon ∷ field_then x k) k (length (brace_end last r)) n part (ends_true x w.2.0)
    (fields_reach f x y fs last r g.1 w.2 n (omega (arith, len, l)) (omega (arith, le)))

fields_all : (f : ℕ) (x : Field) (fs : Fields) (last : Bool) (r : List Tok) → GoodFields fs → WfFields x fs last
    → length (fields_then fs (brace_end last r)) ≤ f
    → many_if (ends_field x) no_field more_field ends_field (next_field (read_expr f) f) f (fields_then fs (brace_end last r))
    ≡ (fs, brace_end last r)
fields_all f x no_field last r g w len =
    some_is (stop {C = ⊥} (λ c. c)
    (no_turn no_field more_field ends_field (next_field (read_expr f) f) (field_shorter f) ⊥ (ends_field x) (brace_end last r)
    (length (brace_end last r)) f (λ h y e. next_ends f last r y e)))
fields_all f x (more_field y fs) last r g w len =
    let on : ends_field x ≡ true = ends_true x w.0 in
    rw on (some_is (stop {C = ⊥} (λ c. c) (fields_reach f x y fs last r g w f len (omega arith))))

fields_end : (x : Field) (fs : Fields) → WfFields x fs true → EndsField (last_field x fs)
fields_end x no_field w = w refl
fields_end x (more_field y fs) w = fields_end y fs w.2

last_read : (x : Field) (fs : Fields) (last : Bool) (r : List Tok) → WfFields x fs last
    → semicolon_if (ends_field (last_field x fs)) (brace_end last r) ≡ (last, fixed key.RightBrace ∷ r)
last_read x fs true r w = let on : ends_field (last_field x fs) ≡ true = ends_true (last_field x fs) (fields_end x fs w) in rw on refl
last_read x fs false r w = by (ends_field (last_field x fs))
  where
    by : (b : Bool) → semicolon_if b (fixed key.RightBrace ∷ r) ≡ (false, fixed key.RightBrace ∷ r)
    by true = refl
    by false = refl

-- ---- the part before the fields

post_value : (f : ℕ) (path : List Name) (x : Name) (k : List Tok) → (Holds 15 k → ⊥) → length (qualified_then path (word class.Lower x ∷ k)) ≤ f
    → read_expr f wanted.Postfix (qualified_then path (word class.Lower x ∷ k)) ≡ Some (Value path (PlainName x), k)
unfolding read_expr
post_value zero path x k never len = absurd (omega (arith, len, qualified_longer path (word class.Lower x ∷ k)))
post_value (suc f) path x k never len =
    stop never (as_postfix f (Value path (PlainName x)) k (qualified_then path (word class.Lower x ∷ k))
    (exact (value_read f path (PlainName x) k tt len)))

no_base_by : (f : ℕ) (path : List Name) (x : Name) (k : List Tok) → (Holds 15 k → ⊥) → expect key.With k ≡ None
    → length (qualified_then path (word class.Lower x ∷ k)) ≤ f
    → base_part (read_expr f) f (qualified_then path (word class.Lower x ∷ k)) ≡ (no_expr, qualified_then path (word class.Lower x ∷ k))
no_base_by f path x k never none len = rw (post_value f path x k never len, none) refl

-- what may follow the name of a field
data FollowsName : List Tok → Type 0 where
  with_colon : (r : List Tok) → FollowsName (fixed key.Colon ∷ r)
  with_equals : (at : ℕ) (r : List Tok) → FollowsName (placed key.Equals at ∷ r)
  with_semicolon : (r : List Tok) → FollowsName (fixed key.Semicolon ∷ r)
  with_brace : (r : List Tok) → FollowsName (fixed key.RightBrace ∷ r)

name_stops : (k : List Tok) → FollowsName k → Holds 15 k → ⊥
name_stops _ (with_colon r) h = absurd (omega (arith, h))
name_stops _ (with_equals at r) h = absurd (omega (arith, h))
name_stops _ (with_semicolon r) h = absurd (omega (arith, h))
name_stops _ (with_brace r) h = absurd (omega (arith, h))

name_no_with : (k : List Tok) → FollowsName k → expect key.With k ≡ None
name_no_with _ (with_colon r) = refl
name_no_with _ (with_equals at r) = refl
name_no_with _ (with_semicolon r) = refl
name_no_with _ (with_brace r) = refl

pun_follows : (x : Field) (run : Option (List Tok)) (k : List Tok) → FollowsField x k → FollowsName (type_then run k)
pun_follows x (Some run) k ends = with_colon (run ++ k)
pun_follows x None _ (before_semicolon r e) = with_semicolon r
pun_follows x None _ (before_brace r) = with_brace r

assigned_follows : (run : Option (List Tok)) (at : ℕ) (k : List Tok) → FollowsName (type_then run (placed key.Equals at ∷ k))
assigned_follows (Some run) at k = with_colon (run ++ (placed key.Equals at ∷ k))
assigned_follows None at k = with_equals at k

no_base : (f : ℕ) (x : Field) (k : List Tok) → FollowsField x k → length (field_then x k) ≤ f
    → base_part (read_expr f) f (field_then x k) ≡ (no_expr, field_then x k)
no_base f (FieldPun path x run) k ends len = let n = pun_follows (FieldPun path x run) run k ends in
    no_base_by f path x (type_then run k) (name_stops (type_then run k) n) (name_no_with (type_then run k) n) len
no_base f (AssignedField path x run at e) k ends len = let n = assigned_follows run at (expr_then e k) in
    no_base_by f path x (type_then run (placed key.Equals at ∷ expr_then e k)) (name_stops (type_then run (placed key.Equals at ∷ expr_then e k)) n)
    (name_no_with (type_then run (placed key.Equals at ∷ expr_then e k)) n) len

base_read : (f : ℕ) (base : MaybeExpr) (x : Field) (k : List Tok) → GoodMaybe base → WfBase base → FollowsField x k
    → length (base_then base (field_then x k)) ≤ f → base_part (read_expr f) f (base_then base (field_then x k)) ≡ (base, field_then x k)
base_read f no_expr x k g w ends len = no_base f x k ends len
base_read f (some_expr e) x k g w ends len =
    let inside = stop (λ (h : Holds 15 (fixed key.With ∷ field_then x k)). absurd (omega (arith, h)))
    (sub_postfix e g w.0 w.1 f (fixed key.With ∷ field_then x k) len) in
    rw inside refl

pub record_read : (f at : ℕ) (base : MaybeExpr) (x : Field) (fs : Fields) (last : Bool) (r : List Tok) → GoodMaybe base → GoodField x → GoodFields fs
    → Wf (Record at base x fs last) → length (expr_then (Record at base x fs last) r) ≤ suc f
    → enclosed_at f (expr_then (Record at base x fs last) r) ≡ Some (Record at base x fs last, r)
unfolding enclosed brace_expr
record_read f at base x fs last r gb g gs w len =
    let k : List Tok = fields_then fs (brace_end last r) in
    let ends = fields_follow x fs last r w.2 in
    let l = base_more base (field_then x k) in
    let l2 = field_more x k in
    let b = base_read f base x k gb w.0 ends (omega (arith, len)) in
    let first = field_read f x k g w.1 ends (omega (arith, len, l)) in
    let row = fields_all f x fs last r gs w.2 (omega (arith, len, l, l2)) in
    let end = last_read x fs last r w.2 in
    rw (b, first, row, end) refl
