-- Items with bindings, and the expressions that begin with their words.
use Rattle.std.proofs.Common.{◌≡◌, ℕ, zero, suc, ◌≤◌, List, ◌∷◌, length, Bool, true, false, Some, refl, sym, ap, subst, ◌∙◌, arith}
use Rattle.ml_trees.specs.declared.fixed.Fixed.TheVariants as key
use Rattle.ml_trees.specs.Tok.{Tok, fixed, placed, word}
use Rattle.ml_trees.proofs.Words.{optional_then, binding_then, bindings_then}
use Rattle.ml_trees.specs.WellFormed.{WfBinding, WfBindings}
use Rattle.ml_trees.specs.Tree.{Expr, Binding, Bindings}
use Rattle.token_reading.specs.Steps.{expect}
use Rattle.token_reading.proofs.Stepping.{some_is, from_some, bind_ok, expect_ok}
use Rattle.pattern_reading.proofs.LongerPat.{begins_pat, Opens, optional_longer}
use Rattle.expr_reading.specs.declared.wanted.Wanted.TheVariants as wanted
use Rattle.expr_reading.specs.ExprReading.{bindings, let_values, let_expr, unary, tier, expr, seq, read_expr}
use Rattle.expr_laws.proofs.AppendExpr.{expr_front}
use Rattle.expr_laws.proofs.FoundExpr.{expr_reads}
use Rattle.expr_laws.proofs.LawsExpr.{expr_longest}
use Rattle.expr_laws.proofs.LongerExpr.{expr_more}
use Rattle.expr_laws.proofs.ReachExpr.{binding_good, bindings_good}
use Rattle.expr_laws.proofs.ReachForms.{bindings_reach, binding_opens}
use Rattle.module_reading.specs.ModReading.{some_bindings, value_rest}
use Rattle.module_laws.proofs.ReachMod.{opens_plain}
use Rattle.longest_items.proofs.Passing.{Passes, passes}

-- ---- bindings

pub bindings_pass : (f : ℕ) (b : Binding) (bs : Bindings) (r : List Tok) → WfBinding b → WfBindings bs
    → length (binding_then b (bindings_then bs r)) ≤ f → Passes r (bindings (read_expr f) f (binding_then b (bindings_then bs r)))
bindings_pass f b bs r w ws len = passes (bindings_reach f (Unit {0}) r (λ h. tt) b bs (binding_good b) (bindings_good bs) w ws (λ h. tt) len)

module _ (f at : ℕ) where
  let_opens : (ts : List Tok) → Opens ts → let_expr (read_expr f) f at ts ≡ let_values (read_expr f) f at false ts
  unfolding let_expr
  let_opens ts o = subst (λ k. let_expr (read_expr f) f at k ≡ let_values (read_expr f) f at false k) (sym o.is) (by o.first o.rest o.begins)
    where
      by : (t : Tok) (rest : List Tok) → begins_pat t ≡ true → let_expr (read_expr f) f at (t ∷ rest) ≡ let_values (read_expr f) f at false (t ∷ rest)
      by (fixed x) rest b = absurd cc
      by (placed key.Open at') rest b = absurd cc
      by (placed key.Module at') rest b = absurd cc
      by (placed _ at') rest b = refl
      by (word c x) rest b = refl

  -- the words of bindings behind an optional `rec`, after a `let`
  let_bound : (recursive : Bool) (b : Binding) (k : List Tok) → WfBinding b
      → let_expr (read_expr f) f at (optional_then key.Rec recursive (binding_then b k))
      ≡ let_values (read_expr f) f at recursive (binding_then b k)
  unfolding let_expr
  let_bound true b k w = refl
  let_bound false b k w = let_opens (binding_then b k) (binding_opens b k w)

  pub value_bound : (recursive : Bool) (b : Binding) (k : List Tok) → WfBinding b
      → value_rest f at (optional_then key.Rec recursive (binding_then b k)) ≡ some_bindings f recursive at (binding_then b k)
  unfolding value_rest
  value_bound true b k w = refl
  value_bound false b k w = opens_plain f at (binding_then b k) (binding_opens b k w)

-- ---- an expression that begins with `let`

tier_unary : (f d : ℕ) (ts : List Tok) (x : Expr × List Tok) → tier (read_expr f) f d ts ≡ Some x
    → (y : Expr × List Tok) × (unary (read_expr f) f ts ≡ Some y)
unfolding tier
tier_unary f zero ts x e = (x, e)
tier_unary f (suc d) ts x e = let a = bind_ok (tier (read_expr f) f d ts) _ x e in tier_unary f d ts a.0 a.1

seq_unary : (f : ℕ) (ts : List Tok) (x : Expr × List Tok) → read_expr (suc f) wanted.Sequence ts ≡ Some x
    → (y : Expr × List Tok) × (unary (read_expr f) f ts ≡ Some y)
unfolding read_expr seq
seq_unary f ts x e = let a = bind_ok (expr (read_expr f) f ts) _ x e in tier_unary f 10 ts a.0 a.1

operand_is : (f : ℕ) (ts : List Tok) → read_expr (suc f) wanted.Operand ts ≡ unary (read_expr f) f ts
unfolding read_expr
operand_is f ts = refl

unary_let : (f at : ℕ) (ts : List Tok) → unary (read_expr f) f (placed key.Let at ∷ ts) ≡ let_expr (read_expr f) f at ts
unfolding unary
unary_let f at ts = refl

-- bindings and an `in` are read, and an expression behind it
record GoesIn (f : ℕ) (ts : List Tok) (y : Expr × List Tok) : Type 0 where
  found : (Binding × Bindings) × List Tok
  body : List Tok
  are : bindings (read_expr f) f ts ≡ Some found
  inside : found.1 ≡ fixed key.In ∷ body
  behind : length y.1 ≤ length body

expr_left : (f : ℕ) (ts : List Tok) (v : Expr × List Tok) → read_expr f wanted.Sequence ts ≡ Some v → length v.1 ≤ length ts
expr_left f ts v e = let inner = (expr_reads f wanted.Sequence ts v e).words in omega (arith, ap length inner, expr_more v.0 v.1)

values_in : (f at : ℕ) (recursive : Bool) (ts : List Tok) (y : Expr × List Tok) → let_values (read_expr f) f at recursive ts ≡ Some y → GoesIn f ts y
unfolding let_values
values_in f at recursive ts y e =
    let b = bind_ok (bindings (read_expr f) f ts) _ y e in
    let r = bind_ok (expect key.In b.0.1) _ y b.2 in
    let v = bind_ok (read_expr f wanted.Sequence r.0) _ y r.2 in
    record {
      found = b.0;
      body = r.0;
      are = b.1;
      inside = expect_ok key.In b.0.1 r.0 r.1;
      behind = from_some (λ (z : Expr × List Tok). length z.1 ≤ length r.0) v.2 (expr_left f r.0 v.0 v.1);
    }

module _ (f at : ℕ) (recursive : Bool) (b : Binding) (bs : Bindings) (r : List Tok) (w : WfBinding b) (ws : WfBindings bs) where
  abbrev bound_words : List Tok
  bound_words = binding_then b (bindings_then bs r)

  abbrev value_words : List Tok
  value_words = placed key.Let at ∷ optional_then key.Rec recursive bound_words

  -- if an expression is read there, these bindings and an `in` begin one
  let_inside : (x : Expr × List Tok) → read_expr (suc f) wanted.Sequence value_words ≡ Some x
      → (y : Expr × List Tok) × (read_expr (suc f) wanted.Operand value_words ≡ Some y) × GoesIn f bound_words y
  let_inside x e =
      let u = seq_unary f value_words x e in
      let l = sym (let_bound f at recursive b (bindings_then bs r) w)
      ∙ sym (unary_let f at (optional_then key.Rec recursive bound_words)) ∙ u.1 in
      (u.0, operand_is f value_words ∙ u.1, values_in f at recursive bound_words u.0 l)

  -- and it ends no earlier than the bindings
  pub let_read_past : (x : Expr × List Tok) → length value_words ≤ suc f → read_expr (suc f) wanted.Sequence value_words ≡ Some x
      → length x.1 ≤ length r
  let_read_past x len e =
      let p = let_inside x e in
      let m = bindings_pass f b bs r w ws (omega (arith, len, optional_longer key.Rec recursive bound_words)) in
      let q = ap (λ (z : (Binding × Bindings) × List Tok). length z.1) (some_is (sym m.1 ∙ p.2.are)) in
      let v = expr_reads (suc f) wanted.Operand value_words p.0 p.1 in
      let far = (expr_longest (suc f) value_words x.0 x.1 len e).longest p.0.0 p.0.1 v.wf (v.words ∙ expr_front p.0.0 p.0.1) in
      omega (arith, m.2, q, ap length p.2.inside, p.2.behind, far)
