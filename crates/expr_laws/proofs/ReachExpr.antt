-- No expression is missed: what is read from its words and more is this expression, or goes farther. It goes farther
-- only if what follows can go on with it.
use Rattle.std.proofs.Common.{◌≡◌, ◌≢◌, ℕ, zero, suc, ◌-◌, ◌<◌, ◌≤◌, ◌⊎◌, inl, inr, List, ◌∷◌, length, Bool, true, false, ◌==◌, Option, Some, refl}
use Rattle.std.proofs.Common.{sym, ap, subst, ◌∙◌, arith}
use Rattle.std.proofs.lemmas.Bool.Decides.{nat_tests}
use Rattle.rotor_base.specs.declared.token.Class.TheVariants as class
use Rattle.ml_trees.specs.declared.fixed.Fixed.{Fixed}
use Rattle.ml_trees.specs.declared.fixed.Fixed.TheVariants as key
use Rattle.ml_trees.specs.Tok.{Name, Tok, fixed, placed, word}
use Rattle.expr_reading.specs.declared.wanted.Wanted.TheVariants as wanted
use Rattle.ml_trees.proofs.Words.{optional_then, expr_then, links_then}
use Rattle.ml_trees.specs.WellFormed.{level, op_level, is_bracketed, Calm, CanBeAssigned, IsOperand, Wf, WfChain}
use Rattle.ml_trees.specs.Tree.{Expr, Seq, Let, LetOpen, LetModule, Fun, Function, Match, Try, If, Chain, Minus, Apply, ConstrApply, TagApply}
use Rattle.ml_trees.specs.Tree.{Assert, Lazy, Postfix, Prefixed, Literal, BoolExpr, Value, Constr, Tag, UnitExpr, Paren, Typed, Coerced, EmptyBegin}
use Rattle.ml_trees.specs.Tree.{Begin, EmptyList, ListExpr, Record, Opened, While, For, Links, no_link, more_link, MaybeExpr, no_expr, some_expr}
use Rattle.ml_trees.specs.Tree.{Tail, no_else, or_else, or_if, Binding, PlainBinding, AppliedBinding, Bindings, no_binding, more_binding, Case}
use Rattle.ml_trees.specs.Tree.{CaseOf, Cases, no_case, more_case, Argument, Positional, LabelPun, Labelled, Arguments, no_argument, more_argument}
use Rattle.ml_trees.specs.Tree.{Param, PatternParam, LabelParam, LabelPattern, DefaultParam, WrappedParam, WrappedDefault, TypesParam, Params}
use Rattle.ml_trees.specs.Tree.{no_param, more_param, Part, LabelPart, IndexPart, CharPart, Parts, no_part, more_part, Field, FieldPun}
use Rattle.ml_trees.specs.Tree.{AssignedField, Fields, no_field, more_field}
use Rattle.token_reading.specs.Steps.{Read, ◌>>=◌, many, many_if}
use Rattle.token_reading.proofs.Reach.{Beyond, exact, farther, Reach, stop, weaken, and_then, as_read, many_if_shorter, no_turn, last_turn}
use Rattle.token_reading.proofs.Reach.{more_turns}
use Rattle.token_reading.proofs.Reach.{map_some, map_read}
use Rattle.expr_reading.specs.ExprReading.{is_calm, may_follow, goes_on, grown_chain, grown_seq, cons_operand, last_of, apply, let_expr, fun_expr}
use Rattle.expr_reading.specs.ExprReading.{all_cases, match_expr, if_expr, unary, operator_part, tier, expr, seq, read_expr}
use Rattle.expr_laws.proofs.LongerExpr.{expr_more, expr_longer}
use Rattle.expr_laws.proofs.FirstWord.{begins_postfix, Starts, expr_starts, is_led}
use Rattle.expr_laws.proofs.FoundExpr.{operator_found, tier_found, expr_found, expr_reads}
use Rattle.expr_laws.proofs.GoesExpr.{grip, Holds, Begun, Goes, clash, operator_stops, goes_down, holds_goes, same_edges, chain_edges, seq_edges}
use Rattle.expr_laws.proofs.GoesExpr.{minus_edges, operator_grip, AtDot, by_more}
use Rattle.expr_laws.proofs.ReachParams.{enclosed_at, prefixed_at, postfix_at, tier_at, seq_at, Good, GoodLinks, GoodMaybe, GoodTail, GoodParam}
use Rattle.expr_laws.proofs.ReachParams.{GoodParams, GoodBinding, GoodBindings, GoodCase, GoodCases, GoodArgument, GoodArguments, GoodPart}
use Rattle.expr_laws.proofs.ReachParams.{GoodParts, GoodField, GoodFields, sub_seq, operand_of, sub_operand}
use Rattle.expr_laws.proofs.ReachForms.{FormReach, let_reach, let_open_reach, let_module_reach, fun_reach, function_reach, match_reach, try_reach}
use Rattle.expr_laws.proofs.ReachForms.{if_reach}
use Rattle.expr_laws.proofs.ReachAtoms.{row_reach, unit_read, paren_read, typed_read, coerced_read, empty_list_read, list_read, empty_begin_read}
use Rattle.expr_laws.proofs.ReachAtoms.{begin_read, while_read, for_read, constr_reach, opened_read, value_read, literal_read, bool_read, tag_read}
use Rattle.expr_laws.proofs.ReachAtoms.{prefix_reach, lone_enclosed, lone_bracket, as_postfix, postfix_reach, as_apply, apply_reach}
use Rattle.expr_laws.proofs.ReachAtoms.{constr_apply_reach, tag_apply_reach, assert_reach, lazy_reach}
use Rattle.expr_laws.proofs.ReachRecords.{record_read}

-- a reading whose tree depends on what is left
map_rest : {A B C D : Type 0} {t : A} {r : List Tok} {n : ℕ} {res : Option (A × List Tok)} (g : A → List Tok → B) → (C → D) → Beyond C t r n res
    → Beyond D (g t r) r n (res >>= λ x. Some (g x.0 x.1, x.1))
map_rest g to (exact e) = rw e (exact refl)
map_rest g to (farther c x e lt) = rw e (farther (to c) (g x.0 x.1, x.1) refl lt)

-- ---- forms, applications and a prefix minus

module _ (f : ℕ) where
  abbrev apply_at : Read Expr
  apply_at = apply (read_expr f) f

  abbrev unary_at : Read Expr
  unary_at = unary (read_expr f) f

  unary_by : (t : Tok) (rest : List Tok) → begins_postfix t ≡ true → unary_at (t ∷ rest) ≡ apply_at (t ∷ rest)
  unfolding unary
  unary_by (fixed x) rest b = absurd cc
  unary_by (placed key.Let at) rest b = absurd cc
  unary_by (placed key.Fun at) rest b = absurd cc
  unary_by (placed key.Function at) rest b = absurd cc
  unary_by (placed key.Match at) rest b = absurd cc
  unary_by (placed key.Try at) rest b = absurd cc
  unary_by (placed key.If at) rest b = absurd cc
  unary_by (placed _ at) rest b = refl
  unary_by (word class.Infix x) rest b = absurd cc
  unary_by (word _ x) rest b = refl

  unary_is : (ts : List Tok) → Starts ts → unary_at ts ≡ apply_at ts
  unary_is ts s = subst (λ k. unary_at k ≡ apply_at k) (sym s.is) (unary_by s.first s.rest s.starts)

  as_unary : (e : Expr) (r : List Tok) → 13 < level e → is_led e ≡ false → Wf e → Reach (Holds 14 r) e r (apply_at (expr_then e r))
      → Reach (Goes 13 e r) e r (tier_at f 0 (expr_then e r))
  unfolding tier
  as_unary e r lv p w h = as_read (unary_is (expr_then e r) (expr_starts e r lv p w)) (weaken (holds_goes 14 13 e r (omega arith)) h)

  as_led : (k : Fixed) (at : ℕ) (e : Expr) (r ts : List Tok) → ((k ≡ key.Assert) ⊎ (k ≡ key.Lazy))
      → Reach (Holds 14 r) e r (apply_at (placed k at ∷ ts)) → Reach (Goes 13 e r) e r (tier_at f 0 (placed k at ∷ ts))
  unfolding tier unary
  as_led k at e r ts (inl q) h =
      rw q (weaken (holds_goes 14 13 e r (omega arith)) (subst (λ k. Reach (Holds 14 r) e r (apply_at (placed k at ∷ ts))) q h))
  as_led k at e r ts (inr q) h =
      rw q (weaken (holds_goes 14 13 e r (omega arith)) (subst (λ k. Reach (Holds 14 r) e r (apply_at (placed k at ∷ ts))) q h))

  minus_reach : (x : Name) (e : Expr) → Good e → Wf (Minus x e) → (r : List Tok) → length (expr_then (Minus x e) r) ≤ suc f
      → Reach (Goes 13 (Minus x e) r) (Minus x e) r (tier_at f 0 (expr_then (Minus x e) r))
  unfolding tier unary
  minus_reach x e g w r len =
      rw w.0 (map_read (Minus x) (goes_down 13 13 e (Minus x e) r (omega arith) (minus_edges x e)) (sub_operand e g w.1 w.2 f r (omega (arith, len))))

  let_tier : (at : ℕ) (e : Expr) (r ts : List Tok) → FormReach e r (let_expr (read_expr f) f at ts)
      → FormReach e r (tier_at f 0 (placed key.Let at ∷ ts))
  unfolding tier unary
  let_tier at e r ts h = h

  fun_tier : (at : ℕ) (e : Expr) (r ts : List Tok) → FormReach e r (fun_expr (read_expr f) f at ts)
      → FormReach e r (tier_at f 0 (placed key.Fun at ∷ ts))
  unfolding tier unary
  fun_tier at e r ts h = h

  function_tier : (at : ℕ) (e : Expr) (r ts : List Tok) → FormReach e r (all_cases (read_expr f) f (Function at) ts)
      → FormReach e r (tier_at f 0 (placed key.Function at ∷ ts))
  unfolding tier unary
  function_tier at e r ts h = h

  match_tier : (at : ℕ) (e : Expr) (r ts : List Tok) → FormReach e r (match_expr (read_expr f) f (Match at) ts)
      → FormReach e r (tier_at f 0 (placed key.Match at ∷ ts))
  unfolding tier unary
  match_tier at e r ts h = h

  try_tier : (at : ℕ) (e : Expr) (r ts : List Tok) → FormReach e r (match_expr (read_expr f) f (Try at) ts)
      → FormReach e r (tier_at f 0 (placed key.Try at ∷ ts))
  unfolding tier unary
  try_tier at e r ts h = h

  if_tier : (at : ℕ) (e : Expr) (r ts : List Tok) → FormReach e r (if_expr (read_expr f) f at ts)
      → FormReach e r (tier_at f 0 (placed key.If at ∷ ts))
  unfolding tier unary
  if_tier at e r ts h = h

-- ---- chains

calm_true : (e : Expr) → Calm e → is_calm e ≡ true
calm_true e c = rw (c.0, c.1) refl

follow_true : (e : Expr) (t : Tok) (k : List Tok) → CanBeAssigned t e → may_follow e (t ∷ k) ≡ true
follow_true e (fixed key.LeftArrow) k h = h
follow_true e _ k h = refl

going : (e : Expr) (t : Tok) (k : List Tok) → Calm e → CanBeAssigned t e → goes_on e (t ∷ k) ≡ true
going e t k c a = rw (calm_true e c, follow_true e t k a) refl

module _ (f d : ℕ) (le : d ≤ 9) where
  abbrev op_at : Read (Tok × Expr × Bool)
  op_at = operator_part (read_expr f) f (12 - d) (tier_at f d)

  op_at_is : (t : Tok) (ts : List Tok) → op_level t ≡ 12 - d → op_at (t ∷ ts) ≡ (tier_at f d ts >>= λ x. Some ((t, x.0, goes_on x.0 x.1), x.1))
  op_at_is t ts h = let e : op_level t == 12 - d ≡ true = grind (arith, nat_tests) in rw e refl

  grip_is : (t : Tok) → op_level t ≡ 12 - d → grip t ≡ 13 - d
  grip_is t h = omega (arith, h, le, operator_grip t (omega (arith, h, le)))

  op_is : (ts : List Tok) (x : (Tok × Expr × Bool) × List Tok) → op_at ts ≡ Some x → Holds (12 - d) ts × (length x.1 < length ts)
  op_is ts x e =
      let p = operator_found (read_expr f) f (expr_reads f) (12 - d) (tier_at f d) (tier_found (read_expr f) f (expr_reads f) d (omega (arith, le)))
      ts x e in (
        subst (Holds (12 - d)) (sym p.is) (omega (arith, le, grip_is x.0.0 p.op)),
        omega (arith, ap length p.is, ap length p.operand.words, expr_more x.0.1 x.1),
      )

  op_shorter : (ts : List Tok) (x : (Tok × Expr × Bool) × List Tok) → op_at ts ≡ Some x → length x.1 < length ts
  op_shorter ts x e = (op_is ts x e).1

  abbrev ops_at : ℕ → List Tok → Links × List Tok
  ops_at n ts = many no_link cons_operand (λ x. x.2) op_at n ts

  abbrev ops_if : Expr → List Tok → Links × List Tok
  ops_if e ts = many_if (goes_on e ts) no_link cons_operand (λ x. x.2) op_at f ts

  climb : (e : Expr) (r ts : List Tok) → Reach (Goes (13 - d) e r) e r (tier_at f d ts) → Reach (Goes (12 - d) e r) e r (tier_at f (suc d) ts)
  unfolding tier
  climb e r ts h =
      and_then e r (λ x. Some (grown_chain (12 - d) x.0 (ops_if x.0 x.1).0, (ops_if x.0 x.1).1))
      (map_some (grown_chain (12 - d) e) no_link r (length r) (ops_if e r)
      (no_turn no_link cons_operand (λ x. x.2) op_at op_shorter (Goes (12 - d) e r) (goes_on e r) r (length r) f
      (λ _ x k. let p = op_is r x k in (holds_goes (12 - d) (12 - d) e r (omega arith) p.0, p.1))))
      (goes_down (13 - d) (12 - d) e e r (omega arith) (same_edges e))
      (λ x. (
        (grown_chain (12 - d) x.0 (ops_if x.0 x.1).0, (ops_if x.0 x.1).1),
        refl,
        many_if_shorter no_link cons_operand (λ x. x.2) op_at op_shorter
            (goes_on x.0 x.1) f x.1,
      ))
      h

  op_follows : (e : Expr) (t : Tok) (r : List Tok) → Calm e → op_level t ≡ 12 - d → Goes (13 - d) e (t ∷ r) → ⊥
  op_follows e t r c h k = operator_stops (13 - d) e t r c (omega (arith, le, grip_is t h)) (omega (arith, le, grip_is t h)) k

  module _ (C : Type 0) (r : List Tok) (next : Holds (12 - d) r → C) where
    next_op : (x : (Tok × Expr × Bool) × List Tok) → op_at r ≡ Some x → C × (length x.1 < length r)
    next_op x e = let p = op_is r x e in (next p.0, p.1)

    chain_links : (e0 : Expr) (t : Tok) (e : Expr) (es : Links) → GoodLinks (more_link t e es) → WfChain (12 - d) e0 (more_link t e es)
        → (Goes (13 - d) (last_of e es) r → C)
        → (n : ℕ) → length (links_then (more_link t e es) r) ≤ n → n ≤ f
        → Reach C (more_link t e es) r (Some (ops_at n (links_then (more_link t e es) r)))
    chain_links e0 t e es g w edge zero len k = absurd (omega (arith, len))
    chain_links e0 t e no_link g w edge (suc n) len k =
        let part : Reach C (t, e, goes_on e r) r (op_at (t ∷ expr_then e r)) =
        as_read (op_at_is t (expr_then e r) w.2)
        (map_rest (λ x s. (t, x, goes_on x s)) edge (g.0.tiers d (omega (arith, le)) w.3 w.4 f r (omega (arith, len, k)))) in
        last_turn no_link cons_operand (λ x. x.2) op_at op_shorter C (t, e, goes_on e r) r (t ∷ expr_then e r) (length r) n part
        (λ h x q. next_op x q)
    chain_links e0 t e (more_link t' e' es) g w edge (suc n) len k =
        let rest : List Tok = links_then (more_link t' e' es) r in
        let l1 = expr_longer e rest w.4 in
        let first : tier_at f d (expr_then e rest) ≡ Some (e, rest) = stop (op_follows e t' (expr_then e' (links_then es r)) w.5.0 w.5.2)
        (g.0.tiers d (omega (arith, le)) w.3 w.4 f rest (omega (arith, len, k))) in
        let part : op_at (t ∷ expr_then e rest) ≡ Some ((t, e, goes_on e rest), rest) = op_at_is t (expr_then e rest) w.2
        ∙ ap (λ o. o >>= λ x. Some ((t, x.0, goes_on x.0 x.1), x.1)) first in
        more_turns no_link cons_operand (λ x. x.2) op_at op_shorter C (t, e, goes_on e rest) (more_link t' e' es) r (t ∷ expr_then e rest) rest
        (length r) n part (going e t' (expr_then e' (links_then es r)) w.5.0 w.5.1)
        (chain_links e t' e' es g.1 w.5 edge n (omega (arith, len, l1)) (omega (arith, k)))

  chain_reach : (e : Expr) (t : Tok) (e' : Expr) (es : Links) → Good e → GoodLinks (more_link t e' es) → Wf (Chain (12 - d) e (more_link t e' es))
      → (r : List Tok) → length (expr_then (Chain (12 - d) e (more_link t e' es)) r) ≤ suc f
      → Reach (Goes (12 - d) (Chain (12 - d) e (more_link t e' es)) r) (Chain (12 - d) e (more_link t e' es)) r
      (tier_at f (suc d) (expr_then e (links_then (more_link t e' es) r)))
  unfolding tier
  chain_reach e t e' es g gs w r len =
      let whole : Expr = Chain (12 - d) e (more_link t e' es) in
      let rest : List Tok = links_then (more_link t e' es) r in
      let l1 = expr_longer e rest w.4 in
      let first : tier_at f d (expr_then e rest) ≡ Some (e, rest) = stop (op_follows e t (expr_then e' (links_then es r)) w.5.0 w.5.2)
      (g.tiers d (omega (arith, le)) (inl w.3) w.4 f rest len) in
      let on : goes_on e rest ≡ true = going e t (expr_then e' (links_then es r)) w.5.0 w.5.1 in
      rw (first, on) (map_some (grown_chain (12 - d) e) (more_link t e' es) r (length r) (ops_at f rest)
      (chain_links (Goes (12 - d) whole r) r (holds_goes (12 - d) (12 - d) whole r (omega arith)) e t e' es gs w.5
      (goes_down (13 - d) (12 - d) (last_of e' es) whole r (omega arith) (chain_edges (12 - d) e (more_link t e' es))) f (omega (arith, len, l1))
      (omega arith)))

-- ---- all levels from one

split : (a b : ℕ) → a ≤ suc b → (a ≡ suc b) ⊎ (a ≤ b)
split zero b h = inr (omega arith)
split (suc a) zero h = inl (omega (arith, h))
split (suc a) (suc b) h = up (split a b (omega (arith, h)))
  where
    up : (a ≡ suc b) ⊎ (a ≤ b) → (suc a ≡ suc (suc b)) ⊎ (suc a ≤ suc b)
    up (inl e) = inl (omega (arith, e))
    up (inr k) = inr (omega (arith, k))

climbs : (f : ℕ) (e : Expr) (r ts : List Tok) (d0 : ℕ) → Reach (Goes (13 - d0) e r) e r (tier_at f d0 ts) → (d : ℕ) → d0 ≤ d → d ≤ 10
    → Reach (Goes (13 - d) e r) e r (tier_at f d ts)
climbs f e r ts d0 base zero lo hi = let q : d0 ≡ 0 = omega (arith, lo) in subst (λ k. Reach (Goes (13 - k) e r) e r (tier_at f k ts)) q base
climbs f e r ts d0 base (suc d) lo hi = by (λ k. climbs f e r ts d0 base d k (omega (arith, hi))) (split d0 d lo)
  where
    by : (d0 ≤ d → Reach (Goes (13 - d) e r) e r (tier_at f d ts)) → (d0 ≡ suc d) ⊎ (d0 ≤ d)
        → Reach (Goes (13 - suc d) e r) e r (tier_at f (suc d) ts)
    by below (inl q) = subst (λ k. Reach (Goes (13 - k) e r) e r (tier_at f k ts)) q base
    by below (inr k) =
        let same : 12 - d ≡ 13 - suc d = omega arith in
        subst (λ k. Reach (Goes k e r) e r (tier_at f (suc d) ts)) same (climb f d (omega (arith, hi)) e r ts (below k))

abbrev Tiers : Expr → Type 0
Tiers e = (d : ℕ) → d ≤ 10 → IsOperand (12 - d) e → Wf e → (f : ℕ) (r : List Tok) → length (expr_then e r) ≤ suc f
    → Reach (Goes (13 - d) e r) e r (tier_at f d (expr_then e r))

lone_seq : (e : Expr) → 0 < level e → Tiers e → Wf e → (f : ℕ) (r : List Tok) → length (expr_then e r) ≤ suc f
    → Reach (Goes 0 e r) e r (seq_at f (expr_then e r))
unfolding seq
lone_seq e lv g w f r len =
    row_reach f (suc f) (omega arith) (expr (read_expr f) f) (expr_found (read_expr f) f (expr_reads f)) Tiers
    (λ e g lv w r len. g 10 (omega arith) (operand_of e lv) w f r len) grown_seq (Goes 0 e r) r (holds_goes 0 0 e r (omega arith)) e no_link false g
    tt lv w (λ h. absurd cc)
    (λ _ h. goes_down 3 0 e e r (omega arith) (same_edges e) h) (λ q. absurd cc) len (omega (arith, len, expr_longer e r w))

from_tier : (e : Expr) (d0 : ℕ) → is_bracketed e ≡ false → (Wf e → 0 < level e) → (Wf e → level e < 15)
    → (Wf e → (d : ℕ) → d ≤ 10 → IsOperand (12 - d) e → d0 ≤ d)
    → (Wf e → (f : ℕ) (r : List Tok) → length (expr_then e r) ≤ suc f → Reach (Goes (13 - d0) e r) e r (tier_at f d0 (expr_then e r))) → Good e
from_tier e d0 plain lv hi fits base =
    let tiers : Tiers e = λ d le o w f r len. climbs f e r (expr_then e r) d0 (base w f r len) d (fits w d le o) le in
    record {
      encloseds = λ h. absurd (clash h plain);
      prefixeds = λ h w. absurd (omega (arith, h, hi w));
      posts = λ h w. absurd (omega (arith, h, hi w));
      tiers = tiers;
      seqs = λ w f r len. lone_seq e (lv w) tiers w f r len;
    }

from_apply : (e : Expr) → level e ≡ 14 → is_led e ≡ false → is_bracketed e ≡ false
    → (Wf e → (f : ℕ) (r : List Tok) → length (expr_then e r) ≤ suc f → Reach (Holds 14 r) e r (apply_at f (expr_then e r))) → Good e
from_apply e lv p plain h = from_tier e 0 plain (λ w. omega (arith, lv)) (λ w. omega (arith, lv)) (λ w d le o. omega arith)
    (λ w f r len. as_unary f e r (omega (arith, lv)) p w (h w f r len))

from_led : (e : Expr) (k : Fixed) (at : ℕ) (ts : List Tok → List Tok) → level e ≡ 14 → is_bracketed e ≡ false → ((k ≡ key.Assert) ⊎ (k ≡ key.Lazy))
    → ((r : List Tok) → expr_then e r ≡ placed k at ∷ ts r)
    → (Wf e → (f : ℕ) (r : List Tok) → length (expr_then e r) ≤ suc f → Reach (Holds 14 r) e r (apply_at f (expr_then e r))) → Good e
from_led e k at ts lv plain is words h = from_tier e 0 plain (λ w. omega (arith, lv)) (λ w. omega (arith, lv)) (λ w d le o. omega arith)
    (λ w f r len. subst (λ z. Reach (Goes 13 e r) e r (tier_at f 0 z)) (sym (words r))
    (as_led f k at e r (ts r) is (subst (λ z. Reach (Holds 14 r) e r (apply_at f z)) (words r) (h w f r len))))

from_post : (e : Expr) → level e ≡ 15 → is_led e ≡ false → is_bracketed e ≡ false
    → (Wf e → (f : ℕ) (r : List Tok) → length (expr_then e r) ≤ suc f → Reach (Holds 15 r) e r (postfix_at f (expr_then e r))) → Good e
from_post e lv p plain post =
    let tiers : Tiers e = λ d le o w f r len. climbs f e r (expr_then e r) 0
    (as_unary f e r (omega (arith, lv)) p w (as_apply f e r (expr_then e r) (expr_starts e r (omega (arith, lv)) p w) (post w f r len))) d
    (omega arith) le in
    record {
      encloseds = λ h. absurd (clash h plain);
      prefixeds = λ h. absurd (omega (arith, h, lv));
      posts = λ _. post;
      tiers = tiers;
      seqs = λ w f r len. lone_seq e (omega (arith, lv)) tiers w f r len;
    }

abbrev Encloseds : Expr → Type 0
Encloseds e = is_bracketed e ≡ true → Wf e → (f : ℕ) (r : List Tok) → length (expr_then e r) ≤ suc f → enclosed_at f (expr_then e r) ≡ Some (e, r)

from_atom : (e : Expr) → level e ≡ 16 → is_led e ≡ false → Encloseds e
    → (Wf e → (f : ℕ) (r : List Tok) → length (expr_then e r) ≤ suc f → Reach (AtDot e r) e r (prefixed_at f (expr_then e r))) → Good e
from_atom e lv p inside at =
    let post : Wf e → (f : ℕ) (r : List Tok) → length (expr_then e r) ≤ suc f → Reach (Holds 15 r) e r (postfix_at f (expr_then e r)) =
    λ w f r len. as_postfix f e r (expr_then e r) (at w f r len) in
    let tiers : Tiers e = λ d le o w f r len. climbs f e r (expr_then e r) 0
    (as_unary f e r (omega (arith, lv)) p w (as_apply f e r (expr_then e r) (expr_starts e r (omega (arith, lv)) p w) (post w f r len))) d
    (omega arith) le in
    record {
      encloseds = inside;
      prefixeds = λ _. at;
      posts = λ _. post;
      tiers = tiers;
      seqs = λ w f r len. lone_seq e (omega (arith, lv)) tiers w f r len;
    }

-- an expression that is not in brackets
from_bare : (e : Expr) → level e ≡ 16 → is_led e ≡ false → is_bracketed e ≡ false
    → (Wf e → (f : ℕ) (r : List Tok) → length (expr_then e r) ≤ suc f → prefixed_at f (expr_then e r) ≡ Some (e, r)) → Good e
from_bare e lv p plain at = from_atom e lv p (λ h. absurd (clash h plain)) (λ w f r len. exact (at w f r len))

-- an expression in brackets
from_brackets : (e : Expr) → level e ≡ 16 → is_led e ≡ false
    → ((f : ℕ) (r : List Tok) → prefixed_at f (expr_then e r) ≡ enclosed_at f (expr_then e r))
    → (Wf e → (f : ℕ) (r : List Tok) → length (expr_then e r) ≤ suc f → enclosed_at f (expr_then e r) ≡ Some (e, r)) → Good e
from_brackets e lv p lone at = from_atom e lv p (λ _ w f r len. at w f r len) (λ w f r len. exact (lone f r ∙ at w f r len))

chain_fits : (n : ℕ) (e : Expr) (es : Links) → Wf (Chain n e es) → (d : ℕ) → d ≤ 10 → IsOperand (12 - d) (Chain n e es) → 13 - n ≤ d
chain_fits n e es w d le (inl h) = omega (arith, h, le, w.1)
chain_fits n e es w d le (inr h) = absurd (omega (arith, w.0, h.1))

chain_base : (n : ℕ) (e : Expr) (es : Links) → Good e → GoodLinks es → Wf (Chain n e es) → (f : ℕ) (r : List Tok)
    → length (expr_then (Chain n e es) r) ≤ suc f
    → Reach (Goes (13 - (13 - n)) (Chain n e es) r) (Chain n e es) r (tier_at f (13 - n) (expr_then (Chain n e es) r))
chain_base n e no_link g gs w f r len = absurd (w.2 refl)
chain_base n e (more_link t e' es) g gs w f r len =
    let whole : Expr = Chain n e (more_link t e' es) in
    let ts : List Tok = expr_then e (links_then (more_link t e' es) r) in
    let n-is : 12 - (12 - n) ≡ n = omega (arith, w.1) in
    let at : Reach (Goes n whole r) whole r (tier_at f (suc (12 - n)) ts) =
    subst (λ k. Wf (Chain k e (more_link t e' es)) → Reach (Goes k (Chain k e (more_link t e' es)) r) (Chain k e (more_link t e' es)) r
    (tier_at f (suc (12 - n)) ts)) n-is (λ w'. chain_reach f (12 - n) (omega (arith, w.0)) e t e' es g gs w' r len) w in
    let tier-is : suc (12 - n) ≡ 13 - n = omega (arith, w.1) in
    let goes-is : n ≡ 13 - (13 - n) = omega (arith, w.1) in
    subst (λ k. Reach (Goes k whole r) whole r (tier_at f (13 - n) ts)) goes-is
    (subst (λ j. Reach (Goes n whole r) whole r (tier_at f j ts)) tier-is at)

chain_good : (n : ℕ) (e : Expr) (es : Links) → Good e → GoodLinks es → Good (Chain n e es)
chain_good n e es g gs = from_tier (Chain n e es) (13 - n) refl (λ w. omega (arith, w.0)) (λ w. omega (arith, w.1)) (chain_fits n e es)
    (λ w f r len. chain_base n e es g gs w f r len)

-- a form of level 1 or 2, from its reading
form_good : (e : Expr) → is_bracketed e ≡ false → 0 < level e → level e < 3
    → (Wf e → (f : ℕ) (r : List Tok) → length (expr_then e r) ≤ suc f → FormReach e r (tier_at f 0 (expr_then e r))) → Good e
form_good e plain lo hi h = from_tier e 0 plain (λ w. lo) (λ w. omega (arith, hi)) (λ w d le o. omega arith) h

last_goes : (e : Expr) (es : Links) (last : Bool) (r : List Tok) → last ≡ false → Goes 3 (last_of e es) r → Goes 0 (Seq e es last) r
last_goes e es false r q h = goes_down 3 0 (last_of e es) (Seq e es false) r (omega arith) (seq_edges e es) h
last_goes e es true r q h = absurd cc

more_goes : (e : Expr) (es : Links) (last : Bool) (r : List Tok) → last ≡ true → Begun r → Goes 0 (Seq e es last) r
more_goes e es true r q b = by_more refl (λ z. absurd (omega (arith, z))) b
more_goes e es false r q b = absurd cc

seq_reach : (e : Expr) (es : Links) (last : Bool) → Good e → GoodLinks es → Wf (Seq e es last) → (f : ℕ) (r : List Tok)
    → length (expr_then (Seq e es last) r) ≤ suc f → Reach (Goes 0 (Seq e es last) r) (grown_seq e es last) r (seq_at f (expr_then (Seq e es last) r))
unfolding seq
seq_reach e es last g gs w f r len =
    row_reach f (suc f) (omega arith) (expr (read_expr f) f) (expr_found (read_expr f) f (expr_reads f)) Good
    (λ e g lv w r len. g.tiers 10 (omega arith) (operand_of e lv) w f r len) grown_seq (Goes 0 (Seq e es last) r) r
    (holds_goes 0 0 (Seq e es last) r (omega arith)) e es last g gs w.0 w.1 w.2
    (last_goes e es last r) (more_goes e es last r) len (omega (arith, len, expr_longer e (links_then es (optional_then key.Semicolon last r)) w.1))

seq_good : (e : Expr) (es : Links) (last : Bool) → Good e → GoodLinks es → Good (Seq e es last)
seq_good e es last g gs = record {
  encloseds = λ h. absurd cc;
  prefixeds = λ h. absurd (omega (arith, h));
  posts = λ h. absurd (omega (arith, h));
  tiers = λ d le o. absurd (no_operand (12 - d) o);
  seqs = λ w f r len. subst (λ k. Reach (Goes 0 (Seq e es last) r) k r (seq_at f (expr_then (Seq e es last) r))) (whole e es last w.3)
      (seq_reach e es last g gs w f r len);
}
  where
    no_operand : (n : ℕ) → IsOperand n (Seq e es last) → ⊥
    no_operand n (inl h) = absurd (omega (arith, h))
    no_operand n (inr h) = absurd (omega (arith, h.0))

    whole : (e : Expr) (es : Links) (last : Bool) → (es ≢ no_link) ⊎ (last ≡ true) → grown_seq e es last ≡ Seq e es last
    whole e no_link true h = refl
    whole e no_link false (inl h) = absurd (h refl)
    whole e no_link false (inr h) = absurd cc
    whole e (more_link t e' es) last h = refl

mutual
  pub good : (e : Expr) → Good e
  good (Seq e es last) = seq_good e es last (good e) (links_good es)
  good (Let at recursive b bs e) = form_good (Let at recursive b bs e) refl (omega arith) (omega arith)
      (λ w f r len. let_tier f at _ r _ (let_reach at recursive b bs e (binding_good b) (bindings_good bs) (good e) w f r len))
  good (LetOpen at at' bang path e) = form_good (LetOpen at at' bang path e) refl (omega arith) (omega arith)
      (λ w f r len. let_tier f at _ r _ (let_open_reach at at' bang path e (good e) w f r len))
  good (LetModule at at' x q m e) = form_good (LetModule at at' x q m e) refl (omega arith) (omega arith)
      (λ w f r len. let_tier f at _ r _ (let_module_reach at at' x q m e (good e) w f r len))
  good (Fun at ps e) = form_good (Fun at ps e) refl (omega arith) (omega arith)
      (λ w f r len. fun_tier f at _ r _ (fun_reach at ps e (params_good ps) (good e) w f r len))
  good (Function at bar c cs) = form_good (Function at bar c cs) refl (omega arith) (omega arith)
      (λ w f r len. function_tier f at _ r _ (function_reach f at bar c cs (case_good c) (cases_good cs) w r len))
  good (Match at e bar c cs) = form_good (Match at e bar c cs) refl (omega arith) (omega arith)
      (λ w f r len. match_tier f at _ r _ (match_reach f at e bar c cs (good e) (case_good c) (cases_good cs) w r len))
  good (Try at e bar c cs) = form_good (Try at e bar c cs) refl (omega arith) (omega arith)
      (λ w f r len. try_tier f at _ r _ (try_reach f at e bar c cs (good e) (case_good c) (cases_good cs) w r len))
  good (If at c a tail) = form_good (If at c a tail) refl (omega arith) (omega arith)
      (λ w f r len. if_tier f at _ r _ (if_reach f at c a tail (good c) (good a) (tail_good tail) w r len))
  good (Chain n e es) = chain_good n e es (good e) (links_good es)
  good (Minus x e) = from_tier (Minus x e) 0 refl (λ w. omega arith) (λ w. omega arith) (λ w d le o. omega arith)
      (λ w f r len. minus_reach f x e (good e) w r len)
  good (Apply e es) = from_apply (Apply e es) refl refl refl (λ w f r len. apply_reach f e es r (good e) (arguments_good es) w len)
  good (ConstrApply path e) = from_apply (ConstrApply path e) refl refl refl (λ w f r len. constr_apply_reach f path e r (good e) w len)
  good (TagApply y e) = from_apply (TagApply y e) refl refl refl (λ w f r len. tag_apply_reach f y e r (good e) w len)
  good (Assert at e) = from_led (Assert at e) key.Assert at (expr_then e) refl refl (inl refl) (λ r. refl)
      (λ w f r len. assert_reach f at e r (good e) w len)
  good (Lazy at e) = from_led (Lazy at e) key.Lazy at (expr_then e) refl refl (inr refl) (λ r. refl) (λ w f r len. lazy_reach f at e r (good e) w len)
  good (Postfix e ps) = from_post (Postfix e ps) refl refl refl (λ w f r len. postfix_reach f e ps r (good e) (parts_good ps) w len)
  good (Prefixed x e) = from_atom (Prefixed x e) refl refl (λ h. absurd cc) (λ w f r len. prefix_reach f x e r (good e) w len)
  good (Literal c x) = from_bare (Literal c x) refl refl refl (λ w f r len. literal_read f c x r w)
  good (BoolExpr at b) = from_bare (BoolExpr at b) refl refl refl (λ w f r len. bool_read f at b r)
  good (Value path x) = from_bare (Value path x) refl refl refl (λ w f r len. value_read f path x r w len)
  good (Constr path) = from_atom (Constr path) refl refl (λ h. absurd cc) (λ w f r len. constr_reach f path r w len)
  good (Tag x) = from_bare (Tag x) refl refl refl (λ w f r len. tag_read f x r)
  good (UnitExpr at) = from_brackets (UnitExpr at) refl refl (λ f r. lone_enclosed f key.LeftParen at _ (inl refl)) (λ w f r len. unit_read f at r)
  good (Paren at e) = from_brackets (Paren at e) refl refl (λ f r. lone_enclosed f key.LeftParen at _ (inl refl))
      (λ w f r len. paren_read f at e r (good e) w len)
  good (Typed at e run) = from_brackets (Typed at e run) refl refl (λ f r. lone_enclosed f key.LeftParen at _ (inl refl))
      (λ w f r len. typed_read f at e run r (good e) w.0 w.1 len)
  good (Coerced at e from to) = from_brackets (Coerced at e from to) refl refl (λ f r. lone_enclosed f key.LeftParen at _ (inl refl))
      (λ w f r len. coerced_read f at e from to r (good e) w.0 w.1 w.2 len)
  good (EmptyBegin at) = from_bare (EmptyBegin at) refl refl refl (λ w f r len. empty_begin_read f at r)
  good (Begin at e) = from_bare (Begin at e) refl refl refl (λ w f r len. begin_read f at e r (good e) w len)
  good (EmptyList at b) = from_brackets (EmptyList at b) refl refl (λ f r. lone_bracket f at b _) (λ w f r len. empty_list_read f at b r)
  good (ListExpr at b e es last) = from_brackets (ListExpr at b e es last) refl refl (λ f r. lone_bracket f at b _)
      (λ w f r len. list_read f at b e es last r (good e) (links_good es) w len)
  good (Record at base x fs last) =
      from_brackets (Record at base x fs last) refl refl (λ f r. lone_enclosed f key.LeftBrace at _ (inr (inr (inr refl))))
      (λ w f r len. record_read f at base x fs last r (maybe_good base) (field_good x) (fields_good fs) w len)
  good (Opened path e) = from_bare (Opened path e) refl refl refl (λ w f r len. opened_read f path e r (good e) w len)
  good (While at c e) = from_bare (While at c e) refl refl refl (λ w f r len. while_read f at c e r (good c) (good e) w len)
  good (For at x q a down b e) =
      from_bare (For at x q a down b e) refl refl refl (λ w f r len. for_read f at x q a down b e r (good a) (good b) (good e) w len)

  links_good : (es : Links) → GoodLinks es
  links_good no_link = tt
  links_good (more_link t e es) = (good e, links_good es)

  maybe_good : (e : MaybeExpr) → GoodMaybe e
  maybe_good no_expr = tt
  maybe_good (some_expr e) = good e

  tail_good : (es : Tail) → GoodTail es
  tail_good no_else = tt
  tail_good (or_else e) = good e
  tail_good (or_if at c e es) = (good c, good e, tail_good es)

  pub param_good : (p : Param) → GoodParam p
  param_good (PatternParam p) = tt
  param_good (LabelParam x) = tt
  param_good (LabelPattern x p) = tt
  param_good (DefaultParam x at p run q e) = good e
  param_good (WrappedParam at optional at' x run) = tt
  param_good (WrappedDefault at at' x run q e) = good e
  param_good (TypesParam at xs) = tt

  params_good : (ps : Params) → GoodParams ps
  params_good no_param = tt
  params_good (more_param p ps) = (param_good p, params_good ps)

  pub binding_good : (b : Binding) → GoodBinding b
  binding_good (PlainBinding p run at e) = good e
  binding_good (AppliedBinding x ps run at e) = (params_good ps, good e)

  pub bindings_good : (bs : Bindings) → GoodBindings bs
  bindings_good no_binding = tt
  bindings_good (more_binding b bs) = (binding_good b, bindings_good bs)

  case_good : (c : Case) → GoodCase c
  case_good (CaseOf p guard e) = (maybe_good guard, good e)

  cases_good : (cs : Cases) → GoodCases cs
  cases_good no_case = tt
  cases_good (more_case c cs) = (case_good c, cases_good cs)

  argument_good : (a : Argument) → GoodArgument a
  argument_good (Positional e) = good e
  argument_good (LabelPun x) = tt
  argument_good (Labelled x e) = good e

  arguments_good : (es : Arguments) → GoodArguments es
  arguments_good no_argument = tt
  arguments_good (more_argument a es) = (argument_good a, arguments_good es)

  part_good : (p : Part) → GoodPart p
  part_good (LabelPart path x) = tt
  part_good (IndexPart at e) = good e
  part_good (CharPart at e) = good e

  parts_good : (ps : Parts) → GoodParts ps
  parts_good no_part = tt
  parts_good (more_part p ps) = (part_good p, parts_good ps)

  field_good : (x : Field) → GoodField x
  field_good (FieldPun path x run) = tt
  field_good (AssignedField path x run at e) = good e

  fields_good : (fs : Fields) → GoodFields fs
  fields_good no_field = tt
  fields_good (more_field f fs) = (field_good f, fields_good fs)

-- what is read from the words of a sequence and more
pub expr_reach : (e : Expr) → Wf e → (f : ℕ) (r : List Tok) → length (expr_then e r) ≤ f
    → Reach (Goes 0 e r) e r (read_expr f wanted.Sequence (expr_then e r))
expr_reach e w f r len = sub_seq e (good e) w f r len
