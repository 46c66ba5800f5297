-- The laws of expressions: what is read is the longest, none is missed, and two expressions of the same words are one.
use Rattle.std.proofs.Common.{◌≡◌, ℕ, ◌≤◌, List, [], ◌++◌, length, Some, None, sym, ap, subst, ◌∙◌, arith}
use Rattle.ml_trees.specs.Tok.{Tok}
use Rattle.expr_reading.specs.declared.wanted.Wanted.TheVariants as wanted
use Rattle.ml_trees.specs.Words.{expr_then, expr_words}
use Rattle.ml_trees.specs.WellFormed.{Wf}
use Rattle.ml_trees.specs.Tree.{Expr}
use Rattle.token_reading.proofs.Stepping.{some_is}
use Rattle.token_reading.proofs.Reach.{exact, farther, Reach}
use Rattle.pattern_reading.proofs.LawsPat.{not_longer, same_end, not_none}
use Rattle.expr_reading.specs.ExprReading.{read_expr}
use Rattle.expr_reading.specs.Longest.{IsLongestExpr, BeginsNoExpr, OneExprReading}
use Rattle.expr_laws.proofs.AppendExpr.{expr_front}
use Rattle.expr_laws.proofs.FoundExpr.{expr_reads}
use Rattle.expr_laws.proofs.GoesExpr.{Goes, end_stops}
use Rattle.expr_laws.proofs.ReachExpr.{expr_reach}

one_expr : (n : ℕ) (a b : Expr) → Wf a → Wf b → length (expr_words a) ≤ n → expr_words a ≡ expr_words b → a ≡ b
one_expr n a b wa wb len q =
    both (expr_reach a wa n [] len)
    (subst (λ k. Reach (Goes 0 b []) b [] (read_expr n wanted.Sequence k)) (sym q) (expr_reach b wb n [] (omega (arith, len, ap length q))))
  where
    both : Reach (Goes 0 a []) a [] (read_expr n wanted.Sequence (expr_words a))
        → Reach (Goes 0 b []) b [] (read_expr n wanted.Sequence (expr_words a)) → a ≡ b
    both (exact h) (exact k) = let q : (a, []) ≡ (b, []) = some_is (sym h ∙ k) in ap (λ (z : Expr × List Tok). z.0) q
    both (farther c x h lt) _ = absurd (end_stops 0 a c)
    both _ (farther c x h lt) = absurd (end_stops 0 b c)

pub one_expr_reading : OneExprReading
one_expr_reading a b wa wb q = one_expr (length (expr_words a)) a b wa wb (omega arith) q

expr_reaches : (n : ℕ) (ts : List Tok) → length ts ≤ n → (e : Expr) (r : List Tok) → Wf e → ts ≡ expr_words e ++ r
    → Reach (Goes 0 e r) e r (read_expr n wanted.Sequence ts)
expr_reaches n ts len e r w q =
    let same : ts ≡ expr_then e r = q ∙ sym (expr_front e r) in
    subst (λ k. Reach (Goes 0 e r) e r (read_expr n wanted.Sequence k)) (sym same) (expr_reach e w n r (omega (arith, len, ap length same)))

pub expr_longest : (n : ℕ) (ts : List Tok) (e : Expr) (r : List Tok) → length ts ≤ n → read_expr n wanted.Sequence ts ≡ Some (e, r)
    → IsLongestExpr ts e r
expr_longest n ts e r len h =
    let f = expr_reads n wanted.Sequence ts (e, r) h in
    record {
      wf = f.wf;
      reads = f.words ∙ expr_front e r;
      longest = λ e' r' w q. not_longer (Goes 0 e' r') e e' r r' (read_expr n wanted.Sequence ts) h (expr_reaches n ts len e' r' w q);
      only = λ e' w q. same_end (Goes 0 e' r) e e' r (read_expr n wanted.Sequence ts) h (expr_reaches n ts len e' r w q);
    }

pub expr_none : (n : ℕ) (ts : List Tok) → length ts ≤ n → read_expr n wanted.Sequence ts ≡ None → BeginsNoExpr ts
expr_none n ts len h e r w q = not_none (Goes 0 e r) e r (read_expr n wanted.Sequence ts) h (expr_reaches n ts len e r w q)
