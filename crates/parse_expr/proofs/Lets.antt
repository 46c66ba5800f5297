-- No expression begins with a `let` that lacks its `in`.
use Rattle.std.proofs.Common.{◌≡◌, ℕ, suc, List, Bool, true, false, Option, Some, None, refl, sym, ap, ◌∙◌}
use Rattle.ml_trees.specs.Tok.{Tok}
use Rattle.ml_trees.specs.Tree.{Expr}
use Rattle.token_reading.specs.Matching.{lacks_in}
use Rattle.expr_reading.specs.declared.wanted.Wanted.TheVariants as wanted
use Rattle.expr_reading.specs.ExprReading as r
use Rattle.expr_reading.specs.ExprReading.{read_expr}
use Rattle.expr_laws.proofs.FoundExpr.{expr_reads}
use Rattle.matched_lets.proofs.HaveIn.{lets_have_their_in}

contradiction : {A : Type 0} → true ≡ false → A
contradiction h = absurd cc

read_lacks : (n : ℕ) (ts : List Tok) → lacks_in ts ≡ true → read_expr n wanted.Operand ts ≡ None
read_lacks n ts lacks = by (read_expr n wanted.Operand ts) refl
  where
    by : (o : Option (Expr × List Tok)) → read_expr n wanted.Operand ts ≡ o → o ≡ None
    by None e = refl
    by (Some x) e =
        let f = expr_reads n wanted.Operand ts x e in
        let has : true ≡ false = sym lacks ∙ ap lacks_in f.words ∙ lets_have_their_in x.0 x.1 f.wf in
        contradiction has

pub unary_lacks : (n : ℕ) (ts : List Tok) (b : Bool) → b ≡ lacks_in ts → b ≡ true → r.unary (read_expr n) n ts ≡ None
unfolding read_expr
unary_lacks n ts b is lacks = read_lacks (suc n) ts (sym is ∙ lacks)
