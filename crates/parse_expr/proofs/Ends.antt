-- What is read from the tokens of the code is the longest.
use Rattle.std.proofs.Common.{◌≡◌, ℕ, ◌+◌, min, List, length, Some, None, ap, ◌∙◌, arith}
use Rattle.rotor_base.specs.declared.token.Token.{Token}
use Rattle.ml_trees.specs.Tree.{Expr}
use Rattle.token_reading.specs.Tokens.{from}
use Rattle.token_reading.proofs.Ends.{from_length, from_min}
use Rattle.expr_reading.specs.declared.wanted.Wanted.TheVariants as wanted
use Rattle.expr_reading.specs.ExprReading.{read_expr}
use Rattle.expr_reading.specs.Longest.{IsLongestExpr, BeginsNoExpr}
use Rattle.expr_laws.proofs.LawsExpr.{expr_longest, expr_none}

pub longest_expr : (ts : List Token) (start end place : ℕ) (e : Expr) → place ≡ min end (length ts)
    → read_expr (length ts + 1) wanted.Sequence (from ts start) ≡ Some (e, from ts end) → IsLongestExpr (from ts start) e (from ts place)
longest_expr ts start end place e p h =
    let q : from ts place ≡ from ts end = ap (from ts) p ∙ from_min ts end in
    rw q (expr_longest (length ts + 1) (from ts start) e (from ts end) (omega (arith, from_length ts start)) h)

pub no_expr : (ts : List Token) (start : ℕ) → read_expr (length ts + 1) wanted.Sequence (from ts start) ≡ None → BeginsNoExpr (from ts start)
no_expr ts start h = expr_none (length ts + 1) (from ts start) (omega (arith, from_length ts start)) h
