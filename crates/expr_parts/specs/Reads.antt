-- What a function value that reads expressions does, to a depth (own).
use Rattle.std.specs.Prelude.{ℕ, ◌≤◌, length, List, Result}
use Rattle.std.specs.declared.alloc.Global.{Global}
use denote.Ref.{Bor}
use Rattle.std.specs.Global.{Box}
use Rattle.rotor_base.specs.Limits.{max_file_bytes}
use Rattle.rotor_base.specs.declared.token.Token.{Token}
use Rattle.ml_trees.specs.declared.expression.Expr.{Expr as Source}
use Rattle.ml_trees.specs.View.{view}
use Rattle.token_reading.specs.declared.error.ReadError.{ReadError}
use Rattle.token_reading.specs.Gives.{Gives}
use Rattle.token_reading.specs.Tokens.{from}
use Rattle.expr_reading.specs.declared.wanted.Wanted.{Wanted}
use Rattle.expr_reading.specs.ExprReading.{read_expr}

pub record Nests (depth : ℕ) (pre : Global → Bor (List Token) → ℕ → ℕ → Wanted → ℕ → Type 0)
    (post : Global → Bor (List Token) → ℕ → ℕ → Wanted → ℕ → Result (Box Source × ℕ) ReadError → Type 0) : Type 0 where
  pub callable : (alloc : Global) (ts : Bor (List Token)) (levels : ℕ) (w : Wanted) (at : ℕ) → length ts.now ≤ max_file_bytes
      → pre alloc ts depth levels w at
  pub reads : (alloc : Global) (ts : Bor (List Token)) (levels : ℕ) (w : Wanted) (at : ℕ) (r : Result (Box Source × ℕ) ReadError)
      → post alloc ts depth levels w at r
      → Gives (λ x. (view x.0.value, from ts.now x.1)) r (read_expr depth w (from ts.now at))
