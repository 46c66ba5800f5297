-- Operators, as the code reads them (own).
use Rattle.std.specs.Prelude.{ℕ, ◌-◌, List, [], ◌∷◌, Bool, ◌==◌, if◌then◌else◌, Some, None}
use Rattle.ml_trees.specs.Tok.{Tok}
use Rattle.ml_trees.specs.Tree.{Expr, Links, no_link}
use Rattle.ml_trees.specs.WellFormed.{op_level}
use Rattle.token_reading.specs.Steps.{Read, many}
use Rattle.expr_reading.specs.ExprReading.{cons_operand, operator_part, read_expr, tier}

-- an operator of this level
abbrev pub operator_of : ℕ → Read Tok
operator_of m (t ∷ ts) = if op_level t == m then Some (t, ts) else None
operator_of m [] = None

-- an operator of the level above a tier and its operand, and whether more may follow
abbrev pub next_operand : ℕ → ℕ → Read (Tok × Expr × Bool)
next_operand d m = operator_part (read_expr d) d (12 - m) (tier (read_expr d) d m)

abbrev pub more_operands : ℕ → ℕ → List Tok → Links × List Tok
more_operands d m ts = many no_link cons_operand (λ x. x.2) (next_operand d m) d ts

-- a `,` and a part of a tuple, and whether more may follow
abbrev pub next_in_tuple : ℕ → Read (Tok × Expr × Bool)
next_in_tuple d = operator_part (read_expr d) d 4 (tier (read_expr d) d 8)

abbrev pub more_in_tuple : ℕ → List Tok → Links × List Tok
more_in_tuple d ts = many no_link cons_operand (λ x. x.2) (next_in_tuple d) d ts
