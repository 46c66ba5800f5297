-- The parts of forms, as the code reads them (own).
use Rattle.std.specs.Prelude.{ℕ, List, ◌∷◌, Bool, Option, Some, None}
use Rattle.ml_trees.specs.declared.fixed.Fixed.TheVariants as key
use Rattle.ml_trees.specs.Tok.{Name, Tok, placed}
use Rattle.ml_trees.specs.Tree.{Pat, Expr, LetModule, Case, Cases, no_case, more_case, Tail, no_else, Param, DefaultParam}
use Rattle.ml_trees.specs.View.{view}
use Rattle.token_reading.specs.Steps.{Read, ◌>>=◌, expect, expect_at, many}
use Rattle.token_reading.specs.Pieces.{lower_word, optional_type}
use Rattle.expr_reading.specs.declared.wanted.Wanted.TheVariants as wanted
use Rattle.expr_reading.specs.ExprReading.{Otherwise, last_branch, cons_branch, branch_ends, else_branch, no_cases, next_case, read_expr, read_local}
use Rattle.expr_reading.specs.ExprReading.{wrapped_end}
use Rattle.expr_forms.specs.declared.branches.Otherwise.{Otherwise as Behind}
use Rattle.expr_forms.specs.declared.branches.Otherwise.TheVariants as behind
use Rattle.expr_parts.specs.Rows.{branch_of}

-- what follows an `else`, as the code holds it
abbrev pub otherwise_of : Behind → Otherwise
otherwise_of (behind.Last e) = last_branch (view e.value)
otherwise_of (behind.If b) = branch_of b

-- each `else if`, and the last `else`
abbrev pub else_tail : ℕ → List Tok → Tail × List Tok
else_tail d ts = many no_else cons_branch branch_ends (else_branch (read_expr d) d) d ts

-- what is made of cases: whether a `|` is before the first, the first, and the others
abbrev pub OfCases : Type 0
OfCases = Bool → Case → Cases → Expr

-- further cases
abbrev pub more_cases : ℕ → List Tok → Cases × List Tok
more_cases d ts = many no_case more_case no_cases (next_case (read_expr d) d) d ts

-- after the pattern of a default value and its type
abbrev pub default_end : ℕ → Name → ℕ → Pat → Option (List Tok) → Read Param
default_end d x at p run ts = do
  q ← expect_at key.Equals ts
  e ← read_expr d wanted.Expression q.1
  r ← expect key.RightParen e.1
  Some (DefaultParam x at p run q.0 e.0, r)

-- after a `~` or a `?` and a `(`
abbrev pub wrapped_label : ℕ → ℕ → Bool → ℕ → Read Param
wrapped_label d at optional at' ts = lower_word ts >>= λ x. wrapped_end (read_expr d) d at optional at' x.0 (optional_type x.1).0
    (optional_type x.1).1

-- after the `=` of a `let module`
abbrev pub module_in : ℕ → ℕ → ℕ → Name → ℕ → Read Expr
module_in d at at' x q ts = do
  m ← read_local d ts
  r ← expect key.In m.1
  e ← read_expr d wanted.Sequence r
  Some (LetModule at at' x q m.0 e.0, e.1)

-- after the name of a `let module`
abbrev pub module_named : ℕ → ℕ → ℕ → Name → Read Expr
module_named d at at' x (placed key.Equals q ∷ ts) = module_in d at at' x q ts
module_named d at at' x _ = None
