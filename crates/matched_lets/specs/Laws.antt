-- Every `let` of an expression has its `in` (the OCaml manual, "Expressions").
use Rattle.std.specs.Prelude.{◌≡◌, List, false}
use Rattle.ml_trees.specs.Tok.{Tok}
use Rattle.ml_trees.specs.Tree.{Expr}
use Rattle.ml_trees.specs.Words.{expr_then}
use Rattle.ml_trees.specs.WellFormed.{Wf}
use Rattle.token_reading.specs.Matching.{lacks_in}

-- tokens that begin with an expression do not begin with a `let` that lacks its `in`
abbrev pub LetsHaveTheirIn : Type 0
LetsHaveTheirIn = (e : Expr) (rest : List Tok) → Wf e → lacks_in (expr_then e rest) ≡ false
