-- What the reading of a sequence expression promises, in the words of the trees (own; the OCaml manual, "Expressions").
use Rattle.std.specs.Prelude.{◌≡◌, ◌≤◌, List, ◌++◌, length}
use Rattle.ml_trees.specs.Tok.{Tok}
use Rattle.ml_trees.specs.Tree.{Expr}
use Rattle.ml_trees.specs.Words.{expr_words}
use Rattle.ml_trees.specs.WellFormed.{Wf}

-- e is the longest sequence expression that begins the tokens, and the only one of its length
pub record IsLongestExpr (ts : List Tok) (e : Expr) (rest : List Tok) : Type 0 where
  pub wf : Wf e
  pub reads : ts ≡ expr_words e ++ rest
  pub longest : (another : Expr) (behind : List Tok) → Wf another → ts ≡ expr_words another ++ behind → length rest ≤ length behind
  pub only : (another : Expr) → Wf another → ts ≡ expr_words another ++ rest → another ≡ e

-- no expression begins the tokens
abbrev pub BeginsNoExpr : List Tok → Type 0
BeginsNoExpr ts = (e : Expr) (rest : List Tok) → Wf e → ts ≡ expr_words e ++ rest → ⊥

-- two expressions of the same words are one
abbrev pub OneExprReading : Type 0
OneExprReading = (a b : Expr) → Wf a → Wf b → expr_words a ≡ expr_words b → a ≡ b
