-- What the reading of a pattern promises, in the words of the trees (own; the OCaml manual, "Patterns").
use Rattle.std.specs.Prelude.{◌≡◌, ◌≤◌, List, ◌++◌, length}
use Rattle.ml_trees.specs.Tok.{Tok}
use Rattle.ml_trees.specs.Tree.{Pat}
use Rattle.ml_trees.specs.Words.{pat_words}
use Rattle.ml_trees.specs.WellFormed.{WfPat}

-- p is the longest pattern that begins the tokens, and the only one of its length
pub record IsLongestPat (ts : List Tok) (p : Pat) (rest : List Tok) : Type 0 where
  pub wf : WfPat p
  pub reads : ts ≡ pat_words p ++ rest
  pub longest : (another : Pat) (behind : List Tok) → WfPat another → ts ≡ pat_words another ++ behind → length rest ≤ length behind
  pub only : (another : Pat) → WfPat another → ts ≡ pat_words another ++ rest → another ≡ p

-- no pattern begins the tokens
abbrev pub BeginsNoPat : List Tok → Type 0
BeginsNoPat ts = (p : Pat) (rest : List Tok) → WfPat p → ts ≡ pat_words p ++ rest → ⊥

-- two patterns of the same words are one
abbrev pub OnePatReading : Type 0
OnePatReading = (a b : Pat) → WfPat a → WfPat b → pat_words a ≡ pat_words b → a ≡ b
