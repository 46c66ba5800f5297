-- Readings that depend on whether a list of parameters or names is empty, or on the token behind a `~` or `?`.
use Rattle.std.proofs.Common.{◌≡◌, ℕ, ◌<◌, List, [], ◌∷◌, length, Bool, Some, None, refl, arith}
use Rattle.rotor_base.specs.declared.token.Class.TheVariants as class
use Rattle.ml_trees.specs.declared.word.Word.{Word}
use Rattle.ml_trees.specs.declared.expression.Param.{Param}
use Rattle.ml_trees.specs.declared.fixed.Fixed.TheVariants as key
use Rattle.ml_trees.specs.Tok.{Tok, placed, word}
use Rattle.ml_trees.specs.Tree as pure
use Rattle.ml_trees.specs.View.{params, view_words}
use Rattle.token_reading.specs.Steps.{◌>>=◌, expect, expect_at}
use Rattle.expr_reading.specs.declared.wanted.Wanted.TheVariants as wanted
use Rattle.expr_reading.specs.ExprReading.{read_expr, bound, plain_binding, named_binding, fun_end, types_end, wrapped_param, let_module}
use Rattle.expr_forms.specs.Forms.{wrapped_label, module_named}
use Rattle.expr_parts.specs.Rows.{upper_word}

module _ (d : ℕ) where
  pub named_none : (ts : List Tok) (x : pure.ValueName) (ps : List Param) (r : List Tok) → length ps ≡ 0
      → named_binding (read_expr d) d ts x (params ps) r ≡ plain_binding (read_expr d) d ts
  named_none ts x [] r h = refl
  named_none ts x (p ∷ ps) r h = absurd (omega arith)

  pub named_some : (ts : List Tok) (x : pure.ValueName) (ps : List Param) (r : List Tok) → 0 < length ps
      → named_binding (read_expr d) d ts x
      (params ps) r ≡ (bound (read_expr d) d r >>= λ v. Some (pure.AppliedBinding x (params ps) v.0.0 v.0.1 v.0.2, v.1))
  named_some ts x [] r h = absurd (omega arith)
  named_some ts x (p ∷ ps) r h = refl

  pub fun_none : (at : ℕ) (ps : List Param) (r : List Tok) → length ps ≡ 0 → fun_end (read_expr d) d at (params ps) r ≡ None
  fun_none at [] r h = refl
  fun_none at (p ∷ ps) r h = absurd (omega arith)

  pub fun_some : (at : ℕ) (ps : List Param) (r : List Tok) → 0 < length ps
      → fun_end (read_expr d) d at (params ps) r
      ≡ (expect key.Arrow r >>= λ r'. read_expr d wanted.Sequence r' >>= λ e. Some (pure.Fun at (params ps) e.0, e.1))
  fun_some at [] r h = absurd (omega arith)
  fun_some at (p ∷ ps) r h = refl

  pub types_none : (at : ℕ) (xs : List Word) (r : List Tok) → length xs ≡ 0 → types_end (read_expr d) d at (view_words xs, r) ≡ None
  types_none at [] r h = refl
  types_none at (x ∷ xs) r h = absurd (omega arith)

  pub types_some : (at : ℕ) (xs : List Word) (r : List Tok) → 0 < length xs
      → types_end (read_expr d) d at (view_words xs, r) ≡ (expect key.RightParen r >>= λ r'. Some (pure.TypesParam at (view_words xs), r'))
  types_some at [] r h = absurd (omega arith)
  types_some at (x ∷ xs) r h = refl

  pub wrapped_by : (at : ℕ) (b : Bool) (ts : List Tok)
      → wrapped_param (read_expr d) d at b ts ≡ (expect_at key.LeftParen ts >>= λ q. wrapped_label d at b q.0 q.1)
  unfolding wrapped_param
  wrapped_by at b (placed key.LeftParen at' ∷ word class.Lower x ∷ ts) = refl
  wrapped_by at b (placed key.LeftParen at' ∷ _) = refl
  wrapped_by at b _ = refl

  pub module_by : (at at' : ℕ) (ts : List Tok) → let_module (read_expr d) d at at' ts ≡ (upper_word ts >>= λ x. module_named d at at' x.0 x.1)
  unfolding let_module
  module_by at at' (word class.Upper x ∷ placed key.Equals q ∷ ts) = refl
  module_by at at' (word class.Upper x ∷ _) = refl
  module_by at at' _ = refl

pub ruleset bound_names = (named_none, named_some)

pub ruleset functions = (fun_none, fun_some)

pub ruleset types = (types_none, types_some)
