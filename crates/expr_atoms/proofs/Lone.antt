-- Expressions of one kind, and what follows a `.` or a `(`.
use Rattle.std.proofs.Common.{◌≡◌, ℕ, ◌<◌, List, [], ◌∷◌, length, Bool, true, false, cond, Option, Some, None, refl, sym, ap, ◌∙◌, arith}
use Rattle.std.specs.Str.{bytes_eq}
use Rattle.std.specs.Prelude.{codes}
use Rattle.std.specs.Global.{Vec}
use Rattle.rotor_base.specs.declared.token.Class.TheVariants as class
use Rattle.ml_trees.specs.declared.word.Word.{Word}
use Rattle.ml_trees.specs.declared.word.Path.{Path}
use Rattle.ml_trees.specs.declared.word.ValueName.{ValueName}
use Rattle.ml_trees.specs.declared.expression.Expr.{Expr}
use Rattle.ml_trees.specs.declared.expression.Expr.TheVariants as v
use Rattle.ml_trees.specs.declared.expression.Argument.TheBlock as t
use Rattle.ml_trees.specs.declared.fixed.Fixed.TheVariants as key
use Rattle.ml_trees.specs.Tok.{Name, Tok, fixed, placed, word}
use Rattle.ml_trees.specs.Tree as pure
use Rattle.ml_trees.specs.View.{view, view_words}
use Rattle.ml_trees.specs.WellFormed.{is_bare, is_bracketed, is_operator, op_level, infix_level, begins_among, begins_power}
use Rattle.token_reading.specs.Steps.{Read, ◌>>=◌, expect}
use Rattle.token_reading.specs.Pieces.{operator_at}
use Rattle.token_reading.specs.Gives.{starts}
use Rattle.token_reading.proofs.Stepping.{from_some}
use Rattle.expr_reading.specs.declared.wanted.Wanted.TheVariants as wanted
use Rattle.expr_reading.specs.ExprReading.{closed_by, paren_expr, constr_applied, qualified, part_behind, read_expr}
use Rattle.expr_reading.specs.declared.wanted.Wanted.{Wanted}
use Rattle.expr_atoms.specs.Parts.{part_after}
use Rattle.expr_parts.specs.Rows.{given}

-- what is neither a constructor nor a tag takes no argument
pub given_other : (e : Expr) (a : pure.Expr) → ((x : Path) → e ≡ v.Constr x → ⊥) → ((x : Word) → e ≡ v.Tag x → ⊥) → given (view e) a ≡ view e
unfolding view
given_other (t.Constr path) a h k = absurd (h path refl)
given_other (t.Tag w) a h k = absurd (k w refl)
given_other _ a h k = refl

pub constr_none : (f : pure.Expr) (ts : List Tok) → constr_applied f ts None ≡ (f, ts)
constr_none (pure.Constr path) ts = refl
constr_none (pure.Tag x) ts = refl
constr_none _ ts = refl

pub constr_some : (f : pure.Expr) (ts : List Tok) (x : pure.Expr × List Tok) → is_bare f ≡ true → constr_applied f ts (Some x) ≡ (given f x.0, x.1)
constr_some (pure.Constr path) ts x h = refl
constr_some (pure.Tag y) ts x h = refl
constr_some _ ts x h = absurd cc

pub ruleset constructors = (constr_none, constr_some)

-- ---- behind a module path and a `.`

module _ (path : List Name) (r : List Tok) where
  pub plain_value : (ns : List Word) (x : pure.ValueName) → length ns ≡ 0
      → qualified path (pure.Value (view_words ns) x) r ≡ Some (pure.Value path x, r)
  plain_value [] x h = refl
  plain_value (n ∷ ns) x h = absurd (omega arith)

  pub named_value : (ns : List Word) (x : pure.ValueName) → 0 < length ns → qualified path (pure.Value (view_words ns) x) r ≡ None
  named_value [] x h = absurd (omega arith)
  named_value (n ∷ ns) x h = refl

  pub brackets_some : (e : Expr) → is_bracketed (view e) ≡ true → qualified path (view e) r ≡ Some (pure.Opened path (view e), r)
  unfolding view
  brackets_some (t.Unit at) h = refl
  brackets_some (t.Paren' at _ e) h = refl
  brackets_some (t.Empty at b) h = refl
  brackets_some (t.List' at b _ e _ es last) h = refl
  brackets_some (t.Record' at base _ f _ fs last) h = refl
  brackets_some _ h = absurd cc

  pub brackets_none : (e : Expr) → ((ns : Vec Word) (x : ValueName) → e ≡ v.Value ns x → ⊥) → is_bracketed (view e) ≡ false
      → qualified path (view e) r ≡ None
  unfolding view
  brackets_none (t.Value ns x) k h = absurd (k ns x refl)
  brackets_none (t.Unit at) k h = absurd cc
  brackets_none (t.Paren' at _ e) k h = absurd cc
  brackets_none (t.Empty at b) k h = absurd cc
  brackets_none (t.List' at b _ e _ es last) k h = absurd cc
  brackets_none (t.Record' at base _ f _ fs last) k h = absurd cc
  brackets_none _ k h = refl

pub ruleset qualifications = (plain_value, named_value, brackets_some, brackets_none)

-- ---- behind a `.`

pub part_by : (d : ℕ) (ts : List Tok) → part_behind (read_expr d) d ts ≡ (expect key.Dot ts >>= part_after d)
unfolding part_behind
part_by d (fixed key.Dot ∷ placed key.LeftParen at ∷ ts) = refl
part_by d (fixed key.Dot ∷ placed key.LeftBracket at ∷ ts) = refl
part_by d (fixed key.Dot ∷ _) = refl
part_by d _ = refl

-- ---- what follows a `(`

operator_by : (at : ℕ) (k : Tok) (ts : List Tok) (x : pure.ValueName × List Tok) (b : Bool) → is_operator k ≡ b
    → ◌≡◌ {A = Option (pure.ValueName × List Tok)} (cond b (Some (pure.OperatorName at k, ts)) None) (Some x)
    → (u : Tok) × (k ∷ fixed key.RightParen ∷ ts ≡ u ∷ fixed key.RightParen ∷ x.1) × (is_operator u ≡ true) × (x.0 ≡ pure.OperatorName at u)
operator_by at k ts x true h e =
    from_some (λ (y : pure.ValueName × List Tok). (u : Tok) × (k ∷ fixed key.RightParen ∷ ts ≡ u ∷ fixed key.RightParen ∷ y.1)
    × (is_operator u ≡ true) × (y.0 ≡ pure.OperatorName at u)) e (k, refl, h, refl)
operator_by at k ts x false h e = absurd cc

operator_ok : (at : ℕ) (ts : List Tok) (x : pure.ValueName × List Tok) → operator_at at ts ≡ Some x
    → (k : Tok) × (ts ≡ k ∷ fixed key.RightParen ∷ x.1) × (is_operator k ≡ true) × (x.0 ≡ pure.OperatorName at k)
operator_ok at (k ∷ fixed key.RightParen ∷ ts) x e = operator_by at k ts x (is_operator k) refl e
operator_ok at _ x e = absurd cc

module _ (sub : Wanted → Read pure.Expr) (n at : ℕ) where
  paren_closed : (k : Tok) (r : List Tok) → is_operator k ≡ true → paren_expr sub n at (k ∷ fixed key.RightParen ∷ r) ≡ Some
      (pure.Value [] (pure.OperatorName at k), r)
  unfolding paren_expr
  paren_closed (fixed j) r h = absurd cc
  paren_closed (placed j p) r h = rw h refl
  paren_closed (word c x) r h = rw h refl

  pub paren_operator : (ts : List Tok) (x : pure.ValueName) (r : List Tok) → operator_at at ts ≡ Some (x, r)
      → paren_expr sub n at ts ≡ Some (pure.Value [] x, r)
  paren_operator ts x r e =
      let o = operator_ok at ts (x, r) e in
      ap (paren_expr sub n at) o.1 ∙ paren_closed o.0 r o.2 ∙ ap (λ (y : pure.ValueName). Some (pure.Value [] y, r)) (sym o.3)

  pub paren_other : (ts : List Tok) → starts key.RightParen ts ≡ false → operator_at at ts ≡ None
      → paren_expr sub n at ts ≡ (sub wanted.Sequence ts >>= λ e. closed_by at e.0 e.1)
  unfolding paren_expr
  paren_other (fixed key.RightParen ∷ ts) h e = absurd cc
  paren_other (k ∷ fixed key.RightParen ∷ ts) h e = chosen (is_operator k) e
    where
      chosen : (b : Bool) → cond {A = Option (pure.ValueName × List Tok)} b (Some (pure.OperatorName at k, ts)) None ≡ None
          → cond {A = Option (pure.Expr × List Tok)} b (Some (pure.Value [] (pure.OperatorName at k), ts))
          (sub wanted.Sequence (k ∷ fixed key.RightParen ∷ ts) >>= λ p. closed_by at p.0 p.1)
          ≡ (sub wanted.Sequence (k ∷ fixed key.RightParen ∷ ts) >>= λ p. closed_by at p.0 p.1)
      chosen true h = absurd cc
      chosen false h = refl
  paren_other _ h e = refl
