-- An expression that begins with a `let` has the `in` of it.
use Rattle.std.proofs.Common.{◌≡◌, ℕ, ◌≤◌, List, [], ◌∷◌, Bool, true, false, ◌==◌, refl, arith}
use Rattle.std.proofs.lemmas.Bool.{eqb-true}
use Rattle.ml_trees.specs.declared.fixed.Fixed.TheVariants as key
use Rattle.ml_trees.specs.declared.word.Bracket.TheVariants as bracket
use Rattle.ml_trees.specs.Tok.{Name, Tok, fixed}
use Rattle.ml_trees.proofs.Words.{path_then, bang_then, local_then, optional_then, expr_then, links_then, arguments_then, parts_then, binding_then}
use Rattle.ml_trees.proofs.Words.{bindings_then}
use Rattle.ml_trees.specs.Tree.{PlainName, OperatorName, Seq, Let, LetOpen, LetModule, Chain, Apply}
use Rattle.ml_trees.specs.Tree.{ConstrApply, Postfix, BoolExpr, Value, Constr}
use Rattle.ml_trees.specs.Tree.{EmptyList, ListExpr, Opened}
use Rattle.token_reading.specs.Matching.{open_ins, lacks_in}
use Rattle.matched_lets.specs.Laws.{LetsHaveTheirIn}
use Rattle.matched_lets.proofs.SmallParts.{optional_leaves, bang_leaves, path_leaves, local_leaves}
use Rattle.matched_lets.proofs.Leaves.{binding_leaves, bindings_leaves}

some_left : (n : ℕ) → 1 ≤ n → (n == 0) ≡ false
some_left n some = by (n == 0) refl
  where
    by : (b : Bool) → (n == 0) ≡ b → b ≡ false
    by true e = absurd (omega (arith, eqb-true n 0 e, some))
    by false e = refl

path_first : (path : List Name) (k : List Tok) → (path ≡ [] → ⊥) → lacks_in (path_then path k) ≡ false
path_first [] k some = absurd (some refl)
path_first (x ∷ xs) k some = refl

pub lets_have_their_in : LetsHaveTheirIn
lets_have_their_in (Seq e es last) k w = lets_have_their_in e (links_then es (optional_then key.Semicolon last k)) w.1
lets_have_their_in (Let at rec b bs e) k w =
    some_left (open_ins (optional_then key.Rec rec (binding_then b (bindings_then bs (fixed key.In ∷ expr_then e k))))) (omega (
      arith,
      optional_leaves key.Rec rec (binding_then b (bindings_then bs (fixed key.In ∷ expr_then e k))) refl,
      binding_leaves b (bindings_then bs (fixed key.In ∷ expr_then e k)) w.0,
      bindings_leaves bs (fixed key.In ∷ expr_then e k) w.1,
    ))
lets_have_their_in (LetOpen at at' bang path e) k w =
    some_left (open_ins (bang_then bang (path_then path (fixed key.In ∷ expr_then e k))))
    (omega (arith, bang_leaves bang (path_then path (fixed key.In ∷ expr_then e k)), path_leaves path (fixed key.In ∷ expr_then e k)))
lets_have_their_in (LetModule at at' x eq m e) k w =
    some_left (open_ins (local_then m (fixed key.In ∷ expr_then e k))) (omega (arith, local_leaves m (fixed key.In ∷ expr_then e k)))
lets_have_their_in (Chain n e es) k w = lets_have_their_in e (links_then es k) w.4
lets_have_their_in (Apply f es) k w = lets_have_their_in f (arguments_then es k) w.2
lets_have_their_in (Postfix e ps) k w = lets_have_their_in e (parts_then ps k) w.2
lets_have_their_in (ConstrApply path e) k w = path_first path (expr_then e k) w.0
lets_have_their_in (Value [] (PlainName x)) k w = refl
lets_have_their_in (Value [] (OperatorName at t)) k w = refl
lets_have_their_in (Value (y ∷ path) x) k w = refl
lets_have_their_in (Constr path) k w = path_first path k w
lets_have_their_in (Opened path e) k w = path_first path (fixed key.Dot ∷ expr_then e k) w.0
lets_have_their_in (BoolExpr at true) k w = refl
lets_have_their_in (BoolExpr at false) k w = refl
lets_have_their_in (EmptyList at bracket.List) k w = refl
lets_have_their_in (EmptyList at bracket.Array) k w = refl
lets_have_their_in (ListExpr at bracket.List e es last) k w = refl
lets_have_their_in (ListExpr at bracket.Array e es last) k w = refl
lets_have_their_in _ k w = refl
