-- The steps of an `if`, branch by branch, and of expressions between commas.
use Rattle.std.proofs.Common.{◌≡◌, ℕ, Option, Some, None, List, [], ◌∷◌, refl, ap}
use Rattle.std.specs.Global.{Box}
use Rattle.ml_trees.specs.Tree as pure
use Rattle.ml_trees.specs.declared.expression.Branch.{Branch}
use Rattle.ml_trees.specs.declared.expression.Expr.{Expr}
use Rattle.ml_trees.specs.View.{view, maybe, otherwise, tail, links, commas}
use Rattle.shape_core.specs.Shape.{Entries}
use Rattle.binding_model.specs.Steps.{◌⨾◌}
use Rattle.binding_model.specs.Taken.{Taken, taken}
use Rattle.binding_model.specs.Walk.{expr_steps, tail_steps, maybe_steps, links_steps}
use Rattle.expr_resolve.specs.Branches.{branches_steps}

other_steps : (t : Taken) (file : ℕ) (sc : Entries) (o : Option (Box Expr))
    → taken t (tail_steps file sc (otherwise o)) ≡ taken t (maybe_steps file sc (maybe o))
other_steps t file sc None = refl
other_steps t file sc (Some e) = refl

tail_so : (t : Taken) (file : ℕ) (sc : Entries) (bs : List Branch) (o : Option (Box Expr))
    → taken t (tail_steps file sc (tail bs o)) ≡ taken (taken t (branches_steps file sc bs)) (maybe_steps file sc (maybe o))
tail_so t file sc [] o = other_steps t file sc o
tail_so t file sc (b ∷ bs) o = tail_so (taken (taken t (expr_steps file sc (view b.test))) (expr_steps file sc (view b.then))) file sc bs o

pub if_steps : (t : Taken) (file at : ℕ) (sc : Entries) (c a : Expr) (bs : List Branch) (o : Option (Box Expr))
    → taken t (expr_steps file sc (pure.If at (view c) (view a) (tail bs o)))
    ≡ taken (taken (taken t (expr_steps file sc (view c) ⨾ expr_steps file sc (view a))) (branches_steps file sc bs)) (maybe_steps file sc (maybe o))
if_steps t file at sc c a bs o = tail_so (taken (taken t (expr_steps file sc (view c))) (expr_steps file sc (view a))) file sc bs o

pub commas_so : (file : ℕ) (sc : Entries) (es : List Expr) → links_steps file sc (commas es) ≡ links_steps file sc (links es)
commas_so file sc [] = refl
commas_so file sc (e ∷ es) = ap (λ s. links_steps file sc (pure.no_link) ⨾ expr_steps file sc (view e) ⨾ s) (commas_so file sc es)
