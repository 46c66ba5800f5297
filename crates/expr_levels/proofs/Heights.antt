-- Comparing heights with levels.
use Rattle.std.proofs.Common.{◌≡◌, ℕ, suc, ◌-◌, max, Bool, true, false, ◌&&◌, Option, Some, None, nat_le, nat_lt, refl, ap, ◌∙◌, arith}
use Rattle.std.proofs.lemmas.Bool.Decides.{nat_tests}
use Rattle.ml_trees.specs.declared.expression.LocalModule.{LocalModule}
use Rattle.ml_trees.specs.declared.expression.LocalArgument.TheVariants as l_v
use Rattle.ml_trees.specs.Tree as pure
use Rattle.std.specs.Global.{Box}
use Rattle.ml_trees.specs.declared.expression.Expr.{Expr}
use Rattle.ml_trees.specs.View.{view_path, view_local, view_local_then, maybe, otherwise}
use Rattle.expr_levels.specs.Height.{maybe_height, tail_height}
use Rattle.ml_trees.proofs.Views.{locals_of}

pub within_most : (a b k : ℕ) → nat_le (max a b) k ≡ (nat_le a k && nat_le b k)
within_most a b k = grind (arith, nat_tests)

pub within_next : (a k : ℕ) → nat_le (suc a) k ≡ (nat_lt 0 k && nat_le a (k - 1))
within_next a k = grind (arith, nat_tests)

pub within_none : (k : ℕ) → nat_le 0 k ≡ true
within_none k = grind (arith, nat_tests)

pub ruleset within = (within_most, within_none)

-- the highest of three, of which the first fits

pub second_fails : (a b c k : ℕ) → nat_le a k ≡ true → nat_le b k ≡ false → false ≡ nat_le (max (max a b) c) k
second_fails a b c k first second = grind (arith, nat_tests, first, second)

pub third_decides : (a b c k : ℕ) (x : Bool) → nat_le a k ≡ true → nat_le b k ≡ true → x ≡ nat_le c k → x ≡ nat_le (max (max a b) c) k
third_decides a b c k x first second third = third ∙ grind (arith, nat_tests, first, second)

-- ---- an argument of a local module, and then others

pub at_module : (at : ℕ) (m : LocalModule) (k : pure.LocalArguments) → view_local_then (l_v.Module at m) k ≡ pure.more_local at (view_local m) k
unfolding view_local_then
at_module at m k = ap (λ ms. pure.more_local at (pure.LocalPath (view_path m.path) ms) k) (locals_of m.arguments)

pub at_nothing : (at : ℕ) (k : pure.LocalArguments) → view_local_then (l_v.Nothing at) k ≡ pure.no_module at k
unfolding view_local_then
at_nothing at k = refl

pub ruleset argument_views = (at_module, at_nothing)

-- ---- the last branch of an `if`

pub otherwise_height : (e : Option (Box Expr)) → maybe_height (maybe e) ≡ tail_height (otherwise e)
otherwise_height None = refl
otherwise_height (Some e) = refl
