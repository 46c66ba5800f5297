-- What is read of the words of a module and more tokens ends no earlier than they do.
use Rattle.std.proofs.Common.{◌≡◌, ◌≢◌, ℕ, zero, suc, ◌≤◌, List, [], ◌∷◌, length, true, false, None, refl, arith}
use Rattle.ml_trees.specs.declared.fixed.Fixed.TheVariants as key
use Rattle.ml_trees.specs.Tok.{Name, Tok, fixed}
use Rattle.ml_trees.proofs.Words.{path_then, mod_then, mod_argument_then, mod_arguments_then}
use Rattle.ml_trees.specs.WellFormed.{is_functor, is_simple_mod, WfMod, WfModArguments}
use Rattle.ml_trees.specs.Tree.{ModExpr, ModPath, Struct, Functor, ModApply, ModParen, Sealed, ModArgument, ModuleArgument, SealedArgument}
use Rattle.ml_trees.specs.Tree.{NoArgument, ModArguments, no_mod_argument, more_mod_argument, FunctorParams, no_functor_param, more_functor_param}
use Rattle.token_reading.specs.Steps.{many, always}
use Rattle.token_reading.specs.Pieces.{dot_upper}
use Rattle.token_reading.proofs.Reach.{many_shorter, many_on}
use Rattle.module_reading.specs.ModReading.{grown_mod, simple_mod, mod_arguments, mod_apply, mod_expr, read_mod, read_type}
use Rattle.module_laws.proofs.LongerMod.{functor_params_more}
use Rattle.module_laws.proofs.ReachMod.{simple_mod_at, mod_apply_at, mod_expr_at, mod_longer, argument_longer, params_exact, argument_at}
use Rattle.module_laws.proofs.ReachMod.{argument_read, argument_shorter, struct_read, paren_mod_read, sealed_read, mod_plain, mod_good}
use Rattle.module_laws.proofs.ReachMod.{argument_good, params_good, type_good, items_good}
use Rattle.longest_items.proofs.Passing.{Passes, pass_map, pass_as, exactly, path_pass}

module _ (f : ℕ) where
  -- ---- arguments

  arguments_pass : (ms : ModArguments) → WfModArguments ms → (r : List Tok) (n : ℕ) → length (mod_arguments_then ms r) ≤ n → n ≤ suc f
      → length (many no_mod_argument more_mod_argument always (argument_at f) n (mod_arguments_then ms r)).1 ≤ length r
  arguments_pass no_mod_argument w r n len le = many_shorter no_mod_argument more_mod_argument always (argument_at f) (argument_shorter f) n r
  arguments_pass (more_mod_argument a ms) w r zero len le = absurd (omega (arith, len, argument_longer a (mod_arguments_then ms r)))
  arguments_pass (more_mod_argument a ms) w r (suc n) len le =
      let rest : List Tok = mod_arguments_then ms r in
      let first = argument_read f a (argument_good a) w.0 rest (omega (arith, len, le)) in
      rw (many_on no_mod_argument more_mod_argument always (argument_at f) (argument_shorter f) n (mod_argument_then a rest) (a, rest) first refl)
      (arguments_pass ms w.1 r n (omega (arith, len, argument_longer a rest)) (omega (arith, le)))

  -- ---- modules

  path_mod_pass : (path : List Name) (r : List Tok) → path ≢ [] → length (path_then path r) ≤ suc f → Passes r (simple_mod_at f (path_then path r))
  unfolding simple_mod
  path_mod_pass [] r w len = absurd (w refl)
  path_mod_pass (x ∷ xs) r w len = pass_map r ModPath (path_pass f (x ∷ xs) r w len)

  simple_mod_pass : (m : ModExpr) (r : List Tok) → is_simple_mod m ≡ true → WfMod m → length (mod_then m r) ≤ suc f
      → Passes r (simple_mod_at f (mod_then m r))
  simple_mod_pass (ModPath path) r p w len = path_mod_pass path r w len
  simple_mod_pass (Struct at is) r p w len = exactly (Struct at is) (struct_read f at is r (items_good is) w len)
  simple_mod_pass (Functor at ps m) r p w len = absurd cc
  simple_mod_pass (ModApply m ms) r p w len = absurd cc
  simple_mod_pass (ModParen at m) r p w len = exactly (ModParen at m) (paren_mod_read f at m r (mod_good m) w len)
  simple_mod_pass (Sealed at m s) r p w len = exactly (Sealed at m s) (sealed_read f at m s r (mod_good m) (type_good s) w.0 w.1 len)

  applied_pass : (ts r : List Tok) → Passes r (simple_mod_at f ts) → Passes r (mod_apply_at f ts)
  unfolding mod_apply
  applied_pass ts r p =
      let more = many_shorter no_mod_argument more_mod_argument always (argument_at f) (argument_shorter f) f p.0.1 in
      let args = mod_arguments (read_mod f) (read_type f) f p.0.1 in
      rw p.1 ((grown_mod p.0.0 args.0, args.1), refl, omega (arith, more, p.2))

  apply_pass : (m : ModExpr) (ms : ModArguments) (r : List Tok) → WfMod (ModApply m ms) → length (mod_then (ModApply m ms) r) ≤ suc f
      → Passes r (mod_apply_at f (mod_then (ModApply m ms) r))
  unfolding mod_apply
  apply_pass m no_mod_argument r w len = absurd (w.2 refl)
  apply_pass m (more_mod_argument a ms) r w len =
      let rest : List Tok = mod_arguments_then (more_mod_argument a ms) r in
      let first = (mod_good m).lone w.0 w.1 f rest (no_dot a (mod_arguments_then ms r)) len in
      let args = mod_arguments (read_mod f) (read_type f) f rest in
      rw first (
        (grown_mod m args.0, args.1),
        refl,
        arguments_pass (more_mod_argument a ms) w.3 r f (omega (arith, len, mod_longer m rest w.1)) (omega arith),
      )
    where
      no_dot : (a : ModArgument) (k : List Tok) → dot_upper (mod_argument_then a k) ≡ None
      no_dot (ModuleArgument at m) k = refl
      no_dot (SealedArgument at m s) k = refl
      no_dot (NoArgument at) k = refl

  pub flat_pass : (m : ModExpr) (r : List Tok) → is_functor m ≡ false → WfMod m → length (mod_then m r) ≤ suc f
      → Passes r (mod_apply_at f (mod_then m r))
  flat_pass (Functor at ps m) r p w len = absurd cc
  flat_pass (ModApply m ms) r p w len = apply_pass m ms r w len
  flat_pass m r p w len = applied_pass (mod_then m r) r (simple_mod_pass m r refl w len)

  plain_pass : (m : ModExpr) (r : List Tok) → is_functor m ≡ false → WfMod m → length (mod_then m r) ≤ suc f
      → Passes r (mod_expr_at f (mod_then m r))
  plain_pass m r p w len = pass_as r (mod_plain f m r p w) (flat_pass m r p w len)

  functor_pass : (at : ℕ) (ps : FunctorParams) (m : ModExpr) (r : List Tok) → WfMod (Functor at ps m) → length (mod_then (Functor at ps m) r) ≤ suc f
      → Passes r (read_mod f (mod_then m r)) → Passes r (mod_expr_at f (mod_then (Functor at ps m) r))
  unfolding mod_expr
  functor_pass at no_functor_param m r w len inside = absurd (w.0 refl)
  functor_pass at (more_functor_param p ps) m r w len inside =
      let all : FunctorParams = more_functor_param p ps in
      rw (params_exact f all (params_good all) w.1 (fixed key.Arrow ∷ mod_then m r) tt (omega (arith, len))) (pass_map r (Functor at all) inside)

-- through one level
mod_level : (m : ModExpr) → WfMod m → (f : ℕ) (r : List Tok) → ((g : ℕ) → length (mod_then m r) ≤ suc g → Passes r (mod_expr_at g (mod_then m r)))
    → length (mod_then m r) ≤ f → Passes r (read_mod f (mod_then m r))
unfolding read_mod
mod_level m w zero r inner len = absurd (omega (arith, len, mod_longer m r w))
mod_level m w (suc f) r inner len = inner f len

mod_pass : (m : ModExpr) → WfMod m → (f : ℕ) (r : List Tok) → length (mod_then m r) ≤ suc f → Passes r (mod_expr_at f (mod_then m r))
mod_pass (Functor at ps m) w f r len =
    let l = functor_params_more ps (fixed key.Arrow ∷ mod_then m r) in
    functor_pass f at ps m r w len (mod_level m w.2 f r (λ g le. mod_pass m w.2 g r le) (omega (arith, len, l)))
mod_pass m w f r len = plain_pass f m r refl w len

pub read_mod_pass : (m : ModExpr) → WfMod m → (f : ℕ) (r : List Tok) → length (mod_then m r) ≤ f → Passes r (read_mod f (mod_then m r))
read_mod_pass m w f r len = mod_level m w f r (λ g le. mod_pass m w g r le) len
