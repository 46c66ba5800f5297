-- What module expressions and items give, with more fuel, and the evaluators of all levels.
use Rattle.std.proofs.Common.{◌≤◌, ℕ, zero, suc, arith}
use Rattle.rotor_base.specs.declared.place.Place.{Place}
use Rattle.ml_trees.specs.Tree.{ModExpr, ModPath, Struct, Functor, ModApply, ModParen, Sealed, ModArgument, ModuleArgument, SealedArgument}
use Rattle.ml_trees.specs.Tree.{NoArgument, ModArguments, no_mod_argument, more_mod_argument, NamedParam, NoParam, FunctorParams, no_functor_param}
use Rattle.ml_trees.specs.Tree.{more_functor_param, MaybeType, no_type, some_type, Item, ExprItem, SeparatorItem, ValueItem, ExternalItem, TypeItem}
use Rattle.ml_trees.specs.Tree.{ExceptionItem, ModuleItem, ModuleTypeItem, OpenItem, IncludeItem, Items, no_item, more_item}
use Rattle.module_meaning.specs.Values.{ModVal, StructVal, FunctorVal, UnitaryVal, CoercedFunctor, CoercedUnitary, ForeignMod, Env}
use Rattle.module_meaning.specs.Acts.{Act, Fuel}
use Rattle.module_meaning.specs.Eval.{Evals}
use Rattle.module_meaning.specs.Modules.{add, sealed_mod, functor_mod, apply_mod, argument_mod, applied_mod, applied_mods, apply_value, eval_item}
use Rattle.module_meaning.specs.Modules.{eval_items, eval_mod, evals}
use Rattle.run_laws.proofs.Steps.{GoesOn, gives, halts, binds, pays, or_halts, none_left}
use Rattle.run_laws.proofs.Starting.{values_on}
use Rattle.run_laws.proofs.Exprs.{AllGoOn, opened_on, let_on, expr_on, while_on}

adds_on : (e : Env) → GoesOn (add e) (add e)
adds_on e = gives _

module _ (go go' : Evals) (h : AllGoOn go go') where
  sealed_on : (file : ℕ) (env : Env) (at : ℕ) (t : MaybeType) (v : ModVal) → GoesOn (sealed_mod go file env at t v) (sealed_mod go' file env at t v)
  sealed_on file env at no_type v = gives _
  sealed_on file env at (some_type t) v = or_halts _ _

  functor_on : (file : ℕ) (env : Env) (ps : FunctorParams) (at : ℕ) (t : MaybeType) (m : ModExpr)
      → GoesOn (functor_mod go file env ps at t m) (functor_mod go' file env ps at t m)
  functor_on file env no_functor_param at t m = binds (h.modu file env m) (λ v. sealed_on file env at t v)
  functor_on file env (more_functor_param (NamedParam at' X s) ps) at t m = gives _
  functor_on file env (more_functor_param (NoParam at') ps) at t m = gives _

  apply_on : (form : Place) (f a : ModVal) → GoesOn (apply_mod go form f a) (apply_mod go' form f a)
  apply_on form (StructVal env) a = halts _
  apply_on form (FunctorVal file env X k ps at t m r) a = binds (or_halts _ _) (λ b. functor_on file _ ps at t m)
  apply_on form (UnitaryVal file env ps at t m r) a = functor_on file env ps at t m
  apply_on form (CoercedFunctor k r f) a = binds (or_halts _ _) (λ b. binds (apply_on form f b) (λ c. or_halts _ _))
  apply_on form (CoercedUnitary r f) a = binds (apply_on form f a) (λ c. or_halts _ _)
  apply_on form ForeignMod a = gives _

  argument_on : (file : ℕ) (env : Env) (a : ModArgument) → GoesOn (argument_mod go file env a) (argument_mod go' file env a)
  argument_on file env (ModuleArgument at m) = h.modu file env m
  argument_on file env (SealedArgument at m t) = binds (h.modu file env m) (λ v. or_halts _ _)
  argument_on file env (NoArgument at) = gives _

  applied_on : (file : ℕ) (env : Env) (form : Place) {f g : Act ModVal} (a : ModArgument) → GoesOn f g
      → GoesOn (applied_mod go file env form f a) (applied_mod go' file env form g a)
  applied_on file env form a p = binds (argument_on file env a) (λ v. binds p (λ g. apply_on form g v))

  all_applied_on : (file : ℕ) (env : Env) (form : Place) (ms : ModArguments) (a : ModArgument) {f g : Act ModVal} → GoesOn f g
      → GoesOn (applied_mods go file env form f a ms) (applied_mods go' file env form g a ms)
  all_applied_on file env form no_mod_argument a p = applied_on file env form a p
  all_applied_on file env form (more_mod_argument b ms) a p = all_applied_on file env form ms b (pays (applied_on file env form a p))

  value_on : (file : ℕ) (env : Env) (form : Place) {f g : Act ModVal} (ms : ModArguments) → GoesOn f g
      → GoesOn (apply_value go file env form f ms) (apply_value go' file env form g ms)
  value_on file env form no_mod_argument p = p
  value_on file env form (more_mod_argument a ms) p = all_applied_on file env form ms a p

  item_on : (file : ℕ) (env : Env) (i : Item) → GoesOn (eval_item go file env i) (eval_item go' file env i)
  item_on file env (ExprItem e) = pays (binds (h.expr file env e) (λ v. adds_on _))
  item_on file env SeparatorItem = adds_on _
  item_on file env (ValueItem at rec b bs) = pays (binds (let_on go go' h file env rec b bs) (λ new. adds_on _))
  item_on file env (ExternalItem x run at texts) = pays (adds_on _)
  item_on file env (TypeItem run) = pays (adds_on _)
  item_on file env (ExceptionItem at run) = pays (adds_on _)
  item_on file env (ModuleItem at X ps t eq m) = pays (binds (functor_on file env ps at t m) (λ v. adds_on _))
  item_on file env (ModuleTypeItem at x eq t) = pays (adds_on _)
  item_on file env (OpenItem at bang path) = pays (binds (opened_on _ _) (λ new. gives _))
  item_on file env (IncludeItem at m) = pays (binds (h.modu file env m) (λ v. binds (opened_on _ v) (λ new. adds_on _)))

  pub items_on : (file : ℕ) (env : Env) (is : Items) → GoesOn (eval_items go file env is) (eval_items go' file env is)
  items_on file env no_item = gives _
  items_on file env (more_item i is) = binds (item_on file env i) (λ new. binds (items_on file _ is) (λ rest. gives _))

  mod_on : (file : ℕ) (env : Env) (m : ModExpr) → GoesOn (eval_mod go file env m) (eval_mod go' file env m)
  mod_on file env (ModPath path) = gives _
  mod_on file env (Struct at is) = binds (items_on file env is) (λ e. gives _)
  mod_on file env (Functor at ps m) = functor_on file env ps at no_type m
  mod_on file env (ModApply m ms) = value_on file env _ ms (h.modu file env m)
  mod_on file env (ModParen at m) = h.modu file env m
  mod_on file env (Sealed at m t) = binds (h.modu file env m) (λ v. sealed_on file env at (some_type t) v)

-- the evaluators of a level are ahead of those of each lower level
pub levels_on : (k m : ℕ) → k ≤ m → AllGoOn (evals k) (evals m)
levels_on zero zero l = record {
  expr = λ file env e. halts Fuel;
  modu = λ file env m. halts Fuel;
  turn = λ file env at c e. halts Fuel;
  same = λ v w. halts Fuel;
}
levels_on zero (suc m) l =
    let h : AllGoOn (evals zero) (evals m) = levels_on zero m (omega arith) in
    record {
      expr = λ file env e. none_left _ (pays (expr_on (evals zero) (evals m) h file env e)).adds;
      modu = λ file env n. none_left _ (pays (mod_on (evals zero) (evals m) h file env n)).adds;
      turn = λ file env at c e. none_left _ (while_on (evals zero) (evals m) h file env at c e).adds;
      same = λ v w. none_left _ (values_on (evals zero).same (evals m).same h.same v w).adds;
    }
levels_on (suc k) zero l = absurd (omega (arith, l))
levels_on (suc k) (suc m) l =
    let h : AllGoOn (evals k) (evals m) = levels_on k m (omega (arith, l)) in
    record {
      expr = λ file env e. pays (expr_on (evals k) (evals m) h file env e);
      modu = λ file env n. pays (mod_on (evals k) (evals m) h file env n);
      turn = λ file env at c e. while_on (evals k) (evals m) h file env at c e;
      same = λ v w. values_on (evals k).same (evals m).same h.same v w;
    }
