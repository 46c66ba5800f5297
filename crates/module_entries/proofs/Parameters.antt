-- Functors from the shapes of their parameters, and sealed modules.
use Rattle.std.proofs.Common.{◌≡◌, ℕ, List, [], ◌∷◌, ◌++◌, Option, refl, ap, ◌∙◌}
use Rattle.ml_trees.specs.Tree.{FunctorParam, NamedParam, NoParam, FunctorParams, no_functor_param, more_functor_param, MaybeType, no_type}
use Rattle.ml_trees.specs.Tree.{some_type, ModuleName, ModExpr, ModuleItem}
use Rattle.shape_core.specs.Shape.{Shape, Entries, ◌⊕◌}
use Rattle.binding_model.specs.Scopes.{here, named, param_in, params_in, from_param, from_params, mod_shape, sealed_shape, adds}
use Rattle.binding_model.specs.Steps.{Steps, WeighedSite}
use Rattle.binding_model.specs.Taken.{Taken, taken}
use Rattle.binding_model.specs.Walk.{functor_steps, mod_steps, sealing_steps, item_steps}
use Rattle.module_entries.specs.Given.{given_shape, given_shapes, functor_to, functors_to, given_in, optional_shape, optional_type_steps, seal_steps}
use Rattle.module_entries.specs.Given.{seal_shape, site_steps}

pub in_given : (file : ℕ) (sc : Entries) (p : FunctorParam) → given_in p (given_shape file sc p) ≡ param_in file sc p
in_given file sc (NamedParam at x s) = refl
in_given file sc (NoParam at) = refl

pub from_given : (file : ℕ) (sc : Entries) (p : FunctorParam) (r : Shape) → from_param file sc p r ≡ functor_to (given_shape file sc p) r
from_given file sc (NamedParam at x s) r = refl
from_given file sc (NoParam at) r = refl

pub from_all_given : (file : ℕ) (sc : Entries) (ps : FunctorParams) (r : Shape) → from_params file sc ps r ≡ functors_to (given_shapes file sc ps) r
from_all_given file sc no_functor_param r = refl
from_all_given file sc (more_functor_param p ps) r =
    from_given file sc p (from_params file (sc ⊕ param_in file sc p) ps r)
    ∙ ap (functor_to (given_shape file sc p)) (from_all_given file (sc ⊕ param_in file sc p) ps r)

pub ruleset given_so = (in_given, from_given, from_all_given)

pub functors_last : (os : List (Option Shape)) (o : Option Shape) (r : Shape) → functors_to (os ++ o ∷ []) r ≡ functors_to os (functor_to o r)
functors_last [] o r = refl
functors_last (p ∷ os) o r = ap (functor_to p) (functors_last os o r)

pub sealing : (t : Taken) (file : ℕ) (sc : Entries) (s : MaybeType) (body : Steps) (shape : Shape)
    → taken t (sealing_steps file sc s body shape) ≡ taken (taken (taken t (optional_type_steps file sc s)) body)
    (seal_steps shape (optional_shape file sc s))
sealing t file sc no_type body shape = refl
sealing t file sc (some_type s) body shape = refl

pub sealed : (file : ℕ) (sc : Entries) (s : MaybeType) (body : Shape) → sealed_shape file sc s body ≡ seal_shape body (optional_shape file sc s)
sealed file sc no_type body = refl
sealed file sc (some_type s) body = refl

pub ruleset sealing_so = (sealing, sealed)

-- the steps of a module item, one after another
pub module_item : (t : Taken) (file at : ℕ) (sc : Entries) (x : ModuleName) (ps : FunctorParams) (s : MaybeType) (eq : ℕ) (m : ModExpr)
    → taken t (item_steps file sc (ModuleItem at x ps s eq m))
    ≡ taken (taken (taken (taken t (functor_steps file sc ps)) (optional_type_steps file (sc ⊕ params_in file sc ps) s))
    (mod_steps file (sc ⊕ params_in file sc ps) m))
    (site_steps (here file at) (given_shapes file sc ps) (mod_shape file (sc ⊕ params_in file sc ps) m)
    (optional_shape file (sc ⊕ params_in file sc ps) s))
module_item t file at sc x ps s eq m =
    let P = sc ⊕ params_in file sc ps in
    let M = mod_shape file P m in
    let weighs = ap (WeighedSite (here file at))
    (ap (from_params file sc ps) (sealed file P s M) ∙ from_all_given file sc ps (seal_shape M (optional_shape file P s))) in
    ap (λ k. taken (taken (taken t (functor_steps file sc ps)) (sealing_steps file P s (mod_steps file P m) M)) k) weighs
    ∙ ap (λ k. taken k (WeighedSite (here file at) (functors_to (given_shapes file sc ps) (seal_shape M (optional_shape file P s)))))
    (sealing (taken t (functor_steps file sc ps)) file P s (mod_steps file P m) M)

pub module_added : (file at : ℕ) (sc : Entries) (x : ModuleName) (ps : FunctorParams) (s : MaybeType) (eq : ℕ) (m : ModExpr)
    → adds file sc (ModuleItem at x ps s eq m)
    ≡ named x (functors_to (given_shapes file sc ps)
    (seal_shape (mod_shape file (sc ⊕ params_in file sc ps) m) (optional_shape file (sc ⊕ params_in file sc ps) s)))
module_added file at sc x ps s eq m =
    let P = sc ⊕ params_in file sc ps in
    let M = mod_shape file P m in
    ap (named x) (ap (from_params file sc ps) (sealed file P s M) ∙ from_all_given file sc ps (seal_shape M (optional_shape file P s)))
