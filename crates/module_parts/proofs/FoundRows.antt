-- What a loop found, as a row.
use Rattle.std.proofs.Common.{◌≡◌, List, [], ◌∷◌, map, refl, ap}
use Rattle.ml_trees.specs.declared.module.SigItem.{SigItem}
use Rattle.ml_trees.specs.declared.module.FunctorParam.{FunctorParam}
use Rattle.ml_trees.specs.Tree as pure
use Rattle.ml_trees.specs.View.{view_sig_item, view_functor_param, sig_items, functor_params}
use Rattle.token_reading.proofs.Turns.{before}

pub params_before : (xs : List FunctorParam) → before pure.more_functor_param (map view_functor_param xs) pure.no_functor_param ≡ functor_params xs
params_before [] = refl
params_before (x ∷ xs) = ap (pure.more_functor_param (view_functor_param x)) (params_before xs)

pub sig_items_before : (xs : List SigItem) → before pure.more_sig_item (map view_sig_item xs) pure.no_sig_item ≡ sig_items xs
sig_items_before [] = refl
sig_items_before (x ∷ xs) = ap (pure.more_sig_item (view_sig_item x)) (sig_items_before xs)
