-- What a module is put before is no longer than its words and this.
use Rattle.std.proofs.Common.{ℕ, ◌≤◌, List, [], ◌∷◌, ◌++◌, length, Option, arith}
use Rattle.ml_trees.specs.declared.fixed.Fixed.TheVariants as key
use Rattle.ml_trees.specs.Tok.{Name, Tok, fixed, placed}
use Rattle.ml_trees.proofs.Words.{path_then, optional_then, binding_then, bindings_then, module_name_then, constraint_then, constraints_then}
use Rattle.ml_trees.proofs.Words.{withs_then, texts_then, external_then, open_item_then, mod_then, mod_argument_then, mod_arguments_then}
use Rattle.ml_trees.proofs.Words.{functor_param_then, functor_params_then, mod_type_then, signature_then, item_then, items_then, sig_item_then}
use Rattle.ml_trees.proofs.Words.{sig_items_then}
use Rattle.ml_trees.specs.Tree.{ValueName, ModuleName, UpperName, AnyName, Constraint, ConstraintOf, WithClause, WithOf, ModExpr, ModPath, Struct}
use Rattle.ml_trees.specs.Tree.{Functor, ModApply, ModParen, Sealed, ModArgument, ModuleArgument, SealedArgument, NoArgument, ModArguments}
use Rattle.ml_trees.specs.Tree.{no_mod_argument, more_mod_argument, FunctorParam, NamedParam, NoParam, FunctorParams, no_functor_param}
use Rattle.ml_trees.specs.Tree.{more_functor_param, ModType, TypePath, Sig, TypeOf, TypeParen, With, FunctorType, ParamArrow, Arrow, MaybeType}
use Rattle.ml_trees.specs.Tree.{no_type, some_type, Item, ExprItem, SeparatorItem, ValueItem, ExternalItem, TypeItem, ExceptionItem, ModuleItem}
use Rattle.ml_trees.specs.Tree.{ModuleTypeItem, OpenItem, IncludeItem, Items, no_item, more_item, SigItem, SeparatorSig, ValSig, ExternalSig}
use Rattle.ml_trees.specs.Tree.{TypeSig, ExceptionSig, ModuleSig, AliasSig, ModuleTypeSig, OpenSig, IncludeSig, SigItems, no_sig_item, more_sig_item}
use Rattle.pattern_reading.proofs.LongerPat.{path_longer, name_longer, run_longer, optional_longer}
use Rattle.expr_laws.proofs.LongerExpr.{expr_more, binding_more, bindings_more, bang_more}

pub module_name_more : (a : ModuleName) (k : List Tok) → length k ≤ length (module_name_then a k)
module_name_more (UpperName x) k = omega arith
module_name_more (AnyName at) k = omega arith

pub constraint_more : (a : Constraint) (k : List Tok) → length k ≤ length (constraint_then a k)
constraint_more (ConstraintOf a t private b) k =
    omega (arith, run_longer a (t ∷ optional_then key.Private private (b ++ k)), optional_longer key.Private private (b ++ k), run_longer b k)

pub constraints_more : (a : List Constraint) (k : List Tok) → length k ≤ length (constraints_then a k)
constraints_more [] k = omega arith
constraints_more (c ∷ cs) k = omega (arith, constraint_more c (constraints_then cs k), constraints_more cs k)

pub withs_more : (a : List WithClause) (k : List Tok) → length k ≤ length (withs_then a k)
withs_more [] k = omega arith
withs_more (WithOf c cs ∷ ws) k =
    omega (arith, constraint_more c (constraints_then cs (withs_then ws k)), constraints_more cs (withs_then ws k), withs_more ws k)

pub texts_more : (a : List Name) (k : List Tok) → length k ≤ length (texts_then a k)
texts_more [] k = omega arith
texts_more (x ∷ xs) k = omega (arith, texts_more xs k)

pub external_more : (a : ValueName) (b : List Tok) (c : ℕ) (d : List Name) (k : List Tok) → length k ≤ length (external_then a b c d k)
external_more x run at texts k =
    omega (
      arith,
      name_longer x (fixed key.Colon ∷ (run ++ (placed key.Equals at ∷ texts_then texts k))),
      run_longer run
          (placed key.Equals at ∷ texts_then texts k),
      texts_more texts k,
    )

pub open_item_more : (a : ℕ) (b : Option Name) (c : List Name) (k : List Tok) → length k ≤ length (open_item_then a b c k)
open_item_more at bang path k = omega (arith, bang_more bang (path_then path k), path_longer path k)

mutual
  pub mod_more : (a : ModExpr) (k : List Tok) → length k ≤ length (mod_then a k)
  mod_more (ModPath path) k = omega (arith, path_longer path k)
  mod_more (Struct at is) k = omega (arith, items_more is (fixed key.End ∷ k))
  mod_more (Functor at ps m) k = omega (arith, functor_params_more ps (fixed key.Arrow ∷ mod_then m k), mod_more m k)
  mod_more (ModApply m ms) k = omega (arith, mod_more m (mod_arguments_then ms k), mod_arguments_more ms k)
  mod_more (ModParen at m) k = omega (arith, mod_more m (fixed key.RightParen ∷ k))
  mod_more (Sealed at m s) k =
      omega (arith, mod_more m (fixed key.Colon ∷ mod_type_then s (fixed key.RightParen ∷ k)), mod_type_more s (fixed key.RightParen ∷ k))

  pub mod_argument_more : (a : ModArgument) (k : List Tok) → length k ≤ length (mod_argument_then a k)
  mod_argument_more (ModuleArgument at m) k = omega (arith, mod_more m (fixed key.RightParen ∷ k))
  mod_argument_more (SealedArgument at m s) k =
      omega (arith, mod_more m (fixed key.Colon ∷ mod_type_then s (fixed key.RightParen ∷ k)), mod_type_more s (fixed key.RightParen ∷ k))
  mod_argument_more (NoArgument at) k = omega arith

  pub mod_arguments_more : (a : ModArguments) (k : List Tok) → length k ≤ length (mod_arguments_then a k)
  mod_arguments_more no_mod_argument k = omega arith
  mod_arguments_more (more_mod_argument m ms) k = omega (arith, mod_argument_more m (mod_arguments_then ms k), mod_arguments_more ms k)

  pub functor_param_more : (a : FunctorParam) (k : List Tok) → length k ≤ length (functor_param_then a k)
  functor_param_more (NamedParam at x s) k =
      omega (arith, module_name_more x (fixed key.Colon ∷ mod_type_then s (fixed key.RightParen ∷ k)), mod_type_more s (fixed key.RightParen ∷ k))
  functor_param_more (NoParam at) k = omega arith

  pub functor_params_more : (a : FunctorParams) (k : List Tok) → length k ≤ length (functor_params_then a k)
  functor_params_more no_functor_param k = omega arith
  functor_params_more (more_functor_param p ps) k = omega (arith, functor_param_more p (functor_params_then ps k), functor_params_more ps k)

  pub mod_type_more : (a : ModType) (k : List Tok) → length k ≤ length (mod_type_then a k)
  mod_type_more (TypePath path) k = omega (arith, path_longer path k)
  mod_type_more (Sig at is) k = omega (arith, sig_items_more is (fixed key.End ∷ k))
  mod_type_more (TypeOf at m) k = omega (arith, mod_more m k)
  mod_type_more (TypeParen at s) k = omega (arith, mod_type_more s (fixed key.RightParen ∷ k))
  mod_type_more (With s ws) k = omega (arith, mod_type_more s (withs_then ws k), withs_more ws k)
  mod_type_more (FunctorType at ps s) k = omega (arith, functor_params_more ps (fixed key.Arrow ∷ mod_type_then s k), mod_type_more s k)
  mod_type_more (ParamArrow p s) k = omega (arith, functor_param_more p (fixed key.Arrow ∷ mod_type_then s k), mod_type_more s k)
  mod_type_more (Arrow s s') k = omega (arith, mod_type_more s (fixed key.Arrow ∷ mod_type_then s' k), mod_type_more s' k)

  pub signature_more : (a : MaybeType) (k : List Tok) → length k ≤ length (signature_then a k)
  signature_more no_type k = omega arith
  signature_more (some_type s) k = omega (arith, mod_type_more s k)

  pub item_more : (a : Item) (k : List Tok) → length k ≤ length (item_then a k)
  item_more (ExprItem e) k = omega (arith, expr_more e k)
  item_more SeparatorItem k = omega arith
  item_more (ValueItem at rec b bs) k =
      omega (arith, optional_longer key.Rec rec (binding_then b (bindings_then bs k)), binding_more b (bindings_then bs k), bindings_more bs k)
  item_more (ExternalItem x run at texts) k = omega (arith, external_more x run at texts k)
  item_more (TypeItem run) k = omega (arith, run_longer run k)
  item_more (ExceptionItem at run) k = omega (arith, run_longer run k)
  item_more (ModuleItem at x ps s eq m) k =
      omega (
        arith,
        module_name_more x (functor_params_then ps (signature_then s (placed key.Equals eq ∷ mod_then m k))),
        functor_params_more ps
            (signature_then s (placed key.Equals eq ∷ mod_then m k)),
        signature_more s (placed key.Equals eq ∷ mod_then m k),
        mod_more m k,
      )
  item_more (ModuleTypeItem at x eq s) k = omega (arith, mod_type_more s k)
  item_more (OpenItem at bang path) k = omega (arith, open_item_more at bang path k)
  item_more (IncludeItem at m) k = omega (arith, mod_more m k)

  pub items_more : (a : Items) (k : List Tok) → length k ≤ length (items_then a k)
  items_more no_item k = omega arith
  items_more (more_item i is) k = omega (arith, item_more i (items_then is k), items_more is k)

  pub sig_item_more : (a : SigItem) (k : List Tok) → length k ≤ length (sig_item_then a k)
  sig_item_more SeparatorSig k = omega arith
  sig_item_more (ValSig x run) k = omega (arith, name_longer x (fixed key.Colon ∷ (run ++ k)), run_longer run k)
  sig_item_more (ExternalSig x run at texts) k = omega (arith, external_more x run at texts k)
  sig_item_more (TypeSig run) k = omega (arith, run_longer run k)
  sig_item_more (ExceptionSig at run) k = omega (arith, run_longer run k)
  sig_item_more (ModuleSig at x ps s) k =
      omega (
        arith,
        module_name_more x (functor_params_then ps (fixed key.Colon ∷ mod_type_then s k)),
        functor_params_more ps
            (fixed key.Colon ∷ mod_type_then s k),
        mod_type_more s k,
      )
  sig_item_more (AliasSig at x eq path) k = omega (arith, path_longer path k)
  sig_item_more (ModuleTypeSig at x eq s) k = omega (arith, mod_type_more s k)
  sig_item_more (OpenSig at bang path) k = omega (arith, open_item_more at bang path k)
  sig_item_more (IncludeSig at s) k = omega (arith, mod_type_more s k)

  pub sig_items_more : (a : SigItems) (k : List Tok) → length k ≤ length (sig_items_then a k)
  sig_items_more no_sig_item k = omega arith
  sig_items_more (more_sig_item i is) k = omega (arith, sig_item_more i (sig_items_then is k), sig_items_more is k)
