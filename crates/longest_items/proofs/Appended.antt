-- The words of an item and more tokens are its words, and these tokens.
use Rattle.std.proofs.Common.{◌≡◌, ℕ, List, [], ◌∷◌, ◌++◌, refl, ap, ◌∙◌}
use Rattle.rotor_base.specs.declared.token.Class.TheVariants as class
use Rattle.ml_trees.specs.declared.fixed.Fixed.TheVariants as key
use Rattle.ml_trees.specs.Tok.{Name, Tok, fixed, placed, word}
use Rattle.ml_trees.proofs.Words.{path_then, name_then, optional_then, bang_then, binding_then, bindings_then, module_name_then, constraint_then}
use Rattle.ml_trees.proofs.Words.{constraints_then, withs_then, texts_then, external_then, mod_then, mod_argument_then, mod_arguments_then}
use Rattle.ml_trees.proofs.Words.{functor_param_then, functor_params_then, mod_type_then, signature_then, item_then, items_then, sig_item_then}
use Rattle.ml_trees.proofs.Words.{sig_items_then}
use Rattle.ml_trees.specs.Tree.{ValueName, ModuleName, UpperName, AnyName, Constraint, ConstraintOf, WithClause, WithOf, ModExpr, ModPath, Struct}
use Rattle.ml_trees.specs.Tree.{Functor, ModApply, ModParen, Sealed, ModArgument, ModuleArgument, SealedArgument, NoArgument, ModArguments}
use Rattle.ml_trees.specs.Tree.{no_mod_argument, more_mod_argument, FunctorParam, NamedParam, NoParam, FunctorParams, no_functor_param}
use Rattle.ml_trees.specs.Tree.{more_functor_param, ModType, TypePath, Sig, TypeOf, TypeParen, With, FunctorType, ParamArrow, Arrow, MaybeType}
use Rattle.ml_trees.specs.Tree.{no_type, some_type, Item, ExprItem, SeparatorItem, ValueItem, ExternalItem, TypeItem, ExceptionItem, ModuleItem}
use Rattle.ml_trees.specs.Tree.{ModuleTypeItem, OpenItem, IncludeItem, Items, no_item, more_item, SigItem, SeparatorSig, ValSig, ExternalSig}
use Rattle.ml_trees.specs.Tree.{TypeSig, ExceptionSig, ModuleSig, AliasSig, ModuleTypeSig, OpenSig, IncludeSig, SigItems, no_sig_item, more_sig_item}
use Rattle.pattern_reading.proofs.LawsPat.{path_then_more, name_then_more, optional_then_more}
use Rattle.expr_laws.proofs.AppendExpr.{bang_then_more, expr_then_more, binding_then_more, bindings_then_more}

-- more tokens behind are more tokens behind the words
abbrev pub Adds : (List Tok → List Tok) → Type 0
Adds f = (j k : List Tok) → f (j ++ k) ≡ f j ++ k

-- one behind the other
both : (f g : List Tok → List Tok) → Adds f → Adds g → Adds (λ w. f (g w))
both f g a b j k = ap f (b j k) ∙ a (g j) k

cons : (t : Tok) (f : List Tok → List Tok) → Adds f → Adds (λ w. t ∷ f w)
cons t f a j k = ap (λ (w : List Tok). t ∷ w) (a j k)

run_adds : (run : List Tok) → Adds (λ w. run ++ w)
run_adds [] j k = refl
run_adds (t ∷ ts) j k = ap (λ (w : List Tok). t ∷ w) (run_adds ts j k)

one : (t : Tok) → Adds (λ w. t ∷ w)
one t j k = refl

module_name_adds : (x : ModuleName) → Adds (module_name_then x)
module_name_adds (UpperName x) j k = refl
module_name_adds (AnyName at) j k = refl

constraint_adds : (c : Constraint) → Adds (constraint_then c)
constraint_adds (ConstraintOf a t private b) =
    let last = both (optional_then key.Private private) (λ w. b ++ w) (optional_then_more key.Private private) (run_adds b) in
    cons (fixed key.Type) (λ w. a ++ (t ∷ optional_then key.Private private (b ++ w))) (both (λ w. a ++ w)
    (λ w. t ∷ optional_then key.Private private (b ++ w)) (run_adds a) (cons t (λ w. optional_then key.Private private (b ++ w)) last))

constraints_adds : (cs : List Constraint) → Adds (constraints_then cs)
constraints_adds [] j k = refl
constraints_adds (c ∷ cs) j k =
    cons (fixed key.And) (λ w. constraint_then c (constraints_then cs w))
    (both (constraint_then c) (constraints_then cs) (constraint_adds c) (constraints_adds cs)) j k

withs_adds : (ws : List WithClause) → Adds (withs_then ws)
withs_adds [] j k = refl
withs_adds (WithOf c cs ∷ ws) j k =
    let inner = both (constraints_then cs) (withs_then ws) (constraints_adds cs) (withs_adds ws) in
    cons (fixed key.With) (λ w. constraint_then c (constraints_then cs (withs_then ws w)))
    (both (constraint_then c) (λ w. constraints_then cs (withs_then ws w)) (constraint_adds c) inner) j k

texts_adds : (xs : List Name) → Adds (texts_then xs)
texts_adds [] j k = refl
texts_adds (x ∷ xs) j k = cons (word class.Text x) (texts_then xs) (texts_adds xs) j k

-- a name, a `:` and what is behind it
named_adds : (x : ValueName) (f : List Tok → List Tok) → Adds f → Adds (λ w. name_then x (fixed key.Colon ∷ f w))
named_adds x f a = both (name_then x) (λ w. fixed key.Colon ∷ f w) (name_then_more x) (cons (fixed key.Colon) f a)

external_adds : (x : ValueName) (run : List Tok) (at : ℕ) (texts : List Name) → Adds (external_then x run at texts)
external_adds x run at texts =
    let behind = both (λ w. run ++ w) (λ w. placed key.Equals at ∷ texts_then texts w) (run_adds run)
    (cons (placed key.Equals at) (texts_then texts) (texts_adds texts)) in
    cons (fixed key.External) (λ w. name_then x (fixed key.Colon ∷ (run ++ (placed key.Equals at ∷ texts_then texts w))))
    (named_adds x (λ w. run ++ (placed key.Equals at ∷ texts_then texts w)) behind)

mutual
  mod_adds : (m : ModExpr) → Adds (mod_then m)
  mod_adds (ModPath path) j k = path_then_more path j k
  mod_adds (Struct at is) j k = ap (λ (w : List Tok). placed key.Struct at ∷ w) (items_adds is (fixed key.End ∷ j) k)
  mod_adds (Functor at ps m) j k =
      ap (λ (w : List Tok). placed key.Functor at ∷ w)
      (both (functor_params_then ps) (λ w. fixed key.Arrow ∷ mod_then m w) (functor_params_adds ps)
      (λ j k. ap (λ (w : List Tok). fixed key.Arrow ∷ w) (mod_adds m j k)) j k)
  mod_adds (ModApply m ms) j k = both (mod_then m) (mod_arguments_then ms) (mod_adds m) (mod_arguments_adds ms) j k
  mod_adds (ModParen at m) j k = ap (λ (w : List Tok). placed key.LeftParen at ∷ w) (mod_adds m (fixed key.RightParen ∷ j) k)
  mod_adds (Sealed at m s) j k =
      ap (λ (w : List Tok). placed key.LeftParen at ∷ w)
      (both (mod_then m) (λ w. fixed key.Colon ∷ mod_type_then s (fixed key.RightParen ∷ w)) (mod_adds m)
      (λ j k. ap (λ (w : List Tok). fixed key.Colon ∷ w) (mod_type_adds s (fixed key.RightParen ∷ j) k)) j k)

  mod_argument_adds : (a : ModArgument) → Adds (mod_argument_then a)
  mod_argument_adds (ModuleArgument at m) j k = ap (λ (w : List Tok). placed key.LeftParen at ∷ w) (mod_adds m (fixed key.RightParen ∷ j) k)
  mod_argument_adds (SealedArgument at m s) j k =
      ap (λ (w : List Tok). placed key.LeftParen at ∷ w)
      (both (mod_then m) (λ w. fixed key.Colon ∷ mod_type_then s (fixed key.RightParen ∷ w)) (mod_adds m)
      (λ j k. ap (λ (w : List Tok). fixed key.Colon ∷ w) (mod_type_adds s (fixed key.RightParen ∷ j) k)) j k)
  mod_argument_adds (NoArgument at) j k = refl

  mod_arguments_adds : (ms : ModArguments) → Adds (mod_arguments_then ms)
  mod_arguments_adds no_mod_argument j k = refl
  mod_arguments_adds (more_mod_argument a ms) j k =
      both (mod_argument_then a) (mod_arguments_then ms) (mod_argument_adds a) (mod_arguments_adds ms) j k

  functor_param_adds : (p : FunctorParam) → Adds (functor_param_then p)
  functor_param_adds (NamedParam at x s) j k =
      ap (λ (w : List Tok). placed key.LeftParen at ∷ w)
      (both (module_name_then x) (λ w. fixed key.Colon ∷ mod_type_then s (fixed key.RightParen ∷ w)) (module_name_adds x)
      (λ j k. ap (λ (w : List Tok). fixed key.Colon ∷ w) (mod_type_adds s (fixed key.RightParen ∷ j) k)) j k)
  functor_param_adds (NoParam at) j k = refl

  functor_params_adds : (ps : FunctorParams) → Adds (functor_params_then ps)
  functor_params_adds no_functor_param j k = refl
  functor_params_adds (more_functor_param p ps) j k =
      both (functor_param_then p) (functor_params_then ps) (functor_param_adds p) (functor_params_adds ps) j k

  mod_type_adds : (s : ModType) → Adds (mod_type_then s)
  mod_type_adds (TypePath path) j k = path_then_more path j k
  mod_type_adds (Sig at is) j k = ap (λ (w : List Tok). placed key.Sig at ∷ w) (sig_items_adds is (fixed key.End ∷ j) k)
  mod_type_adds (TypeOf at m) j k = ap (λ (w : List Tok). placed key.Module at ∷ fixed key.Type ∷ fixed key.Of ∷ w) (mod_adds m j k)
  mod_type_adds (TypeParen at s) j k = ap (λ (w : List Tok). placed key.LeftParen at ∷ w) (mod_type_adds s (fixed key.RightParen ∷ j) k)
  mod_type_adds (With s ws) j k = both (mod_type_then s) (withs_then ws) (mod_type_adds s) (withs_adds ws) j k
  mod_type_adds (FunctorType at ps s) j k =
      ap (λ (w : List Tok). placed key.Functor at ∷ w)
      (both (functor_params_then ps) (λ w. fixed key.Arrow ∷ mod_type_then s w) (functor_params_adds ps)
      (λ j k. ap (λ (w : List Tok). fixed key.Arrow ∷ w) (mod_type_adds s j k)) j k)
  mod_type_adds (ParamArrow p s) j k =
      both (functor_param_then p) (λ w. fixed key.Arrow ∷ mod_type_then s w) (functor_param_adds p)
      (λ j k. ap (λ (w : List Tok). fixed key.Arrow ∷ w) (mod_type_adds s j k)) j k
  mod_type_adds (Arrow s s') j k =
      both (mod_type_then s) (λ w. fixed key.Arrow ∷ mod_type_then s' w) (mod_type_adds s)
      (λ j k. ap (λ (w : List Tok). fixed key.Arrow ∷ w) (mod_type_adds s' j k)) j k

  signature_adds : (s : MaybeType) → Adds (signature_then s)
  signature_adds no_type j k = refl
  signature_adds (some_type s) j k = ap (λ (w : List Tok). fixed key.Colon ∷ w) (mod_type_adds s j k)

  pub item_adds : (i : Item) → Adds (item_then i)
  item_adds (ExprItem e) j k = expr_then_more e j k
  item_adds SeparatorItem j k = refl
  item_adds (ValueItem at recursive b bs) j k =
      ap (λ (w : List Tok). placed key.Let at ∷ w)
      (both (optional_then key.Rec recursive) (λ w. binding_then b (bindings_then bs w)) (optional_then_more key.Rec recursive)
      (both (binding_then b) (bindings_then bs) (binding_then_more b) (bindings_then_more bs)) j k)
  item_adds (ExternalItem x run at texts) j k = external_adds x run at texts j k
  item_adds (TypeItem run) j k = ap (λ (w : List Tok). fixed key.Type ∷ w) (run_adds run j k)
  item_adds (ExceptionItem at run) j k = ap (λ (w : List Tok). placed key.Exception at ∷ w) (run_adds run j k)
  item_adds (ModuleItem at x ps s q m) j k =
      ap (λ (w : List Tok). placed key.Module at ∷ w)
      (both (module_name_then x) (λ w. functor_params_then ps (signature_then s (placed key.Equals q ∷ mod_then m w))) (module_name_adds x)
      (both (functor_params_then ps) (λ w. signature_then s (placed key.Equals q ∷ mod_then m w)) (functor_params_adds ps)
      (both (signature_then s) (λ w. placed key.Equals q ∷ mod_then m w) (signature_adds s)
      (λ j k. ap (λ (w : List Tok). placed key.Equals q ∷ w) (mod_adds m j k)))) j k)
  item_adds (ModuleTypeItem at x q s) j k =
      ap (λ (w : List Tok). placed key.Module at ∷ fixed key.Type ∷ word class.Upper x ∷ placed key.Equals q ∷ w) (mod_type_adds s j k)
  item_adds (OpenItem at bang path) j k =
      ap (λ (w : List Tok). placed key.Open at ∷ w) (both (bang_then bang) (path_then path) (bang_then_more bang) (path_then_more path) j k)
  item_adds (IncludeItem at m) j k = ap (λ (w : List Tok). placed key.Include at ∷ w) (mod_adds m j k)

  items_adds : (is : Items) → Adds (items_then is)
  items_adds no_item j k = refl
  items_adds (more_item i is) j k = both (item_then i) (items_then is) (item_adds i) (items_adds is) j k

  pub sig_item_adds : (i : SigItem) → Adds (sig_item_then i)
  sig_item_adds SeparatorSig j k = refl
  sig_item_adds (ValSig x run) j k = ap (λ (w : List Tok). fixed key.Val ∷ w) (named_adds x (λ w. run ++ w) (run_adds run) j k)
  sig_item_adds (ExternalSig x run at texts) j k = external_adds x run at texts j k
  sig_item_adds (TypeSig run) j k = ap (λ (w : List Tok). fixed key.Type ∷ w) (run_adds run j k)
  sig_item_adds (ExceptionSig at run) j k = ap (λ (w : List Tok). placed key.Exception at ∷ w) (run_adds run j k)
  sig_item_adds (ModuleSig at x ps s) j k =
      ap (λ (w : List Tok). placed key.Module at ∷ w)
      (both (module_name_then x) (λ w. functor_params_then ps (fixed key.Colon ∷ mod_type_then s w)) (module_name_adds x)
      (both (functor_params_then ps) (λ w. fixed key.Colon ∷ mod_type_then s w) (functor_params_adds ps)
      (λ j k. ap (λ (w : List Tok). fixed key.Colon ∷ w) (mod_type_adds s j k))) j k)
  sig_item_adds (AliasSig at x q path) j k =
      ap (λ (w : List Tok). placed key.Module at ∷ word class.Upper x ∷ placed key.Equals q ∷ w) (path_then_more path j k)
  sig_item_adds (ModuleTypeSig at x q s) j k =
      ap (λ (w : List Tok). placed key.Module at ∷ fixed key.Type ∷ word class.Upper x ∷ placed key.Equals q ∷ w) (mod_type_adds s j k)
  sig_item_adds (OpenSig at bang path) j k =
      ap (λ (w : List Tok). placed key.Open at ∷ w) (both (bang_then bang) (path_then path) (bang_then_more bang) (path_then_more path) j k)
  sig_item_adds (IncludeSig at s) j k = ap (λ (w : List Tok). placed key.Include at ∷ w) (mod_type_adds s j k)

  sig_items_adds : (is : SigItems) → Adds (sig_items_then is)
  sig_items_adds no_sig_item j k = refl
  sig_items_adds (more_sig_item i is) j k = both (sig_item_then i) (sig_items_then is) (sig_item_adds i) (sig_items_adds is) j k
