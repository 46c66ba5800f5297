-- Resolving a tree in two scopes that are alike gives steps that are alike, for each likeness of scopes and of shapes
-- that the rules of names keep. In the second scope the file of the tree may have another number.
use Rattle.std.proofs.Common.{ℕ, ◌-◌, suc, List, [], ◌∷◌, Bool, true, false, Option, Some, None}
use Rattle.rotor_base.specs.declared.place.Place.{Place}
use Rattle.ml_trees.specs.Tok.{Name as Word}
use Rattle.value_sites.specs.Places.{Site, punned, operated, operator_sites, name_sites, label_site}
use Rattle.ml_trees.specs.Tree.{ValueName, Pat, AsPat, OrPat, TuplePat, ConsPat, ConstrApplyPat, TagApplyPat, LazyPat, ExceptionPat, AnyPat}
use Rattle.ml_trees.specs.Tree.{ValuePat, LiteralPat, NegativePat, RangePat, ConstrPat, TagPat, BoolPat, UnitPat, ParenPat, TypedPat, EmptyPat}
use Rattle.ml_trees.specs.Tree.{ListPat, RecordPat, OpenedPat, Pats, no_pat, more_pat, PatField, PunnedField, MatchedField, PatFields, no_pat_field}
use Rattle.ml_trees.specs.Tree.{more_pat_field, LocalModule, LocalPath, LocalArguments, no_local, more_local, no_module, Expr, Seq, Let, LetOpen}
use Rattle.ml_trees.specs.Tree.{LetModule, Fun, Function, Match, Try, If, Chain, Minus, Apply, ConstrApply, TagApply, Assert, Lazy, Postfix}
use Rattle.ml_trees.specs.Tree.{Prefixed, Literal, BoolExpr, Value, Constr, Tag, UnitExpr, Paren, Typed, Coerced, EmptyBegin, Begin, EmptyList}
use Rattle.ml_trees.specs.Tree.{ListExpr, Record, Opened, While, For, Links, no_link, more_link, MaybeExpr, no_expr, some_expr, Tail, no_else}
use Rattle.ml_trees.specs.Tree.{or_else, or_if, Binding, PlainBinding, AppliedBinding, Bindings, no_binding, more_binding, Case, CaseOf, Cases}
use Rattle.ml_trees.specs.Tree.{no_case, more_case, Argument, Positional, LabelPun, Labelled, Arguments, no_argument, more_argument, Param}
use Rattle.ml_trees.specs.Tree.{PatternParam, LabelParam, LabelPattern, DefaultParam, WrappedParam, WrappedDefault, TypesParam, Params, no_param}
use Rattle.ml_trees.specs.Tree.{more_param, Part, LabelPart, IndexPart, CharPart, Parts, no_part, more_part, Field, FieldPun, AssignedField, Fields}
use Rattle.ml_trees.specs.Tree.{no_field, more_field, ModuleName, UpperName, AnyName, ModExpr, ModPath, Struct, Functor, ModApply, ModParen, Sealed}
use Rattle.ml_trees.specs.Tree.{ModArgument, ModuleArgument, SealedArgument, NoArgument, ModArguments, no_mod_argument, more_mod_argument}
use Rattle.ml_trees.specs.Tree.{FunctorParam, NamedParam, NoParam, FunctorParams, no_functor_param, more_functor_param, ModType, TypePath, Sig}
use Rattle.ml_trees.specs.Tree.{TypeOf, TypeParen, With, FunctorType, ParamArrow, Arrow, MaybeType, no_type, some_type, Item, ExprItem}
use Rattle.ml_trees.specs.Tree.{SeparatorItem, ValueItem, ExternalItem, TypeItem, ExceptionItem, ModuleItem, ModuleTypeItem, OpenItem, IncludeItem}
use Rattle.ml_trees.specs.Tree.{Items, no_item, more_item, SigItem, SeparatorSig, ValSig, ExternalSig, TypeSig, ExceptionSig, ModuleSig, AliasSig}
use Rattle.ml_trees.specs.Tree.{ModuleTypeSig, OpenSig, IncludeSig, SigItems, no_sig_item, more_sig_item, FileTree, Body, Face, UnitTree}
use Rattle.shape_core.specs.Shape.{Shape, Struct as Structure, Functor as FunctorShape, Unitary, Opaque, Entries, none, a_mod, a_mty, ◌⊕◌, brought}
use Rattle.binding_model.specs.Variables.{variables, param_variables, for_variables, binding_variables, bindings_variables}
use Rattle.binding_model.specs.Scopes.{texts, path_shape, type_under, applied, local_applied, local_shape, applied_all, named, here, bound, let_bound}
use Rattle.binding_model.specs.Scopes.{let_scope, params_bound, opens, sig_opens, mod_shape, sealed_shape, param_in, from_param, params_in}
use Rattle.binding_model.specs.Scopes.{from_params}
use Rattle.binding_model.specs.Scopes.{adds, entries, type_shape, sig_adds, sig_entries, file_shape, parts_shape, unit_shape, after_unit}
use Rattle.binding_model.specs.Steps.{Steps, quiet, ◌⨾◌, UseAlone, UseUnder, MatchOf, PinOf, TieOf, GroupOf, WeighedSite, OpenedSite, UnitStart}
use Rattle.binding_model.specs.Walk.{path_start, type_start, name_at, apply_steps, local_steps, locals_steps, uses, uses_under, value_steps}
use Rattle.binding_model.specs.Walk.{pat_steps}
use Rattle.binding_model.specs.Walk.{ties, pats_steps, field_pat_steps, fields_pat_steps, expr_steps, links_steps, maybe_steps, tail_steps}
use Rattle.binding_model.specs.Walk.{binding_steps, bindings_steps, case_steps, cases_steps, argument_steps, arguments_steps, param_steps}
use Rattle.binding_model.specs.Walk.{params_steps}
use Rattle.binding_model.specs.Walk.{part_steps, parts_steps, field_steps, fields_steps, mod_steps, mod_argument_steps, mod_arguments_steps}
use Rattle.binding_model.specs.Walk.{functor_param_steps, functor_steps, type_steps, sealing_steps, item_steps, items_steps, sig_item_steps}
use Rattle.binding_model.specs.Walk.{sig_items_steps, file_steps, maybe_file_steps, unit_links, last_file, unit_steps, units_steps}
use Rattle.shape_core.specs.Respell.{over}
use Rattle.std.proofs.Common.{map, ◌++◌}
use Rattle.open_world.specs.Laws.{moved, renumbered, unit_renumbered}

-- steps of one kind, at places of which the files have other numbers, in scopes and shapes that are alike
pub data Alike (φ : ℕ → ℕ) (C V : Entries → Entries → Type 0) (S : Shape → Shape → Type 0) : Steps → Steps → Type 0 where
  quiet_alike : Alike φ C V S quiet quiet
  then_alike : (a a' b b' : Steps) → Alike φ C V S a a' → Alike φ C V S b b' → Alike φ C V S (a ⨾ b) (a' ⨾ b')
  alone_alike : (at : Place) (x : List ℕ) (sc sc' : Entries) → C sc sc' → Alike φ C V S (UseAlone at x sc) (UseAlone (moved φ at) x sc')
  under_alike : (at : Place) (x : List ℕ) (s s' : Shape) → S s s' → Alike φ C V S (UseUnder at x s) (UseUnder (moved φ at) x s')
  match_alike : (s s' t t' : Shape) → S s s' → S t t' → Alike φ C V S (MatchOf s t) (MatchOf s' t')
  pin_alike : (s s' : Shape) → S s s' → Alike φ C V S (PinOf s) (PinOf s')
  tie_alike : (p p' q q' : Entries) → V p p' → V q q' → Alike φ C V S (TieOf p q) (TieOf p' q')
  group_alike : (es es' : Entries) → V es es' → Alike φ C V S (GroupOf es) (GroupOf es')
  weighed_alike : (at at' : Place) (s s' : Shape) → Alike φ C V S (WeighedSite at s) (WeighedSite at' s')
  opened_alike : (at at' : Place) (s s' : Shape) → Alike φ C V S (OpenedSite at s) (OpenedSite at' s')
  start_alike : Alike φ C V S UnitStart UnitStart

-- what the rules of names keep, of scopes (C), of lists of entries (R), of variables (V) and of shapes (S)
pub record IsKept (φ : ℕ → ℕ) (C R V : Entries → Entries → Type 0) (S : Shape → Shape → Type 0) : Type 0 where
  pub on : (sc sc' b b' : Entries) → C sc sc' → R b b' → C (sc ⊕ b) (sc' ⊕ b')
  pub no_entry : R none none
  pub append : (a a' b b' : Entries) → R a a' → R b b' → R (a ⊕ b) (a' ⊕ b')
  pub values : (f : ℕ) (xs : List Site) → R (bound f xs) (bound (φ f) xs)
  pub variables_too : (f : ℕ) (xs : List Site) → V (bound f xs) (bound (φ f) xs)
  pub module_too : (X : List ℕ) (s s' : Shape) → S s s' → R (a_mod X s none) (a_mod X s' none)
  pub type_too : (X : List ℕ) (s s' : Shape) → S s s' → R (a_mty X s none) (a_mty X s' none)
  pub brings : (s s' : Shape) (at : Place) → S s s' → R (brought s at) (brought s' (moved φ at))
  pub structure : (es es' : Entries) → R es es' → S (Structure es) (Structure es')
  pub functor : (p p' r r' : Shape) → S p p' → S r r' → S (FunctorShape p r) (FunctorShape p' r')
  pub unitary : (r r' : Shape) → S r r' → S (Unitary r) (Unitary r')
  pub opaque : S Opaque Opaque
  pub path : (sc sc' : Entries) (p : List Word) → C sc sc' → S (path_shape sc p) (path_shape sc' p)
  pub type_path : (sc sc' : Entries) (p : List Word) → C sc sc' → S (type_under (Structure sc) (texts p)) (type_under (Structure sc') (texts p))
  pub apply : (s s' : Shape) → S s s' → S (applied s) (applied s')
  pub apply_step : (s s' a a' : Shape) → S s s' → S a a' → Alike φ C V S (apply_steps s a) (apply_steps s' a')

module _ (φ : ℕ → ℕ) (C R V : Entries → Entries → Type 0) (S : Shape → Shape → Type 0) (k : IsKept φ C R V S) where
  abbrev Same : Steps → Steps → Type 0
  Same = Alike φ C V S

  both : {a a' b b' : Steps} → Same a a' → Same b b' → Same (a ⨾ b) (a' ⨾ b')
  both {a} {a'} {b} {b'} h i = then_alike a a' b b' h i

  grouped : (f : ℕ) (xs : List Site) → Same (GroupOf (bound f xs)) (GroupOf (bound (φ f) xs))
  grouped f xs = group_alike (bound f xs) (bound (φ f) xs) (k.variables_too f xs)

  tied_at : (f : ℕ) (xs ys : List Site) → Same (TieOf (bound f xs) (bound f ys)) (TieOf (bound (φ f) xs) (bound (φ f) ys))
  tied_at f xs ys = tie_alike (bound f xs) (bound (φ f) xs) (bound f ys) (bound (φ f) ys) (k.variables_too f xs) (k.variables_too f ys)

  -- ---- steps in one scope alone

  tied : (f : ℕ) (before : List Site) (ps : Pats) → Same (ties f before ps) (ties (φ f) before ps)
  tied f before no_pat = quiet_alike
  tied f before (more_pat p ps) =
      both (grouped f (variables p)) (both (tied_at f (variables p) before) (tied f (variables p) ps))

  mutual
    pat_alike : (f : ℕ) (p : Pat) → Same (pat_steps f p) (pat_steps (φ f) p)
    pat_alike f (AsPat p xs) = pat_alike f p
    pat_alike f (OrPat p ps) = both (pat_alike f p) (both (pats_alike f ps) (tied f (variables p) ps))
    pat_alike f (TuplePat p ps) = both (pat_alike f p) (pats_alike f ps)
    pat_alike f (ConsPat p ps) = both (pat_alike f p) (pats_alike f ps)
    pat_alike f (ConstrApplyPat path p) = pat_alike f p
    pat_alike f (TagApplyPat x p) = pat_alike f p
    pat_alike f (LazyPat at p) = pat_alike f p
    pat_alike f (ExceptionPat at p) = pat_alike f p
    pat_alike f (AnyPat at) = quiet_alike
    pat_alike f (ValuePat x) = quiet_alike
    pat_alike f (LiteralPat c x) = quiet_alike
    pat_alike f (NegativePat x c y) = quiet_alike
    pat_alike f (RangePat x y) = quiet_alike
    pat_alike f (ConstrPat path) = quiet_alike
    pat_alike f (TagPat x) = quiet_alike
    pat_alike f (BoolPat at b) = quiet_alike
    pat_alike f (UnitPat at) = quiet_alike
    pat_alike f (ParenPat at p) = pat_alike f p
    pat_alike f (TypedPat at p run) = pat_alike f p
    pat_alike f (EmptyPat at b) = quiet_alike
    pat_alike f (ListPat at b p ps last) = both (pat_alike f p) (pats_alike f ps)
    pat_alike f (RecordPat at g fs rest last) = both (field_pat_alike f g) (fields_pat_alike f fs)
    pat_alike f (OpenedPat path at p) = pat_alike f p

    pats_alike : (f : ℕ) (ps : Pats) → Same (pats_steps f ps) (pats_steps (φ f) ps)
    pats_alike f no_pat = quiet_alike
    pats_alike f (more_pat p ps) = both (pat_alike f p) (pats_alike f ps)

    field_pat_alike : (f : ℕ) (p : PatField) → Same (field_pat_steps f p) (field_pat_steps (φ f) p)
    field_pat_alike f (PunnedField path x run) = quiet_alike
    field_pat_alike f (MatchedField path x run at p) = pat_alike f p

    fields_pat_alike : (f : ℕ) (ps : PatFields) → Same (fields_pat_steps f ps) (fields_pat_steps (φ f) ps)
    fields_pat_alike f no_pat_field = quiet_alike
    fields_pat_alike f (more_pat_field p ps) = both (field_pat_alike f p) (fields_pat_alike f ps)

  -- ---- shapes

  applied_alike : (ms : ModArguments) (s s' : Shape) → S s s' → S (applied_all s ms) (applied_all s' ms)
  applied_alike no_mod_argument s s' h = h
  applied_alike (more_mod_argument m ms) s s' h = applied_alike ms (applied s) (applied s') (k.apply s s' h)

  local_applied_alike : (ms : LocalArguments) (s s' : Shape) → S s s' → S (local_applied s ms) (local_applied s' ms)
  local_applied_alike no_local s s' h = h
  local_applied_alike (more_local at m ms) s s' h = local_applied_alike ms (applied s) (applied s') (k.apply s s' h)
  local_applied_alike (no_module at ms) s s' h = local_applied_alike ms (applied s) (applied s') (k.apply s s' h)

  named_alike : (x : ModuleName) (s s' : Shape) → S s s' → R (named x s) (named x s')
  named_alike (UpperName x) s s' h = k.module_too x.text s s' h
  named_alike (AnyName at) s s' h = k.no_entry

  module _ (f : ℕ) where
    opens_alike : (i : Item) (sc sc' : Entries) → C sc sc' → R (opens f sc i) (opens (φ f) sc' i)
    opens_alike (OpenItem at bang path) sc sc' c = k.brings (path_shape sc path) (path_shape sc' path) (here f at) (k.path sc sc' path c)
    opens_alike _ sc sc' c = k.no_entry

    sig_opens_alike : (i : SigItem) (sc sc' : Entries) → C sc sc' → R (sig_opens f sc i) (sig_opens (φ f) sc' i)
    sig_opens_alike (OpenSig at bang path) sc sc' c = k.brings (path_shape sc path) (path_shape sc' path) (here f at) (k.path sc sc' path c)
    sig_opens_alike _ sc sc' c = k.no_entry

    mutual
      mod_alike : (x : ModExpr) (sc sc' : Entries) → C sc sc' → S (mod_shape f sc x) (mod_shape (φ f) sc' x)
      mod_alike (ModPath path) sc sc' c = k.path sc sc' path c
      mod_alike (Struct at is) sc sc' c = k.structure (entries f sc is) (entries (φ f) sc' is) (entries_alike is sc sc' c)
      mod_alike (Functor at ps m) sc sc' c =
          from_params_alike ps sc sc' c (mod_shape f (sc ⊕ params_in f sc ps) m) (mod_shape (φ f) (sc' ⊕ params_in (φ f) sc' ps) m)
          (mod_alike m (sc ⊕ params_in f sc ps) (sc' ⊕ params_in (φ f) sc' ps) (k.on sc sc' _ _ c (params_in_alike ps sc sc' c)))
      mod_alike (ModApply m ms) sc sc' c = applied_alike ms (mod_shape f sc m) (mod_shape (φ f) sc' m) (mod_alike m sc sc' c)
      mod_alike (ModParen at m) sc sc' c = mod_alike m sc sc' c
      mod_alike (Sealed at m s) sc sc' c = type_alike s sc sc' c

      sealed_alike : (x : MaybeType) (sc sc' : Entries) → C sc sc' → (r r' : Shape) → S r r' → S (sealed_shape f sc x r) (sealed_shape (φ f) sc' x r')
      sealed_alike no_type sc sc' c r r' h = h
      sealed_alike (some_type s) sc sc' c r r' h = type_alike s sc sc' c

      param_in_alike : (x : FunctorParam) (sc sc' : Entries) → C sc sc' → R (param_in f sc x) (param_in (φ f) sc' x)
      param_in_alike (NamedParam at x s) sc sc' c = named_alike x (type_shape f sc s) (type_shape (φ f) sc' s) (type_alike s sc sc' c)
      param_in_alike (NoParam at) sc sc' c = k.no_entry

      from_param_alike : (x : FunctorParam) (sc sc' : Entries) → C sc sc' → (r r' : Shape) → S r r'
          → S (from_param f sc x r) (from_param (φ f) sc' x r')
      from_param_alike (NamedParam at x s) sc sc' c r r' h = k.functor (type_shape f sc s) (type_shape (φ f) sc' s) r r' (type_alike s sc sc' c) h
      from_param_alike (NoParam at) sc sc' c r r' h = k.unitary r r' h

      params_in_alike : (x : FunctorParams) (sc sc' : Entries) → C sc sc' → R (params_in f sc x) (params_in (φ f) sc' x)
      params_in_alike no_functor_param sc sc' c = k.no_entry
      params_in_alike (more_functor_param p ps) sc sc' c =
          k.append _ _ _ _ (param_in_alike p sc sc' c)
          (params_in_alike ps (sc ⊕ param_in f sc p) (sc' ⊕ param_in (φ f) sc' p) (k.on sc sc' _ _ c (param_in_alike p sc sc' c)))

      from_params_alike : (x : FunctorParams) (sc sc' : Entries) → C sc sc' → (r r' : Shape) → S r r'
          → S (from_params f sc x r) (from_params (φ f) sc' x r')
      from_params_alike no_functor_param sc sc' c r r' h = h
      from_params_alike (more_functor_param p ps) sc sc' c r r' h =
          from_param_alike p sc sc' c (from_params f (sc ⊕ param_in f sc p) ps r) (from_params (φ f) (sc' ⊕ param_in (φ f) sc' p) ps r')
          (from_params_alike ps (sc ⊕ param_in f sc p) (sc' ⊕ param_in (φ f) sc' p) (k.on sc sc' _ _ c (param_in_alike p sc sc' c)) r r' h)

      adds_alike : (x : Item) (sc sc' : Entries) → C sc sc' → R (adds f sc x) (adds (φ f) sc' x)
      adds_alike (ExprItem e) sc sc' c = k.no_entry
      adds_alike SeparatorItem sc sc' c = k.no_entry
      adds_alike (ValueItem at rec b bs) sc sc' c = k.values f _
      adds_alike (ExternalItem x run at ts) sc sc' c = k.values f _
      adds_alike (TypeItem run) sc sc' c = k.no_entry
      adds_alike (ExceptionItem at run) sc sc' c = k.no_entry
      adds_alike (ModuleItem at x ps s eq m) sc sc' c =
          let on = k.on sc sc' _ _ c (params_in_alike ps sc sc' c) in
          named_alike x _ _
          (from_params_alike ps sc sc' c _ _
          (sealed_alike s (sc ⊕ params_in f sc ps) (sc' ⊕ params_in (φ f) sc' ps) on _ _
          (mod_alike m (sc ⊕ params_in f sc ps) (sc' ⊕ params_in (φ f) sc' ps) on)))
      adds_alike (ModuleTypeItem at x eq s) sc sc' c = k.type_too x.text (type_shape f sc s) (type_shape (φ f) sc' s) (type_alike s sc sc' c)
      adds_alike (OpenItem at bang path) sc sc' c = k.no_entry
      adds_alike (IncludeItem at m) sc sc' c = k.brings (mod_shape f sc m) (mod_shape (φ f) sc' m) (here f at) (mod_alike m sc sc' c)

      entries_alike : (x : Items) (sc sc' : Entries) → C sc sc' → R (entries f sc x) (entries (φ f) sc' x)
      entries_alike no_item sc sc' c = k.no_entry
      entries_alike (more_item i is) sc sc' c =
          k.append _ _ _ _ (adds_alike i sc sc' c)
          (entries_alike is (sc ⊕ adds f sc i ⊕ opens f sc i) (sc' ⊕ adds (φ f) sc' i ⊕ opens (φ f) sc' i)
          (k.on _ _ _ _ (k.on sc sc' _ _ c (adds_alike i sc sc' c)) (opens_alike i sc sc' c)))

      type_alike : (x : ModType) (sc sc' : Entries) → C sc sc' → S (type_shape f sc x) (type_shape (φ f) sc' x)
      type_alike (TypePath path) sc sc' c = k.type_path sc sc' path c
      type_alike (Sig at is) sc sc' c = k.structure (sig_entries f sc is) (sig_entries (φ f) sc' is) (sig_entries_alike is sc sc' c)
      type_alike (TypeOf at m) sc sc' c = mod_alike m sc sc' c
      type_alike (TypeParen at s) sc sc' c = type_alike s sc sc' c
      type_alike (With s ws) sc sc' c = type_alike s sc sc' c
      type_alike (FunctorType at ps s) sc sc' c =
          from_params_alike ps sc sc' c _ _
          (type_alike s (sc ⊕ params_in f sc ps) (sc' ⊕ params_in (φ f) sc' ps) (k.on sc sc' _ _ c (params_in_alike ps sc sc' c)))
      type_alike (ParamArrow p s) sc sc' c =
          from_param_alike p sc sc' c _ _
          (type_alike s (sc ⊕ param_in f sc p) (sc' ⊕ param_in (φ f) sc' p) (k.on sc sc' _ _ c (param_in_alike p sc sc' c)))
      type_alike (Arrow s t) sc sc' c =
          k.functor (type_shape f sc s) (type_shape (φ f) sc' s) (type_shape f sc t) (type_shape (φ f) sc' t) (type_alike s sc sc' c)
          (type_alike t sc sc' c)

      sig_adds_alike : (x : SigItem) (sc sc' : Entries) → C sc sc' → R (sig_adds f sc x) (sig_adds (φ f) sc' x)
      sig_adds_alike SeparatorSig sc sc' c = k.no_entry
      sig_adds_alike (ValSig x run) sc sc' c = k.values f _
      sig_adds_alike (ExternalSig x run at ts) sc sc' c = k.values f _
      sig_adds_alike (TypeSig run) sc sc' c = k.no_entry
      sig_adds_alike (ExceptionSig at run) sc sc' c = k.no_entry
      sig_adds_alike (ModuleSig at x ps s) sc sc' c =
          named_alike x _ _
          (from_params_alike ps sc sc' c _ _
          (type_alike s (sc ⊕ params_in f sc ps) (sc' ⊕ params_in (φ f) sc' ps) (k.on sc sc' _ _ c (params_in_alike ps sc sc' c))))
      sig_adds_alike (AliasSig at x eq path) sc sc' c = k.module_too x.text (path_shape sc path) (path_shape sc' path) (k.path sc sc' path c)
      sig_adds_alike (ModuleTypeSig at x eq s) sc sc' c = k.type_too x.text (type_shape f sc s) (type_shape (φ f) sc' s) (type_alike s sc sc' c)
      sig_adds_alike (OpenSig at bang path) sc sc' c = k.no_entry
      sig_adds_alike (IncludeSig at s) sc sc' c = k.brings (type_shape f sc s) (type_shape (φ f) sc' s) (here f at) (type_alike s sc sc' c)

      sig_entries_alike : (x : SigItems) (sc sc' : Entries) → C sc sc' → R (sig_entries f sc x) (sig_entries (φ f) sc' x)
      sig_entries_alike no_sig_item sc sc' c = k.no_entry
      sig_entries_alike (more_sig_item i is) sc sc' c =
          k.append _ _ _ _ (sig_adds_alike i sc sc' c)
          (sig_entries_alike is (sc ⊕ sig_adds f sc i ⊕ sig_opens f sc i) (sc' ⊕ sig_adds (φ f) sc' i ⊕ sig_opens (φ f) sc' i)
          (k.on _ _ _ _ (k.on sc sc' _ _ c (sig_adds_alike i sc sc' c)) (sig_opens_alike i sc sc' c)))

  -- ---- steps

  mutual
    local_alike : (m : LocalModule) (sc sc' : Entries) → C sc sc' → Same (local_steps sc m) (local_steps sc' m)
    local_alike (LocalPath path ms) sc sc' c = locals_alike ms sc sc' c (path_shape sc path) (path_shape sc' path) (k.path sc sc' path c)

    locals_alike : (ms : LocalArguments) (sc sc' : Entries) → C sc sc' → (s s' : Shape) → S s s'
        → Same (locals_steps sc s ms) (locals_steps sc' s' ms)
    locals_alike no_local sc sc' c s s' h = quiet_alike
    locals_alike (more_local at m ms) sc sc' c s s' h =
        both (local_alike m sc sc' c)
        (both (k.apply_step s s' (local_shape sc m) (local_shape sc' m) h (local_module m sc sc' c))
        (locals_alike ms sc sc' c (applied s) (applied s') (k.apply s s' h)))
    locals_alike (no_module at ms) sc sc' c s s' h =
        both (k.apply_step s s' (Structure none) (Structure none) h (k.structure none none k.no_entry))
        (locals_alike ms sc sc' c (applied s) (applied s') (k.apply s s' h))

    local_module : (m : LocalModule) (sc sc' : Entries) → C sc sc' → S (local_shape sc m) (local_shape sc' m)
    local_module (LocalPath path ms) sc sc' c = local_applied_alike ms (path_shape sc path) (path_shape sc' path) (k.path sc sc' path c)

  module _ (f : ℕ) where
    uses_alike : (xs : List Site) (sc sc' : Entries) → C sc sc' → Same (uses f sc xs) (uses (φ f) sc' xs)
    uses_alike [] sc sc' c = quiet_alike
    uses_alike (x ∷ xs) sc sc' c = both (alone_alike (here f x.at) x.name sc sc' c) (uses_alike xs sc sc' c)

    under_all : (xs : List Site) (s s' : Shape) → S s s' → Same (uses_under f s xs) (uses_under (φ f) s' xs)
    under_all [] s s' h = quiet_alike
    under_all (x ∷ xs) s s' h = both (under_alike (here f x.at) x.name s s' h) (under_all xs s s' h)

    value_alike : (path : List Word) (x : ValueName) (sc sc' : Entries) → C sc sc' → Same (value_steps f sc path x) (value_steps (φ f) sc' path x)
    value_alike [] x sc sc' c = uses_alike (name_sites [] false x) sc sc' c
    value_alike (X ∷ path) x sc sc' c =
        under_all (name_sites [] false x) (path_shape sc (X ∷ path)) (path_shape sc' (X ∷ path)) (k.path sc sc' (X ∷ path) c)

    -- a scope goes on with the same values
    with_values : (xs : List Site) (sc sc' : Entries) → C sc sc' → C (sc ⊕ bound f xs) (sc' ⊕ bound (φ f) xs)
    with_values xs sc sc' c = k.on sc sc' (bound f xs) (bound (φ f) xs) c (k.values f xs)

    params_values : (ps : Params) → R (params_bound f ps) (params_bound (φ f) ps)
    params_values no_param = k.no_entry
    params_values (more_param p ps) = k.append _ _ _ _ (k.values f (param_variables p)) (params_values ps)

    let_alike : (rec : Bool) (sc sc' : Entries) (b : Binding) (bs : Bindings) → C sc sc' → C (let_scope f rec sc b bs) (let_scope (φ f) rec sc' b bs)
    let_alike true sc sc' b bs c = with_values _ sc sc' c
    let_alike false sc sc' b bs c = c

    opened_path : (path : List Word) (at : Place) (sc sc' : Entries) → C sc sc'
        → C (sc ⊕ brought (path_shape sc path) at) (sc' ⊕ brought (path_shape sc' path) (moved φ at))
    opened_path path at sc sc' c = k.on sc sc' _ _ c (k.brings (path_shape sc path) (path_shape sc' path) at (k.path sc sc' path c))

    mutual
      expr_alike : (x : Expr) (sc sc' : Entries) → C sc sc' → Same (expr_steps f sc x) (expr_steps (φ f) sc' x)
      expr_alike (Seq e es last) sc sc' c = both (expr_alike e sc sc' c) (links_alike es sc sc' c)
      expr_alike (Let at rec b bs e) sc sc' c =
          both (grouped f (binding_variables b ++ bindings_variables bs))
          (both (binding_alike b (let_scope f rec sc b bs) (let_scope (φ f) rec sc' b bs) (let_alike rec sc sc' b bs c))
          (both (bindings_alike bs (let_scope f rec sc b bs) (let_scope (φ f) rec sc' b bs) (let_alike rec sc sc' b bs c))
          (expr_alike e (sc ⊕ let_bound f b bs) (sc' ⊕ let_bound (φ f) b bs) (with_values _ sc sc' c))))
      expr_alike (LetOpen at at' bang path e) sc sc' c =
          both (opened_alike (here f at') _ (path_shape sc path) (path_shape sc' path))
          (expr_alike e (sc ⊕ brought (path_shape sc path) (here f at')) (sc' ⊕ brought (path_shape sc' path) (here (φ f) at'))
          (opened_path path (here f at') sc sc' c))
      expr_alike (LetModule at at' x eq m e) sc sc' c =
          both (local_alike m sc sc' c)
          (both (weighed_alike (here f at') _ (local_shape sc m) (local_shape sc' m))
          (expr_alike e (sc ⊕ a_mod x.text (local_shape sc m) none) (sc' ⊕ a_mod x.text (local_shape sc' m) none)
          (k.on sc sc' _ _ c (k.module_too x.text (local_shape sc m) (local_shape sc' m) (local_module m sc sc' c)))))
      expr_alike (Fun at ps e) sc sc' c =
          both (params_alike ps sc sc' c) (expr_alike e (sc ⊕ params_bound f ps) (sc' ⊕ params_bound (φ f) ps) (k.on sc sc' _ _ c (params_values ps)))
      expr_alike (Function at bar a cs) sc sc' c = both (case_alike a sc sc' c) (cases_alike cs sc sc' c)
      expr_alike (Match at e bar a cs) sc sc' c = both (expr_alike e sc sc' c) (both (case_alike a sc sc' c) (cases_alike cs sc sc' c))
      expr_alike (Try at e bar a cs) sc sc' c = both (expr_alike e sc sc' c) (both (case_alike a sc sc' c) (cases_alike cs sc sc' c))
      expr_alike (If at e a tail) sc sc' c = both (expr_alike e sc sc' c) (both (expr_alike a sc sc' c) (tail_alike tail sc sc' c))
      expr_alike (Chain n e es) sc sc' c = both (expr_alike e sc sc' c) (links_alike es sc sc' c)
      expr_alike (Minus x e) sc sc' c = both (uses_alike (operated false x.at (126 ∷ x.text) ∷ []) sc sc' c) (expr_alike e sc sc' c)
      expr_alike (Apply g es) sc sc' c = both (expr_alike g sc sc' c) (arguments_alike es sc sc' c)
      expr_alike (ConstrApply path e) sc sc' c = expr_alike e sc sc' c
      expr_alike (TagApply x e) sc sc' c = expr_alike e sc sc' c
      expr_alike (Assert at e) sc sc' c = expr_alike e sc sc' c
      expr_alike (Lazy at e) sc sc' c = expr_alike e sc sc' c
      expr_alike (Postfix e ps) sc sc' c = both (expr_alike e sc sc' c) (expr_parts_alike ps sc sc' c)
      expr_alike (Prefixed x e) sc sc' c = both (uses_alike (operated false x.at x.text ∷ []) sc sc' c) (expr_alike e sc sc' c)
      expr_alike (Literal a x) sc sc' c = quiet_alike
      expr_alike (BoolExpr at b) sc sc' c = quiet_alike
      expr_alike (Value path x) sc sc' c = value_alike path x sc sc' c
      expr_alike (Constr path) sc sc' c = quiet_alike
      expr_alike (Tag x) sc sc' c = quiet_alike
      expr_alike (UnitExpr at) sc sc' c = quiet_alike
      expr_alike (Paren at e) sc sc' c = expr_alike e sc sc' c
      expr_alike (Typed at e run) sc sc' c = expr_alike e sc sc' c
      expr_alike (Coerced at e from to) sc sc' c = expr_alike e sc sc' c
      expr_alike (EmptyBegin at) sc sc' c = quiet_alike
      expr_alike (Begin at e) sc sc' c = expr_alike e sc sc' c
      expr_alike (EmptyList at b) sc sc' c = quiet_alike
      expr_alike (ListExpr at b e es last) sc sc' c = both (expr_alike e sc sc' c) (links_alike es sc sc' c)
      expr_alike (Record at base g gs last) sc sc' c =
          both (maybe_alike base sc sc' c) (both (field_alike g sc sc' c) (fields_alike gs sc sc' c))
      expr_alike (Opened path e) sc sc' c =
          both (opened_alike (here f (path_start path)) _ (path_shape sc path) (path_shape sc' path))
          (expr_alike e (sc ⊕ brought (path_shape sc path) (here f (path_start path)))
          (sc' ⊕ brought (path_shape sc' path) (here (φ f) (path_start path)))
          (opened_path path (here f (path_start path)) sc sc' c))
      expr_alike (While at a e) sc sc' c = both (expr_alike a sc sc' c) (expr_alike e sc sc' c)
      expr_alike (For at x eq a down b e) sc sc' c =
          both (expr_alike a sc sc' c) (both (expr_alike b sc sc' c) (both (grouped f (for_variables x))
          (expr_alike e (sc ⊕ bound f (for_variables x)) (sc' ⊕ bound (φ f) (for_variables x)) (with_values _ sc sc' c))))

      links_alike : (x : Links) (sc sc' : Entries) → C sc sc' → Same (links_steps f sc x) (links_steps (φ f) sc' x)
      links_alike no_link sc sc' c = quiet_alike
      links_alike (more_link t e es) sc sc' c =
          both (uses_alike (operator_sites [] false t) sc sc' c) (both (expr_alike e sc sc' c) (links_alike es sc sc' c))

      maybe_alike : (x : MaybeExpr) (sc sc' : Entries) → C sc sc' → Same (maybe_steps f sc x) (maybe_steps (φ f) sc' x)
      maybe_alike no_expr sc sc' c = quiet_alike
      maybe_alike (some_expr e) sc sc' c = expr_alike e sc sc' c

      tail_alike : (x : Tail) (sc sc' : Entries) → C sc sc' → Same (tail_steps f sc x) (tail_steps (φ f) sc' x)
      tail_alike no_else sc sc' c = quiet_alike
      tail_alike (or_else e) sc sc' c = expr_alike e sc sc' c
      tail_alike (or_if at e a tail) sc sc' c = both (expr_alike e sc sc' c) (both (expr_alike a sc sc' c) (tail_alike tail sc sc' c))

      binding_alike : (x : Binding) (sc sc' : Entries) → C sc sc' → Same (binding_steps f sc x) (binding_steps (φ f) sc' x)
      binding_alike (PlainBinding p run at e) sc sc' c = both (pat_alike f p) (expr_alike e sc sc' c)
      binding_alike (AppliedBinding x ps run at e) sc sc' c =
          both (params_alike ps sc sc' c) (expr_alike e (sc ⊕ params_bound f ps) (sc' ⊕ params_bound (φ f) ps) (k.on sc sc' _ _ c (params_values ps)))

      bindings_alike : (x : Bindings) (sc sc' : Entries) → C sc sc' → Same (bindings_steps f sc x) (bindings_steps (φ f) sc' x)
      bindings_alike no_binding sc sc' c = quiet_alike
      bindings_alike (more_binding b bs) sc sc' c = both (binding_alike b sc sc' c) (bindings_alike bs sc sc' c)

      case_alike : (x : Case) (sc sc' : Entries) → C sc sc' → Same (case_steps f sc x) (case_steps (φ f) sc' x)
      case_alike (CaseOf p guard e) sc sc' c =
          both (pat_alike f p) (both (grouped f (variables p))
          (both (maybe_alike guard (sc ⊕ bound f (variables p)) (sc' ⊕ bound (φ f) (variables p)) (with_values _ sc sc' c))
          (expr_alike e (sc ⊕ bound f (variables p)) (sc' ⊕ bound (φ f) (variables p)) (with_values _ sc sc' c))))

      cases_alike : (x : Cases) (sc sc' : Entries) → C sc sc' → Same (cases_steps f sc x) (cases_steps (φ f) sc' x)
      cases_alike no_case sc sc' c = quiet_alike
      cases_alike (more_case a cs) sc sc' c = both (case_alike a sc sc' c) (cases_alike cs sc sc' c)

      argument_alike : (x : Argument) (sc sc' : Entries) → C sc sc' → Same (argument_steps f sc x) (argument_steps (φ f) sc' x)
      argument_alike (Positional e) sc sc' c = expr_alike e sc sc' c
      argument_alike (LabelPun x) sc sc' c = uses_alike (label_site false x ∷ []) sc sc' c
      argument_alike (Labelled x e) sc sc' c = expr_alike e sc sc' c

      arguments_alike : (x : Arguments) (sc sc' : Entries) → C sc sc' → Same (arguments_steps f sc x) (arguments_steps (φ f) sc' x)
      arguments_alike no_argument sc sc' c = quiet_alike
      arguments_alike (more_argument a es) sc sc' c = both (argument_alike a sc sc' c) (arguments_alike es sc sc' c)

      param_alike : (x : Param) (sc sc' : Entries) → C sc sc' → Same (param_steps f sc x) (param_steps (φ f) sc' x)
      param_alike (PatternParam p) sc sc' c = both (pat_alike f p) (grouped f (variables p))
      param_alike (LabelParam x) sc sc' c = grouped f (label_site true x ∷ [])
      param_alike (LabelPattern x p) sc sc' c = both (pat_alike f p) (grouped f (variables p))
      param_alike (DefaultParam x at p run eq e) sc sc' c =
          both (pat_alike f p) (both (expr_alike e sc sc' c) (grouped f (variables p)))
      param_alike (WrappedParam at optional at' x run) sc sc' c = grouped f (punned true x.at x.text ∷ [])
      param_alike (WrappedDefault at at' x run eq e) sc sc' c = both (expr_alike e sc sc' c) (grouped f (punned true x.at x.text ∷ []))
      param_alike (TypesParam at xs) sc sc' c = quiet_alike

      params_alike : (x : Params) (sc sc' : Entries) → C sc sc' → Same (params_steps f sc x) (params_steps (φ f) sc' x)
      params_alike no_param sc sc' c = quiet_alike
      params_alike (more_param p ps) sc sc' c =
          both (param_alike p sc sc' c)
          (params_alike ps (sc ⊕ bound f (param_variables p)) (sc' ⊕ bound (φ f) (param_variables p)) (with_values _ sc sc' c))

      part_alike : (x : Part) (sc sc' : Entries) → C sc sc' → Same (part_steps f sc x) (part_steps (φ f) sc' x)
      part_alike (LabelPart path x) sc sc' c = quiet_alike
      part_alike (IndexPart at e) sc sc' c = expr_alike e sc sc' c
      part_alike (CharPart at e) sc sc' c = expr_alike e sc sc' c

      expr_parts_alike : (x : Parts) (sc sc' : Entries) → C sc sc' → Same (parts_steps f sc x) (parts_steps (φ f) sc' x)
      expr_parts_alike no_part sc sc' c = quiet_alike
      expr_parts_alike (more_part p ps) sc sc' c = both (part_alike p sc sc' c) (expr_parts_alike ps sc sc' c)

      field_alike : (x : Field) (sc sc' : Entries) → C sc sc' → Same (field_steps f sc x) (field_steps (φ f) sc' x)
      field_alike (FieldPun path x run) sc sc' c = uses_alike (punned false x.at x.text ∷ []) sc sc' c
      field_alike (AssignedField path x run at e) sc sc' c = expr_alike e sc sc' c

      fields_alike : (x : Fields) (sc sc' : Entries) → C sc sc' → Same (fields_steps f sc x) (fields_steps (φ f) sc' x)
      fields_alike no_field sc sc' c = quiet_alike
      fields_alike (more_field g gs) sc sc' c = both (field_alike g sc sc' c) (fields_alike gs sc sc' c)

    mutual
      mod_steps_alike : (x : ModExpr) (sc sc' : Entries) → C sc sc' → Same (mod_steps f sc x) (mod_steps (φ f) sc' x)
      mod_steps_alike (ModPath path) sc sc' c = quiet_alike
      mod_steps_alike (Struct at is) sc sc' c = items_alike is sc sc' c
      mod_steps_alike (Functor at ps m) sc sc' c =
          both (functor_alike ps sc sc' c)
          (mod_steps_alike m (sc ⊕ params_in f sc ps) (sc' ⊕ params_in (φ f) sc' ps) (k.on sc sc' _ _ c (params_in_alike f ps sc sc' c)))
      mod_steps_alike (ModApply m ms) sc sc' c =
          both (mod_steps_alike m sc sc' c) (mod_arguments_alike ms sc sc' c (mod_shape f sc m) (mod_shape (φ f) sc' m) (mod_alike f m sc sc' c))
      mod_steps_alike (ModParen at m) sc sc' c = mod_steps_alike m sc sc' c
      mod_steps_alike (Sealed at m s) sc sc' c =
          both (mod_steps_alike m sc sc' c) (both (type_steps_alike s sc sc' c)
          (match_alike (mod_shape f sc m) (mod_shape (φ f) sc' m) (type_shape f sc s) (type_shape (φ f) sc' s) (mod_alike f m sc sc' c)
          (type_alike f s sc sc' c)))

      mod_argument_alike : (x : ModArgument) (sc sc' : Entries) → C sc sc' → (s s' : Shape) → S s s'
          → Same (mod_argument_steps f sc s x) (mod_argument_steps (φ f) sc' s' x)
      mod_argument_alike (ModuleArgument at m) sc sc' c r r' h =
          both (mod_steps_alike m sc sc' c) (k.apply_step r r' (mod_shape f sc m) (mod_shape (φ f) sc' m) h (mod_alike f m sc sc' c))
      mod_argument_alike (SealedArgument at m s) sc sc' c r r' h =
          both (mod_steps_alike m sc sc' c) (both (type_steps_alike s sc sc' c)
          (both
          (match_alike (mod_shape f sc m) (mod_shape (φ f) sc' m) (type_shape f sc s) (type_shape (φ f) sc' s) (mod_alike f m sc sc' c)
          (type_alike f s sc sc' c))
          (k.apply_step r r' (type_shape f sc s) (type_shape (φ f) sc' s) h (type_alike f s sc sc' c))))
      mod_argument_alike (NoArgument at) sc sc' c r r' h = k.apply_step r r' (Structure none) (Structure none) h (k.structure none none k.no_entry)

      mod_arguments_alike : (x : ModArguments) (sc sc' : Entries) → C sc sc' → (s s' : Shape) → S s s'
          → Same (mod_arguments_steps f sc s x) (mod_arguments_steps (φ f) sc' s' x)
      mod_arguments_alike no_mod_argument sc sc' c r r' h = quiet_alike
      mod_arguments_alike (more_mod_argument m ms) sc sc' c r r' h =
          both (mod_argument_alike m sc sc' c r r' h) (mod_arguments_alike ms sc sc' c (applied r) (applied r') (k.apply r r' h))

      functor_param_alike : (x : FunctorParam) (sc sc' : Entries) → C sc sc' → Same (functor_param_steps f sc x) (functor_param_steps (φ f) sc' x)
      functor_param_alike (NamedParam at x s) sc sc' c =
          both (type_steps_alike s sc sc' c) (weighed_alike (here f (name_at x)) _ (type_shape f sc s) (type_shape (φ f) sc' s))
      functor_param_alike (NoParam at) sc sc' c = weighed_alike (here f (suc at)) _ Opaque Opaque

      functor_alike : (x : FunctorParams) (sc sc' : Entries) → C sc sc' → Same (functor_steps f sc x) (functor_steps (φ f) sc' x)
      functor_alike no_functor_param sc sc' c = quiet_alike
      functor_alike (more_functor_param p ps) sc sc' c =
          both (functor_param_alike p sc sc' c)
          (functor_alike ps (sc ⊕ param_in f sc p) (sc' ⊕ param_in (φ f) sc' p) (k.on sc sc' _ _ c (param_in_alike f p sc sc' c)))

      type_steps_alike : (x : ModType) (sc sc' : Entries) → C sc sc' → Same (type_steps f sc x) (type_steps (φ f) sc' x)
      type_steps_alike (TypePath path) sc sc' c = quiet_alike
      type_steps_alike (Sig at is) sc sc' c = sig_items_alike is sc sc' c
      type_steps_alike (TypeOf at m) sc sc' c = mod_steps_alike m sc sc' c
      type_steps_alike (TypeParen at s) sc sc' c = type_steps_alike s sc sc' c
      type_steps_alike (With s ws) sc sc' c = type_steps_alike s sc sc' c
      type_steps_alike (FunctorType at ps s) sc sc' c =
          both (functor_alike ps sc sc' c)
          (type_steps_alike s (sc ⊕ params_in f sc ps) (sc' ⊕ params_in (φ f) sc' ps) (k.on sc sc' _ _ c (params_in_alike f ps sc sc' c)))
      type_steps_alike (ParamArrow p s) sc sc' c =
          both (functor_param_alike p sc sc' c)
          (type_steps_alike s (sc ⊕ param_in f sc p) (sc' ⊕ param_in (φ f) sc' p) (k.on sc sc' _ _ c (param_in_alike f p sc sc' c)))
      type_steps_alike (Arrow s t) sc sc' c =
          both (type_steps_alike s sc sc' c)
          (both (weighed_alike (here f (type_start t - 1)) _ (type_shape f sc s) (type_shape (φ f) sc' s)) (type_steps_alike t sc sc' c))

      sealing_alike : (x : MaybeType) (sc sc' : Entries) → C sc sc' → (b b' : Steps) (r r' : Shape) → Same b b' → S r r'
          → Same (sealing_steps f sc x b r) (sealing_steps (φ f) sc' x b' r')
      sealing_alike no_type sc sc' c b b' r r' h j = h
      sealing_alike (some_type s) sc sc' c b b' r r' h j =
          both (type_steps_alike s sc sc' c)
          (both h (match_alike r r' (type_shape f sc s) (type_shape (φ f) sc' s) j (type_alike f s sc sc' c)))

      item_alike : (x : Item) (sc sc' : Entries) → C sc sc' → Same (item_steps f sc x) (item_steps (φ f) sc' x)
      item_alike (ExprItem e) sc sc' c = expr_alike e sc sc' c
      item_alike SeparatorItem sc sc' c = quiet_alike
      item_alike (ValueItem at rec b bs) sc sc' c =
          both (grouped f (binding_variables b ++ bindings_variables bs))
          (both (binding_alike b (let_scope f rec sc b bs) (let_scope (φ f) rec sc' b bs) (let_alike rec sc sc' b bs c))
          (bindings_alike bs (let_scope f rec sc b bs) (let_scope (φ f) rec sc' b bs) (let_alike rec sc sc' b bs c)))
      item_alike (ExternalItem x run at ts) sc sc' c = quiet_alike
      item_alike (TypeItem run) sc sc' c = quiet_alike
      item_alike (ExceptionItem at run) sc sc' c = quiet_alike
      item_alike (ModuleItem at x ps s eq m) sc sc' c =
          let on = k.on sc sc' _ _ c (params_in_alike f ps sc sc' c) in
          let t = sc ⊕ params_in f sc ps in
          let t' = sc' ⊕ params_in (φ f) sc' ps in
          both (functor_alike ps sc sc' c)
          (both
          (sealing_alike s t t' on (mod_steps f t m) (mod_steps (φ f) t' m) (mod_shape f t m) (mod_shape (φ f) t' m) (mod_steps_alike m t t' on)
          (mod_alike f m t t' on))
          (weighed_alike (here f at) _ _ _))
      item_alike (ModuleTypeItem at x eq s) sc sc' c =
          both (type_steps_alike s sc sc' c) (weighed_alike (here f at) _ (type_shape f sc s) (type_shape (φ f) sc' s))
      item_alike (OpenItem at bang path) sc sc' c = opened_alike (here f at) _ (path_shape sc path) (path_shape sc' path)
      item_alike (IncludeItem at m) sc sc' c =
          both (mod_steps_alike m sc sc' c) (weighed_alike (here f at) _ (mod_shape f sc m) (mod_shape (φ f) sc' m))

      items_alike : (x : Items) (sc sc' : Entries) → C sc sc' → Same (items_steps f sc x) (items_steps (φ f) sc' x)
      items_alike no_item sc sc' c = quiet_alike
      items_alike (more_item i is) sc sc' c =
          both (item_alike i sc sc' c)
          (items_alike is (sc ⊕ adds f sc i ⊕ opens f sc i) (sc' ⊕ adds (φ f) sc' i ⊕ opens (φ f) sc' i)
          (k.on _ _ _ _ (k.on sc sc' _ _ c (adds_alike f i sc sc' c)) (opens_alike f i sc sc' c)))

      sig_item_alike : (x : SigItem) (sc sc' : Entries) → C sc sc' → Same (sig_item_steps f sc x) (sig_item_steps (φ f) sc' x)
      sig_item_alike SeparatorSig sc sc' c = quiet_alike
      sig_item_alike (ValSig x run) sc sc' c = quiet_alike
      sig_item_alike (ExternalSig x run at ts) sc sc' c = quiet_alike
      sig_item_alike (TypeSig run) sc sc' c = quiet_alike
      sig_item_alike (ExceptionSig at run) sc sc' c = quiet_alike
      sig_item_alike (ModuleSig at x ps s) sc sc' c =
          let on = k.on sc sc' _ _ c (params_in_alike f ps sc sc' c) in
          both (functor_alike ps sc sc' c)
          (both (type_steps_alike s (sc ⊕ params_in f sc ps) (sc' ⊕ params_in (φ f) sc' ps) on) (weighed_alike (here f at) _ _ _))
      sig_item_alike (AliasSig at x eq path) sc sc' c = weighed_alike (here f at) _ (path_shape sc path) (path_shape sc' path)
      sig_item_alike (ModuleTypeSig at x eq s) sc sc' c =
          both (type_steps_alike s sc sc' c) (weighed_alike (here f at) _ (type_shape f sc s) (type_shape (φ f) sc' s))
      sig_item_alike (OpenSig at bang path) sc sc' c = opened_alike (here f at) _ (path_shape sc path) (path_shape sc' path)
      sig_item_alike (IncludeSig at s) sc sc' c =
          both (type_steps_alike s sc sc' c) (weighed_alike (here f at) _ (type_shape f sc s) (type_shape (φ f) sc' s))

      sig_items_alike : (x : SigItems) (sc sc' : Entries) → C sc sc' → Same (sig_items_steps f sc x) (sig_items_steps (φ f) sc' x)
      sig_items_alike no_sig_item sc sc' c = quiet_alike
      sig_items_alike (more_sig_item i is) sc sc' c =
          both (sig_item_alike i sc sc' c)
          (sig_items_alike is (sc ⊕ sig_adds f sc i ⊕ sig_opens f sc i) (sc' ⊕ sig_adds (φ f) sc' i ⊕ sig_opens (φ f) sc' i)
          (k.on _ _ _ _ (k.on sc sc' _ _ c (sig_adds_alike f i sc sc' c)) (sig_opens_alike f i sc sc' c)))

  -- ---- units

  abbrev φt : FileTree → FileTree
  φt = renumbered φ

  file_alike : (t : FileTree) (sc sc' : Entries) → C sc sc' → Same (file_steps sc t) (file_steps sc' (φt t))
  file_alike (Body f is) sc sc' c = items_alike f is sc sc' c
  file_alike (Face f is) sc sc' c = sig_items_alike f is sc sc' c

  file_shape_alike : (t : FileTree) (sc sc' : Entries) → C sc sc' → S (file_shape sc t) (file_shape sc' (φt t))
  file_shape_alike (Body f is) sc sc' c = k.structure (entries f sc is) (entries (φ f) sc' is) (entries_alike f is sc sc' c)
  file_shape_alike (Face f is) sc sc' c = k.structure (sig_entries f sc is) (sig_entries (φ f) sc' is) (sig_entries_alike f is sc sc' c)

  maybe_file_alike : (o : Option FileTree) (sc sc' : Entries) → C sc sc' → Same (maybe_file_steps sc o) (maybe_file_steps sc' (over φt o))
  maybe_file_alike None sc sc' c = quiet_alike
  maybe_file_alike (Some t) sc sc' c = file_alike t sc sc' c

  unit_links_alike : (b d : Option FileTree) (sc sc' : Entries) → C sc sc' → Same (unit_links sc b d) (unit_links sc' (over φt b) (over φt d))
  unit_links_alike None None sc sc' c = quiet_alike
  unit_links_alike (Some b) None sc sc' c = quiet_alike
  unit_links_alike None (Some d) sc sc' c = pin_alike (file_shape sc d) (file_shape sc' (φt d)) (file_shape_alike d sc sc' c)
  unit_links_alike (Some b) (Some d) sc sc' c =
      match_alike (file_shape sc b) (file_shape sc' (φt b)) (file_shape sc d) (file_shape sc' (φt d)) (file_shape_alike b sc sc' c)
      (file_shape_alike d sc sc' c)

  parts_alike : (b d : Option FileTree) (sc sc' : Entries) → C sc sc' → S (parts_shape sc b d) (parts_shape sc' (over φt b) (over φt d))
  parts_alike None None sc sc' c = k.opaque
  parts_alike (Some b) None sc sc' c = file_shape_alike b sc sc' c
  parts_alike None (Some d) sc sc' c = file_shape_alike d sc sc' c
  parts_alike (Some b) (Some d) sc sc' c = file_shape_alike d sc sc' c

  unit_alike : (u : UnitTree) (sc sc' : Entries) → C sc sc' → Same (unit_steps sc u) (unit_steps sc' (unit_renumbered φ u))
  unit_alike u sc sc' c =
      both start_alike (both (maybe_file_alike u.body sc sc' c)
      (both (maybe_file_alike u.face sc sc' c) (both (unit_links_alike u.body u.face sc sc' c)
      (weighed_alike (here (last_file u.body u.face) 1) _ (unit_shape sc u) (unit_shape sc' (unit_renumbered φ u))))))

  pub units_alike : (us : List UnitTree) (sc sc' : Entries) → C sc sc' → Same (units_steps sc us) (units_steps sc' (map (unit_renumbered φ) us))
  units_alike [] sc sc' c = quiet_alike
  units_alike (u ∷ us) sc sc' c =
      both (unit_alike u sc sc' c)
      (units_alike us (after_unit sc u) (after_unit sc' (unit_renumbered φ u))
      (k.on sc sc' _ _ c (k.module_too u.name (unit_shape sc u) (unit_shape sc' (unit_renumbered φ u)) (parts_alike u.body u.face sc sc' c))))
