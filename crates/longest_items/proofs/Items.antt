-- What is read of the words of an item that is no expression, and more tokens, ends no earlier than they do.
use Rattle.std.proofs.Common.{◌≡◌, ℕ, zero, suc, ◌≤◌, List, [], ◌∷◌, ◌++◌, length, Bool, true, false, Option, None, refl, arith}
use Rattle.ml_trees.specs.declared.fixed.Fixed.TheVariants as key
use Rattle.ml_trees.specs.Tok.{Name, Tok, fixed, placed}
use Rattle.ml_trees.proofs.Words.{path_then, name_then, optional_then, bang_then, binding_then, bindings_then, texts_then, external_then, mod_then}
use Rattle.ml_trees.proofs.Words.{functor_params_then, mod_type_then, signature_then, sig_item_then}
use Rattle.ml_trees.proofs.Words.{item_then as item_then_words}
use Rattle.ml_trees.specs.WellFormed.{WfOpen, WfExternal, WfBinding, WfBindings, WfMod, WfFunctorParams, WfModType, WfSignature, WfItem, WfSigItem}
use Rattle.ml_trees.specs.Tree.{ValueName, Binding, Bindings, ModuleName, ModExpr, FunctorParams, ModType, MaybeType, Item, ExprItem, SeparatorItem}
use Rattle.ml_trees.specs.Tree.{ValueItem, ExternalItem, TypeItem, ExceptionItem, ModuleItem, ModuleTypeItem, OpenItem, IncludeItem, SigItem}
use Rattle.ml_trees.specs.Tree.{SeparatorSig, ValSig, ExternalSig, TypeSig, ExceptionSig, ModuleSig, AliasSig, ModuleTypeSig, OpenSig, IncludeSig}
use Rattle.token_reading.specs.Steps.{many, always}
use Rattle.pattern_reading.proofs.LongerPat.{name_longer, run_longer, optional_longer}
use Rattle.token_reading.proofs.ReachPieces.{name_read, type_run_read}
use Rattle.expr_reading.specs.declared.wanted.Wanted.TheVariants as wanted
use Rattle.expr_reading.specs.ExprReading.{read_expr}
use Rattle.expr_laws.proofs.GoesExpr.{Begun, fixed_begun}
use Rattle.expr_laws.proofs.LongerExpr.{bang_more}
use Rattle.expr_laws.proofs.ReachForms.{bang_read}
use Rattle.module_reading.specs.ModReading.{text_word, External, external_rest, open_rest, value_rest, plain_item, sig_item}
use Rattle.module_laws.proofs.LongerMod.{module_name_more, functor_params_more, signature_more}
use Rattle.module_laws.proofs.ReachMod.{not_begun, expr_none, sig_item_at, name_read_module, params_exact, plain_at, signature_read}
use Rattle.module_laws.proofs.ReachMod.{signature_no_paren, module_is, module_sig_is, params_good, maybe_good}
use Rattle.longest_items.proofs.Passing.{Passes, pass_map, pass_as, exactly, type_run_pass, declaration_run_pass, path_pass, texts_pass}
use Rattle.longest_items.proofs.Lets.{bindings_pass, value_bound}
use Rattle.longest_items.proofs.Modules.{read_mod_pass}
use Rattle.longest_items.proofs.Types.{read_type_pass}

-- ---- where no expression begins

-- no expression, and no bindings
abbrev pub is_solid : Item → Bool
is_solid (ExprItem e) = false
is_solid (ValueItem at recursive b bs) = false
is_solid _ = true

solid_not_begun : (i : Item) (k : List Tok) → is_solid i ≡ true → Begun (item_then_words i k) → ⊥
solid_not_begun (ExprItem e) k p b = absurd cc
solid_not_begun SeparatorItem k p b = fixed_begun key.DoubleSemicolon k b
solid_not_begun (ValueItem at recursive v vs) k p b = absurd cc
solid_not_begun (ExternalItem x run at texts) k p b = fixed_begun key.External _ b
solid_not_begun (TypeItem run) k p b = fixed_begun key.Type _ b
solid_not_begun (ExceptionItem at run) k p b = not_begun (placed key.Exception at) _ refl b
solid_not_begun (ModuleItem at x ps t q m) k p b = not_begun (placed key.Module at) _ refl b
solid_not_begun (ModuleTypeItem at x q t) k p b = not_begun (placed key.Module at) _ refl b
solid_not_begun (OpenItem at bang path) k p b = not_begun (placed key.Open at) _ refl b
solid_not_begun (IncludeItem at m) k p b = not_begun (placed key.Include at) _ refl b

pub solid_unread : (f : ℕ) (i : Item) (k : List Tok) → is_solid i ≡ true → read_expr f wanted.Sequence (item_then_words i k) ≡ None
solid_unread f i k p = expr_none f (item_then_words i k) (solid_not_begun i k p)

-- ---- `external` and `open`

abbrev external_as : ValueName → List Tok → ℕ → List Name → External
external_as x run at texts = record { name = x; run = run; at = at; texts = texts }

external_pass : (f : ℕ) (x : ValueName) (run : List Tok) (at : ℕ) (texts : List Name) (r : List Tok) → WfExternal x run texts
    → length (external_then x run at texts r) ≤ suc f
    → Passes r (external_rest f (name_then x (fixed key.Colon ∷ (run ++ (placed key.Equals at ∷ texts_then texts r)))))
unfolding external_rest many
external_pass f x run at [] r w len = absurd (w.2 refl)
external_pass zero x run at (y ∷ ys) r w len =
    absurd (omega (arith, len, name_longer x (fixed key.Colon ∷ (run ++ (placed key.Equals at ∷ texts_then (y ∷ ys) r)))))
external_pass (suc f) x run at (y ∷ ys) r w len =
    let behind : List Tok = placed key.Equals at ∷ texts_then (y ∷ ys) r in
    let rest : List Tok = fixed key.Colon ∷ (run ++ behind) in
    let l = name_longer x rest in
    let l2 = run_longer run behind in
    let more = many [] ◌∷◌ always text_word f (texts_then ys r) in
    rw (name_read x rest w.0, type_run_read run behind w.1 refl)
    ((external_as x run at (y ∷ more.0), more.1), refl, texts_pass ys r f (omega (arith, len, l, l2)))

open_pass : (f : ℕ) (bang : Option Name) (path : List Name) (r : List Tok) → WfOpen bang path → length (path_then path r) ≤ suc f
    → Passes r (open_rest f (bang_then bang (path_then path r)))
unfolding open_rest
open_pass f bang path r w len = rw (bang_read bang path r w.0 w.1) (pass_map r (λ (p : List Name). (bang, p)) (path_pass f path r w.1 len))

module _ (f : ℕ) where
  -- ---- items of bodies

  value_is : (at : ℕ) (ts : List Tok) → plain_at f (placed key.Let at ∷ ts) ≡ value_rest f at ts
  unfolding plain_item
  value_is at ts = refl

  value_pass : (at : ℕ) (recursive : Bool) (b : Binding) (bs : Bindings) (r : List Tok) → WfBinding b → WfBindings bs
      → length (item_then_words (ValueItem at recursive b bs) r) ≤ suc f → Passes r (plain_at f (item_then_words (ValueItem at recursive b bs) r))
  value_pass at recursive b bs r w ws len =
      let k : List Tok = binding_then b (bindings_then bs r) in
      rw (value_is at (optional_then key.Rec recursive k), value_bound f at recursive b (bindings_then bs r) w)
      (pass_map r (λ (z : Binding × Bindings). ValueItem at recursive z.0 z.1)
      (bindings_pass f b bs r w ws (omega (arith, len, optional_longer key.Rec recursive k))))

  module_pass : (at : ℕ) (x : ModuleName) (ps : FunctorParams) (s : MaybeType) (q : ℕ) (m : ModExpr) (r : List Tok) → WfFunctorParams ps
      → WfSignature s → WfMod m → length (item_then_words (ModuleItem at x ps s q m) r) ≤ suc f
      → Passes r (plain_at f (item_then_words (ModuleItem at x ps s q m) r))
  module_pass at x ps s q m r wp ws wm len =
      let k1 : List Tok = placed key.Equals q ∷ mod_then m r in
      let k2 : List Tok = signature_then s k1 in
      let k3 : List Tok = functor_params_then ps k2 in
      let l0 = module_name_more x k3 in
      let l1 = functor_params_more ps k2 in
      let l2 = signature_more s k1 in
      let p = params_exact f ps (params_good ps) wp k2 (signature_no_paren f s q (mod_then m r)) (omega (arith, len, l0)) in
      let t = signature_read f s q (mod_then m r) (maybe_good s) ws (omega (arith, len, l0, l1)) in
      let inside = read_mod_pass m wm f r (omega (arith, len, l0, l1, l2)) in
      pass_as r (module_is f at x k3) (rw (name_read_module f x k3, p, t) (pass_map r (ModuleItem at x ps s q) inside))

  pub plain_pass : (i : Item) (r : List Tok) → WfItem false i → length (item_then_words i r) ≤ suc f → Passes r (plain_at f (item_then_words i r))
  unfolding plain_item
  plain_pass (ExprItem e) r w len = absurd (let q = w.0 in cc)
  plain_pass SeparatorItem r w len = exactly SeparatorItem refl
  plain_pass (ValueItem at recursive b bs) r w len = value_pass at recursive b bs r w.0 w.1 len
  plain_pass (ExternalItem x run at texts) r w len =
      pass_map r (λ (e : External). ExternalItem e.name e.run e.at e.texts) (external_pass f x run at texts r w len)
  plain_pass (TypeItem run) r w len = pass_map r TypeItem (declaration_run_pass run r w)
  plain_pass (ExceptionItem at run) r w len = pass_map r (ExceptionItem at) (declaration_run_pass run r w)
  plain_pass (ModuleItem at x ps t q m) r w len = module_pass at x ps t q m r w.0 w.1 w.2 len
  plain_pass (ModuleTypeItem at x q t) r w len = pass_map r (ModuleTypeItem at x q) (read_type_pass t w f r (omega (arith, len)))
  plain_pass (OpenItem at bang path) r w len =
      pass_map r (λ (x : Option Name × List Name). OpenItem at x.0 x.1)
      (open_pass f bang path r w (omega (arith, len, bang_more bang (path_then path r))))
  plain_pass (IncludeItem at m) r w len = pass_map r (IncludeItem at) (read_mod_pass m w f r (omega (arith, len)))

  -- ---- items of interfaces

  module_sig_pass : (at : ℕ) (x : ModuleName) (ps : FunctorParams) (s : ModType) (r : List Tok) → WfFunctorParams ps → WfModType s
      → length (sig_item_then (ModuleSig at x ps s) r) ≤ suc f → Passes r (sig_item_at f (sig_item_then (ModuleSig at x ps s) r))
  module_sig_pass at x ps s r w ws len =
      let k1 : List Tok = fixed key.Colon ∷ mod_type_then s r in
      let k2 : List Tok = functor_params_then ps k1 in
      let l0 = module_name_more x k2 in
      let l1 = functor_params_more ps k1 in
      let p = params_exact f ps (params_good ps) w k1 tt (omega (arith, len, l0)) in
      let inside = read_type_pass s ws f r (omega (arith, len, l0, l1)) in
      pass_as r (module_sig_is f at x ps (mod_type_then s r)) (rw (name_read_module f x k2, p) (pass_map r (ModuleSig at x ps) inside))

  pub sig_item_pass : (i : SigItem) (r : List Tok) → WfSigItem i → length (sig_item_then i r) ≤ suc f
      → Passes r (sig_item_at f (sig_item_then i r))
  unfolding sig_item
  sig_item_pass SeparatorSig r w len = exactly SeparatorSig refl
  sig_item_pass (ValSig x run) r w len =
      rw (name_read x (fixed key.Colon ∷ (run ++ r)) w.0) (pass_map r (ValSig x) (type_run_pass run r w.1))
  sig_item_pass (ExternalSig x run at texts) r w len =
      pass_map r (λ (e : External). ExternalSig e.name e.run e.at e.texts) (external_pass f x run at texts r w len)
  sig_item_pass (TypeSig run) r w len = pass_map r TypeSig (declaration_run_pass run r w)
  sig_item_pass (ExceptionSig at run) r w len = pass_map r (ExceptionSig at) (declaration_run_pass run r w)
  sig_item_pass (ModuleSig at x ps t) r w len = module_sig_pass at x ps t r w.0 w.1 len
  sig_item_pass (AliasSig at x q path) r w len = pass_map r (AliasSig at x q) (path_pass f path r w (omega (arith, len)))
  sig_item_pass (ModuleTypeSig at x q t) r w len = pass_map r (ModuleTypeSig at x q) (read_type_pass t w f r (omega (arith, len)))
  sig_item_pass (OpenSig at bang path) r w len =
      pass_map r (λ (x : Option Name × List Name). OpenSig at x.0 x.1)
      (open_pass f bang path r w (omega (arith, len, bang_more bang (path_then path r))))
  sig_item_pass (IncludeSig at t) r w len = pass_map r (IncludeSig at) (read_type_pass t w f r (omega (arith, len)))
