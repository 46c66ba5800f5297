-- What is read as a module, a module type or an item is one, and has the words read.
use Rattle.std.proofs.Common.{◌≡◌, ℕ, zero, suc, List, [], ◌∷◌, ◌++◌, Bool, true, false, cond, Option, Some, None, refl, sym, ap, subst, ◌∙◌}
use Rattle.rotor_base.specs.declared.token.Class.TheVariants as class
use Rattle.ml_trees.specs.declared.fixed.Fixed.{Fixed}
use Rattle.ml_trees.specs.declared.fixed.Fixed.TheVariants as key
use Rattle.ml_trees.specs.Tok.{Name, Tok, fixed, placed, word}
use Rattle.expr_reading.specs.declared.wanted.Wanted.TheVariants as wanted
use Rattle.ml_trees.proofs.Words.{path_then, name_then, optional_then, bang_then, module_name_then, constraint_then, constraints_then, withs_then}
use Rattle.ml_trees.proofs.Words.{texts_then, external_then, mod_then, mod_argument_then, mod_arguments_then, functor_param_then, functor_params_then}
use Rattle.ml_trees.proofs.Words.{mod_type_then, signature_then, items_then, sig_item_then, sig_items_then, words}
use Rattle.ml_trees.proofs.Words.{item_then as item_then_words}
use Rattle.ml_trees.specs.Runs.{is_type_run}
use Rattle.ml_trees.specs.WellFormed.{WfName, WfOpen, WfExternal, is_constraint_sign, WfConstraint, WfConstraints, WfWiths, is_functor}
use Rattle.ml_trees.specs.WellFormed.{is_simple_mod, is_simple_type, is_separator, WfMod, WfModArgument, WfModArguments, WfFunctorParam}
use Rattle.ml_trees.specs.WellFormed.{WfFunctorParams, WfModType, WfSignature, WfItem, WfItems, WfSigItem, WfSigItems, WfFile}
use Rattle.ml_trees.specs.Tree.{ValueName, Expr, ModuleName, Constraint, WithClause, WithOf, ModExpr, ModPath, Struct, Functor, ModArgument}
use Rattle.ml_trees.specs.Tree.{ModArguments, no_mod_argument, more_mod_argument, FunctorParam, FunctorParams, no_functor_param, more_functor_param}
use Rattle.ml_trees.specs.Tree.{ModType, TypePath, Sig, TypeOf, TypeParen, MaybeType, some_type, Item, ExternalItem, TypeItem, ExceptionItem}
use Rattle.ml_trees.specs.Tree.{ModuleTypeItem, OpenItem, IncludeItem, Items, SigItem, ExternalSig, TypeSig, ExceptionSig, AliasSig, ModuleTypeSig}
use Rattle.ml_trees.specs.Tree.{OpenSig, IncludeSig, SigItems, no_sig_item, more_sig_item, FileTree}
use Rattle.token_reading.specs.Steps.{Read, ◌>>=◌, expect, expect_at, many, always}
use Rattle.token_reading.specs.Pieces.{value_name, type_run, declaration_run}
use Rattle.token_reading.proofs.Stepping.{from_some, bind_ok, expect_ok, expect_at_ok, many_ind}
use Rattle.token_reading.proofs.FoundPieces.{name_found, type_run_found, declaration_run_found}
use Rattle.expr_reading.specs.ExprReading.{optional_bang, upper_path, bindings, read_expr}
use Rattle.expr_laws.proofs.FoundExpr.{bang_found, path_found, bindings_found, expr_reads}
use Rattle.module_reading.specs.ModReading.{grown_mod, module_name, text_word, constraint_sign, optional_private, constraint_rest, constraint}
use Rattle.module_reading.specs.ModReading.{next_constraint, more_constraints, with_clause, with_clauses, External, external_end, external_rest}
use Rattle.module_reading.specs.ModReading.{open_rest, some_bindings, value_rest, named_param, functor_param, functor_params, signature_of}
use Rattle.module_reading.specs.ModReading.{module_rest}
use Rattle.module_reading.specs.ModReading.{plain_item, expression_or, item_of, item_then, items_of, module_sig_rest, val_rest, sig_item, sig_items}
use Rattle.module_reading.specs.ModReading.{mod_closed, simple_mod, argument_closed, mod_argument, mod_arguments, mod_apply, functor_end, mod_expr}
use Rattle.module_reading.specs.ModReading.{simple_type, arrow_or, with_or, with_type, functor_type_end, param_or, mod_type, read_mod, read_type}
use Rattle.module_reading.specs.ModReading.{whole_body, whole_face, read_body, read_face, External}

abbrev key_then : Fixed → List Tok → List Tok
key_then k ts = fixed k ∷ ts

-- ---- small parts

name_ok : (ts : List Tok) (x : ModuleName × List Tok) → module_name ts ≡ Some x → ts ≡ module_name_then x.0 x.1
name_ok (word class.Upper y ∷ ts) x e = from_some (λ (z : ModuleName × List Tok). word class.Upper y ∷ ts ≡ module_name_then z.0 z.1) e refl
name_ok (placed key.Underscore at ∷ ts) x e = from_some (λ (z : ModuleName × List Tok). placed key.Underscore at ∷ ts ≡ module_name_then z.0 z.1) e
    refl
name_ok _ x e = absurd cc

text_ok : (ts : List Tok) (x : Name × List Tok) → text_word ts ≡ Some x → ts ≡ word class.Text x.0 ∷ x.1
text_ok (word class.Text y ∷ ts) x e = from_some (λ (z : Name × List Tok). word class.Text y ∷ ts ≡ word class.Text z.0 ∷ z.1) e refl
text_ok _ x e = absurd cc

texts_found : (n : ℕ) (ts : List Tok) → ts ≡ texts_then (many [] ◌∷◌ always text_word n ts).0 (many [] ◌∷◌ always text_word n ts).1
texts_found n ts = many_ind [] ◌∷◌ always text_word (λ l ts r. ts ≡ texts_then l r)
    (λ ts. refl)
    (λ ts x e. text_ok ts x e)
    (λ ts x l r e h q. text_ok ts x e ∙ ap (λ (k : List Tok). word class.Text x.0 ∷ k) q)
    n ts

sign_by : (t : Tok) (ts : List Tok) (x : Tok × List Tok) (b : Bool) → is_constraint_sign t ≡ b → cond b (Some (t, ts)) None ≡ Some x
    → (is_constraint_sign x.0 ≡ true) × (t ∷ ts ≡ x.0 ∷ x.1)
sign_by t ts x true h e = from_some (λ (z : Tok × List Tok). (is_constraint_sign z.0 ≡ true) × (t ∷ ts ≡ z.0 ∷ z.1)) e (h, refl)
sign_by t ts x false h e = absurd cc

sign_found : (ts : List Tok) (x : Tok × List Tok) → constraint_sign ts ≡ Some x → (is_constraint_sign x.0 ≡ true) × (ts ≡ x.0 ∷ x.1)
sign_found (t ∷ ts) x e = sign_by t ts x (is_constraint_sign t) refl e
sign_found [] x e = absurd cc

private_ok : (ts : List Tok) → ts ≡ optional_then key.Private (optional_private ts).0 (optional_private ts).1
private_ok (fixed key.Private ∷ ts) = refl
private_ok _ = refl

pub record IsConstraint (ts : List Tok) (x : Constraint × List Tok) : Type 0 where
  pub wf : WfConstraint x.0
  pub words : ts ≡ constraint_then x.0 x.1

pub constraint_found : (ts : List Tok) (x : Constraint × List Tok) → constraint ts ≡ Some x → IsConstraint ts x
unfolding constraint
constraint_found ts x e =
    let k = bind_ok (expect key.Type ts) constraint_rest x e in
    let a = bind_ok (type_run k.0) _ x k.2 in
    let s = bind_ok (constraint_sign a.0.1) _ x a.2 in
    let private = optional_private s.0.1 in
    let b = bind_ok (type_run private.1) _ x s.2 in
    let fa = type_run_found k.0 a.0 a.1 in
    let fs = sign_found a.0.1 s.0 s.1 in
    let fb = type_run_found private.1 b.0 b.1 in
    from_some (IsConstraint ts) b.2 (record {
      wf = (fa.wf, fs.0, fb.wf);
      words = expect_ok key.Type ts k.0 k.1
          ∙ ap (λ (w : List Tok). fixed key.Type ∷ w)
          (fa.words ∙ ap (λ (w : List Tok). a.0.0 ++ w)
          (fs.1 ∙ ap (λ (w : List Tok). s.0.0 ∷ w) (private_ok s.0.1 ∙ ap (optional_then key.Private private.0) fb.words)));
    })

pub next_constraint_found : (ts : List Tok) (x : Constraint × List Tok) → next_constraint ts ≡ Some x → (r : List Tok) × (ts ≡ fixed key.And ∷ r)
    × IsConstraint r x
next_constraint_found ts x e = let a = bind_ok (expect key.And ts) constraint x e in (a.0, expect_ok key.And ts a.0 a.1, constraint_found a.0 x a.2)

pub record AreConstraints (cs : List Constraint) (ts r : List Tok) : Type 0 where
  pub wf : WfConstraints cs
  pub words : ts ≡ constraints_then cs r

constraints_found : (n : ℕ) (ts : List Tok) → AreConstraints (more_constraints n ts).0 ts (more_constraints n ts).1
constraints_found n ts = many_ind [] ◌∷◌ always next_constraint AreConstraints
    (λ ts. record { wf = tt; words = refl })
    (λ ts x e. let p = next_constraint_found ts x e in record { wf = (p.2.wf, tt); words = p.1 ∙ ap (λ (w : List Tok). fixed key.And ∷ w) p.2.words })
    (λ ts x l r e h q. let p = next_constraint_found ts x e in
    record { wf = (p.2.wf, q.wf); words = p.1 ∙ ap (λ (w : List Tok). fixed key.And ∷ w) (p.2.words ∙ ap (constraint_then x.0) q.words) })
    n ts

pub record AreWiths (ws : List WithClause) (ts r : List Tok) : Type 0 where
  pub wf : WfWiths ws
  pub words : ts ≡ withs_then ws r

with_bound : (ts : List Tok) (x : Constraint × List Tok) → (expect key.With ts >>= constraint) ≡ Some x → (r : List Tok) × (ts ≡ fixed key.With ∷ r)
    × IsConstraint r x
with_bound ts x e = let a = bind_ok (expect key.With ts) constraint x e in (a.0, expect_ok key.With ts a.0 a.1, constraint_found a.0 x a.2)

pub clause_found : (n : ℕ) (ts : List Tok) (x : WithClause × List Tok) → with_clause n ts ≡ Some x → AreWiths (x.0 ∷ []) ts x.1
unfolding with_clause
clause_found n ts x e =
    let a = bind_ok (expect key.With ts >>= constraint) _ x e in
    let c = with_bound ts a.0 a.1 in
    let m = constraints_found n a.0.1 in
    from_some (λ (z : WithClause × List Tok). AreWiths (z.0 ∷ []) ts z.1) a.2
    (record { wf = (c.2.wf, m.wf, tt); words = c.1 ∙ ap (λ (w : List Tok). fixed key.With ∷ w) (c.2.words ∙ ap (constraint_then a.0.0) m.words) })

withs_cons : (w : WithClause) (ws : List WithClause) (ts r r' : List Tok) → AreWiths (w ∷ []) ts r → AreWiths ws r r' → AreWiths (w ∷ ws) ts r'
withs_cons (WithOf c cs) ws ts r r' a b =
    record {
      wf = (a.wf.0, a.wf.1, b.wf);
      words = a.words
          ∙ ap (λ (k : List Tok). fixed key.With ∷ constraint_then c (constraints_then cs k)) b.words;
    }

withs_found : (n : ℕ) (ts : List Tok) → AreWiths (with_clauses n ts).0 ts (with_clauses n ts).1
withs_found n ts = many_ind [] ◌∷◌ always (with_clause n) AreWiths
    (λ ts. record { wf = tt; words = refl })
    (λ ts x e. clause_found n ts x e)
    (λ ts x l r e h q. withs_cons x.0 l ts x.1 r (clause_found n ts x e) q)
    n ts

pub record IsExternal (ts : List Tok) (x : External × List Tok) : Type 0 where
  pub wf : WfExternal x.0.name x.0.run x.0.texts
  pub words : fixed key.External ∷ ts ≡ external_then x.0.name x.0.run x.0.at x.0.texts x.1

external_by : (y : ValueName) (run : List Tok) (at : ℕ) (m : List Name × List Tok) (ts : List Tok) (x : External × List Tok) → WfName y
    → is_type_run run ≡ true → ts ≡ name_then y (fixed key.Colon ∷ (run ++ (placed key.Equals at ∷ texts_then m.0 m.1)))
    → external_end y run at m ≡ Some x → IsExternal ts x
external_by y run at ([], r) ts x w t q e = absurd cc
external_by y run at (z ∷ zs, r) ts x w t q e =
    from_some (IsExternal ts) e (record { wf = (w, t, λ h. cc); words = ap (λ (k : List Tok). fixed key.External ∷ k) q })

pub external_found : (n : ℕ) (ts : List Tok) (x : External × List Tok) → external_rest n ts ≡ Some x → IsExternal ts x
unfolding external_rest
external_found n ts x e =
    let y = bind_ok (value_name ts) _ x e in
    let c = bind_ok (expect key.Colon y.0.1) _ x y.2 in
    let run = bind_ok (type_run c.0) _ x c.2 in
    let q = bind_ok (expect_at key.Equals run.0.1) _ x run.2 in
    let fy = name_found ts y.0 y.1 in
    let fr = type_run_found c.0 run.0 run.1 in
    external_by y.0.0 run.0.0 q.0.0 (many [] ◌∷◌ always text_word n q.0.1) ts x fy.wf fr.wf
    (fy.words ∙ ap (name_then y.0.0)
    (expect_ok key.Colon y.0.1 c.0 c.1
    ∙ ap (λ (k : List Tok). fixed key.Colon ∷ k)
    (fr.words ∙ ap (λ (k : List Tok). run.0.0 ++ k)
    (expect_at_ok key.Equals run.0.1 q.0 q.1 ∙ ap (λ (k : List Tok). placed key.Equals q.0.0 ∷ k) (texts_found n q.0.1))))) q.2

pub record IsOpen (ts : List Tok) (x : (Option Name × List Name) × List Tok) : Type 0 where
  pub wf : WfOpen x.0.0 x.0.1
  pub words : ts ≡ bang_then x.0.0 (path_then x.0.1 x.1)

pub open_found : (n : ℕ) (ts : List Tok) (x : (Option Name × List Name) × List Tok) → open_rest n ts ≡ Some x → IsOpen ts x
unfolding open_rest
open_found n ts x e =
    let a = bind_ok (upper_path n (optional_bang ts).1) _ x e in
    let b = bang_found ts in
    let p = path_found n (optional_bang ts).1 a.0 a.1 in
    from_some (IsOpen ts) a.2 (record { wf = (b.0, p.0); words = b.1 ∙ ap (bang_then (optional_bang ts).0) p.1 })

pub record IsItem (fresh : Bool) (ts : List Tok) (x : Item × List Tok) : Type 0 where
  pub wf : WfItem fresh x.0
  pub words : ts ≡ item_then_words x.0 x.1

bound_item : (n : ℕ) (recursive : Bool) (at : ℕ) (ts : List Tok) (x : Item × List Tok) → some_bindings n recursive at ts ≡ Some x → (fresh : Bool)
    → IsItem fresh (placed key.Let at ∷ optional_then key.Rec recursive ts) x
bound_item n recursive at ts x e fresh =
    let a = bind_ok (bindings (read_expr n) n ts) _ x e in
    let b = bindings_found (read_expr n) n (expr_reads n) ts a.0 a.1 in
    from_some (IsItem fresh (placed key.Let at ∷ optional_then key.Rec recursive ts)) a.2
    (record { wf = (b.first, b.more); words = ap (λ (k : List Tok). placed key.Let at ∷ optional_then key.Rec recursive k) b.words })

value_found : (n at : ℕ) (ts : List Tok) (x : Item × List Tok) → value_rest n at ts ≡ Some x → (fresh : Bool)
    → IsItem fresh (placed key.Let at ∷ ts) x
unfolding value_rest
value_found n at (fixed key.Rec ∷ ts) x e fresh = bound_item n true at ts x e fresh
value_found n at ts x e fresh = bound_item n false at ts x e fresh

-- ---- modules and module types

pub record IsMod (ts : List Tok) (x : ModExpr × List Tok) : Type 0 where
  pub wf : WfMod x.0
  pub words : ts ≡ mod_then x.0 x.1

pub record IsType (ts : List Tok) (x : ModType × List Tok) : Type 0 where
  pub wf : WfModType x.0
  pub words : ts ≡ mod_type_then x.0 x.1

abbrev pub FindsMod : Read ModExpr → Type 0
FindsMod one = (ts : List Tok) (x : ModExpr × List Tok) → one ts ≡ Some x → IsMod ts x

abbrev pub FindsType : Read ModType → Type 0
FindsType one = (ts : List Tok) (x : ModType × List Tok) → one ts ≡ Some x → IsType ts x

pub record IsSimple (ts : List Tok) (x : ModExpr × List Tok) : Type 0 where
  pub simple : is_simple_mod x.0 ≡ true
  pub body : IsMod ts x

pub record IsApply (ts : List Tok) (x : ModExpr × List Tok) : Type 0 where
  pub plain : is_functor x.0 ≡ false
  pub body : IsMod ts x

pub record IsSimpleType (ts : List Tok) (x : ModType × List Tok) : Type 0 where
  pub simple : is_simple_type x.0 ≡ true
  pub whole : IsType ts x

pub simple_plain : (m : ModExpr) → is_simple_mod m ≡ true → is_functor m ≡ false
simple_plain (Functor at ps m) h = absurd cc
simple_plain _ h = refl

module _ (sub_mod : Read ModExpr) (sub_type : Read ModType) (n : ℕ) (mods : FindsMod sub_mod) (types : FindsType sub_type) where
  pub record IsParam (ts : List Tok) (x : FunctorParam × List Tok) : Type 0 where
    pub wf : WfFunctorParam x.0
    pub words : ts ≡ functor_param_then x.0 x.1

  named_found : (at : ℕ) (ts : List Tok) (x : FunctorParam × List Tok) → named_param sub_mod sub_type n at ts ≡ Some x
      → IsParam (placed key.LeftParen at ∷ ts) x
  named_found at ts x e =
      let a = bind_ok (module_name ts) _ x e in
      let b = bind_ok (expect key.Colon a.0.1) _ x a.2 in
      let c = bind_ok (sub_type b.0) _ x b.2 in
      let d = bind_ok (expect key.RightParen c.0.1) _ x c.2 in
      let s = types b.0 c.0 c.1 in
      from_some (IsParam (placed key.LeftParen at ∷ ts)) d.2
      (record {
        wf = s.wf;
        words = ap (λ (k : List Tok). placed key.LeftParen at ∷ k)
            (name_ok ts a.0 a.1 ∙ ap (module_name_then a.0.0)
            (expect_ok key.Colon a.0.1 b.0 b.1
            ∙ ap (λ (k : List Tok). fixed key.Colon ∷ k) (s.words ∙ ap (mod_type_then c.0.0) (expect_ok key.RightParen c.0.1 d.0 d.1))));
      })

  pub functor_param_found : (ts : List Tok) (x : FunctorParam × List Tok) → functor_param sub_mod sub_type n ts ≡ Some x → IsParam ts x
  unfolding functor_param
  functor_param_found (placed key.LeftParen at ∷ fixed key.RightParen ∷ ts) x e =
      from_some (IsParam (placed key.LeftParen at ∷ fixed key.RightParen ∷ ts)) e (record { wf = tt; words = refl })
  functor_param_found (placed key.LeftParen at ∷ ts) x e = named_found at ts x e
  functor_param_found _ x e = absurd cc

  pub record AreParams (ps : FunctorParams) (ts r : List Tok) : Type 0 where
    pub wf : WfFunctorParams ps
    pub words : ts ≡ functor_params_then ps r

  params_found : (ts : List Tok) → AreParams (functor_params sub_mod sub_type n ts).0 ts (functor_params sub_mod sub_type n ts).1
  params_found ts = many_ind no_functor_param more_functor_param always (functor_param sub_mod sub_type n) AreParams
      (λ ts. record { wf = tt; words = refl })
      (λ ts x e. let p = functor_param_found ts x e in record { wf = (p.wf, tt); words = p.words })
      (λ ts x l r e h q. let p = functor_param_found ts x e in record { wf = (p.wf, q.wf); words = p.words ∙ ap (functor_param_then x.0) q.words })
      n ts

  record IsSignature (ts : List Tok) (x : MaybeType × List Tok) : Type 0 where
    wf : WfSignature x.0
    words : ts ≡ signature_then x.0 x.1

  colon_found : (ts : List Tok) (x : MaybeType × List Tok) → (sub_type ts >>= λ s. Some (some_type s.0, s.1)) ≡ Some x
      → IsSignature (fixed key.Colon ∷ ts) x
  colon_found ts x e =
      let a = bind_ok (sub_type ts) _ x e in
      let s = types ts a.0 a.1 in
      from_some (IsSignature (fixed key.Colon ∷ ts)) a.2 (record { wf = s.wf; words = ap (λ (k : List Tok). fixed key.Colon ∷ k) s.words })

  signature_found : (ts : List Tok) (x : MaybeType × List Tok) → signature_of sub_mod sub_type n ts ≡ Some x → IsSignature ts x
  signature_found (fixed key.Colon ∷ ts) x e = colon_found ts x e
  signature_found ts x e = from_some (IsSignature ts) e (record { wf = tt; words = refl })

  -- ---- items

  module_found : (fresh : Bool) (at : ℕ) (ts : List Tok) (x : Item × List Tok) → module_rest sub_mod sub_type n at ts ≡ Some x
      → IsItem fresh (placed key.Module at ∷ ts) x
  module_found fresh at ts x e =
      let a = bind_ok (module_name ts) _ x e in
      let ps = functor_params sub_mod sub_type n a.0.1 in
      let s = bind_ok (signature_of sub_mod sub_type n ps.1) _ x a.2 in
      let q = bind_ok (expect_at key.Equals s.0.1) _ x s.2 in
      let m = bind_ok (sub_mod q.0.1) _ x q.2 in
      let fp = params_found a.0.1 in
      let fs = signature_found ps.1 s.0 s.1 in
      let fm = mods q.0.1 m.0 m.1 in
      from_some (IsItem fresh (placed key.Module at ∷ ts)) m.2 (record {
        wf = (fp.wf, fs.wf, fm.wf);
        words = ap (λ (k : List Tok). placed key.Module at ∷ k)
            (name_ok ts a.0 a.1 ∙ ap (module_name_then a.0.0)
            (fp.words ∙ ap (functor_params_then ps.0)
            (fs.words ∙ ap (signature_then s.0.0)
            (expect_at_ok key.Equals s.0.1 q.0 q.1 ∙ ap (λ (k : List Tok). placed key.Equals q.0.0 ∷ k) fm.words))));
      })

  external_item : (fresh : Bool) (ts : List Tok) (x : Item × List Tok)
      → (external_rest n ts >>= λ x. Some (ExternalItem x.0.name x.0.run x.0.at x.0.texts, x.1)) ≡ Some x → IsItem fresh (fixed key.External ∷ ts) x
  external_item fresh ts x e =
      let a = bind_ok (external_rest n ts) _ x e in
      let f = external_found n ts a.0 a.1 in
      from_some (IsItem fresh (fixed key.External ∷ ts)) a.2 (record { wf = f.wf; words = f.words })

  type_item : (fresh : Bool) (ts : List Tok) (x : Item × List Tok) → (declaration_run ts >>= λ run. Some (TypeItem run.0, run.1)) ≡ Some x
      → IsItem fresh (fixed key.Type ∷ ts) x
  type_item fresh ts x e =
      let a = bind_ok (declaration_run ts) _ x e in
      let f = declaration_run_found ts a.0 a.1 in
      from_some (IsItem fresh (fixed key.Type ∷ ts)) a.2 (record { wf = f.wf; words = ap (λ (k : List Tok). fixed key.Type ∷ k) f.words })

  exception_item : (fresh : Bool) (at : ℕ) (ts : List Tok) (x : Item × List Tok)
      → (declaration_run ts >>= λ run. Some (ExceptionItem at run.0, run.1)) ≡ Some x → IsItem fresh (placed key.Exception at ∷ ts) x
  exception_item fresh at ts x e =
      let a = bind_ok (declaration_run ts) _ x e in
      let f = declaration_run_found ts a.0 a.1 in
      from_some (IsItem fresh (placed key.Exception at ∷ ts)) a.2
      (record { wf = f.wf; words = ap (λ (k : List Tok). placed key.Exception at ∷ k) f.words })

  module_type_item : (fresh : Bool) (at : ℕ) (y : Name) (q : ℕ) (ts : List Tok) (x : Item × List Tok)
      → (sub_type ts >>= λ s. Some (ModuleTypeItem at y q s.0, s.1)) ≡ Some x
      → IsItem fresh (placed key.Module at ∷ fixed key.Type ∷ word class.Upper y ∷ placed key.Equals q ∷ ts) x
  module_type_item fresh at y q ts x e =
      let a = bind_ok (sub_type ts) _ x e in
      let f = types ts a.0 a.1 in
      from_some (IsItem fresh (placed key.Module at ∷ fixed key.Type ∷ word class.Upper y ∷ placed key.Equals q ∷ ts)) a.2
      (record {
        wf = f.wf;
        words = ap (λ (k : List Tok). placed key.Module at ∷ fixed key.Type ∷ word class.Upper y ∷ placed key.Equals q ∷ k)
            f.words;
      })

  open_item : (fresh : Bool) (at : ℕ) (ts : List Tok) (x : Item × List Tok) → (open_rest n ts >>= λ x. Some (OpenItem at x.0.0 x.0.1, x.1)) ≡ Some x
      → IsItem fresh (placed key.Open at ∷ ts) x
  open_item fresh at ts x e =
      let a = bind_ok (open_rest n ts) _ x e in
      let f = open_found n ts a.0 a.1 in
      from_some (IsItem fresh (placed key.Open at ∷ ts)) a.2 (record { wf = f.wf; words = ap (λ (k : List Tok). placed key.Open at ∷ k) f.words })

  include_item : (fresh : Bool) (at : ℕ) (ts : List Tok) (x : Item × List Tok) → (sub_mod ts >>= λ m. Some (IncludeItem at m.0, m.1)) ≡ Some x
      → IsItem fresh (placed key.Include at ∷ ts) x
  include_item fresh at ts x e =
      let a = bind_ok (sub_mod ts) _ x e in
      let f = mods ts a.0 a.1 in
      from_some (IsItem fresh (placed key.Include at ∷ ts)) a.2
      (record { wf = f.wf; words = ap (λ (k : List Tok). placed key.Include at ∷ k) f.words })

  plain_item_found : (fresh : Bool) (ts : List Tok) (x : Item × List Tok) → plain_item sub_mod sub_type n ts ≡ Some x → IsItem fresh ts x
  unfolding plain_item
  plain_item_found fresh (placed key.Let at ∷ ts) x e = value_found n at ts x e fresh
  plain_item_found fresh (fixed key.DoubleSemicolon ∷ ts) x e = from_some (IsItem fresh (fixed key.DoubleSemicolon ∷ ts)) e
      (record { wf = tt; words = refl })
  plain_item_found fresh (fixed key.External ∷ ts) x e = external_item fresh ts x e
  plain_item_found fresh (fixed key.Type ∷ ts) x e = type_item fresh ts x e
  plain_item_found fresh (placed key.Exception at ∷ ts) x e = exception_item fresh at ts x e
  plain_item_found fresh (placed key.Module at ∷ fixed key.Type ∷ word class.Upper y ∷ placed key.Equals q ∷ ts) x e =
      module_type_item fresh at y q ts x e
  plain_item_found fresh (placed key.Module at ∷ ts) x e = module_found fresh at ts x e
  plain_item_found fresh (placed key.Open at ∷ ts) x e = open_item fresh at ts x e
  plain_item_found fresh (placed key.Include at ∷ ts) x e = include_item fresh at ts x e
  plain_item_found fresh _ x e = absurd cc

  expression_by : (ts : List Tok) (x : Item × List Tok) (o : Option (Expr × List Tok)) → read_expr n wanted.Sequence ts ≡ o
      → expression_or sub_mod sub_type n ts o ≡ Some x → IsItem true ts x
  expression_by ts x (Some y) q e = let f = expr_reads n wanted.Sequence ts y q in
      from_some (IsItem true ts) e (record { wf = (refl, f.wf); words = f.words })
  expression_by ts x None q e = plain_item_found true ts x e

  pub item_found : (fresh : Bool) (ts : List Tok) (x : Item × List Tok) → item_of sub_mod sub_type n fresh ts ≡ Some x → IsItem fresh ts x
  unfolding item_of
  item_found true ts x e = expression_by ts x (read_expr n wanted.Sequence ts) refl e
  item_found false ts x e = plain_item_found false ts x e

  pub record AreItems (fresh : Bool) (ts : List Tok) (x : Items × List Tok) : Type 0 where
    pub wf : WfItems fresh x.0
    pub words : ts ≡ items_then x.0 x.1

  items_by : (k : ℕ) (fresh : Bool) (ts : List Tok) → ((b : Bool) (r : List Tok) → AreItems b r (items_of sub_mod sub_type n k b r))
      → (o : Option (Item × List Tok)) → item_of sub_mod sub_type n fresh ts ≡ o
      → AreItems fresh ts (item_then sub_mod sub_type n (items_of sub_mod sub_type n k) ts o)
  items_by k fresh ts more None e = record { wf = tt; words = refl }
  items_by k fresh ts more (Some x) e =
      let a = item_found fresh ts x e in
      let b = more (is_separator x.0) x.1 in
      record { wf = (a.wf, b.wf); words = a.words ∙ ap (item_then_words x.0) b.words }

  pub items_found : (k : ℕ) (fresh : Bool) (ts : List Tok) → AreItems fresh ts (items_of sub_mod sub_type n k fresh ts)
  unfolding items_of
  items_found zero fresh ts = record { wf = tt; words = refl }
  items_found (suc k) fresh ts = items_by k fresh ts (items_found k) (item_of sub_mod sub_type n fresh ts) refl

  -- ---- items of signatures

  pub record IsSigItem (ts : List Tok) (x : SigItem × List Tok) : Type 0 where
    pub wf : WfSigItem x.0
    pub words : ts ≡ sig_item_then x.0 x.1

  val_found : (ts : List Tok) (x : SigItem × List Tok) → val_rest sub_mod sub_type n ts ≡ Some x → IsSigItem (fixed key.Val ∷ ts) x
  val_found ts x e =
      let y = bind_ok (value_name ts) _ x e in
      let c = bind_ok (expect key.Colon y.0.1) _ x y.2 in
      let run = bind_ok (type_run c.0) _ x c.2 in
      let fy = name_found ts y.0 y.1 in
      let fr = type_run_found c.0 run.0 run.1 in
      from_some (IsSigItem (fixed key.Val ∷ ts)) run.2
      (record {
        wf = (fy.wf, fr.wf);
        words = ap (λ (k : List Tok). fixed key.Val ∷ k)
            (fy.words ∙ ap (name_then y.0.0) (expect_ok key.Colon y.0.1 c.0 c.1 ∙ ap (λ (k : List Tok). fixed key.Colon ∷ k) fr.words));
      })

  external_sig : (ts : List Tok) (x : SigItem × List Tok) → (external_rest n ts >>= λ x. Some (ExternalSig x.0.name x.0.run x.0.at x.0.texts, x.1))
      ≡ Some x → IsSigItem (fixed key.External ∷ ts) x
  external_sig ts x e =
      let a = bind_ok (external_rest n ts) _ x e in
      let f = external_found n ts a.0 a.1 in
      from_some (IsSigItem (fixed key.External ∷ ts)) a.2 (record { wf = f.wf; words = f.words })

  type_sig : (ts : List Tok) (x : SigItem × List Tok) → (declaration_run ts >>= λ run. Some (TypeSig run.0, run.1)) ≡ Some x
      → IsSigItem (fixed key.Type ∷ ts) x
  type_sig ts x e =
      let a = bind_ok (declaration_run ts) _ x e in
      let f = declaration_run_found ts a.0 a.1 in
      from_some (IsSigItem (fixed key.Type ∷ ts)) a.2 (record { wf = f.wf; words = ap (λ (k : List Tok). fixed key.Type ∷ k) f.words })

  exception_sig : (at : ℕ) (ts : List Tok) (x : SigItem × List Tok) → (declaration_run ts >>= λ run. Some (ExceptionSig at run.0, run.1)) ≡ Some x
      → IsSigItem (placed key.Exception at ∷ ts) x
  exception_sig at ts x e =
      let a = bind_ok (declaration_run ts) _ x e in
      let f = declaration_run_found ts a.0 a.1 in
      from_some (IsSigItem (placed key.Exception at ∷ ts)) a.2
      (record { wf = f.wf; words = ap (λ (k : List Tok). placed key.Exception at ∷ k) f.words })

  module_type_sig : (at : ℕ) (y : Name) (q : ℕ) (ts : List Tok) (x : SigItem × List Tok)
      → (sub_type ts >>= λ s. Some (ModuleTypeSig at y q s.0, s.1)) ≡ Some x
      → IsSigItem (placed key.Module at ∷ fixed key.Type ∷ word class.Upper y ∷ placed key.Equals q ∷ ts) x
  module_type_sig at y q ts x e =
      let a = bind_ok (sub_type ts) _ x e in
      let f = types ts a.0 a.1 in
      from_some (IsSigItem (placed key.Module at ∷ fixed key.Type ∷ word class.Upper y ∷ placed key.Equals q ∷ ts)) a.2
      (record {
        wf = f.wf;
        words = ap (λ (k : List Tok). placed key.Module at ∷ fixed key.Type ∷ word class.Upper y ∷ placed key.Equals q ∷ k)
            f.words;
      })

  alias_sig : (at : ℕ) (y : Name) (q : ℕ) (ts : List Tok) (x : SigItem × List Tok)
      → (upper_path n ts >>= λ p. Some (AliasSig at y q p.0, p.1)) ≡ Some x
      → IsSigItem (placed key.Module at ∷ word class.Upper y ∷ placed key.Equals q ∷ ts) x
  alias_sig at y q ts x e =
      let a = bind_ok (upper_path n ts) _ x e in
      let f = path_found n ts a.0 a.1 in
      from_some (IsSigItem (placed key.Module at ∷ word class.Upper y ∷ placed key.Equals q ∷ ts)) a.2
      (record { wf = f.0; words = ap (λ (k : List Tok). placed key.Module at ∷ word class.Upper y ∷ placed key.Equals q ∷ k) f.1 })

  module_sig : (at : ℕ) (ts : List Tok) (x : SigItem × List Tok) → module_sig_rest sub_mod sub_type n at ts ≡ Some x
      → IsSigItem (placed key.Module at ∷ ts) x
  module_sig at ts x e =
      let a = bind_ok (module_name ts) _ x e in
      let ps = functor_params sub_mod sub_type n a.0.1 in
      let c = bind_ok (expect key.Colon ps.1) _ x a.2 in
      let s = bind_ok (sub_type c.0) _ x c.2 in
      let fp = params_found a.0.1 in
      let fs = types c.0 s.0 s.1 in
      from_some (IsSigItem (placed key.Module at ∷ ts)) s.2 (record {
        wf = (fp.wf, fs.wf);
        words = ap (λ (k : List Tok). placed key.Module at ∷ k)
            (name_ok ts a.0 a.1 ∙ ap (module_name_then a.0.0)
            (fp.words ∙ ap (functor_params_then ps.0) (expect_ok key.Colon ps.1 c.0 c.1 ∙ ap (λ (k : List Tok). fixed key.Colon ∷ k) fs.words)));
      })

  open_sig : (at : ℕ) (ts : List Tok) (x : SigItem × List Tok) → (open_rest n ts >>= λ x. Some (OpenSig at x.0.0 x.0.1, x.1)) ≡ Some x
      → IsSigItem (placed key.Open at ∷ ts) x
  open_sig at ts x e =
      let a = bind_ok (open_rest n ts) _ x e in
      let f = open_found n ts a.0 a.1 in
      from_some (IsSigItem (placed key.Open at ∷ ts)) a.2 (record { wf = f.wf; words = ap (λ (k : List Tok). placed key.Open at ∷ k) f.words })

  include_sig : (at : ℕ) (ts : List Tok) (x : SigItem × List Tok) → (sub_type ts >>= λ s. Some (IncludeSig at s.0, s.1)) ≡ Some x
      → IsSigItem (placed key.Include at ∷ ts) x
  include_sig at ts x e =
      let a = bind_ok (sub_type ts) _ x e in
      let f = types ts a.0 a.1 in
      from_some (IsSigItem (placed key.Include at ∷ ts)) a.2 (record { wf = f.wf; words = ap (λ (k : List Tok). placed key.Include at ∷ k) f.words })

  pub sig_item_found : (ts : List Tok) (x : SigItem × List Tok) → sig_item sub_mod sub_type n ts ≡ Some x → IsSigItem ts x
  unfolding sig_item
  sig_item_found (fixed key.DoubleSemicolon ∷ ts) x e = from_some (IsSigItem (fixed key.DoubleSemicolon ∷ ts)) e (record { wf = tt; words = refl })
  sig_item_found (fixed key.Val ∷ ts) x e = val_found ts x e
  sig_item_found (fixed key.External ∷ ts) x e = external_sig ts x e
  sig_item_found (fixed key.Type ∷ ts) x e = type_sig ts x e
  sig_item_found (placed key.Exception at ∷ ts) x e = exception_sig at ts x e
  sig_item_found (placed key.Module at ∷ fixed key.Type ∷ word class.Upper y ∷ placed key.Equals q ∷ ts) x e = module_type_sig at y q ts x e
  sig_item_found (placed key.Module at ∷ word class.Upper y ∷ placed key.Equals q ∷ ts) x e = alias_sig at y q ts x e
  sig_item_found (placed key.Module at ∷ ts) x e = module_sig at ts x e
  sig_item_found (placed key.Open at ∷ ts) x e = open_sig at ts x e
  sig_item_found (placed key.Include at ∷ ts) x e = include_sig at ts x e
  sig_item_found _ x e = absurd cc

  pub record AreSigItems (ts : List Tok) (is : SigItems) (r : List Tok) : Type 0 where
    pub wf : WfSigItems is
    pub words : ts ≡ sig_items_then is r

  pub sig_items_found : (ts : List Tok) → AreSigItems ts (sig_items sub_mod sub_type n ts).0 (sig_items sub_mod sub_type n ts).1
  sig_items_found ts = many_ind no_sig_item more_sig_item always (sig_item sub_mod sub_type n) (λ l ts r. AreSigItems ts l r)
      (λ ts. record { wf = tt; words = refl })
      (λ ts x e. let p = sig_item_found ts x e in record { wf = (p.wf, tt); words = p.words })
      (λ ts x l r e h q. let p = sig_item_found ts x e in record { wf = (p.wf, q.wf); words = p.words ∙ ap (sig_item_then x.0) q.words })
      n ts

  -- ---- module expressions

  mod_closed_found : (at : ℕ) (m : ModExpr) (ts : List Tok) (x : ModExpr × List Tok) → WfMod m → mod_closed sub_mod sub_type n at m ts ≡ Some x
      → IsSimple (placed key.LeftParen at ∷ mod_then m ts) x
  mod_closed_found at m (fixed key.RightParen ∷ r) x w e = from_some (IsSimple (placed key.LeftParen at ∷ mod_then m (key_then key.RightParen r))) e
      (record { simple = refl; body = record { wf = w; words = refl } })
  mod_closed_found at m (fixed key.Colon ∷ r) x w e =
      let a = bind_ok (sub_type r) _ x e in
      let b = bind_ok (expect key.RightParen a.0.1) _ x a.2 in
      let s = types r a.0 a.1 in
      from_some (IsSimple (placed key.LeftParen at ∷ mod_then m (key_then key.Colon r))) b.2
      (record {
        simple = refl;
        body = record {
          wf = (w, s.wf);
          words = ap (λ (k : List Tok). placed key.LeftParen at ∷ mod_then m (fixed key.Colon ∷ k))
              (s.words ∙ ap (mod_type_then a.0.0) (expect_ok key.RightParen a.0.1 b.0 b.1));
        };
      })
  mod_closed_found at m _ x w e = absurd cc

  mod_path_found : (y : Name) (ts : List Tok) (x : ModExpr × List Tok)
      → (upper_path n (word class.Upper y ∷ ts) >>= λ p. Some (ModPath p.0, p.1)) ≡ Some x → IsSimple (word class.Upper y ∷ ts) x
  mod_path_found y ts x e =
      let a = bind_ok (upper_path n (word class.Upper y ∷ ts)) (λ p. Some (ModPath p.0, p.1)) x e in
      let p = path_found n (word class.Upper y ∷ ts) a.0 a.1 in
      from_some (IsSimple (word class.Upper y ∷ ts)) a.2 (record { simple = refl; body = record { wf = p.0; words = p.1 } })

  struct_found : (at : ℕ) (ts : List Tok) (x : ModExpr × List Tok)
      → (expect key.End (items_of sub_mod sub_type n n true ts).1 >>= λ r. Some (Struct at (items_of sub_mod sub_type n n true ts).0, r)) ≡ Some x
      → IsSimple (placed key.Struct at ∷ ts) x
  struct_found at ts x e =
      let a = bind_ok (expect key.End (items_of sub_mod sub_type n n true ts).1) _ x e in
      let f = items_found n true ts in
      from_some (IsSimple (placed key.Struct at ∷ ts)) a.2
      (record {
        simple = refl;
        body = record {
          wf = f.wf;
          words = ap (λ (k : List Tok). placed key.Struct at ∷ k)
              (f.words ∙ ap (items_then (items_of sub_mod sub_type n n true ts).0)
              (expect_ok key.End (items_of sub_mod sub_type n n true ts).1 a.0 a.1));
        };
      })

  mod_paren_found : (at : ℕ) (ts : List Tok) (x : ModExpr × List Tok) → (sub_mod ts >>= λ m. mod_closed sub_mod sub_type n at m.0 m.1) ≡ Some x
      → IsSimple (placed key.LeftParen at ∷ ts) x
  mod_paren_found at ts x e =
      let a = bind_ok (sub_mod ts) _ x e in
      let m = mods ts a.0 a.1 in
      subst (λ (k : List Tok). IsSimple (placed key.LeftParen at ∷ k) x) (sym m.words) (mod_closed_found at a.0.0 a.0.1 x m.wf a.2)

  pub simple_mod_found : (ts : List Tok) (x : ModExpr × List Tok) → simple_mod sub_mod sub_type n ts ≡ Some x → IsSimple ts x
  unfolding simple_mod
  simple_mod_found (word class.Upper y ∷ ts) x e = mod_path_found y ts x e
  simple_mod_found (placed key.Struct at ∷ ts) x e = struct_found at ts x e
  simple_mod_found (placed key.LeftParen at ∷ ts) x e = mod_paren_found at ts x e
  simple_mod_found _ x e = absurd cc

  pub record IsArgument (ts : List Tok) (x : ModArgument × List Tok) : Type 0 where
    pub wf : WfModArgument x.0
    pub words : ts ≡ mod_argument_then x.0 x.1

  argument_closed_found : (at : ℕ) (m : ModExpr) (ts : List Tok) (x : ModArgument × List Tok) → WfMod m
      → argument_closed sub_mod sub_type n at m ts ≡ Some x → IsArgument (placed key.LeftParen at ∷ mod_then m ts) x
  argument_closed_found at m (fixed key.RightParen ∷ r) x w e =
      from_some (IsArgument (placed key.LeftParen at ∷ mod_then m (key_then key.RightParen r))) e (record { wf = w; words = refl })
  argument_closed_found at m (fixed key.Colon ∷ r) x w e =
      let a = bind_ok (sub_type r) _ x e in
      let b = bind_ok (expect key.RightParen a.0.1) _ x a.2 in
      let s = types r a.0 a.1 in
      from_some (IsArgument (placed key.LeftParen at ∷ mod_then m (key_then key.Colon r))) b.2
      (record {
        wf = (w, s.wf);
        words = ap (λ (k : List Tok). placed key.LeftParen at ∷ mod_then m (fixed key.Colon ∷ k))
            (s.words ∙ ap (mod_type_then a.0.0) (expect_ok key.RightParen a.0.1 b.0 b.1));
      })
  argument_closed_found at m _ x w e = absurd cc

  paren_argument : (at : ℕ) (ts : List Tok) (x : ModArgument × List Tok)
      → (sub_mod ts >>= λ m. argument_closed sub_mod sub_type n at m.0 m.1) ≡ Some x → IsArgument (placed key.LeftParen at ∷ ts) x
  paren_argument at ts x e =
      let a = bind_ok (sub_mod ts) _ x e in
      let m = mods ts a.0 a.1 in
      subst (λ (k : List Tok). IsArgument (placed key.LeftParen at ∷ k) x) (sym m.words) (argument_closed_found at a.0.0 a.0.1 x m.wf a.2)

  pub mod_argument_found : (ts : List Tok) (x : ModArgument × List Tok) → mod_argument sub_mod sub_type n ts ≡ Some x → IsArgument ts x
  unfolding mod_argument
  mod_argument_found (placed key.LeftParen at ∷ fixed key.RightParen ∷ ts) x e =
      from_some (IsArgument (placed key.LeftParen at ∷ fixed key.RightParen ∷ ts)) e (record { wf = tt; words = refl })
  mod_argument_found (placed key.LeftParen at ∷ ts) x e = paren_argument at ts x e
  mod_argument_found _ x e = absurd cc

  record AreArguments (ms : ModArguments) (ts r : List Tok) : Type 0 where
    wf : WfModArguments ms
    words : ts ≡ mod_arguments_then ms r

  mod_arguments_found : (ts : List Tok) → AreArguments (mod_arguments sub_mod sub_type n ts).0 ts (mod_arguments sub_mod sub_type n ts).1
  mod_arguments_found ts = many_ind no_mod_argument more_mod_argument always (mod_argument sub_mod sub_type n) AreArguments
      (λ ts. record { wf = tt; words = refl })
      (λ ts x e. let p = mod_argument_found ts x e in record { wf = (p.wf, tt); words = p.words })
      (λ ts x l r e h q. let p = mod_argument_found ts x e in record { wf = (p.wf, q.wf); words = p.words ∙ ap (mod_argument_then x.0) q.words })
      n ts

  grown_found : (m : ModExpr) (ms : ModArguments) (ts r r' : List Tok) → IsSimple ts (m, r) → AreArguments ms r r' → IsApply ts (grown_mod m ms, r')
  grown_found m no_mod_argument ts r r' a b =
      record { plain = simple_plain m a.simple; body = record { wf = a.body.wf; words = a.body.words ∙ ap (mod_then m) b.words } }
  grown_found m (more_mod_argument x xs) ts r r' a b =
      record { plain = refl; body = record { wf = (a.simple, a.body.wf, (λ q. cc), b.wf); words = a.body.words ∙ ap (mod_then m) b.words } }

  pub mod_apply_found : (ts : List Tok) (x : ModExpr × List Tok) → mod_apply sub_mod sub_type n ts ≡ Some x → IsApply ts x
  unfolding mod_apply
  mod_apply_found ts x e =
      let a = bind_ok (simple_mod sub_mod sub_type n ts) _ x e in
      from_some (IsApply ts) a.2 (grown_found a.0.0 _ ts a.0.1 _ (simple_mod_found ts a.0 a.1) (mod_arguments_found a.0.1))

  functor_by : (at : ℕ) (ps : FunctorParams) (ts r : List Tok) (x : ModExpr × List Tok) → AreParams ps ts r
      → functor_end sub_mod sub_type n at ps r ≡ Some x → IsMod (placed key.Functor at ∷ ts) x
  functor_by at no_functor_param ts r x f e = absurd cc
  functor_by at (more_functor_param p ps) ts r x f e =
      let a = bind_ok (expect key.Arrow r) _ x e in
      let b = bind_ok (sub_mod a.0) _ x a.2 in
      let m = mods a.0 b.0 b.1 in
      from_some (IsMod (placed key.Functor at ∷ ts)) b.2
      (record {
        wf = ((λ q. cc), f.wf, m.wf);
        words = ap (λ (k : List Tok). placed key.Functor at ∷ k)
            (f.words ∙ ap (functor_params_then (more_functor_param p ps))
            (expect_ok key.Arrow r a.0 a.1 ∙ ap (λ (k : List Tok). fixed key.Arrow ∷ k) m.words));
      })

  pub mod_expr_found : (ts : List Tok) (x : ModExpr × List Tok) → mod_expr sub_mod sub_type n ts ≡ Some x → IsMod ts x
  unfolding mod_expr
  mod_expr_found (placed key.Functor at ∷ ts) x e =
      functor_by at (functor_params sub_mod sub_type n ts).0 ts (functor_params sub_mod sub_type n ts).1 x (params_found ts) e
  mod_expr_found ts x e = (mod_apply_found ts x e).body

  -- ---- module types

  type_path_found : (y : Name) (ts : List Tok) (x : ModType × List Tok)
      → (upper_path n (word class.Upper y ∷ ts) >>= λ p. Some (TypePath p.0, p.1)) ≡ Some x → IsSimpleType (word class.Upper y ∷ ts) x
  type_path_found y ts x e =
      let a = bind_ok (upper_path n (word class.Upper y ∷ ts)) (λ p. Some (TypePath p.0, p.1)) x e in
      let p = path_found n (word class.Upper y ∷ ts) a.0 a.1 in
      from_some (IsSimpleType (word class.Upper y ∷ ts)) a.2 (record { simple = refl; whole = record { wf = p.0; words = p.1 } })

  sig_found : (at : ℕ) (ts : List Tok) (x : ModType × List Tok)
      → (expect key.End (sig_items sub_mod sub_type n ts).1 >>= λ r. Some (Sig at (sig_items sub_mod sub_type n ts).0, r)) ≡ Some x
      → IsSimpleType (placed key.Sig at ∷ ts) x
  sig_found at ts x e =
      let a = bind_ok (expect key.End (sig_items sub_mod sub_type n ts).1) _ x e in
      let f = sig_items_found ts in
      from_some (IsSimpleType (placed key.Sig at ∷ ts)) a.2
      (record {
        simple = refl;
        whole = record {
          wf = f.wf;
          words = ap (λ (k : List Tok). placed key.Sig at ∷ k)
              (f.words ∙ ap (sig_items_then (sig_items sub_mod sub_type n ts).0) (expect_ok key.End (sig_items sub_mod sub_type n ts).1 a.0 a.1));
        };
      })

  type_of_found : (at : ℕ) (ts : List Tok) (x : ModType × List Tok) → (mod_apply sub_mod sub_type n ts >>= λ m. Some (TypeOf at m.0, m.1)) ≡ Some x
      → IsSimpleType (placed key.Module at ∷ fixed key.Type ∷ fixed key.Of ∷ ts) x
  type_of_found at ts x e =
      let a = bind_ok (mod_apply sub_mod sub_type n ts) _ x e in
      let m = mod_apply_found ts a.0 a.1 in
      from_some (IsSimpleType (placed key.Module at ∷ fixed key.Type ∷ fixed key.Of ∷ ts)) a.2
      (record {
        simple = refl;
        whole = record {
          wf = (m.plain, m.body.wf);
          words = ap (λ (k : List Tok). placed key.Module at ∷ fixed key.Type ∷ fixed key.Of ∷ k)
              m.body.words;
        };
      })

  type_paren_found : (at : ℕ) (ts : List Tok) (x : ModType × List Tok)
      → (sub_type ts >>= λ s. expect key.RightParen s.1 >>= λ r. Some (TypeParen at s.0, r)) ≡ Some x → IsSimpleType (placed key.LeftParen at ∷ ts) x
  type_paren_found at ts x e =
      let a = bind_ok (sub_type ts) _ x e in
      let b = bind_ok (expect key.RightParen a.0.1) _ x a.2 in
      let s = types ts a.0 a.1 in
      from_some (IsSimpleType (placed key.LeftParen at ∷ ts)) b.2
      (record {
        simple = refl;
        whole = record {
          wf = s.wf;
          words = ap (λ (k : List Tok). placed key.LeftParen at ∷ k)
              (s.words ∙ ap (mod_type_then a.0.0) (expect_ok key.RightParen a.0.1 b.0 b.1));
        };
      })

  pub simple_type_found : (ts : List Tok) (x : ModType × List Tok) → simple_type sub_mod sub_type n ts ≡ Some x → IsSimpleType ts x
  unfolding simple_type
  simple_type_found (word class.Upper y ∷ ts) x e = type_path_found y ts x e
  simple_type_found (placed key.Sig at ∷ ts) x e = sig_found at ts x e
  simple_type_found (placed key.Module at ∷ fixed key.Type ∷ fixed key.Of ∷ ts) x e = type_of_found at ts x e
  simple_type_found (placed key.LeftParen at ∷ ts) x e = type_paren_found at ts x e
  simple_type_found _ x e = absurd cc

  arrow_by : (s : ModType) (ts r : List Tok) (o : Option (ModType × List Tok)) → IsSimpleType ts (s, r) → (expect key.Arrow r >>= sub_type) ≡ o
      → IsType ts (arrow_or sub_mod sub_type n s r o)
  arrow_by s ts r None a e = a.whole
  arrow_by s ts r (Some x) a e =
      let b = bind_ok (expect key.Arrow r) sub_type x e in
      let t = types b.0 x b.2 in
      record {
        wf = (a.simple, a.whole.wf, t.wf);
        words = a.whole.words
            ∙ ap (mod_type_then s) (expect_ok key.Arrow r b.0 b.1 ∙ ap (λ (k : List Tok). fixed key.Arrow ∷ k) t.words);
      }

  with_by : (s : ModType) (ts r : List Tok) (m : List WithClause × List Tok) → IsSimpleType ts (s, r) → AreWiths m.0 r m.1
      → IsType ts (with_or sub_mod sub_type n s r m)
  with_by s ts r ([], r') a b = arrow_by s ts r (expect key.Arrow r >>= sub_type) a refl
  with_by s ts r (w ∷ ws, r') a b = record { wf = (a.simple, a.whole.wf, (λ q. cc), b.wf); words = a.whole.words ∙ ap (mod_type_then s) b.words }

  with_type_found : (ts : List Tok) (x : ModType × List Tok) → with_type sub_mod sub_type n ts ≡ Some x → IsType ts x
  with_type_found ts x e =
      let a = bind_ok (simple_type sub_mod sub_type n ts) _ x e in
      from_some (IsType ts) a.2 (with_by a.0.0 ts a.0.1 (with_clauses n a.0.1) (simple_type_found ts a.0 a.1) (withs_found n a.0.1))

  functor_type_by : (at : ℕ) (ps : FunctorParams) (ts r : List Tok) (x : ModType × List Tok) → AreParams ps ts r
      → functor_type_end sub_mod sub_type n at ps r ≡ Some x → IsType (placed key.Functor at ∷ ts) x
  functor_type_by at no_functor_param ts r x f e = absurd cc
  functor_type_by at (more_functor_param p ps) ts r x f e =
      let a = bind_ok (expect key.Arrow r) _ x e in
      let b = bind_ok (sub_type a.0) _ x a.2 in
      let s = types a.0 b.0 b.1 in
      from_some (IsType (placed key.Functor at ∷ ts)) b.2
      (record {
        wf = ((λ q. cc), f.wf, s.wf);
        words = ap (λ (k : List Tok). placed key.Functor at ∷ k)
            (f.words ∙ ap (functor_params_then (more_functor_param p ps))
            (expect_ok key.Arrow r a.0 a.1 ∙ ap (λ (k : List Tok). fixed key.Arrow ∷ k) s.words));
      })

  param_by : (ts : List Tok) (x : ModType × List Tok) (o : Option (FunctorParam × List Tok)) → functor_param sub_mod sub_type n ts ≡ o
      → param_or sub_mod sub_type n ts o ≡ Some x → IsType ts x
  param_by ts x None q e = with_type_found ts x e
  param_by ts x (Some p) q e =
      let a = bind_ok (expect key.Arrow p.1) _ x e in
      let b = bind_ok (sub_type a.0) _ x a.2 in
      let f = functor_param_found ts p q in
      let s = types a.0 b.0 b.1 in
      from_some (IsType ts) b.2
      (record {
        wf = (f.wf, s.wf);
        words = f.words
            ∙ ap (functor_param_then p.0) (expect_ok key.Arrow p.1 a.0 a.1 ∙ ap (λ (k : List Tok). fixed key.Arrow ∷ k) s.words);
      })

  pub mod_type_found : (ts : List Tok) (x : ModType × List Tok) → mod_type sub_mod sub_type n ts ≡ Some x → IsType ts x
  unfolding mod_type
  mod_type_found (placed key.Functor at ∷ ts) x e = functor_type_by at (functor_params sub_mod sub_type n ts).0 ts
      (functor_params sub_mod sub_type n ts).1 x (params_found ts) e
  mod_type_found ts x e = param_by ts x (functor_param sub_mod sub_type n ts) refl e

mutual
  unfolding read_mod read_type

  pub mod_reads : (n : ℕ) → FindsMod (read_mod n)
  mod_reads zero ts x e = absurd cc
  mod_reads (suc n) ts x e = mod_expr_found (read_mod n) (read_type n) n (mod_reads n) (type_reads n) ts x e

  pub type_reads : (n : ℕ) → FindsType (read_type n)
  type_reads zero ts x e = absurd cc
  type_reads (suc n) ts x e = mod_type_found (read_mod n) (read_type n) n (mod_reads n) (type_reads n) ts x e

body_by : (file : ℕ) (m : Items × List Tok) (ts : List Tok) (t : FileTree) → WfItems true m.0 → ts ≡ items_then m.0 m.1 → whole_body file m ≡ Some t
    → WfFile t × (ts ≡ words t)
body_by file (is, []) ts t w q e = from_some (λ (z : FileTree). WfFile z × (ts ≡ words z)) e (w, q)
body_by file (is, x ∷ xs) ts t w q e = absurd cc

pub body_found : (file n : ℕ) (ts : List Tok) (t : FileTree) → read_body file n ts ≡ Some t → WfFile t × (ts ≡ words t)
unfolding read_body
body_found file n ts t e = let f = items_found (read_mod n) (read_type n) n (mod_reads n) (type_reads n) n true ts in
    body_by file (items_of (read_mod n) (read_type n) n n true ts) ts t f.wf f.words e

face_by : (file : ℕ) (m : SigItems × List Tok) (ts : List Tok) (t : FileTree) → WfSigItems m.0 → ts ≡ sig_items_then m.0 m.1
    → whole_face file m ≡ Some t → WfFile t × (ts ≡ words t)
face_by file (is, []) ts t w q e = from_some (λ (z : FileTree). WfFile z × (ts ≡ words z)) e (w, q)
face_by file (is, x ∷ xs) ts t w q e = absurd cc

pub face_found : (file n : ℕ) (ts : List Tok) (t : FileTree) → read_face file n ts ≡ Some t → WfFile t × (ts ≡ words t)
unfolding read_face
face_found file n ts t e = let f = sig_items_found (read_mod n) (read_type n) n (mod_reads n) (type_reads n) ts in
    face_by file (sig_items (read_mod n) (read_type n) n ts) ts t f.wf f.words e
