-- What is read of the words of a module type and more tokens ends no earlier than they do.
use Rattle.std.proofs.Common.{◌≡◌, ◌≢◌, ℕ, zero, suc, ◌≤◌, List, [], ◌∷◌, length, true, false, Option, Some, None, refl, ap, arith}
use Rattle.ml_trees.specs.declared.fixed.Fixed.TheVariants as key
use Rattle.ml_trees.specs.Tok.{Name, Tok, fixed}
use Rattle.ml_trees.proofs.Words.{path_then, withs_then, mod_type_then}
use Rattle.ml_trees.specs.WellFormed.{is_functor, is_simple_type, WfMod, WfModType}
use Rattle.ml_trees.specs.Tree.{WithClause, WithOf, ModExpr, FunctorParam, FunctorParams, no_functor_param, more_functor_param, ModType, TypePath}
use Rattle.ml_trees.specs.Tree.{Sig, TypeOf, TypeParen, With, FunctorType, ParamArrow, Arrow}
use Rattle.token_reading.specs.Steps.{◌>>=◌, expect, always}
use Rattle.token_reading.proofs.Stepping.{bind_ok, expect_ok}
use Rattle.token_reading.proofs.Reach.{many_shorter}
use Rattle.module_reading.specs.ModReading.{simple_type, arrow_or, with_or, with_clause, with_clauses, mod_type, read_mod, read_type}
use Rattle.module_laws.proofs.LongerMod.{functor_params_more, mod_type_more}
use Rattle.module_laws.proofs.FoundMod.{type_reads}
use Rattle.module_laws.proofs.ReachMod.{simple_type_at, mod_type_at, param_longer, type_longer, param_read, params_exact, clause_shorter, sig_read}
use Rattle.module_laws.proofs.ReachMod.{paren_type_read, with_at, type_plain, no_withs, arrow_no_with, param_arrow_is, param_good, params_good}
use Rattle.module_laws.proofs.ReachMod.{type_good, sig_items_good}
use Rattle.longest_items.proofs.Passing.{Passes, pass_map, exactly, path_pass}
use Rattle.longest_items.proofs.Modules.{flat_pass}
use Rattle.longest_items.proofs.Clauses.{Clauses, withs_pass}

module _ (f : ℕ) where
  -- ---- simple module types

  path_type_pass : (path : List Name) (r : List Tok) → path ≢ [] → length (path_then path r) ≤ suc f → Passes r (simple_type_at f (path_then path r))
  unfolding simple_type
  path_type_pass [] r w len = absurd (w refl)
  path_type_pass (x ∷ xs) r w len = pass_map r TypePath (path_pass f (x ∷ xs) r w len)

  type_of_pass : (at : ℕ) (m : ModExpr) (r : List Tok) → is_functor m ≡ false → WfMod m → length (mod_type_then (TypeOf at m) r) ≤ suc f
      → Passes r (simple_type_at f (mod_type_then (TypeOf at m) r))
  unfolding simple_type
  type_of_pass at m r p w len = pass_map r (TypeOf at) (flat_pass f m r p w (omega (arith, len)))

  simple_type_pass : (s : ModType) (r : List Tok) → is_simple_type s ≡ true → WfModType s → length (mod_type_then s r) ≤ suc f
      → Passes r (simple_type_at f (mod_type_then s r))
  simple_type_pass (TypePath path) r p w len = path_type_pass path r w len
  simple_type_pass (Sig at is) r p w len = exactly (Sig at is) (sig_read f at is r (sig_items_good is) w len)
  simple_type_pass (TypeOf at m) r p w len = type_of_pass at m r w.0 w.1 len
  simple_type_pass (TypeParen at s) r p w len = exactly (TypeParen at s) (paren_type_read f at s r (type_good s) w len)
  simple_type_pass _ r p w len = absurd cc

  -- ---- what may be behind one

  type_left : (ts : List Tok) (x : ModType × List Tok) → read_type f ts ≡ Some x → length x.1 ≤ length ts
  type_left ts x e = let inner = (type_reads f ts x e).words in omega (arith, ap length inner, mod_type_more x.0 x.1)

  arrow_shorter : (s : ModType) (ts : List Tok) (o : Option (ModType × List Tok)) → (expect key.Arrow ts >>= read_type f) ≡ o
      → length (arrow_or (read_mod f) (read_type f) f s ts o).1 ≤ length ts
  arrow_shorter s ts None e = omega arith
  arrow_shorter s ts (Some x) e =
      let a = bind_ok (expect key.Arrow ts) (read_type f) x e in
      omega (arith, ap length (expect_ok key.Arrow ts a.0 a.1), type_left a.0 x a.2)

  with_shorter : (s : ModType) (ts : List Tok) (m : List WithClause × List Tok) → length m.1 ≤ length ts
      → length (with_or (read_mod f) (read_type f) f s ts m).1 ≤ length ts
  with_shorter s ts ([], r) le = arrow_shorter s ts (expect key.Arrow ts >>= read_type f) refl
  with_shorter s ts (c ∷ cs, r) le = le

  with_pass : (ts r : List Tok) → Passes r (simple_type_at f ts) → Passes r (with_at f ts)
  with_pass ts r p =
      let more = with_clauses f p.0.1 in
      let le = many_shorter [] ◌∷◌ always (with_clause f) (clause_shorter f) f p.0.1 in
      rw p.1 (with_or (read_mod f) (read_type f) f p.0.0 p.0.1 more, refl, omega (arith, p.2, with_shorter p.0.0 p.0.1 more le))

  lone_pass : (s : ModType) (r : List Tok) → is_simple_type s ≡ true → WfModType s → length (mod_type_then s r) ≤ suc f
      → Passes r (mod_type_at f (mod_type_then s r))
  lone_pass s r p w len = rw (type_plain f s r p w) (with_pass (mod_type_then s r) r (simple_type_pass s r p w len))

  clauses_left : (s : ModType) (ts r : List Tok) (m : List WithClause × List Tok) → Clauses f r m
      → length (with_or (read_mod f) (read_type f) f s ts m).1 ≤ length r
  clauses_left s ts r m c = rw c.3 c.4

  clauses_pass : (s : ModType) (ws : List WithClause) (r : List Tok) → WfModType (With s ws) → length (mod_type_then (With s ws) r) ≤ suc f
      → Passes r (mod_type_at f (mod_type_then (With s ws) r))
  clauses_pass s [] r w len = absurd (w.2 refl)
  clauses_pass s (WithOf c cs ∷ ws) r w len =
      let rest : List Tok = withs_then (WithOf c cs ∷ ws) r in
      let first = (type_good s).lone w.0 w.1 f rest refl len in
      let more = withs_pass f c cs ws r w.3 f (omega (arith, len, type_longer s rest w.1)) (omega arith) in
      let all = with_clauses f rest in
      rw (type_plain f s rest w.0 w.1, first) (with_or (read_mod f) (read_type f) f s rest all, refl, clauses_left s rest r all more)

  arrow_pass : (s s' : ModType) (r : List Tok) → WfModType (Arrow s s') → length (mod_type_then (Arrow s s') r) ≤ suc f
      → Passes r (read_type f (mod_type_then s' r)) → Passes r (mod_type_at f (mod_type_then (Arrow s s') r))
  arrow_pass s s' r w len inside =
      let rest : List Tok = fixed key.Arrow ∷ mod_type_then s' r in
      let first = (type_good s).lone w.0 w.1 f rest refl len in
      let no = no_withs f rest (arrow_no_with f (mod_type_then s' r)) in
      rw (type_plain f s rest w.0 w.1, first, no, inside.1) ((Arrow s inside.0.0, inside.0.1), refl, inside.2)

  param_arrow_pass : (p : FunctorParam) (s : ModType) (r : List Tok) → WfModType (ParamArrow p s) → length (mod_type_then (ParamArrow p s) r) ≤ suc f
      → Passes r (read_type f (mod_type_then s r)) → Passes r (mod_type_at f (mod_type_then (ParamArrow p s) r))
  param_arrow_pass p s r w len inside =
      let rest : List Tok = fixed key.Arrow ∷ mod_type_then s r in
      rw (param_arrow_is f p rest, param_read f p (param_good p) w.0 rest len) (pass_map r (ParamArrow p) inside)

  functor_type_pass : (at : ℕ) (ps : FunctorParams) (s : ModType) (r : List Tok) → WfModType (FunctorType at ps s)
      → length (mod_type_then (FunctorType at ps s) r) ≤ suc f → Passes r (read_type f (mod_type_then s r))
      → Passes r (mod_type_at f (mod_type_then (FunctorType at ps s) r))
  unfolding mod_type
  functor_type_pass at no_functor_param s r w len inside = absurd (w.0 refl)
  functor_type_pass at (more_functor_param p ps) s r w len inside =
      let all : FunctorParams = more_functor_param p ps in
      rw (params_exact f all (params_good all) w.1 (fixed key.Arrow ∷ mod_type_then s r) tt (omega (arith, len)))
      (pass_map r (FunctorType at all) inside)

-- through one level
type_level : (s : ModType) → WfModType s → (f : ℕ) (r : List Tok)
    → ((g : ℕ) → length (mod_type_then s r) ≤ suc g → Passes r (mod_type_at g (mod_type_then s r)))
    → length (mod_type_then s r) ≤ f → Passes r (read_type f (mod_type_then s r))
unfolding read_type
type_level s w zero r inner len = absurd (omega (arith, len, type_longer s r w))
type_level s w (suc f) r inner len = inner f len

type_pass : (s : ModType) → WfModType s → (f : ℕ) (r : List Tok) → length (mod_type_then s r) ≤ suc f → Passes r (mod_type_at f (mod_type_then s r))
type_pass (With s ws) w f r len = clauses_pass f s ws r w len
type_pass (FunctorType at ps s) w f r len =
    let l = functor_params_more ps (fixed key.Arrow ∷ mod_type_then s r) in
    functor_type_pass f at ps s r w len (type_level s w.2 f r (λ g le. type_pass s w.2 g r le) (omega (arith, len, l)))
type_pass (ParamArrow p s) w f r len =
    let l = param_longer p (fixed key.Arrow ∷ mod_type_then s r) in
    param_arrow_pass f p s r w len (type_level s w.1 f r (λ g le. type_pass s w.1 g r le) (omega (arith, len, l)))
type_pass (Arrow s s') w f r len =
    let l = type_longer s (fixed key.Arrow ∷ mod_type_then s' r) w.1 in
    arrow_pass f s s' r w len (type_level s' w.2 f r (λ g le. type_pass s' w.2 g r le) (omega (arith, len, l)))
type_pass s w f r len = lone_pass f s r refl w len

pub read_type_pass : (s : ModType) → WfModType s → (f : ℕ) (r : List Tok) → length (mod_type_then s r) ≤ f
    → Passes r (read_type f (mod_type_then s r))
read_type_pass s w f r len = type_level s w f r (λ g le. type_pass s w g r le) len
