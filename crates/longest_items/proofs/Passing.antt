-- What is read of the words of a part and more tokens ends no earlier than the part: names, runs, paths and texts.
use Rattle.std.proofs.Common.{◌≡◌, ◌≢◌, ℕ, zero, suc, ◌<◌, ◌≤◌, List, [], ◌∷◌, ◌++◌, length, take, drop, Bool, true, Option, Some, None, refl, ◌∙◌}
use Rattle.std.proofs.Common.{arith}
use Rattle.std.proofs.lemmas.List.{length-drop, length-append}
use Rattle.rotor_base.specs.declared.token.Class.TheVariants as class
use Rattle.ml_trees.specs.declared.fixed.Fixed.TheVariants as key
use Rattle.ml_trees.specs.declared.fixed.Fixed.{Fixed}
use Rattle.ml_trees.specs.Tok.{Name, Tok, fixed, word}
use Rattle.ml_trees.specs.Runs.{bracketing, after_bracket, is_matched, beside_type, begins_type, in_type, in_declaration, is_type_run}
use Rattle.ml_trees.specs.Runs.{is_declaration_run}
use Rattle.ml_trees.proofs.Words.{dotted_then, path_then, texts_then}
use Rattle.token_reading.specs.Steps.{◌>>=◌, many, always}
use Rattle.token_reading.specs.Pieces.{dot_upper, more_uppers, one_more, longest, cut_at, type_run, declaration_run}
use Rattle.token_reading.proofs.Stepping.{from_some}
use Rattle.token_reading.proofs.Reach.{Reach, exact, farther, map_some, many_shorter, many_on}
use Rattle.token_reading.proofs.ReachPieces.{uppers_reach}
use Rattle.expr_reading.specs.ExprReading.{upper_path}
use Rattle.module_reading.specs.ModReading.{text_word}

-- something is read, and no more is left than these tokens
abbrev pub Passes : {A : Type 0} → List Tok → Option (A × List Tok) → Type 0
Passes {A = A} r o = (x : A × List Tok) × (o ≡ Some x) × (length x.1 ≤ length r)

pub passes : {A C : Type 0} {t : A} {r : List Tok} {o : Option (A × List Tok)} → Reach C t r o → Passes r o
passes {t = t} {r = r} (exact e) = ((t, r), e, omega arith)
passes (farther c x e lt) = (x, e, omega (arith, lt))

-- what is read and put into a larger tree
pub pass_map : {A B : Type 0} (r : List Tok) {o : Option (A × List Tok)} (g : A → B) → Passes r o → Passes r (o >>= λ x. Some (g x.0, x.1))
pass_map r g p = rw p.1 ((g p.0.0, p.0.1), refl, p.2)

pub exactly : {A : Type 0} {r : List Tok} {o : Option (A × List Tok)} (t : A) → o ≡ Some (t, r) → Passes r o
exactly {r = r} t e = ((t, r), e, omega arith)

-- the same at a reading that is known
pub pass_as : {A : Type 0} (r : List Tok) {o o' : Option (A × List Tok)} → o ≡ o' → Passes r o' → Passes r o
pass_as r e p = (p.0, e ∙ p.1, p.2)

-- ---- runs

abbrev AtLeast : ℕ → Option ℕ → Type 0
AtLeast n o = (m : ℕ) × (o ≡ Some m) × (n ≤ m)

module _ (outside inside : Tok → Bool) where
  more_or : (o : Option ℕ) → AtLeast 0 (one_more o (Some 0))
  more_or None = (0, refl, omega arith)
  more_or (Some m) = (suc m, refl, omega arith)

  begins_past : (r : List Tok) → AtLeast 0 (longest outside inside (Some []) r)
  unfolding longest
  begins_past [] = (0, refl, omega arith)
  begins_past (t ∷ r) = more_or (longest outside inside (after_bracket outside inside t (bracketing t) []) r)

  longest_past : (st : Option (List Fixed)) (run r : List Tok) → is_matched outside inside st run ≡ true
      → AtLeast (length run) (longest outside inside st (run ++ r))
  unfolding longest
  longest_past None [] r h = absurd cc
  longest_past (Some []) [] r h = begins_past r
  longest_past (Some (x ∷ xs)) [] r h = absurd cc
  longest_past None (t ∷ ts) r h = absurd cc
  longest_past (Some xs) (t ∷ ts) r h = let e = longest_past (after_bracket outside inside t (bracketing t) xs) ts r h in
      (suc e.0, rw e.1 refl, omega (arith, e.2))

cut_past : (run r : List Tok) (n : ℕ) → length run ≤ n → Passes r (cut_at (run ++ r) (Some n))
cut_past run r n le = ((take n (run ++ r), drop n (run ++ r)), refl, omega (arith, le, length-drop n (run ++ r), length-append run r))

pub type_run_pass : (run r : List Tok) → is_type_run run ≡ true → Passes r (type_run (run ++ r))
unfolding type_run
type_run_pass [] r h = absurd cc
type_run_pass (t ∷ ts) r h =
    let e = longest_past beside_type in_type (after_bracket begins_type in_type t (bracketing t) []) ts r h in
    rw e.1 (cut_past (t ∷ ts) r (suc e.0) (omega (arith, e.2)))

pub declaration_run_pass : (run r : List Tok) → is_declaration_run run ≡ true → Passes r (declaration_run (run ++ r))
unfolding declaration_run
declaration_run_pass [] r h = absurd cc
declaration_run_pass (t ∷ ts) r h =
    let e = longest_past in_declaration in_declaration (after_bracket in_declaration in_declaration t (bracketing t) []) ts r h in
    rw e.1 (cut_past (t ∷ ts) r (suc e.0) (omega (arith, e.2)))

-- ---- paths and texts

dot_shorter : (r : List Tok) (x : Name × List Tok) → dot_upper r ≡ Some x → length x.1 < length r
dot_shorter (fixed key.Dot ∷ word class.Upper y ∷ ts) x e =
    from_some (λ (z : Name × List Tok). length z.1 < length (fixed key.Dot ∷ word class.Upper y ∷ ts)) e (omega arith)
dot_shorter _ x e = absurd cc

pub path_pass : (f : ℕ) (path : List Name) (r : List Tok) → path ≢ [] → length (path_then path r) ≤ suc f
    → Passes r (upper_path f (path_then path r))
path_pass f [] r some len = absurd (some refl)
path_pass f (y ∷ ys) r some len = passes (map_some (λ (l : List Name). y ∷ l) ys r (length r) (more_uppers f (dotted_then ys r))
    (uppers_reach (Unit {0}) ys r f (omega (arith, len)) (λ x e. (tt, dot_shorter r x e))))

text_shorter : (r : List Tok) (x : Name × List Tok) → text_word r ≡ Some x → length x.1 < length r
text_shorter (word class.Text y ∷ ts) x e = from_some (λ (z : Name × List Tok). length z.1 < length (word class.Text y ∷ ts)) e (omega arith)
text_shorter _ x e = absurd cc

pub texts_pass : (xs : List Name) (r : List Tok) (n : ℕ) → length (texts_then xs r) ≤ n
    → length (many [] ◌∷◌ always text_word n (texts_then xs r)).1 ≤ length r
texts_pass [] r n len = many_shorter [] ◌∷◌ always text_word text_shorter n r
texts_pass (x ∷ xs) r zero len = absurd (omega (arith, len))
texts_pass (x ∷ xs) r (suc n) len =
    let rest : List Tok = texts_then xs r in
    rw (many_on [] ◌∷◌ always text_word text_shorter n (word class.Text x ∷ rest) (x, rest) refl refl) (texts_pass xs r n (omega (arith, len)))
