-- What is read as a path, a name or a run is one, and has the words read.
use Rattle.std.proofs.Common.{◌≡◌, ℕ, suc, ◌≤◌, List, [], ◌∷◌, ◌++◌, length, take, Bool, true, false, cond, Option, Some, None, refl, sym, ap, subst}
use Rattle.std.proofs.Common.{◌∙◌, arith}
use Rattle.rotor_base.specs.declared.token.Class.TheVariants as class
use Rattle.ml_trees.specs.declared.fixed.Fixed.{Fixed}
use Rattle.ml_trees.specs.declared.fixed.Fixed.TheVariants as key
use Rattle.ml_trees.specs.Tok.{Name, Tok, fixed, placed, word}
use Rattle.ml_trees.specs.Runs.{bracketing, after_bracket, is_matched, beside_type, begins_type, in_type, in_declaration, is_type_run}
use Rattle.ml_trees.specs.Runs.{is_declaration_run}
use Rattle.ml_trees.specs.Tree.{ValueName, OperatorName}
use Rattle.ml_trees.proofs.Words.{dotted_then, qualified_then, name_then, type_then}
use Rattle.ml_trees.specs.WellFormed.{is_operator, WfName, WfType}
use Rattle.token_reading.specs.Steps.{always}
use Rattle.token_reading.specs.Pieces.{dot_upper, more_uppers, upper_dot, qualifiers, lower_word, operator_at, value_name, or_none, one_more, longest}
use Rattle.token_reading.specs.Pieces.{cut_at, type_run, declaration_run, type_or, optional_type}
use Rattle.std.proofs.lemmas.List.{take-append-drop}
use Rattle.token_reading.proofs.Stepping.{some_is, from_some, many_ind}

-- ---- paths

dot_upper_ok : (ts : List Tok) (x : Name × List Tok) → dot_upper ts ≡ Some x → ts ≡ fixed key.Dot ∷ word class.Upper x.0 ∷ x.1
dot_upper_ok (fixed key.Dot ∷ word class.Upper y ∷ ts) x e =
    from_some (λ (z : Name × List Tok). fixed key.Dot ∷ word class.Upper y ∷ ts ≡ fixed key.Dot ∷ word class.Upper z.0 ∷ z.1) e refl
dot_upper_ok _ x e = absurd cc

pub uppers_found : (n : ℕ) (ts : List Tok) → ts ≡ dotted_then (more_uppers n ts).0 (more_uppers n ts).1
uppers_found n ts = many_ind [] ◌∷◌ always dot_upper (λ l ts r. ts ≡ dotted_then l r)
    (λ ts. refl)
    (λ ts x e. dot_upper_ok ts x e)
    (λ ts x l r e h q. dot_upper_ok ts x e ∙ ap (λ (k : List Tok). fixed key.Dot ∷ word class.Upper x.0 ∷ k) q)
    n ts

upper_dot_ok : (ts : List Tok) (x : Name × List Tok) → upper_dot ts ≡ Some x → ts ≡ word class.Upper x.0 ∷ fixed key.Dot ∷ x.1
upper_dot_ok (word class.Upper y ∷ fixed key.Dot ∷ ts) x e =
    from_some (λ (z : Name × List Tok). word class.Upper y ∷ fixed key.Dot ∷ ts ≡ word class.Upper z.0 ∷ fixed key.Dot ∷ z.1) e refl
upper_dot_ok _ x e = absurd cc

pub qualifiers_found : (n : ℕ) (ts : List Tok) → ts ≡ qualified_then (qualifiers n ts).0 (qualifiers n ts).1
qualifiers_found n ts = many_ind [] ◌∷◌ always upper_dot (λ l ts r. ts ≡ qualified_then l r)
    (λ ts. refl)
    (λ ts x e. upper_dot_ok ts x e)
    (λ ts x l r e h q. upper_dot_ok ts x e ∙ ap (λ (k : List Tok). word class.Upper x.0 ∷ fixed key.Dot ∷ k) q)
    n ts

pub lower_ok : (ts : List Tok) (x : Name × List Tok) → lower_word ts ≡ Some x → ts ≡ word class.Lower x.0 ∷ x.1
lower_ok (word class.Lower y ∷ ts) x e = from_some (λ (z : Name × List Tok). word class.Lower y ∷ ts ≡ word class.Lower z.0 ∷ z.1) e refl
lower_ok _ x e = absurd cc

-- ---- names of values

pub record IsName (ts : List Tok) (x : ValueName × List Tok) : Type 0 where
  pub wf : WfName x.0
  pub words : ts ≡ name_then x.0 x.1

operator_by : (at : ℕ) (t : Tok) (ts : List Tok) (x : ValueName × List Tok) (b : Bool) → is_operator t ≡ b
    → cond b (Some (OperatorName at t, ts)) None ≡ Some x → IsName (placed key.LeftParen at ∷ t ∷ fixed key.RightParen ∷ ts) x
operator_by at t ts x true h e = from_some (IsName (placed key.LeftParen at ∷ t ∷ fixed key.RightParen ∷ ts)) e (record { wf = h; words = refl })
operator_by at t ts x false h e = absurd cc

pub operator_found : (at : ℕ) (ts : List Tok) (x : ValueName × List Tok) → operator_at at ts ≡ Some x → IsName (placed key.LeftParen at ∷ ts) x
operator_found at (t ∷ fixed key.RightParen ∷ ts) x e = operator_by at t ts x (is_operator t) refl e
operator_found at _ x e = absurd cc

pub name_found : (ts : List Tok) (x : ValueName × List Tok) → value_name ts ≡ Some x → IsName ts x
name_found (word class.Lower y ∷ ts) x e = from_some (IsName (word class.Lower y ∷ ts)) e (record { wf = tt; words = refl })
name_found (placed key.LeftParen at ∷ ts) x e = operator_found at ts x e
name_found _ x e = absurd cc

-- ---- runs

module _ (outside inside : Tok → Bool) where
  none_left : (st : Option (List Fixed)) (n : ℕ) → or_none st ≡ Some n → (n ≡ 0) × (is_matched outside inside st [] ≡ true)
  none_left (Some []) n e = (sym (some_is e), refl)
  none_left (Some (x ∷ xs)) n e = absurd cc
  none_left None n e = absurd cc

  longest_found : (st : Option (List Fixed)) (ts : List Tok) (n : ℕ) → longest outside inside st ts ≡ Some n
      → (n ≤ length ts) × (is_matched outside inside st (take n ts) ≡ true)
  unfolding longest
  longest_found st [] n e = let h = none_left st n e in (omega (arith, h.0), rw h.0 h.1)
  longest_found None (t ∷ ts) n e = absurd cc
  longest_found (Some xs) (t ∷ ts) n e = more xs t ts n (longest_found (after_bracket outside inside t (bracketing t) xs) ts)
      (longest outside inside (after_bracket outside inside t (bracketing t) xs) ts) refl e
    where
      more : (xs : List Fixed) (t : Tok) (ts : List Tok) (n : ℕ)
          → ((m : ℕ) → longest outside inside (after_bracket outside inside t (bracketing t) xs) ts ≡ Some m
          → (m ≤ length ts) × (is_matched outside inside (after_bracket outside inside t (bracketing t) xs) (take m ts) ≡ true))
          → (o : Option ℕ) → longest outside inside (after_bracket outside inside t (bracketing t) xs) ts ≡ o
          → one_more o (or_none (Some xs)) ≡ Some n → (n ≤ length (t ∷ ts)) × (is_matched outside inside (Some xs) (take n (t ∷ ts)) ≡ true)
      more xs t ts n ih (Some m) h q = let s = some_is q in let k = ih m h in
          (omega (arith, s, k.0), subst (λ j. is_matched outside inside (Some xs) (take j (t ∷ ts)) ≡ true) s k.1)
      more xs t ts n ih None h q = let s = none_left (Some xs) n q in (omega (arith, s.0), rw s.0 s.1)

cut_found : (ts : List Tok) (o : Option ℕ) (x : List Tok × List Tok) → cut_at ts o ≡ Some x → (n : ℕ) × (o ≡ Some n) × (x.0 ≡ take n ts)
    × (ts ≡ x.0 ++ x.1)
cut_found ts None x e = absurd cc
cut_found ts (Some n) x e = from_some (λ (y : List Tok × List Tok). (m : ℕ) × (Some n ≡ Some m) × (y.0 ≡ take m ts) × (ts ≡ y.0 ++ y.1)) e
    (n, refl, refl, sym (take-append-drop n ts))

first_more : (o : Option ℕ) (n : ℕ) → one_more o None ≡ Some n → (m : ℕ) × (o ≡ Some m) × (n ≡ suc m)
first_more (Some m) n e = (m, refl, sym (some_is e))
first_more None n e = absurd cc

pub record IsRun (is : List Tok → Bool) (ts : List Tok) (x : List Tok × List Tok) : Type 0 where
  pub wf : is x.0 ≡ true
  pub words : ts ≡ x.0 ++ x.1

pub type_run_found : (ts : List Tok) (x : List Tok × List Tok) → type_run ts ≡ Some x → IsRun is_type_run ts x
unfolding type_run
type_run_found [] x e = absurd cc
type_run_found (t ∷ ts) x e =
    let c = cut_found (t ∷ ts) (one_more (longest beside_type in_type (after_bracket begins_type in_type t (bracketing t) []) ts) None) x e in
    let f = first_more (longest beside_type in_type (after_bracket begins_type in_type t (bracketing t) []) ts) c.0 c.1 in
    let l = longest_found beside_type in_type (after_bracket begins_type in_type t (bracketing t) []) ts f.0 f.1 in
    record { wf = ap is_type_run (c.2 ∙ ap (λ n. take n (t ∷ ts)) f.2) ∙ l.1; words = c.3 }

pub declaration_run_found : (ts : List Tok) (x : List Tok × List Tok) → declaration_run ts ≡ Some x → IsRun is_declaration_run ts x
unfolding declaration_run
declaration_run_found [] x e = absurd cc
declaration_run_found (t ∷ ts) x e =
    let c = cut_found (t ∷ ts)
    (one_more (longest in_declaration in_declaration (after_bracket in_declaration in_declaration t (bracketing t) []) ts) None) x e in
    let f = first_more (longest in_declaration in_declaration (after_bracket in_declaration in_declaration t (bracketing t) []) ts) c.0 c.1 in
    let l = longest_found in_declaration in_declaration (after_bracket in_declaration in_declaration t (bracketing t) []) ts f.0 f.1 in
    record { wf = ap is_declaration_run (c.2 ∙ ap (λ n. take n (t ∷ ts)) f.2) ∙ l.1; words = c.3 }

pub record IsType (ts : List Tok) (x : Option (List Tok) × List Tok) : Type 0 where
  pub wf : WfType x.0
  pub words : ts ≡ type_then x.0 x.1

type_by : (ts : List Tok) (o : Option (List Tok × List Tok)) → type_run ts ≡ o → IsType (fixed key.Colon ∷ ts) (type_or (fixed key.Colon ∷ ts) o)
type_by ts None h = record { wf = tt; words = refl }
type_by ts (Some x) h = let f = type_run_found ts x h in record { wf = f.wf; words = ap (λ (k : List Tok). fixed key.Colon ∷ k) f.words }

pub optional_type_found : (ts : List Tok) → IsType ts (optional_type ts)
optional_type_found (fixed key.Colon ∷ ts) = type_by ts (type_run ts) refl
optional_type_found _ = record { wf = tt; words = refl }
