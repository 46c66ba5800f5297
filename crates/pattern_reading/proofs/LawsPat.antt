-- The laws of patterns: what is read is the longest, none is missed, and two patterns of the same words are one.
use Rattle.std.proofs.Common.{◌≡◌, ℕ, ◌≤◌, List, [], ◌∷◌, ◌++◌, length, Bool, true, false, Option, Some, None, refl, sym, ap, subst, ◌∙◌, arith}
use Rattle.rotor_base.specs.declared.token.Class.TheVariants as class
use Rattle.ml_trees.specs.declared.fixed.Fixed.{Fixed}
use Rattle.ml_trees.specs.declared.fixed.Fixed.TheVariants as key
use Rattle.ml_trees.specs.Tok.{Name, Tok, fixed, placed, word}
use Rattle.ml_trees.specs.Tree.{ValueName, PlainName, OperatorName, Pat, AsPat, OrPat, TuplePat, ConsPat, ConstrApplyPat, TagApplyPat, LazyPat}
use Rattle.ml_trees.specs.Tree.{ExceptionPat, AnyPat, ValuePat, LiteralPat, NegativePat, RangePat, ConstrPat, TagPat, BoolPat, UnitPat, ParenPat}
use Rattle.ml_trees.specs.Tree.{TypedPat, EmptyPat, ListPat, RecordPat, OpenedPat, Pats, no_pat, more_pat, PatField, PunnedField, MatchedField}
use Rattle.ml_trees.specs.Tree.{PatFields, no_pat_field, more_pat_field}
use Rattle.ml_trees.proofs.Words.{opening, closing, pat_then, pats_then, pat_field_then, pat_fields_then, path_then, dotted_then, qualified_then}
use Rattle.ml_trees.proofs.Words.{name_then, names_then, type_then, optional_then, open_then, pat_words}
use Rattle.ml_trees.specs.WellFormed.{WfPat}
use Rattle.token_reading.specs.PatReading.{read_pat}
use Rattle.token_reading.specs.Longest.{IsLongestPat, BeginsNoPat, OnePatReading}
use Rattle.token_reading.proofs.Stepping.{some_is}
use Rattle.token_reading.proofs.Reach.{exact, farther, Reach}
use Rattle.pattern_reading.proofs.FoundPat.{pat_found}
use Rattle.pattern_reading.proofs.ReachSimple.{Goes}
use Rattle.pattern_reading.proofs.ReachPat.{pat_reach}

-- ---- words, and then more, are the words before more

append_more : (xs j k : List Tok) → xs ++ (j ++ k) ≡ (xs ++ j) ++ k
append_more [] j k = refl
append_more (x ∷ xs) j k = ap (λ (w : List Tok). x ∷ w) (append_more xs j k)

pub dotted_then_more : (a : List Name) (j k : List Tok) → dotted_then a (j ++ k) ≡ dotted_then a j ++ k
dotted_then_more [] j k = refl
dotted_then_more (x ∷ xs) j k = ap (λ (w : List Tok). fixed key.Dot ∷ w) (ap (λ (w : List Tok). word class.Upper x ∷ w) (dotted_then_more xs j k))

pub path_then_more : (a : List Name) (j k : List Tok) → path_then a (j ++ k) ≡ path_then a j ++ k
path_then_more [] j k = refl
path_then_more (x ∷ xs) j k = ap (λ (w : List Tok). word class.Upper x ∷ w) (dotted_then_more xs j k)

pub qualified_then_more : (a : List Name) (j k : List Tok) → qualified_then a (j ++ k) ≡ qualified_then a j ++ k
qualified_then_more [] j k = refl
qualified_then_more (x ∷ xs) j k =
    ap (λ (w : List Tok). word class.Upper x ∷ w) (ap (λ (w : List Tok). fixed key.Dot ∷ w) (qualified_then_more xs j k))

pub name_then_more : (a : ValueName) (j k : List Tok) → name_then a (j ++ k) ≡ name_then a j ++ k
name_then_more (PlainName x) j k = refl
name_then_more (OperatorName at t) j k = refl

pub names_then_more : (a : List ValueName) (j k : List Tok) → names_then a (j ++ k) ≡ names_then a j ++ k
names_then_more [] j k = refl
names_then_more (x ∷ xs) j k =
    ap (λ (w : List Tok). fixed key.As ∷ w) (ap (name_then x) (names_then_more xs j k) ∙ name_then_more x (names_then xs j) k)

pub type_then_more : (a : Option (List Tok)) (j k : List Tok) → type_then a (j ++ k) ≡ type_then a j ++ k
type_then_more None j k = refl
type_then_more (Some run) j k = ap (λ (w : List Tok). fixed key.Colon ∷ w) (append_more run (j) k)

pub optional_then_more : (a : Fixed) (b : Bool) (j k : List Tok) → optional_then a b (j ++ k) ≡ optional_then a b j ++ k
optional_then_more x true j k = refl
optional_then_more x false j k = refl

pub open_then_more : (a : Option ℕ) (j k : List Tok) → open_then a (j ++ k) ≡ open_then a j ++ k
open_then_more None j k = refl
open_then_more (Some at) j k = refl

mutual
  pub pat_then_more : (a : Pat) (j k : List Tok) → pat_then a (j ++ k) ≡ pat_then a j ++ k
  pat_then_more (AsPat p xs) j k = ap (pat_then p) (names_then_more xs j k) ∙ pat_then_more p (names_then xs j) k
  pat_then_more (OrPat p ps) j k = ap (pat_then p) (pats_then_more key.Bar ps j k) ∙ pat_then_more p (pats_then key.Bar ps j) k
  pat_then_more (TuplePat p ps) j k = ap (pat_then p) (pats_then_more key.Comma ps j k) ∙ pat_then_more p (pats_then key.Comma ps j) k
  pat_then_more (ConsPat p ps) j k = ap (pat_then p) (pats_then_more key.ColonColon ps j k) ∙ pat_then_more p (pats_then key.ColonColon ps j) k
  pat_then_more (ConstrApplyPat path p) j k = ap (path_then path) (pat_then_more p j k) ∙ path_then_more path (pat_then p j) k
  pat_then_more (TagApplyPat x p) j k = ap (λ (w : List Tok). word class.Tag x ∷ w) (pat_then_more p j k)
  pat_then_more (LazyPat at p) j k = ap (λ (w : List Tok). placed key.Lazy at ∷ w) (pat_then_more p j k)
  pat_then_more (ExceptionPat at p) j k = ap (λ (w : List Tok). placed key.Exception at ∷ w) (pat_then_more p j k)
  pat_then_more (AnyPat at) j k = refl
  pat_then_more (ValuePat x) j k = name_then_more x j k
  pat_then_more (LiteralPat c x) j k = refl
  pat_then_more (NegativePat x c y) j k = refl
  pat_then_more (RangePat x y) j k = refl
  pat_then_more (ConstrPat path) j k = path_then_more path j k
  pat_then_more (TagPat x) j k = refl
  pat_then_more (BoolPat at b) j k = refl
  pat_then_more (UnitPat at) j k = refl
  pat_then_more (ParenPat at p) j k = ap (λ (w : List Tok). placed key.LeftParen at ∷ w) (pat_then_more p (fixed key.RightParen ∷ j) k)
  pat_then_more (TypedPat at p run) j k =
      ap (λ (w : List Tok). placed key.LeftParen at ∷ w)
      (ap (pat_then p) (ap (λ (w : List Tok). fixed key.Colon ∷ w) (append_more run ((fixed key.RightParen ∷ j)) k))
      ∙ pat_then_more p (fixed key.Colon ∷ (run ++ ((fixed key.RightParen ∷ j)))) k)
  pat_then_more (EmptyPat at b) j k = refl
  pat_then_more (ListPat at b p ps last) j k =
      ap (λ (w : List Tok). placed (opening b) at ∷ w)
      (ap (pat_then p) (ap (pats_then key.Semicolon ps) (optional_then_more key.Semicolon last (fixed (closing b) ∷ j) k)
      ∙ pats_then_more key.Semicolon ps (optional_then key.Semicolon last (fixed (closing b) ∷ j)) k)
      ∙ pat_then_more p (pats_then key.Semicolon ps (optional_then key.Semicolon last (fixed (closing b) ∷ j))) k)
  pat_then_more (RecordPat at f fs rest last) j k =
      ap (λ (w : List Tok). placed key.LeftBrace at ∷ w)
      (ap (pat_field_then f) (ap (pat_fields_then fs)
      (ap (open_then rest) (optional_then_more key.Semicolon last (fixed key.RightBrace ∷ j) k)
      ∙ open_then_more rest (optional_then key.Semicolon last (fixed key.RightBrace ∷ j)) k)
      ∙ pat_fields_then_more fs (open_then rest (optional_then key.Semicolon last (fixed key.RightBrace ∷ j))) k)
      ∙ pat_field_then_more f (pat_fields_then fs (open_then rest (optional_then key.Semicolon last (fixed key.RightBrace ∷ j)))) k)
  pat_then_more (OpenedPat path at p) j k =
      ap (path_then path) (ap (λ (w : List Tok). fixed key.Dot ∷ w)
      (ap (λ (w : List Tok). placed key.LeftParen at ∷ w) (pat_then_more p (fixed key.RightParen ∷ j) k)))
      ∙ path_then_more path (fixed key.Dot ∷ placed key.LeftParen at ∷ pat_then p (fixed key.RightParen ∷ j)) k

  pub pats_then_more : (a : Fixed) (b : Pats) (j k : List Tok) → pats_then a b (j ++ k) ≡ pats_then a b j ++ k
  pats_then_more sep no_pat j k = refl
  pats_then_more sep (more_pat p ps) j k =
      ap (λ (w : List Tok). fixed sep ∷ w) (ap (pat_then p) (pats_then_more sep ps j k) ∙ pat_then_more p (pats_then sep ps j) k)

  pub pat_field_then_more : (a : PatField) (j k : List Tok) → pat_field_then a (j ++ k) ≡ pat_field_then a j ++ k
  pat_field_then_more (PunnedField path x run) j k = ap (qualified_then path) (ap (λ (w : List Tok). word class.Lower x ∷ w) (type_then_more run j k))
      ∙ qualified_then_more path (word class.Lower x ∷ type_then run j) k
  pat_field_then_more (MatchedField path x run at p) j k =
      ap (qualified_then path)
      (ap (λ (w : List Tok). word class.Lower x ∷ w)
      (ap (type_then run) (ap (λ (w : List Tok). placed key.Equals at ∷ w) (pat_then_more p j k))
      ∙ type_then_more run (placed key.Equals at ∷ pat_then p j) k))
      ∙ qualified_then_more path (word class.Lower x ∷ type_then run (placed key.Equals at ∷ pat_then p j)) k

  pub pat_fields_then_more : (a : PatFields) (j k : List Tok) → pat_fields_then a (j ++ k) ≡ pat_fields_then a j ++ k
  pat_fields_then_more no_pat_field j k = refl
  pat_fields_then_more (more_pat_field f fs) j k =
      ap (λ (w : List Tok). fixed key.Semicolon ∷ w)
      (ap (pat_field_then f) (pat_fields_then_more fs j k) ∙ pat_field_then_more f (pat_fields_then fs j) k)

pub pat_front : (p : Pat) (k : List Tok) → pat_then p k ≡ pat_words p ++ k
pat_front p k = pat_then_more p [] k

-- ---- what a reading shows of another tree

pub not_longer : {A : Type 0} (C : Type 0) (e e' : A) (r r' : List Tok) (o : Option (A × List Tok)) → o ≡ Some (e, r) → Reach C e' r' o
    → length r ≤ length r'
not_longer {A = A} C e e' r r' o h (exact k) = let q : ◌≡◌ {A = A × List Tok} (e, r) (e', r') = some_is (sym h ∙ k) in
    omega (arith, ap length (ap (λ (z : A × List Tok). z.1) q))
not_longer {A = A} C e e' r r' o h (farther c x k lt) = let q : (e, r) ≡ x = some_is (sym h ∙ k) in
    omega (arith, ap length (ap (λ (z : A × List Tok). z.1) q))

pub same_end : {A : Type 0} (C : Type 0) (e e' : A) (r : List Tok) (o : Option (A × List Tok)) → o ≡ Some (e, r) → Reach C e' r o → e' ≡ e
same_end {A = A} C e e' r o h (exact k) = let q : (e', r) ≡ (e, r) = some_is (sym k ∙ h) in ap (λ (z : A × List Tok). z.0) q
same_end {A = A} C e e' r o h (farther c x k lt) = let q : (e, r) ≡ x = some_is (sym h ∙ k) in
    absurd (omega (arith, ap length (ap (λ (z : A × List Tok). z.1) q)))

pub not_none : {A : Type 0} (C : Type 0) (e : A) (r : List Tok) (o : Option (A × List Tok)) → o ≡ None → Reach C e r o → ⊥
not_none {A = A} C e r o h (exact k) = let q : ◌≡◌ {A = Option (A × List Tok)} None (Some (e, r)) = sym h ∙ k in absurd cc
not_none {A = A} C e r o h (farther c x k lt) = let q : ◌≡◌ {A = Option (A × List Tok)} None (Some x) = sym h ∙ k in absurd cc

-- ---- the laws

one_pat : (n : ℕ) (a b : Pat) → WfPat a → WfPat b → length (pat_words a) ≤ n → pat_words a ≡ pat_words b → a ≡ b
one_pat n a b wa wb len q =
    both (pat_reach a wa n [] len) (subst (λ k. Reach (Goes 0 []) b [] (read_pat n k)) (sym q) (pat_reach b wb n [] (omega (arith, ap length q))))
  where
    both : Reach ⊥ a [] (read_pat n (pat_words a)) → Reach ⊥ b [] (read_pat n (pat_words a)) → a ≡ b
    both (exact h) (exact k) = let q : (a, []) ≡ (b, []) = some_is (sym h ∙ k) in ap (λ (z : Pat × List Tok). z.0) q
    both (farther c x h lt) _ = absurd c
    both _ (farther c x h lt) = absurd c

pub one_pat_reading : OnePatReading
one_pat_reading a b wa wb q = one_pat (length (pat_words a)) a b wa wb (omega arith) q

pat_reaches : (n : ℕ) (ts : List Tok) → length ts ≤ n → (p : Pat) (r : List Tok) → WfPat p → ts ≡ pat_words p ++ r
    → Reach (Goes 0 r) p r (read_pat n ts)
pat_reaches n ts len p r w q =
    let same : ts ≡ pat_then p r = q ∙ sym (pat_front p r) in
    subst (λ k. Reach (Goes 0 r) p r (read_pat n k)) (sym same) (pat_reach p w n r (omega (arith, ap length same)))

pub pat_longest : (n : ℕ) (ts : List Tok) (p : Pat) (r : List Tok) → length ts ≤ n → read_pat n ts ≡ Some (p, r) → IsLongestPat ts p r
pat_longest n ts p r len h =
    let f = pat_found n ts (p, r) h in
    record {
      wf = f.wf;
      reads = f.words ∙ pat_front p r;
      longest = λ p' r' w q. not_longer (Goes 0 r') p p' r r' (read_pat n ts) h (pat_reaches n ts len p' r' w q);
      only = λ p' w q. same_end (Goes 0 r) p p' r (read_pat n ts) h (pat_reaches n ts len p' r w q);
    }

pub pat_none : (n : ℕ) (ts : List Tok) → length ts ≤ n → read_pat n ts ≡ None → BeginsNoPat ts
pat_none n ts len h p r w q = not_none (Goes 0 r) p r (read_pat n ts) h (pat_reaches n ts len p r w q)
