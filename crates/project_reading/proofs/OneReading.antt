-- Files are read as one project at most, or refused for one reason at most, and not both.
use Rattle.std.proofs.Common.{◌≡◌, ℕ, suc, inl, inr, List, [], ◌∷◌, ◌++◌, All, Some, None, true, false, refl, ap, sym, subst, ◌∙◌, arith}
use Rattle.std.proofs.lemmas.Bool.{cases_order}
use Rattle.std.proofs.lemmas.List.Elements.{All-head, All-tail}
use Rattle.rotor_base.specs.declared.refusal.Refusal.{Refusal}
use Rattle.rotor_base.specs.declared.refusal.Refusal.TheVariants as refusal
use Rattle.rotor_base.specs.declared.source.SourceFile.{SourceFile}
use Rattle.rotor_base.specs.declared.token.FormKind.{FormKind}
use Rattle.ml_lexer.specs.Lexed.{Lexeme, Bad, LongName}
use Rattle.ml_lexer.proofs.OneCutting.{one_lexed, one_fault, not_both}
use Rattle.ml_syntax.specs.RespelledFile.{lexeme_toks}
use Rattle.ml_trees.specs.Tree.{FileTree, UnitTree}
use Rattle.parse_base.specs.Nesting.{IsFirstDeep}
use Rattle.unit_order.specs.Order.{order_of, takes_all, LiesOnCycle, IsStuck}
use Rattle.project_reading.specs.Laws.{OneProject, OneRefusal, ReadOrRefused}
use Rattle.project_reading.specs.Reads.{AreStuck}
use Rattle.project_reading.specs.Source.{tokens_of, form_among, IsDeepAt, ReadsAs, IsUnread, bad, long_name, form, deep, syntax, place}
use Rattle.project_reading.specs.Sources.{ReadAll, FirstUnread}
use Rattle.project_reading.specs.Units.{units_of, in_order}

-- ---- one source

pub one_tree : (number : ℕ) (s : SourceFile) (t u : FileTree) → ReadsAs number s t → ReadsAs number s u → u ≡ t
one_tree number s t u r q =
    let same : r.lexemes ≡ q.lexemes = one_lexed r.plain.cut q.plain.cut in
    r.parsed.only u q.parsed.of_file q.parsed.wf (ap (lexeme_toks 1) same ∙ q.parsed.reads)

told : (p q : ℕ × FormKind) → Some p ≡ Some q → p ≡ q
told p q e = cc

one_form : (xs ys : List Lexeme) (p q : ℕ × FormKind) → xs ≡ ys → form_among xs ≡ Some p → form_among ys ≡ Some q → p ≡ q
one_form xs ys p q e f g = told p q (sym f ∙ ap form_among e ∙ g)

no_form : (xs ys : List Lexeme) (n : ℕ) (k : FormKind) → xs ≡ ys → form_among xs ≡ None → form_among ys ≡ Some (n, k) → ⊥
no_form xs ys n k e f g = none_told (n, k) (sym f ∙ ap form_among e ∙ g)
  where
    none_told : (p : ℕ × FormKind) → None ≡ Some p → ⊥
    none_told p e = cc

one_deep : (xs ys : List Lexeme) (m n : ℕ) → xs ≡ ys → IsDeepAt xs (Some m) → IsDeepAt ys (Some n) → m ≡ n
one_deep xs ys m n e h k =
    let k' : IsFirstDeep (tokens_of xs) n = subst (λ zs. IsFirstDeep (tokens_of zs) n) (sym e) k in
    elim (cases_order m n) [
      | inl same ↦ same
      | inr (inl below) ↦ absurd (omega (arith, h.over, k'.first m below))
      | inr (inr above) ↦ absurd (omega (arith, k'.over, h.first n above))
    ]

not_deep : (xs ys : List Lexeme) (n : ℕ) → xs ≡ ys → IsDeepAt xs None → IsDeepAt ys (Some n) → ⊥
not_deep xs ys n e h k =
    let k' : IsFirstDeep (tokens_of xs) n = subst (λ zs. IsFirstDeep (tokens_of zs) n) (sym e) k in
    omega (arith, k'.over, h n k'.there)

one_why : (number : ℕ) (s : SourceFile) (r q : Refusal) → IsUnread number s r → IsUnread number s q → r ≡ q
one_why number s _ _ (bad m h) (bad n k) = let e : Bad m ≡ Bad n = one_fault h k in cc
one_why number s _ _ (bad m h) (long_name n k) = let e : Bad m ≡ LongName n = one_fault h k in cc
one_why number s _ _ (bad m h) (form ys n j cut f) = absurd (not_both cut h)
one_why number s _ _ (bad m h) (deep ys n cut f d) = absurd (not_both cut h)
one_why number s _ _ (bad m h) (syntax ys p none) = absurd (not_both p.cut h)
one_why number s _ _ (long_name m h) (bad n k) = let e : LongName m ≡ Bad n = one_fault h k in cc
one_why number s _ _ (long_name m h) (long_name n k) = let e : LongName m ≡ LongName n = one_fault h k in cc
one_why number s _ _ (long_name m h) (form ys n j cut f) = absurd (not_both cut h)
one_why number s _ _ (long_name m h) (deep ys n cut f d) = absurd (not_both cut h)
one_why number s _ _ (long_name m h) (syntax ys p none) = absurd (not_both p.cut h)
one_why number s _ _ (form xs m i cut f) (bad n k) = absurd (not_both cut k)
one_why number s _ _ (form xs m i cut f) (long_name n k) = absurd (not_both cut k)
one_why number s _ _ (form xs m i cut f) (form ys n j cut' g) =
    ap (λ p. refusal.Form (place number p.0) p.1) (one_form xs ys (m, i) (n, j) (one_lexed cut cut') f g)
one_why number s _ _ (form xs m i cut f) (deep ys n cut' g d) = absurd (no_form ys xs m i (one_lexed cut' cut) g f)
one_why number s _ _ (form xs m i cut f) (syntax ys p none) = absurd (no_form ys xs m i (one_lexed p.cut cut) p.no_form f)
one_why number s _ _ (deep xs m cut f d) (bad n k) = absurd (not_both cut k)
one_why number s _ _ (deep xs m cut f d) (long_name n k) = absurd (not_both cut k)
one_why number s _ _ (deep xs m cut f d) (form ys n j cut' g) = absurd (no_form xs ys n j (one_lexed cut cut') f g)
one_why number s _ _ (deep xs m cut f d) (deep ys n cut' g e) = ap (λ k. refusal.Deep (place number k)) (one_deep xs ys m n (one_lexed cut cut') d e)
one_why number s _ _ (deep xs m cut f d) (syntax ys p none) = absurd (not_deep ys xs m (one_lexed p.cut cut) p.shallow d)
one_why number s _ _ (syntax xs p none) (bad n k) = absurd (not_both p.cut k)
one_why number s _ _ (syntax xs p none) (long_name n k) = absurd (not_both p.cut k)
one_why number s _ _ (syntax xs p none) (form ys n j cut g) = absurd (no_form xs ys n j (one_lexed p.cut cut) p.no_form g)
one_why number s _ _ (syntax xs p none) (deep ys n cut g d) = absurd (not_deep xs ys n (one_lexed p.cut cut) p.shallow d)
one_why number s _ _ (syntax xs p none) (syntax ys q none') = refl

read_or_not : (number : ℕ) (s : SourceFile) (t : FileTree) (why : Refusal) → ReadsAs number s t → IsUnread number s why → ⊥
read_or_not number s t _ r (bad m h) = not_both r.plain.cut h
read_or_not number s t _ r (long_name m h) = not_both r.plain.cut h
read_or_not number s t _ r (form xs m k cut f) = no_form r.lexemes xs m k (one_lexed r.plain.cut cut) r.plain.no_form f
read_or_not number s t _ r (deep xs m cut f d) = not_deep r.lexemes xs m (one_lexed r.plain.cut cut) r.plain.shallow d
read_or_not number s t _ r (syntax xs p none) =
    none t r.parsed.of_file r.parsed.wf (ap (lexeme_toks 1) (one_lexed p.cut r.plain.cut) ∙ r.parsed.reads)

-- ---- all sources

pub same_trees : (number : ℕ) (ss : List SourceFile) (ts us : List FileTree) → ReadAll number ss ts → ReadAll number ss us → ts ≡ us
same_trees number [] [] [] h k = refl
same_trees number [] [] (u ∷ us) h k = absurd k
same_trees number [] (t ∷ ts) us h k = absurd h
same_trees number (s ∷ ss) [] us h k = absurd h
same_trees number (s ∷ ss) (t ∷ ts) [] h k = absurd k
same_trees number (s ∷ ss) (t ∷ ts) (u ∷ us) h k =
    ap (λ v. v ∷ ts) (sym (one_tree number s t u h.0 k.0)) ∙ ap (λ vs. u ∷ vs) (same_trees (suc number) ss ts us h.1 k.1)

first_why : (number : ℕ) (ss : List SourceFile) (r q : Refusal) → FirstUnread number ss r → FirstUnread number ss q → r ≡ q
first_why number [] r q h k = absurd h
first_why number (s ∷ ss) r q (inl h) (inl k) = one_why number s r q h k
first_why number (s ∷ ss) r q (inl h) (inr k) = absurd (read_or_not number s k.0 r k.1 h)
first_why number (s ∷ ss) r q (inr h) (inl k) = absurd (read_or_not number s h.0 q h.1 k)
first_why number (s ∷ ss) r q (inr h) (inr k) = first_why (suc number) ss r q h.2 k.2

all_or_first : (number : ℕ) (ss : List SourceFile) (ts : List FileTree) (why : Refusal) → ReadAll number ss ts → FirstUnread number ss why → ⊥
all_or_first number [] ts why h k = k
all_or_first number (s ∷ ss) [] why h k = h
all_or_first number (s ∷ ss) (t ∷ ts) why h (inl k) = read_or_not number s t why h.0 k
all_or_first number (s ∷ ss) (t ∷ ts) why h (inr k) = all_or_first (suc number) ss ts why h.1 k.2

-- ---- the unit that a refusal names

head_same : (u v : UnitTree) (us vs : List UnitTree) → u ∷ us ≡ v ∷ vs → u ≡ v
head_same u v us vs e = cc

tail_same : (u v : UnitTree) (us vs : List UnitTree) → u ∷ us ≡ v ∷ vs → us ≡ vs
tail_same u v us vs e = cc

module _ (C : UnitTree → Type 0) where
  one_first : (before ahead : List UnitTree) (u v : UnitTree) (us vs : List UnitTree) → before ++ u ∷ us ≡ ahead ++ v ∷ vs
      → All (λ w. C w → ⊥) before → All (λ w. C w → ⊥) ahead → C u → C v → u ≡ v
  one_first [] [] u v us vs e h k c d = head_same u v us vs e
  one_first [] (w ∷ ahead) u v us vs e h k c d = absurd (All-head (λ z. C z → ⊥) w ahead k (subst C (head_same u w us (ahead ++ v ∷ vs) e) c))
  one_first (w ∷ before) [] u v us vs e h k c d = absurd
      (All-head (λ z. C z → ⊥) w before h (subst C (sym (head_same w v (before ++ u ∷ us) vs e)) d))
  one_first (w ∷ before) (z ∷ ahead) u v us vs e h k c d =
      one_first before ahead u v us vs (tail_same w z (before ++ u ∷ us) (ahead ++ v ∷ vs) e) (All-tail (λ z. C z → ⊥) w before h)
      (All-tail (λ z. C z → ⊥) z ahead k) c d

one_stuck : (us : List UnitTree) (a b : List ℕ) → IsStuck us a → IsStuck us b → a ≡ b
one_stuck us a b h k =
    let same : h.at ≡ k.at = one_first (LiesOnCycle us) h.before k.before h.at k.at h.behind k.behind
    (sym h.split ∙ k.split) h.first k.first h.cycle k.cycle in
    h.named ∙ ap (λ u. u.name) same ∙ sym k.named

-- ---- files

pub one_project : OneProject
one_project fs one other h k =
    let same : h.trees ≡ k.trees = same_trees 0 fs.entries h.trees k.trees h.read k.read in
    h.linked ∙ ap (λ ts. in_order (units_of fs.entries ts) (order_of (units_of fs.entries ts) fs.manifest)) same ∙ sym k.linked

pub one_refusal : OneRefusal
one_refusal fs one other (inl h) (inl k) = first_why 0 fs.entries one other h k
one_refusal fs one other (inl h) (inr k) = absurd (all_or_first 0 fs.entries k.2.trees one k.2.read h)
one_refusal fs one other (inr h) (inl k) = absurd (all_or_first 0 fs.entries h.2.trees other h.2.read k)
one_refusal fs one other (inr h) (inr k) =
    let same : h.2.trees ≡ k.2.trees = same_trees 0 fs.entries h.2.trees k.2.trees h.2.read k.2.read in
    let stuck = subst (λ ts. AreStuck (units_of fs.entries ts) fs.manifest h.0) same h.2.stuck in
    h.1 ∙ ap refusal.Cycle (one_stuck (units_of fs.entries k.2.trees) h.0 k.0 stuck.stuck k.2.stuck.stuck) ∙ sym k.1

pub read_or_refused : ReadOrRefused
read_or_refused fs project why h (inl k) = all_or_first 0 fs.entries h.trees why h.read k
read_or_refused fs project why h (inr k) =
    let same : h.trees ≡ k.2.trees = same_trees 0 fs.entries h.trees k.2.trees h.read k.2.read in
    let bad : true ≡ false = sym (h.taken k.2.stuck.derived) ∙ ap (λ ts. takes_all (units_of fs.entries ts)) same ∙ k.2.stuck.left in
    cc
