-- A source without a place that takes the new word stays.
use Rattle.std.proofs.Common.{◌≡◌, ℕ, zero, suc, ◌+◌, ◌-◌, ◌<◌, ◌≤◌, ◌==◌, ◌⊎◌, inl, inr, List, [], ◌∷◌, ◌++◌, Bool, true, false, true≢false, cond}
use Rattle.std.proofs.Common.{Option, Some, None, map, take, drop, Contains, refl, ap, sym, subst, ◌∙◌, arith, append_assoc, drop-drop}
use Rattle.std.specs.Prelude.{slice_get}
use Rattle.std.specs.List.{list_any}
use Rattle.std.proofs.lemmas.List.Folds.{drop_split}
use Rattle.rotor_base.specs.declared.place.Place.{Place}
use Rattle.rotor_base.specs.declared.place.Goal.{Goal}
use Rattle.rotor_base.specs.declared.place.Goal.TheVariants.{Decl, Outside, Missing, Hidden, Blur}
use Rattle.rotor_base.specs.declared.place.Ref.{Ref}
use Rattle.rotor_base.specs.declared.looks.Watch.{Watch}
use Rattle.rotor_base.specs.declared.source.SourceFile.{SourceFile}
use Rattle.rotor_base.specs.declared.token.Class.{Class}
use Rattle.rotor_base.specs.declared.token.Class.TheVariants as class
use Rattle.rotor_base.specs.Place.{same_place}
use Rattle.ml_lexer.specs.Laws.{AreInOrder}
use Rattle.ml_lexer.specs.Lexed.{Lexeme}
use Rattle.ml_lexer.specs.Respelled.{respelled, respelled_from}
use Rattle.ml_lexer.proofs.Order.{lexemes_are_in_order}
use Rattle.value_sites.specs.Respelled.{spelled}
use Rattle.ml_syntax.specs.RespelledFile.{new_words}
use Rattle.ml_syntax.specs.RespelledSource.{IsRespelled, AreRespelled}
use Rattle.ml_trees.specs.Tree.{UnitTree}
use Rattle.shape_core.specs.Shape.{Name, or_else, or_value, some_if}
use Rattle.binding_model.specs.Facts.{facts}
use Rattle.binding_model.specs.Renaming.{renaming}
use Rattle.binding_model.specs.Renaming.{goal_at, new_word, in_file}
use Rattle.binding_model.specs.Scopes.{here}
use Rattle.binding_model.proofs.LastEntries.{same_is}
use Rattle.binding_model.proofs.Standing.{given}
use Rattle.rename_model.specs.Foot.{is_in, leads_in, refs_to, hits}
use Rattle.rename_model.specs.Renaming.{renamed_words}
use Rattle.rename_model.specs.Report.{hit_files}
use Rattle.rename_parts.proofs.Having.{Has, has_as, has_mapped, has_filtered, any_has, has_right, has_left, has_any}
use Rattle.renamed_sources.specs.Laws.{SourcesWithoutHitsStay}

-- ---- the bytes that keep their words

later : (bytes : List ℕ) (from end : ℕ) → from ≤ end → drop (end - from) (drop from bytes) ≡ drop end bytes
later bytes from end le =
    let sum : from + (end - from) ≡ end = omega (arith, le) in
    drop-drop (end - from) from bytes ∙ ap (λ n. drop n bytes) sum

own_words : (bytes : List ℕ) (xs : List Lexeme) (at : ℕ) → AreInOrder bytes at xs
    → respelled_from at (drop at bytes) xs (map (λ x. x.bytes) xs) ≡ drop at bytes
own_words bytes [] at h = refl
own_words bytes (x ∷ xs) at h =
    let from : at ≤ x.start = h.0 in
    let span : x.start < x.end = h.1 in
    let kept = take (x.start - at) (drop at bytes) in
    let tail = ap (λ b. respelled_from x.end b xs (map (λ y. y.bytes) xs)) (later bytes at x.end (omega (arith, from, span)))
    ∙ own_words bytes xs x.end h.4 in
    ap (λ b. (kept ++ x.bytes) ++ b) tail
    ∙ append_assoc kept x.bytes (drop x.end bytes)
    ∙ ap (λ b. kept ++ (b ++ drop x.end bytes)) h.3
    ∙ ap (λ b. kept ++ b) (sym (drop_split bytes x.start x.end (omega (arith, span))))
    ∙ sym (drop_split bytes at x.start from)

-- ---- the goals at a place

goal_case : (r : Ref) (rs : List Ref) (p : Place) (g : Goal) (b : Bool) → same_place r.at p ≡ b
    → (goal_at rs p ≡ Some g → Has (λ z. (z.at ≡ p) × (z.goal ≡ g)) rs) → or_else (some_if b r.goal) (goal_at rs p) ≡ Some g
    → Has (λ z. (z.at ≡ p) × (z.goal ≡ g)) (r ∷ rs)
goal_case r rs p g true s f h = inl (same_is r.at p s, (let q : r.goal ≡ g = cc in q))
goal_case r rs p g false s f h = inr (f h)

goal_has : (rs : List Ref) (p : Place) (g : Goal) → goal_at rs p ≡ Some g → Has (λ z. (z.at ≡ p) × (z.goal ≡ g)) rs
goal_has [] p g e = let wrong : None ≡ Some g = e in absurd cc
goal_has (r ∷ rs) p g e = goal_case r rs p g (same_place r.at p) refl (goal_has rs p g) e

own_number : (n : ℕ) → (n == n) ≡ true
own_number n = grind arith

source_same : (a b : SourceFile) → a.name ≡ b.name → a.bytes ≡ b.bytes → a ≡ b
source_same a b e f = ap (λ n. record { name = n; bytes = a.bytes }) e ∙ ap (λ x. record { name = b.name; bytes = x }) f

-- ---- a file without a place that takes the new word

module _ (us : List UnitTree) (w : Watch) where
  abbrev R : List Ref
  R = (facts us).refs

  abbrev H : List Place
  H = hits (facts us).refs w.foot

  module _ (n : ℕ) (none : list_any (λ p. p.file == n) H ≡ false) where
    no_hit : (p : Place) → p.file ≡ n → Has (λ q. q ≡ p) H → ⊥
    no_hit p f h =
        let some : list_any (λ q. q.file == n) H ≡ true = any_has (λ (q : Place). q.file == n) H
        (has_as (λ (q : Place). q ≡ p) (λ (q : Place). (q.file == n) ≡ true) H
        (λ q z. ap (λ (v : Place). v.file == n) z ∙ (ap (λ m. m == n) f ∙ own_number n)) h) in
        true≢false (sym some ∙ none)

    -- it has no member and no reference to one
    member_in : (p : Place) → is_in w.foot p ≡ true → Has (λ q. q ≡ p) w.foot.decls
    member_in p e = has_as (λ (q : Place). same_place p q ≡ true) (λ (q : Place). q ≡ p) w.foot.decls (λ q s. sym (same_is p q s))
        (has_any (same_place p) w.foot.decls e)

    no_member : (p : Place) → p.file ≡ n → is_in w.foot p ≡ true → ⊥
    no_member p f e = no_hit p f (has_left (λ (q : Place). q ≡ p) w.foot.decls (map (λ r. r.at) (refs_to w.foot R)) (member_in p e))

    no_use : (p d : Place) → p.file ≡ n → goal_at R p ≡ Some (Decl d) → is_in w.foot d ≡ true → ⊥
    no_use p d f e l =
        let h = has_as (λ (r : Ref). (r.at ≡ p) × (r.goal ≡ Decl d)) (λ (r : Ref). (r.at ≡ p) × (leads_in w.foot r.goal ≡ true)) R
        (λ r z. (z.0, ap (leads_in w.foot) z.1 ∙ l)) (goal_has R p (Decl d) e) in
        let k = has_filtered (λ r. leads_in w.foot r.goal) (λ (r : Ref). r.at ≡ p) R h in
        no_hit p f (has_right (λ (q : Place). q ≡ p) w.foot.decls (map (λ r. r.at) (refs_to w.foot R))
        (has_mapped (λ (r : Ref). r.at) (λ (q : Place). q ≡ p) (refs_to w.foot R) k))

    value_kept : (x : Name) (b : Bool) → (b ≡ true → ⊥) → or_value (some_if b w.new) x ≡ x
    value_kept x true f = absurd (f refl)
    value_kept x false f = refl

    goal_kept : (p : Place) (x : Name) → p.file ≡ n → (o : Option Goal) → goal_at R p ≡ o → new_word (renaming w) o p x ≡ x
    goal_kept p x f None e = ap (λ z. or_value z x) (given w.new w.foot.decls p) ∙ value_kept x (is_in w.foot p) (no_member p f)
    goal_kept p x f (Some (Decl d)) e = ap (λ z. or_value z x) (given w.new w.foot.decls d) ∙ value_kept x (is_in w.foot d) (no_use p d f e)
    goal_kept p x f (Some Outside) e = refl
    goal_kept p x f (Some Missing) e = refl
    goal_kept p x f (Some Hidden) e = refl
    goal_kept p x f (Some (Blur by k o)) e = refl

    one_kept : (c : Class) (at : ℕ) (text : Name) → (spelled (in_file (renamed_words us w) n) c (record { at = at; text = text })).text ≡ text
    one_kept class.Lower at text = goal_kept (here n at) text refl (goal_at R (here n at)) refl
    one_kept _ at text = refl

    words_kept : (at : ℕ) (xs : List Lexeme) → new_words (in_file (renamed_words us w) n) at xs ≡ map (λ x. x.bytes) xs
    words_kept at [] = refl
    words_kept at (x ∷ xs) =
        ap (λ t. t ∷ new_words (in_file (renamed_words us w) n) (suc at) xs) (one_kept x.class at x.bytes)
        ∙ ap (λ l. x.bytes ∷ l) (words_kept (suc at) xs)

    source_stays : (old new : SourceFile) → IsRespelled (in_file (renamed_words us w) n) old new → old ≡ new
    source_stays old new h =
        sym (source_same new old h.name
        (h.bytes ∙ (ap (respelled old.bytes h.lexemes) (words_kept 1 h.lexemes)
        ∙ own_words old.bytes h.lexemes 0 (lexemes_are_in_order old.bytes h.lexemes h.cut))))

  -- ---- all sources

  alone : (n : ℕ) → n ≡ n + 0
  alone n = omega arith

  further : (n k : ℕ) → suc n + k ≡ n + suc k
  further n k = omega arith

  first_in : (n : ℕ) (ms : List ℕ) → Contains (n ∷ ms) (n + 0)
  first_in n ms = (0, omega arith, alone n)

  more_in : (b : Bool) (n m : ℕ) (ms : List ℕ) → Contains ms m → Contains (cond b (n ∷ ms) ms) m
  more_in true n m ms c = (suc c.0, omega (arith, c.1), c.2)
  more_in false n m ms c = c

  stays_from : (n : ℕ) (olds news : List SourceFile) → AreRespelled (in_file (renamed_words us w)) n olds news → (k : ℕ)
      → (slice_get olds k ≡ slice_get news k) ⊎ Contains (hit_files H n olds) (n + k)
  stays_from n [] [] h k = inl refl
  stays_from n [] (new ∷ news) h k = absurd h
  stays_from n (old ∷ olds) [] h k = absurd h
  stays_from n (old ∷ olds) (new ∷ news) h zero = by (list_any (λ p. p.file == n) H) refl
    where
      by : (b : Bool) → list_any (λ p. p.file == n) H ≡ b
          → (Some old ≡ Some new) ⊎ Contains (cond b (n ∷ hit_files H (suc n) olds) (hit_files H (suc n) olds)) (n + 0)
      by true e = inr (first_in n (hit_files H (suc n) olds))
      by false e = inl (ap Some (source_stays n e old new h.0))
  stays_from n (old ∷ olds) (new ∷ news) h (suc k) = by (stays_from (suc n) olds news h.1 k)
    where
      by : (slice_get olds k ≡ slice_get news k) ⊎ Contains (hit_files H (suc n) olds) (suc n + k)
          → (slice_get olds k ≡ slice_get news k)
          ⊎ Contains (cond (list_any (λ p. p.file == n) H) (n ∷ hit_files H (suc n) olds) (hit_files H (suc n) olds)) (n + suc k)
      by (inl e) = inl e
      by (inr c) = inr (more_in (list_any (λ p. p.file == n) H) n (n + suc k) (hit_files H (suc n) olds)
          (subst (Contains (hit_files H (suc n) olds)) (further n k) c))

from_zero : (k : ℕ) → 0 + k ≡ k
from_zero k = omega arith

pub sources_without_hits_stay : SourcesWithoutHitsStay
sources_without_hits_stay us w olds news h k = by (stays_from us w 0 olds news h k)
  where
    by : (slice_get olds k ≡ slice_get news k) ⊎ Contains (hit_files (hits (facts us).refs w.foot) 0 olds) (0 + k)
        → (slice_get olds k ≡ slice_get news k) ⊎ Contains (hit_files (hits (facts us).refs w.foot) 0 olds) k
    by (inl e) = inl e
    by (inr c) = inr (subst (Contains (hit_files (hits (facts us).refs w.foot) 0 olds)) (from_zero k) c)
