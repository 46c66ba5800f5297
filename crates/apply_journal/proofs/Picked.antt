-- The files of some numbers that rise are those files in their order.
use Rattle.std.proofs.Common.{◌≡◌, ℕ, zero, suc, ◌+◌, ◌-◌, ◌<◌, ◌≤◌, ◌==◌, ◌||◌, nat_lt, List, [], ◌∷◌, ◌++◌, Bool, true, false, cond, Option, Some}
use Rattle.std.proofs.Common.{None, length, take, get_or, slice_get, All, refl, sym, ap, subst, ◌∙◌, arith}
use Rattle.std.specs.List.{list_any, filter_map, cons_option, AllByRecursion}
use Rattle.std.specs.List.Sorted.{IsStrictlySortedBy}
use Rattle.std.specs.declared.cmp.Ordering.TheVariants.{Less, Equal, Greater}
use Rattle.std.specs.Ordering.{nat_cmp}
use Rattle.std.proofs.lemmas.Bool.Decides.{nat_tests}
use Rattle.std.proofs.lemmas.List.{take_more}
use Rattle.std.proofs.lemmas.Option.{slice_get_read}
use Rattle.std.proofs.lemmas.List.Elements.{recursion_from_All}
use Rattle.rotor_base.specs.Files.{FileSet, IsProject}
use Rattle.rotor_base.specs.declared.source.SourceFile.{SourceFile}
use Rattle.project_load.specs.Rewritten.{files_at}
use Rattle.apply_journal.specs.Plan.{plan_text, IsPlan}
use Rattle.apply_journal.proofs.Texts.{picked, picked_plan}

-- numbers that rise, the first of them at least `at`
abbrev Rises : ℕ → List ℕ → Type 0
Rises at [] = Unit {0}
Rises at (n ∷ ns) = (at ≤ n) × Rises (n + 1) ns

is_less : (n m : ℕ) → nat_cmp n m ≡ Less → n + 1 ≤ m
is_less n m e = by (nat_lt n m) refl e where
  other : (n m : ℕ) (t : Bool) → cond t Equal Greater ≡ Less → ⊥
  other n m true e = cc
  other n m false e = cc

  by : (t : Bool) → nat_lt n m ≡ t → cond t Less (cond (n == m) Equal Greater) ≡ Less → n + 1 ≤ m
  by true t e = grind arith
  by false t e = absurd (other n m (n == m) e)

above : (n : ℕ) (ns : List ℕ) → AllByRecursion (λ m. nat_cmp n m ≡ Less) ns → AllByRecursion (λ m. n + 1 ≤ m) ns
above n [] h = tt
above n (m ∷ ns) h = (is_less n m h.0, above n ns h.1)

rises_by : (at : ℕ) (ns : List ℕ) → AllByRecursion (λ m. at ≤ m) ns → IsStrictlySortedBy nat_cmp ns → Rises at ns
unfolding IsStrictlySortedBy
rises_by at [] a s = tt
rises_by at (n ∷ ns) a s = (a.0, rises_by (n + 1) ns (above n ns s.0) s.1)

from_zero : (ns : List ℕ) → AllByRecursion (λ m. 0 ≤ m) ns
from_zero [] = tt
from_zero (n ∷ ns) = (omega arith, from_zero ns)

not_same : (n at : ℕ) → at < n → (n == at) ≡ false
not_same n at l = grind (arith, nat_tests)

is_same : (n at : ℕ) → (n == at) ≡ true → n ≡ at
is_same n at e = grind (arith, nat_tests)

is_above : (n at : ℕ) → at ≤ n → (n == at) ≡ false → at < n
is_above n at l e = grind (arith, nat_tests)

-- numbers above one are not it
none_is : (at k : ℕ) (ns : List ℕ) → at < k → Rises k ns → list_any (λ n. n == at) ns ≡ false
none_is at k [] l h = refl
none_is at k (n ∷ ns) l h = by (n == at) (not_same n at (omega (arith, h.0))) (none_is at (n + 1) ns (omega (arith, h.0)) h.1) where
  by : (t : Bool) → t ≡ false → list_any (λ n. n == at) ns ≡ false → (t || list_any (λ n. n == at) ns) ≡ false
  by true e rest = cc
  by false e rest = rest

is_other : (n k : ℕ) → n < k → (n == k) ≡ false
is_other n k l = grind (arith, nat_tests)

-- a number below the first file's picks none
skip : (n k : ℕ) (ns : List ℕ) (fs : List SourceFile) → n < k → picked k (n ∷ ns) fs ≡ picked k ns fs
skip n k ns [] l = refl
skip n k ns (f ∷ fs) l = by (n == k) (is_other n k l) (skip n (k + 1) ns fs (omega arith)) where
  here : (t : Bool) → picked (k + 1) (n ∷ ns) fs ≡ picked (k + 1) ns fs
      → cond t (f ∷ picked (k + 1) (n ∷ ns) fs) (picked (k + 1) (n ∷ ns) fs) ≡ cond t (f ∷ picked (k + 1) ns fs) (picked (k + 1) ns fs)
  here true rest = ap (λ (v : List SourceFile). f ∷ v) rest
  here false rest = rest

  by : (t : Bool) → t ≡ false → picked (k + 1) (n ∷ ns) fs ≡ picked (k + 1) ns fs
      → cond (t || list_any (λ n. n == k) ns) (f ∷ picked (k + 1) (n ∷ ns) fs) (picked (k + 1) (n ∷ ns) fs) ≡ picked k ns (f ∷ fs)
  by true e rest = cc
  by false e rest = here (list_any (λ n. n == k) ns) rest

-- numbers are counted from the next file
shift : (f : SourceFile) (fs : List SourceFile) (at k : ℕ) (ns : List ℕ) → at < k → Rises k ns
    → filter_map (λ m. slice_get (f ∷ fs) (m - at)) ns ≡ filter_map (λ m. slice_get fs (m - (at + 1))) ns
shift f fs at k [] l h = refl
shift f fs at k (n ∷ ns) l h =
    let one : n - at ≡ suc (n - (at + 1)) = omega (arith, h.0, l) in
    ap (λ (i : ℕ). cons_option (slice_get (f ∷ fs) i) (filter_map (λ m. slice_get (f ∷ fs) (m - at)) ns)) one
    ∙ ap (λ (v : List SourceFile). cons_option (slice_get fs (n - (at + 1))) v) (shift f fs at (n + 1) ns (omega (arith, h.0)) h.1)

moved : (at : ℕ) (f : SourceFile) (fs : List SourceFile) (ms : List ℕ) → AllByRecursion (λ n. n < at + length (f ∷ fs)) ms
    → AllByRecursion (λ n. n < (at + 1) + length fs) ms
moved at f fs [] h = tt
moved at f fs (m ∷ ms) h = (omega (arith, h.0), moved at f fs ms h.1)

weaker : (k j : ℕ) (ms : List ℕ) → k ≤ j → Rises j ms → Rises k ms
weaker k j [] q r = tt
weaker k j (m ∷ ms) q r = (omega (arith, q, r.0), r.1)

hit : (f : SourceFile) (fs : List SourceFile) (at n : ℕ) (ns : List ℕ) → n ≡ at → Rises (at + 1) ns
    → picked (at + 1) ns fs ≡ filter_map (λ m. slice_get fs (m - (at + 1))) ns
    → f ∷ picked (at + 1) (n ∷ ns) fs ≡ filter_map (λ m. slice_get (f ∷ fs) (m - at)) (n ∷ ns)
hit f fs at n ns e next rest =
    let zeroth : n - at ≡ 0 = omega (arith, e) in
    ap (λ (v : List SourceFile). f ∷ v) (skip n (at + 1) ns fs (omega (arith, e)) ∙ rest ∙ sym (shift f fs at (at + 1) ns (omega arith) next))
    ∙ ap (λ (i : ℕ). cons_option (slice_get (f ∷ fs) i) (filter_map (λ m. slice_get (f ∷ fs) (m - at)) ns)) (sym zeroth)

picked_are : (fs : List SourceFile) (at : ℕ) (ns : List ℕ) → Rises at ns → AllByRecursion (λ n. n < at + length fs) ns
    → picked at ns fs ≡ filter_map (λ m. slice_get fs (m - at)) ns
picked_are [] at [] h b = refl
picked_are [] at (n ∷ ns) h b = absurd (omega (arith, h.0, b.0))
picked_are (f ∷ fs) at [] h b = picked_are fs (at + 1) [] tt tt
picked_are (f ∷ fs) at (n ∷ ns) h b = by (n == at) refl (λ r. picked_are fs (at + 1) ns r (moved at f fs ns b.1))
    (λ r. picked_are fs (at + 1) (n ∷ ns) r (moved at f fs (n ∷ ns) b)) where
      by : (t : Bool) → (n == at) ≡ t → (Rises (at + 1) ns → picked (at + 1) ns fs ≡ filter_map (λ m. slice_get fs (m - (at + 1))) ns)
          → (Rises (at + 1) (n ∷ ns) → picked (at + 1) (n ∷ ns) fs ≡ filter_map (λ m. slice_get fs (m - (at + 1))) (n ∷ ns))
          → cond (t || list_any (λ m. m == at) ns) (f ∷ picked (at + 1) (n ∷ ns) fs) (picked (at + 1) (n ∷ ns) fs) ≡ filter_map
          (λ m. slice_get (f ∷ fs) (m - at)) (n ∷ ns)
      by true e rest all =
          let same : n ≡ at = is_same n at e in
          let next : Rises (at + 1) ns = subst (λ (k : ℕ). Rises (k + 1) ns) same h.1 in
          hit f fs at n ns same next (rest next)
      by false e rest all =
          let l : at < n = is_above n at h.0 e in
          let next : Rises (at + 1) ns = weaker (at + 1) (n + 1) ns (omega (arith, l)) h.1 in
          let both : Rises (at + 1) (n ∷ ns) = (omega (arith, l), h.1) in
          ap (λ t. cond t (f ∷ picked (at + 1) (n ∷ ns) fs) (picked (at + 1) (n ∷ ns) fs)) (none_is at (at + 1) ns (omega arith) next) ∙ all both
          ∙ sym (shift f fs at (at + 1) (n ∷ ns) (omega arith) both)

from_none : (n : ℕ) (ns : List ℕ) → AllByRecursion (λ m. m < n) ns → AllByRecursion (λ m. m < 0 + n) ns
from_none n [] h = tt
from_none n (m ∷ ns) h = (omega (arith, h.0), from_none n ns h.1)

no_shift : (fs : List SourceFile) (ns : List ℕ) → filter_map (λ m. slice_get fs (m - 0)) ns ≡ filter_map (slice_get fs) ns
no_shift fs [] = refl
no_shift fs (n ∷ ns) =
    let same : n - 0 ≡ n = omega arith in
    ap (λ (i : ℕ). cons_option (slice_get fs i) (filter_map (λ m. slice_get fs (m - 0)) ns)) same
    ∙ ap (λ (v : List SourceFile). cons_option (slice_get fs n) v) (no_shift fs ns)

-- the files of numbers in strict order that all number a file
pub files_picked : (fs : List SourceFile) (ns : List ℕ) → IsStrictlySortedBy nat_cmp ns → AllByRecursion (λ n. n < length fs) ns
    → picked 0 ns fs ≡ files_at fs ns
files_picked fs ns s b = picked_are fs 0 ns (rises_by 0 ns (from_zero ns) s) (from_none (length fs) ns b) ∙ no_shift fs ns

files_at-append : (fs : List SourceFile) (ns ms : List ℕ) → files_at fs (ns ++ ms) ≡ files_at fs ns ++ files_at fs ms
files_at-append fs [] ms = refl
files_at-append fs (n ∷ ns) ms = by (slice_get fs n) (files_at-append fs ns ms) where
  by : (found : Option SourceFile) → files_at fs (ns ++ ms) ≡ files_at fs ns ++ files_at fs ms
      → cons_option found (files_at fs (ns ++ ms)) ≡ cons_option found (files_at fs ns) ++ files_at fs ms
  by None rest = rest
  by (Some f) rest = ap (λ (v : List SourceFile). f ∷ v) rest

each_known : (m : ℕ) (ns : List ℕ) (i : ℕ) → AllByRecursion (λ n. n < m) ns → i < length ns → get_or ns i 0 < m
each_known m [] i h l = absurd (omega arith)
each_known m (n ∷ ns) zero h l = h.0
each_known m (n ∷ ns) (suc i) h l = each_known m ns i h.1 (omega arith)

-- one more file is copied
pub files_at_more : (fs : List SourceFile) (ns : List ℕ) (i : ℕ) (f g : SourceFile) (found more : List SourceFile) → i < length ns
    → All (λ n. n < length fs) ns → g ≡ get_or fs (get_or ns i 0) g → f ≡ g
    → found ≡ files_at fs (take i ns) → more ≡ found ++ f ∷ [] → more ≡ files_at fs (take (i + 1) ns)
files_at_more fs ns i f g found more l b e s h m =
    let n = get_or ns i 0 in
    let front : take (i + 1) ns ≡ take i ns ++ n ∷ [] = take_more ns i 0 l in
    let known : n < length fs = each_known (length fs) ns i (recursion_from_All (λ k. k < length fs) ns b) l in
    let one : files_at fs (n ∷ []) ≡ g ∷ [] = ap (λ (o : Option SourceFile). cons_option o []) (slice_get_read fs (length fs) n g refl known e) in
    m ∙ ap (λ (v : SourceFile). found ++ v ∷ []) s ∙ ap (λ (v : List SourceFile). v ++ g ∷ []) h
    ∙ ap (λ (v : List SourceFile). files_at fs (take i ns) ++ v) (sym one)
    ∙ sym (files_at-append fs (take i ns) (n ∷ [])) ∙ ap (files_at fs) (sym front)

-- the text of files of a project is a plan
pub plan_of_files : (files : FileSet) (ns : List ℕ) → IsProject files → IsStrictlySortedBy nat_cmp ns → All (λ n. n < length files.entries) ns
    → IsPlan (plan_text (files_at files.entries ns)) (files_at files.entries ns)
plan_of_files files ns h s b =
    subst (λ (fs : List SourceFile). IsPlan (plan_text fs) fs)
    (files_picked files.entries ns s (recursion_from_All (λ n. n < length files.entries) ns b)) (picked_plan files ns h)
