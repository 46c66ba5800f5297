-- The text of a plan, piece by piece, and the files that are picked.
use Rattle.std.proofs.Common.{◌≡◌, ℕ, ◌+◌, ◌-◌, ◌*◌, ◌<◌, ◌≤◌, ◌==◌, ◌&&◌, ◌||◌, List, [], ◌∷◌, ◌++◌, Bool, true, false, cond, Option, Some, None}
use Rattle.std.proofs.Common.{option_map, length, take, drop, get_or, flat_map, sum_by, nat_lt, codes, refl, sym, ap, ◌∙◌, append_assoc, append-nil}
use Rattle.std.proofs.Common.{arith, length-append, take-append-drop}
use Rattle.std.specs.List.{list_any, list_all, AllByRecursion}
use Rattle.std.specs.List.Sorted.{IsStrictlySortedBy}
use Rattle.std.specs.Fmt.{decimal}
use Rattle.std.specs.Ordering.{nat_cmp}
use Rattle.std.specs.Cmp.Lexicographic.{slice_cmp, bytes_decides}
use Rattle.std.proofs.lemmas.Bool.Decides.{nat_tests}
use Rattle.std.proofs.lemmas.Grind.{common_steps}
use Rattle.rotor_base.specs.declared.refusal.LoadError.{LoadError}
use Rattle.rotor_base.specs.declared.refusal.LoadError.TheVariants.{TooMany, TooLarge}
use Rattle.rotor_base.proofs.Loads.{are_over_with, first_with_miss}
use Rattle.std.specs.declared.cmp.Ordering.TheVariants.{Less}
use Rattle.std.proofs.lemmas.List.{take_more}
use Rattle.std.proofs.lemmas.Fmt.{length-decimal-le}
use Rattle.rotor_base.specs.Files.{FileSet, IsProject, names_of, too_many, too_large, are_over, first_with}
use Rattle.rotor_base.specs.Stem.{is_source_name, is_stem_word, is_body_name, is_face_name, ends_stem}
use Rattle.rotor_base.specs.declared.source.SourceFile.{SourceFile}
use Rattle.rotor_base.proofs.Kept.{keep_limits, few_files, neither}
use Rattle.apply_journal.specs.Plan.{line, plan_entry, plan_text, IsPlan}
use Rattle.apply_journal.proofs.Plans.{both_free, both_true}

pub shape : (h d l e z : List ℕ) → ((((h ++ d) ++ l) ++ e) ++ z) ≡ h ++ ((d ++ l) ++ (e ++ z))
shape h d l e z = append_assoc ((h ++ d) ++ l) e z ∙ ap (λ v. v ++ (e ++ z)) (append_assoc h d l) ∙ append_assoc h (d ++ l) (e ++ z)

pub entries-append : (fs gs : List SourceFile) → flat_map plan_entry (fs ++ gs) ≡ flat_map plan_entry fs ++ flat_map plan_entry gs
entries-append [] gs = refl
entries-append (f ∷ fs) gs = ap (λ v. plan_entry f ++ v) (entries-append fs gs)
    ∙ sym (append_assoc (plan_entry f) (flat_map plan_entry fs) (flat_map plan_entry gs))

-- one more file
pub entries_more : (fs : List SourceFile) (i : ℕ) (f : SourceFile) (start text more : List ℕ) → i < length fs → f ≡ get_or fs i f
    → text ≡ start ++ flat_map plan_entry (take i fs) → more ≡ text ++ plan_entry f → more ≡ start ++ flat_map plan_entry (take (i + 1) fs)
entries_more fs i f start text more h e t m =
    let front : take (i + 1) fs ≡ take i fs ++ f ∷ [] = take_more fs i f h ∙ ap (λ (g : SourceFile). take i fs ++ g ∷ []) (sym e) in
    let all : flat_map plan_entry (take (i + 1) fs) ≡ flat_map plan_entry (take i fs) ++ plan_entry f =
    ap (flat_map plan_entry) front ∙ entries-append (take i fs) (f ∷ [])
    ∙ ap (λ v. flat_map plan_entry (take i fs) ++ v) (append-nil (plan_entry f)) in
    m ∙ ap (λ v. v ++ plan_entry f) t ∙ append_assoc start (flat_map plan_entry (take i fs)) (plan_entry f) ∙ ap (λ v. start ++ v) (sym all)

-- ---- the files that are picked

-- the files whose numbers are among some, if the first file has the number `at`
abbrev pub picked : ℕ → List ℕ → List SourceFile → List SourceFile
picked at numbers [] = []
picked at numbers (file ∷ files) = cond (list_any (λ n. n == at) numbers) (file ∷ picked (at + 1) numbers files) (picked (at + 1) numbers files)

-- ---- picked files have the properties of the files of a project

picked_all : (p : List ℕ → Bool) (at : ℕ) (ns : List ℕ) (fs : List SourceFile) → list_all p (names_of fs) ≡ true
    → list_all p (names_of (picked at ns fs)) ≡ true
picked_all p at ns [] h = refl
picked_all p at ns (f ∷ fs) h = by (list_any (λ n. n == at) ns) (picked_all p (at + 1) ns fs (both_true _ _ h).1) where
  by : (b : Bool) → list_all p (names_of (picked (at + 1) ns fs)) ≡ true
      → list_all p (names_of (cond b (f ∷ picked (at + 1) ns fs) (picked (at + 1) ns fs))) ≡ true
  by true rest = ap (λ t. t && list_all p (names_of (picked (at + 1) ns fs))) (both_true _ _ h).0 ∙ rest
  by false rest = rest

abbrev Above : List ℕ → List (List ℕ) → Type 0
Above name names = AllByRecursion (λ y. slice_cmp nat_cmp name y ≡ Less) names

picked_above : (name : List ℕ) (at : ℕ) (ns : List ℕ) (fs : List SourceFile) → Above name (names_of fs) → Above name (names_of (picked at ns fs))
picked_above name at ns [] h = tt
picked_above name at ns (f ∷ fs) h = by (list_any (λ n. n == at) ns) (picked_above name (at + 1) ns fs h.1) where
  by : (b : Bool) → Above name (names_of (picked (at + 1) ns fs)) → Above name (names_of (cond b (f ∷ picked (at + 1) ns fs) (picked (at + 1) ns fs)))
  by true rest = (h.0, rest)
  by false rest = rest

picked_rise : (at : ℕ) (ns : List ℕ) (fs : List SourceFile) → IsStrictlySortedBy (slice_cmp nat_cmp) (names_of fs)
    → IsStrictlySortedBy (slice_cmp nat_cmp) (names_of (picked at ns fs))
unfolding IsStrictlySortedBy
picked_rise at ns [] h = tt
picked_rise at ns (f ∷ fs) h = by (list_any (λ n. n == at) ns) (picked_rise (at + 1) ns fs h.1) where
  by : (b : Bool) → IsStrictlySortedBy (slice_cmp nat_cmp) (names_of (picked (at + 1) ns fs))
      → IsStrictlySortedBy (slice_cmp nat_cmp) (names_of (cond b (f ∷ picked (at + 1) ns fs) (picked (at + 1) ns fs)))
  by true rest = (picked_above f.name (at + 1) ns fs h.0, rest)
  by false rest = rest

picked_len : (at : ℕ) (ns : List ℕ) (fs : List SourceFile) → length (picked at ns fs) ≤ length fs
picked_len at ns [] = omega arith
picked_len at ns (f ∷ fs) = by (list_any (λ n. n == at) ns) (picked_len (at + 1) ns fs) where
  by : (b : Bool) → length (picked (at + 1) ns fs) ≤ length fs → length (cond b (f ∷ picked (at + 1) ns fs) (picked (at + 1) ns fs)) ≤ length (f ∷ fs)
  by true rest = omega (arith, rest)
  by false rest = omega (arith, rest)

abbrev Total : List SourceFile → ℕ
Total fs = sum_by (λ file. length file.bytes) fs

total_cons : (f : SourceFile) (fs : List SourceFile) → Total (f ∷ fs) ≡ length f.bytes + Total fs
total_cons f fs = grind (arith, common_steps)

picked_sum : (at : ℕ) (ns : List ℕ) (fs : List SourceFile) → Total (picked at ns fs) ≤ Total fs
picked_sum at ns [] = omega arith
picked_sum at ns (f ∷ fs) = by (list_any (λ n. n == at) ns) (picked_sum (at + 1) ns fs) where
  by : (b : Bool) → Total (picked (at + 1) ns fs) ≤ Total fs → Total (cond b (f ∷ picked (at + 1) ns fs) (picked (at + 1) ns fs)) ≤ Total (f ∷ fs)
  by true rest = omega (arith, rest, total_cons f fs, total_cons f (picked (at + 1) ns fs))
  by false rest = omega (arith, rest, total_cons f fs)

abbrev has_big : List SourceFile → Bool
has_big fs = list_any (λ file. nat_lt 1048576 (length file.bytes)) fs

picked_small : (at : ℕ) (ns : List ℕ) (fs : List SourceFile) → has_big fs ≡ false → has_big (picked at ns fs) ≡ false
picked_small at ns [] h = refl
picked_small at ns (f ∷ fs) h = by (list_any (λ n. n == at) ns) (picked_small (at + 1) ns fs (both_free _ _ h).1) where
  by : (b : Bool) → has_big (picked (at + 1) ns fs) ≡ false → has_big (cond b (f ∷ picked (at + 1) ns fs) (picked (at + 1) ns fs)) ≡ false
  by true rest = ap (λ t. t || has_big (picked (at + 1) ns fs)) (both_free _ _ h).0 ∙ rest
  by false rest = rest

few_by : (n : ℕ) (t : Bool) → nat_lt 2000 n ≡ t → n ≤ 2000 → ◌≡◌ {A = Option LoadError} (cond t (Some (TooMany n)) None) None
few_by n true e l = absurd (grind arith)
few_by n false e l = refl

pub not_many : (fs : List SourceFile) → length fs ≤ 2000 → too_many fs ≡ None
unfolding too_many
not_many fs l = few_by (length fs) (nat_lt 2000 (length fs)) refl l

fits : (m n : ℕ) → n ≤ m → nat_lt m n ≡ false
fits m n l = grind (arith, nat_tests)

within : (m n : ℕ) → nat_lt m n ≡ false → n ≤ m
within m n e = grind arith

no_first : (front xs : List SourceFile) → are_over front ≡ false → has_big xs ≡ false → Total front + Total xs ≤ 8388608
    → first_with (λ f. are_over (front ++ f)) xs ≡ None
no_first front [] o b l = refl
no_first front (x ∷ xs) o b l =
    let small : nat_lt 1048576 (length x.bytes) ≡ false = (both_free _ _ b).0 in
    let fit : nat_lt 8388608 (Total front + length x.bytes) ≡ false =
    fits 8388608 (Total front + length x.bytes) (omega (arith, l, total_cons x xs)) in
    let over : are_over (front ++ x ∷ []) ≡ false = are_over_with front x o ∙ ap (λ t. t || nat_lt 8388608 (Total front + length x.bytes)) small
    ∙ fit in
    let more : Total (front ++ x ∷ []) ≡ Total front + length x.bytes = grind (arith, common_steps) in
    first_with_miss front x xs over ∙ no_first (front ++ x ∷ []) xs over (both_free _ _ b).1 (omega (arith, l, more, total_cons x xs))

pub not_large : (fs : List SourceFile) → has_big fs ≡ false → Total fs ≤ 8388608 → too_large fs ≡ None
unfolding too_large
not_large fs b l = ap (option_map (λ file. TooLarge file.name)) (no_first [] fs refl b (omega (arith, l)))

-- ---- the length of a plan

stem_short : (xs : List ℕ) → is_stem_word xs ≡ true → length xs ≤ 255
stem_short [] h = omega arith
stem_short (x ∷ xs) h = let t = (both_true _ _ (both_true _ _ h).0).1 in le_of (length (x ∷ xs)) t where
  le_of : (n : ℕ) → Rattle.std.specs.Prelude.nat_le n 255 ≡ true → n ≤ 255
  le_of n e = grind arith

ended_short : (ending name : List ℕ) → length ending ≤ 4 → ends_stem ending name ≡ true → length name ≤ 259
unfolding ends_stem
ended_short ending name l h =
    let n = length name - length ending in
    let t = both_true _ _ h in
    let end : drop n name ≡ ending = (bytes_decides (drop n name) ending).0 t.0 in
    let front = stem_short (take n name) t.1 in
    let whole : length (take n name) + length (drop n name) ≡ length name = sym (length-append (take n name) (drop n name))
    ∙ ap length (take-append-drop n name) in
    let back : length (drop n name) ≡ length ending = ap length end in
    omega (arith, front, whole, back, l)

source_short : (name : List ℕ) → is_source_name name ≡ true → length name ≤ 259
source_short name h = by (is_body_name name) refl h where
  by : (b : Bool) → is_body_name name ≡ b → (b || is_face_name name) ≡ true → length name ≤ 259
  by true e t = ended_short (codes ".ml") name (omega arith) e
  by false e t = ended_short (codes ".mli") name (omega arith) t

decimal_short : (n : ℕ) → n ≤ 1048576 → length (decimal n) ≤ 20
decimal_short n h = length-decimal-le 20 n (omega arith) (omega (arith, h)) (omega (arith, h))

entry_short : (f : SourceFile) → is_source_name f.name ≡ true → length f.bytes ≤ 1048576 → length (plan_entry f) ≤ length f.bytes + 282
entry_short f n l =
    let name = source_short f.name n in
    let digits = decimal_short (length f.bytes) l in
    omega (
      arith,
      name,
      digits,
      length-append (f.name ++ 32 ∷ []) (line (decimal (length f.bytes)) ++ line f.bytes),
      length-append f.name (32 ∷ []),
      length-append (line (decimal (length f.bytes))) (line f.bytes),
      length-append (decimal (length f.bytes)) (10 ∷ []),
      length-append f.bytes (10 ∷ []),
    )

entries_short : (fs : List SourceFile) → list_all is_source_name (names_of fs) ≡ true → has_big fs ≡ false
    → length (flat_map plan_entry fs) ≤ Total fs + 282 * length fs
entries_short [] n b = omega arith
entries_short (f ∷ fs) n b =
    let rest : length (flat_map plan_entry fs) ≤ Total fs + 282 * length fs = entries_short fs (both_true _ _ n).1 (both_free _ _ b).1 in
    let one = entry_short f (both_true _ _ n).0 (within 1048576 (length f.bytes) (both_free _ _ b).0) in
    omega (arith, rest, one, total_cons f fs, length-append (plan_entry f) (flat_map plan_entry fs))

text_short : (fs : List SourceFile) → list_all is_source_name (names_of fs) ≡ true → has_big fs ≡ false → length fs ≤ 2000 → Total fs ≤ 8388608
    → length (plan_text fs) ≤ 16777216
text_short fs n b few total =
    let entries = entries_short fs n b in
    let digits = decimal_short (length fs) (omega (arith, few)) in
    omega (
      arith,
      entries,
      digits,
      few,
      total,
      length-append (line (decimal (length fs))) (flat_map plan_entry fs ++ line (codes "end")),
      length-append (decimal (length fs)) (10 ∷ []),
      length-append (flat_map plan_entry fs) (line (codes "end")),
    )

-- the text of files that are picked is a plan
pub picked_plan : (files : FileSet) (ns : List ℕ) → IsProject files → IsPlan (plan_text (picked 0 ns files.entries)) (picked 0 ns files.entries)
picked_plan files ns h =
    let few = few_files files h in
    let fit = both_free _ _ (keep_limits files.entries (neither _ _ (neither _ _ h.taken).1).0) in
    let total = within 8388608 (Total files.entries) fit.1 in
    let named = picked_all is_source_name 0 ns files.entries h.sources.named in
    let small = picked_small 0 ns files.entries fit.0 in
    let count : length (picked 0 ns files.entries) ≤ 2000 = omega (arith, few, picked_len 0 ns files.entries) in
    let sum : Total (picked 0 ns files.entries) ≤ 8388608 = omega (arith, total, picked_sum 0 ns files.entries) in
    record {
      written = refl;
      sources = record { named = named; ordered = picked_rise 0 ns files.entries h.sources.ordered };
      few = not_many (picked 0 ns files.entries) count;
      small = not_large (picked 0 ns files.entries) small sum;
      short = text_short (picked 0 ns files.entries) named small count sum;
    }
