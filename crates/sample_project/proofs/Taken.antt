-- The sources are taken as a project's files.
use Rattle.std.proofs.Common.{◌≡◌, ◌∙◌, refl, sym, ap, ℕ, zero, suc, ◌+◌, ◌*◌, ◌≤◌, ◌<◌, Bool, true, false, cond, ◌&&◌, ◌||◌, List, [], ◌∷◌, ◌++◌}
use Rattle.std.proofs.Common.{None, Some, Option, option_map, map, filter, length, drop, sum_by, nat_lt, arith, codes}
use Rattle.std.specs.Fmt.{decimal, digits}
use Rattle.std.specs.List.{list_all, list_any, AllByRecursion}
use Rattle.std.specs.List.Sorted.{IsStrictlySortedBy}
use Rattle.std.specs.Option.{option_or}
use Rattle.std.specs.Ordering.{nat_cmp, is_lt, is_eq}
use Rattle.std.specs.declared.cmp.Ordering.{Ordering}
use Rattle.std.specs.declared.cmp.Ordering.TheVariants.{Less, Equal, Greater}
use Rattle.std.specs.Cmp.Lexicographic.{slice_cmp}
use Rattle.std.specs.Bool.{beq}
use Rattle.std.specs.Str.{bytes_eq}
use Rattle.std.proofs.lemmas.Bool.{and_parts}
use Rattle.std.proofs.lemmas.Cmp.{nat_list_cmp_total}
use Rattle.std.proofs.lemmas.Grind.{common_steps}
use Rattle.std.proofs.lemmas.Map.Text.{is_eq-slice_cmp}
use Rattle.std.proofs.lemmas.Slice.Eq.{bytes_eq-Decides}
use Rattle.rotor_base.specs.Files.{AreSources, too_many, too_large, long_manifest, double_unit, doubled_units, least_word, bad_manifest, load_refusal}
use Rattle.rotor_base.specs.Files.{names_of, units_of, first_with, are_over, are_twins}
use Rattle.rotor_base.specs.Stem.{is_source_name, is_body_name, ends_stem}
use Rattle.rotor_base.specs.Unit.{unit_of}
use Rattle.rotor_base.specs.declared.source.SourceFile.{SourceFile}
use Rattle.rotor_base.specs.declared.refusal.LoadError.{LoadError}
use Rattle.rotor_base.specs.declared.refusal.LoadError.TheVariants.{TooMany, TooLarge, DoubleUnit}
use Rattle.rotor_base.proofs.Loads.{are_over_with, first_with_miss}
use Rattle.sample_project.specs.Sources.{numbers, source_name, source_text, source_of, sources_below}

-- ---- what is computed of all numbers

less : (o : Ordering) → is_lt o ≡ true → o ≡ Less
less Less h = refl
less Equal h = let no : false ≡ true = h in cc
less Greater h = let no : false ≡ true = h in cc

-- the names rise
rises : List ℕ → Bool
rises [] = true
rises (k ∷ []) = true
rises (k ∷ j ∷ ks) = is_lt (slice_cmp nat_cmp (source_name k) (source_name j)) && rises (j ∷ ks)

-- a source's name, and its unit
is_named : ℕ → Bool
unfolding ends_stem unit_of
is_named k = is_source_name (source_name k) && bytes_eq (unit_of (source_name k)) (85 ∷ decimal k)

numbers_rise : rises numbers ≡ true
unfolding rises digits
numbers_rise = refl

numbers_are_named : list_all is_named numbers ≡ true
unfolding is_named digits
numbers_are_named = refl

-- ---- sorted

above : (x : List ℕ) (k : ℕ) (ks : List ℕ) → slice_cmp nat_cmp x (source_name k) ≡ Less → rises (k ∷ ks) ≡ true
    → AllByRecursion (λ y. slice_cmp nat_cmp x y ≡ Less) (map source_name (k ∷ ks))
unfolding rises
above x k [] h r = (h, tt)
above x k (j ∷ ks) h r =
    let b = and_parts (is_lt (slice_cmp nat_cmp (source_name k) (source_name j))) (rises (j ∷ ks)) r in (
      h,
      above x j ks (nat_list_cmp_total.trans x (source_name k) (source_name j) h (less (slice_cmp nat_cmp (source_name k) (source_name j)) b.0))
          b.1,
    )

sorted : (ks : List ℕ) → rises ks ≡ true → IsStrictlySortedBy (slice_cmp nat_cmp) (map source_name ks)
unfolding IsStrictlySortedBy rises
sorted [] r = tt
sorted (k ∷ []) r = (tt, tt)
sorted (k ∷ j ∷ ks) r =
    let b = and_parts (is_lt (slice_cmp nat_cmp (source_name k) (source_name j))) (rises (j ∷ ks)) r in
    (above (source_name k) j ks (less (slice_cmp nat_cmp (source_name k) (source_name j)) b.0) b.1, sorted (j ∷ ks) b.1)

-- what holds of all names holds of those below a bound
all_below : (P : List ℕ → Type 0) (n : ℕ) (ks : List ℕ) → AllByRecursion P (map source_name ks) → AllByRecursion P (names_of (sources_below n ks))
all_below P n [] h = tt
all_below P n (k ∷ ks) h = by (nat_lt k n) (all_below P n ks h.1) where
  by : (b : Bool) → AllByRecursion P (names_of (sources_below n ks))
      → AllByRecursion P (names_of (map source_of (cond b (k ∷ filter (λ j. nat_lt j n) ks) (filter (λ j. nat_lt j n) ks))))
  by true rest = (h.0, rest)
  by false rest = rest

sorted_below : (n : ℕ) (ks : List ℕ) → IsStrictlySortedBy (slice_cmp nat_cmp) (map source_name ks)
    → IsStrictlySortedBy (slice_cmp nat_cmp) (names_of (sources_below n ks))
unfolding IsStrictlySortedBy
sorted_below n [] h = tt
sorted_below n (k ∷ ks) h = by (nat_lt k n) (sorted_below n ks h.1) where
  by : (b : Bool) → IsStrictlySortedBy (slice_cmp nat_cmp) (names_of (sources_below n ks))
      → IsStrictlySortedBy (slice_cmp nat_cmp) (names_of (map source_of (cond b (k ∷ filter (λ j. nat_lt j n) ks) (filter (λ j. nat_lt j n) ks))))
  by true rest = (all_below (λ y. slice_cmp nat_cmp (source_name k) y ≡ Less) n ks h.0, rest)
  by false rest = rest

named_below : (n : ℕ) (ks : List ℕ) → list_all is_named ks ≡ true → list_all is_source_name (names_of (sources_below n ks)) ≡ true
unfolding is_named
named_below n [] h = refl
named_below n (k ∷ ks) h =
    let b = and_parts (is_named k) (list_all is_named ks) h in
    let this = and_parts (is_source_name (source_name k)) (bytes_eq (unit_of (source_name k)) (85 ∷ decimal k)) b.0 in
    by (nat_lt k n) this.0 (named_below n ks b.1)
  where
    by : (c : Bool) → is_source_name (source_name k) ≡ true → list_all is_source_name (names_of (sources_below n ks)) ≡ true
        → list_all is_source_name (names_of (map source_of (cond c (k ∷ filter (λ j. nat_lt j n) ks) (filter (λ j. nat_lt j n) ks)))) ≡ true
    by true this rest = ap (λ (t : Bool). t && list_all is_source_name (names_of (sources_below n ks))) this ∙ rest
    by false this rest = rest

pub are_sources : (n : ℕ) → AreSources (sources_below n numbers)
are_sources n = record { named = named_below n numbers numbers_are_named; ordered = sorted_below n numbers (sorted numbers numbers_rise) }

-- ---- the limits

few_below : (n : ℕ) (ks : List ℕ) → length (sources_below n ks) ≤ length ks
few_below n [] = omega arith
few_below n (k ∷ ks) = by (nat_lt k n) (few_below n ks) where
  by : (b : Bool) → length (sources_below n ks) ≤ length ks
      → length (map source_of (cond b (k ∷ filter (λ j. nat_lt j n) ks) (filter (λ j. nat_lt j n) ks))) ≤ suc (length ks)
  by true rest = omega (arith, rest)
  by false rest = omega (arith, rest)

short : (k : ℕ) → length (source_text k) ≤ 100
short zero = omega arith
short (suc k) = omega arith

all_short : (n : ℕ) (ks : List ℕ) → AllByRecursion (λ file. length file.bytes ≤ 100) (sources_below n ks)
all_short n [] = tt
all_short n (k ∷ ks) = by (nat_lt k n) (all_short n ks) where
  by : (b : Bool) → AllByRecursion (λ file. length file.bytes ≤ 100) (sources_below n ks)
      → AllByRecursion (λ file. length file.bytes ≤ 100) (map source_of (cond b (k ∷ filter (λ j. nat_lt j n) ks) (filter (λ j. nat_lt j n) ks)))
  by true rest = (short k, rest)
  by false rest = rest

not_many : (files : List SourceFile) → length files ≤ 1000 → too_many files ≡ None
unfolding too_many
not_many files h = by (nat_lt 2000 (length files)) refl where
  by : (b : Bool) → nat_lt 2000 (length files) ≡ b → cond b (Some (TooMany (length files))) None ≡ None
  by true e = let over : 2000 < length files = grind (arith, e) in absurd (omega (arith, over, h))
  by false e = refl

over_by : (a b : ℕ) → a ≤ 1048576 → b ≤ 8388608 → nat_lt 1048576 a || nat_lt 8388608 b ≡ false
over_by a b h g = grind arith

sum_with : (front : List SourceFile) (x : SourceFile) → sum_by (λ file. length file.bytes) (front ++ x ∷ []) ≡ sum_by
    (λ file. length file.bytes) front + length x.bytes
sum_with front x = grind (arith, common_steps)

none_over : (front rest : List SourceFile) → are_over front ≡ false → sum_by (λ file. length file.bytes) front ≤ 100 * length front
    → AllByRecursion (λ file. length file.bytes ≤ 100) rest → length front + length rest ≤ 1000 → first_with (λ f. are_over (front ++ f)) rest ≡ None
none_over front [] e s all few = refl
none_over front (x ∷ rest) e s all few =
    let sum = sum_with front x in
    let long : length (front ++ x ∷ []) ≡ length front + 1 = grind (arith, common_steps) in
    let here : sum_by (λ file. length file.bytes) front + length x.bytes ≤ 8388608 = omega (arith, s, all.0, few) in
    let again : are_over (front ++ x ∷ []) ≡ false =
    are_over_with front x e ∙ over_by (length x.bytes) (sum_by (λ file. length file.bytes) front + length x.bytes) (omega (arith, all.0)) here in
    first_with_miss front x rest again
    ∙ none_over (front ++ x ∷ []) rest again (omega (arith, sum, long, s, all.0)) all.1 (omega (arith, long, few))

not_large : (files : List SourceFile) → AllByRecursion (λ file. length file.bytes ≤ 100) files → length files ≤ 1000 → too_large files ≡ None
unfolding too_large
not_large files all few = ap (option_map (λ (file : SourceFile). TooLarge file.name)) (none_over [] files refl (omega arith) all (omega (arith, few)))

-- ---- the units

-- two sources whose names differ give two units
apart : (k j : ℕ) → is_named k ≡ true → is_named j ≡ true → slice_cmp nat_cmp (source_name k) (source_name j) ≡ Less
    → bytes_eq (unit_of (source_name k)) (unit_of (source_name j)) ≡ false
unfolding is_named
apart k j hk hj h = by (bytes_eq (unit_of (source_name k)) (unit_of (source_name j))) refl where
  unit_is : (i : ℕ) → is_named i ≡ true → unit_of (source_name i) ≡ 85 ∷ decimal i
  unit_is i hi = (bytes_eq-Decides (unit_of (source_name i)) (85 ∷ decimal i)).0
      (and_parts (is_source_name (source_name i)) (bytes_eq (unit_of (source_name i)) (85 ∷ decimal i)) hi).1

  by : (b : Bool) → bytes_eq (unit_of (source_name k)) (unit_of (source_name j)) ≡ b → b ≡ false
  by false e = refl
  by true e =
      let units : unit_of (source_name k) ≡ unit_of (source_name j) = (bytes_eq-Decides (unit_of (source_name k)) (unit_of (source_name j))).0 e in
      let ends : decimal k ≡ decimal j = ap (drop 1) (sym (unit_is k hk) ∙ units ∙ unit_is j hj) in
      let names : source_name k ≡ source_name j = ap (λ (d : List ℕ). codes "u" ++ (d ++ codes ".ml")) ends in
      let eq : is_eq (slice_cmp nat_cmp (source_name k) (source_name j)) ≡ true =
      is_eq-slice_cmp (source_name k) (source_name j) ∙ (bytes_eq-Decides (source_name k) (source_name j)).1 names in
      let no : false ≡ true = sym (ap is_eq h) ∙ eq in
      cc

one : (t u rest : Bool) → u ≡ false → rest ≡ false → (t && u) || rest ≡ false
one true u rest e r = ap (λ (b : Bool). b || rest) e ∙ r
one false u rest e r = r

-- none of some units is the unit of a source whose name they are above
none_like : (n k : ℕ) (ks : List ℕ) → is_named k ≡ true → list_all is_named ks ≡ true
    → AllByRecursion (λ y. slice_cmp nat_cmp (source_name k) y ≡ Less) (map source_name ks)
    → list_any (are_twins (record { name = unit_of (source_name k); is_body = is_body_name (source_name k) })) (units_of (sources_below n ks)) ≡ false
none_like n k [] hk named h = refl
none_like n k (j ∷ ks) hk named h =
    let b = and_parts (is_named j) (list_all is_named ks) named in
    by (nat_lt j n) (apart k j hk b.0 h.0) (none_like n k ks hk b.1 h.1)
  where
    by : (c : Bool) → bytes_eq (unit_of (source_name k)) (unit_of (source_name j)) ≡ false
        → list_any (are_twins (record { name = unit_of (source_name k); is_body = is_body_name (source_name k) })) (units_of (sources_below n ks))
        ≡ false
        → list_any (are_twins (record { name = unit_of (source_name k); is_body = is_body_name (source_name k) }))
        (units_of (map source_of (cond c (j ∷ filter (λ i. nat_lt i n) ks) (filter (λ i. nat_lt i n) ks)))) ≡ false
    by false other rest = rest
    by true other rest = one (beq (is_body_name (source_name k)) (is_body_name (source_name j)))
        (bytes_eq (unit_of (source_name k)) (unit_of (source_name j))) _ other rest

-- so no unit is doubled
none_doubled : (n : ℕ) (ks : List ℕ) → list_all is_named ks ≡ true → IsStrictlySortedBy (slice_cmp nat_cmp) (map source_name ks)
    → doubled_units (units_of (sources_below n ks)) ≡ []
unfolding IsStrictlySortedBy
none_doubled n [] named h = refl
none_doubled n (k ∷ ks) named h =
    let b = and_parts (is_named k) (list_all is_named ks) named in
    by (nat_lt k n) (none_like n k ks b.0 b.1 h.0) (none_doubled n ks b.1 h.1)
  where
    by : (c : Bool) → list_any (are_twins (record { name = unit_of (source_name k); is_body = is_body_name (source_name k) }))
        (units_of (sources_below n ks)) ≡ false
        → doubled_units (units_of (sources_below n ks)) ≡ []
        → doubled_units (units_of (map source_of (cond c (k ∷ filter (λ j. nat_lt j n) ks) (filter (λ j. nat_lt j n) ks)))) ≡ []
    by false single rest = rest
    by true single rest = ap
        (λ (t : Bool). cond t (unit_of (source_name k) ∷ doubled_units (units_of (sources_below n ks)))
        (doubled_units (units_of (sources_below n ks)))) single ∙ rest

not_double : (n : ℕ) → double_unit (units_of (sources_below n numbers)) ≡ None
unfolding double_unit
not_double n = ap (λ (names : List (List ℕ)). option_map DoubleUnit (least_word names))
    (none_doubled n numbers numbers_are_named (sorted numbers numbers_rise))

no_manifest : long_manifest None ≡ None
unfolding long_manifest
no_manifest = refl

no_lines : (n : ℕ) → bad_manifest (units_of (sources_below n numbers)) None ≡ None
unfolding bad_manifest
no_lines n = refl

-- nothing refuses them
pub taken : (n : ℕ) → load_refusal (sources_below n numbers) None ≡ None
taken n =
    let few : length (sources_below n numbers) ≤ 1000 = few_below n numbers in
    let files = sources_below n numbers in
    ap (λ (o : Option LoadError). option_or o
    (option_or (too_large files)
    (option_or (long_manifest None) (option_or (double_unit (units_of files)) (bad_manifest (units_of files) None))))) (not_many files few)
    ∙ ap (λ (o : Option LoadError). option_or o
    (option_or (long_manifest None) (option_or (double_unit (units_of files)) (bad_manifest (units_of files) None))))
    (not_large files (all_short n numbers) few)
    ∙ ap (λ (o : Option LoadError). option_or o (option_or (double_unit (units_of files)) (bad_manifest (units_of files) None))) no_manifest
    ∙ ap (λ (o : Option LoadError). option_or o (bad_manifest (units_of files) None)) (not_double n)
    ∙ no_lines n
