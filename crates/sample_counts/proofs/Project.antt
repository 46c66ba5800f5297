-- The project that the files of a sample are read as.
use Rattle.std.proofs.Common.{◌≡◌, ◌∙◌, refl, sym, ap, subst, ℕ, zero, suc, Bool, true, false, cond, not, ◌&&◌, ◌||◌, List, []}
use Rattle.std.proofs.Common.{◌∷◌, None, Some, Option}
use Rattle.std.proofs.Common.{map, filter, length, nat_lt, if◌then◌else◌, codes, arith}
use Rattle.std.specs.Bool.{beq}
use Rattle.std.specs.BTreeSet.{insert_key}
use Rattle.std.specs.List.{list_all, list_any}
use Rattle.std.specs.Str.{bytes_eq}
use Rattle.std.specs.Ordering.{nat_cmp, is_lt, match_ordering}
use Rattle.std.specs.Cmp.Lexicographic.{slice_cmp}
use Rattle.std.specs.declared.cmp.Ordering.{Ordering}
use Rattle.std.specs.declared.cmp.Ordering.TheVariants.{Less, Equal, Greater}
use Rattle.std.proofs.lemmas.Bool.{and_parts}
use Rattle.std.proofs.lemmas.Cmp.{nat_list_cmp_total}
use Rattle.std.proofs.lemmas.List.{length-map}
use Rattle.rotor_base.specs.Stem.{is_body_name}
use Rattle.rotor_base.specs.declared.source.SourceFile.{SourceFile}
use Rattle.ml_trees.specs.Tree.{FileTree, Body, UnitTree}
use Rattle.unit_order.specs.Order.{takes_all, derived_order}
use Rattle.project_reading.specs.Reads.{Reads}
use Rattle.project_reading.specs.Sources.{ReadAll}
use Rattle.project_reading.specs.Units.{unit_names, part_of, unit_from, units_of, in_order}
use Rattle.sample_project.specs.Sources.{source_name, source_of, sample_files}
use Rattle.sample_counts.proofs.Trees.{first_items, other_items, items_of, read_as}
use Rattle.sample_counts.proofs.Walked.{first_unit}
use Rattle.sample_counts.proofs.Counted.{IsOther, AreOthers}
use Rattle.sample_counts.proofs.Taking.{same_word, turned, ordered}
use Rattle.sample_counts.proofs.Numbers.{unit_name, later_numbers, is_later, are_later, first_name, first_body, rises, numbers_rise}

-- ---- the names of the units

abbrev compared : ℕ → ℕ → Ordering
compared k j = slice_cmp nat_cmp (unit_name k) (unit_name j)

less : (o : Ordering) → is_lt o ≡ true → o ≡ Less
less Less h = refl
less Equal h = let no : false ≡ true = h in cc
less Greater h = let no : false ≡ true = h in cc

abbrev AreAbove : ℕ → List ℕ → Type 0
AreAbove k [] = Unit {0}
AreAbove k (j ∷ js) = (compared k j ≡ Less) × AreAbove k js

abbrev AreSorted : List ℕ → Type 0
AreSorted [] = Unit {0}
AreSorted (k ∷ ks) = AreAbove k ks × AreSorted ks

above : (i k : ℕ) (ks : List ℕ) → compared i k ≡ Less → rises (k ∷ ks) ≡ true → AreAbove i (k ∷ ks)
unfolding rises
above i k [] h r = (h, tt)
above i k (j ∷ ks) h r =
    let b = and_parts (is_lt (compared k j)) (rises (j ∷ ks)) r in
    (h, above i j ks (nat_list_cmp_total.trans (unit_name i) (unit_name k) (unit_name j) h (less (compared k j) b.0)) b.1)

sorted : (ks : List ℕ) → rises ks ≡ true → AreSorted ks
unfolding rises
sorted [] r = tt
sorted (k ∷ []) r = (tt, tt)
sorted (k ∷ j ∷ ks) r =
    let b = and_parts (is_lt (compared k j)) (rises (j ∷ ks)) r in
    (above k j ks (less (compared k j) b.0) b.1, sorted (j ∷ ks) b.1)

abbrev under : ℕ → List ℕ → List ℕ
under n ks = filter (λ k. nat_lt k n) ks

above_under : (n i : ℕ) (ks : List ℕ) → AreAbove i ks → AreAbove i (under n ks)
above_under n i [] h = tt
above_under n i (k ∷ ks) h = by (nat_lt k n) (above_under n i ks h.1) where
  by : (b : Bool) → AreAbove i (under n ks) → AreAbove i (cond b (k ∷ under n ks) (under n ks))
  by true rest = (h.0, rest)
  by false rest = rest

sorted_under : (n : ℕ) (ks : List ℕ) → AreSorted ks → AreSorted (under n ks)
sorted_under n [] h = tt
sorted_under n (k ∷ ks) h = by (nat_lt k n) (sorted_under n ks h.1) where
  by : (b : Bool) → AreSorted (under n ks) → AreSorted (cond b (k ∷ under n ks) (under n ks))
  by true rest = (above_under n k ks h.0, rest)
  by false rest = rest

before_all : (k : ℕ) (ks : List ℕ) → AreAbove k ks → insert_key (slice_cmp nat_cmp) (map unit_name ks) (unit_name k) ≡ unit_name k ∷ map unit_name ks
before_all k [] h = refl
before_all k (j ∷ js) h =
    ap (λ (o : Ordering). match_ordering o (unit_name k ∷ unit_name j ∷ map unit_name js) (unit_name j ∷ map unit_name js)
    (unit_name j ∷ insert_key (slice_cmp nat_cmp) (map unit_name js) (unit_name k))) h.0

names_are : (ks : List ℕ) → AreSorted ks → unit_names (map source_of ks) ≡ map unit_name ks
names_are [] h = refl
names_are (k ∷ ks) h =
    ap (λ (names : List (List ℕ)). insert_key (slice_cmp nat_cmp) names (unit_name k)) (names_are ks h.1) ∙ before_all k ks h.0

-- ---- the numbers after 0

record IsLater (k : ℕ) : Type 0 where
  body : is_body_name (source_name k) ≡ true
  another : bytes_eq (unit_name k) (codes "U0") ≡ false
  positive : nat_lt 0 k ≡ true

abbrev AreLater : List ℕ → Type 0
AreLater [] = Unit {0}
AreLater (k ∷ ks) = IsLater k × AreLater ks

no_true : (b : Bool) → not b ≡ true → b ≡ false
no_true false h = refl
no_true true h = let bad : false ≡ true = h in cc

later_is : (k : ℕ) → is_later k ≡ true → IsLater k
unfolding is_later
later_is k h =
    let b = and_parts (is_body_name (source_name k)) (not (bytes_eq (unit_name k) (codes "U0")) && nat_lt 0 k) h in
    let c = and_parts (not (bytes_eq (unit_name k) (codes "U0"))) (nat_lt 0 k) b.1 in
    record { body = b.0; another = no_true (bytes_eq (unit_name k) (codes "U0")) c.0; positive = c.1 }

later_under : (n : ℕ) (ks : List ℕ) → list_all is_later ks ≡ true → AreLater (under n ks)
later_under n [] h = tt
later_under n (k ∷ ks) h =
    let b = and_parts (is_later k) (list_all is_later ks) h in
    by (nat_lt k n) (later_is k b.0) (later_under n ks b.1)
  where
    by : (b : Bool) → IsLater k → AreLater (under n ks) → AreLater (cond b (k ∷ under n ks) (under n ks))
    by true this rest = (this, rest)
    by false this rest = rest

later_items : (k : ℕ) → nat_lt 0 k ≡ true → items_of k ≡ other_items
later_items zero h = let bad : false ≡ true = h in cc
later_items (suc k) h = refl

-- ---- the trees of the units

no_face : (name : List ℕ) (ks : List ℕ) (ts : List FileTree) → AreLater ks → part_of false name (map source_of ks) ts ≡ None
no_face name [] ts h = refl
no_face name (k ∷ ks) [] h = refl
no_face name (k ∷ ks) (t ∷ ts) h =
    ap (λ (b : Bool). if beq b false && bytes_eq (unit_name k) name then Some t else part_of false name (map source_of ks) ts) h.0.body
    ∙ no_face name ks ts h.1

abbrev has_number : List ℕ → List ℕ → Bool
has_number ks name = list_any (λ k. bytes_eq (unit_name k) name) ks

a_body : (at : ℕ) (ks : List ℕ) (ts : List FileTree) (name : List ℕ) → AreLater ks → ReadAll at (map source_of ks) ts → has_number ks name ≡ true
    → (file : ℕ) × (part_of true name (map source_of ks) ts ≡ Some (Body file other_items))
a_body at [] ts name h r e = let bad : false ≡ true = e in cc
a_body at (k ∷ ks) [] name h r e = absurd r
a_body at (k ∷ ks) (t ∷ ts) name h r e =
    let rest = by (bytes_eq (unit_name k) name) (a_body (suc at) ks ts name h.1 r.1) e in (
      rest.0,
      ap (λ (b : Bool). if beq b true && bytes_eq (unit_name k) name then Some t else part_of true name (map source_of ks) ts) h.0.body ∙ rest.1,
    )
  where
    here : t ≡ Body at other_items
    here = read_as at k t h.0.body r.0 ∙ ap (Body at) (later_items k h.0.positive)

    by : (b : Bool) → (has_number ks name ≡ true → (file : ℕ) × (part_of true name (map source_of ks) ts ≡ Some (Body file other_items)))
        → b || has_number ks name ≡ true
        → (file : ℕ) × ((if b then Some t else part_of true name (map source_of ks) ts) ≡ Some (Body file other_items))
    by true later e = (at, ap (λ (x : FileTree). Some x) here)
    by false later e = later e

-- each of these numbers has the name of one of those
abbrev AreAmong : List ℕ → List ℕ → Type 0
AreAmong ks [] = Unit {0}
AreAmong ks (j ∷ js) = (has_number ks (unit_name j) ≡ true) × AreAmong ks js

among_one_more : (k : ℕ) (ks js : List ℕ) → AreAmong ks js → AreAmong (k ∷ ks) js
among_one_more k ks [] h = tt
among_one_more k ks (j ∷ js) h = (on (bytes_eq (unit_name k) (unit_name j)) h.0, among_one_more k ks js h.1) where
  on : (b : Bool) → has_number ks (unit_name j) ≡ true → b || has_number ks (unit_name j) ≡ true
  on true e = refl
  on false e = e

are_among : (ks : List ℕ) → AreAmong ks ks
are_among [] = tt
are_among (k ∷ ks) =
    (ap (λ (b : Bool). b || has_number ks (unit_name k)) (same_word (unit_name k)), among_one_more k ks ks (are_among ks))

-- ---- the units

a_unit : (name name' : List ℕ) (body body' face face' : Option FileTree) → name ≡ name' → body ≡ body' → face ≡ face'
    → ◌≡◌ {A = UnitTree} (record { name = name; body = body; face = face }) (record { name = name'; body = body'; face = face' })
a_unit name name' body body' face face' n b f =
    ap (λ (x : List ℕ). record { name = x; body = body; face = face }) n
    ∙ ap (λ (x : Option FileTree). record { name = name'; body = x; face = face }) b
    ∙ ap (λ (x : Option FileTree). record { name = name'; body = body'; face = x }) f

module _ (ks : List ℕ) (later : AreLater ks) (t : FileTree) (ts : List FileTree) (first : t ≡ Body 0 first_items)
    (rest : ReadAll 1 (map source_of ks) ts) where
  abbrev sources : List SourceFile
  sources = source_of 0 ∷ map source_of ks

  abbrev trees : List FileTree
  trees = t ∷ ts

  part_first : (name : List ℕ) → bytes_eq (unit_name 0) name ≡ true → part_of true name sources trees ≡ Some t
  part_first name h =
      ap (λ (b : Bool). if beq b true && bytes_eq (unit_name 0) name then Some t else part_of true name (map source_of ks) ts) first_body
      ∙ ap (λ (b : Bool). if b then Some t else part_of true name (map source_of ks) ts) h

  part_behind : (name : List ℕ) → bytes_eq (unit_name 0) name ≡ false → part_of true name sources trees ≡ part_of true name (map source_of ks) ts
  part_behind name h =
      ap (λ (b : Bool). if beq b true && bytes_eq (unit_name 0) name then Some t else part_of true name (map source_of ks) ts) first_body
      ∙ ap (λ (b : Bool). if b then Some t else part_of true name (map source_of ks) ts) h

  faceless : (name : List ℕ) → part_of false name sources trees ≡ None
  faceless name =
      ap (λ (b : Bool). if beq b false && bytes_eq (unit_name 0) name then Some t else part_of false name (map source_of ks) ts) first_body
      ∙ no_face name ks ts later

  first_is : unit_from sources trees (unit_name 0) ≡ first_unit
  first_is =
      a_unit _ _ _ _ _ _ first_name
      (part_first (unit_name 0) (same_word (unit_name 0)) ∙ ap (λ (x : FileTree). Some x) first) (faceless (unit_name 0))

  other_is : (j : ℕ) → IsLater j → has_number ks (unit_name j) ≡ true → IsOther (unit_from sources trees (unit_name j))
  other_is j l h =
      let found = a_body 1 ks ts (unit_name j) later rest h in
      let apart : bytes_eq (unit_name 0) (unit_name j) ≡ false =
      ap (λ (x : List ℕ). bytes_eq x (unit_name j)) first_name ∙ turned (unit_name j) (codes "U0") l.another in
      record {
        name = unit_name j;
        file = found.0;
        another = l.another;
        is = a_unit _ _ _ _ _ _ refl (part_behind (unit_name j) apart ∙ found.1) (faceless (unit_name j));
      }

  others_are : (js : List ℕ) → AreLater js → AreAmong ks js → AreOthers (map (unit_from sources trees) (map unit_name js))
  others_are [] l h = tt
  others_are (j ∷ js) l h = (other_is j l.0 h.0, others_are js l.1 h.1)

  abbrev others : List UnitTree
  others = map (unit_from sources trees) (map unit_name ks)

  units_are : AreSorted (0 ∷ ks) → units_of sources trees ≡ first_unit ∷ others
  units_are h =
      ap (map (unit_from sources trees)) (names_are (0 ∷ ks) h) ∙ ap (λ (u : UnitTree). u ∷ others) first_is

  -- the units in the order of linking
  linked : AreSorted (0 ∷ ks) → takes_all (units_of sources trees) ≡ true
      → (us : List UnitTree) × (in_order (units_of sources trees) (derived_order (units_of sources trees)) ≡ first_unit ∷ us) × AreOthers us
      × (length us ≡ length ks)
  linked h all =
      let e = units_are h in
      let o = ordered others (others_are ks later (are_among ks)) (ap takes_all (sym e) ∙ all) in
      let long : length others ≡ length ks = length-map (map unit_name ks) (unit_from sources trees) ∙ length-map ks unit_name in
      (o.0, ap (λ (us : List UnitTree). in_order us (derived_order us)) e ∙ o.1, o.2, o.3 ∙ long)

-- ---- the project

abbrev later_sources : ℕ → List ℕ
later_sources n = under n later_numbers

positive : (n : ℕ) → nat_lt 0 (suc n) ≡ true
positive n = grind arith

-- below a bound that is not 0, 0 stays
first_stays : (n : ℕ) (ks : List ℕ) → map source_of (filter (λ k. nat_lt k (suc n)) (0 ∷ ks)) ≡ map source_of (0 ∷ under (suc n) ks)
first_stays n ks = ap (λ (b : Bool). map source_of (cond b (0 ∷ under (suc n) ks) (under (suc n) ks))) (positive n)

sorted_behind : (n : ℕ) (ks : List ℕ) → AreSorted (0 ∷ ks) → AreSorted (0 ∷ under n ks)
sorted_behind n ks h = (above_under n 0 ks h.0, sorted_under n ks h.1)

sorted_sources : (n : ℕ) → AreSorted (0 ∷ later_sources (suc n))
sorted_sources n = sorted_behind (suc n) later_numbers (sorted (0 ∷ later_numbers) numbers_rise)

read_parts : (n : ℕ) (us : List UnitTree) (trees : List FileTree) → ReadAll 0 (map source_of (0 ∷ later_sources (suc n))) trees
    → takes_all (units_of (map source_of (0 ∷ later_sources (suc n))) trees) ≡ true
    → us ≡ in_order (units_of (map source_of (0 ∷ later_sources (suc n))) trees)
    (derived_order (units_of (map source_of (0 ∷ later_sources (suc n))) trees))
    → (rest : List UnitTree) × (us ≡ first_unit ∷ rest) × AreOthers rest × (length rest ≡ length (later_sources (suc n)))
read_parts n us [] r all e = absurd r
read_parts n us (t ∷ ts) r all e =
    let l = linked (later_sources (suc n)) (later_under (suc n) later_numbers are_later) t ts (read_as 0 0 t first_body r.0) r.1
    (sorted_sources n) all in
    (l.0, e ∙ l.1, l.2, l.3)

abbrev IsSample : ℕ → List UnitTree → Type 0
IsSample n us = (rest : List UnitTree) × (us ≡ first_unit ∷ rest) × AreOthers rest × (length rest ≡ length (later_sources (suc n)))

read_at : (n : ℕ) (us : List UnitTree) (files : List SourceFile) → files ≡ map source_of (0 ∷ later_sources (suc n))
    → (trees : List FileTree) → ReadAll 0 files trees → takes_all (units_of files trees) ≡ true
    → us ≡ in_order (units_of files trees) (derived_order (units_of files trees)) → IsSample n us
read_at n us files e trees r all l =
    read_parts n us trees (subst (λ (s : List SourceFile). ReadAll 0 s trees) e r)
    (ap (λ (s : List SourceFile). takes_all (units_of s trees)) (sym e) ∙ all)
    (l ∙ ap (λ (s : List SourceFile). in_order (units_of s trees) (derived_order (units_of s trees))) e)

-- a sample of a unit or more is read as the first unit and then the others
pub read_sample : (n : ℕ) (us : List UnitTree) → Reads (sample_files (suc n)) us
    → (rest : List UnitTree) × (us ≡ first_unit ∷ rest) × AreOthers rest × (length rest ≡ length (filter (λ k. nat_lt k (suc n)) later_numbers))
read_sample n us r =
    read_at n us (sample_files (suc n)).entries (first_stays n later_numbers) r.trees r.read (r.taken refl) r.linked
