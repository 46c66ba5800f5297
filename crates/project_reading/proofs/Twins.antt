-- No two sources of one kind give one unit, so the tree of each source is a part of its unit.
use Rattle.std.proofs.Common.{◌≡◌, ℕ, zero, suc, ◌+◌, ◌<◌, ◌⊎◌, inl, inr, List, [], ◌∷◌, Bool, true, false, ◌&&◌, ◌||◌, cond, Option, Some, None}
use Rattle.std.proofs.Common.{option_map, map, length, get_or, refl, ap, sym, subst, ◌∙◌, arith}
use Rattle.std.specs.Prelude.{Contains, slice_get}
use Rattle.std.specs.Bool.{beq}
use Rattle.std.specs.List.{list_any, fold}
use Rattle.std.specs.Ordering.{nat_cmp, is_lt}
use Rattle.std.specs.Cmp.Lexicographic.{slice_cmp}
use Rattle.std.specs.Str.{bytes_eq}
use Rattle.std.proofs.lemmas.Bool.{or_right}
use Rattle.std.proofs.lemmas.List.{length-map, get_or-map}
use Rattle.std.proofs.lemmas.Option.{slice_get_within, slice_get-get_or, get_or_from_slice_get}
use Rattle.std.proofs.lemmas.Slice.Eq.{bytes_eq-Decides}
use Rattle.rotor_base.specs.Files as files
use Rattle.rotor_base.specs.Files.{FileSet, are_twins, doubled_units, double_unit, least_word, lesser}
use Rattle.rotor_base.specs.declared.refusal.LoadError.TheVariants.{DoubleUnit}
use Rattle.rotor_base.specs.declared.source.SourceFile.{SourceFile}
use Rattle.rotor_base.specs.declared.unit.SourceUnit.{SourceUnit}
use Rattle.rotor_base.specs.Stem.{is_body_name}
use Rattle.rotor_base.specs.Unit.{unit_of}
use Rattle.ml_trees.specs.Tree.{FileTree, Body, no_item, UnitTree}
use Rattle.unit_heads.specs.Heads.{is_among}
use Rattle.project_reading.specs.Laws.{TreesAreParts, PartsAreTrees}
use Rattle.project_reading.specs.Source.{ReadsAs}
use Rattle.project_reading.specs.Sources.{ReadAll}
use Rattle.project_reading.specs.Units.{part_of, unit_from}
use Rattle.project_reading.proofs.Names.{among_names}
use Rattle.project_reading.proofs.Linked.{names_are, no_double, order_of_units}
use Rattle.project_reading.proofs.OneReading.{one_tree}
use Rattle.project_reading.proofs.Parts.{itself, none_left, none_right}
use Rattle.project_reading.proofs.Soundness.{source_at, no_source, IsMadeOf, made_of, part_is}

-- ---- no unit is doubled

still_some : (word : List ℕ) (words : List (List ℕ)) → fold lesser (Some word) words ≡ None → ⊥
still_some word [] h = cc
still_some word (x ∷ words) h = by (is_lt (slice_cmp nat_cmp x word)) h (still_some x words) (still_some word words)
  where
    by : (b : Bool) → fold lesser (cond b (Some x) (Some word)) words ≡ None → (fold lesser (Some x) words ≡ None → ⊥)
        → (fold lesser (Some word) words ≡ None → ⊥) → ⊥
    by true p f g = f p
    by false p f g = g p

no_words : (words : List (List ℕ)) → option_map DoubleUnit (least_word words) ≡ None → words ≡ []
no_words [] h = refl
no_words (x ∷ words) h = absurd (still_some x words (unmapped (fold lesser (Some x) words) h))
  where
    unmapped : (o : Option (List ℕ)) → option_map DoubleUnit o ≡ None → o ≡ None
    unmapped None h = refl
    unmapped (Some y) h = cc

pub none_doubled : (units : List SourceUnit) → double_unit units ≡ None → doubled_units units ≡ []
unfolding double_unit
none_doubled units h = no_words (doubled_units units) h

alone : (b : Bool) (x : List ℕ) (xs : List (List ℕ)) → cond b (x ∷ xs) xs ≡ [] → (b ≡ false) × (xs ≡ [])
alone true x xs h = cc
alone false x xs h = (refl, h)

-- a source that has no twin behind it has none at any place
no_twin_at : (u : SourceUnit) (ss : List SourceFile) (k : ℕ) → k < length ss → list_any (are_twins u) (files.units_of ss) ≡ false
    → (beq u.is_body (is_body_name (source_at ss k).name) && bytes_eq u.name (unit_of (source_at ss k).name)) ≡ false
no_twin_at u [] k lt h = absurd (omega (arith, lt))
no_twin_at u (s ∷ ss) zero lt h = none_left (are_twins u (record { name = unit_of s.name; is_body = is_body_name s.name }))
    (list_any (are_twins u) (files.units_of ss)) h
no_twin_at u (s ∷ ss) (suc k) lt h =
    no_twin_at u ss k (omega (arith, lt)) (none_right (are_twins u (record { name = unit_of s.name; is_body = is_body_name s.name }))
    (list_any (are_twins u) (files.units_of ss)) h)

-- ---- the tree of a source

abbrev no_tree : FileTree
no_tree = Body 0 no_item

abbrev pub tree_at : List FileTree → ℕ → FileTree
tree_at ts k = get_or ts k no_tree

counted_on : (number k : ℕ) → suc number + k ≡ number + suc k
counted_on number k = omega arith

from_here : (number : ℕ) → number ≡ number + 0
from_here number = omega arith

pub read_at : (number : ℕ) (ss : List SourceFile) (ts : List FileTree) (k : ℕ) → ReadAll number ss ts → k < length ss
    → ReadsAs (number + k) (source_at ss k) (tree_at ts k)
read_at number [] ts k h lt = absurd (omega (arith, lt))
read_at number (s ∷ ss) [] k h lt = absurd h
read_at number (s ∷ ss) (t ∷ ts) zero h lt = subst (λ n. ReadsAs n s t) (from_here number) h.0
read_at number (s ∷ ss) (t ∷ ts) (suc k) h lt = subst (λ n. ReadsAs n (source_at ss k) (tree_at ts k)) (counted_on number k)
    (read_at (suc number) ss ts k h.1 (omega (arith, lt)))

is_own : (b : Bool) (n : List ℕ) → (beq b b && bytes_eq n n) ≡ true
is_own true n = itself n
is_own false n = itself n

-- if no unit is doubled, a source's tree is the part of its unit
pub own_part : (number : ℕ) (ss : List SourceFile) (ts : List FileTree) (k : ℕ) → ReadAll number ss ts → doubled_units (files.units_of ss) ≡ []
    → k < length ss
    → part_of (is_body_name (source_at ss k).name) (unit_of (source_at ss k).name) ss ts ≡ Some (tree_at ts k)
own_part number [] ts k h none lt = absurd (omega (arith, lt))
own_part number (s ∷ ss) [] k h none lt = absurd h
own_part number (s ∷ ss) (t ∷ ts) zero h none lt = ap (λ b. cond b (Some t) (part_of (is_body_name s.name) (unit_of s.name) ss ts))
    (is_own (is_body_name s.name) (unit_of s.name))
own_part number (s ∷ ss) (t ∷ ts) (suc k) h none lt =
    let u : SourceUnit = record { name = unit_of s.name; is_body = is_body_name s.name } in
    let lone = alone (list_any (are_twins u) (files.units_of ss)) (unit_of s.name) (doubled_units (files.units_of ss)) none in
    let body = is_body_name (source_at ss k).name in
    let name = unit_of (source_at ss k).name in
    ap (λ b. cond b (Some t) (part_of body name ss ts)) (no_twin_at u ss k (omega (arith, lt)) lone.0)
    ∙ own_part (suc number) ss ts k h.1 lone.1 (omega (arith, lt))

-- ---- the unit of a source

given_at : (ss : List SourceFile) (k : ℕ) → k < length ss → list_any (λ s. bytes_eq (unit_of s.name) (unit_of (source_at ss k).name)) ss ≡ true
given_at [] k lt = absurd (omega (arith, lt))
given_at (s ∷ ss) zero lt = ap (λ b. b || list_any (λ x. bytes_eq (unit_of x.name) (unit_of s.name)) ss) (itself (unit_of s.name))
given_at (s ∷ ss) (suc k) lt = or_right (bytes_eq (unit_of s.name) (unit_of (source_at ss k).name))
    (list_any (λ x. bytes_eq (unit_of x.name) (unit_of (source_at ss k).name)) ss) (given_at ss k (omega (arith, lt)))

there : (f : List ℕ → UnitTree) (order : List (List ℕ)) (x : List ℕ) → is_among order x ≡ true → Contains (map f order) (f x)
there f [] x h = cc
there f (y ∷ order) x h = by (bytes_eq y x) refl h (there f order x)
  where
    by : (b : Bool) → bytes_eq y x ≡ b → (b || is_among order x) ≡ true → (is_among order x ≡ true → Contains (map f order) (f x))
        → Contains (f y ∷ map f order) (f x)
    by true p q rest = (0, omega arith, ap f ((bytes_eq-Decides y x).0 p))
    by false p q rest = let r = rest q in (suc r.0, omega (arith, r.1), r.2)

-- the unit of a source is in the project, with the source's tree
pub unit_is_there : (fs : FileSet) (ts : List FileTree) (project : List UnitTree) (k : ℕ) → IsMadeOf fs ts project → k < length fs.entries
    → Contains project (unit_from fs.entries ts (unit_of (source_at fs.entries k).name))
unit_is_there fs ts project k m lt =
    let x = unit_of (source_at fs.entries k).name in
    let among : is_among m.order x ≡ true = m.is_order.same x ∙ ap (λ ns. is_among ns x) (names_are fs.entries ts) ∙ among_names fs.entries x
    ∙ given_at fs.entries k lt in
    subst (λ us. Contains us (unit_from fs.entries ts x)) (sym m.made) (there (unit_from fs.entries ts) m.order x among)

pub body_or_face : (ss : List SourceFile) (ts : List FileTree) (b : Bool) (x : List ℕ) (tree : FileTree) → part_of b x ss ts ≡ Some tree
    → ((unit_from ss ts x).body ≡ Some tree) ⊎ ((unit_from ss ts x).face ≡ Some tree)
body_or_face ss ts true x tree h = inl h
body_or_face ss ts false x tree h = inr h

from_zero : (k : ℕ) → 0 + k ≡ k
from_zero k = omega arith

pub trees_are_parts : TreesAreParts
trees_are_parts fs project h r number source tree got read =
    let inside = slice_get_within fs.entries number source got in
    let is : source_at fs.entries number ≡ source = get_or_from_slice_get fs.entries number source no_source got in
    let own = subst (λ n. ReadsAs n (source_at fs.entries number) (tree_at r.trees number)) (from_zero number)
    (read_at 0 fs.entries r.trees number r.read inside) in
    let same : tree ≡ tree_at r.trees number = one_tree number source (tree_at r.trees number) tree
    (subst (λ s. ReadsAs number s (tree_at r.trees number)) is own) read in
    let m = made_of fs r.trees project h (order_of_units fs r.trees h r.taken) r.linked in
    let x = unit_of (source_at fs.entries number).name in
    let part =
    own_part 0 fs.entries r.trees number r.read (none_doubled (files.units_of fs.entries) (no_double fs h)) inside ∙ ap Some (sym same)
    in
    let unit = unit_from fs.entries r.trees x in (
      unit,
      unit_is_there fs r.trees project number m inside,
      body_or_face fs.entries r.trees (is_body_name (source_at fs.entries number).name) x tree part,
    )

-- ---- the source of a part

from_name : (f : List ℕ → UnitTree) (order : List (List ℕ)) (u : UnitTree) → Contains (map f order) u → (x : List ℕ) × (f x ≡ u)
from_name f order u c =
    let inside : c.0 < length order = omega (arith, c.1, length-map order f) in
    (get_or order c.0 [], sym (get_or-map f order c.0 [] u inside) ∙ c.2)

pub parts_are_trees : PartsAreTrees
parts_are_trees fs project h r u tree c part =
    let ss = fs.entries in
    let m = made_of fs r.trees project h (order_of_units fs r.trees h r.taken) r.linked in
    let named = from_name (unit_from ss r.trees) m.order u (subst (λ us. Contains us u) m.made c) in
    elim part [
      | inl e ↦ source_of ss r.trees true named.0 tree r.read (ap (λ v. v.body) named.1 ∙ e)
      | inr e ↦ source_of ss r.trees false named.0 tree r.read (ap (λ v. v.face) named.1 ∙ e)
    ]
  where
    source_of : (ss : List SourceFile) (ts : List FileTree) (b : Bool) (x : List ℕ) (tree : FileTree) → ReadAll 0 ss ts
        → part_of b x ss ts ≡ Some tree → (number : ℕ) × (source : SourceFile) × (slice_get ss number ≡ Some source) × ReadsAs number source tree
    source_of ss ts b x tree read e =
        let p = part_is b x 0 ss ts tree read e in
        let read' = subst (λ n. ReadsAs n (source_at ss p.at) tree) (from_zero p.at) p.read in
        (p.at, source_at ss p.at, slice_get-get_or ss p.at no_source p.inside, read')
