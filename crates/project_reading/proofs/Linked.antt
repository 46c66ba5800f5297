-- The units of the sources of a project, their order, and the positions in it.
use Rattle.std.proofs.Common.{◌≡◌, ℕ, zero, suc, ◌<◌, ◌≤◌, List, [], ◌∷◌, All, true, false, ◌||◌, cond, None, map, length, refl, ap, sym, subst, ◌∙◌}
use Rattle.std.proofs.Common.{arith}
use Rattle.std.specs.List.{list_any}
use Rattle.std.specs.List.Sorted.{IsStrictlySortedBy}
use Rattle.std.specs.Ordering.{nat_cmp}
use Rattle.std.specs.Cmp.Lexicographic.{slice_cmp}
use Rattle.std.specs.Str.{bytes_eq}
use Rattle.std.proofs.lemmas.Bool.{false_from_ne_true}
use Rattle.std.proofs.lemmas.Slice.Eq.{bytes_eq-Decides}
use Rattle.std.proofs.lemmas.List.{length-map, get_or-map}
use Rattle.std.proofs.lemmas.List.Elements.{All-head, All-tail}
use Rattle.rotor_base.specs.Files as files
use Rattle.rotor_base.specs.Files.{FileSet, IsProject, bad_manifest}
use Rattle.rotor_base.specs.declared.source.SourceFile.{SourceFile}
use Rattle.rotor_base.proofs.BadLines.{is_named}
use Rattle.rotor_base.proofs.Kept.{neither}
use Rattle.rotor_base.specs.Unit.{unit_of}
use Rattle.ml_trees.specs.declared.module.UnitTree as trees
use Rattle.value_sites.specs.Sound.{AreDistinct}
use Rattle.ml_trees.specs.Tree.{FileTree, UnitTree}
use Rattle.ml_trees.specs.View.{view_unit}
use Rattle.unit_heads.specs.Heads.{is_among}
use Rattle.unit_order.specs.Order.{order_of, takes_all, IsListed}
use Rattle.unit_order.specs.Positions.{unit_at, names_at, views}
use Rattle.unit_order.proofs.Taken.{AreApart, sorted_apart}
use Rattle.project_reading.specs.Units.{unit_names, unit_from, units_of, unit_named, in_order}
use Rattle.project_reading.proofs.Names.{sorted_names, among_names, few_names}
use Rattle.project_reading.proofs.Ordered.{names, IsOrder, order_is, listed_alike}
use Rattle.project_reading.proofs.Parts.{itself}

-- ---- names

names_from : (ss : List SourceFile) (ts : List FileTree) (ns : List (List ℕ)) → names (map (unit_from ss ts) ns) ≡ ns
names_from ss ts [] = refl
names_from ss ts (n ∷ ns) = ap (λ xs. n ∷ xs) (names_from ss ts ns)

pub names_are : (ss : List SourceFile) (ts : List FileTree) → names (units_of ss ts) ≡ unit_names ss
names_are ss ts = names_from ss ts (unit_names ss)

names_seen : (us : List trees.UnitTree) → map (λ u. u.name) us ≡ names (views us)
names_seen [] = refl
names_seen (u ∷ us) = ap (λ xs. u.name ∷ xs) (names_seen us)

pub sorted_units : (us : List trees.UnitTree) (ss : List SourceFile) (ts : List FileTree) → views us ≡ units_of ss ts
    → IsStrictlySortedBy (slice_cmp nat_cmp) (map (λ u. u.name) us)
sorted_units us ss ts e =
    let same : map (λ u. u.name) us ≡ unit_names ss = names_seen us ∙ ap names e ∙ names_are ss ts in
    subst (IsStrictlySortedBy (slice_cmp nat_cmp)) (sym same) (sorted_names ss)

pub few_units : (us : List trees.UnitTree) (ss : List SourceFile) (ts : List FileTree) → views us ≡ units_of ss ts → length us ≤ length ss
few_units us ss ts e =
    let seen : length (views us) ≡ length (unit_names ss) = ap length e ∙ length-map (unit_names ss) (unit_from ss ts) in
    omega (arith, seen, few_names ss, length-map us view_unit)

pub units_apart : (ss : List SourceFile) (ts : List FileTree) → AreApart (units_of ss ts)
units_apart ss ts = sorted_apart (units_of ss ts) (subst (IsStrictlySortedBy (slice_cmp nat_cmp)) (sym (names_are ss ts)) (sorted_names ss))

-- ---- the manifest

-- the last two reasons not to take files do not hold of a project
last_reasons : (fs : FileSet) → IsProject fs
    → (files.double_unit (files.units_of fs.entries) ≡ None) × (bad_manifest (files.units_of fs.entries) fs.manifest ≡ None)
last_reasons fs h =
    let units = files.units_of fs.entries in
    let after_count = (neither (files.too_many fs.entries) _ h.taken).1 in
    let after_size = (neither (files.too_large fs.entries) _ after_count).1 in
    let after_manifest = (neither (files.long_manifest fs.manifest) _ after_size).1 in
    neither (files.double_unit units) (bad_manifest units fs.manifest) after_manifest

pub no_double : (fs : FileSet) → IsProject fs → files.double_unit (files.units_of fs.entries) ≡ None
no_double fs h = (last_reasons fs h).0

given_names : (ss : List SourceFile) (x : List ℕ) → list_any (is_named x) (files.units_of ss) ≡ list_any (λ s. bytes_eq (unit_of s.name) x) ss
given_names [] x = refl
given_names (s ∷ ss) x = ap (λ b. bytes_eq (unit_of s.name) x || b) (given_names ss x)

pub units_listed : (fs : FileSet) (ts : List FileTree) → IsProject fs → IsListed (units_of fs.entries ts) fs.manifest
units_listed fs ts h =
    listed_alike (files.units_of fs.entries) (units_of fs.entries ts) fs.manifest
    (λ x. given_names fs.entries x ∙ sym (among_names fs.entries x) ∙ ap (λ ns. is_among ns x) (sym (names_are fs.entries ts)))
    (last_reasons fs h).1

-- the order has the names of the units, each once
pub order_of_units : (fs : FileSet) (ts : List FileTree) → IsProject fs → (fs.manifest ≡ None → takes_all (units_of fs.entries ts) ≡ true)
    → IsOrder (units_of fs.entries ts) (order_of (units_of fs.entries ts) fs.manifest)
order_of_units fs ts h all = order_is (units_of fs.entries ts) fs.manifest (units_apart fs.entries ts) (units_listed fs ts h) all

-- ---- positions

tail_apart : (u : UnitTree) (us : List UnitTree) → AreApart (u ∷ us) → AreApart us
tail_apart u us h i j lt within ne = h (suc i) (suc j) (omega (arith, lt)) (omega (arith, within)) (λ e. ne (omega (arith, e)))

pub named_at : (us : List UnitTree) (k : ℕ) → AreApart us → k < length us → unit_named us (unit_at us k).name ≡ unit_at us k
named_at [] k apart lt = absurd (omega (arith, lt))
named_at (u ∷ us) zero apart lt = ap (λ b. cond b u (unit_named us u.name)) (itself u.name)
named_at (u ∷ us) (suc k) apart lt =
    let other : bytes_eq u.name (unit_at us k).name ≡ false =
    false_from_ne_true _ (λ e. apart 0 (suc k) (omega arith) lt (λ z. omega (arith, z)) ((bytes_eq-Decides u.name (unit_at us k).name).0 e))
    in
    ap (λ b. cond b u (unit_named us (unit_at us k).name)) other ∙ named_at us k (tail_apart u us apart) (omega (arith, lt))

pub in_order_at : (us : List UnitTree) (ps : List ℕ) → AreApart us → All (λ p. p < length us) ps → map (unit_at us) ps ≡ in_order us (names_at us ps)
in_order_at us [] apart inside = refl
in_order_at us (p ∷ ps) apart inside =
    ap (λ u. u ∷ map (unit_at us) ps) (sym (named_at us p apart (All-head (λ q. q < length us) p ps inside)))
    ∙ ap (λ vs. unit_named us (unit_at us p).name ∷ vs) (in_order_at us ps apart (All-tail (λ q. q < length us) p ps inside))

pub once_at : (us : List UnitTree) (ps : List ℕ) → AreDistinct (names_at us ps) → AreDistinct ps
once_at us [] h = tt
once_at us (p ∷ ps) h = (
  λ k d lt e.
      h.0 k (unit_at us d).name (omega (arith, lt, length-map ps (λ at. (unit_at us at).name)))
      (ap (λ at. (unit_at us at).name) e ∙ sym (get_or-map (λ at. (unit_at us at).name) ps k d (unit_at us d).name lt)),
  once_at us ps h.1,
)
