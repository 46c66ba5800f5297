-- The names of a folder's sources are those of its list, whatever the list's order.
use Rattle.std.proofs.Common.{◌≡◌, ℕ, List, [], ◌∷◌, Bool, true, false, ◌&&◌, ◌||◌, cond, map, filter, IsSome, IsPermutation, codes, refl, sym, ap}
use Rattle.std.proofs.Common.{subst, ◌∙◌}
use Rattle.std.proofs.Math.Dec.{T}
use Rattle.std.specs.Option.{is_some}
use Rattle.std.specs.List.{list_any, AllByRecursion}
use Rattle.std.specs.List.Sorted.{IsStrictlySortedBy}
use Rattle.std.specs.declared.cmp.Ordering.{Ordering}
use Rattle.std.specs.declared.cmp.Ordering.TheVariants.{Less, Equal, Greater}
use Rattle.std.specs.Ordering.{nat_cmp, eq_by_cmp, is_eq, is_lt, ordering_reverse}
use Rattle.std.specs.Cmp.Lexicographic.{slice_cmp, nat_list_cmp_total}
use Rattle.std.specs.FinMap.{get, keys, entries, entries_sorted, contains_key-keys, slice_cmp-IsAntisymmetric, nat_cmp-IsAntisymmetric, is_sorted}
use Rattle.std.specs.FinMap.Entries.{below_all}
use Rattle.std.specs.Str.{bytes_eq}
use Rattle.std.proofs.lemmas.List.Sorted.{list_any-IsPermutation}
use Rattle.std.proofs.lemmas.List.Kept.{IsStrictlySortedBy-filter}
use Rattle.std.proofs.lemmas.Map.Text.{is_eq-slice_cmp}
use Rattle.std.proofs.lemmas.Slice.Eq.{bytes_eq-Decides}
use Rattle.rotor_base.specs.Stem.{is_source_name}
use Rattle.tree_io.specs.Outside.{FileMap}
use Rattle.project_load.specs.Load.{source_names, manifest_of}

-- a word that is below all of a list is not in it
not_among : (w : List ℕ) (xs : List (List ℕ)) → AllByRecursion (λ y. slice_cmp nat_cmp w y ≡ Less) xs → list_any (bytes_eq w) xs ≡ false
not_among w [] h = refl
not_among w (x ∷ xs) h =
    let differs : bytes_eq w x ≡ false = sym (is_eq-slice_cmp w x) ∙ ap is_eq h.0 in
    rw (differs, not_among w xs h.1) refl

below_too : (w x : List ℕ) (xs : List (List ℕ)) → slice_cmp nat_cmp w x ≡ Less → AllByRecursion (λ y. slice_cmp nat_cmp x y ≡ Less) xs
    → AllByRecursion (λ y. slice_cmp nat_cmp w y ≡ Less) xs
below_too w x [] l h = tt
below_too w x (y ∷ xs) l h = (nat_list_cmp_total.trans w x y l h.0, below_too w x xs l h.1)

itself : (x : List ℕ) (xs : List (List ℕ)) → list_any (bytes_eq x) (x ∷ xs) ≡ true
itself x xs = rw ((bytes_eq-Decides x x).1 refl) refl

apart : (x y : List ℕ) (xs ys : List (List ℕ)) → slice_cmp nat_cmp x y ≡ Less → AllByRecursion (λ z. slice_cmp nat_cmp y z ≡ Less) ys
    → list_any (bytes_eq x) (x ∷ xs) ≡ list_any (bytes_eq x) (y ∷ ys) → ⊥
apart x y xs ys l h e =
    let none : list_any (bytes_eq x) (y ∷ ys) ≡ false = not_among x (y ∷ ys) (l, below_too x y ys l h) in
    let bad : true ≡ false = sym (itself x xs) ∙ e ∙ none in
    cc

tails : (x : List ℕ) (xs ys : List (List ℕ)) → AllByRecursion (λ z. slice_cmp nat_cmp x z ≡ Less) xs
    → AllByRecursion (λ z. slice_cmp nat_cmp x z ≡ Less) ys
    → ((w : List ℕ) → list_any (bytes_eq w) (x ∷ xs) ≡ list_any (bytes_eq w) (x ∷ ys)) → (w : List ℕ)
    → list_any (bytes_eq w) xs ≡ list_any (bytes_eq w) ys
tails x xs ys g h e w = by (bytes_eq w x) refl where
  by : (b : Bool) → bytes_eq w x ≡ b → list_any (bytes_eq w) xs ≡ list_any (bytes_eq w) ys
  by true p =
      let same : w ≡ x = (bytes_eq-Decides w x).0 p in
      subst (λ v. list_any (bytes_eq v) xs ≡ list_any (bytes_eq v) ys) (sym same) (not_among x xs g ∙ sym (not_among x ys h))
  by false p = rw p at (e w)

-- two lists in strict order with the same words are one
pub same_words : (xs ys : List (List ℕ)) → IsStrictlySortedBy (slice_cmp nat_cmp) xs → IsStrictlySortedBy (slice_cmp nat_cmp) ys
    → ((w : List ℕ) → list_any (bytes_eq w) xs ≡ list_any (bytes_eq w) ys) → xs ≡ ys
unfolding IsStrictlySortedBy
same_words [] [] g h e = refl
same_words [] (y ∷ ys) g h e = let bad : false ≡ true = e y ∙ itself y ys in cc
same_words (x ∷ xs) [] g h e = let bad : false ≡ true = sym (e x) ∙ itself x xs in cc
same_words (x ∷ xs) (y ∷ ys) g h e = by (slice_cmp nat_cmp x y) refl (same_words xs ys g.1 h.1) where
  by : (r : Ordering) → slice_cmp nat_cmp x y ≡ r → (((w : List ℕ) → list_any (bytes_eq w) xs ≡ list_any (bytes_eq w) ys) → xs ≡ ys) → x ∷ xs ≡ y ∷ ys
  by Less p rest = absurd (apart x y xs ys p h.0 (e x))
  by Greater p rest = absurd (apart y x ys xs (nat_list_cmp_total.antisymm y x ∙ ap ordering_reverse p) g.0 (sym (e y)))
  by Equal p rest =
      let same : x ≡ y = slice_cmp-IsAntisymmetric nat_cmp-IsAntisymmetric x y p in
      let words : (w : List ℕ) → list_any (bytes_eq w) (x ∷ xs) ≡ list_any (bytes_eq w) (x ∷ ys) =
      subst (λ z. (w : List ℕ) → list_any (bytes_eq w) (x ∷ xs) ≡ list_any (bytes_eq w) (z ∷ ys)) (sym same) e in
      let below : AllByRecursion (λ z. slice_cmp nat_cmp x z ≡ Less) ys = subst (λ v. AllByRecursion (λ z. slice_cmp nat_cmp v z ≡ Less) ys)
      (sym same) h.0 in
      ap (λ (v : List ℕ). v ∷ xs) same ∙ ap (λ (vs : List (List ℕ)). y ∷ vs) (rest (tails x xs ys g.0 below words))

first_of_two : (a b : Bool) → T (a && b) → T a
first_of_two true b p = tt
first_of_two false b p = p

second_of_two : (a b : Bool) → T (a && b) → T b
second_of_two true b p = p
second_of_two false b p = absurd p

is_less : (o : Ordering) → T (is_lt o) → o ≡ Less
is_less Less p = refl
is_less Equal p = absurd p
is_less Greater p = absurd p

below_keys : (k : List ℕ) (es : List (List ℕ × List ℕ)) → T (below_all (slice_cmp nat_cmp) k es)
    → AllByRecursion (λ y. slice_cmp nat_cmp k y ≡ Less) (map (λ e. e.0) es)
below_keys k [] h = tt
below_keys k (e ∷ es) h = (is_less _ (first_of_two _ _ h), below_keys k es (second_of_two _ _ h))

pub keys_rise : (es : List (List ℕ × List ℕ)) → T (is_sorted (slice_cmp nat_cmp) es) → IsStrictlySortedBy (slice_cmp nat_cmp) (map (λ e. e.0) es)
unfolding IsStrictlySortedBy
keys_rise [] h = tt
keys_rise (e ∷ es) h = (below_keys e.0 es (first_of_two _ _ h), keys_rise es (second_of_two _ _ h))

-- the names of a folder are in strict order
pub names_rise : (held : FileMap) → IsStrictlySortedBy (slice_cmp nat_cmp) (source_names held)
names_rise held = IsStrictlySortedBy-filter (slice_cmp nat_cmp) is_source_name (keys held) (keys_rise (entries held) (entries_sorted held))

any_filtered : (p : List ℕ → Bool) (w : List ℕ) (xs : List (List ℕ)) → list_any (bytes_eq w) (filter p xs) ≡ list_any (λ x. p x && bytes_eq w x) xs
any_filtered p w [] = refl
any_filtered p w (x ∷ xs) = by (p x) (any_filtered p w xs) where
  by : (b : Bool) → list_any (bytes_eq w) (filter p xs) ≡ list_any (λ x. p x && bytes_eq w x) xs
      → list_any (bytes_eq w) (cond b (x ∷ filter p xs) (filter p xs)) ≡ ((b && bytes_eq w x) || list_any (λ x. p x && bytes_eq w x) xs)
  by true rest = ap (λ b. bytes_eq w x || b) rest
  by false rest = rest

-- names in strict order that are the sources of a listing are the folder's sources
pub names_are : (held : FileMap) (listed names : List (List ℕ)) → IsPermutation (keys held) listed → IsStrictlySortedBy (slice_cmp nat_cmp) names
    → ((test : List ℕ → Bool) → list_any test names ≡ list_any (λ name. is_source_name name && test name) listed) → names ≡ source_names held
names_are held listed names moved order same =
    same_words names (source_names held) order (names_rise held)
    (λ w. same (bytes_eq w) ∙ sym (list_any-IsPermutation (λ name. is_source_name name && bytes_eq w name) (keys held) listed moved)
    ∙ sym (any_filtered is_source_name w (keys held)))

any_same : (p q : List ℕ → Bool) (xs : List (List ℕ)) → ((w : List ℕ) → p w ≡ q w) → list_any p xs ≡ list_any q xs
any_same p q [] h = refl
any_same p q (x ∷ xs) h = rw (h x, any_same p q xs h) refl

pub held_name : (held : FileMap) (w : List ℕ) → list_any (bytes_eq w) (keys held) ≡ is_some (get held w)
held_name held w = any_same (bytes_eq w) (eq_by_cmp (slice_cmp nat_cmp) w) (keys held) (λ x. sym (is_eq-slice_cmp w x))
    ∙ sym (contains_key-keys held w)

-- the manifest is listed exactly if the folder has it
pub manifest_listed : (held : FileMap) (listed : List (List ℕ)) → IsPermutation (keys held) listed
    → list_any (bytes_eq (codes "rotor.units")) listed ≡ is_some (manifest_of held)
manifest_listed held listed moved = sym (list_any-IsPermutation (bytes_eq (codes "rotor.units")) (keys held) listed moved)
    ∙ held_name held (codes "rotor.units")

among : (p : List ℕ → Bool) (all xs : List (List ℕ)) → ((x : List ℕ) → list_any (bytes_eq x) xs ≡ true → list_any (bytes_eq x) all ≡ true)
    → AllByRecursion (λ x. list_any (bytes_eq x) all ≡ true) (filter p xs)
among p all [] h = tt
among p all (x ∷ xs) h = by (p x) (among p all xs (λ w e. h w (either (bytes_eq w x) e))) where
  either : {b : Bool} (a : Bool) → b ≡ true → (a || b) ≡ true
  either true e = refl
  either false e = e

  by : (b : Bool) → AllByRecursion (λ x. list_any (bytes_eq x) all ≡ true) (filter p xs)
      → AllByRecursion (λ x. list_any (bytes_eq x) all ≡ true) (cond b (x ∷ filter p xs) (filter p xs))
  by true rest = (h x (itself x xs), rest)
  by false rest = rest

held_all : (held : FileMap) (xs : List (List ℕ)) → AllByRecursion (λ x. list_any (bytes_eq x) (keys held) ≡ true) xs
    → AllByRecursion (λ x. IsSome (get held x)) xs
held_all held [] h = tt
held_all held (x ∷ xs) h = (sym (held_name held x) ∙ h.0, held_all held xs h.1)

-- all sources are in the folder
pub all_there : (held : FileMap) → AllByRecursion (λ x. IsSome (get held x)) (source_names held)
all_there held = held_all held (source_names held) (among is_source_name (keys held) (keys held) (λ x e. e))
