-- Names put into their order, each once.
use Rattle.std.proofs.Common.{◌≡◌, ℕ, List, [], ◌∷◌, Bool, true, false, ◌||◌, length, ◌≤◌, suc, refl, sym, ap, ◌∙◌, arith}
use Rattle.std.specs.List.{list_any, AllByRecursion}
use Rattle.std.specs.List.Sorted.{IsStrictlySortedBy}
use Rattle.std.specs.BTreeSet.{insert_key}
use Rattle.std.specs.declared.cmp.Ordering.{Ordering}
use Rattle.std.specs.declared.cmp.Ordering.TheVariants.{Less, Equal, Greater}
use Rattle.std.specs.Ordering.{nat_cmp, is_eq, ordering_reverse, match_ordering}
use Rattle.std.specs.Cmp.Lexicographic.{slice_cmp, nat_list_cmp_total}
use Rattle.std.specs.FinMap.{slice_cmp-IsAntisymmetric, nat_cmp-IsAntisymmetric}
use Rattle.std.specs.Str.{bytes_eq}
use Rattle.std.proofs.lemmas.Map.Text.{is_eq-slice_cmp}
use Rattle.rotor_base.specs.declared.source.SourceFile.{SourceFile}
use Rattle.rotor_base.specs.Unit.{unit_of}
use Rattle.unit_heads.specs.Heads.{is_among}
use Rattle.project_reading.specs.Units.{unit_names}

-- a name is before each of these
abbrev pub IsBelow : List ℕ → List (List ℕ) → Type 0
IsBelow x ys = AllByRecursion (λ y. slice_cmp nat_cmp x y ≡ Less) ys

pub same_name : (x y : List ℕ) → slice_cmp nat_cmp x y ≡ Equal → x ≡ y
same_name x y p = slice_cmp-IsAntisymmetric nat_cmp-IsAntisymmetric x y p

pub before_it : (k x : List ℕ) → slice_cmp nat_cmp k x ≡ Greater → slice_cmp nat_cmp x k ≡ Less
before_it k x p = nat_list_cmp_total.antisymm x k ∙ ap ordering_reverse p

pub below_too : (k x : List ℕ) (xs : List (List ℕ)) → slice_cmp nat_cmp k x ≡ Less → IsBelow x xs → IsBelow k xs
below_too k x [] l h = tt
below_too k x (y ∷ xs) l h = (nat_list_cmp_total.trans k x y l h.0, below_too k x xs l h.1)

-- a name is another than one that it is before, or behind
pub other_before : (k x : List ℕ) → slice_cmp nat_cmp k x ≡ Less → bytes_eq x k ≡ false
other_before k x p = sym (is_eq-slice_cmp x k) ∙ ap is_eq (nat_list_cmp_total.antisymm x k ∙ ap ordering_reverse p)

pub other_behind : (k x : List ℕ) → slice_cmp nat_cmp k x ≡ Greater → bytes_eq k x ≡ false
other_behind k x p = sym (is_eq-slice_cmp k x) ∙ ap is_eq p

pub apart_before : (k x : List ℕ) → slice_cmp nat_cmp k x ≡ Less → bytes_eq k x ≡ false
apart_before k x p = sym (is_eq-slice_cmp k x) ∙ ap is_eq p

pub apart_behind : (k x : List ℕ) → slice_cmp nat_cmp k x ≡ Greater → bytes_eq x k ≡ false
apart_behind k x p = sym (is_eq-slice_cmp x k) ∙ ap is_eq (before_it k x p)

or_none : (a b : Bool) → a ≡ false → b ≡ false → (a || b) ≡ false
or_none a b p q = ap (λ v. v || b) p ∙ q

pub not_among : (k : List ℕ) (xs : List (List ℕ)) → IsBelow k xs → is_among xs k ≡ false
not_among k [] h = refl
not_among k (x ∷ xs) h = or_none (bytes_eq x k) (is_among xs k) (other_before k x h.0) (not_among k xs h.1)

below_insert : (x k : List ℕ) (ys : List (List ℕ)) → slice_cmp nat_cmp x k ≡ Less → IsBelow x ys → IsBelow x (insert_key (slice_cmp nat_cmp) ys k)
below_insert x k [] l h = (l, tt)
below_insert x k (y ∷ ys) l h = by (slice_cmp nat_cmp k y) (below_insert x k ys l h.1)
  where
    by : (r : Ordering) → IsBelow x (insert_key (slice_cmp nat_cmp) ys k)
        → IsBelow x (match_ordering r (k ∷ y ∷ ys) (y ∷ ys) (y ∷ insert_key (slice_cmp nat_cmp) ys k))
    by Less rest = (l, h)
    by Equal rest = h
    by Greater rest = (h.0, rest)

pub sorted_insert : (xs : List (List ℕ)) (k : List ℕ) → IsStrictlySortedBy (slice_cmp nat_cmp) xs
    → IsStrictlySortedBy (slice_cmp nat_cmp) (insert_key (slice_cmp nat_cmp) xs k)
unfolding IsStrictlySortedBy
sorted_insert [] k h = (tt, tt)
sorted_insert (x ∷ xs) k h = by (slice_cmp nat_cmp k x) refl (sorted_insert xs k h.1)
  where
    by : (r : Ordering) → slice_cmp nat_cmp k x ≡ r → IsStrictlySortedBy (slice_cmp nat_cmp) (insert_key (slice_cmp nat_cmp) xs k)
        → IsStrictlySortedBy (slice_cmp nat_cmp) (match_ordering r (k ∷ x ∷ xs) (x ∷ xs) (x ∷ insert_key (slice_cmp nat_cmp) xs k))
    by Less p rest = ((p, below_too k x xs p h.0), h)
    by Equal p rest = h
    by Greater p rest = (below_insert x k xs (before_it k x p) h.0, rest)

pub sorted_names : (ss : List SourceFile) → IsStrictlySortedBy (slice_cmp nat_cmp) (unit_names ss)
unfolding IsStrictlySortedBy
sorted_names [] = tt
sorted_names (s ∷ ss) = sorted_insert (unit_names ss) (unit_of s.name) (sorted_names ss)

or_twice : (a b : Bool) → (a || b) ≡ (a || (a || b))
or_twice true b = refl
or_twice false b = refl

or_swap : (a b c : Bool) → (a || (b || c)) ≡ (b || (a || c))
or_swap true true c = refl
or_swap true false c = refl
or_swap false b c = refl

pub among_insert : (xs : List (List ℕ)) (k n : List ℕ) → is_among (insert_key (slice_cmp nat_cmp) xs k) n ≡ (bytes_eq k n || is_among xs n)
among_insert [] k n = refl
among_insert (x ∷ xs) k n = by (slice_cmp nat_cmp k x) refl (among_insert xs k n)
  where
    by : (r : Ordering) → slice_cmp nat_cmp k x ≡ r → is_among (insert_key (slice_cmp nat_cmp) xs k) n ≡ (bytes_eq k n || is_among xs n)
        → is_among (match_ordering r (k ∷ x ∷ xs) (x ∷ xs) (x ∷ insert_key (slice_cmp nat_cmp) xs k)) n ≡
        (bytes_eq k n || (bytes_eq x n || is_among xs n))
    by Less p rest = refl
    by Equal p rest = or_twice (bytes_eq x n) (is_among xs n) ∙ ap (λ y. bytes_eq y n || (bytes_eq x n || is_among xs n)) (sym (same_name k x p))
    by Greater p rest = ap (λ b. bytes_eq x n || b) rest ∙ or_swap (bytes_eq x n) (bytes_eq k n) (is_among xs n)

-- a name is among those of units if a source gives it
pub among_names : (ss : List SourceFile) (n : List ℕ) → is_among (unit_names ss) n ≡ list_any (λ s. bytes_eq (unit_of s.name) n) ss
among_names [] n = refl
among_names (s ∷ ss) n = among_insert (unit_names ss) (unit_of s.name) n ∙ ap (λ b. bytes_eq (unit_of s.name) n || b) (among_names ss n)

few_insert : (xs : List (List ℕ)) (k : List ℕ) → length (insert_key (slice_cmp nat_cmp) xs k) ≤ suc (length xs)
few_insert [] k = omega arith
few_insert (x ∷ xs) k = by (slice_cmp nat_cmp k x) (few_insert xs k)
  where
    by : (r : Ordering) → length (insert_key (slice_cmp nat_cmp) xs k) ≤ suc (length xs)
        → length (match_ordering r (k ∷ x ∷ xs) (x ∷ xs) (x ∷ insert_key (slice_cmp nat_cmp) xs k)) ≤ suc (suc (length xs))
    by Less h = omega arith
    by Equal h = omega arith
    by Greater h = omega (arith, h)

-- there are no more units than sources
pub few_names : (ss : List SourceFile) → length (unit_names ss) ≤ length ss
few_names [] = omega arith
few_names (s ∷ ss) = omega (arith, few_insert (unit_names ss) (unit_of s.name), few_names ss)
