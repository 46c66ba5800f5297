-- What is computed of the numbers of the sources: their names, and how many are below a bound.
use Rattle.std.proofs.Common.{◌≡◌, ◌∙◌, refl, ap, ℕ, zero, suc, ◌+◌, ◌-◌, ◌*◌, ◌≤◌, ◌<◌, Bool, true, false, cond, not, ◌&&◌, List, [], ◌∷◌, ◌++◌}
use Rattle.std.proofs.Common.{map, filter, flat_map, length, length-append, nat_lt, arith, codes}
use Rattle.std.specs.Fmt.{digits}
use Rattle.std.specs.List.{list_all}
use Rattle.std.specs.Str.{bytes_eq}
use Rattle.std.specs.Ordering.{nat_cmp, is_lt}
use Rattle.std.specs.Cmp.Lexicographic.{slice_cmp}
use Rattle.std.proofs.lemmas.List.Elements.{filter-append}
use Rattle.rotor_base.specs.Stem.{is_body_name, ends_stem}
use Rattle.rotor_base.specs.Unit.{unit_of}
use Rattle.sample_project.specs.Sources.{nonzero_digits, digits as decimal_digits, with_digit, with_digits, numbers, source_name}

abbrev pub unit_name : ℕ → List ℕ
unit_name k = unit_of (source_name k)

-- the numbers after 0
abbrev pub later_numbers : List ℕ
later_numbers = flat_map with_digits nonzero_digits

-- a body of another unit than the first, and its number is not 0
unfoldable pub is_later : ℕ → Bool
unfolding ends_stem unit_of
is_later k = is_body_name (source_name k) && (not (bytes_eq (unit_name k) (codes "U0")) && nat_lt 0 k)

pub are_later : list_all is_later later_numbers ≡ true
unfolding is_later digits
are_later = refl

pub first_name : unit_name 0 ≡ codes "U0"
unfolding ends_stem unit_of digits
first_name = refl

pub first_body : is_body_name (source_name 0) ≡ true
unfolding ends_stem digits
first_body = refl

-- the names of units rise
unfoldable pub rises : List ℕ → Bool
unfolding unit_of ends_stem
rises [] = true
rises (k ∷ []) = true
rises (k ∷ j ∷ ks) = is_lt (slice_cmp nat_cmp (unit_name k) (unit_name j)) && rises (j ∷ ks)

pub numbers_rise : rises numbers ≡ true
unfolding rises digits
numbers_rise = refl

-- ---- how many are below a bound

abbrev below : ℕ → List ℕ → ℕ
below n ks = length (filter (λ k. nat_lt k n) ks)

below_append : (n : ℕ) (xs ys : List ℕ) → below n (xs ++ ys) ≡ below n xs + below n ys
below_append n xs ys =
    ap (λ (l : List ℕ). length l) (filter-append (λ k. nat_lt k n) xs ys)
    ∙ length-append (filter (λ k. nat_lt k n) xs) (filter (λ k. nat_lt k n) ys)

-- what heads and what follows each, apart
apart : (n : ℕ) (head : ℕ → ℕ) (rest : ℕ → List ℕ) (xs : List ℕ)
    → below n (flat_map (λ x. head x ∷ rest x) xs) ≡ below n (map head xs) + below n (flat_map rest xs)
apart n head rest [] = refl
apart n head rest (x ∷ xs) =
    let whole = below_append n (head x ∷ rest x) (flat_map (λ y. head y ∷ rest y) xs) in
    let one = below_append n (head x ∷ []) (rest x) in
    let heads = below_append n (head x ∷ []) (map head xs) in
    let rests = below_append n (rest x) (flat_map rest xs) in
    let more = apart n head rest xs in
    omega (arith, whole, one, heads, rests, more)

-- so many numbers from one on
abbrev count_from : ℕ → ℕ → List ℕ
count_from zero a = []
count_from (suc m) a = a ∷ count_from m (suc a)

abbrev itself : ℕ → ℕ
itself k = k

abbrev ten_more : ℕ → List ℕ
ten_more k = map (λ d. 10 * k + d) decimal_digits

-- the numbers of one digit, of two and of three
ones : map itself nonzero_digits ≡ count_from 9 1
ones = refl

twos : map itself (count_from 90 10) ≡ count_from 90 10
twos = refl

longer : flat_map (λ m. flat_map (λ d. with_digit (10 * m + d)) decimal_digits) nonzero_digits
    ≡ flat_map (λ k. itself k ∷ ten_more k) (count_from 90 10)
longer = refl

threes : flat_map ten_more (count_from 90 10) ≡ count_from 900 100
threes = refl

in_all : count_from 9 1 ++ (count_from 90 10 ++ count_from 900 100) ≡ count_from 999 1
in_all = refl

count_below : (n m a : ℕ) → n ≤ a + m → below n (count_from m a) ≡ n - a
count_below n zero a h = omega (arith, h)
count_below n (suc m) a h = by (nat_lt a n) refl (count_below n m (suc a) (omega (arith, h))) where
  by : (b : Bool) → nat_lt a n ≡ b → below n (count_from m (suc a)) ≡ n - suc a
      → length (cond b (a ∷ filter (λ k. nat_lt k n) (count_from m (suc a))) (filter (λ k. nat_lt k n) (count_from m (suc a)))) ≡ n - a
  by true e rest = let less : a < n = grind (arith, e) in omega (arith, less, rest)
  by false e rest = let more : n ≤ a = grind (arith, e) in omega (arith, more, rest)

-- one less than the bound, for a bound up to 1,000
pub later_below : (n : ℕ) → n ≤ 1000 → length (filter (λ k. nat_lt k n) later_numbers) ≡ n - 1
later_below n h =
    let first = apart n itself (λ m. flat_map (λ d. with_digit (10 * m + d)) decimal_digits) nonzero_digits in
    let second = apart n itself ten_more (count_from 90 10) in
    let one = ap (below n) ones in
    let two = ap (below n) twos in
    let more = ap (below n) longer in
    let three = ap (below n) threes in
    let front = below_append n (count_from 9 1) (count_from 90 10 ++ count_from 900 100) in
    let back = below_append n (count_from 90 10) (count_from 900 100) in
    let whole = ap (below n) in_all in
    let all = count_below n 999 1 (omega (arith, h)) in
    omega (arith, first, second, one, two, more, three, front, back, whole, all)
