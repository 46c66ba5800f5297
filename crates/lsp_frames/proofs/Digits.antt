-- Numbers in decimal digits.
use Rattle.std.proofs.Common.{◌≡◌, ℕ, ◌+◌, ◌*◌, ◌^◌, ◌<◌, ◌≤◌, false, List, [], ◌∷◌, ◌++◌, length, get_or, take, drop, None, sym, ap, refl, ◌∙◌}
use Rattle.std.proofs.Common.{arith}
use Rattle.std.specs.Char.{digit_value}
use Rattle.std.specs.Str.Parse.{digits_value_after, digits_value}
use Rattle.std.proofs.Math.Nat.{mul-le-mul_left}
use Rattle.std.proofs.lemmas.List.{take-append-drop}
use Rattle.std.proofs.lemmas.Bool.{and_right, le-ltb, cond-false}
use Rattle.std.proofs.lemmas.Int.Digits.{digits_value_more}
use Rattle.lsp_frames.specs.Header.{is_number, number_of}

-- more digits make no smaller number
digits_value_after-ge : (radix : ℕ) (ds : List ℕ) (n : ℕ) → 1 ≤ radix → n ≤ digits_value_after radix n ds
digits_value_after-ge radix [] n some = omega arith
digits_value_after-ge radix (d ∷ ds) n some =
    omega (arith, mul-le-mul_left n some, digits_value_after-ge radix ds (n * radix + digit_value d) some)

digits_value_after-append : (radix n : ℕ) (xs ys : List ℕ)
    → digits_value_after radix n (xs ++ ys) ≡ digits_value_after radix (digits_value_after radix n xs) ys
digits_value_after-append radix n [] ys = refl
digits_value_after-append radix n (x ∷ xs) ys = digits_value_after-append radix (n * radix + digit_value x) xs ys

digits_value-take-le : (radix i : ℕ) (ds : List ℕ) → 1 ≤ radix → digits_value radix (take i ds) ≤ digits_value radix ds
digits_value-take-le radix i ds some =
    let whole = ap (digits_value radix) (sym (take-append-drop i ds)) ∙ digits_value_after-append radix 0 (take i ds) (drop i ds) in
    omega (arith, digits_value_after-ge radix (drop i ds) (digits_value radix (take i ds)) some)

pub no_number : (ds : List ℕ) → is_number ds ≡ false → None ≡ number_of ds
unfolding number_of
no_number ds e = sym (cond-false _ _ _ e)

-- where the first digits do not fit, the whole does not
pub too_large : (ds : List ℕ) (i : ℕ) → i < length ds → 2 ^ 64 ≤ digits_value 10 (take i ds) * 10 + digit_value (get_or ds i 0) → is_number ds ≡ false
too_large ds i inside large =
    let whole = digits_value-take-le 10 (i + 1) ds (omega arith) in
    and_right _ _ (and_right _ _ (le-ltb (digits_value 10 ds) (2 ^ 64) (omega (arith, digits_value_more 10 ds i inside, whole))))
