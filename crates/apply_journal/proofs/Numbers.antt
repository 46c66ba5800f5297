-- The digits of a number: no other word is read as it.
use Rattle.std.proofs.Common.{◌≡◌, ◌≢◌, ℕ, zero, suc, ◌+◌, ◌^◌, ◌<◌, ◌≤◌, ◌%◌, ◌/◌, List, [], ◌∷◌, ◌++◌, true, length}
use Rattle.std.proofs.Common.{get_or, refl, sym, ap, subst, ◌∙◌, arith}
use Rattle.std.specs.Fmt.{decimal}
use Rattle.std.specs.Str.Parse.{AllDigits, IsNumeral, digits_value, without_leading_plus}
use Rattle.std.proofs.lemmas.Bool.Decides.{nat_tests}
use Rattle.std.proofs.lemmas.Fmt.{decimal-digits_value, decimal_by_steps}
use Rattle.std.proofs.lemmas.Str.Parse.{numerals_by_value, tells_digits, without_leading_plus_none}
use Rattle.apply_journal.specs.Reading.{begins_number}

no_plus : (word : List ℕ) → begins_number word ≡ true → get_or word 0 0 ≢ 43
no_plus [] h e = cc
no_plus (b ∷ []) h e = grind (arith, nat_tests)
no_plus (b ∷ c ∷ bs) h e = grind (arith, nat_tests)

zero_alone : (word : List ℕ) → begins_number word ≡ true → get_or word 0 0 ≡ 48 → length word ≡ 1
zero_alone [] h e = cc
zero_alone (b ∷ []) h e = refl
zero_alone (b ∷ c ∷ bs) h e = grind (arith, nat_tests)

-- the digits have this value
abbrev HasValue : List ℕ → ℕ → Type 0
HasValue digits n = (IsNumeral 10 digits × (digits_value 10 digits < 2 ^ 32)) × (n ≡ digits_value 10 digits)

-- a word that begins as a number does, and is parsed as one, is that number in decimal
pub is_decimal : (word text : List ℕ) (n : ℕ) → text ≡ word → begins_number word ≡ true → HasValue (without_leading_plus text) n
    → word ≡ decimal n
is_decimal word text n whole begins parsed =
    let same : without_leading_plus text ≡ word = ap without_leading_plus whole ∙ without_leading_plus_none word (no_plus word begins) in
    let bare : HasValue word n = subst (λ (w : List ℕ). HasValue w n) same parsed in
    sym (decimal-digits_value (numerals_by_value (AllDigits 10) tells_digits) word bare.0.0.1 bare.0.0.0 (zero_alone word begins)
    (omega (arith, bare.0.1))) ∙ ap decimal (sym bare.1)

-- the first digit is not 0, unless the number is
abbrev Begins : ℕ → List ℕ → Type 0
Begins n [] = ⊥
Begins n (b ∷ bs) = (48 ≤ b) × (b ≤ 57) × (0 < n → 49 ≤ b) × (n ≡ 0 → bs ≡ [])

one_digit : (n : ℕ) → n < 10 → Begins n ((48 + n) ∷ [])
one_digit n l = (omega arith, omega arith, λ p. omega arith, λ e. refl)

one_more : (n : ℕ) (ds : List ℕ) → 10 ≤ n → Begins (n / 10) ds → Begins n (ds ++ ((48 + n % 10) ∷ []))
one_more n [] l h = absurd h
one_more n (b ∷ bs) l h = (h.0, h.1, λ p. h.2 (omega arith), λ e. absurd (omega (arith, l, e)))

begins_by : (n : ℕ) (word : List ℕ) → Begins n word → begins_number word ≡ true
begins_by n [] h = absurd h
begins_by n (b ∷ []) h = let low : 48 ≤ b = h.0 in let high : b ≤ 57 = h.1 in grind (arith, nat_tests)
begins_by zero (b ∷ c ∷ bs) h = let none = h.3 refl in cc
begins_by (suc n) (b ∷ c ∷ bs) h = let low : 49 ≤ b = h.2 (omega arith) in let high : b ≤ 57 = h.1 in grind (arith, nat_tests)

-- a number in decimal begins as a number does
pub begins_decimal : (word : List ℕ) (n : ℕ) → n < 2 ^ 32 → word ≡ decimal n → begins_number word ≡ true
begins_decimal word n l e = begins_by n word (subst (Begins n) (sym e) (decimal_by_steps Begins one_digit one_more n (omega arith)))
