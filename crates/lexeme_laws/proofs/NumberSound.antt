-- An Int or a Float that is taken is one of the table.
use Rattle.std.proofs.Common.{◌≡◌, ℕ, suc, ◌+◌, ◌<◌, ◌≤◌, ◌⊎◌, inl, inr, List, [], ◌∷◌, ◌++◌, Bool, true, false, cond, ◌==◌, ◌&&◌, length, drop}
use Rattle.std.proofs.Common.{take, get_or, nat_lt, refl, ap, sym, subst, ◌∙◌, arith, length-drop, append-nil}
use Rattle.std.specs.List.{prefix_len, list_all}
use Rattle.std.specs.Char.{is_ascii_digit}
use Rattle.std.specs.Str.{byte}
use Rattle.std.proofs.Math.Seq.{take-add}
use Rattle.std.proofs.lemmas.Bool.Decides.{nat_tests}
use Rattle.std.proofs.lemmas.List.{length-take-le}
use Rattle.std.proofs.lemmas.List.Sums.{prefix_len-le-length}
use Prim.Native.String.{String}
use Rattle.rotor_base.specs.Name.{is_identifier_byte}
use Rattle.rotor_base.specs.declared.token.Class.{Class}
use Rattle.rotor_base.specs.declared.token.Class.TheVariants as class
use Rattle.ml_lexer.specs.declared.number.Base.{Base}
use Rattle.ml_lexer.specs.declared.number.Base.TheVariants.{Binary, Octal, Decimal, Hexadecimal}
use Rattle.ml_lexer.specs.declared.piece.Piece.TheVariants as piece
use Rattle.ml_lexer.specs.Bytes.{among, is_at}
use Rattle.ml_lexer.specs.Numbers.{is_digit_of, digits_length, has_head, base_of, head_length, fraction_length, begins_exponent, sign_end}
use Rattle.ml_lexer.specs.Numbers.{exponent_length, has_floats, float_part_length, suffix_length, unless_identifier_follows, number_at}
use Rattle.ml_lexer.proofs.Local.{which, and_left, and_right}
use Rattle.ml_lexer.proofs.Digits.{number_parts}
use Rattle.lexeme_laws.specs.Table.{are_digits, is_base_letter, AreDigits, IsSuffix, IsInt, IsFraction, IsSign, IsExponent, IsFloat}
use Rattle.lexeme_laws.specs.Begins.{Begins}
use Rattle.lexeme_laws.proofs.Tests.{same_numbers}
use Rattle.lexeme_laws.proofs.NumberReach.{base_tests, is_digit_byte}
use Rattle.lexeme_laws.proofs.WordSound.{Fine, run_passes}

-- the first bytes are this
abbrev There : (List ℕ → Type 0) → ℕ → List ℕ → Type 0
There P n b = (n ≤ length b) × P (take n b)

there_at : (P : List ℕ → Type 0) (n m : ℕ) (b : List ℕ) → n ≡ m → There P n b → There P m b
there_at P n m b e h = subst (λ i. There P i b) e h

-- ---- the digits

digits_pass : (base : Base) (s : List ℕ) → are_digits base (take (digits_length base s) s) ≡ true
unfolding digits_length
digits_pass base s = run_passes (is_digit_byte base) s

digits_fit : (base : Base) (s : List ℕ) → digits_length base s ≤ length s
unfolding digits_length
digits_fit base s = prefix_len-le-length (is_digit_byte base) s

-- what the tests of the base say
abbrev HeadOf : Base → List ℕ → Type 0
HeadOf Hexadecimal b = has_head "xX" Hexadecimal b ≡ true
HeadOf Octal b = has_head "oO" Octal b ≡ true
HeadOf Binary b = has_head "bB" Binary b ≡ true
HeadOf Decimal b = Unit {0}

cond_head : (b : List ℕ) (x o t : Bool) → has_head "xX" Hexadecimal b ≡ x → has_head "oO" Octal b ≡ o → has_head "bB" Binary b ≡ t
    → HeadOf (cond x Hexadecimal (cond o Octal (cond t Binary Decimal))) b
cond_head b true o t e f g = e
cond_head b false true t e f g = f
cond_head b false false true e f g = g
cond_head b false false false e f g = tt

pub base_head : (b : List ℕ) → HeadOf (base_of b) b
base_head b = subst (λ base. HeadOf base b) (sym (base_tests b _ _ _ refl refl refl)) (cond_head b _ _ _ refl refl refl)

letter_digits : (base : Base) (letters : String) (x y z : ℕ) (s : List ℕ) → has_head letters base (x ∷ y ∷ z ∷ s) ≡ true
    → (among letters y ≡ true → is_base_letter base y ≡ true) → There (AreDigits base) (3 + digits_length base s) (x ∷ y ∷ z ∷ s)
letter_digits base letters x y z s h letter =
    let both = and_left ((x == byte "0") && among letters y) (is_digit_of base z) h in
    let first = same_numbers x (byte "0") (and_left (x == byte "0") (among letters y) both) in
    let is_letter = letter (and_right (x == byte "0") (among letters y) both) in
    let is_digit = and_right ((x == byte "0") && among letters y) (is_digit_of base z) h in
    let fits = digits_fit base s in
    let index : suc (suc (suc (digits_length base s))) ≡ 3 + digits_length base s = omega arith in
    let row : AreDigits base (byte "0" ∷ y ∷ z ∷ take (digits_length base s) s) =
    AreDigits.based base y z (take (digits_length base s) s) is_letter is_digit (digits_pass base s) in
    there_at (AreDigits base) (suc (suc (suc (digits_length base s)))) (3 + digits_length base s) (x ∷ y ∷ z ∷ s) index
    (omega (arith, fits), subst (λ v. AreDigits base (v ∷ y ∷ z ∷ take (digits_length base s) s)) (sym first) row)

-- a head has three bytes
head_long : (base : Base) (letters : String) (b : List ℕ) → among letters 0 ≡ false → is_digit_of base 0 ≡ false → has_head letters base b ≡ true
    → (x : ℕ) × (y : ℕ) × (z : ℕ) × (s : List ℕ) × (b ≡ x ∷ y ∷ z ∷ s)
head_long base letters [] f g h = let wrong : false ≡ true = and_left false (is_digit_of base 0) h in cc
head_long base letters (x ∷ []) f g h = let wrong : true ≡ false =
    sym (and_right (x == byte "0") (among letters 0) (and_left ((x == byte "0") && among letters 0) (is_digit_of base 0) h)) ∙ f in cc
head_long base letters (x ∷ y ∷ []) f g h = let wrong : true ≡ false = sym (and_right ((x == byte "0") && among letters y) (is_digit_of base 0) h)
    ∙ g in cc
head_long base letters (x ∷ y ∷ z ∷ s) f g h = (x, y, z, s, refl)

-- the number of bytes of the digits of a number
abbrev pub digits_of : Base → List ℕ → ℕ
digits_of base b = head_length base + digits_length base (drop (head_length base) b)

letter_sound : (base : Base) (letters : String) (b : List ℕ) → head_length base ≡ 3 → among letters 0 ≡ false → is_digit_of base 0 ≡ false
    → ((y : ℕ) → among letters y ≡ true → is_base_letter base y ≡ true) → has_head letters base b ≡ true
    → There (AreDigits base) (digits_of base b) b
letter_sound base letters b size f g letter h =
    let parts = head_long base letters b f g h in
    let x = parts.0 in
    let y = parts.1 in
    let z = parts.2 in
    let s = parts.3 in
    let same = parts.4 in
    let made = letter_digits base letters x y z s (ap (has_head letters base) (sym same) ∙ h) (letter y) in
    let sized : There (AreDigits base) (digits_of base (x ∷ y ∷ z ∷ s)) (x ∷ y ∷ z ∷ s) =
    subst (λ n. There (AreDigits base) (n + digits_length base (drop n (x ∷ y ∷ z ∷ s))) (x ∷ y ∷ z ∷ s)) (sym size) made in
    subst (λ v. There (AreDigits base) (digits_of base v) v) (sym same) sized

decimal_sound : (x : ℕ) (s : List ℕ) → is_ascii_digit x ≡ true → There (AreDigits Decimal) (1 + digits_length Decimal s) (x ∷ s)
decimal_sound x s h =
    let fits = digits_fit Decimal s in
    let index : suc (digits_length Decimal s) ≡ 1 + digits_length Decimal s = omega arith in
    there_at (AreDigits Decimal) (suc (digits_length Decimal s)) (1 + digits_length Decimal s) (x ∷ s) index
    (omega (arith, fits), AreDigits.decimal x (take (digits_length Decimal s) s) h (digits_pass Decimal s))

pub digits_sound : (base : Base) (x : ℕ) (s : List ℕ) → is_ascii_digit x ≡ true → HeadOf base (x ∷ s)
    → There (AreDigits base) (digits_of base (x ∷ s)) (x ∷ s)
digits_sound Decimal x s h head = decimal_sound x s h
digits_sound Hexadecimal x s h head = letter_sound Hexadecimal "xX" (x ∷ s) refl refl refl (λ y e. e) head
digits_sound Octal x s h head = letter_sound Octal "oO" (x ∷ s) refl refl refl (λ y e. e) head
digits_sound Binary x s h head = letter_sound Binary "bB" (x ∷ s) refl refl refl (λ y e. e) head

-- ---- fractions and exponents

-- nothing, or a part of this form
abbrev Part : (List ℕ → Type 0) → ℕ → List ℕ → Type 0
Part P n b = (n ≤ length b) × ((n ≡ 0) ⊎ P (take n b))

fraction_tests : (base : Base) (b : List ℕ) (t : Bool) → is_at "." 0 b ≡ t → fraction_length base b ≡ cond t (1 + digits_length base (drop 1 b)) 0
unfolding fraction_length
fraction_tests base b t e = rw e refl

fraction_sound : (base : Base) (b : List ℕ) → Part (IsFraction base) (fraction_length base b) b
fraction_sound base [] = let none = fraction_tests base [] false refl in (omega (arith, none), inl none)
fraction_sound base (x ∷ s) = elim (which (x == byte ".")) [
  | inl y ↦
      let size = fraction_tests base (x ∷ s) true y in
      let index : fraction_length base (x ∷ s) ≡ suc (digits_length base s) = omega (arith, size) in
      let fits = digits_fit base s in
      let row : IsFraction base (byte "." ∷ take (digits_length base s) s) =
      IsFraction.fraction (take (digits_length base s) s) (digits_pass base s) in (
        omega (arith, index, fits),
        inr
            (subst (λ n. IsFraction base (take n (x ∷ s))) (sym index)
            (subst (λ v. IsFraction base (v ∷ take (digits_length base s) s)) (sym (same_numbers x (byte ".") y)) row)),
      )
  | inr n ↦ let none = fraction_tests base (x ∷ s) false n in (omega (arith, none), inl none)
]

exponent_tests : (base : Base) (b : List ℕ) (sign digits : ℕ) (t : Bool) → sign_end b ≡ sign → prefix_len is_ascii_digit (drop sign b) ≡ digits
    → begins_exponent base (get_or b 0 0) ≡ t → exponent_length base b ≡ cond (t && nat_lt 0 digits) (sign + digits) 0
unfolding exponent_length
exponent_tests base b sign digits t e f g = rw (e, f, g) refl

no_exponent_here : (base : Base) (b : List ℕ) → begins_exponent base (get_or b 0 0) ≡ false → exponent_length base b ≡ 0
no_exponent_here base b h = exponent_tests base b _ _ false refl refl h

-- one digit or more
record SomeDigits (s : List ℕ) (first : ℕ) (rest : List ℕ) : Type 0 where
  bytes : take (prefix_len is_ascii_digit s) s ≡ first ∷ rest
  digit : is_ascii_digit first ≡ true
  digits : list_all is_ascii_digit rest ≡ true

split_digits : (s w : List ℕ) → take (prefix_len is_ascii_digit s) s ≡ w → list_all is_ascii_digit w ≡ true → 0 < length w
    → (first : ℕ) × (rest : List ℕ) × SomeDigits s first rest
split_digits s [] e all some = absurd (omega arith)
split_digits s (first ∷ rest) e all some = (
  first,
  rest,
  record {
    bytes = e;
    digit = and_left (is_ascii_digit first) (list_all is_ascii_digit rest) all;
    digits =
        and_right (is_ascii_digit first) (list_all is_ascii_digit rest) all;
  },
)

some_digits : (s : List ℕ) → 0 < prefix_len is_ascii_digit s → (first : ℕ) × (rest : List ℕ) × SomeDigits s first rest
some_digits s some =
    let size = length-take-le (prefix_len is_ascii_digit s) s (prefix_len-le-length is_ascii_digit s) in
    split_digits s (take (prefix_len is_ascii_digit s) s) refl (run_passes is_ascii_digit s) (omega (arith, size, some))

exponent_row : (base : Base) (letter : ℕ) (sign s : List ℕ) → begins_exponent base letter ≡ true → IsSign sign → 0 < prefix_len is_ascii_digit s
    → IsExponent base (letter ∷ (sign ++ take (prefix_len is_ascii_digit s) s))
exponent_row base letter sign s begins is some =
    let parts = some_digits s some in
    let has = parts.2 in
    subst (λ v. IsExponent base (letter ∷ (sign ++ v))) (sym has.bytes)
    (IsExponent.exponent letter sign parts.0 parts.1 begins is has.digit has.digits)

sign_yes : (c y : ℕ) (s : List ℕ) → among "+-" y ≡ true → sign_end (c ∷ y ∷ s) ≡ 2
sign_yes c y s h = rw h refl

sign_no : (c : ℕ) (s : List ℕ) → among "+-" (get_or s 0 0) ≡ false → sign_end (c ∷ s) ≡ 1
sign_no c s h = rw h refl

cond_digits : (d n : ℕ) → (0 < d) ⊎ (cond (nat_lt 0 d) n 0 ≡ 0)
cond_digits d n = elim (which (nat_lt 0 d)) [
  | inl y ↦ inl (grind (arith, nat_tests, y))
  | inr e ↦ inr (rw e refl)
]

cond_taken : (d n : ℕ) → 0 < d → cond (nat_lt 0 d) n 0 ≡ n
cond_taken d n some = grind (arith, nat_tests, some)

exponent_plain : (base : Base) (c : ℕ) (s : List ℕ) → begins_exponent base c ≡ true → among "+-" (get_or s 0 0) ≡ false
    → Part (IsExponent base) (exponent_length base (c ∷ s)) (c ∷ s)
exponent_plain base c s begins nay =
    let d = prefix_len is_ascii_digit s in
    let tests = exponent_tests base (c ∷ s) 1 d true (sign_no c s nay) refl begins in
    let fits = prefix_len-le-length is_ascii_digit s in
    elim (cond_digits d (1 + d)) [
      | inr none ↦ let zero_length = tests ∙ none in (omega (arith, zero_length), inl zero_length)
      | inl some ↦
          let index : exponent_length base (c ∷ s) ≡ suc d = tests ∙ cond_taken d (1 + d) some ∙ omega arith in (
            omega (arith, index, fits),
            inr
                (subst (λ n. IsExponent base (take n (c ∷ s))) (sym index) (exponent_row base c [] s begins IsSign.none some)),
          )
    ]

exponent_signed : (base : Base) (c y : ℕ) (s : List ℕ) → begins_exponent base c ≡ true → among "+-" y ≡ true
    → Part (IsExponent base) (exponent_length base (c ∷ y ∷ s)) (c ∷ y ∷ s)
exponent_signed base c y s begins aye =
    let d = prefix_len is_ascii_digit s in
    let tests = exponent_tests base (c ∷ y ∷ s) 2 d true (sign_yes c y s aye) refl begins in
    let fits = prefix_len-le-length is_ascii_digit s in
    elim (cond_digits d (2 + d)) [
      | inr none ↦ let zero_length = tests ∙ none in (omega (arith, zero_length), inl zero_length)
      | inl some ↦
          let index : exponent_length base (c ∷ y ∷ s) ≡ suc (suc d) = tests ∙ cond_taken d (2 + d) some ∙ omega arith in (
            omega (arith, index, fits),
            inr
                (subst (λ n. IsExponent base (take n (c ∷ y ∷ s))) (sym index) (exponent_row base c (y ∷ []) s begins (IsSign.one y aye) some)),
          )
    ]

no_letter_at_end : (base : Base) → begins_exponent base 0 ≡ false
no_letter_at_end Binary = refl
no_letter_at_end Octal = refl
no_letter_at_end Decimal = refl
no_letter_at_end Hexadecimal = refl

exponent_begun : (base : Base) (c : ℕ) (s : List ℕ) → begins_exponent base c ≡ true → Part (IsExponent base) (exponent_length base (c ∷ s)) (c ∷ s)
exponent_begun base c [] begins = exponent_plain base c [] begins refl
exponent_begun base c (y ∷ s) begins = elim (which (among "+-" y)) [
  | inl aye ↦ exponent_signed base c y s begins aye
  | inr nay ↦ exponent_plain base c (y ∷ s) begins nay
]

exponent_sound : (base : Base) (b : List ℕ) → Part (IsExponent base) (exponent_length base b) b
exponent_sound base [] = let none = no_exponent_here base [] (no_letter_at_end base) in (omega (arith, none), inl none)
exponent_sound base (c ∷ s) = elim (which (begins_exponent base c)) [
  | inl begins ↦ exponent_begun base c s begins
  | inr nay ↦ let none = no_exponent_here base (c ∷ s) nay in (omega (arith, none), inl none)
]

-- ---- numbers

follows_at : (t : Bool) (kind k : Class) (n m : ℕ) → cond t piece.Bad (piece.Lexeme kind n) ≡ piece.Lexeme k m → (n ≡ m) × (kind ≡ k)
follows_at true kind k n m e = cc
follows_at false kind k n m e = (cc, cc)

pub number_ends : (t : Bool) (k : Class) (i j m : ℕ) (b : List ℕ)
    → cond t (unless_identifier_follows class.Float i b) (unless_identifier_follows class.Int j b) ≡ piece.Lexeme k m
    → (cond t i j ≡ m) × (cond t class.Float class.Int ≡ k)
number_ends true k i j m b e = follows_at (is_identifier_byte (get_or b i 0)) class.Float k i m e
number_ends false k i j m b e = follows_at (is_identifier_byte (get_or b j 0)) class.Int k j m e

suffix_tests : (b : List ℕ) (t : Bool) → among "lLn" (get_or b 0 0) ≡ t → suffix_length b ≡ cond t 1 0
suffix_tests b t e = rw e refl

suffix_sound : (b : List ℕ) → There IsSuffix (suffix_length b) b
suffix_sound [] = (omega arith, IsSuffix.none)
suffix_sound (x ∷ s) = elim (which (among "lLn" x)) [
  | inl y ↦ let size = suffix_tests (x ∷ s) true y in (omega (arith, size), subst (λ n. IsSuffix (take n (x ∷ s))) (sym size) (IsSuffix.one x y))
  | inr n ↦ let size = suffix_tests (x ∷ s) false n in (omega (arith, size), subst (λ n. IsSuffix (take n (x ∷ s))) (sym size) IsSuffix.none)
]

int_there : (base : Base) (b : List ℕ) (n : ℕ) → There (AreDigits base) n b → There IsInt (n + suffix_length (drop n b)) b
int_there base b n digits =
    let suffix = suffix_sound (drop n b) in
    let fits = digits.0 in
    let more = suffix.0 in
    let rest = length-drop n b in
    let text : take (n + suffix_length (drop n b)) b ≡ take n b ++ take (suffix_length (drop n b)) (drop n b) =
    take-add n (suffix_length (drop n b)) b in (
      omega (arith, fits, more, rest),
      subst IsInt (sym text)
          (IsInt.int base (take n b) (take (suffix_length (drop n b)) (drop n b)) digits.1 suffix.1),
    )

-- a fraction, an exponent, or both
float_row : (base : Base) (digits : List ℕ) (r : List ℕ) (f e : ℕ) → has_floats base ≡ true → AreDigits base digits
    → (f ≡ 0) ⊎ IsFraction base (take f r) → (e ≡ 0) ⊎ IsExponent base (take e (drop f r)) → 0 < f + e
    → IsFloat (digits ++ (take f r ++ take e (drop f r)))
float_row base digits r f e has is (inl none) (inl nothing) some = absurd (omega (arith, none, nothing, some))
float_row base digits r f e has is (inl none) (inr power) some =
    let text : take f r ++ take e (drop f r) ≡ take e (drop f r) = ap (λ i. take i r ++ take e (drop f r)) none in
    subst (λ v. IsFloat (digits ++ v)) (sym text) (IsFloat.with_exponent base digits (take e (drop f r)) is power has)
float_row base digits r f e has is (inr point) (inl nothing) some =
    let text : take f r ++ take e (drop f r) ≡ take f r = ap (λ i. take f r ++ take i (drop f r)) nothing ∙ append-nil (take f r) in
    subst (λ v. IsFloat (digits ++ v)) (sym text) (IsFloat.with_fraction base digits (take f r) is point has)
float_row base digits r f e has is (inr point) (inr power) some = IsFloat.with_both base digits (take f r) (take e (drop f r)) is point power has

float_parts : (base : Base) (r : List ℕ) (t : Bool) → has_floats base ≡ t
    → float_part_length base r ≡ cond t (fraction_length base r + exponent_length base (drop (fraction_length base r) r)) 0
unfolding float_part_length
float_parts base r t e = rw e refl

float_there : (base : Base) (b : List ℕ) (n : ℕ) → There (AreDigits base) n b → 0 < float_part_length base (drop n b)
    → There IsFloat (n + float_part_length base (drop n b)) b
float_there base b n digits some = elim (which (has_floats base)) [
  | inr no_floats ↦ let none = float_parts base (drop n b) false no_floats in absurd (omega (arith, none, some))
  | inl has ↦
      let r = drop n b in
      let f = fraction_length base r in
      let e = exponent_length base (drop f r) in
      let size = float_parts base r true has in
      let fraction = fraction_sound base r in
      let power = exponent_sound base (drop f r) in
      let fits = digits.0 in
      let fits_f = fraction.0 in
      let fits_e = power.0 in
      let rest = length-drop n b in
      let rest_f = length-drop f r in
      let text : take (n + float_part_length base r) b ≡ take n b ++ (take f r ++ take e (drop f r)) = take-add n (float_part_length base r) b
      ∙ ap (λ i. take n b ++ take i r) size ∙ ap (λ v. take n b ++ v) (take-add f e r) in (
        omega (arith, fits, fits_f, fits_e, rest, rest_f, size),
        subst IsFloat (sym text)
            (float_row base (take n b) r f e has digits.1 fraction.1 power.1 (omega (arith, size, some))),
      )
]

pub number_begins : (t : Bool) (base : Base) (b : List ℕ) (n : ℕ) (k : Class) (m : ℕ) → nat_lt 0 (float_part_length base (drop n b)) ≡ t
    → There (AreDigits base) n b → cond t (n + float_part_length base (drop n b)) (n + suffix_length (drop n b)) ≡ m
    → cond t class.Float class.Int ≡ k → Begins k m b
number_begins true base b n k m some digits size is_class =
    let there = float_there base b n digits (grind (arith, nat_tests, some)) in
    subst (λ i. Begins k i b) size (subst (λ c. Begins c (n + float_part_length base (drop n b)) b) is_class (there.0, there.1, tt))
number_begins false base b n k m none digits size is_class =
    let there = int_there base b n digits in
    subst (λ i. Begins k i b) size (subst (λ c. Begins c (n + suffix_length (drop n b)) b) is_class (there.0, there.1, tt))

pub number_fine : (b : List ℕ) → is_ascii_digit (get_or b 0 0) ≡ true → Fine b (number_at b)
number_fine [] h k m e = cc
number_fine (x ∷ s) h k m e =
    let b = x ∷ s in
    let base = base_of b in
    let n = digits_of base b in
    let more = float_part_length base (drop n b) in
    let parts = number_parts b base n more refl refl refl in
    let ends = number_ends (nat_lt 0 more) k (n + more) (n + suffix_length (drop n b)) m b (sym parts ∙ e) in
    number_begins (nat_lt 0 more) base b n k m refl (digits_sound base x s h (base_head b)) ends.0 ends.1
