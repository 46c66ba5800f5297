-- Where a Float of the table begins, what is taken is no shorter.
use Rattle.std.proofs.Common.{◌≡◌, ℕ, suc, ◌+◌, ◌<◌, ◌≤◌, List, ◌∷◌, ◌++◌, true, false, cond, ◌==◌, length, drop, get_or, nat_lt, refl, ap, sym}
use Rattle.std.proofs.Common.{subst, ◌∙◌, arith, length-append, append_assoc}
use Rattle.std.specs.List.{prefix_len}
use Rattle.std.specs.Prelude.{codes}
use Rattle.std.specs.Char.{is_ascii_digit}
use Rattle.std.specs.Str.{byte}
use Rattle.std.proofs.lemmas.Bool.Decides.{nat_tests}
use Rattle.ml_lexer.specs.declared.number.Base.{Base}
use Rattle.ml_lexer.specs.declared.number.Base.TheVariants.{Binary, Octal, Decimal, Hexadecimal}
use Rattle.ml_lexer.specs.Bytes.{among}
use Rattle.ml_lexer.specs.Numbers.{digits_length, fraction_length, begins_exponent, sign_end, exponent_length, has_floats, float_part_length}
use Rattle.ml_lexer.specs.Numbers.{suffix_length}
use Rattle.ml_lexer.specs.Pieces.{piece_at}
use Rattle.ml_lexer.proofs.Signs.{among_none}
use Rattle.ml_lexer.proofs.Fronts.{lexeme_of_piece}
use Rattle.lexeme_laws.specs.Table.{are_digits, AreDigits, IsFraction, IsSign, IsExponent, IsFloat}
use Rattle.lexeme_laws.proofs.Tests.{among_fails, run_over}
use Rattle.lexeme_laws.proofs.WordReach.{Reaches}
use Rattle.lexeme_laws.proofs.NumberReach.{is_digit_byte, digits_over, digits_stop, no_fraction, float_part, GoesOn, goes_on, digits_read}
use Rattle.lexeme_laws.proofs.NumberReach.{first_digit, read_size, cond_more, drop_front}

pub point_is_no_digit : (base : Base) → is_digit_byte base (byte ".") ≡ false
point_is_no_digit Binary = refl
point_is_no_digit Octal = refl
point_is_no_digit Decimal = refl
point_is_no_digit Hexadecimal = refl

pub letter_on : (base : Base) (letter : ℕ) → begins_exponent base letter ≡ true → GoesOn letter
letter_on Binary letter h = cc
letter_on Octal letter h = cc
letter_on Decimal letter h = goes_on (begins_exponent Decimal) letter refl refl refl h
letter_on Hexadecimal letter h = goes_on (begins_exponent Hexadecimal) letter refl refl refl h

pub letter_is_no_digit : (base : Base) (letter : ℕ) → begins_exponent base letter ≡ true → is_digit_byte base letter ≡ false
letter_is_no_digit Binary letter h = cc
letter_is_no_digit Octal letter h = cc
letter_is_no_digit Decimal letter h = among_fails (is_digit_byte Decimal) (codes "eE") letter refl h
letter_is_no_digit Hexadecimal letter h = among_fails (is_digit_byte Hexadecimal) (codes "pP") letter refl h

letter_is_no_point : (base : Base) (letter : ℕ) → begins_exponent base letter ≡ true → (letter == byte ".") ≡ false
letter_is_no_point Binary letter h = cc
letter_is_no_point Octal letter h = cc
letter_is_no_point Decimal letter h = among_fails (λ c. c == byte ".") (codes "eE") letter refl h
letter_is_no_point Hexadecimal letter h = among_fails (λ c. c == byte ".") (codes "pP") letter refl h

pub fraction_at : (base : Base) (s : List ℕ) → fraction_length base (byte "." ∷ s) ≡ 1 + digits_length base s
unfolding fraction_length
fraction_at base s = refl

pub exponent_at : (base : Base) (b : List ℕ) (sign digits : ℕ) → sign_end b ≡ sign → prefix_len is_ascii_digit (drop sign b) ≡ digits
    → begins_exponent base (get_or b 0 0) ≡ true → exponent_length base b ≡ cond (nat_lt 0 digits) (sign + digits) 0
unfolding exponent_length
exponent_at base b sign digits e f g = rw (e, f, g) refl

cond_some : (n d l : ℕ) → l ≡ cond (nat_lt 0 d) (n + d) 0 → 0 < d → n + d ≤ l
cond_some n d l e some = grind (arith, nat_tests, e, some)

digit_is_no_sign : (c : ℕ) → is_ascii_digit c ≡ true → among "+-" c ≡ false
digit_is_no_sign c h = among_none is_ascii_digit (codes "+-") c refl h

-- an exponent reaches as far as the table says
pub exponent_far : (base : Base) (power rest : List ℕ) → IsExponent base power → length power ≤ exponent_length base (power ++ rest)
exponent_far base power rest (IsExponent.exponent letter sign first digits begins IsSign.none d all) =
    let b = letter ∷ first ∷ (digits ++ rest) in
    let skip : sign_end b ≡ 1 = rw (digit_is_no_sign first d) refl in
    let run = run_over is_ascii_digit (first ∷ digits) rest (rw d all) in
    let at = exponent_at base b 1 (prefix_len is_ascii_digit (first ∷ (digits ++ rest))) skip refl begins in
    let far = cond_some 1 (prefix_len is_ascii_digit (first ∷ (digits ++ rest))) (exponent_length base b) at (omega (arith, run)) in
    omega (arith, far, run)
exponent_far base power rest (IsExponent.exponent letter sign first digits begins (IsSign.one c h) d all) =
    let b = letter ∷ c ∷ first ∷ (digits ++ rest) in
    let skip : sign_end b ≡ 2 = rw h refl in
    let run = run_over is_ascii_digit (first ∷ digits) rest (rw d all) in
    let at = exponent_at base b 2 (prefix_len is_ascii_digit (first ∷ (digits ++ rest))) skip refl begins in
    let far = cond_some 2 (prefix_len is_ascii_digit (first ∷ (digits ++ rest))) (exponent_length base b) at (omega (arith, run)) in
    omega (arith, far, run)

float_more : (base : Base) (b : List ℕ) (fraction : ℕ) → has_floats base ≡ true → fraction_length base b ≡ fraction
    → float_part_length base b ≡ fraction + exponent_length base (drop fraction b)
float_more base b fraction has e = float_part base b fraction (exponent_length base (drop fraction b)) e refl ∙ rw has refl

-- a number whose digits end before a byte by which it goes on
goes_far : (base : Base) (front : List ℕ) (y : ℕ) (s : List ℕ) (more : ℕ) → AreDigits base front → GoesOn y → is_digit_byte base y ≡ false
    → more ≤ float_part_length base (y ∷ s) → Reaches (length front + more) (front ++ (y ∷ s))
goes_far base front y s more digits on nay fits k m e =
    let read = digits_read base front y s digits on in
    let size = read_size base front (y ∷ s) read (digits_stop base y s nay) k m
    (first_digit base front (y ∷ s) digits k m (lexeme_of_piece (front ++ (y ∷ s)) k m e)) in
    let far = cond_more (float_part_length base (y ∷ s)) (length front) (suffix_length (y ∷ s)) m size in
    omega (arith, far, fits)

pub fraction_far : (base : Base) (ds rest : List ℕ) → has_floats base ≡ true → are_digits base ds ≡ true
    → suc (length ds) ≤ float_part_length base (byte "." ∷ (ds ++ rest))
fraction_far base ds rest has all =
    let more = float_more base (byte "." ∷ (ds ++ rest)) _ has (fraction_at base (ds ++ rest)) in
    let over = digits_over base ds rest all in
    omega (arith, more, over)

pub power_far : (base : Base) (letter : ℕ) (s : List ℕ) → has_floats base ≡ true → begins_exponent base letter ≡ true
    → float_part_length base (letter ∷ s) ≡ exponent_length base (letter ∷ s)
power_far base letter s has begins =
    let more = float_more base (letter ∷ s) 0 has (no_fraction base letter s (letter_is_no_point base letter begins)) in
    more ∙ omega arith

-- the letter of an exponent
pub exponent_letter : (base : Base) (power : List ℕ) → IsExponent base power
    → (letter : ℕ) × (s : List ℕ) × (power ≡ letter ∷ s) × (begins_exponent base letter ≡ true)
exponent_letter base power (IsExponent.exponent letter sign first digits begins is d all) = (letter, sign ++ (first ∷ digits), refl, begins)

power_reaches : (base : Base) (front power rest : List ℕ) → AreDigits base front → IsExponent base power → has_floats base ≡ true
    → Reaches (length front + length power) (front ++ (power ++ rest))
power_reaches base front power rest digits is has =
    let parts = exponent_letter base power is in
    let same : power ++ rest ≡ parts.0 ∷ (parts.1 ++ rest) = ap (λ v. v ++ rest) parts.2 in
    let far : length power ≤ exponent_length base (parts.0 ∷ (parts.1 ++ rest)) =
    subst (λ v. length power ≤ exponent_length base v) same (exponent_far base power rest is) in
    let all = power_far base parts.0 (parts.1 ++ rest) has parts.3 in
    let fits : length power ≤ float_part_length base (parts.0 ∷ (parts.1 ++ rest)) = omega (arith, far, all) in
    subst (λ v. Reaches (length front + length power) (front ++ v)) (sym same)
    (goes_far base front parts.0 (parts.1 ++ rest) (length power) digits (letter_on base parts.0 parts.3)
    (letter_is_no_digit base parts.0 parts.3) fits)

-- a fraction that an exponent follows ends before its letter
fraction_exact : (base : Base) (ds power rest : List ℕ) → are_digits base ds ≡ true → IsExponent base power
    → fraction_length base (byte "." ∷ (ds ++ (power ++ rest))) ≡ suc (length ds)
fraction_exact base ds power rest all is =
    let parts = exponent_letter base power is in
    let same : power ++ rest ≡ parts.0 ∷ (parts.1 ++ rest) = ap (λ v. v ++ rest) parts.2 in
    let stop : digits_length base (power ++ rest) ≡ 0 = ap (digits_length base) same
    ∙ digits_stop base parts.0 (parts.1 ++ rest) (letter_is_no_digit base parts.0 parts.3) in
    let at = fraction_at base (ds ++ (power ++ rest)) in
    let over = digits_over base ds (power ++ rest) all in
    omega (arith, at, over, stop)

pub both_far : (base : Base) (ds power rest : List ℕ) → has_floats base ≡ true → are_digits base ds ≡ true → IsExponent base power
    → suc (length ds) + length power ≤ float_part_length base (byte "." ∷ (ds ++ (power ++ rest)))
both_far base ds power rest has all is =
    let more = float_more base (byte "." ∷ (ds ++ (power ++ rest))) (suc (length ds)) has (fraction_exact base ds power rest all is) in
    let tail = ap (exponent_length base) (drop_front ds (power ++ rest)) in
    let far = exponent_far base power rest is in
    omega (arith, more, tail, far)

pub float_reaches : (f rest : List ℕ) → IsFloat f → Reaches (length f) (f ++ rest)
float_reaches f rest (IsFloat.with_fraction base front more digits (IsFraction.fraction ds all) has) k m e =
    let joined : (front ++ (byte "." ∷ ds)) ++ rest ≡ front ++ (byte "." ∷ (ds ++ rest)) = append_assoc front (byte "." ∷ ds) rest in
    let far = goes_far base front (byte ".") (ds ++ rest) (suc (length ds)) digits (goes_on (λ c. c == byte ".") (byte ".") refl refl refl refl)
    (point_is_no_digit base) (fraction_far base ds rest has all) k m (ap piece_at (sym joined) ∙ e) in
    let size : length (front ++ (byte "." ∷ ds)) ≡ length front + suc (length ds) = length-append front (byte "." ∷ ds) in
    omega (arith, far, size)
float_reaches f rest (IsFloat.with_exponent base front power digits is has) k m e =
    let joined : (front ++ power) ++ rest ≡ front ++ (power ++ rest) = append_assoc front power rest in
    let far = power_reaches base front power rest digits is has k m (ap piece_at (sym joined) ∙ e) in
    let size : length (front ++ power) ≡ length front + length power = length-append front power in
    omega (arith, far, size)
float_reaches f rest (IsFloat.with_both base front more power digits (IsFraction.fraction ds all) is has) k m e =
    let inner : ((byte "." ∷ ds) ++ power) ++ rest ≡ byte "." ∷ (ds ++ (power ++ rest)) = append_assoc (byte "." ∷ ds) power rest in
    let joined : (front ++ ((byte "." ∷ ds) ++ power)) ++ rest ≡ front ++ (byte "." ∷ (ds ++ (power ++ rest))) =
    append_assoc front ((byte "." ∷ ds) ++ power) rest ∙ ap (λ v. front ++ v) inner in
    let far = goes_far base front (byte ".") (ds ++ (power ++ rest)) (suc (length ds) + length power) digits
    (goes_on (λ c. c == byte ".") (byte ".") refl refl refl refl) (point_is_no_digit base) (both_far base ds power rest has all is) k m
    (ap piece_at (sym joined) ∙ e) in
    let size : length (front ++ ((byte "." ∷ ds) ++ power)) ≡ length front + length ((byte "." ∷ ds) ++ power) =
    length-append front ((byte "." ∷ ds) ++ power) in
    let inner_size : length (ds ++ power) ≡ length ds + length power = length-append ds power in
    omega (arith, far, size, inner_size)
