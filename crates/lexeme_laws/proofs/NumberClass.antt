-- If an Int or a Float of the table is taken whole, it has its class.
use Rattle.std.proofs.Common.{◌≡◌, ℕ, suc, ◌+◌, ◌<◌, ◌≤◌, inl, inr, List, [], ◌∷◌, ◌++◌, true, false, cond, ◌==◌, length, drop, nat_lt, refl, ap}
use Rattle.std.proofs.Common.{sym, subst, ◌∙◌, arith, append_assoc, append-nil}
use Rattle.std.specs.Prelude.{codes}
use Rattle.std.specs.Str.{byte}
use Rattle.std.proofs.lemmas.Bool.Decides.{nat_tests}
use Rattle.rotor_base.specs.declared.token.Class.{Class}
use Rattle.rotor_base.specs.declared.token.Class.TheVariants as class
use Rattle.ml_lexer.specs.declared.number.Base.{Base}
use Rattle.ml_lexer.specs.declared.number.Base.TheVariants.{Binary, Octal, Decimal, Hexadecimal}
use Rattle.ml_lexer.specs.declared.piece.Piece.TheVariants as piece
use Rattle.ml_lexer.specs.Bytes.{among}
use Rattle.ml_lexer.specs.Numbers.{base_of, head_length, digits_length, exponent_length, has_floats, float_part_length, suffix_length, number_at}
use Rattle.ml_lexer.specs.Pieces.{piece_at}
use Rattle.ml_lexer.proofs.Local.{which, and_left}
use Rattle.ml_lexer.proofs.Digits.{number_parts}
use Rattle.ml_lexer.proofs.Fronts.{lexeme_of_piece}
use Rattle.lexeme_laws.specs.Table.{are_digits, AreDigits, IsSuffix, IsInt, IsFraction, IsExponent, IsFloat}
use Rattle.lexeme_laws.proofs.Tests.{among_fails}
use Rattle.lexeme_laws.proofs.NumberReach.{is_digit_byte, digits_stop, Read, GoesOn, goes_on, digits_read, decimal_read_at, letter_read}
use Rattle.lexeme_laws.proofs.NumberReach.{first_digit, drop_front, no_fraction, no_exponent, float_part, suffix_is_no_digit, suffix_is_no_letter}
use Rattle.lexeme_laws.proofs.NumberReach.{cond_zero}
use Rattle.lexeme_laws.proofs.FloatReach.{point_is_no_digit, letter_on, letter_is_no_digit, fraction_far, both_far, power_far, exponent_far}
use Rattle.lexeme_laws.proofs.FloatReach.{exponent_letter}
use Rattle.lexeme_laws.proofs.NumberSound.{number_ends}
use Rattle.lexeme_laws.proofs.WordClass.{Gives}

-- what is no longer than its digits is an Int
int_class : (more n suffix m : ℕ) (k : Class) → cond (nat_lt 0 more) (n + more) (n + suffix) ≡ m → cond (nat_lt 0 more) class.Float class.Int ≡ k
    → m ≤ n → class.Int ≡ k
int_class more n suffix m k size is short = elim (which (nat_lt 0 more)) [
  | inl some ↦
      let sum : n + more ≡ m = ap (λ t. cond t (n + more) (n + suffix)) (sym some) ∙ size in
      absurd (grind (arith, nat_tests, some, sum, short))
  | inr none ↦ ap (λ t. cond t class.Float class.Int) (sym none) ∙ is
]

pub head_some : (base : Base) → 1 ≤ head_length base
head_some Binary = omega arith
head_some Octal = omega arith
head_some Decimal = omega arith
head_some Hexadecimal = omega arith

-- a number of one byte is an Int
one_class : (b : List ℕ) (k : Class) (m : ℕ) → number_at b ≡ piece.Lexeme k m → m ≡ 1 → class.Int ≡ k
one_class b k m e size =
    let base = base_of b in
    let n = head_length base + digits_length base (drop (head_length base) b) in
    let more = float_part_length base (drop n b) in
    let ends = number_ends (nat_lt 0 more) k (n + more) (n + suffix_length (drop n b)) m b (sym (number_parts b base n more refl refl refl) ∙ e) in
    let head = head_some base in
    int_class more n (suffix_length (drop n b)) m k ends.0 ends.1 (omega (arith, head, size))

digits_class : (base : Base) (front rest : List ℕ) → Read base front rest → (k : Class) (m : ℕ) → number_at (front ++ rest) ≡ piece.Lexeme k m
    → length front ≡ m → class.Int ≡ k
digits_class base front rest read k m e size =
    let b = front ++ rest in
    let n = head_length base + digits_length base (drop (head_length base) b) in
    let more = float_part_length base (drop n b) in
    let ends = number_ends (nat_lt 0 more) k (n + more) (n + suffix_length (drop n b)) m b
    (sym (number_parts b base n more read.based refl refl) ∙ e) in
    let l = read.length_is in
    int_class more n (suffix_length (drop n b)) m k ends.0 ends.1 (omega (arith, l, size))

digits_give : (base : Base) (front rest : List ℕ) → AreDigits base front → Gives class.Int (length front) (front ++ rest)
digits_give base front rest (AreDigits.decimal first [] d all) k m e size =
    one_class (first ∷ rest) k m
    (first_digit Decimal (first ∷ []) rest (AreDigits.decimal first [] d all) k m (lexeme_of_piece (first ∷ rest) k m e)) (sym size)
digits_give base front rest (AreDigits.decimal first (c ∷ f) d all) k m e size =
    let on = goes_on (is_digit_byte Decimal) c refl refl refl (and_left (is_digit_byte Decimal c) (are_digits Decimal f) all) in
    let read = decimal_read_at first c (c ∷ f) rest (f ++ rest) refl on all in
    digits_class Decimal (first ∷ c ∷ f) rest read k m
    (first_digit Decimal (first ∷ c ∷ f) rest (AreDigits.decimal first (c ∷ f) d all) k m (lexeme_of_piece ((first ∷ c ∷ f) ++ rest) k m e))
    size
digits_give base front rest (AreDigits.based own letter first f h d all) k m e size =
    digits_class own (byte "0" ∷ letter ∷ first ∷ f) rest (letter_read own letter first f rest h d all) k m
    (first_digit own (byte "0" ∷ letter ∷ first ∷ f) rest (AreDigits.based own letter first f h d all) k m
    (lexeme_of_piece ((byte "0" ∷ letter ∷ first ∷ f) ++ rest) k m e)) size

-- the class of a number whose digits end before these bytes
read_class : (base : Base) (front rest : List ℕ) → Read base front rest → digits_length base rest ≡ 0 → (k : Class) (m : ℕ)
    → number_at (front ++ rest) ≡ piece.Lexeme k m → cond (nat_lt 0 (float_part_length base rest)) class.Float class.Int ≡ k
read_class base front rest read stop k m e =
    let b = front ++ rest in
    let n : head_length base + digits_length base (drop (head_length base) b) ≡ length front = let l = read.length_is in omega (arith, l, stop) in
    let more = ap (float_part_length base) (drop_front front rest) in
    let parts = number_parts b base (length front) (float_part_length base rest) read.based n more in
    let ends = number_ends (nat_lt 0 (float_part_length base rest)) k (length front + float_part_length base rest)
    (length front + suffix_length (drop (length front) b)) m b (sym parts ∙ e) in
    ends.1

suffix_class : (base : Base) (front : List ℕ) (c : ℕ) (rest : List ℕ) → AreDigits base front → among "lLn" c ≡ true → (k : Class) (m : ℕ)
    → piece_at (front ++ (c ∷ rest)) ≡ piece.Lexeme k m → class.Int ≡ k
suffix_class base front c rest digits h k m e =
    let on = goes_on (among "lLn") c refl refl refl h in
    let read = digits_read base front c rest digits on in
    let stop = digits_stop base c rest (suffix_is_no_digit base c h) in
    let none = float_part base (c ∷ rest) 0 0 (no_fraction base c rest (among_fails (λ x. x == byte ".") (codes "lLn") c refl h))
    (no_exponent base c rest (suffix_is_no_letter base c h)) ∙ cond_zero (has_floats base) in
    let is = read_class base front (c ∷ rest) read stop k m
    (first_digit base front (c ∷ rest) digits k m (lexeme_of_piece (front ++ (c ∷ rest)) k m e)) in
    ap (λ n. cond (nat_lt 0 n) class.Float class.Int) (sym none) ∙ is

pub int_gives : (f rest : List ℕ) → IsInt f → Gives class.Int (length f) (f ++ rest)
int_gives f rest (IsInt.int base front suffix digits IsSuffix.none) k m e size =
    let same : front ++ [] ≡ front = append-nil front in
    subst (λ v. Gives class.Int (length v) (v ++ rest)) (sym same) (digits_give base front rest digits) k m e size
int_gives f rest (IsInt.int base front suffix digits (IsSuffix.one c h)) k m e size =
    suffix_class base front c rest digits h k m (ap piece_at (sym (append_assoc front (c ∷ []) rest)) ∙ e)

-- ---- Floats

float_class : (more : ℕ) (k : Class) → 0 < more → cond (nat_lt 0 more) class.Float class.Int ≡ k → class.Float ≡ k
float_class more k some is = elim (which (nat_lt 0 more)) [
  | inl y ↦ ap (λ t. cond t class.Float class.Int) (sym y) ∙ is
  | inr n ↦ absurd (grind (arith, nat_tests, n, some))
]

goes_class : (base : Base) (front : List ℕ) (y : ℕ) (s : List ℕ) → AreDigits base front → GoesOn y → is_digit_byte base y ≡ false
    → 0 < float_part_length base (y ∷ s) → (k : Class) (m : ℕ) → piece_at (front ++ (y ∷ s)) ≡ piece.Lexeme k m → class.Float ≡ k
goes_class base front y s digits on nay some k m e =
    let read = digits_read base front y s digits on in
    let is = read_class base front (y ∷ s) read (digits_stop base y s nay) k m
    (first_digit base front (y ∷ s) digits k m (lexeme_of_piece (front ++ (y ∷ s)) k m e)) in
    float_class (float_part_length base (y ∷ s)) k some is

power_class : (base : Base) (front power rest : List ℕ) → AreDigits base front → IsExponent base power → has_floats base ≡ true
    → (k : Class) (m : ℕ) → piece_at (front ++ (power ++ rest)) ≡ piece.Lexeme k m → class.Float ≡ k
power_class base front power rest digits is has k m e =
    let parts = exponent_letter base power is in
    let letter = parts.0 in
    let s = parts.1 in
    let same : power ++ rest ≡ letter ∷ (s ++ rest) = ap (λ v. v ++ rest) parts.2 in
    let far : length power ≤ exponent_length base (letter ∷ (s ++ rest)) =
    subst (λ v. length power ≤ exponent_length base v) same (exponent_far base power rest is) in
    let all = power_far base letter (s ++ rest) has parts.3 in
    let size : length power ≡ suc (length s) = ap length parts.2 in
    goes_class base front letter (s ++ rest) digits (letter_on base letter parts.3) (letter_is_no_digit base letter parts.3)
    (omega (arith, far, all, size)) k m (ap (λ v. piece_at (front ++ v)) (sym same) ∙ e)

pub float_gives : (f rest : List ℕ) → IsFloat f → Gives class.Float (length f) (f ++ rest)
float_gives f rest (IsFloat.with_fraction base front fraction digits (IsFraction.fraction ds all) has) k m e size =
    let far = fraction_far base ds rest has all in
    goes_class base front (byte ".") (ds ++ rest) digits (goes_on (λ c. c == byte ".") (byte ".") refl refl refl refl) (point_is_no_digit base)
    (omega (arith, far)) k m (ap piece_at (sym (append_assoc front (byte "." ∷ ds) rest)) ∙ e)
float_gives f rest (IsFloat.with_exponent base front power digits is has) k m e size =
    power_class base front power rest digits is has k m (ap piece_at (sym (append_assoc front power rest)) ∙ e)
float_gives f rest (IsFloat.with_both base front fraction power digits (IsFraction.fraction ds all) is has) k m e size =
    let far = both_far base ds power rest has all is in
    let inner : ((byte "." ∷ ds) ++ power) ++ rest ≡ byte "." ∷ (ds ++ (power ++ rest)) = append_assoc (byte "." ∷ ds) power rest in
    let joined : (front ++ ((byte "." ∷ ds) ++ power)) ++ rest ≡ front ++ (byte "." ∷ (ds ++ (power ++ rest))) =
    append_assoc front ((byte "." ∷ ds) ++ power) rest ∙ ap (λ v. front ++ v) inner in
    goes_class base front (byte ".") (ds ++ (power ++ rest)) digits (goes_on (λ c. c == byte ".") (byte ".") refl refl refl refl)
    (point_is_no_digit base) (omega (arith, far)) k m (ap piece_at (sym joined) ∙ e)
