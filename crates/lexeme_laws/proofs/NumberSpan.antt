-- The number that begins reaches as far as each Int and Float of the table, Bad or not.
use Rattle.std.proofs.Common.{◌≡◌, ℕ, suc, ◌+◌, ◌≤◌, inl, inr, List, [], ◌∷◌, ◌++◌, Bool, true, false, cond, ◌==◌, length, drop, get_or, nat_lt}
use Rattle.std.proofs.Common.{refl, ap, sym, subst, ◌∙◌, arith, length-append, append_assoc, append-nil}
use Rattle.std.specs.Prelude.{codes}
use Rattle.std.specs.Str.{byte}
use Rattle.std.specs.Char.{is_ascii_digit}
use Rattle.std.proofs.lemmas.Bool.Decides.{nat_tests}
use Rattle.rotor_base.specs.Name.{is_identifier_byte}
use Rattle.rotor_base.specs.declared.token.Class.{Class}
use Rattle.rotor_base.specs.declared.token.Class.TheVariants as class
use Rattle.ml_lexer.specs.declared.number.Base.{Base}
use Rattle.ml_lexer.specs.declared.number.Base.TheVariants.{Decimal}
use Rattle.ml_lexer.specs.declared.piece.Piece.TheVariants as piece
use Rattle.ml_lexer.specs.Bytes.{among}
use Rattle.ml_lexer.specs.Numbers.{base_of, digits_length, exponent_length, has_floats, float_part_length, suffix_length}
use Rattle.ml_lexer.specs.Numbers.{unless_identifier_follows, number_at}
use Rattle.ml_lexer.proofs.Local.{which, and_left}
use Rattle.ml_lexer.proofs.Digits.{number_parts}
use Rattle.lexeme_laws.specs.Table.{are_digits, AreDigits, IsSuffix, IsInt, IsFraction, IsExponent, IsFloat}
use Rattle.lexeme_laws.specs.Begins.{Begins, IsBadAt}
use Rattle.lexeme_laws.proofs.Tests.{among_fails}
use Rattle.lexeme_laws.proofs.NumberReach.{is_digit_byte, digits_stop, Read, GoesOn, goes_on, digits_read, decimal_read_at, letter_read}
use Rattle.lexeme_laws.proofs.NumberReach.{drop_front, no_fraction, no_exponent, float_part, suffix_is_no_digit, suffix_is_no_letter, cond_zero}
use Rattle.lexeme_laws.proofs.FloatReach.{point_is_no_digit, letter_on, letter_is_no_digit, fraction_far, both_far, power_far, exponent_far}
use Rattle.lexeme_laws.proofs.FloatReach.{exponent_letter}
use Rattle.lexeme_laws.proofs.NumberClass.{head_some}
use Rattle.lexeme_laws.proofs.NumberSound.{digits_of, base_head, digits_sound, number_begins}

-- the number of bytes of the number that begins here
abbrev span_at : ℕ → List ℕ → ℕ → ℕ
span_at n b more = cond (nat_lt 0 more) (n + more) (n + suffix_length (drop n b))

abbrev span_of : Base → List ℕ → ℕ
span_of base b = span_at (digits_of base b) b (float_part_length base (drop (digits_of base b) b))

abbrev pub span : List ℕ → ℕ
span b = span_of (base_of b) b

span_far : (more n suffix : ℕ) → n + more ≤ cond (nat_lt 0 more) (n + more) (n + suffix)
span_far more n suffix = elim (which (nat_lt 0 more)) [
  | inl y ↦ rw y (omega arith)
  | inr no_more ↦ let none : more ≡ 0 = grind (arith, nat_tests, no_more) in rw no_more (omega (arith, none))
]

span_none : (more n suffix : ℕ) → more ≡ 0 → n + suffix ≤ cond (nat_lt 0 more) (n + more) (n + suffix)
span_none more n suffix none = let no_more : nat_lt 0 more ≡ false = ap (nat_lt 0) none in rw no_more (omega arith)

span_one : (b : List ℕ) → 1 ≤ span b
span_one b =
    let base = base_of b in
    let n = digits_of base b in
    let more = float_part_length base (drop n b) in
    let far = span_far more n (suffix_length (drop n b)) in
    let head = head_some base in
    omega (arith, far, head)

-- digits alone
read_far : (base : Base) (front rest : List ℕ) → Read base front rest → length front ≤ span (front ++ rest)
read_far base front rest read =
    let b = front ++ rest in
    let n = digits_of base b in
    let more = float_part_length base (drop n b) in
    let far = span_far more n (suffix_length (drop n b)) in
    let l = read.length_is in
    let here : length front ≤ span_of base b = omega (arith, far, l) in
    subst (λ v. length front ≤ span_of v b) (sym read.based) here

-- the digits and what follows them
read_span : (base : Base) (front rest : List ℕ) → Read base front rest → digits_length base rest ≡ 0
    → span (front ++ rest) ≡ cond (nat_lt 0 (float_part_length base rest)) (length front + float_part_length base rest)
    (length front + suffix_length rest)
read_span base front rest read stop =
    let b = front ++ rest in
    let n : digits_of base b ≡ length front = let l = read.length_is in omega (arith, l, stop) in
    let tail = drop_front front rest in
    ap (λ v. span_of v b) read.based
    ∙ ap (λ i. span_at i b (float_part_length base (drop i b))) n
    ∙ ap (λ r. cond (nat_lt 0 (float_part_length base r)) (length front + float_part_length base r) (length front + suffix_length r)) tail

digits_span : (base : Base) (front rest : List ℕ) → AreDigits base front → length front ≤ span (front ++ rest)
digits_span base front rest (AreDigits.decimal first [] d all) = span_one (first ∷ rest)
digits_span base front rest (AreDigits.decimal first (c ∷ f) d all) =
    let on = goes_on (is_digit_byte Decimal) c refl refl refl (and_left (is_digit_byte Decimal c) (are_digits Decimal f) all) in
    read_far Decimal (first ∷ c ∷ f) rest (decimal_read_at first c (c ∷ f) rest (f ++ rest) refl on all)
digits_span base front rest (AreDigits.based own letter first f h d all) =
    read_far own (byte "0" ∷ letter ∷ first ∷ f) rest (letter_read own letter first f rest h d all)

suffix_span : (base : Base) (front : List ℕ) (c : ℕ) (rest : List ℕ) → AreDigits base front → among "lLn" c ≡ true
    → length front + 1 ≤ span (front ++ (c ∷ rest))
suffix_span base front c rest digits h =
    let on = goes_on (among "lLn") c refl refl refl h in
    let read = digits_read base front c rest digits on in
    let stop = digits_stop base c rest (suffix_is_no_digit base c h) in
    let none = float_part base (c ∷ rest) 0 0 (no_fraction base c rest (among_fails (λ x. x == byte ".") (codes "lLn") c refl h))
    (no_exponent base c rest (suffix_is_no_letter base c h)) ∙ cond_zero (has_floats base) in
    let is = read_span base front (c ∷ rest) read stop in
    let far = span_none (float_part_length base (c ∷ rest)) (length front) (suffix_length (c ∷ rest)) none in
    let one : suffix_length (c ∷ rest) ≡ 1 = rw h refl in
    omega (arith, is, far, one)

pub int_span : (f rest : List ℕ) → IsInt f → length f ≤ span (f ++ rest)
int_span f rest (IsInt.int base front suffix digits IsSuffix.none) =
    let same : front ++ [] ≡ front = append-nil front in
    subst (λ v. length v ≤ span (v ++ rest)) (sym same) (digits_span base front rest digits)
int_span f rest (IsInt.int base front suffix digits (IsSuffix.one c h)) =
    let far = suffix_span base front c rest digits h in
    let joined = ap span (append_assoc front (c ∷ []) rest) in
    let size : length (front ++ (c ∷ [])) ≡ length front + 1 = length-append front (c ∷ []) in
    omega (arith, far, joined, size)

goes_span : (base : Base) (front : List ℕ) (y : ℕ) (s : List ℕ) (more : ℕ) → AreDigits base front → GoesOn y → is_digit_byte base y ≡ false
    → more ≤ float_part_length base (y ∷ s) → length front + more ≤ span (front ++ (y ∷ s))
goes_span base front y s more digits on nay fits =
    let is = read_span base front (y ∷ s) (digits_read base front y s digits on) (digits_stop base y s nay) in
    let far = span_far (float_part_length base (y ∷ s)) (length front) (suffix_length (y ∷ s)) in
    omega (arith, is, far, fits)

power_span : (base : Base) (front power rest : List ℕ) → AreDigits base front → IsExponent base power → has_floats base ≡ true
    → length front + length power ≤ span (front ++ (power ++ rest))
power_span base front power rest digits is has =
    let parts = exponent_letter base power is in
    let same : power ++ rest ≡ parts.0 ∷ (parts.1 ++ rest) = ap (λ v. v ++ rest) parts.2 in
    let far : length power ≤ exponent_length base (parts.0 ∷ (parts.1 ++ rest)) =
    subst (λ v. length power ≤ exponent_length base v) same (exponent_far base power rest is) in
    let all = power_far base parts.0 (parts.1 ++ rest) has parts.3 in
    let fits : length power ≤ float_part_length base (parts.0 ∷ (parts.1 ++ rest)) = omega (arith, far, all) in
    subst (λ v. length front + length power ≤ span (front ++ v)) (sym same)
    (goes_span base front parts.0 (parts.1 ++ rest) (length power) digits (letter_on base parts.0 parts.3)
    (letter_is_no_digit base parts.0 parts.3) fits)

pub float_span : (f rest : List ℕ) → IsFloat f → length f ≤ span (f ++ rest)
float_span f rest (IsFloat.with_fraction base front more digits (IsFraction.fraction ds all) has) =
    let far = goes_span base front (byte ".") (ds ++ rest) (suc (length ds)) digits (goes_on (λ c. c == byte ".") (byte ".") refl refl refl refl)
    (point_is_no_digit base) (fraction_far base ds rest has all) in
    let joined = ap span (append_assoc front (byte "." ∷ ds) rest) in
    let size : length (front ++ (byte "." ∷ ds)) ≡ length front + suc (length ds) = length-append front (byte "." ∷ ds) in
    omega (arith, far, joined, size)
float_span f rest (IsFloat.with_exponent base front power digits is has) =
    let far = power_span base front power rest digits is has in
    let joined = ap span (append_assoc front power rest) in
    let size : length (front ++ power) ≡ length front + length power = length-append front power in
    omega (arith, far, joined, size)
float_span f rest (IsFloat.with_both base front more power digits (IsFraction.fraction ds all) is has) =
    let far = goes_span base front (byte ".") (ds ++ (power ++ rest)) (suc (length ds) + length power) digits
    (goes_on (λ c. c == byte ".") (byte ".") refl refl refl refl) (point_is_no_digit base) (both_far base ds power rest has all is) in
    let inner : ((byte "." ∷ ds) ++ power) ++ rest ≡ byte "." ∷ (ds ++ (power ++ rest)) = append_assoc (byte "." ∷ ds) power rest in
    let joined = ap span (append_assoc front ((byte "." ∷ ds) ++ power) rest ∙ ap (λ v. front ++ v) inner) in
    let size : length (front ++ ((byte "." ∷ ds) ++ power)) ≡ length front + length ((byte "." ∷ ds) ++ power) =
    length-append front ((byte "." ∷ ds) ++ power) in
    let inner_size : length (ds ++ power) ≡ length ds + length power = length-append ds power in
    omega (arith, far, joined, size, inner_size)

-- ---- a number that is Bad

follows_bad : (t : Bool) (kind : Class) (n : ℕ) → cond t piece.Bad (piece.Lexeme kind n) ≡ piece.Bad → t ≡ true
follows_bad true kind n e = refl
follows_bad false kind n e = cc

number_follows : (t : Bool) (i j : ℕ) (b : List ℕ)
    → cond t (unless_identifier_follows class.Float i b) (unless_identifier_follows class.Int j b) ≡ piece.Bad
    → IsBadAt (cond t class.Float class.Int) (cond t i j) b
number_follows true i j b e = follows_bad (is_identifier_byte (get_or b i 0)) class.Float i e
number_follows false i j b e = follows_bad (is_identifier_byte (get_or b j 0)) class.Int j e

-- the number is one of the table, and an identifier character follows it
pub number_bad : (x : ℕ) (s : List ℕ) → is_ascii_digit x ≡ true → number_at (x ∷ s) ≡ piece.Bad
    → (kind : Class) × Begins kind (span (x ∷ s)) (x ∷ s) × IsBadAt kind (span (x ∷ s)) (x ∷ s)
number_bad x s h e =
    let b = x ∷ s in
    let base = base_of b in
    let n = digits_of base b in
    let more = float_part_length base (drop n b) in
    let bad = number_follows (nat_lt 0 more) (n + more) (n + suffix_length (drop n b)) b (sym (number_parts b base n more refl refl refl) ∙ e) in (
      cond (nat_lt 0 more) class.Float class.Int,
      number_begins (nat_lt 0 more) base b n (cond (nat_lt 0 more) class.Float class.Int) (span b) refl
          (digits_sound base x s h (base_head b)) refl refl,
      bad,
    )
