-- Where an Int or a Float of the table begins, what is taken is no shorter.
use Rattle.std.proofs.Common.{◌≡◌, ℕ, ◌+◌, ◌≤◌, inl, inr, List, [], ◌∷◌, ◌++◌, Bool, true, false, not, cond, ◌==◌, ◌&&◌, ◌||◌, length, drop}
use Rattle.std.proofs.Common.{get_or, nat_lt, refl, ap, sym, subst, ◌∙◌, arith, length-append, append_assoc, append-nil}
use Rattle.std.specs.List.{list_all}
use Rattle.std.specs.Prelude.{codes}
use Rattle.std.specs.Char.{is_ascii_digit}
use Rattle.std.specs.Str.{byte}
use Rattle.std.proofs.lemmas.Bool.Decides.{nat_tests}
use Prim.Native.String.{String}
use Rattle.rotor_base.specs.Name.{is_identifier_byte}
use Rattle.rotor_base.specs.declared.token.Class.{Class}
use Rattle.rotor_base.specs.declared.token.Class.TheVariants as class
use Rattle.ml_lexer.specs.declared.number.Base.{Base}
use Rattle.ml_lexer.specs.declared.number.Base.TheVariants.{Binary, Octal, Decimal, Hexadecimal}
use Rattle.ml_lexer.specs.declared.piece.Piece.TheVariants as piece
use Rattle.ml_lexer.specs.Bytes.{among, is_word_start}
use Rattle.ml_lexer.specs.Numbers.{is_digit_of, digits_length, has_head, base_of, head_length, fraction_length, begins_exponent, exponent_length}
use Rattle.ml_lexer.specs.Numbers.{has_floats, float_part_length, suffix_length, unless_identifier_follows, number_at}
use Rattle.ml_lexer.specs.Pieces.{lexeme_at, piece_at}
use Rattle.ml_lexer.proofs.Local.{which, and_left}
use Rattle.ml_lexer.proofs.Signs.{among_none}
use Rattle.ml_lexer.proofs.Digits.{number_parts}
use Rattle.ml_lexer.proofs.Apart.{lexeme_tests}
use Rattle.ml_lexer.proofs.Fronts.{lexeme_of_piece}
use Rattle.lexeme_laws.specs.Table.{are_digits, is_base_letter, AreDigits, IsSuffix, IsInt}
use Rattle.lexeme_laws.proofs.Tests.{among_fails, run_over}
use Rattle.lexeme_laws.proofs.WordReach.{Reaches, reaches_one}

digit_starts_no_word : (c : ℕ) → is_ascii_digit c ≡ true → is_word_start c ≡ false
digit_starts_no_word c h = elim (which (is_word_start c)) [
  | inl y ↦ absurd (grind (arith, nat_tests, y, h))
  | inr n ↦ n
]

pub number_lexeme : (c : ℕ) (s : List ℕ) → is_ascii_digit c ≡ true → lexeme_at (c ∷ s) ≡ number_at (c ∷ s)
number_lexeme c s h = lexeme_tests (c ∷ s) _ _ refl refl ∙ rw (digit_starts_no_word c h, h) refl

-- ---- the base

pub base_tests : (b : List ℕ) (x o t : Bool) → has_head "xX" Hexadecimal b ≡ x → has_head "oO" Octal b ≡ o → has_head "bB" Binary b ≡ t
    → base_of b ≡ cond x Hexadecimal (cond o Octal (cond t Binary Decimal))
unfolding base_of
base_tests b x o t e f g = rw (e, f, g) refl

and_middle : (a b c : Bool) → b ≡ false → (a && b && c) ≡ false
and_middle true b c e = rw e refl
and_middle false b c e = refl

head_fails : (letters : String) (base : Base) (first y : ℕ) (s : List ℕ) → among letters y ≡ false → has_head letters base (first ∷ y ∷ s) ≡ false
head_fails letters base first y s h = and_middle (first == byte "0") (among letters y) (is_digit_of base (get_or s 0 0)) h

-- a byte that passes a test that no letter of a base passes
pub decimal_base : (p : ℕ → Bool) (first y : ℕ) (s : List ℕ) → list_all (λ x. not (p x)) (codes "xX") ≡ true
    → list_all (λ x. not (p x)) (codes "oO") ≡ true → list_all (λ x. not (p x)) (codes "bB") ≡ true → p y ≡ true → base_of (first ∷ y ∷ s) ≡ Decimal
decimal_base p first y s fx fo fb h =
    base_tests (first ∷ y ∷ s) false false false (head_fails "xX" Hexadecimal first y s (among_none p (codes "xX") y fx h))
    (head_fails "oO" Octal first y s (among_none p (codes "oO") y fo h)) (head_fails "bB" Binary first y s (among_none p (codes "bB") y fb h))

pub letter_base : (base : Base) (letter first : ℕ) (s : List ℕ) → is_base_letter base letter ≡ true → is_digit_of base first ≡ true
    → base_of (byte "0" ∷ letter ∷ first ∷ s) ≡ base
letter_base Hexadecimal letter first s h d = base_tests (byte "0" ∷ letter ∷ first ∷ s) true _ _ (rw (h, d) refl) refl refl
letter_base Octal letter first s h d =
    base_tests (byte "0" ∷ letter ∷ first ∷ s) false true _
    (head_fails "xX" Hexadecimal (byte "0") letter (first ∷ s) (among_fails (among "xX") (codes "oO") letter refl h)) (rw (h, d) refl) refl
letter_base Binary letter first s h d =
    base_tests (byte "0" ∷ letter ∷ first ∷ s) false false true
    (head_fails "xX" Hexadecimal (byte "0") letter (first ∷ s) (among_fails (among "xX") (codes "bB") letter refl h))
    (head_fails "oO" Octal (byte "0") letter (first ∷ s) (among_fails (among "oO") (codes "bB") letter refl h)) (rw (h, d) refl)
letter_base Decimal letter first s h d = cc

-- ---- digits

abbrev pub is_digit_byte : Base → ℕ → Bool
is_digit_byte base c = is_digit_of base c || c == byte "_"

pub digits_over : (base : Base) (f rest : List ℕ) → are_digits base f ≡ true → digits_length base (f ++ rest) ≡ length f + digits_length base rest
unfolding digits_length
digits_over base f rest h = run_over (is_digit_byte base) f rest h

pub digits_stop : (base : Base) (c : ℕ) (rest : List ℕ) → is_digit_byte base c ≡ false → digits_length base (c ∷ rest) ≡ 0
unfolding digits_length
digits_stop base c rest h = rw h refl

-- how the digits of a number and what follows them are read
pub record Read (base : Base) (front rest : List ℕ) : Type 0 where
  pub based : base_of (front ++ rest) ≡ base
  pub length_is : head_length base + digits_length base (drop (head_length base) (front ++ rest)) ≡ length front + digits_length base rest

pub drop_front : (front rest : List ℕ) → drop (length front) (front ++ rest) ≡ rest
drop_front [] rest = refl
drop_front (x ∷ front) rest = drop_front front rest

head_of_letter : (base : Base) (letter : ℕ) → is_base_letter base letter ≡ true → head_length base ≡ 3
head_of_letter Hexadecimal letter h = refl
head_of_letter Octal letter h = refl
head_of_letter Binary letter h = refl
head_of_letter Decimal letter h = cc

pub letter_read : (base : Base) (letter first : ℕ) (f rest : List ℕ) → is_base_letter base letter ≡ true → is_digit_of base first ≡ true
    → are_digits base f ≡ true → Read base (byte "0" ∷ letter ∷ first ∷ f) rest
letter_read base letter first f rest h d all =
    let run = digits_over base f rest all in
    let head = head_of_letter base letter h in
    record {
      based = letter_base base letter first (f ++ rest) h d;
      length_is =
          ap (λ n. n + digits_length base (drop n (byte "0" ∷ letter ∷ first ∷ (f ++ rest)))) head ∙ omega (arith, run);
    }

-- a byte by which a decimal number goes on
pub record GoesOn (y : ℕ) : Type 0 where
  pub no_x : among "xX" y ≡ false
  pub no_o : among "oO" y ≡ false
  pub no_b : among "bB" y ≡ false

pub goes_on : (p : ℕ → Bool) (y : ℕ) → list_all (λ x. not (p x)) (codes "xX") ≡ true → list_all (λ x. not (p x)) (codes "oO") ≡ true
    → list_all (λ x. not (p x)) (codes "bB") ≡ true → p y ≡ true → GoesOn y
goes_on p y fx fo fb h =
    record { no_x = among_none p (codes "xX") y fx h; no_o = among_none p (codes "oO") y fo h; no_b = among_none p (codes "bB") y fb h }

decimal_on : (first y : ℕ) (s : List ℕ) → GoesOn y → base_of (first ∷ y ∷ s) ≡ Decimal
decimal_on first y s on =
    base_tests (first ∷ y ∷ s) false false false (head_fails "xX" Hexadecimal first y s on.no_x) (head_fails "oO" Octal first y s on.no_o)
    (head_fails "bB" Binary first y s on.no_b)

pub decimal_read_at : (first y : ℕ) (f rest s : List ℕ) → f ++ rest ≡ y ∷ s → GoesOn y → are_digits Decimal f ≡ true → Read Decimal (first ∷ f) rest
decimal_read_at first y f rest s e on all =
    let run = digits_over Decimal f rest all in
    record {
      based = ap (λ v. base_of (first ∷ v)) e ∙ decimal_on first y s on;
      length_is = omega (arith, run);
    }

decimal_read : (first : ℕ) (f : List ℕ) (y : ℕ) (s : List ℕ) → GoesOn y → are_digits Decimal f ≡ true → Read Decimal (first ∷ f) (y ∷ s)
decimal_read first [] y s on all = decimal_read_at first y [] (y ∷ s) s refl on all
decimal_read first (c ∷ f) y s on all =
    decimal_read_at first c (c ∷ f) (y ∷ s) (f ++ (y ∷ s)) refl
    (goes_on (is_digit_byte Decimal) c refl refl refl (and_left (is_digit_byte Decimal c) (are_digits Decimal f) all)) all

-- the digits of a number, before a byte by which it goes on
pub digits_read : (base : Base) (front : List ℕ) (y : ℕ) (s : List ℕ) → AreDigits base front → GoesOn y → Read base front (y ∷ s)
digits_read base front y s (AreDigits.decimal first f d all) on = decimal_read first f y s on all
digits_read base front y s (AreDigits.based own letter first f h d all) on = letter_read own letter first f (y ∷ s) h d all

-- ---- what is taken

follows_size : (t : Bool) (kind k : Class) (n m : ℕ) → cond t piece.Bad (piece.Lexeme kind n) ≡ piece.Lexeme k m → n ≡ m
follows_size true kind k n m e = cc
follows_size false kind k n m e = cc

number_size : (t : Bool) (k : Class) (i j m : ℕ) (b : List ℕ)
    → cond t (unless_identifier_follows class.Float i b) (unless_identifier_follows class.Int j b) ≡ piece.Lexeme k m → cond t i j ≡ m
number_size true k i j m b e = follows_size (is_identifier_byte (get_or b i 0)) class.Float k i m e
number_size false k i j m b e = follows_size (is_identifier_byte (get_or b j 0)) class.Int k j m e

pub cond_more : (more n suffix m : ℕ) → cond (nat_lt 0 more) (n + more) (n + suffix) ≡ m → n + more ≤ m
cond_more more n suffix m e = grind (arith, nat_tests, e)

cond_none : (more n suffix m : ℕ) → more ≡ 0 → cond (nat_lt 0 more) (n + more) (n + suffix) ≡ m → n + suffix ≤ m
cond_none more n suffix m none e = grind (arith, nat_tests, none, e)

-- the digits and what follows them reach so far
pub read_size : (base : Base) (front rest : List ℕ) → Read base front rest → digits_length base rest ≡ 0 → (k : Class) (m : ℕ)
    → number_at (front ++ rest) ≡ piece.Lexeme k m
    → cond (nat_lt 0 (float_part_length base rest)) (length front + float_part_length base rest) (length front + suffix_length rest) ≡ m
read_size base front rest read stop k m e =
    let b = front ++ rest in
    let n : head_length base + digits_length base (drop (head_length base) b) ≡ length front = let l = read.length_is in omega (arith, l, stop) in
    let tail = drop_front front rest in
    let more = ap (float_part_length base) tail in
    let parts = number_parts b base (length front) (float_part_length base rest) read.based n more in
    let size = number_size (nat_lt 0 (float_part_length base rest)) k (length front + float_part_length base rest)
    (length front + suffix_length (drop (length front) b)) m b (sym parts ∙ e) in
    ap (λ l. cond (nat_lt 0 (float_part_length base rest)) (length front + float_part_length base rest) (length front + suffix_length l)) (sym tail)
    ∙ size

-- digits alone reach as far as they go
read_digits : (base : Base) (front rest : List ℕ) → Read base front rest → (k : Class) (m : ℕ) → number_at (front ++ rest) ≡ piece.Lexeme k m
    → length front ≤ m
read_digits base front rest read k m e =
    let b = front ++ rest in
    let n = head_length base + digits_length base (drop (head_length base) b) in
    let more = float_part_length base (drop n b) in
    let parts = number_parts b base n more read.based refl refl in
    let size = number_size (nat_lt 0 more) k (n + more) (n + suffix_length (drop n b)) m b (sym parts ∙ e) in
    let far = cond_more more n (suffix_length (drop n b)) m size in
    let l = read.length_is in
    omega (arith, far, l)

pub first_digit : (base : Base) (front rest : List ℕ) → AreDigits base front → (k : Class) (m : ℕ) → lexeme_at (front ++ rest) ≡ piece.Lexeme k m
    → number_at (front ++ rest) ≡ piece.Lexeme k m
first_digit base front rest (AreDigits.decimal first f d all) k m e = sym (number_lexeme first (f ++ rest) d) ∙ e
first_digit base front rest (AreDigits.based own letter first f h d all) k m e = sym (number_lexeme (byte "0") (letter ∷ first ∷ (f ++ rest)) refl)
    ∙ e

digits_reach : (base : Base) (front rest : List ℕ) → AreDigits base front → Reaches (length front) (front ++ rest)
digits_reach base front rest (AreDigits.decimal first [] d all) k m e = reaches_one (first ∷ rest) k m e
digits_reach base front rest (AreDigits.decimal first (c ∷ f) d all) k m e =
    let on = goes_on (is_digit_byte Decimal) c refl refl refl (and_left (is_digit_byte Decimal c) (are_digits Decimal f) all) in
    let read = decimal_read_at first c (c ∷ f) rest (f ++ rest) refl on all in
    read_digits Decimal (first ∷ c ∷ f) rest read k m
    (first_digit Decimal (first ∷ c ∷ f) rest (AreDigits.decimal first (c ∷ f) d all) k m (lexeme_of_piece ((first ∷ c ∷ f) ++ rest) k m e))
digits_reach base front rest (AreDigits.based own letter first f h d all) k m e =
    read_digits own (byte "0" ∷ letter ∷ first ∷ f) rest (letter_read own letter first f rest h d all) k m
    (first_digit own (byte "0" ∷ letter ∷ first ∷ f) rest (AreDigits.based own letter first f h d all) k m
    (lexeme_of_piece ((byte "0" ∷ letter ∷ first ∷ f) ++ rest) k m e))

-- ---- whole numbers

pub suffix_is_no_digit : (base : Base) (c : ℕ) → among "lLn" c ≡ true → is_digit_byte base c ≡ false
suffix_is_no_digit Binary c h = among_fails (is_digit_byte Binary) (codes "lLn") c refl h
suffix_is_no_digit Octal c h = among_fails (is_digit_byte Octal) (codes "lLn") c refl h
suffix_is_no_digit Decimal c h = among_fails (is_digit_byte Decimal) (codes "lLn") c refl h
suffix_is_no_digit Hexadecimal c h = among_fails (is_digit_byte Hexadecimal) (codes "lLn") c refl h

pub suffix_is_no_letter : (base : Base) (c : ℕ) → among "lLn" c ≡ true → begins_exponent base c ≡ false
suffix_is_no_letter Binary c h = refl
suffix_is_no_letter Octal c h = refl
suffix_is_no_letter Decimal c h = among_fails (begins_exponent Decimal) (codes "lLn") c refl h
suffix_is_no_letter Hexadecimal c h = among_fails (begins_exponent Hexadecimal) (codes "lLn") c refl h

pub no_fraction : (base : Base) (c : ℕ) (s : List ℕ) → (c == byte ".") ≡ false → fraction_length base (c ∷ s) ≡ 0
unfolding fraction_length
no_fraction base c s h = rw h refl

pub no_exponent : (base : Base) (c : ℕ) (s : List ℕ) → begins_exponent base c ≡ false → exponent_length base (c ∷ s) ≡ 0
unfolding exponent_length
no_exponent base c s h = rw h refl

pub float_part : (base : Base) (b : List ℕ) (fraction exponent : ℕ) → fraction_length base b ≡ fraction
    → exponent_length base (drop fraction b) ≡ exponent → float_part_length base b ≡ cond (has_floats base) (fraction + exponent) 0
unfolding float_part_length
float_part base b fraction exponent e f = rw (e, f) refl

pub cond_zero : (t : Bool) → cond t (0 + 0) 0 ≡ 0
cond_zero true = refl
cond_zero false = refl

suffix_reaches : (base : Base) (front : List ℕ) (c : ℕ) (rest : List ℕ) → AreDigits base front → among "lLn" c ≡ true
    → Reaches (length front + 1) (front ++ (c ∷ rest))
suffix_reaches base front c rest digits h k m e =
    let on = goes_on (among "lLn") c refl refl refl h in
    let read = digits_read base front c rest digits on in
    let stop = digits_stop base c rest (suffix_is_no_digit base c h) in
    let none = float_part base (c ∷ rest) 0 0 (no_fraction base c rest (among_fails (λ x. x == byte ".") (codes "lLn") c refl h))
    (no_exponent base c rest (suffix_is_no_letter base c h)) ∙ cond_zero (has_floats base) in
    let size = read_size base front (c ∷ rest) read stop k m
    (first_digit base front (c ∷ rest) digits k m (lexeme_of_piece (front ++ (c ∷ rest)) k m e)) in
    let far = cond_none (float_part_length base (c ∷ rest)) (length front) (suffix_length (c ∷ rest)) m none size in
    let one : suffix_length (c ∷ rest) ≡ 1 = rw h refl in
    omega (arith, far, one)

pub int_reaches : (f rest : List ℕ) → IsInt f → Reaches (length f) (f ++ rest)
int_reaches f rest (IsInt.int base front suffix digits IsSuffix.none) k m e =
    let same : front ++ [] ≡ front = append-nil front in
    subst (λ v. Reaches (length v) (v ++ rest)) (sym same) (digits_reach base front rest digits) k m e
int_reaches f rest (IsInt.int base front suffix digits (IsSuffix.one c h)) k m e =
    let joined : (front ++ (c ∷ [])) ++ rest ≡ front ++ (c ∷ rest) = append_assoc front (c ∷ []) rest in
    let far = suffix_reaches base front c rest digits h k m (ap piece_at (sym joined) ∙ e) in
    let size : length (front ++ (c ∷ [])) ≡ length front + 1 = length-append front (c ∷ []) in
    omega (arith, far, size)
