-- A number that ends with the front is the same whatever follows, if the first byte behind is alike.
use Rattle.std.proofs.Common.{◌≡◌, ℕ, ◌+◌, ◌<◌, ◌≤◌, inl, inr, List, [], ◌∷◌, ◌++◌, Bool, true, false, cond, ◌==◌, ◌&&◌, ◌||◌, length, drop, get_or}
use Rattle.std.proofs.Common.{nat_lt, refl, ap, sym, ◌∙◌, arith, length-drop}
use Rattle.std.specs.Char.{is_ascii_digit, is_ascii_hexdigit}
use Rattle.std.specs.List.{prefix_len, list_all, list_any}
use Rattle.std.specs.Prelude.{codes}
use Rattle.std.specs.Str.{byte}
use Rattle.std.proofs.lemmas.List.{drop-append-le}
use Rattle.std.proofs.lemmas.Bool.Decides.{nat_tests}
use Prim.Native.String.{String}
use Rattle.rotor_base.specs.Name.{is_identifier_byte}
use Rattle.rotor_base.specs.declared.token.Class.{Class}
use Rattle.rotor_base.specs.declared.token.Class.TheVariants as class
use Rattle.ml_lexer.specs.declared.number.Base.{Base}
use Rattle.ml_lexer.specs.declared.number.Base.TheVariants.{Binary, Octal, Decimal, Hexadecimal}
use Rattle.ml_lexer.specs.declared.piece.Piece.TheVariants as piece
use Rattle.ml_lexer.specs.Bytes.{among, is_at}
use Rattle.ml_lexer.specs.Numbers.{is_digit_of, digits_length, has_head, base_of, head_length, fraction_length, begins_exponent, sign_end}
use Rattle.ml_lexer.specs.Numbers.{exponent_length, has_floats, float_part_length, suffix_length, unless_identifier_follows, number_at}
use Rattle.ml_lexer.proofs.Local.{Alike, both_end, same_byte, both_words, which, and_left, and_right}
use Rattle.ml_lexer.proofs.Words.{word_byte_is_identifier}
use Rattle.ml_lexer.proofs.Signs.{among_none, byte_behind}

-- a byte that no test takes ends a run
run_closed : (p : ℕ → Bool) (q : List ℕ) (c : ℕ) (s s' : List ℕ) → p c ≡ false → prefix_len p (q ++ (c ∷ s')) ≡ prefix_len p (q ++ (c ∷ s))
run_closed p [] c s s' nay = rw nay refl
run_closed p (x ∷ q) c s s' nay = rw (run_closed p q c s s' nay) refl

-- a byte that is none of some identifier characters
none_among : (l : List ℕ) (c : ℕ) → list_all (λ x. is_identifier_byte x) l ≡ true → is_identifier_byte c ≡ false → list_any (λ x. x == c) l ≡ false
none_among [] c f e = refl
none_among (x ∷ l) c f e = elim (which (x == c)) [
  | inl y ↦
      let same : x ≡ c = grind (arith, nat_tests, y) in
      let wrong : true ≡ false = sym (and_left _ _ f) ∙ ap is_identifier_byte same ∙ e in
      cc
  | inr y ↦ rw y (none_among l c (and_right _ _ f) e)
]

no_decimal : (c : ℕ) → is_identifier_byte c ≡ false → is_ascii_digit c ≡ false
no_decimal c e = elim (which (is_ascii_digit c)) [
  | inl y ↦ absurd (grind (arith, nat_tests, y, e))
  | inr y ↦ y
]

no_hexadecimal : (c : ℕ) → is_identifier_byte c ≡ false → is_ascii_hexdigit c ≡ false
no_hexadecimal c e = elim (which (is_ascii_hexdigit c)) [
  | inl y ↦ absurd (grind (arith, nat_tests, y, e))
  | inr y ↦ y
]

no_digit : (base : Base) (c : ℕ) → is_identifier_byte c ≡ false → is_digit_of base c ≡ false
no_digit Binary c e = none_among (codes "01") c refl e
no_digit Octal c e = none_among (codes "01234567") c refl e
no_digit Decimal c e = no_decimal c e
no_digit Hexadecimal c e = no_hexadecimal c e

no_bar : (c : ℕ) → is_identifier_byte c ≡ false → (c == byte "_") ≡ false
no_bar c e = elim (which (c == byte "_")) [
  | inl y ↦ absurd (grind (arith, nat_tests, y, e))
  | inr y ↦ y
]

digits_closed : (base : Base) (q : List ℕ) (c : ℕ) (s s' : List ℕ) → is_identifier_byte c ≡ false
    → digits_length base (q ++ (c ∷ s')) ≡ digits_length base (q ++ (c ∷ s))
unfolding digits_length
digits_closed base q c s s' nay = run_closed (λ x. is_digit_of base x || x == byte "_") q c s s' (rw (no_digit base c nay, no_bar c nay) refl)

and_middle : (a b c : Bool) → b ≡ false → (a && b && c) ≡ false
and_middle true b c e = rw e refl
and_middle false b c e = refl

head_closed : (letters : String) (base : Base) (q : List ℕ) (c : ℕ) (s s' : List ℕ) → 0 < length q → among letters c ≡ false
    → has_head letters base (q ++ (c ∷ s')) ≡ has_head letters base (q ++ (c ∷ s))
head_closed letters base [] c s s' some nay = absurd (omega arith)
head_closed letters base (x ∷ []) c s s' some nay = and_middle (x == byte "0") (among letters c) (is_digit_of base (get_or s' 0 0)) nay
    ∙ sym (and_middle (x == byte "0") (among letters c) (is_digit_of base (get_or s 0 0)) nay)
head_closed letters base (x ∷ y ∷ []) c s s' some nay = refl
head_closed letters base (x ∷ y ∷ z ∷ q) c s s' some nay = refl

base_of_tests : (b : List ℕ) (x o t : Bool) → has_head "xX" Hexadecimal b ≡ x → has_head "oO" Octal b ≡ o → has_head "bB" Binary b ≡ t
    → base_of b ≡ cond x Hexadecimal (cond o Octal (cond t Binary Decimal))
unfolding base_of
base_of_tests b x o t e f g = rw (e, f, g) refl

base_closed : (q : List ℕ) (c : ℕ) (s s' : List ℕ) → 0 < length q → is_identifier_byte c ≡ false → base_of (q ++ (c ∷ s')) ≡ base_of (q ++ (c ∷ s))
base_closed q c s s' some nay =
    base_of_tests (q ++ (c ∷ s')) _ _ _ (head_closed "xX" Hexadecimal q c s s' some (none_among (codes "xX") c refl nay))
    (head_closed "oO" Octal q c s s' some (none_among (codes "oO") c refl nay))
    (head_closed "bB" Binary q c s s' some (none_among (codes "bB") c refl nay))
    ∙ sym (base_of_tests (q ++ (c ∷ s)) _ _ _ refl refl refl)

fraction_at : (base : Base) (b : List ℕ) (t : Bool) (n : ℕ) → is_at "." 0 b ≡ t → digits_length base (drop 1 b) ≡ n
    → fraction_length base b ≡ cond t (1 + n) 0
unfolding fraction_length
fraction_at base b t n e f = rw (e, f) refl

fraction_closed : (base : Base) (q : List ℕ) (c : ℕ) (s s' : List ℕ) → is_identifier_byte c ≡ false → fraction_length base (q ++ (c ∷ s)) ≤ length q
    → fraction_length base (q ++ (c ∷ s')) ≡ fraction_length base (q ++ (c ∷ s))
fraction_closed base [] c s s' nay fits = elim (which (c == byte ".")) [
  | inl y ↦ let now = fraction_at base (c ∷ s) true _ y refl in absurd (omega (arith, now, fits))
  | inr y ↦ fraction_at base (c ∷ s') false _ y refl ∙ sym (fraction_at base (c ∷ s) false _ y refl)
]
fraction_closed base (x ∷ q) c s s' nay fits =
    fraction_at base ((x ∷ q) ++ (c ∷ s')) _ _ refl (digits_closed base q c s s' nay) ∙ sym (fraction_at base ((x ∷ q) ++ (c ∷ s)) _ _ refl refl)

exponent_at : (base : Base) (b : List ℕ) (t : Bool) (sign digits : ℕ) → begins_exponent base (get_or b 0 0) ≡ t → sign_end b ≡ sign
    → prefix_len is_ascii_digit (drop sign b) ≡ digits → exponent_length base b ≡ cond (t && nat_lt 0 digits) (sign + digits) 0
unfolding exponent_length
exponent_at base b t sign digits e f g = rw (e, f, g) refl

sign_is : (b : List ℕ) (t : Bool) → among "+-" (get_or b 1 0) ≡ t → sign_end b ≡ cond t 2 1
sign_is b t e = rw e refl

no_exponent : (base : Base) (b : List ℕ) → begins_exponent base (get_or b 0 0) ≡ false → exponent_length base b ≡ 0
no_exponent base b e = exponent_at base b false _ _ e refl refl

no_letter : (base : Base) (c : ℕ) → is_identifier_byte c ≡ false → begins_exponent base c ≡ false
no_letter Binary c e = refl
no_letter Octal c e = refl
no_letter Decimal c e = none_among (codes "eE") c refl e
no_letter Hexadecimal c e = none_among (codes "pP") c refl e

exponent_size : (t u v : Bool) (digits : ℕ) → (v ≡ true → 0 < digits) → cond (t && v) (cond u 2 1 + digits) 0 ≡ 1 → ⊥
exponent_size false u v digits some e = let got : 0 ≡ 1 = e in omega (arith, got)
exponent_size true u false digits some e = let got : 0 ≡ 1 = e in omega (arith, got)
exponent_size true true true digits some e = let got : 2 + digits ≡ 1 = e in omega (arith, got)
exponent_size true false true digits some e = let got : 1 + digits ≡ 1 = e in let more = some refl in omega (arith, got, more)

below : (n : ℕ) → nat_lt 0 n ≡ true → 0 < n
below n e = grind (arith, nat_tests, e)

exponent_not_one : (base : Base) (b : List ℕ) → exponent_length base b ≡ 1 → ⊥
exponent_not_one base b e =
    let digits = prefix_len is_ascii_digit (drop (sign_end b) b) in
    exponent_size (begins_exponent base (get_or b 0 0)) (among "+-" (get_or b 1 0)) (nat_lt 0 digits) digits (below digits)
    (sym (exponent_at base b (begins_exponent base (get_or b 0 0)) (sign_end b) digits refl refl refl) ∙ e)

tail_run : (t : Bool) (x y : ℕ) (q : List ℕ) (c : ℕ) (s s' : List ℕ) → is_identifier_byte c ≡ false
    → prefix_len is_ascii_digit (drop (cond t 2 1) (x ∷ y ∷ (q ++ (c ∷ s')))) ≡ prefix_len is_ascii_digit (drop (cond t 2 1) (x ∷ y ∷ (q ++ (c ∷ s))))
tail_run true x y q c s s' nay = run_closed is_ascii_digit q c s s' (no_decimal c nay)
tail_run false x y q c s s' nay = run_closed is_ascii_digit (y ∷ q) c s s' (no_decimal c nay)

exponent_closed : (base : Base) (q : List ℕ) (c : ℕ) (s s' : List ℕ) → is_identifier_byte c ≡ false → exponent_length base (q ++ (c ∷ s)) ≡ length q
    → exponent_length base (q ++ (c ∷ s')) ≡ exponent_length base (q ++ (c ∷ s))
exponent_closed base [] c s s' nay e = no_exponent base (c ∷ s') (no_letter base c nay) ∙ sym (no_exponent base (c ∷ s) (no_letter base c nay))
exponent_closed base (x ∷ []) c s s' nay e = absurd (exponent_not_one base (x ∷ c ∷ s) e)
exponent_closed base (x ∷ y ∷ q) c s s' nay e =
    exponent_at base ((x ∷ y ∷ q) ++ (c ∷ s')) (begins_exponent base x) (sign_end (x ∷ y ∷ q)) _ refl refl (tail_run (among "+-" y) x y q c s s' nay)
    ∙ sym (exponent_at base ((x ∷ y ∷ q) ++ (c ∷ s)) (begins_exponent base x) (sign_end (x ∷ y ∷ q)) _ refl refl refl)

float_at : (base : Base) (b : List ℕ) (fraction exponent : ℕ) → fraction_length base b ≡ fraction → exponent_length base (drop fraction b) ≡ exponent
    → float_part_length base b ≡ cond (has_floats base) (fraction + exponent) 0
unfolding float_part_length
float_at base b fraction exponent e f = rw (e, f) refl

pick : (t : Bool) (a : ℕ) (n : ℕ) → cond t a 0 ≡ n → 0 < n → (t ≡ true) × (a ≡ n)
pick true a n e some = (refl, e)
pick false a n e some = absurd (omega (arith, e, some))

float_closed : (base : Base) (q : List ℕ) (c : ℕ) (s s' : List ℕ) → is_identifier_byte c ≡ false → 0 < length q
    → float_part_length base (q ++ (c ∷ s)) ≡ length q → float_part_length base (q ++ (c ∷ s')) ≡ length q
float_closed base q c s s' nay some e =
    let fraction = fraction_length base (q ++ (c ∷ s)) in
    let exponent = exponent_length base (drop fraction (q ++ (c ∷ s))) in
    let now = float_at base (q ++ (c ∷ s)) fraction exponent refl refl in
    let sum = (pick (has_floats base) (fraction + exponent) (length q) (sym now ∙ e) some).1 in
    let fits : fraction ≤ length q = omega (arith, sum) in
    let cut = drop-append-le fraction q (c ∷ s) fits in
    let cut' = drop-append-le fraction q (c ∷ s') fits in
    let rest : exponent_length base (drop fraction q ++ (c ∷ s)) ≡ length (drop fraction q) =
    ap (exponent_length base) (sym cut) ∙ (rw length-drop (omega (arith, sum))) in
    let exponent' = ap (exponent_length base) cut' ∙ exponent_closed base (drop fraction q) c s s' nay rest ∙ ap (exponent_length base) (sym cut) in
    float_at base (q ++ (c ∷ s')) fraction exponent (fraction_closed base q c s s' nay fits) exponent' ∙ sym now ∙ e

suffix_no_letter : (base : Base) (x : ℕ) → among "lLn" x ≡ true → begins_exponent base x ≡ false
suffix_no_letter Binary x e = refl
suffix_no_letter Octal x e = refl
suffix_no_letter Decimal x e = among_none (among "lLn") (codes "eE") x refl e
suffix_no_letter Hexadecimal x e = among_none (among "lLn") (codes "pP") x refl e

suffix_no_point : (x : ℕ) → among "lLn" x ≡ true → (x == byte ".") ≡ false
suffix_no_point x e = elim (which (x == byte ".")) [
  | inl y ↦
      let same : x ≡ byte "." = grind (arith, nat_tests, y) in
      let wrong : true ≡ false = sym e ∙ ap (among "lLn") same in
      cc
  | inr y ↦ y
]

no_sum : (t : Bool) → cond t (0 + 0) 0 ≡ 0
no_sum true = refl
no_sum false = refl

no_float : (base : Base) (b : List ℕ) → is_at "." 0 b ≡ false → begins_exponent base (get_or b 0 0) ≡ false → float_part_length base b ≡ 0
no_float base b e f = float_at base b 0 0 (fraction_at base b false _ e refl) (no_exponent base b f) ∙ no_sum (has_floats base)

suffix_is : (b : List ℕ) (t : Bool) → among "lLn" (get_or b 0 0) ≡ t → suffix_length b ≡ cond t 1 0
suffix_is b t e = rw e refl

-- a number with no fraction and no exponent, which ends here with its suffix
plain_closed : (base : Base) (q : List ℕ) (c : ℕ) (s s' : List ℕ) → is_identifier_byte c ≡ false → float_part_length base (q ++ (c ∷ s)) ≡ 0
    → suffix_length (q ++ (c ∷ s)) ≡ length q → float_part_length base (q ++ (c ∷ s')) ≡ 0
plain_closed base [] c s s' nay zero_part e = elim (which (c == byte ".")) [
  | inl y ↦
      elim (which (has_floats base)) [
        | inl f ↦
            let point = fraction_at base (c ∷ s) true (digits_length base s) y refl in
            let fraction = fraction_length base (c ∷ s) in
            let exponent = exponent_length base (drop fraction (c ∷ s)) in
            let now = float_at base (c ∷ s) fraction exponent refl refl in
            let sum : fraction + exponent ≡ 0 = ap (λ t. cond t (fraction + exponent) 0) (sym f) ∙ sym now ∙ zero_part in
            absurd (omega (arith, sum, point))
        | inr f ↦
            let fraction = fraction_length base (c ∷ s') in
            let exponent = exponent_length base (drop fraction (c ∷ s')) in
            float_at base (c ∷ s') fraction exponent refl refl ∙ ap (λ t. cond t (fraction + exponent) 0) f
      ]
  | inr y ↦ no_float base (c ∷ s') y (no_letter base c nay)
]
plain_closed base (x ∷ []) c s s' nay zero_part e = elim (which (among "lLn" x)) [
  | inl y ↦ no_float base (x ∷ c ∷ s') (suffix_no_point x y) (suffix_no_letter base x y)
  | inr y ↦ let none = suffix_is (x ∷ c ∷ s) false y in absurd (omega (arith, none, e))
]
plain_closed base (x ∷ y ∷ q) c s s' nay zero_part e = elim (which (among "lLn" x)) [
  | inl t ↦ let one = suffix_is (x ∷ y ∷ (q ++ (c ∷ s))) true t in absurd (omega (arith, one, e))
  | inr t ↦ let none = suffix_is (x ∷ y ∷ (q ++ (c ∷ s))) false t in absurd (omega (arith, none, e))
]

suffix_closed : (q : List ℕ) (c : ℕ) (s s' : List ℕ) → suffix_length (q ++ (c ∷ s')) ≡ suffix_length (q ++ (c ∷ s))
suffix_closed [] c s s' = refl
suffix_closed (x ∷ q) c s s' = refl

pub number_parts : (b : List ℕ) (base : Base) (n more : ℕ) → base_of b ≡ base → head_length base + digits_length base (drop (head_length base) b) ≡ n
    → float_part_length base (drop n b) ≡ more → number_at b ≡ cond (nat_lt 0 more) (unless_identifier_follows class.Float (n + more) b)
    (unless_identifier_follows class.Int (n + suffix_length (drop n b)) b)
unfolding number_at
number_parts b base n more e f g = rw (e, f, g) refl

head_positive : (base : Base) → 0 < head_length base
head_positive Binary = omega arith
head_positive Octal = omega arith
head_positive Decimal = omega arith
head_positive Hexadecimal = omega arith

follows_at : (t : Bool) (kind k : Class) (n m : ℕ) → cond t piece.Bad (piece.Lexeme kind n) ≡ piece.Lexeme k m → (t ≡ false) × (n ≡ m) × (kind ≡ k)
follows_at true kind k n m e = cc
follows_at false kind k n m e = (refl, cc, cc)

number_ends : (t : Bool) (k : Class) (i j m : ℕ) (b : List ℕ)
    → cond t (unless_identifier_follows class.Float i b) (unless_identifier_follows class.Int j b) ≡ piece.Lexeme k m
    → (cond t i j ≡ m) × (is_identifier_byte (get_or b m 0) ≡ false) × (cond t class.Float class.Int ≡ k)
number_ends true k i j m b e = let got = follows_at _ _ _ _ _ e in (got.1, ap (λ l. is_identifier_byte (get_or b l 0)) (sym got.1) ∙ got.0, got.2)
number_ends false k i j m b e = let got = follows_at _ _ _ _ _ e in (got.1, ap (λ l. is_identifier_byte (get_or b l 0)) (sym got.1) ∙ got.0, got.2)

again : (kind k : Class) (n m : ℕ) (b : List ℕ) → n ≡ m → is_identifier_byte (get_or b m 0) ≡ false → kind ≡ k
    → unless_identifier_follows kind n b ≡ piece.Lexeme k m
again kind k n m b e f g =
    ap (λ v. cond (is_identifier_byte (get_or b v 0)) piece.Bad (piece.Lexeme kind v)) e
    ∙ ap (λ t. cond t piece.Bad (piece.Lexeme kind m)) f
    ∙ ap (λ v. piece.Lexeme v m) g

number_again : (t : Bool) (k : Class) (i j m : ℕ) (b : List ℕ) → cond t i j ≡ m → is_identifier_byte (get_or b m 0) ≡ false
    → cond t class.Float class.Int ≡ k → cond t (unless_identifier_follows class.Float i b) (unless_identifier_follows class.Int j b)
    ≡ piece.Lexeme k m
number_again true k i j m b e f g = again class.Float k i m b e f g
number_again false k i j m b e f g = again class.Int k j m b e f g

reach : (t : Bool) (n more suffix m : ℕ) → cond t (n + more) (n + suffix) ≡ m → n ≤ m
reach true n more suffix m e = omega (arith, e)
reach false n more suffix m e = omega (arith, e)

number_closed : (k : Class) (q : List ℕ) (c : ℕ) (s s' : List ℕ) → is_identifier_byte c ≡ false → number_at (q ++ (c ∷ s)) ≡ piece.Lexeme k (length q)
    → number_at (q ++ (c ∷ s')) ≡ piece.Lexeme k (length q)
number_closed k q c s s' nay e =
    let b = q ++ (c ∷ s) in
    let b' = q ++ (c ∷ s') in
    let base = base_of b in
    let head = head_length base in
    let positive = head_positive base in
    let n = head + digits_length base (drop head b) in
    let more = float_part_length base (drop n b) in
    let ends = number_ends (nat_lt 0 more) k (n + more) (n + suffix_length (drop n b)) (length q) b
    (sym (number_parts b base n more refl refl refl) ∙ e) in
    let fits : n ≤ length q = reach (nat_lt 0 more) n more (suffix_length (drop n b)) (length q) ends.0 in
    let base' = base_closed q c s s' (omega (arith, fits, positive)) nay in
    let head_fits : head ≤ length q = omega (arith, fits) in
    let digits' : digits_length base (drop head b') ≡ digits_length base (drop head b) =
    ap (digits_length base) (drop-append-le head q (c ∷ s') head_fits) ∙ digits_closed base (drop head q) c s s' nay
    ∙ ap (digits_length base) (sym (drop-append-le head q (c ∷ s) head_fits)) in
    let n' = ap (λ d. head + d) digits' in
    let cut = drop-append-le n q (c ∷ s) fits in
    let cut' = drop-append-le n q (c ∷ s') fits in
    let follows' : is_identifier_byte (get_or b' (length q) 0) ≡ false = ap is_identifier_byte (byte_behind q (c ∷ s')) ∙ nay in
    let suffix' : suffix_length (drop n b') ≡ suffix_length (drop n b) = ap suffix_length cut' ∙ suffix_closed (drop n q) c s s'
    ∙ ap suffix_length (sym cut) in
    let more' : float_part_length base (drop n b') ≡ more = elim (which (nat_lt 0 more)) [
      | inl t ↦
          let sum : n + more ≡ length q = ap (λ v. cond v (n + more) (n + suffix_length (drop n b))) (sym t) ∙ ends.0 in
          let some : 0 < more = grind (arith, nat_tests, t) in
          let all : float_part_length base (drop n q ++ (c ∷ s)) ≡ length (drop n q) = ap (float_part_length base) (sym cut)
          ∙ (rw length-drop (omega (arith, sum))) in
          ap (float_part_length base) cut' ∙ float_closed base (drop n q) c s s' nay (rw length-drop (omega (arith, sum, some))) all ∙ sym all
          ∙ ap (float_part_length base) (sym cut)
      | inr t ↦
          let sum : n + suffix_length (drop n b) ≡ length q = ap (λ v. cond v (n + more) (n + suffix_length (drop n b))) (sym t) ∙ ends.0 in
          let zero_more : more ≡ 0 = grind (arith, nat_tests, t) in
          let all : suffix_length (drop n q ++ (c ∷ s)) ≡ length (drop n q) = ap suffix_length (sym cut) ∙ (rw length-drop (omega (arith, sum))) in
          ap (float_part_length base) cut' ∙ plain_closed base (drop n q) c s s' nay (ap (float_part_length base) (sym cut) ∙ zero_more) all
          ∙ sym zero_more
    ] in
    number_parts b' base n more base' n' more'
    ∙ number_again (nat_lt 0 more) k (n + more) (n + suffix_length (drop n b')) (length q) b'
    (ap (λ v. cond (nat_lt 0 more) (n + more) (n + v)) suffix' ∙ ends.0) follows' ends.2

number_followed : (k : Class) (q r : List ℕ) → number_at (q ++ r) ≡ piece.Lexeme k (length q) → is_identifier_byte (get_or r 0 0) ≡ false
number_followed k q r e =
    let ends = number_ends _ k _ _ (length q) (q ++ r) (sym (number_parts (q ++ r) _ _ _ refl refl refl) ∙ e) in
    ap is_identifier_byte (sym (byte_behind q r)) ∙ ends.1

pub number_same : (k : Class) (front rest rest' : List ℕ) → Alike rest rest' → number_at (front ++ rest) ≡ piece.Lexeme k (length front)
    → number_at (front ++ rest') ≡ piece.Lexeme k (length front)
number_same k q rest rest' both_end e = e
number_same k q rest rest' (same_byte {c = c} {r = r} {r' = r'}) e = number_closed k q c r r' (number_followed k q (c ∷ r) e) e
number_same k q rest rest' (both_words {c = c} {r = r} h h') e = let wrong : true ≡ false = sym (word_byte_is_identifier c h)
    ∙ number_followed k q (c ∷ r) e in cc

-- a number that ends with the front is one also if nothing follows
run_alone : (p : ℕ → Bool) (q : List ℕ) (c : ℕ) (s : List ℕ) → p c ≡ false → prefix_len p (q ++ []) ≡ prefix_len p (q ++ (c ∷ s))
run_alone p [] c s nay = rw nay refl
run_alone p (x ∷ q) c s nay = rw (run_alone p q c s nay) refl

digits_alone : (base : Base) (q : List ℕ) (c : ℕ) (s : List ℕ) → is_identifier_byte c ≡ false
    → digits_length base (q ++ []) ≡ digits_length base (q ++ (c ∷ s))
unfolding digits_length
digits_alone base q c s nay = run_alone (λ x. is_digit_of base x || x == byte "_") q c s (rw (no_digit base c nay, no_bar c nay) refl)

head_alone : (letters : String) (base : Base) (q : List ℕ) (c : ℕ) (s : List ℕ) → 0 < length q → is_identifier_byte c ≡ false
    → among letters 0 ≡ false → among letters c ≡ false → has_head letters base (q ++ []) ≡ has_head letters base (q ++ (c ∷ s))
head_alone letters base [] c s some nay zero_nay nay' = absurd (omega arith)
head_alone letters base (x ∷ []) c s some nay zero_nay nay' = and_middle (x == byte "0") (among letters 0) (is_digit_of base 0) zero_nay
    ∙ sym (and_middle (x == byte "0") (among letters c) (is_digit_of base (get_or s 0 0)) nay')
head_alone letters base (x ∷ y ∷ []) c s some nay zero_nay nay' =
    ap (λ v. x == byte "0" && among letters y && v) (no_digit base 0 refl ∙ sym (no_digit base c nay))
head_alone letters base (x ∷ y ∷ z ∷ q) c s some nay zero_nay nay' = refl

base_alone : (q : List ℕ) (c : ℕ) (s : List ℕ) → 0 < length q → is_identifier_byte c ≡ false → base_of (q ++ []) ≡ base_of (q ++ (c ∷ s))
base_alone q c s some nay =
    base_of_tests (q ++ []) _ _ _ (head_alone "xX" Hexadecimal q c s some nay refl (none_among (codes "xX") c refl nay))
    (head_alone "oO" Octal q c s some nay refl (none_among (codes "oO") c refl nay))
    (head_alone "bB" Binary q c s some nay refl (none_among (codes "bB") c refl nay))
    ∙ sym (base_of_tests (q ++ (c ∷ s)) _ _ _ refl refl refl)

fraction_alone : (base : Base) (q : List ℕ) (c : ℕ) (s : List ℕ) → is_identifier_byte c ≡ false → fraction_length base (q ++ (c ∷ s)) ≤ length q
    → fraction_length base (q ++ []) ≡ fraction_length base (q ++ (c ∷ s))
fraction_alone base [] c s nay fits = elim (which (c == byte ".")) [
  | inl y ↦ let now = fraction_at base (c ∷ s) true _ y refl in absurd (omega (arith, now, fits))
  | inr y ↦ fraction_at base [] false _ refl refl ∙ sym (fraction_at base (c ∷ s) false _ y refl)
]
fraction_alone base (x ∷ q) c s nay fits =
    fraction_at base ((x ∷ q) ++ []) _ _ refl (digits_alone base q c s nay) ∙ sym (fraction_at base ((x ∷ q) ++ (c ∷ s)) _ _ refl refl)

tail_alone : (t : Bool) (x y : ℕ) (q : List ℕ) (c : ℕ) (s : List ℕ) → is_identifier_byte c ≡ false
    → prefix_len is_ascii_digit (drop (cond t 2 1) (x ∷ y ∷ (q ++ []))) ≡ prefix_len is_ascii_digit (drop (cond t 2 1) (x ∷ y ∷ (q ++ (c ∷ s))))
tail_alone true x y q c s nay = run_alone is_ascii_digit q c s (no_decimal c nay)
tail_alone false x y q c s nay = run_alone is_ascii_digit (y ∷ q) c s (no_decimal c nay)

exponent_alone : (base : Base) (q : List ℕ) (c : ℕ) (s : List ℕ) → is_identifier_byte c ≡ false → exponent_length base (q ++ (c ∷ s)) ≡ length q
    → exponent_length base (q ++ []) ≡ exponent_length base (q ++ (c ∷ s))
exponent_alone base [] c s nay e = no_exponent base [] (no_letter base 0 refl) ∙ sym (no_exponent base (c ∷ s) (no_letter base c nay))
exponent_alone base (x ∷ []) c s nay e = absurd (exponent_not_one base (x ∷ c ∷ s) e)
exponent_alone base (x ∷ y ∷ q) c s nay e =
    exponent_at base ((x ∷ y ∷ q) ++ []) (begins_exponent base x) (sign_end (x ∷ y ∷ q)) _ refl refl (tail_alone (among "+-" y) x y q c s nay)
    ∙ sym (exponent_at base ((x ∷ y ∷ q) ++ (c ∷ s)) (begins_exponent base x) (sign_end (x ∷ y ∷ q)) _ refl refl refl)

float_alone : (base : Base) (q : List ℕ) (c : ℕ) (s : List ℕ) → is_identifier_byte c ≡ false → 0 < length q
    → float_part_length base (q ++ (c ∷ s)) ≡ length q → float_part_length base (q ++ []) ≡ length q
float_alone base q c s nay some e =
    let fraction = fraction_length base (q ++ (c ∷ s)) in
    let exponent = exponent_length base (drop fraction (q ++ (c ∷ s))) in
    let now = float_at base (q ++ (c ∷ s)) fraction exponent refl refl in
    let sum = (pick (has_floats base) (fraction + exponent) (length q) (sym now ∙ e) some).1 in
    let fits : fraction ≤ length q = omega (arith, sum) in
    let cut = drop-append-le fraction q (c ∷ s) fits in
    let cut' = drop-append-le fraction q [] fits in
    let rest : exponent_length base (drop fraction q ++ (c ∷ s)) ≡ length (drop fraction q) =
    ap (exponent_length base) (sym cut) ∙ (rw length-drop (omega (arith, sum))) in
    let exponent' = ap (exponent_length base) cut' ∙ exponent_alone base (drop fraction q) c s nay rest ∙ ap (exponent_length base) (sym cut) in
    float_at base (q ++ []) fraction exponent (fraction_alone base q c s nay fits) exponent' ∙ sym now ∙ e

plain_alone : (base : Base) (q : List ℕ) (c : ℕ) (s : List ℕ) → suffix_length (q ++ (c ∷ s)) ≡ length q → float_part_length base (q ++ []) ≡ 0
plain_alone base [] c s e = no_float base [] refl (no_letter base 0 refl)
plain_alone base (x ∷ []) c s e = elim (which (among "lLn" x)) [
  | inl y ↦ no_float base (x ∷ []) (suffix_no_point x y) (suffix_no_letter base x y)
  | inr y ↦ let none = suffix_is (x ∷ c ∷ s) false y in absurd (omega (arith, none, e))
]
plain_alone base (x ∷ y ∷ q) c s e = elim (which (among "lLn" x)) [
  | inl t ↦ let one = suffix_is (x ∷ y ∷ (q ++ (c ∷ s))) true t in absurd (omega (arith, one, e))
  | inr t ↦ let none = suffix_is (x ∷ y ∷ (q ++ (c ∷ s))) false t in absurd (omega (arith, none, e))
]

suffix_alone : (q : List ℕ) (c : ℕ) (s : List ℕ) → is_identifier_byte c ≡ false → suffix_length (q ++ []) ≡ suffix_length (q ++ (c ∷ s))
suffix_alone [] c s nay = sym (suffix_is (c ∷ s) false (none_among (codes "lLn") c refl nay))
suffix_alone (x ∷ q) c s nay = refl

number_byte_alone : (k : Class) (q : List ℕ) (c : ℕ) (s : List ℕ) → is_identifier_byte c ≡ false
    → number_at (q ++ (c ∷ s)) ≡ piece.Lexeme k (length q) → number_at (q ++ []) ≡ piece.Lexeme k (length q)
number_byte_alone k q c s nay e =
    let b = q ++ (c ∷ s) in
    let b' = q ++ [] in
    let base = base_of b in
    let head = head_length base in
    let positive = head_positive base in
    let n = head + digits_length base (drop head b) in
    let more = float_part_length base (drop n b) in
    let ends = number_ends (nat_lt 0 more) k (n + more) (n + suffix_length (drop n b)) (length q) b
    (sym (number_parts b base n more refl refl refl) ∙ e) in
    let fits : n ≤ length q = reach (nat_lt 0 more) n more (suffix_length (drop n b)) (length q) ends.0 in
    let base' = base_alone q c s (omega (arith, fits, positive)) nay in
    let head_fits : head ≤ length q = omega (arith, fits) in
    let digits' : digits_length base (drop head b') ≡ digits_length base (drop head b) =
    ap (digits_length base) (drop-append-le head q [] head_fits) ∙ digits_alone base (drop head q) c s nay
    ∙ ap (digits_length base) (sym (drop-append-le head q (c ∷ s) head_fits)) in
    let n' = ap (λ d. head + d) digits' in
    let cut = drop-append-le n q (c ∷ s) fits in
    let cut' = drop-append-le n q [] fits in
    let follows' : is_identifier_byte (get_or b' (length q) 0) ≡ false = ap is_identifier_byte (byte_behind q []) in
    let suffix' : suffix_length (drop n b') ≡ suffix_length (drop n b) = ap suffix_length cut' ∙ suffix_alone (drop n q) c s nay
    ∙ ap suffix_length (sym cut) in
    let more' : float_part_length base (drop n b') ≡ more = elim (which (nat_lt 0 more)) [
      | inl t ↦
          let sum : n + more ≡ length q = ap (λ v. cond v (n + more) (n + suffix_length (drop n b))) (sym t) ∙ ends.0 in
          let some : 0 < more = grind (arith, nat_tests, t) in
          let all : float_part_length base (drop n q ++ (c ∷ s)) ≡ length (drop n q) = ap (float_part_length base) (sym cut)
          ∙ (rw length-drop (omega (arith, sum))) in
          ap (float_part_length base) cut' ∙ float_alone base (drop n q) c s nay (rw length-drop (omega (arith, sum, some))) all ∙ sym all
          ∙ ap (float_part_length base) (sym cut)
      | inr t ↦
          let sum : n + suffix_length (drop n b) ≡ length q = ap (λ v. cond v (n + more) (n + suffix_length (drop n b))) (sym t) ∙ ends.0 in
          let zero_more : more ≡ 0 = grind (arith, nat_tests, t) in
          let all : suffix_length (drop n q ++ (c ∷ s)) ≡ length (drop n q) = ap suffix_length (sym cut) ∙ (rw length-drop (omega (arith, sum))) in
          ap (float_part_length base) cut' ∙ plain_alone base (drop n q) c s all ∙ sym zero_more
    ] in
    number_parts b' base n more base' n' more'
    ∙ number_again (nat_lt 0 more) k (n + more) (n + suffix_length (drop n b')) (length q) b'
    (ap (λ v. cond (nat_lt 0 more) (n + more) (n + v)) suffix' ∙ ends.0) follows' ends.2

pub number_alone : (k : Class) (front rest : List ℕ) → number_at (front ++ rest) ≡ piece.Lexeme k (length front)
    → number_at (front ++ []) ≡ piece.Lexeme k (length front)
number_alone k q [] e = e
number_alone k q (c ∷ r) e = number_byte_alone k q c r (number_followed k q (c ∷ r) e) e

pub number_some : (k : Class) (b : List ℕ) → number_at b ≡ piece.Lexeme k 0 → ⊥
number_some k b e =
    let base = base_of b in
    let positive = head_positive base in
    let n = head_length base + digits_length base (drop (head_length base) b) in
    let more = float_part_length base (drop n b) in
    let ends = number_ends (nat_lt 0 more) k (n + more) (n + suffix_length (drop n b)) 0 b (sym (number_parts b base n more refl refl refl) ∙ e) in
    let fits : n ≤ 0 = reach (nat_lt 0 more) n more (suffix_length (drop n b)) 0 ends.0 in
    omega (arith, fits, positive)
