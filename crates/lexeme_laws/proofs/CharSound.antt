-- A Char of the lexer is a Char of the table.
use Rattle.std.proofs.Common.{◌≡◌, ℕ, ◌<◌, ◌≤◌, inl, inr, List, [], ◌∷◌, Bool, true, false, not, cond, ◌==◌, ◌&&◌, length, take, get_or, Some}
use Rattle.std.proofs.Common.{None, refl, ap, sym, subst, ◌∙◌, arith}
use Rattle.std.specs.Char.{is_ascii_digit, is_ascii_hexdigit}
use Rattle.std.specs.Str.{byte}
use Rattle.std.proofs.lemmas.List.{get_or_past}
use Rattle.ml_lexer.specs.Bytes.{among}
use Rattle.ml_lexer.specs.Quotes.{is_octal_digit, fit, plain_char, short_escape, decimal_escape, hexadecimal_escape, octal_escape, char_length}
use Rattle.ml_lexer.proofs.Local.{le_or_lt}
use Rattle.lexeme_laws.specs.Table.{IsChar}
use Rattle.lexeme_laws.proofs.Tests.{same_numbers, not_true}

-- a `'` is inside
quote_inside : (b : List ℕ) (i : ℕ) → (get_or b i 0 == byte "'") ≡ true → i < length b
quote_inside b i e = elim (le_or_lt (length b) i) [
  | inl past ↦ let wrong : (0 == byte "'") ≡ true = ap (λ v. v == byte "'") (sym (get_or_past b i 0 past))
      ∙ e in absurd (omega (arith, same_numbers 0 (byte "'") wrong))
  | inr less ↦ less
]

and_3 : (a b c : Bool) → (a && (b && (c && true))) ≡ true → (a ≡ true) × (b ≡ true) × (c ≡ true)
and_3 true true true e = (refl, refl, refl)
and_3 true true false e = cc
and_3 true false c e = cc
and_3 false b c e = cc

-- the first 3 bytes
shape_3 : (b : List ℕ) → 2 < length b → take 3 b ≡ get_or b 0 0 ∷ get_or b 1 0 ∷ get_or b 2 0 ∷ []
shape_3 [] l = absurd (omega arith)
shape_3 (x0 ∷ []) l = absurd (omega arith)
shape_3 (x0 ∷ x1 ∷ []) l = absurd (omega arith)
shape_3 (x0 ∷ x1 ∷ x2 ∷ s) l = refl

and_4 : (a b c d : Bool) → (a && (b && (c && (d && true)))) ≡ true → (a ≡ true) × (b ≡ true) × (c ≡ true) × (d ≡ true)
and_4 true true true true e = (refl, refl, refl, refl)
and_4 true true true false e = cc
and_4 true true false d e = cc
and_4 true false c d e = cc
and_4 false b c d e = cc

-- the first 4 bytes
shape_4 : (b : List ℕ) → 3 < length b → take 4 b ≡ get_or b 0 0 ∷ get_or b 1 0 ∷ get_or b 2 0 ∷ get_or b 3 0 ∷ []
shape_4 [] l = absurd (omega arith)
shape_4 (x0 ∷ []) l = absurd (omega arith)
shape_4 (x0 ∷ x1 ∷ []) l = absurd (omega arith)
shape_4 (x0 ∷ x1 ∷ x2 ∷ []) l = absurd (omega arith)
shape_4 (x0 ∷ x1 ∷ x2 ∷ x3 ∷ s) l = refl

and_6 : (a b c d i j : Bool) → (a && (b && (c && (d && (i && (j && true)))))) ≡ true
    → (a ≡ true) × (b ≡ true) × (c ≡ true) × (d ≡ true) × (i ≡ true) × (j ≡ true)
and_6 true true true true true true e = (refl, refl, refl, refl, refl, refl)
and_6 true true true true true false e = cc
and_6 true true true true false j e = cc
and_6 true true true false i j e = cc
and_6 true true false d i j e = cc
and_6 true false c d i j e = cc
and_6 false b c d i j e = cc

-- the first 6 bytes
shape_6 : (b : List ℕ) → 5 < length b → take 6 b ≡ get_or b 0 0 ∷ get_or b 1 0 ∷ get_or b 2 0 ∷ get_or b 3 0 ∷ get_or b 4 0 ∷ get_or b 5 0 ∷ []
shape_6 [] l = absurd (omega arith)
shape_6 (x0 ∷ []) l = absurd (omega arith)
shape_6 (x0 ∷ x1 ∷ []) l = absurd (omega arith)
shape_6 (x0 ∷ x1 ∷ x2 ∷ []) l = absurd (omega arith)
shape_6 (x0 ∷ x1 ∷ x2 ∷ x3 ∷ []) l = absurd (omega arith)
shape_6 (x0 ∷ x1 ∷ x2 ∷ x3 ∷ x4 ∷ []) l = absurd (omega arith)
shape_6 (x0 ∷ x1 ∷ x2 ∷ x3 ∷ x4 ∷ x5 ∷ s) l = refl

and_7 : (a b c d i j l : Bool) → (a && (b && (c && (d && (i && (j && (l && true))))))) ≡ true
    → (a ≡ true) × (b ≡ true) × (c ≡ true) × (d ≡ true) × (i ≡ true) × (j ≡ true) × (l ≡ true)
and_7 true true true true true true true e = (refl, refl, refl, refl, refl, refl, refl)
and_7 true true true true true true false e = cc
and_7 true true true true true false l e = cc
and_7 true true true true false j l e = cc
and_7 true true true false i j l e = cc
and_7 true true false d i j l e = cc
and_7 true false c d i j l e = cc
and_7 false b c d i j l e = cc

-- the first 7 bytes
shape_7 : (b : List ℕ) → 6 < length b
    → take 7 b ≡ get_or b 0 0 ∷ get_or b 1 0 ∷ get_or b 2 0 ∷ get_or b 3 0 ∷ get_or b 4 0 ∷ get_or b 5 0 ∷ get_or b 6 0 ∷ []
shape_7 [] l = absurd (omega arith)
shape_7 (x0 ∷ []) l = absurd (omega arith)
shape_7 (x0 ∷ x1 ∷ []) l = absurd (omega arith)
shape_7 (x0 ∷ x1 ∷ x2 ∷ []) l = absurd (omega arith)
shape_7 (x0 ∷ x1 ∷ x2 ∷ x3 ∷ []) l = absurd (omega arith)
shape_7 (x0 ∷ x1 ∷ x2 ∷ x3 ∷ x4 ∷ []) l = absurd (omega arith)
shape_7 (x0 ∷ x1 ∷ x2 ∷ x3 ∷ x4 ∷ x5 ∷ []) l = absurd (omega arith)
shape_7 (x0 ∷ x1 ∷ x2 ∷ x3 ∷ x4 ∷ x5 ∷ x6 ∷ s) l = refl

plain_sound : (b : List ℕ) → fit plain_char 0 b ≡ true → (3 ≤ length b) × IsChar (take 3 b)
plain_sound b e =
    let parts = and_3 (get_or b 0 0 == byte "'") (not (among "'\\\n\r" (get_or b 1 0))) (get_or b 2 0 == byte "'") e in
    let long = quote_inside b 2 parts.2 in
    let at0 = same_numbers (get_or b 0 0) (byte "'") parts.0 in
    let at2 = same_numbers (get_or b 2 0) (byte "'") parts.2 in
    let shape = shape_3 b long in
    let same : take 3 b ≡ byte "'" ∷ get_or b 1 0 ∷ byte "'" ∷ [] = cc in
    (omega (arith, long), subst IsChar (sym same) (IsChar.plain (get_or b 1 0) (not_true (among "'\\\n\r" (get_or b 1 0)) parts.1)))

short_sound : (b : List ℕ) → fit short_escape 0 b ≡ true → (4 ≤ length b) × IsChar (take 4 b)
short_sound b e =
    let parts = and_4 (get_or b 0 0 == byte "'") (get_or b 1 0 == byte "\\") (among "\\\"'ntbr " (get_or b 2 0)) (get_or b 3 0 == byte "'") e in
    let long = quote_inside b 3 parts.3 in
    let at0 = same_numbers (get_or b 0 0) (byte "'") parts.0 in
    let at1 = same_numbers (get_or b 1 0) (byte "\\") parts.1 in
    let at3 = same_numbers (get_or b 3 0) (byte "'") parts.3 in
    let shape = shape_4 b long in
    let same : take 4 b ≡ byte "'" ∷ byte "\\" ∷ get_or b 2 0 ∷ byte "'" ∷ [] = cc in
    (omega (arith, long), subst IsChar (sym same) (IsChar.short (get_or b 2 0) parts.2))

decimal_sound : (b : List ℕ) → fit decimal_escape 0 b ≡ true → (6 ≤ length b) × IsChar (take 6 b)
decimal_sound b e =
    let parts = and_6 (get_or b 0 0 == byte "'") (get_or b 1 0 == byte "\\") (is_ascii_digit (get_or b 2 0)) (is_ascii_digit (get_or b 3 0))
    (is_ascii_digit (get_or b 4 0)) (get_or b 5 0 == byte "'") e in
    let long = quote_inside b 5 parts.5 in
    let at0 = same_numbers (get_or b 0 0) (byte "'") parts.0 in
    let at1 = same_numbers (get_or b 1 0) (byte "\\") parts.1 in
    let at5 = same_numbers (get_or b 5 0) (byte "'") parts.5 in
    let shape = shape_6 b long in
    let same : take 6 b ≡ byte "'" ∷ byte "\\" ∷ get_or b 2 0 ∷ get_or b 3 0 ∷ get_or b 4 0 ∷ byte "'" ∷ [] = cc in
    (omega (arith, long), subst IsChar (sym same) (IsChar.decimal (get_or b 2 0) (get_or b 3 0) (get_or b 4 0) parts.2 parts.3 parts.4))

hexadecimal_sound : (b : List ℕ) → fit hexadecimal_escape 0 b ≡ true → (6 ≤ length b) × IsChar (take 6 b)
hexadecimal_sound b e =
    let parts = and_6 (get_or b 0 0 == byte "'") (get_or b 1 0 == byte "\\") (get_or b 2 0 == byte "x") (is_ascii_hexdigit (get_or b 3 0))
    (is_ascii_hexdigit (get_or b 4 0)) (get_or b 5 0 == byte "'") e in
    let long = quote_inside b 5 parts.5 in
    let at0 = same_numbers (get_or b 0 0) (byte "'") parts.0 in
    let at1 = same_numbers (get_or b 1 0) (byte "\\") parts.1 in
    let at2 = same_numbers (get_or b 2 0) (byte "x") parts.2 in
    let at5 = same_numbers (get_or b 5 0) (byte "'") parts.5 in
    let shape = shape_6 b long in
    let same : take 6 b ≡ byte "'" ∷ byte "\\" ∷ byte "x" ∷ get_or b 3 0 ∷ get_or b 4 0 ∷ byte "'" ∷ [] = cc in
    (omega (arith, long), subst IsChar (sym same) (IsChar.hexadecimal (get_or b 3 0) (get_or b 4 0) parts.3 parts.4))

octal_sound : (b : List ℕ) → fit octal_escape 0 b ≡ true → (7 ≤ length b) × IsChar (take 7 b)
octal_sound b e =
    let parts = and_7 (get_or b 0 0 == byte "'") (get_or b 1 0 == byte "\\") (get_or b 2 0 == byte "o") (is_octal_digit (get_or b 3 0))
    (is_octal_digit (get_or b 4 0)) (is_octal_digit (get_or b 5 0)) (get_or b 6 0 == byte "'") e in
    let long = quote_inside b 6 parts.6 in
    let at0 = same_numbers (get_or b 0 0) (byte "'") parts.0 in
    let at1 = same_numbers (get_or b 1 0) (byte "\\") parts.1 in
    let at2 = same_numbers (get_or b 2 0) (byte "o") parts.2 in
    let at6 = same_numbers (get_or b 6 0) (byte "'") parts.6 in
    let shape = shape_7 b long in
    let same : take 7 b ≡ byte "'" ∷ byte "\\" ∷ byte "o" ∷ get_or b 3 0 ∷ get_or b 4 0 ∷ get_or b 5 0 ∷ byte "'" ∷ [] = cc in
    (omega (arith, long), subst IsChar (sym same) (IsChar.octal (get_or b 3 0) (get_or b 4 0) (get_or b 5 0) parts.3 parts.4 parts.5))

choice_of : (P : ℕ → Type 0) (a b c d e : Bool) (m : ℕ) → (a ≡ true → P 3) → (b ≡ true → P 4) → (c ≡ true → P 6) → (d ≡ true → P 6)
    → (e ≡ true → P 7) → cond a (Some 3) (cond b (Some 4) (cond c (Some 6) (cond d (Some 6) (cond e (Some 7) None)))) ≡ Some m → P m
choice_of P true b c d e m f g h i j k = let at : 3 ≡ m = cc in subst P at (f refl)
choice_of P false true c d e m f g h i j k = let at : 4 ≡ m = cc in subst P at (g refl)
choice_of P false false true d e m f g h i j k = let at : 6 ≡ m = cc in subst P at (h refl)
choice_of P false false false true e m f g h i j k = let at : 6 ≡ m = cc in subst P at (i refl)
choice_of P false false false false true m f g h i j k = let at : 7 ≡ m = cc in subst P at (j refl)
choice_of P false false false false false m f g h i j k = cc

char_choice : (b : List ℕ)
    → char_length b ≡ cond (fit plain_char 0 b) (Some 3)
    (cond (fit short_escape 0 b) (Some 4)
    (cond (fit decimal_escape 0 b) (Some 6) (cond (fit hexadecimal_escape 0 b) (Some 6) (cond (fit octal_escape 0 b) (Some 7) None))))
unfolding char_length
char_choice b = refl

pub char_sound : (b : List ℕ) (n : ℕ) → char_length b ≡ Some n → (n ≤ length b) × IsChar (take n b)
char_sound b n e = choice_of (λ n. (n ≤ length b) × IsChar (take n b)) (fit plain_char 0 b) (fit short_escape 0 b) (fit decimal_escape 0 b)
    (fit hexadecimal_escape 0 b) (fit octal_escape 0 b) n (plain_sound b) (short_sound b) (decimal_sound b) (hexadecimal_sound b) (octal_sound b)
    (sym (char_choice b) ∙ e)
