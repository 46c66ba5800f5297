-- Where a Char, a Text or a Quoted of the table begins, it is taken whole.
use Rattle.std.proofs.Common.{◌≡◌, ◌≢◌, ℕ, suc, ◌+◌, ◌≤◌, inl, inr, List, [], ◌∷◌, ◌++◌, Bool, true, false, ◌==◌, ◌&&◌, length, drop, take, get_or}
use Rattle.std.proofs.Common.{nat_eq, Option, Some, refl, ap, sym, ◌∙◌, arith, length-append, append_assoc}
use Rattle.std.specs.List.{prefix_len, list_all, starts_with}
use Rattle.std.specs.Prelude.{codes}
use Rattle.std.specs.Char.{is_ascii_digit, is_ascii_hexdigit}
use Rattle.std.specs.Str.{byte}
use Rattle.std.proofs.lemmas.List.{take-append-le}
use Rattle.std.proofs.lemmas.Slice.Eq.{bytes_eq-Decides}
use lib.Pointwise.{pointwise}
use Rattle.rotor_base.specs.declared.token.Class.{Class}
use Rattle.rotor_base.specs.declared.token.Class.TheVariants as class
use Rattle.ml_lexer.specs.declared.piece.Piece.{Piece}
use Rattle.ml_lexer.specs.declared.piece.Piece.TheVariants as piece
use Rattle.ml_lexer.specs.Bytes.{among, is_quoted_word_byte}
use Rattle.ml_lexer.specs.Quotes.{is_octal_digit, char_length, text_end, text_length, opens_quoted, closes_quoted, quoted_end, quoted_length}
use Rattle.ml_lexer.specs.Quotes.{quoted_word_length}
use Rattle.ml_lexer.specs.Pieces.{ended, char_or_variable, lexeme_at}
use Rattle.ml_lexer.proofs.Local.{which}
use Rattle.ml_lexer.proofs.Words.{take_front}
use Rattle.ml_lexer.proofs.Signs.{among_none, byte_behind}
use Rattle.ml_lexer.proofs.Fronts.{lexeme_of_piece, brace_opens}
use Rattle.lexeme_laws.specs.Table.{IsChar, IsTextBody, IsTextLexeme, IsUpTo, IsQuoted, quoted_close}
use Rattle.lexeme_laws.proofs.Tests.{same_numbers, last_byte, run_over, and_true}
use Rattle.lexeme_laws.proofs.WordReach.{Reaches, quote_lexeme, text_lexeme, quoted_lexeme}

-- ---- characters

plain_length : (c : ℕ) (rest : List ℕ) → among "'\\\n\r" c ≡ false → char_length (byte "'" ∷ c ∷ byte "'" ∷ rest) ≡ Some 3
unfolding char_length
plain_length c rest h = rw h refl

short_length : (c : ℕ) (rest : List ℕ) → among "\\\"'ntbr " c ≡ true → char_length (byte "'" ∷ byte "\\" ∷ c ∷ byte "'" ∷ rest) ≡ Some 4
unfolding char_length
short_length c rest h = rw h refl

decimal_length : (a b c : ℕ) (rest : List ℕ) → is_ascii_digit a ≡ true → is_ascii_digit b ≡ true → is_ascii_digit c ≡ true
    → char_length (byte "'" ∷ byte "\\" ∷ a ∷ b ∷ c ∷ byte "'" ∷ rest) ≡ Some 6
unfolding char_length
decimal_length a b c rest f g h = rw (among_none is_ascii_digit (codes "\\\"'ntbr ") a refl f, f, g, h) refl

hexadecimal_length : (a b : ℕ) (rest : List ℕ) → is_ascii_hexdigit a ≡ true → is_ascii_hexdigit b ≡ true
    → char_length (byte "'" ∷ byte "\\" ∷ byte "x" ∷ a ∷ b ∷ byte "'" ∷ rest) ≡ Some 6
unfolding char_length
hexadecimal_length a b rest f g = rw (f, g) refl

octal_length : (a b c : ℕ) (rest : List ℕ) → is_octal_digit a ≡ true → is_octal_digit b ≡ true → is_octal_digit c ≡ true
    → char_length (byte "'" ∷ byte "\\" ∷ byte "o" ∷ a ∷ b ∷ c ∷ byte "'" ∷ rest) ≡ Some 7
unfolding char_length
octal_length a b c rest f g h = rw (f, g, h) refl

pub char_whole : (f rest : List ℕ) → IsChar f → char_length (f ++ rest) ≡ Some (length f)
char_whole f rest (IsChar.plain c h) = plain_length c rest h
char_whole f rest (IsChar.short c h) = short_length c rest h
char_whole f rest (IsChar.decimal a b c h i j) = decimal_length a b c rest h i j
char_whole f rest (IsChar.hexadecimal a b h i) = hexadecimal_length a b rest h i
char_whole f rest (IsChar.octal a b c h i j) = octal_length a b c rest h i j

char_size : (o : Option ℕ) (b : List ℕ) (n : ℕ) (k : Class) (m : ℕ) → o ≡ Some n → char_or_variable o b ≡ piece.Lexeme k m → n ≡ m
char_size o b n k m e f = let got : ◌≡◌ {A = Piece} (piece.Lexeme class.Char n) (piece.Lexeme k m) = sym (ap (λ o. char_or_variable o b) e)
    ∙ f in cc

pub taken_char : (f rest : List ℕ) → IsChar f → (k : Class) (m : ℕ) → lexeme_at (f ++ rest) ≡ piece.Lexeme k m → length f ≡ m
taken_char f rest (IsChar.plain c h) k m e = char_size _ _ 3 k m (plain_length c rest h) (sym (quote_lexeme (c ∷ byte "'" ∷ rest)) ∙ e)
taken_char f rest (IsChar.short c h) k m e = char_size _ _ 4 k m (short_length c rest h) (sym (quote_lexeme (byte "\\" ∷ c ∷ byte "'" ∷ rest)) ∙ e)
taken_char f rest (IsChar.decimal a b c h i j) k m e =
    char_size _ _ 6 k m (decimal_length a b c rest h i j) (sym (quote_lexeme (byte "\\" ∷ a ∷ b ∷ c ∷ byte "'" ∷ rest)) ∙ e)
taken_char f rest (IsChar.hexadecimal a b h i) k m e =
    char_size _ _ 6 k m (hexadecimal_length a b rest h i) (sym (quote_lexeme (byte "\\" ∷ byte "x" ∷ a ∷ b ∷ byte "'" ∷ rest)) ∙ e)
taken_char f rest (IsChar.octal a b c h i j) k m e =
    char_size _ _ 7 k m (octal_length a b c rest h i j) (sym (quote_lexeme (byte "\\" ∷ byte "o" ∷ a ∷ b ∷ c ∷ byte "'" ∷ rest)) ∙ e)

pub char_reaches : (f rest : List ℕ) → IsChar f → Reaches (length f) (f ++ rest)
char_reaches f rest is k m e =
    let at = taken_char f rest is k m (lexeme_of_piece (f ++ rest) k m e) in
    omega (arith, at)

-- ---- texts

text_over : (n : ℕ) (c : ℕ) (b : List ℕ) → (c ≡ byte "\"" → ⊥) → text_end n false (c ∷ b) ≡ text_end (n + 1) (c == byte "\\") b
unfolding text_end
text_over n c b h = elim (which (c == byte "\"")) [
  | inl y ↦ absurd (h (same_numbers c (byte "\"") y))
  | inr y ↦ rw y refl
]

text_step : (n : ℕ) (c : ℕ) (b : List ℕ) → text_end n true (c ∷ b) ≡ text_end (n + 1) false b
unfolding text_end
text_step n c b = refl

text_stop : (n : ℕ) (b : List ℕ) → text_end n false (byte "\"" ∷ b) ≡ Some (n + 1)
unfolding text_end
text_stop n b = refl

differ : (c k : ℕ) → c ≢ k → (c == k) ≡ false
differ c k h = elim (which (c == k)) [
  | inl y ↦ absurd (h (same_numbers c k y))
  | inr y ↦ y
]

some_same : (a b : ℕ) → a ≡ b → ◌≡◌ {A = Option ℕ} (Some a) (Some b)
some_same a b e = ap (λ v. Some v) e

pub text_whole : (body rest : List ℕ) (n : ℕ) → IsTextBody body → text_end n false (body ++ (byte "\"" ∷ rest)) ≡ Some (n + length body + 1)
text_whole body rest n IsTextBody.empty = text_stop n rest ∙ some_same (n + 1) (n + 0 + 1) (omega arith)
text_whole body rest n (IsTextBody.escaped c more is) =
    text_over n (byte "\\") (c ∷ (more ++ (byte "\"" ∷ rest))) (λ e. absurd (omega (arith, e)))
    ∙ text_step (n + 1) c (more ++ (byte "\"" ∷ rest))
    ∙ text_whole more rest (n + 1 + 1) is
    ∙ some_same (n + 1 + 1 + length more + 1) (n + suc (suc (length more)) + 1) (omega arith)
text_whole body rest n (IsTextBody.plain c more no_escape no_end is) =
    text_over n c (more ++ (byte "\"" ∷ rest)) no_end
    ∙ ap (λ t. text_end (n + 1) t (more ++ (byte "\"" ∷ rest))) (differ c (byte "\\") no_escape)
    ∙ text_whole more rest (n + 1) is
    ∙ some_same (n + 1 + length more + 1) (n + suc (length more) + 1) (omega arith)

ended_size : (kind k : Class) (n m : ℕ) (o : Option ℕ) → o ≡ Some n → ended kind o ≡ piece.Lexeme k m → n ≡ m
ended_size kind k n m o e f = let got : ◌≡◌ {A = Piece} (piece.Lexeme kind n) (piece.Lexeme k m) = sym (ap (ended kind) e) ∙ f in cc

length_with_close : (f : List ℕ) (c : ℕ) → length (f ++ (c ∷ [])) ≡ length f + 1
length_with_close f c = rw length-append (omega arith)

pub text_reaches : (f rest : List ℕ) → IsTextLexeme f → Reaches (length f) (f ++ rest)
text_reaches f rest (IsTextLexeme.closed body is) k m e =
    let b = byte "\"" ∷ ((body ++ codes "\"") ++ rest) in
    let whole : text_length b ≡ Some (1 + length body + 1) = ap (text_end 1 false) (last_byte body (byte "\"") rest) ∙ text_whole body rest 1 is in
    let at = ended_size class.Text k (1 + length body + 1) m (text_length b) whole
    (sym (text_lexeme ((body ++ codes "\"") ++ rest)) ∙ lexeme_of_piece b k m e) in
    let size = length_with_close body (byte "\"") in
    omega (arith, at, size)

-- ---- quoted texts

quoted_step : (word : List ℕ) (n c : ℕ) (b : List ℕ) → closes_quoted word (c ∷ b) ≡ false → quoted_end word n (c ∷ b) ≡ quoted_end word (n + 1) b
unfolding quoted_end
quoted_step word n c b h = rw h refl

quoted_stop : (word : List ℕ) (n c : ℕ) (b : List ℕ) → closes_quoted word (c ∷ b) ≡ true → quoted_end word n (c ∷ b) ≡ Some (n + length word + 2)
unfolding quoted_end
quoted_stop word n c b h = rw h refl

and_assoc : (a b c : Bool) → ((a && b) && c) ≡ (a && (b && c))
and_assoc true b c = refl
and_assoc false b c = refl

pub numbers_same : (a b : ℕ) → (a == b) ≡ (b == a)
numbers_same a b = elim (which (a == b)) [
  | inl y ↦ let e = same_numbers a b y in y ∙ sym (ap (λ v. b == v) e ∙ ap (λ v. v == b) (sym e) ∙ y)
  | inr n ↦ elim (which (b == a)) [
    | inl y ↦ let e = same_numbers b a y in let wrong : true ≡ false = sym y ∙ ap (λ v. v == a) e ∙ ap (λ v. a == v) (sym e) ∙ n in cc
    | inr y ↦ n ∙ sym y
  ]
]

-- a text and a `}` begin here, or do not
close_parts : (word b : List ℕ)
    → pointwise nat_eq (word ++ codes "}") (take (length (word ++ codes "}")) b)
    ≡ (pointwise nat_eq word (take (length word) b) && (get_or b (length word) 0 == byte "}"))
close_parts [] [] = refl
close_parts [] (x ∷ b) = rw (numbers_same (byte "}") x) (and_true (x == byte "}"))
close_parts (y ∷ word) [] = refl
close_parts (y ∷ word) (x ∷ b) = ap (λ v. nat_eq y x && v) (close_parts word b)
    ∙ sym (and_assoc (nat_eq y x) (pointwise nat_eq word (take (length word) b)) (get_or b (length word) 0 == byte "}"))

pub closes_is : (word : List ℕ) (x : ℕ) (b : List ℕ) → closes_quoted word (x ∷ b) ≡ starts_with nat_eq (x ∷ b) (quoted_close word)
unfolding closes_quoted
closes_is word x b =
    let index : 1 + length word ≡ suc (length word) = omega arith in
    let rest = pointwise nat_eq word (take (length word) b) in
    and_assoc (x == byte "|") rest (get_or (x ∷ b) (1 + length word) 0 == byte "}")
    ∙ ap (λ i. x == byte "|" && (rest && (get_or (x ∷ b) i 0 == byte "}"))) index
    ∙ ap (λ v. v && (rest && (get_or b (length word) 0 == byte "}"))) (numbers_same x (byte "|"))
    ∙ ap (λ v. nat_eq (byte "|") x && v) (sym (close_parts word b))

pub close_length : (word : List ℕ) → length (quoted_close word) ≡ length word + 2
close_length word = let e = length_with_close word (byte "}") in omega (arith, e)

-- a close here
closes_here : (word rest : List ℕ) → closes_quoted word (quoted_close word ++ rest) ≡ true
closes_here word rest =
    closes_is word (byte "|") ((word ++ codes "}") ++ rest)
    ∙ ap (pointwise nat_eq (quoted_close word)) (take_front (quoted_close word) rest)
    ∙ (bytes_eq-Decides (quoted_close word) (quoted_close word)).1 refl

-- no close here, if the bytes up to the close have none
closes_later : (word : List ℕ) (x : ℕ) (b rest : List ℕ) → length word + 2 ≤ length (x ∷ b) → starts_with nat_eq (x ∷ b) (quoted_close word) ≡ false
    → closes_quoted word ((x ∷ b) ++ rest) ≡ false
closes_later word x b rest fits h =
    let size = close_length word in
    closes_is word x (b ++ rest)
    ∙ ap (pointwise nat_eq (quoted_close word)) (take-append-le (length (quoted_close word)) (x ∷ b) rest (omega (arith, size, fits)))
    ∙ h

pub up_to_length : (word t : List ℕ) → IsUpTo (quoted_close word) t → length word + 2 ≤ length t
up_to_length word t IsUpTo.here = let size = close_length word in omega (arith, size)
up_to_length word t (IsUpTo.later c more nay is) = let far = up_to_length word more is in omega (arith, far)

pub quoted_whole : (word t rest : List ℕ) (n : ℕ) → IsUpTo (quoted_close word) t → quoted_end word n (t ++ rest) ≡ Some (n + length t)
quoted_whole word t rest n IsUpTo.here =
    let size = close_length word in
    quoted_stop word n (byte "|") ((word ++ codes "}") ++ rest) (closes_here word rest)
    ∙ some_same (n + length word + 2) (n + length (quoted_close word)) (omega (arith, size))
quoted_whole word t rest n (IsUpTo.later c more nay is) =
    let far = up_to_length word more is in
    quoted_step word n c (more ++ rest) (closes_later word c more rest (omega (arith, far)) nay)
    ∙ quoted_whole word more rest (n + 1) is
    ∙ some_same (n + 1 + length more) (n + suc (length more)) (omega arith)

pub quoted_at : (b : List ℕ) (n : ℕ) → quoted_word_length b ≡ n → quoted_length b ≡ quoted_end (take n (drop 1 b)) (n + 2) (drop (n + 2) b)
unfolding quoted_length
quoted_at b n e = rw e refl

drop_behind : (f : List ℕ) (c : ℕ) (r : List ℕ) → drop (suc (length f)) (f ++ (c ∷ r)) ≡ r
drop_behind [] c r = refl
drop_behind (x ∷ f) c r = drop_behind f c r

-- the run of a Quoted's word
quoted_run : (word r : List ℕ) → list_all is_quoted_word_byte word ≡ true → prefix_len is_quoted_word_byte (word ++ (byte "|" ∷ r)) ≡ length word
quoted_run word r h = let run = run_over is_quoted_word_byte word (byte "|" ∷ r) h in omega (arith, run)

pub quoted_exact : (word t rest : List ℕ) → list_all is_quoted_word_byte word ≡ true → IsUpTo (quoted_close word) t
    → quoted_length (byte "{" ∷ (word ++ (byte "|" ∷ (t ++ rest)))) ≡ Some (length word + 2 + length t)
quoted_exact word t rest h is =
    let s = word ++ (byte "|" ∷ (t ++ rest)) in
    let index : length word + 2 ≡ suc (suc (length word)) = omega arith in
    quoted_at (byte "{" ∷ s) (length word) (quoted_run word (t ++ rest) h)
    ∙ ap (λ w. quoted_end w (length word + 2) (drop (length word + 2) (byte "{" ∷ s))) (take_front word (byte "|" ∷ (t ++ rest)))
    ∙ ap (λ i. quoted_end word (length word + 2) (drop i (byte "{" ∷ s))) index
    ∙ ap (λ r. quoted_end word (length word + 2) r) (drop_behind word (byte "|") (t ++ rest))
    ∙ quoted_whole word t rest (length word + 2) is

pub quoted_opens : (word r : List ℕ) → list_all is_quoted_word_byte word ≡ true → opens_quoted (byte "{" ∷ (word ++ (byte "|" ∷ r))) ≡ true
quoted_opens word r h = brace_opens (word ++ (byte "|" ∷ r)) (length word) (quoted_run word r h)
    ∙ ap (λ v. v == byte "|") (byte_behind word (byte "|" ∷ r))

pub quoted_reaches : (f rest : List ℕ) → IsQuoted f → Reaches (length f) (f ++ rest)
quoted_reaches f rest (IsQuoted.quoted word t h is) k m e =
    let s = word ++ (byte "|" ∷ (t ++ rest)) in
    let joined : (word ++ (byte "|" ∷ t)) ++ rest ≡ s = append_assoc word (byte "|" ∷ t) rest in
    let at : lexeme_at (byte "{" ∷ s) ≡ piece.Lexeme k m = ap (λ v. lexeme_at (byte "{" ∷ v)) (sym joined)
    ∙ lexeme_of_piece (byte "{" ∷ ((word ++ (byte "|" ∷ t)) ++ rest)) k m e in
    let got = ended_size class.Quoted k (length word + 2 + length t) m (quoted_length (byte "{" ∷ s)) (quoted_exact word t rest h is)
    (sym (quoted_lexeme s (quoted_opens word (t ++ rest) h)) ∙ at) in
    let size : length (word ++ (byte "|" ∷ t)) ≡ length word + suc (length t) = length-append word (byte "|" ∷ t) in
    omega (arith, got, size)
