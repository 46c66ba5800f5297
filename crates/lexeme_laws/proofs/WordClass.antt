-- If a word, a TypeVar, a Tag or a Label of the table is taken whole, it has its class.
use Rattle.std.proofs.Common.{◌≡◌, ℕ, ◌+◌, inl, inr, List, [], ◌∷◌, ◌++◌, Bool, true, false, not, cond, ◌==◌, ◌&&◌, ◌||◌, length, drop, take}
use Rattle.std.proofs.Common.{get_or, nat_le, None, refl, ap, sym, ◌∙◌, arith}
use Rattle.std.specs.List.{list_all}
use Rattle.std.specs.Prelude.{codes}
use Rattle.std.specs.Char.{is_ascii_uppercase, is_ascii_lowercase}
use Rattle.std.specs.Str.{byte, bytes_eq}
use Rattle.std.proofs.lemmas.Bool.Decides.{nat_tests}
use Rattle.rotor_base.specs.Name.{keywords, is_keyword_word, is_identifier_byte, is_reserved_word, is_value_name, starts_as_value_name}
use Rattle.rotor_base.specs.declared.token.Class.{Class}
use Rattle.rotor_base.specs.declared.token.Class.TheVariants as class
use Rattle.ml_lexer.specs.declared.piece.Piece.TheVariants as piece
use Rattle.ml_lexer.specs.Bytes.{among, is_at, is_word_start, word_length}
use Rattle.ml_lexer.specs.Quotes.{char_length}
use Rattle.ml_lexer.specs.Pieces.{is_long, word_class, is_keyword_class, marked_word_at, label_at, lexeme_at, piece_at}
use Rattle.ml_lexer.proofs.Local.{which, and_left, and_right}
use Rattle.ml_lexer.proofs.Words.{word_at_length, take_front}
use Rattle.ml_lexer.proofs.Signs.{marked_at_length, label_at_parts}
use Rattle.ml_lexer.proofs.Apart.{word_lexeme}
use Rattle.ml_lexer.proofs.Fronts.{lexeme_of_piece}
use Rattle.lexeme_laws.specs.Table.{IsLabel, is_word, is_lower, is_upper, is_marked_word}
use Rattle.lexeme_laws.proofs.Tests.{among_one, any_text, or_cases, not_true, texts_same, and_pair, last_byte}
use Rattle.lexeme_laws.proofs.WordReach.{tag_lexeme, quote_lexeme, label_lexeme, variable_of}
use Rattle.lexeme_laws.proofs.WordSound.{word_parts, marked_parts, label_parts, class_tests, start_is_identifier, not_long}
use Rattle.lexeme_laws.proofs.Longest.{keyword_is_word}

-- what is taken with this many bytes has this class
abbrev pub Gives : Class → ℕ → List ℕ → Type 0
Gives kind n bytes = (k : Class) (m : ℕ) → piece_at bytes ≡ piece.Lexeme k m → n ≡ m → kind ≡ k

-- ---- words

word_taken : (f rest : List ℕ) → is_word f ≡ true → (k : Class) (m : ℕ) → piece_at (f ++ rest) ≡ piece.Lexeme k m → length f ≡ m
    → (is_long (length f) ≡ false) × (word_class f ≡ k)
word_taken [] rest h k m e size = cc
word_taken (x ∷ f) rest h k m e size =
    let b = (x ∷ f) ++ rest in
    let n = word_length b in
    let start = and_left (is_word_start x) (list_all is_identifier_byte f) h in
    let at = sym (word_at_length b _ refl) ∙ sym (word_lexeme b start) ∙ lexeme_of_piece b k m e in
    let parts = word_parts (is_long n) (word_class (take n b)) k n m at in
    let same : n ≡ length (x ∷ f) = parts.1 ∙ sym size in
    let text : take n b ≡ x ∷ f = ap (λ i. take i b) same ∙ take_front (x ∷ f) rest in
    (ap is_long (sym same) ∙ parts.0, ap word_class (sym text) ∙ parts.2)

value_of : (s l r a : Bool) → s ≡ true → l ≡ true → not r ≡ true → a ≡ true → (s && l && not r && a) ≡ true
value_of s l r a e f g h = rw (e, f, g, h) refl

value_not : (s l r a : Bool) → r ≡ true → (s && l && not r && a) ≡ false
value_not true true true a e = refl
value_not true false true a e = refl
value_not false l true a e = refl
value_not s l false a e = cc

low_is_not_up : (x : ℕ) → (is_ascii_lowercase x || x == 95) ≡ true → is_ascii_uppercase x ≡ false
low_is_not_up x h = elim (which (is_ascii_uppercase x)) [
  | inl y ↦ absurd (grind (arith, nat_tests, y, h))
  | inr n ↦ n
]

lower_class : (w : List ℕ) → is_lower w ≡ true → is_long (length w) ≡ false → word_class w ≡ class.Lower
lower_class [] h short = cc
lower_class (x ∷ f) h short =
    let w = x ∷ f in
    let both = and_left (is_word w && starts_as_value_name w) (not (is_reserved_word w)) h in
    let word = and_left (is_word w) (starts_as_value_name w) both in
    let starts = and_right (is_word w) (starts_as_value_name w) both in
    let free = and_right (is_word w && starts_as_value_name w) (not (is_reserved_word w)) h in
    let start = and_left (is_word_start x) (list_all is_identifier_byte f) word in
    let all : list_all is_identifier_byte w ≡ true =
    and_pair (is_identifier_byte x) (list_all is_identifier_byte f) (start_is_identifier x start)
    (and_right (is_word_start x) (list_all is_identifier_byte f) word) in
    let name : is_value_name w ≡ true =
    value_of (starts_as_value_name w) (nat_le (length w) 255) (is_reserved_word w) (list_all is_identifier_byte w) starts
    (not_long (length w) short) free all in
    class_tests w false true (low_is_not_up x starts) name

upper_class : (w : List ℕ) → is_upper w ≡ true → word_class w ≡ class.Upper
upper_class w h = class_tests w true _ (and_right (is_word w) (is_ascii_uppercase (get_or w 0 0)) h) refl

keyword_is_low : (w : List ℕ) → is_reserved_word w ≡ true → not (is_ascii_uppercase (get_or w 0 0)) ≡ true
unfolding is_keyword_word
keyword_is_low w h = elim (or_cases (is_keyword_word w) (bytes_eq w (codes "_")) h) [
  | inl y ↦ any_text (λ w. not (is_ascii_uppercase (get_or w 0 0))) keywords w refl y
  | inr y ↦ ap (λ w. not (is_ascii_uppercase (get_or w 0 0))) (texts_same w (codes "_") y)
]

pub keyword_class : (w : List ℕ) → is_reserved_word w ≡ true → word_class w ≡ class.Keyword
keyword_class w h =
    class_tests w false false (not_true (is_ascii_uppercase (get_or w 0 0)) (keyword_is_low w h))
    (value_not (starts_as_value_name w) (nat_le (length w) 255) (is_reserved_word w) (list_all is_identifier_byte w) h)

pub lower_gives : (f rest : List ℕ) → is_lower f ≡ true → Gives class.Lower (length f) (f ++ rest)
lower_gives f rest h k m e size =
    let word = and_left (is_word f) (starts_as_value_name f) (and_left (is_word f && starts_as_value_name f) (not (is_reserved_word f)) h) in
    let got = word_taken f rest word k m e size in
    sym (lower_class f h got.0) ∙ got.1

pub upper_gives : (f rest : List ℕ) → is_upper f ≡ true → Gives class.Upper (length f) (f ++ rest)
upper_gives f rest h k m e size =
    let got = word_taken f rest (and_left (is_word f) (is_ascii_uppercase (get_or f 0 0)) h) k m e size in
    sym (upper_class f h) ∙ got.1

pub keyword_gives : (f rest : List ℕ) → is_reserved_word f ≡ true → Gives class.Keyword (length f) (f ++ rest)
keyword_gives f rest h k m e size =
    let got = word_taken f rest (keyword_is_word f h) k m e size in
    sym (keyword_class f h) ∙ got.1

-- ---- marked words

pub marked_gives : (kind : Class) (b : List ℕ) (k : Class) (m : ℕ) → marked_word_at kind b ≡ piece.Lexeme k m → kind ≡ k
marked_gives kind b k m e =
    let parts = marked_parts (is_word_start (get_or b 1 0)) (is_long (word_length (drop 1 b))) kind k (1 + word_length (drop 1 b)) m
    (sym (marked_at_length kind b _ refl) ∙ e) in
    parts.2

pub tag_gives : (f rest : List ℕ) → is_marked_word "`" f ≡ true → Gives class.Tag (length f) (f ++ rest)
tag_gives [] rest h k m e size = cc
tag_gives (x ∷ w) rest h k m e size =
    let mark = among_one (byte "`") x (and_left (among "`" x) (is_word w) h) in
    let at : lexeme_at (x ∷ (w ++ rest)) ≡ piece.Lexeme k m = lexeme_of_piece ((x ∷ w) ++ rest) k m e in
    let moved : lexeme_at (byte "`" ∷ (w ++ rest)) ≡ piece.Lexeme k m = ap (λ v. lexeme_at (v ∷ (w ++ rest))) (sym mark) ∙ at in
    marked_gives class.Tag (byte "`" ∷ (w ++ rest)) k m (sym (tag_lexeme (w ++ rest)) ∙ moved)

pub variable_gives : (f rest : List ℕ) → is_marked_word "'" f ≡ true → char_length (f ++ rest) ≡ None → Gives class.TypeVar (length f) (f ++ rest)
variable_gives [] rest h none k m e size = cc
variable_gives (x ∷ w) rest h none k m e size =
    let mark = among_one (byte "'") x (and_left (among "'" x) (is_word w) h) in
    let at : lexeme_at (x ∷ (w ++ rest)) ≡ piece.Lexeme k m = lexeme_of_piece ((x ∷ w) ++ rest) k m e in
    let moved : lexeme_at (byte "'" ∷ (w ++ rest)) ≡ piece.Lexeme k m = ap (λ v. lexeme_at (v ∷ (w ++ rest))) (sym mark) ∙ at in
    let none' : char_length (byte "'" ∷ (w ++ rest)) ≡ None = ap (λ v. char_length (v ∷ (w ++ rest))) (sym mark) ∙ none in
    marked_gives class.TypeVar (byte "'" ∷ (w ++ rest)) k m
    (sym (variable_of _ (byte "'" ∷ (w ++ rest)) none') ∙ sym (quote_lexeme (w ++ rest)) ∙ moved)

-- ---- labels

label_at_gives : (b : List ℕ) (k : Class) (m : ℕ) → label_at b ≡ piece.Lexeme k m → class.Label ≡ k
label_at_gives b k m e =
    let n = word_length (drop 1 b) in
    let parts = label_parts (is_long n) (is_keyword_class (word_class (take n (drop 1 b)))) k (1 + n + cond (is_at ":" (1 + n) b) 1 0) m
    (sym (label_at_parts b _ _ _ refl refl refl) ∙ e) in
    parts.1

marked_label_gives : (f rest : List ℕ) → is_marked_word "~?" f ≡ true → (k : Class) (m : ℕ) → piece_at (f ++ rest) ≡ piece.Lexeme k m
    → class.Label ≡ k
marked_label_gives [] rest h k m e = cc
marked_label_gives (x ∷ []) rest h k m e = let wrong : false ≡ true = and_right (among "~?" x) false h in cc
marked_label_gives (x ∷ y ∷ w) rest h k m e =
    let word = and_right (among "~?" x) (is_word (y ∷ w)) h in
    let start = and_left (is_word_start y) (list_all is_identifier_byte w) word in
    let mark = and_left (among "~?" x) (is_word (y ∷ w)) h in
    label_at_gives ((x ∷ y ∷ w) ++ rest) k m (sym (label_lexeme x y (w ++ rest) mark start) ∙ lexeme_of_piece ((x ∷ y ∷ w) ++ rest) k m e)

pub label_gives : (f rest : List ℕ) → IsLabel f → Gives class.Label (length f) (f ++ rest)
label_gives f rest (IsLabel.without_colon text h) k m e size = marked_label_gives text rest h k m e
label_gives f rest (IsLabel.with_colon text h) k m e size =
    marked_label_gives text (byte ":" ∷ rest) h k m (ap piece_at (sym (last_byte text (byte ":") rest)) ∙ e)
