-- A value name in place of a Lower is a Lower, and it opens nothing.
use Rattle.std.proofs.Common.{◌≡◌, ℕ, zero, suc, ◌+◌, ◌<◌, ◌≤◌, inl, inr, List, [], ◌∷◌, ◌++◌, Bool, true, false, not, cond, ◌==◌, ◌&&◌, length, take}
use Rattle.std.proofs.Common.{get_or, nat_le, refl, ap, sym, ◌∙◌, arith}
use Rattle.std.specs.Char.{is_ascii_uppercase}
use Rattle.std.specs.List.{prefix_len, list_all}
use Rattle.std.specs.Prelude.{codes}
use Rattle.std.specs.Str.{byte}
use Rattle.std.proofs.lemmas.Bool.Decides.{nat_tests}
use Rattle.rotor_base.specs.Name.{starts_as_value_name, is_identifier_byte, is_reserved_word, is_value_name}
use Rattle.rotor_base.specs.declared.token.Class.{Class}
use Rattle.rotor_base.specs.declared.token.Class.TheVariants as class
use Rattle.ml_lexer.specs.declared.piece.Piece.TheVariants as piece
use Rattle.ml_lexer.specs.Bytes.{among, is_at, is_quoted_word_byte, word_length}
use Rattle.ml_lexer.specs.Quotes.{opens_quoted}
use Rattle.ml_lexer.specs.Trivia.{opens_comment}
use Rattle.ml_lexer.specs.Pieces.{is_long, word_class, word_at, lexeme_at, piece_at}
use Rattle.ml_lexer.proofs.Local.{which, and_left, and_right, le_or_lt, run_stops, word_range, byte_of_front}
use Rattle.ml_lexer.proofs.Words.{take_front, word_at_length, lexeme_of_cond, word_byte_is_identifier}
use Rattle.ml_lexer.proofs.Signs.{among_none, byte_behind}
use Rattle.ml_lexer.proofs.Marks.{word_is_not}
use Rattle.ml_lexer.proofs.Apart.{lower_is_word, word_lexeme}
use Rattle.ml_lexer.proofs.Fronts.{word_byte_starts, brace_opens, piece_tests, lexeme_of_piece}

run_none : (p : ℕ → Bool) (x : ℕ) (r : List ℕ) → p x ≡ false → prefix_len p (x ∷ r) ≡ 0
run_none p x r e = rw e refl

run_some : (p : ℕ → Bool) (x : ℕ) (r : List ℕ) → p x ≡ true → prefix_len p (x ∷ r) ≡ 1 + prefix_len p r
run_some p x r e = rw e refl

-- all bytes of the front pass, and none behind it
run_all : (p : ℕ → Bool) (q r : List ℕ) → list_all p q ≡ true → prefix_len p r ≡ 0 → prefix_len p (q ++ r) ≡ length q
run_all p [] r all stops = stops
run_all p (x ∷ q) r all stops =
    let here = run_some p x (q ++ r) (and_left (p x) (list_all p q) all) in
    let more = run_all p q r (and_right (p x) (list_all p q) all) stops in
    omega (arith, here, more)

all_at : (p : ℕ → Bool) (q : List ℕ) (i : ℕ) → list_all p q ≡ true → i < length q → p (get_or q i 0) ≡ true
all_at p [] i all less = absurd (omega (arith, less))
all_at p (x ∷ q) zero all less = and_left (p x) (list_all p q) all
all_at p (x ∷ q) (suc i) all less = all_at p q i (and_right (p x) (list_all p q) all) (omega (arith, less))

white_is_no_word : (x : ℕ) → is_quoted_word_byte x ≡ true → among " \t\n\r\u{c}" x ≡ false
white_is_no_word x e = among_none is_quoted_word_byte (codes " \t\n\r\u{c}") x refl e

passes_not_bar : (c : ℕ) → is_identifier_byte c ≡ true → (c == byte "|") ≡ false
passes_not_bar c e = elim (which (c == byte "|")) [
  | inl y ↦
      let same : c ≡ 124 = grind (arith, nat_tests, y) in
      let wrong : true ≡ false = sym e ∙ ap is_identifier_byte same in
      cc
  | inr y ↦ y
]

-- the piece of a byte that begins a word
pub word_piece : (x : ℕ) (s : List ℕ) → is_quoted_word_byte x ≡ true → piece_at (x ∷ s) ≡ word_at (x ∷ s)
word_piece x s word =
    let comment : opens_comment (x ∷ s) ≡ false = ap (λ v. v && is_at "*" 1 (x ∷ s)) (word_is_not 40 refl x word) in
    let attribute : (is_at "[" 0 (x ∷ s) && is_at "@" 1 (x ∷ s)) ≡ false = ap (λ v. v && is_at "@" 1 (x ∷ s)) (word_is_not 91 refl x word) in
    piece_tests (x ∷ s) false false comment attribute
    ∙ ap (λ t. cond t (piece.Trivia 1) (lexeme_at (x ∷ s))) (white_is_no_word x word)
    ∙ word_lexeme (x ∷ s) (word_byte_starts x word)

-- the bytes of a value name
record Named (w : List ℕ) : Type 0 where
  pub starts : starts_as_value_name w ≡ true
  pub short : is_long (length w) ≡ false
  pub bytes : list_all is_identifier_byte w ≡ true

not_long : (n : ℕ) → nat_le n 255 ≡ true → is_long n ≡ false
not_long n e = grind (arith, nat_tests, e)

named : (w : List ℕ) → is_value_name w ≡ true → Named w
named w e =
    let starts = starts_as_value_name w in
    let short = nat_le (length w) 255 in
    let free = not (is_reserved_word w) in
    let three = and_left (starts && short && free) (list_all is_identifier_byte w) e in
    let two = and_left (starts && short) free three in
    record {
      starts = and_left starts short two;
      short = not_long (length w) (and_right starts short two);
      bytes = and_right (starts && short && free) (list_all is_identifier_byte w) e;
    }

first_is_word : (x : ℕ) (w : List ℕ) → Named (x ∷ w) → is_quoted_word_byte x ≡ true
first_is_word x w n = n.starts

no_upper : (x : ℕ) → is_quoted_word_byte x ≡ true → is_ascii_uppercase x ≡ false
no_upper x e = elim (which (is_ascii_uppercase x)) [
  | inl y ↦ let r = word_range x e in absurd (grind (arith, nat_tests, y, r))
  | inr y ↦ y
]

class_tests : (w : List ℕ) → word_class w ≡ cond (is_ascii_uppercase (get_or w 0 0)) class.Upper (cond (is_value_name w) class.Lower class.Keyword)
unfolding word_class
class_tests w = refl

class_of_name : (x : ℕ) (w : List ℕ) → is_quoted_word_byte x ≡ true → is_value_name (x ∷ w) ≡ true → word_class (x ∷ w) ≡ class.Lower
class_of_name x w word e =
    class_tests (x ∷ w)
    ∙ ap (λ u. cond u class.Upper (cond (is_value_name (x ∷ w)) class.Lower class.Keyword)) (no_upper x word)
    ∙ ap (λ v. cond v class.Lower class.Keyword) e

-- the front of a Lower, and what follows it
pub record LowerFront (front rest : List ℕ) : Type 0 where
  pub some : 0 < length front
  pub word : is_quoted_word_byte (get_or front 0 0) ≡ true
  pub stops : prefix_len is_identifier_byte rest ≡ 0

-- a name in place of a Lower
pub name_piece : (w rest : List ℕ) → is_value_name w ≡ true → prefix_len is_identifier_byte rest ≡ 0
    → piece_at (w ++ rest) ≡ piece.Lexeme class.Lower (length w)
name_piece [] rest e stops = cc
name_piece (x ∷ w) rest e stops =
    let n = named (x ∷ w) e in
    let word = first_is_word x w n in
    let run : prefix_len is_identifier_byte (w ++ rest) ≡ length w =
    run_all is_identifier_byte w rest (and_right (is_identifier_byte x) (list_all is_identifier_byte w) n.bytes) stops in
    let size : word_length ((x ∷ w) ++ rest) ≡ suc (length w) = omega (arith, run) in
    word_piece x (w ++ rest) word
    ∙ word_at_length ((x ∷ w) ++ rest) (suc (length w)) size
    ∙ ap (λ t. cond t piece.LongName (piece.Lexeme (word_class (take (suc (length w)) ((x ∷ w) ++ rest))) (suc (length w)))) n.short
    ∙ ap (λ v. piece.Lexeme (word_class v) (suc (length w))) (take_front (x ∷ w) rest)
    ∙ ap (λ v. piece.Lexeme v (suc (length w))) (class_of_name x w word e)

pub name_starts : (w : List ℕ) → is_value_name w ≡ true → (0 < length w) × (is_quoted_word_byte (get_or w 0 0) ≡ true)
name_starts [] e = cc
name_starts (x ∷ w) e = (omega arith, first_is_word x w (named (x ∷ w) e))

-- what follows a word that ends with the front
pub word_stops : (k : Class) (x : ℕ) (f rest : List ℕ) → word_at ((x ∷ f) ++ rest) ≡ piece.Lexeme k (suc (length f))
    → prefix_len is_identifier_byte rest ≡ 0
word_stops k x f rest e =
    let n : word_length ((x ∷ f) ++ rest) ≡ suc (length f) = lexeme_of_cond _ _ _ _ _ (sym (word_at_length ((x ∷ f) ++ rest) _ refl) ∙ e) in
    let run : prefix_len is_identifier_byte (f ++ rest) ≡ length f = omega (arith, n) in
    run_stops is_identifier_byte f rest run

class_of_cond : (t : Bool) (kind k : Class) (n m : ℕ) → cond t piece.LongName (piece.Lexeme kind n) ≡ piece.Lexeme k m → kind ≡ k
class_of_cond true kind k n m e = cc
class_of_cond false kind k n m e = cc

lower_of_cond : (u v : Bool) → cond u class.Upper (cond v class.Lower class.Keyword) ≡ class.Lower → v ≡ true
lower_of_cond true v e = cc
lower_of_cond false true e = refl
lower_of_cond false false e = cc

first_of_lower : (x : ℕ) (w : List ℕ) → word_class (x ∷ w) ≡ class.Lower → is_quoted_word_byte x ≡ true
first_of_lower x w e = first_is_word x w
    (named (x ∷ w) (lower_of_cond (is_ascii_uppercase x) (is_value_name (x ∷ w)) (sym (class_tests (x ∷ w)) ∙ e)))

pub lower_front : (x : ℕ) (f rest : List ℕ) → piece_at ((x ∷ f) ++ rest) ≡ piece.Lexeme class.Lower (suc (length f)) → LowerFront (x ∷ f) rest
lower_front x f rest e =
    let at = lower_is_word ((x ∷ f) ++ rest) _ (lexeme_of_piece ((x ∷ f) ++ rest) class.Lower _ e) in
    let n : word_length ((x ∷ f) ++ rest) ≡ suc (length f) = lexeme_of_cond _ _ _ _ _ (sym (word_at_length ((x ∷ f) ++ rest) _ refl) ∙ at) in
    let kind = class_of_cond _ _ _ _ _ (sym (word_at_length ((x ∷ f) ++ rest) (suc (length f)) n) ∙ at) in
    record { some = omega arith; word = first_of_lower x (take (length f) (f ++ rest)) kind; stops = word_stops class.Lower x f rest at }

no_word_run : (r : List ℕ) → prefix_len is_identifier_byte r ≡ 0 → prefix_len is_quoted_word_byte r ≡ 0
no_word_run [] e = refl
no_word_run (c ∷ r) e = elim (which (is_quoted_word_byte c)) [
  | inl y ↦ let more = run_some is_identifier_byte c r (word_byte_is_identifier c y) in absurd (omega (arith, more, e))
  | inr y ↦ run_none is_quoted_word_byte c r y
]

run_within : (p : ℕ → Bool) (q r : List ℕ) → prefix_len p r ≡ 0 → prefix_len p (q ++ r) ≤ length q
run_within p [] r e = omega (arith, e)
run_within p (x ∷ q) r e = elim (which (p x)) [
  | inl y ↦ let more = run_within p q r e in let here = run_some p x (q ++ r) y in omega (arith, more, here)
  | inr y ↦ let here = run_none p x (q ++ r) y in omega (arith, here)
]

run_bound : (q r : List ℕ) → prefix_len is_quoted_word_byte r ≡ 0 → prefix_len is_quoted_word_byte (q ++ r) ≤ length q
run_bound q r e = run_within is_quoted_word_byte q r e

-- the run of quoted word bytes from the front of a piece ends with it at the latest
pub run_of_piece : (k : Class) (x : ℕ) (f rest : List ℕ) → piece_at ((x ∷ f) ++ rest) ≡ piece.Lexeme k (suc (length f))
    → prefix_len is_quoted_word_byte ((x ∷ f) ++ rest) ≤ suc (length f)
run_of_piece k x f rest e = elim (which (is_quoted_word_byte x)) [
  | inl y ↦ run_bound (x ∷ f) rest (no_word_run rest (word_stops k x f rest (sym (word_piece x (f ++ rest) y) ∙ e)))
  | inr y ↦ let none = run_none is_quoted_word_byte x (f ++ rest) y in omega (arith, none)
]

long_or_word : (t : Bool) (kind : Class) (n m : ℕ) → cond t piece.LongName (piece.Lexeme kind n) ≡ piece.Trivia m → ⊥
long_or_word true kind n m e = cc
long_or_word false kind n m e = cc

pub run_of_trivia : (x : ℕ) (f rest : List ℕ) → piece_at ((x ∷ f) ++ rest) ≡ piece.Trivia (suc (length f))
    → prefix_len is_quoted_word_byte ((x ∷ f) ++ rest) ≤ suc (length f)
run_of_trivia x f rest e = elim (which (is_quoted_word_byte x)) [
  | inl y ↦ absurd (long_or_word _ _ _ _ (sym (word_at_length ((x ∷ f) ++ rest) _ refl) ∙ sym (word_piece x (f ++ rest) y) ∙ e))
  | inr y ↦ let none = run_none is_quoted_word_byte x (f ++ rest) y in omega (arith, none)
]

-- if a name opens a Quoted, a `|` follows it
pub name_opens : (w rest : List ℕ) → is_value_name w ≡ true → prefix_len is_identifier_byte rest ≡ 0 → (get_or rest 0 0 == byte "|") ≡ false
    → opens_quoted (123 ∷ (w ++ rest)) ≡ false
name_opens w rest e stops bar =
    let n = named w e in
    let run = prefix_len is_quoted_word_byte (w ++ rest) in
    let bound = run_bound w rest (no_word_run rest stops) in
    elim (le_or_lt (length w) run) [
      | inl all ↦
          let exact : run ≡ length w = omega (arith, all, bound) in
          brace_opens (w ++ rest) (length w) exact ∙ ap (λ v. v == byte "|") (byte_behind w rest) ∙ bar
      | inr less ↦
          brace_opens (w ++ rest) run refl ∙ ap (λ v. v == byte "|") (byte_of_front w rest run less)
          ∙ passes_not_bar (get_or w run 0) (all_at is_identifier_byte w run n.bytes less)
    ]
