-- Each file of bytes is cut into lexemes, or a fault is first.
use Rattle.std.proofs.Common.{◌≡◌, ◌⊎◌, inl, inr, ℕ, zero, suc, ◌+◌, ◌<◌, ◌≤◌, List, [], ◌∷◌, ◌++◌, false, true, length, take, drop, refl, sym, ap}
use Rattle.std.proofs.Common.{◌∙◌, arith, length-append}
use Rattle.std.specs.Prelude.{IsTrue, codes}
use Rattle.std.proofs.lemmas.List.{length-take, take-append-drop}
use Rattle.rotor_base.specs.declared.token.Class.{Class}
use Rattle.rotor_base.specs.declared.token.Class.TheVariants as class
use Rattle.rotor_base.specs.Name.{is_keyword_word, is_reserved_word}
use Rattle.ml_lexer.specs.declared.number.Base.{Base}
use Rattle.ml_lexer.specs.declared.piece.Piece.{Piece}
use Rattle.ml_lexer.specs.declared.piece.Piece.TheVariants as piece
use Rattle.ml_lexer.specs.Lexed.{Fault, FaultFrom, Lexeme, LexedFrom, Bad, LongName}
use Rattle.ml_lexer.specs.Pieces.{piece_at}
use Rattle.lexeme_laws.specs.Begins.{Begins}
use Rattle.lexeme_laws.specs.Table.{AreDigits, IsChar, IsFloat, IsInt, IsLabel, IsOfClass, IsQuoted, IsTextLexeme, is_marked_word}
use Rattle.lexeme_laws.specs.Table as table
use Rattle.lexeme_laws.specs.Trivia.{AttributeEnds, CommentEnds, TriviaEnds}
use Rattle.lexeme_laws.specs.Trivia as ends
use Rattle.lexeme_laws.proofs.Taken.{lexemes_begin}
use Rattle.lexeme_laws.proofs.TriviaSound.{trivia_begin}
use Rattle.decided_readings.specs.Laws.{FilesAreCut}

-- ---- a lexeme has a byte

no_digits : (base : Base) (text : List ℕ) → AreDigits base text → 0 < length text
no_digits base text (table.decimal first rest d ds) = omega arith
no_digits base text (table.based b letter first rest l d ds) = omega arith

int_has : (text : List ℕ) → IsInt text → 0 < length text
int_has text (table.int base digits suffix d s) = omega (arith, length-append digits suffix, no_digits base digits d)

float_has : (text : List ℕ) → IsFloat text → 0 < length text
float_has text (table.with_fraction base digits point d p f) = omega (arith, length-append digits point, no_digits base digits d)
float_has text (table.with_exponent base digits power d p f) = omega (arith, length-append digits power, no_digits base digits d)
float_has text (table.with_both base digits point power d p e f) =
    omega (arith, length-append digits (point ++ power), no_digits base digits d)

char_has : (text : List ℕ) → IsChar text → 0 < length text
char_has text (table.plain c h) = omega arith
char_has text (table.short c h) = omega arith
char_has text (table.decimal a b c h i j) = omega arith
char_has text (table.hexadecimal a b h i) = omega arith
char_has text (table.octal a b c h i j) = omega arith

text_has : (text : List ℕ) → IsTextLexeme text → 0 < length text
text_has text (table.closed body h) = omega arith

quoted_has : (text : List ℕ) → IsQuoted text → 0 < length text
quoted_has text (table.quoted word rest h i) = omega arith

label_has : (text : List ℕ) → IsLabel text → 0 < length text
label_has text (table.without_colon word h) = by word h where
  by : (word : List ℕ) → IsTrue (is_marked_word "~?" word) → 0 < length word
  by [] h = let bad : false ≡ true = h in cc
  by (c ∷ word) h = omega arith
label_has text (table.with_colon word h) =
    let size : length (codes ":") ≡ 1 = refl in
    omega (arith, length-append word (codes ":"), size)

no_word : IsTrue (is_reserved_word []) → ⊥
unfolding is_keyword_word
no_word h = let bad : false ≡ true = h in cc

lexeme_has : (kind : Class) (text : List ℕ) → IsOfClass kind text → 0 < length text
lexeme_has class.Int text h = int_has text h
lexeme_has class.Float text h = float_has text h
lexeme_has class.Char text h = char_has text h
lexeme_has class.Text text h = text_has text h
lexeme_has class.Quoted text h = quoted_has text h
lexeme_has class.Label text h = label_has text h
lexeme_has kind (c ∷ text) h = omega arith
lexeme_has class.Lower [] h = let bad : false ≡ true = h in cc
lexeme_has class.Upper [] h = let bad : false ≡ true = h in cc
lexeme_has class.Keyword [] h = absurd (no_word h)
lexeme_has class.TypeVar [] h = let bad : false ≡ true = h in cc
lexeme_has class.Tag [] h = let bad : false ≡ true = h in cc
lexeme_has class.Prefix [] h = let bad : false ≡ true = h in cc
lexeme_has class.Infix [] h = let bad : false ≡ true = h in cc
lexeme_has class.Mark [] h = let bad : false ≡ true = h in cc

-- ---- a trivia has a byte

comment_has : (bytes behind : List ℕ) → CommentEnds bytes behind → length behind < length bytes
comment_has bytes behind (ends.closed rest) =
    let size : length (codes "*)") ≡ 2 = refl in
    omega (arith, length-append (codes "*)") rest, size)
comment_has bytes behind (ends.nested inside middle rest one two) =
    omega (arith, length-append (codes "(*") inside, comment_has inside middle one, comment_has middle rest two)
comment_has bytes behind (ends.skipped front rest after skipped more) = omega (arith, length-append front rest, comment_has rest after more)
comment_has bytes behind (ends.plain c rest after opens closes plain more) = omega (arith, comment_has rest after more)

attribute_has : (bytes behind : List ℕ) → AttributeEnds bytes behind → length behind < length bytes
attribute_has bytes behind (ends.closed rest) =
    let size : length (codes "]") ≡ 1 = refl in
    omega (arith, length-append (codes "]") rest, size)
attribute_has bytes behind (ends.nested inside middle rest one two) =
    omega (arith, length-append (codes "[") inside, attribute_has inside middle one, attribute_has middle rest two)
attribute_has bytes behind (ends.comment inside middle rest one two) =
    omega (arith, length-append (codes "(*") inside, comment_has inside middle one, attribute_has middle rest two)
attribute_has bytes behind (ends.skipped front rest after skipped more) = omega (arith, length-append front rest, attribute_has rest after more)
attribute_has bytes behind (ends.plain c rest after opens brackets plain more) = omega (arith, attribute_has rest after more)

trivia_has : (bytes behind : List ℕ) → TriviaEnds bytes behind → length behind < length bytes
trivia_has bytes behind (ends.blank c rest h) = omega arith
trivia_has bytes behind (ends.comment inside rest h) = omega (arith, length-append (codes "(*") inside, comment_has inside rest h)
trivia_has bytes behind (ends.attribute inside rest h) = omega (arith, length-append (codes "[@") inside, attribute_has inside rest h)

-- ---- pieces lie within the bytes

some_lexeme : (bytes : List ℕ) (kind : Class) (n : ℕ) → piece_at bytes ≡ piece.Lexeme kind n → (0 < n) × (n ≤ length bytes)
some_lexeme bytes kind n e =
    let begins : Begins kind n bytes = lexemes_begin bytes kind n e in
    (omega (arith, lexeme_has kind (take n bytes) begins.1, length-take n bytes), begins.0)

some_trivia : (bytes : List ℕ) (n : ℕ) → piece_at bytes ≡ piece.Trivia n → (0 < n) × (n ≤ length bytes)
some_trivia bytes zero e = let less = trivia_has bytes bytes (trivia_begin bytes zero e).1 in absurd (omega (arith, less))
some_trivia bytes (suc n) e = (omega arith, (trivia_begin bytes (suc n) e).0)

-- ---- the cutting

abbrev IsCutFrom : ℕ → List ℕ → Type 0
IsCutFrom at bytes = ((xs : List Lexeme) × LexedFrom at bytes xs) ⊎ ((fault : Fault) × FaultFrom at bytes fault)

module _ (bytes : List ℕ) (n : ℕ) (fits : n ≤ length bytes) where
  abbrev front : List ℕ
  front = take n bytes

  abbrev rest : List ℕ
  rest = drop n bytes

  whole : bytes ≡ front ++ rest
  whole = sym (take-append-drop n bytes)

  long : length front ≡ n
  long = omega (arith, length-take n bytes, fits)

  shorter : 0 < n → length rest < length bytes
  shorter some = omega (arith, length-append front rest, ap (λ (w : List ℕ). length w) whole, long, some)

module _ (fuel : ℕ) (more : (at : ℕ) (bytes : List ℕ) → length bytes ≤ fuel → IsCutFrom at bytes) (at : ℕ) (bytes : List ℕ)
    (fits : length bytes ≤ suc fuel) (filled : bytes ≡ [] → ⊥) where
  next : (p : Piece) → piece_at bytes ≡ p → IsCutFrom at bytes
  next (piece.Trivia n) e =
      let some = some_trivia bytes n e in
      let is = e ∙ ap (λ (k : ℕ). piece.Trivia k) (sym (long bytes n some.1)) in
      elim (more (at + length (front bytes n some.1)) (rest bytes n some.1) (omega (arith, fits, shorter bytes n some.1 some.0))) [
        | inl xs ↦ inl (xs.0, LexedFrom.trivia (front bytes n some.1) (rest bytes n some.1) (whole bytes n some.1) is xs.1)
        | inr f ↦ inr (f.0, FaultFrom.trivia (front bytes n some.1) (rest bytes n some.1) (whole bytes n some.1) is f.1)
      ]
  next (piece.Lexeme kind n) e =
      let some = some_lexeme bytes kind n e in
      let is = e ∙ ap (λ (k : ℕ). piece.Lexeme kind k) (sym (long bytes n some.1)) in
      elim (more (at + length (front bytes n some.1)) (rest bytes n some.1) (omega (arith, fits, shorter bytes n some.1 some.0))) [
        | inl xs ↦ inl (_, LexedFrom.lexeme kind (front bytes n some.1) (rest bytes n some.1) (whole bytes n some.1) is xs.1)
        | inr f ↦ inr (f.0, FaultFrom.lexeme kind (front bytes n some.1) (rest bytes n some.1) (whole bytes n some.1) is f.1)
      ]
  next piece.Bad e = inr (Bad at, FaultFrom.bad filled e)
  next piece.LongName e = inr (LongName at, FaultFrom.long_name e)

cut_from : (fuel at : ℕ) (bytes : List ℕ) → length bytes ≤ fuel → IsCutFrom at bytes
cut_from fuel at [] less = inl ([], LexedFrom.nothing)
cut_from zero at (b ∷ bs) less = absurd (omega (arith, less))
cut_from (suc fuel) at (b ∷ bs) less = next fuel (cut_from fuel) at (b ∷ bs) less (λ none. cc) (piece_at (b ∷ bs)) refl

pub files_are_cut : FilesAreCut
files_are_cut bytes = cut_from (length bytes) 0 bytes (omega arith)
