-- Replaced names keep the lexemes.
use Rattle.std.proofs.Common.{◌≡◌, ℕ, suc, ◌+◌, ◌-◌, ◌<◌, ◌≤◌, inl, inr, List, [], ◌∷◌, ◌++◌, true, false, ◌==◌, length, take, drop, get_or, refl, ap}
use Rattle.std.proofs.Common.{sym, ◌∙◌, arith, drop-drop, get_or-drop}
use Rattle.std.specs.Str.{byte}
use Rattle.std.proofs.Math.Seq.{drop-append_seam}
use Rattle.std.proofs.lemmas.Bool.Decides.{nat_tests}
use Rattle.rotor_base.specs.Name.{is_identifier_byte, is_value_name}
use Rattle.rotor_base.specs.declared.token.Class.{Class}
use Rattle.rotor_base.specs.declared.token.Class.TheVariants as class
use Rattle.ml_lexer.specs.declared.piece.Piece.{Piece}
use Rattle.ml_lexer.specs.declared.piece.Piece.TheVariants as piece
use Rattle.ml_lexer.specs.Bytes.{is_quoted_word_byte}
use Rattle.ml_lexer.specs.Quotes.{opens_quoted}
use Rattle.ml_lexer.specs.Pieces.{piece_at}
use Rattle.ml_lexer.specs.Lexed.{Lexeme, LexedFrom, Lexed}
use Rattle.ml_lexer.specs.Lexed as lexed
use Rattle.ml_lexer.specs.Respelled.{StandsInBraces, MayBecome, AllMayBecome, respelled_from, respelled_lexemes_from, RespelledKeepLexemes}
use Rattle.ml_lexer.proofs.OneCutting.{end_piece}
use Rattle.ml_lexer.proofs.Local.{Alike, both_end, same_byte, both_words, which, alike_test}
use Rattle.ml_lexer.proofs.Words.{alike_stops, word_byte_is_identifier}
use Rattle.ml_lexer.proofs.Signs.{byte_behind}
use Rattle.ml_lexer.proofs.Marks.{word_is_not}
use Rattle.ml_lexer.proofs.Fronts.{piece_same, trivia_same, opens_front, lexeme_of_piece, quoted_is_long}
use Rattle.ml_lexer.proofs.Replaced.{lower_front, name_piece, name_starts, name_opens, run_of_piece, run_of_trivia}

lexeme_sizes : (kind k : Class) (n m : ℕ) → ◌≡◌ {A = Piece} (piece.Lexeme kind n) (piece.Lexeme k m) → n ≡ m
lexeme_sizes kind k n m e = cc

trivia_sizes : (n m : ℕ) → ◌≡◌ {A = Piece} (piece.Trivia n) (piece.Trivia m) → n ≡ m
trivia_sizes n m e = cc

-- no cutting has an empty piece
pub no_still_lexeme : {at : ℕ} {bytes : List ℕ} {lexemes : List Lexeme} → LexedFrom at bytes lexemes → (k : Class) → piece_at bytes ≡ piece.Lexeme k 0
    → ⊥
no_still_lexeme lexed.nothing k h = let ends = end_piece in cc
no_still_lexeme (lexed.trivia front rest e p cut) k h = cc
no_still_lexeme (lexed.lexeme kind [] rest e p cut) k h = no_still_lexeme cut k (ap piece_at (sym e) ∙ h)
no_still_lexeme (lexed.lexeme kind (x ∷ front) rest e p cut) k h = let n = lexeme_sizes kind k (suc (length front)) 0 (sym p ∙ h) in omega (arith, n)

pub no_still_trivia : {at : ℕ} {bytes : List ℕ} {lexemes : List Lexeme} → LexedFrom at bytes lexemes → piece_at bytes ≡ piece.Trivia 0 → ⊥
no_still_trivia lexed.nothing h = let ends = end_piece in cc
no_still_trivia (lexed.lexeme kind front rest e p cut) h = cc
no_still_trivia (lexed.trivia [] rest e p cut) h = no_still_trivia cut (ap piece_at (sym e) ∙ h)
no_still_trivia (lexed.trivia (x ∷ front) rest e p cut) h = let n = trivia_sizes (suc (length front)) 0 (sym p ∙ h) in omega (arith, n)

-- the first lexeme does not begin or end before the offset
abbrev pub From : ℕ → List Lexeme → Type 0
From at [] = Unit {0}
From at (old ∷ olds) = (at ≤ old.start) × (at ≤ old.end)

from_less : (low at : ℕ) (olds : List Lexeme) → low ≤ at → From at olds → From low olds
from_less low at [] less from = from
from_less low at (old ∷ olds) less from = let a = from.0 in let b = from.1 in (omega (arith, less, a), omega (arith, less, b))

pub from_cut : {at : ℕ} {bytes : List ℕ} {lexemes : List Lexeme} → LexedFrom at bytes lexemes → From at lexemes
from_cut lexed.nothing = tt
from_cut (lexed.trivia {at = at} {lexemes = lexemes} front rest e p cut) = from_less at (at + length front) lexemes (omega arith) (from_cut cut)
from_cut (lexed.lexeme kind front rest e p cut) = (omega arith, omega arith)

take_past : (front rest : List ℕ) (i : ℕ) → take (length front + i) (front ++ rest) ≡ front ++ take i rest
take_past [] rest i = let none : 0 + i ≡ i = omega arith in ap (λ j. take j rest) none
take_past (x ∷ front) rest i =
    let step : suc (length front) + i ≡ suc (length front + i) = omega arith in
    ap (λ j. take j (x ∷ (front ++ rest))) step ∙ ap (λ l. x ∷ l) (take_past front rest i)

drop_past : (front rest : List ℕ) (i : ℕ) → drop (length front + i) (front ++ rest) ≡ drop i rest
drop_past [] rest i = let none : 0 + i ≡ i = omega arith in ap (λ j. drop j rest) none
drop_past (x ∷ front) rest i =
    let step : suc (length front) + i ≡ suc (length front + i) = omega arith in
    ap (λ j. drop j (x ∷ (front ++ rest))) step ∙ drop_past front rest i

append_more : (a b c : List ℕ) → (a ++ b) ++ c ≡ a ++ (b ++ c)
append_more [] b c = refl
append_more (x ∷ a) b c = ap (λ l. x ∷ l) (append_more a b c)

-- trivia in front stays
pub skip_bytes : (at : ℕ) (front rest : List ℕ) (olds : List Lexeme) (words : List (List ℕ)) → From (at + length front) olds
    → respelled_from at (front ++ rest) olds words ≡ front ++ respelled_from (at + length front) rest olds words
skip_bytes at front rest [] words from = refl
skip_bytes at front rest (old ∷ olds) [] from = refl
skip_bytes at front rest (old ∷ olds) (word ∷ words) from =
    let low = from.0 in
    let high = from.1 in
    let start : old.start - at ≡ length front + (old.start - (at + length front)) = omega (arith, low) in
    let end : old.end - at ≡ length front + (old.end - (at + length front)) = omega (arith, high) in
    ap (λ i. take i (front ++ rest) ++ word ++ respelled_from old.end (drop (old.end - at) (front ++ rest)) olds words) start
    ∙ ap (λ l. l ++ word ++ respelled_from old.end (drop (old.end - at) (front ++ rest)) olds words)
    (take_past front rest (old.start - (at + length front)))
    ∙ ap (λ l. (front ++ take (old.start - (at + length front)) rest) ++ word ++ respelled_from old.end l olds words)
    (ap (λ i. drop i (front ++ rest)) end ∙ drop_past front rest (old.end - (at + length front)))
    ∙ ap (λ l. l ++ respelled_from old.end (drop (old.end - (at + length front)) rest) olds words)
    (append_more front (take (old.start - (at + length front)) rest) word)
    ∙ append_more front (take (old.start - (at + length front)) rest ++ word)
    (respelled_from old.end (drop (old.end - (at + length front)) rest) olds words)

-- the lexeme of a word from an offset on
abbrev pub lexeme_of : Class → ℕ → List ℕ → Lexeme
lexeme_of kind start word = record { class = kind; start = start; end = start + length word; bytes = word }

pub skip_lexemes : (at now n : ℕ) (olds : List Lexeme) (words : List (List ℕ)) → From (at + n) olds
    → respelled_lexemes_from at now olds words ≡ respelled_lexemes_from (at + n) (now + n) olds words
skip_lexemes at now n [] words from = refl
skip_lexemes at now n (old ∷ olds) [] from = refl
skip_lexemes at now n (old ∷ olds) (word ∷ words) from =
    let low = from.0 in
    let start : now + (old.start - at) ≡ (now + n) + (old.start - (at + n)) = omega (arith, low) in
    ap (λ s. lexeme_of old.class s word ∷ respelled_lexemes_from old.end (s + length word) olds words) start

-- the lexeme that begins here is respelled here
pub here_bytes : (at : ℕ) (kind : Class) (front rest word : List ℕ) (olds : List Lexeme) (words : List (List ℕ))
    → respelled_from at (front ++ rest) (record { class = kind; start = at; end = at + length front; bytes = front } ∷ olds) (word ∷ words) ≡ word
    ++ respelled_from (at + length front) rest olds words
here_bytes at kind front rest word olds words =
    let start : at - at ≡ 0 = omega arith in
    let end : (at + length front) - at ≡ length front = omega arith in
    ap (λ i. take i (front ++ rest) ++ word ++ respelled_from (at + length front) (drop ((at + length front) - at) (front ++ rest)) olds words) start
    ∙ ap (λ l. word ++ respelled_from (at + length front) l olds words) (ap (λ i. drop i (front ++ rest)) end ∙ drop-append_seam front rest)

pub here_lexemes : (at now : ℕ) (kind : Class) (front word : List ℕ) (olds : List Lexeme) (words : List (List ℕ))
    → respelled_lexemes_from at now (record { class = kind; start = at; end = at + length front; bytes = front } ∷ olds)
    (word ∷ words) ≡ lexeme_of kind now word ∷ respelled_lexemes_from (at + length front) (now + length word) olds words
here_lexemes at now kind front word olds words =
    let start : now + (at - at) ≡ now = omega arith in
    ap (λ s. lexeme_of kind s word ∷ respelled_lexemes_from (at + length front) (s + length word) olds words) start

-- The bytes from an offset on are cut as before, and their front is alike. Behind a `{` they open no Quoted, if they
-- opened none before.
record Kept (whole : List ℕ) (at now : ℕ) (bytes bytes' : List ℕ) (lexemes : List Lexeme) : Type 0 where
  pub cut : LexedFrom now bytes' lexemes
  pub alike : Alike bytes bytes'
  pub brace : (before : ℕ) → at ≡ suc before → get_or whole before 0 ≡ 123 → opens_quoted (123 ∷ bytes) ≡ false → opens_quoted (123 ∷ bytes') ≡ false

kept_as : {whole : List ℕ} {at now : ℕ} {bytes bytes' same same' : List ℕ} {lexemes same_lexemes : List Lexeme} → same ≡ bytes → same' ≡ bytes'
    → same_lexemes ≡ lexemes → Kept whole at now bytes bytes' lexemes → Kept whole at now same same' same_lexemes
kept_as e f g k = rw (e, f, g) k

-- trivia stays
keep_trivia : (whole : List ℕ) (at now x : ℕ) (f rest rest' : List ℕ) (lexemes : List Lexeme)
    → piece_at ((x ∷ f) ++ rest) ≡ piece.Trivia (suc (length f)) → Kept whole (at + suc (length f)) (now + suc (length f)) rest rest' lexemes
    → Kept whole at now ((x ∷ f) ++ rest) ((x ∷ f) ++ rest') lexemes
keep_trivia whole at now x f rest rest' lexemes p k = record {
  cut = lexed.trivia (x ∷ f) rest' refl (trivia_same x f rest rest' k.alike p) k.cut;
  alike = same_byte;
  brace = λ before e b shut. opens_front (x ∷ f) rest rest' k.alike (run_of_trivia x f rest p) ∙ shut;
}

-- a byte of the whole file
byte_of_whole : (whole : List ℕ) (at i : ℕ) (bytes : List ℕ) → drop at whole ≡ bytes → get_or whole (at + i) 0 ≡ get_or bytes i 0
byte_of_whole whole at i bytes e = sym (get_or-drop at whole i 0) ∙ ap (λ l. get_or l i 0) e

rest_of_whole : (whole : List ℕ) (at : ℕ) (front rest : List ℕ) → drop at whole ≡ front ++ rest → drop (at + length front) whole ≡ rest
rest_of_whole whole at front rest e = sym (drop-drop (length front) at whole) ∙ ap (drop (length front)) e ∙ drop-append_seam front rest

plus_zero : (n : ℕ) → n + 0 ≡ n
plus_zero n = omega arith

-- a Mark of one byte opens no Quoted
pub lone_opens : (kind : Class) (rest : List ℕ) → piece_at (123 ∷ rest) ≡ piece.Lexeme kind 1 → opens_quoted (123 ∷ rest) ≡ true → ⊥
lone_opens kind rest p opened = quoted_is_long kind rest 1 (lexeme_of_piece (123 ∷ rest) kind 1 p) opened (omega arith)

-- the Quoted that a lone `{` does not open
lone_brace : (whole : List ℕ) (kind : Class) (at now x : ℕ) (f rest rest' : List ℕ) (lexemes : List Lexeme) → drop at whole ≡ (x ∷ f) ++ rest
    → piece_at ((x ∷ f) ++ rest) ≡ piece.Lexeme kind (suc (length f)) → Kept whole (at + suc (length f)) now rest rest' lexemes → x ≡ 123 → f ≡ []
    → opens_quoted (123 ∷ rest') ≡ opens_quoted (123 ∷ rest)
lone_brace whole kind at now x f rest rest' lexemes w p k is_brace empty = elim (which (opens_quoted (123 ∷ rest))) [
  | inl opened ↦ absurd (lone_opens kind rest
      (ap (λ g. piece_at (123 ∷ (g ++ rest))) (sym empty) ∙ ap (λ c. piece_at (c ∷ (f ++ rest))) (sym is_brace) ∙ p
      ∙ ap (λ g. piece.Lexeme kind (suc (length g))) empty) opened)
  | inr shut ↦
      let none : length f ≡ 0 = ap length empty in
      let here : at + suc (length f) ≡ suc at = omega (arith, none) in
      let first : get_or whole at 0 ≡ 123 = ap (λ i. get_or whole i 0) (sym (plus_zero at)) ∙ byte_of_whole whole at 0 ((x ∷ f) ++ rest) w
      ∙ is_brace in
      k.brace at here first shut ∙ sym shut
]

-- a lexeme that keeps its bytes
keep_lexeme : (whole : List ℕ) (kind : Class) (at now x : ℕ) (f rest rest' : List ℕ) (lexemes : List Lexeme) → drop at whole ≡ (x ∷ f) ++ rest
    → piece_at ((x ∷ f) ++ rest) ≡ piece.Lexeme kind (suc (length f)) → Kept whole (at + suc (length f)) (now + suc (length f)) rest rest' lexemes
    → Kept whole at now ((x ∷ f) ++ rest) ((x ∷ f) ++ rest')
    (record { class = kind; start = now; end = now + suc (length f); bytes = x ∷ f } ∷ lexemes)
keep_lexeme whole kind at now x f rest rest' lexemes w p k = record {
  cut = lexed.lexeme kind (x ∷ f) rest' refl
      (piece_same kind x f rest rest' k.alike (lone_brace whole kind at (now + suc (length f)) x f rest rest' lexemes w p k) p) k.cut;
  alike = same_byte;
  brace = λ before e b shut. opens_front (x ∷ f) rest rest' k.alike (run_of_piece kind x f rest p) ∙ shut;
}

pub alike_words : (front word rest rest' : List ℕ) → 0 < length front → is_quoted_word_byte (get_or front 0 0) ≡ true → 0 < length word
    → is_quoted_word_byte (get_or word 0 0) ≡ true → Alike (front ++ rest) (word ++ rest')
alike_words [] word rest rest' some e some' e' = absurd (omega (arith, some))
alike_words (x ∷ f) [] rest rest' some e some' e' = absurd (omega (arith, some'))
alike_words (x ∷ f) (y ∷ g) rest rest' some e some' e' = both_words e e'

-- the exception: no `|` behind a name in braces
no_bar_behind : (whole : List ℕ) (at x : ℕ) (f rest rest' : List ℕ) → drop at whole ≡ (x ∷ f) ++ rest
    → (StandsInBraces whole (record { class = class.Lower; start = at; end = at + suc (length f); bytes = x ∷ f }) → ⊥) → Alike rest rest'
    → (before : ℕ) → at ≡ suc before → get_or whole before 0 ≡ 123 → (get_or rest' 0 0 == byte "|") ≡ false
no_bar_behind whole at x f rest rest' w free alike before e b = elim (which (get_or rest' 0 0 == byte "|")) [
  | inr nay ↦ nay
  | inl aye ↦
      let was : (get_or rest 0 0 == byte "|") ≡ true = alike_test (λ v. v == byte "|") false (word_is_not (byte "|") refl) alike ∙ aye in
      let bar : get_or rest 0 0 ≡ 124 = grind (arith, nat_tests, was) in
      let behind : get_or whole (at + suc (length f)) 0 ≡ 124 = byte_of_whole whole at (suc (length f)) ((x ∷ f) ++ rest) w ∙ byte_behind (x ∷ f) rest
      ∙ bar in
      absurd (free (before, e, b, behind))
]

-- a Lower that gets a name
keep_name : (whole : List ℕ) (at now x : ℕ) (f rest rest' word : List ℕ) (lexemes : List Lexeme) → drop at whole ≡ (x ∷ f) ++ rest
    → piece_at ((x ∷ f) ++ rest) ≡ piece.Lexeme class.Lower (suc (length f)) → is_value_name word ≡ true
    → (StandsInBraces whole (record { class = class.Lower; start = at; end = at + suc (length f); bytes = x ∷ f }) → ⊥)
    → Kept whole (at + suc (length f)) (now + length word) rest rest' lexemes
    → Kept whole at now ((x ∷ f) ++ rest) (word ++ rest')
    (record { class = class.Lower; start = now; end = now + length word; bytes = word } ∷ lexemes)
keep_name whole at now x f rest rest' word lexemes w p name free k =
    let front = lower_front x f rest p in
    let starts = name_starts word name in
    let stops = alike_stops is_identifier_byte true word_byte_is_identifier k.alike front.stops in
    record {
      cut = lexed.lexeme class.Lower word rest' refl (name_piece word rest' name stops) k.cut;
      alike = alike_words (x ∷ f) word rest rest' front.some front.word starts.0 starts.1;
      brace = λ before e b shut. name_opens word rest' name stops (no_bar_behind whole at x f rest rest' w free k.alike before e b);
    }

keep_either : (whole : List ℕ) (kind : Class) (at now x : ℕ) (f rest rest' word : List ℕ) (lexemes : List Lexeme) → drop at whole ≡ (x ∷ f) ++ rest
    → piece_at ((x ∷ f) ++ rest) ≡ piece.Lexeme kind (suc (length f))
    → MayBecome whole (record { class = kind; start = at; end = at + suc (length f); bytes = x ∷ f }) word
    → Kept whole (at + suc (length f)) (now + length word) rest rest' lexemes
    → Kept whole at now ((x ∷ f) ++ rest) (word ++ rest') (record { class = kind; start = now; end = now + length word; bytes = word } ∷ lexemes)
keep_either whole kind at now x f rest rest' word lexemes w p (inl same) k =
    rw same (keep_lexeme whole kind at now x f rest rest' lexemes w p (rw same at k))
keep_either whole kind at now x f rest rest' word lexemes w p (inr named) k =
    let lower : kind ≡ class.Lower = named.0 in
    rw lower (keep_name whole at now x f rest rest' word lexemes w (p ∙ ap (λ c. piece.Lexeme c (suc (length f))) lower) named.1
    (λ stands. named.2 stands) k)

kept : (whole : List ℕ) {at : ℕ} {bytes : List ℕ} {olds : List Lexeme} (now : ℕ) (words : List (List ℕ)) → LexedFrom at bytes olds
    → drop at whole ≡ bytes → AllMayBecome whole olds words → Kept whole at now bytes (respelled_from at bytes olds words)
    (respelled_lexemes_from at now olds words)
kept whole now words lexed.nothing w all = record { cut = lexed.nothing; alike = both_end; brace = λ before e b shut. shut }
kept whole now words (lexed.trivia [] rest e p cut) w all = absurd (no_still_trivia cut (ap piece_at (sym e) ∙ p))
kept whole now words (lexed.trivia {at = at} {lexemes = olds} (x ∷ f) rest e p cut) w all =
    let more = kept whole (now + suc (length f)) words cut (rest_of_whole whole at (x ∷ f) rest (w ∙ e)) all in
    let from = from_cut cut in
    kept_as e (ap (λ l. respelled_from at l olds words) e ∙ skip_bytes at (x ∷ f) rest olds words from)
    (skip_lexemes at now (suc (length f)) olds words from)
    (keep_trivia whole at now x f rest _ _ (ap piece_at (sym e) ∙ p) more)
kept whole now [] (lexed.lexeme kind front rest e p cut) w all = absurd all
kept whole now (word ∷ words) (lexed.lexeme kind [] rest e p cut) w all = absurd (no_still_lexeme cut kind (ap piece_at (sym e) ∙ p))
kept whole now (word ∷ words) (lexed.lexeme {at = at} {lexemes = olds} kind (x ∷ f) rest e p cut) w all =
    let more = kept whole (now + length word) words cut (rest_of_whole whole at (x ∷ f) rest (w ∙ e)) all.1 in
    kept_as e (ap (λ l. respelled_from at l (record { class = kind; start = at; end = at + suc (length f); bytes = x ∷ f } ∷ olds) (word ∷ words)) e
    ∙ here_bytes at kind (x ∷ f) rest word olds words) (here_lexemes at now kind (x ∷ f) word olds words)
    (keep_either whole kind at now x f rest _ word _ (w ∙ e) (ap piece_at (sym e) ∙ p) all.0 more)

pub respelled_keep_lexemes : RespelledKeepLexemes
respelled_keep_lexemes bytes lexemes words cut all = (kept bytes 0 words cut refl all).cut
