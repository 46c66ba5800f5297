-- Replaced names keep the lexemes, by the lexemes beside each.
use Rattle.std.proofs.Common.{◌≡◌, ℕ, suc, ◌+◌, inl, inr, List, [], ◌∷◌, ◌++◌, true, false, ◌==◌, length, get_or, Option, Some, None, refl, ap, sym}
use Rattle.std.proofs.Common.{◌∙◌, arith}
use Rattle.std.specs.Str.{byte}
use Rattle.std.proofs.lemmas.Bool.Decides.{nat_tests}
use Rattle.rotor_base.specs.Name.{is_identifier_byte, is_value_name}
use Rattle.rotor_base.specs.declared.token.Class.{Class}
use Rattle.rotor_base.specs.declared.token.Class.TheVariants as class
use Rattle.ml_lexer.specs.declared.piece.Piece.TheVariants as piece
use Rattle.ml_lexer.specs.Quotes.{opens_quoted}
use Rattle.ml_lexer.specs.Pieces.{piece_at}
use Rattle.ml_lexer.specs.Lexed.{Lexeme, LexedFrom, Lexed}
use Rattle.ml_lexer.specs.Lexed as lexed
use Rattle.ml_lexer.specs.Respelled.{IsBehindBrace, BarFollows, MayBecomeBetween, AllMayBecomeBehind, respelled_from, respelled_lexemes_from}
use Rattle.ml_lexer.specs.Respelled.{NamesKeepLexemes}
use Rattle.ml_lexer.proofs.Local.{Alike, both_end, same_byte, which, alike_test}
use Rattle.ml_lexer.proofs.Words.{alike_stops, word_byte_is_identifier}
use Rattle.ml_lexer.proofs.Marks.{word_is_not}
use Rattle.ml_lexer.proofs.Apart.{lexeme_is_no_trivia}
use Rattle.ml_lexer.proofs.Fronts.{piece_same, trivia_same, piece_tests, opens_front}
use Rattle.ml_lexer.proofs.Replaced.{lower_front, name_piece, name_starts, name_opens, run_of_piece, run_of_trivia}
use Rattle.ml_lexer.proofs.Respelling.{no_still_lexeme, no_still_trivia, from_cut, skip_bytes, lexeme_of, skip_lexemes, here_bytes, here_lexemes}
use Rattle.ml_lexer.proofs.Respelling.{lone_opens, alike_words}

-- The bytes from an offset on are cut as before, and their front is alike. Behind a `{` they open no Quoted, if they
-- opened none before.
record Kept (before : Option Lexeme) (at now : ℕ) (bytes bytes' : List ℕ) (lexemes : List Lexeme) : Type 0 where
  pub cut : LexedFrom now bytes' lexemes
  pub alike : Alike bytes bytes'
  pub brace : IsBehindBrace before at → opens_quoted (123 ∷ bytes) ≡ false → opens_quoted (123 ∷ bytes') ≡ false

kept_as : {before : Option Lexeme} {at now : ℕ} {bytes bytes' same same' : List ℕ} {lexemes same_lexemes : List Lexeme} → same ≡ bytes
    → same' ≡ bytes' → same_lexemes ≡ lexemes → Kept before at now bytes bytes' lexemes → Kept before at now same same' same_lexemes
kept_as e f g k = rw (e, f, g) k

-- a `|` begins no trivia
bar_piece : (s : List ℕ) (n : ℕ) → piece_at (124 ∷ s) ≡ piece.Trivia n → ⊥
bar_piece s n e = lexeme_is_no_trivia (124 ∷ s) n (sym (piece_tests (124 ∷ s) false false refl refl) ∙ e)

-- if the bytes begin with `|`, their first lexeme does too
bar_lexeme : {at : ℕ} {bytes : List ℕ} {olds : List Lexeme} → LexedFrom at bytes olds → get_or bytes 0 0 ≡ 124 → BarFollows at olds
bar_lexeme lexed.nothing e = cc
bar_lexeme (lexed.trivia [] rest e p cut) b = absurd (no_still_trivia cut (ap piece_at (sym e) ∙ p))
bar_lexeme (lexed.trivia (x ∷ f) rest e p cut) b =
    let first : x ≡ 124 = ap (λ l. get_or l 0 0) (sym e) ∙ b in
    absurd (bar_piece (f ++ rest) (suc (length f)) (ap (λ v. piece_at (v ∷ (f ++ rest))) (sym first) ∙ ap piece_at (sym e) ∙ p))
bar_lexeme (lexed.lexeme kind [] rest e p cut) b = absurd (no_still_lexeme cut kind (ap piece_at (sym e) ∙ p))
bar_lexeme (lexed.lexeme kind (x ∷ f) rest e p cut) b = (refl, ap (λ l. get_or l 0 0) (sym e) ∙ b)

keep_trivia : (before : Option Lexeme) (at now x : ℕ) (f rest rest' : List ℕ) (lexemes : List Lexeme)
    → piece_at ((x ∷ f) ++ rest) ≡ piece.Trivia (suc (length f)) → Kept before (at + suc (length f)) (now + suc (length f)) rest rest' lexemes
    → Kept before at now ((x ∷ f) ++ rest) ((x ∷ f) ++ rest') lexemes
keep_trivia before at now x f rest rest' lexemes p k = record {
  cut = lexed.trivia (x ∷ f) rest' refl (trivia_same x f rest rest' k.alike p) k.cut;
  alike = same_byte;
  brace = λ b shut. opens_front (x ∷ f) rest rest' k.alike (run_of_trivia x f rest p) ∙ shut;
}

-- the Quoted that a lone `{` does not open
lone_brace : (kind : Class) (at now x : ℕ) (f rest rest' : List ℕ) (lexemes : List Lexeme)
    → piece_at ((x ∷ f) ++ rest) ≡ piece.Lexeme kind (suc (length f))
    → Kept (Some (lexeme_of kind at (x ∷ f))) (at + suc (length f)) now rest rest' lexemes → x ≡ 123 → f ≡ []
    → opens_quoted (123 ∷ rest') ≡ opens_quoted (123 ∷ rest)
lone_brace kind at now x f rest rest' lexemes p k is_brace empty = elim (which (opens_quoted (123 ∷ rest))) [
  | inl opened ↦ absurd (lone_opens kind rest
      (ap (λ g. piece_at (123 ∷ (g ++ rest))) (sym empty) ∙ ap (λ c. piece_at (c ∷ (f ++ rest))) (sym is_brace) ∙ p
      ∙ ap (λ g. piece.Lexeme kind (suc (length g))) empty) opened)
  | inr shut ↦ k.brace (ap (λ c. c ∷ f) is_brace ∙ ap (λ g. 123 ∷ g) empty, refl) shut ∙ sym shut
]

keep_lexeme : (before : Option Lexeme) (kind : Class) (at now x : ℕ) (f rest rest' : List ℕ) (lexemes : List Lexeme)
    → piece_at ((x ∷ f) ++ rest) ≡ piece.Lexeme kind (suc (length f)) → Kept (Some (lexeme_of kind at (x ∷ f))) (at + suc (length f))
    (now + suc (length f)) rest rest' lexemes → Kept before at now ((x ∷ f) ++ rest) ((x ∷ f) ++ rest') (lexeme_of kind now (x ∷ f) ∷ lexemes)
keep_lexeme before kind at now x f rest rest' lexemes p k = record {
  cut = lexed.lexeme kind (x ∷ f) rest' refl
      (piece_same kind x f rest rest' k.alike (lone_brace kind at (now + suc (length f)) x f rest rest' lexemes p k) p) k.cut;
  alike = same_byte;
  brace = λ b shut. opens_front (x ∷ f) rest rest' k.alike (run_of_piece kind x f rest p) ∙ shut;
}

-- the exception: no `|` behind a name in braces
no_bar_behind : (before : Option Lexeme) (at end : ℕ) (rest rest' : List ℕ) (olds : List Lexeme) → LexedFrom end rest olds
    → (IsBehindBrace before at → BarFollows end olds → ⊥) → Alike rest rest' → IsBehindBrace before at → (get_or rest' 0 0 == byte "|") ≡ false
no_bar_behind before at end rest rest' olds cut free alike b = elim (which (get_or rest' 0 0 == byte "|")) [
  | inr nay ↦ nay
  | inl aye ↦
      let was : (get_or rest 0 0 == byte "|") ≡ true = alike_test (λ v. v == byte "|") false (word_is_not (byte "|") refl) alike ∙ aye in
      let bar : get_or rest 0 0 ≡ 124 = grind (arith, nat_tests, was) in
      absurd (free b (bar_lexeme cut bar))
]

keep_name : (before : Option Lexeme) (at now x : ℕ) (f rest rest' word : List ℕ) (olds lexemes : List Lexeme)
    → LexedFrom (at + suc (length f)) rest olds → piece_at ((x ∷ f) ++ rest) ≡ piece.Lexeme class.Lower (suc (length f)) → is_value_name word ≡ true
    → (IsBehindBrace before at → BarFollows (at + suc (length f)) olds → ⊥) → Kept (Some (lexeme_of class.Lower at (x ∷ f))) (at + suc (length f))
    (now + length word) rest rest' lexemes → Kept before at now ((x ∷ f) ++ rest) (word ++ rest') (lexeme_of class.Lower now word ∷ lexemes)
keep_name before at now x f rest rest' word olds lexemes cut p name free k =
    let front = lower_front x f rest p in
    let starts = name_starts word name in
    let stops = alike_stops is_identifier_byte true word_byte_is_identifier k.alike front.stops in
    record {
      cut = lexed.lexeme class.Lower word rest' refl (name_piece word rest' name stops) k.cut;
      alike = alike_words (x ∷ f) word rest rest' front.some front.word starts.0 starts.1;
      brace = λ b shut. name_opens word rest' name stops (no_bar_behind before at (at + suc (length f)) rest rest' olds cut free k.alike b);
    }

keep_either : (before : Option Lexeme) (kind : Class) (at now x : ℕ) (f rest rest' word : List ℕ) (olds lexemes : List Lexeme)
    → LexedFrom (at + suc (length f)) rest olds → piece_at ((x ∷ f) ++ rest) ≡ piece.Lexeme kind (suc (length f))
    → MayBecomeBetween before (lexeme_of kind at (x ∷ f)) olds word → Kept (Some (lexeme_of kind at (x ∷ f))) (at + suc (length f))
    (now + length word) rest rest' lexemes → Kept before at now ((x ∷ f) ++ rest) (word ++ rest') (lexeme_of kind now word ∷ lexemes)
keep_either before kind at now x f rest rest' word olds lexemes cut p (inl same) k =
    rw same (keep_lexeme before kind at now x f rest rest' lexemes p (rw same at k))
keep_either before kind at now x f rest rest' word olds lexemes cut p (inr named) k =
    let lower : kind ≡ class.Lower = named.0 in
    rw lower (keep_name before at now x f rest rest' word olds lexemes cut (p ∙ ap (λ c. piece.Lexeme c (suc (length f))) lower) named.1 named.2
    (rw lower at k))

kept : (before : Option Lexeme) {at : ℕ} {bytes : List ℕ} {olds : List Lexeme} (now : ℕ) (words : List (List ℕ)) → LexedFrom at bytes olds
    → AllMayBecomeBehind before olds words → Kept before at now bytes (respelled_from at bytes olds words) (respelled_lexemes_from at now olds words)
kept before now words lexed.nothing all = record { cut = lexed.nothing; alike = both_end; brace = λ b shut. shut }
kept before now words (lexed.trivia [] rest e p cut) all = absurd (no_still_trivia cut (ap piece_at (sym e) ∙ p))
kept before now words (lexed.trivia {at = at} {lexemes = olds} (x ∷ f) rest e p cut) all =
    let more = kept before (now + suc (length f)) words cut all in
    let from = from_cut cut in
    kept_as e (ap (λ l. respelled_from at l olds words) e ∙ skip_bytes at (x ∷ f) rest olds words from)
    (skip_lexemes at now (suc (length f)) olds words from)
    (keep_trivia before at now x f rest _ _ (ap piece_at (sym e) ∙ p) more)
kept before now [] (lexed.lexeme kind front rest e p cut) all = absurd all
kept before now (word ∷ words) (lexed.lexeme kind [] rest e p cut) all = absurd (no_still_lexeme cut kind (ap piece_at (sym e) ∙ p))
kept before now (word ∷ words) (lexed.lexeme {at = at} {lexemes = olds} kind (x ∷ f) rest e p cut) all =
    let more = kept (Some (lexeme_of kind at (x ∷ f))) (now + length word) words cut all.1 in
    kept_as e (ap (λ l. respelled_from at l (lexeme_of kind at (x ∷ f) ∷ olds) (word ∷ words)) e ∙ here_bytes at kind (x ∷ f) rest word olds words)
    (here_lexemes at now kind (x ∷ f) word olds words)
    (keep_either before kind at now x f rest _ word olds _ cut (ap piece_at (sym e) ∙ p) all.0 more)

pub names_keep_lexemes : NamesKeepLexemes
names_keep_lexemes bytes lexemes words cut all = (kept None 0 words cut all).cut
