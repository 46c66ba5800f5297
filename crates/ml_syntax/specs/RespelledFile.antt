-- A file whose lexemes are respelled, and its tree (own).
use Rattle.std.specs.Prelude.{◌≡◌, ℕ, suc, List, [], ◌∷◌, map, IsTrue, ◌⊎◌, Contains, None, false, ◌+◌, ◌≤◌, ◌++◌, length}
use Rattle.rotor_base.specs.Limits.{max_file_bytes}
use Rattle.rotor_base.specs.Name.{is_value_name}
use Rattle.ml_lexer.specs.Lexed.{Lexeme, Lexed}
use Rattle.ml_lexer.specs.Respelled.{AllMayBecome, AllMayBecomeBehind, respelled, respelled_lexemes}
use Rattle.ml_trees.specs.Tok.{Tok, toks_from}
use Rattle.ml_trees.specs.Tree.{FileTree}
use Rattle.ml_trees.specs.Words.{words}
use Rattle.ml_trees.specs.WellFormed.{WfFile}
use Rattle.value_sites.specs.Sound.{AreNumbered, IsSoundFile}
use Rattle.value_sites.specs.Places.{Site, sites}
use Rattle.value_sites.specs.Respelled.{Spelling, spelled, spell_tok, spell_file}

-- the tokens of lexemes, numbered from this one
abbrev pub lexeme_toks : ℕ → List Lexeme → List Tok
lexeme_toks at xs = toks_from at (map (λ x. (x.class, x.bytes)) xs)

-- the words of lexemes, numbered from this one, as they are respelled: a lower-case one becomes its new word
abbrev pub new_words : Spelling → ℕ → List Lexeme → List (List ℕ)
new_words w at [] = []
new_words w at (x ∷ xs) = (spelled w x.class (record { at = at; text = x.bytes })).text ∷ new_words w (suc at) xs

-- the tokens of respelled lexemes are the tokens, respelled
abbrev pub RespelledTokens : Type 0
RespelledTokens = (w : Spelling) (xs : List Lexeme) → lexeme_toks 1 (respelled_lexemes xs (new_words w 1 xs)) ≡ map (spell_tok w) (lexeme_toks 1 xs)

-- If each lexeme may become its new word, the respelled bytes are cut into the respelled lexemes, the respelled tree is
-- well formed, and it has their words. Besides, reading them requires only that no form is refused among them and that
-- their nesting is not over the limit.
abbrev pub RespelledFilesAreRead : Type 0
RespelledFilesAreRead =
    (w : Spelling) (t : FileTree) (bytes : List ℕ) (xs : List Lexeme) → WfFile t → Lexed bytes xs → lexeme_toks 1 xs ≡ words t
    → AllMayBecome bytes xs (new_words w 1 xs)
    → Lexed (respelled bytes xs (new_words w 1 xs)) (respelled_lexemes xs (new_words w 1 xs))
    × WfFile (spell_file w t)
    × (lexeme_toks 1 (respelled_lexemes xs (new_words w 1 xs)) ≡ words (spell_file w t))

-- the tokens of the lexemes of a file are numbered
abbrev pub LexemesAreNumbered : Type 0
LexemesAreNumbered = (bytes : List ℕ) (xs : List Lexeme) → Lexed bytes xs → AreNumbered 1 (lexeme_toks 1 xs)

-- a word that is changed becomes a value name, and its number is that of one of these places, which is no operator
abbrev pub ChangesNames : Spelling → List Site → Type 0
ChangesNames w ss = (n : ℕ) (text : List ℕ)
    → (w n text ≡ text) ⊎ (IsTrue (is_value_name (w n text)) × (s : Site) × Contains ss s × (s.at ≡ n) × (s.operator ≡ false))

-- then each lexeme may become its new word
abbrev pub SitesMayBecome : Type 0
SitesMayBecome =
    (w : Spelling) (t : FileTree) (bytes : List ℕ) (xs : List Lexeme) → WfFile t → Lexed bytes xs → lexeme_toks 1 xs ≡ words t
    → ChangesNames w (sites t)
    → AllMayBecomeBehind None xs (new_words w 1 xs)

-- If names of places alone are changed, to value names, the respelled bytes are cut into the respelled lexemes, the
-- respelled tree is well formed, and it has their words.
abbrev pub RespelledNamesAreRead : Type 0
RespelledNamesAreRead =
    (w : Spelling) (t : FileTree) (bytes : List ℕ) (xs : List Lexeme) → WfFile t → Lexed bytes xs → lexeme_toks 1 xs ≡ words t
    → ChangesNames w (sites t)
    → Lexed (respelled bytes xs (new_words w 1 xs)) (respelled_lexemes xs (new_words w 1 xs))
    × WfFile (spell_file w t)
    × (lexeme_toks 1 (respelled_lexemes xs (new_words w 1 xs)) ≡ words (spell_file w t))

-- a file that was read is sound
abbrev pub ReadFilesAreSound : Type 0
ReadFilesAreSound = (t : FileTree) (bytes : List ℕ) (xs : List Lexeme) → length bytes ≤ max_file_bytes → WfFile t → Lexed bytes xs
    → lexeme_toks 1 xs ≡ words t → IsSoundFile t

-- a part of numbered words is numbered
abbrev pub PartsAreNumbered : Type 0
PartsAreNumbered = (at : ℕ) (ts us : List Tok) → AreNumbered at (ts ++ us) → AreNumbered at ts × AreNumbered (at + length ts) us
