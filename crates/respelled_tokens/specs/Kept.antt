-- The nesting and the refused forms of respelled tokens (own).
use Rattle.std.specs.Prelude.{◌≡◌, ℕ, ◌⊎◌, ◌==◌, List, [], ◌∷◌, Bool, false, Option, None, length, map}
use Rattle.rotor_base.specs.declared.token.Class.TheVariants as class
use Rattle.rotor_base.specs.declared.token.Token.{Token}
use Rattle.value_sites.specs.Respelled.{Spelling, spell_tok, spell_file}
use Rattle.ml_lexer.specs.Lexed.{Lexed, view_tokens}
use Rattle.ml_lexer.specs.Respelled.{respelled, respelled_lexemes}
use Rattle.ml_trees.specs.Tree.{FileTree}
use Rattle.ml_trees.specs.Words.{words}
use Rattle.ml_trees.specs.WellFormed.{WfFile}
use Rattle.value_sites.specs.Places.{sites}
use Rattle.ml_syntax.specs.RespelledFile.{new_words, ChangesNames}
use Rattle.token_reading.specs.Tokens.{from}
use Rattle.parse_base.specs.Nesting.{DeepIs}
use Rattle.parse_base.specs.Forms.{first_form}

-- the tokens of one list are as many as those of the other, and those, respelled
pub record AreRespelled (w : Spelling) (ts us : List Token) : Type 0 where
  pub many : length us ≡ length ts
  pub same : (at : ℕ) → from us at ≡ map (spell_tok w) (from ts at)

-- respelled tokens nest as the tokens do
abbrev pub NestingIsKept : Type 0
NestingIsKept = (w : Spelling) (ts us : List Token) (deep : Option ℕ) → AreRespelled w ts us → DeepIs ts deep → DeepIs us deep

-- the next of these tokens begins where this one ends
abbrev pub touches : Token → List Token → Bool
touches t [] = false
touches t (u ∷ us) = t.end == u.start

-- of one class, and with the same bytes, or both are lower-case names
abbrev pub IsAlike : Token → Token → Type 0
IsAlike t u = (u.class ≡ t.class) × ((u.bytes.now ≡ t.bytes.now) ⊎ (t.class ≡ class.Lower))

-- as many tokens, each like the other; each touches the next exactly if the other does
abbrev pub AreAlike : List Token → List Token → Type 0
AreAlike [] [] = Unit {0}
AreAlike [] (u ∷ us) = ⊥
AreAlike (t ∷ ts) [] = ⊥
AreAlike (t ∷ ts) (u ∷ us) = IsAlike t u × (touches u us ≡ touches t ts) × AreAlike ts us

-- the first refused form of such tokens is the same
abbrev pub FormsAreKept : Type 0
FormsAreKept = (ts us : List Token) (at : ℕ) → AreAlike ts us → first_form at us ≡ first_form at ts

-- the tokens of respelled lexemes are the tokens respelled; the two lists are alike so
abbrev pub RespelledTokensAreKept : Type 0
RespelledTokensAreKept =
    (w : Spelling) (bytes : List ℕ) (ts us : List Token) → Lexed bytes (view_tokens ts)
    → view_tokens us ≡ respelled_lexemes (view_tokens ts) (new_words w 1 (view_tokens ts))
    → AreRespelled w ts us × AreAlike ts us

-- Respelling keeps the reading. The old tokens have no refused form, are not nested over the limit, and are the words
-- of a tree. If names of places alone are changed, to value names, the new tokens have no refused form, are not nested
-- over the limit, and are the words of the respelled tree.
abbrev pub RespellingKeepsTheReading : Type 0
RespellingKeepsTheReading =
    (w : Spelling) (t : FileTree) (bytes : List ℕ) (ts us : List Token)
    → WfFile t → Lexed bytes (view_tokens ts) → from ts 0 ≡ words t → first_form 1 ts ≡ None → DeepIs ts None → ChangesNames w (sites t)
    → Lexed (respelled bytes (view_tokens ts) (new_words w 1 (view_tokens ts))) (view_tokens us)
    → WfFile (spell_file w t) × (from us 0 ≡ words (spell_file w t)) × (first_form 1 us ≡ None) × DeepIs us None
