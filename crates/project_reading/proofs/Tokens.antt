-- The tokens of the program and those of its lexemes have the same forms, the same nesting and the same words.
use Rattle.std.proofs.Common.{◌≡◌, ℕ, zero, suc, ◌+◌, inl, List, [], ◌∷◌, map, length, drop, Option, refl, ap, sym, ◌∙◌}
use Rattle.rotor_base.specs.declared.token.Class.{Class}
use Rattle.rotor_base.specs.declared.token.Class.TheVariants as class
use Rattle.rotor_base.specs.declared.token.Token.{Token}
use Rattle.ml_lexer.specs.Lexed.{Lexeme, view_token, view_tokens}
use Rattle.ml_trees.specs.Tok.{Name, Tok, fixed, placed, word, toks_from}
use Rattle.value_sites.specs.Respelled.{Spelling, spelled, spell_tok}
use Rattle.ml_syntax.specs.RespelledFile.{lexeme_toks}
use Rattle.parse_base.specs.Forms.{first_form}
use Rattle.token_reading.specs.Tokens.{lexeme, from}
use Rattle.respelled_tokens.specs.Kept.{touches, AreAlike}
use Rattle.parse_base.specs.Nesting.{DeepIs}
use Rattle.respelled_tokens.proofs.FormsKept.{forms_are_kept}
use Rattle.respelled_tokens.proofs.Kept.{nesting_is_kept}
use Rattle.project_reading.specs.Source.{token_of, tokens_of, form_among, IsDeepAt}

touch : (t : Token) (ts : List Token) → touches (token_of (view_token t)) (tokens_of (view_tokens ts)) ≡ touches t ts
touch t [] = refl
touch t (u ∷ ts) = refl

alike : (ts : List Token) → AreAlike ts (tokens_of (view_tokens ts))
alike [] = tt
alike (t ∷ ts) = ((refl, inl refl), touch t ts, alike ts)

pub form_same : (ts : List Token) → form_among (view_tokens ts) ≡ first_form 1 ts
form_same ts = forms_are_kept ts (tokens_of (view_tokens ts)) 1 (alike ts)

-- ---- the spelling that changes nothing

kept : Spelling
kept n text = text

name_kept : (c : Class) (x : Name) → spelled kept c x ≡ x
unfolding kept
name_kept class.Lower x = refl
name_kept _ x = refl

tok_kept : (t : Tok) → spell_tok kept t ≡ t
tok_kept (fixed x) = refl
tok_kept (placed x at) = refl
tok_kept (word c x) = ap (word c) (name_kept c x)

toks_kept : (ts : List Tok) → map (spell_tok kept) ts ≡ ts
toks_kept [] = refl
toks_kept (t ∷ ts) = ap (λ u. u ∷ map (spell_tok kept) ts) (tok_kept t) ∙ ap (λ us. t ∷ us) (toks_kept ts)

lexemes_same : (at : ℕ) (ts : List Token) → map lexeme (drop at (tokens_of (view_tokens ts))) ≡ map lexeme (drop at ts)
lexemes_same zero [] = refl
lexemes_same zero (t ∷ ts) = ap (λ xs. lexeme t ∷ xs) (lexemes_same zero ts)
lexemes_same (suc at) [] = refl
lexemes_same (suc at) (t ∷ ts) = lexemes_same at ts

from_same : (at : ℕ) (ts : List Token) → from (tokens_of (view_tokens ts)) at ≡ from ts at
unfolding from
from_same at ts = ap (toks_from (at + 1)) (lexemes_same at ts)

as_many : (ts : List Token) → length (tokens_of (view_tokens ts)) ≡ length ts
as_many [] = refl
as_many (t ∷ ts) = ap suc (as_many ts)

pub deep_same : (ts : List Token) (deep : Option ℕ) → DeepIs ts deep → IsDeepAt (view_tokens ts) deep
deep_same ts deep h =
    nesting_is_kept kept ts (tokens_of (view_tokens ts)) deep (record {
      many = as_many ts;
      same = λ at. from_same at ts
          ∙ sym (toks_kept (from ts at));
    }) h

-- ---- the words

words_same : (ts : List Token) → map lexeme ts ≡ map (λ x. (x.class, x.bytes)) (view_tokens ts)
words_same [] = refl
words_same (t ∷ ts) = ap (λ xs. lexeme t ∷ xs) (words_same ts)

pub toks_same : (ts : List Token) → from ts 0 ≡ lexeme_toks 1 (view_tokens ts)
unfolding from
toks_same ts = ap (toks_from 1) (words_same ts)

-- the tokens of lexemes are seen as these
pub lexemes_back : (xs : List Lexeme) → view_tokens (tokens_of xs) ≡ xs
lexemes_back [] = refl
lexemes_back (x ∷ xs) = ap (λ ys. x ∷ ys) (lexemes_back xs)
