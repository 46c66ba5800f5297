-- The tokens of respelled lexemes are those of the respelled tree.
use Rattle.std.proofs.Common.{◌≡◌, ℕ, suc, ◌+◌, ◌-◌, List, [], ◌∷◌, map, Bool, true, false, Option, Some, None, if◌then◌else◌, length, refl, ap, sym}
use Rattle.std.proofs.Common.{◌∙◌}
use Rattle.rotor_base.specs.declared.token.Class.{Class}
use Rattle.rotor_base.specs.declared.token.Class.TheVariants as class
use Rattle.ml_lexer.specs.Lexed.{Lexeme}
use Rattle.ml_lexer.specs.Respelled.{respelled_lexemes_from}
use Rattle.ml_lexer.proofs.Respelling.{respelled_keep_lexemes}
use Rattle.ml_trees.specs.declared.fixed.Fixed.{Fixed}
use Rattle.ml_trees.specs.Tok.{Tok, fixed, placed, word, is_placed, fixed_of, tok_or, tok}
use Rattle.value_sites.specs.Respelled.{Spelling, spelled, spell_tok}
use Rattle.ml_syntax.specs.RespelledFile.{lexeme_toks, new_words, RespelledTokens, RespelledFilesAreRead}
use Rattle.value_sites.proofs.Spelling.{respelling_keeps_the_tree}

module _ (w : Spelling) where
  choice_kept : (p : Bool) (x : Fixed) (at : ℕ) → (if p then placed x at else fixed x) ≡ spell_tok w (if p then placed x at else fixed x)
  choice_kept true x at = refl
  choice_kept false x at = refl

  or_kept : (t : Tok) (at : ℕ) (o : Option Fixed) → t ≡ spell_tok w t → tok_or t at o ≡ spell_tok w (tok_or t at o)
  or_kept t at None e = e
  or_kept t at (Some x) e = choice_kept (is_placed x) x at

  one_tok : (c : Class) (at : ℕ) (text : List ℕ) → tok c at (spelled w c (record { at = at; text = text })).text ≡ spell_tok w (tok c at text)
  one_tok class.Keyword at text = or_kept (word class.Keyword (record { at = at; text = text })) at (fixed_of text) refl
  one_tok class.Mark at text = or_kept (word class.Mark (record { at = at; text = text })) at (fixed_of text) refl
  one_tok _ at text = refl

  all_toks : (at from now : ℕ) (xs : List Lexeme) → lexeme_toks at (respelled_lexemes_from from now xs (new_words w at xs)) ≡ map (spell_tok w)
      (lexeme_toks at xs)
  all_toks at from now [] = refl
  all_toks at from now (x ∷ xs) =
      let text = (spelled w x.class (record { at = at; text = x.bytes })).text in
      let start = now + (x.start - from) in
      let rest = all_toks (suc at) x.end (start + length text) xs in
      ap (λ t. t ∷ lexeme_toks (suc at) (respelled_lexemes_from x.end (start + length text) xs (new_words w (suc at) xs)))
      (one_tok x.class at x.bytes)
      ∙ ap (λ (ts : List Tok). spell_tok w (tok x.class at x.bytes) ∷ ts) rest

pub respelled_tokens : RespelledTokens
respelled_tokens w xs = all_toks w 1 0 0 xs

pub respelled_files_are_read : RespelledFilesAreRead
respelled_files_are_read w t bytes xs wf cut same may =
    let tree = respelling_keeps_the_tree w t wf in
    (respelled_keep_lexemes bytes xs (new_words w 1 xs) cut may, tree.0, respelled_tokens w xs ∙ ap (map (spell_tok w)) same ∙ sym tree.1)
