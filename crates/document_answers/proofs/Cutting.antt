-- The tokens of sources that are cut.
use Rattle.std.proofs.Common.{◌≡◌, ℕ, zero, suc, ◌<◌, ◌≤◌, List, [], ◌∷◌, All, Option, Some, arith, get_or, length, map, slice_get, ap, subst, sym}
use Rattle.std.proofs.Common.{◌∙◌}
use Rattle.rotor_base.specs.declared.token.Token.{Token}
use Rattle.ml_lexer.specs.Lexed.{view_tokens}
use Rattle.refusal_words.specs.Cut.{view_cut}
use Rattle.refusal_words.specs.declared.cut.CutSource.{CutSource}
use Rattle.value_at.specs.Cursor.{token_at}

-- what is indexed is there, and has few tokens
pub cut_there : (cuts : List CutSource) (number : ℕ) (cut : CutSource) → number < length cuts → cut ≡ get_or cuts number cut
    → slice_get (map view_cut cuts) number ≡ Some (view_cut cut)
cut_there [] number cut lt is = absurd (omega arith)
cut_there (c ∷ cs) zero cut lt is = ap (λ (x : CutSource). Some (view_cut x)) (sym is)
cut_there (c ∷ cs) (suc k) cut lt is = cut_there cs k cut (omega arith) is

pub few_there : (cuts : List CutSource) (number : ℕ) (cut : CutSource) → number < length cuts → cut ≡ get_or cuts number cut
    → All (λ c. length c.tokens.items ≤ 1048576) cuts → length cut.tokens.items ≤ 1048576
few_there cuts number cut lt is small = subst (λ (x : CutSource). length x.tokens.items ≤ 1048576) (sym is) (small number cut lt)

-- the token that is found is that of the lexemes
pub token_there : (offset : ℕ) (read tokens : List Token) (found value : Option ℕ) → read ≡ tokens → found ≡ token_at offset (view_tokens read)
    → found ≡ value → token_at offset (view_tokens tokens) ≡ value
token_there offset read tokens found value same at is = ap (λ (ts : List Token). token_at offset (view_tokens ts)) (sym same) ∙ sym at ∙ is
