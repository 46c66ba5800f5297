-- The tokens of sources that are cut.
use Rattle.std.proofs.Common.{◌≡◌, ℕ, zero, suc, ◌<◌, ◌≤◌, List, [], ◌∷◌, All, get_or, length, map, refl, arith, inl, inr}
use Rattle.rotor_base.specs.declared.source.SourceFile.{SourceFile}
use Rattle.ml_lexer.specs.Lexed.{Lexeme, view_tokens}
use Rattle.ml_lexer.proofs.Order.{lexemes_are_few}
use Rattle.rotor_base.specs.declared.token.Token.{Token}
use Rattle.refusal_words.specs.Cut.{AreCuts, AreLexemes, view_cut}
use Rattle.refusal_words.specs.declared.cut.CutSource.{CutSource}

pub same_count : (sources : List SourceFile) (cuts : List CutSource) → AreCuts sources (map view_cut cuts) → length sources ≡ length cuts
same_count [] [] h = refl
same_count [] (cut ∷ cuts) h = absurd h
same_count (source ∷ sources) [] h = absurd h
same_count (source ∷ sources) (cut ∷ cuts) h = let more = same_count sources cuts h.1 in omega (arith, more)

viewed : (tokens : List Token) → length (view_tokens tokens) ≡ length tokens
viewed [] = refl
viewed (t ∷ ts) = let more = viewed ts in omega (arith, more)

few : (bytes : List ℕ) (xs : List Lexeme) → AreLexemes bytes xs → length bytes ≤ 1048576 → length xs ≤ 1048576
few bytes xs (inl cut) small = let most : length xs ≤ length bytes = lexemes_are_few bytes xs cut in omega (arith, most, small)
few bytes [] (inr fault) small = omega arith
few bytes (x ∷ xs) (inr fault) small = cc

one_more : (cut : CutSource) (cuts : List CutSource) → length (view_tokens cut.tokens.items) ≤ 1048576
    → All (λ c. length c.tokens.items ≤ 1048576) cuts → All (λ c. length c.tokens.items ≤ 1048576) (cut ∷ cuts)
one_more cut cuts one more = each where
  each : (k : ℕ) (d : CutSource) → k < suc (length cuts) → length (get_or (cut ∷ cuts) k d).tokens.items ≤ 1048576
  each zero d lt = let same : length (view_tokens cut.tokens.items) ≡ length cut.tokens.items = viewed cut.tokens.items in omega (arith, one, same)
  each (suc k) d lt = more k d (omega arith)

pub few_tokens : (sources : List SourceFile) (cuts : List CutSource) → AreCuts sources (map view_cut cuts)
    → All (λ file. length file.bytes ≤ 1048576) sources → All (λ cut. length cut.tokens.items ≤ 1048576) cuts
few_tokens [] [] h small = λ k d lt. absurd (omega arith)
few_tokens [] (cut ∷ cuts) h small = absurd h
few_tokens (source ∷ sources) [] h small = absurd h
few_tokens (source ∷ sources) (cut ∷ cuts) h small =
    one_more cut cuts (few source.bytes (view_tokens cut.tokens.items) h.0.lexemes (small zero source (omega arith)))
    (few_tokens sources cuts h.1 (λ j e within. small (suc j) e (omega arith)))

-- as many sources, as many of them cut
pub few_cuts : (sources : List SourceFile) (cuts : List CutSource) (most : ℕ) → AreCuts sources (map view_cut cuts) → length sources ≤ most
    → length cuts ≤ most
few_cuts sources cuts most cut few = let same : length sources ≡ length cuts = same_count sources cuts cut in omega (arith, same, few)
