-- The lengths of lists of lexemes.
use Rattle.std.proofs.Common.{◌≡◌, ℕ, zero, suc, ◌<◌, ◌≤◌, List, [], ◌∷◌, All, get_or, length, map, refl, arith}
use Rattle.std.specs.declared.alloc.Global.{Global}
use Rattle.std.specs.Prelude.{Vec}
use Rattle.rotor_base.specs.declared.source.SourceFile.{SourceFile}
use Rattle.rotor_base.specs.declared.token.Token.{Token}
use Rattle.ml_lexer.specs.Lexed.{view_tokens}
use Rattle.ml_lexer.proofs.Order.{lexemes_are_few}
use Rattle.project_reading.specs.Sources.{AreCut}

viewed : (tokens : List Token) → length (view_tokens tokens) ≡ length tokens
viewed [] = refl
viewed (t ∷ ts) = let more = viewed ts in omega (arith, more)

one_more : (tokens : Vec Token Global) (lists : List (Vec Token Global)) → length tokens.items ≤ 1048576
    → All (λ list. length list.items ≤ 1048576) lists → All (λ list. length list.items ≤ 1048576) (tokens ∷ lists)
one_more tokens lists one more = each where
  each : (k : ℕ) (d : Vec Token Global) → k < suc (length lists) → length (get_or (tokens ∷ lists) k d).items ≤ 1048576
  each zero d lt = one
  each (suc k) d lt = more k d (omega arith)

-- a source has no more lexemes than bytes
pub short_lists : (sources : List SourceFile) (lists : List (Vec Token Global)) → AreCut sources (map (λ list. view_tokens list.items) lists)
    → All (λ file. length file.bytes ≤ 1048576) sources → All (λ list. length list.items ≤ 1048576) lists
short_lists [] [] h small = λ k d lt. absurd (omega arith)
short_lists [] (tokens ∷ lists) h small = absurd h
short_lists (source ∷ sources) [] h small = absurd h
short_lists (source ∷ sources) (tokens ∷ lists) h small =
    let same : length (view_tokens tokens.items) ≡ length tokens.items = viewed tokens.items in
    let most : length (view_tokens tokens.items) ≤ length source.bytes = lexemes_are_few source.bytes (view_tokens tokens.items) h.0 in
    let limit : length source.bytes ≤ 1048576 = small zero source (omega arith) in
    one_more tokens lists (omega (arith, same, most, limit)) (short_lists sources lists h.1 (λ j e within. small (suc j) e (omega arith)))

-- as many lists as sources
pub as_many : (sources : List SourceFile) (lists : List (Vec Token Global)) → AreCut sources (map (λ list. view_tokens list.items) lists)
    → length lists ≡ length sources
as_many [] [] h = refl
as_many [] (tokens ∷ lists) h = absurd h
as_many (source ∷ sources) [] h = absurd h
as_many (source ∷ sources) (tokens ∷ lists) h = let more = as_many sources lists h.1 in omega (arith, more)
