-- The items before a front are the longest.
use Rattle.std.proofs.Common.{◌≡◌, ℕ, ◌+◌, List, length, map, ◌∙◌, arith}
use Rattle.std.proofs.lemmas.List.{length-map}
use Rattle.ml_lexer.specs.Lexed.{Lexeme}
use Rattle.ml_syntax.specs.RespelledFile.{lexeme_toks}
use Rattle.ml_trees.specs.Tok.{Tok}
use Rattle.parse_module.specs.declared.files.FileKind.TheVariants as kind
use Rattle.module_reading.specs.ModReading.{body_start, face_start}
use Rattle.refusal_places.proofs.Fronts.{toks_length}
use Rattle.longest_items.specs.Fronts.{FrontsEndLongest}
use Rattle.longest_items.proofs.Longest.{bodies_begin_longest, faces_begin_longest}

as_many : (xs : List Lexeme) → length (lexeme_toks 1 xs) ≡ length xs
as_many xs = toks_length 1 (map (λ (x : Lexeme). (x.class, x.bytes)) xs) ∙ length-map xs (λ (x : Lexeme). (x.class, x.bytes))

pub fronts_end_longest : FrontsEndLongest
fronts_end_longest kind.Body xs =
    let n : ℕ = length xs + 1 in
    let ts : List Tok = lexeme_toks 1 xs in
    ((body_start n ts).0, bodies_begin_longest n ts (omega (arith, as_many xs)))
fronts_end_longest kind.Face xs =
    let n : ℕ = length xs + 1 in
    let ts : List Tok = lexeme_toks 1 xs in
    ((face_start n ts).0, faces_begin_longest n ts (omega (arith, as_many xs)))
