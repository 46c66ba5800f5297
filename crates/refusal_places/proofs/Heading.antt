-- The heads of the items with which tokens begin.
use Rattle.std.proofs.Common.{◌≡◌, ℕ, ◌+◌, List, [], Some, length, ap, sym, ◌∙◌}
use Rattle.rotor_base.specs.declared.token.Token.{Token}
use Rattle.ml_lexer.specs.Lexed.{view_tokens}
use Rattle.ml_syntax.specs.RespelledFile.{lexeme_toks}
use Rattle.ml_trees.specs.Tok.{Tok}
use Rattle.ml_trees.specs.Tree.{Items, SigItems}
use Rattle.token_reading.specs.Tokens.{from}
use Rattle.token_reading.proofs.Stepping.{some_is}
use Rattle.parse_module.specs.declared.files.FileKind.TheVariants as kind
use Rattle.module_reading.specs.ModReading.{body_start, face_start}
use Rattle.unit_heads.specs.Heads.{items_heads, sig_items_heads}
use Rattle.refusal_places.specs.Heads.{heads_of}
use Rattle.refusal_places.proofs.Fronts.{toks_same, viewed}

pub body_heads : (ts : List Token) (is : Items) (rest : List Tok) → Some (body_start (length ts + 1) (from ts 0)) ≡ Some (is, rest)
    → items_heads [] is ≡ heads_of kind.Body (view_tokens ts)
body_heads ts is rest h =
    sym (ap (λ (n : ℕ). items_heads [] (body_start (n + 1) (lexeme_toks 1 (view_tokens ts))).0) (viewed ts)
    ∙ ap (λ (l : List Tok). items_heads [] (body_start (length ts + 1) l).0) (toks_same ts)
    ∙ ap (λ (x : Items × List Tok). items_heads [] x.0) (some_is h))

pub face_heads : (ts : List Token) (is : SigItems) (rest : List Tok) → Some (face_start (length ts + 1) (from ts 0)) ≡ Some (is, rest)
    → sig_items_heads [] is ≡ heads_of kind.Face (view_tokens ts)
face_heads ts is rest h =
    sym (ap (λ (n : ℕ). sig_items_heads [] (face_start (n + 1) (lexeme_toks 1 (view_tokens ts))).0) (viewed ts)
    ∙ ap (λ (l : List Tok). sig_items_heads [] (face_start (length ts + 1) l).0) (toks_same ts)
    ∙ ap (λ (x : SigItems × List Tok). sig_items_heads [] x.0) (some_is h))
