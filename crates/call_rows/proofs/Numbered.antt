-- The words of an expression of a small source are numbered within a file.
use Rattle.std.proofs.Common.{◌≡◌, ℕ, ◌+◌, ◌≤◌, List, ◌++◌, take, drop, length, sym, ap, subst, ◌∙◌, arith}
use Rattle.std.proofs.lemmas.List.{length-append, take-append-drop}
use Rattle.rotor_base.specs.declared.token.Token.{Token}
use Rattle.ml_lexer.specs.Lexed.{Lexed, view_tokens}
use Rattle.ml_trees.specs.Tok.{Tok}
use Rattle.ml_trees.specs.Tree.{Expr}
use Rattle.ml_trees.specs.Words.{expr_words}
use Rattle.value_sites.specs.Sound.{AreNumbered, IsWithinFile}
use Rattle.ml_syntax.proofs.RespelledNames.{lexemes_are_numbered}
use Rattle.ml_syntax.proofs.SoundFiles.{parts_are_numbered}
use Rattle.token_reading.specs.Tokens.{from}
use Rattle.token_reading.proofs.Ends.{from_length}
use Rattle.token_reading.proofs.Places.{from_drop}
use Rattle.project_reading.proofs.Tokens.{toks_same}

pub within : (bytes : List ℕ) (ts : List Token) (n : ℕ) (e : Expr) (rest : List Tok) → Lexed bytes (view_tokens ts) → length ts ≤ 1000
    → from ts n ≡ expr_words e ++ rest → IsWithinFile e
within bytes ts n e rest cut few reads =
    let all : AreNumbered 1 (from ts 0) = subst (AreNumbered 1) (sym (toks_same ts)) (lexemes_are_numbered bytes (view_tokens ts) cut) in
    let whole = take-append-drop n (from ts 0) in
    let front = take n (from ts 0) in
    let behind = (parts_are_numbered 1 front (drop n (from ts 0)) (subst (AreNumbered 1) (sym whole) all)).1 in
    let zero_more : 0 + n ≡ n = omega arith in
    let same : drop n (from ts 0) ≡ expr_words e ++ rest = from_drop ts n 0 ∙ ap (from ts) zero_more ∙ reads in
    let mine = (parts_are_numbered (1 + length front) (expr_words e) rest (subst (AreNumbered (1 + length front)) same behind)).0 in
    let parts = length-append front (drop n (from ts 0)) in
    let total = ap (λ (l : List Tok). length l) whole in
    let words = ap (λ (l : List Tok). length l) same in
    let split = length-append (expr_words e) rest in
    let most = from_length ts 0 in (
      1 + length front,
      omega arith,
      mine,
      omega (arith, parts, total, words, split, most, few),
    )
