-- Respelling back with the old words gives the old bytes.
use Rattle.std.proofs.Common.{◌≡◌, ℕ, ◌+◌, ◌-◌, ◌<◌, ◌≤◌, List, [], ◌∷◌, ◌++◌, length, map, take, drop, refl, ap, sym, ◌∙◌, arith, append_assoc}
use Rattle.std.proofs.Common.{drop-drop, length-append, length-drop}
use Rattle.std.proofs.lemmas.List.{length-take, take_at, drop_at}
use Rattle.std.proofs.lemmas.List.Folds.{drop_split}
use Rattle.ml_lexer.specs.Lexed.{Lexeme}
use Rattle.ml_lexer.specs.Laws.{AreInOrder}
use Rattle.ml_lexer.specs.Respelled.{respelled_from, respelled_lexemes_from, RespelledBack}
use Rattle.ml_lexer.proofs.Order.{lexemes_are_in_order}

later : (bytes : List ℕ) (from end : ℕ) → from ≤ end → drop (end - from) (drop from bytes) ≡ drop end bytes
later bytes from end le = let sum : from + (end - from) ≡ end = omega (arith, le) in drop-drop (end - from) from bytes ∙ ap (λ n. drop n bytes) sum

back : (bytes : List ℕ) (xs : List Lexeme) (words : List (List ℕ)) (at now : ℕ) → AreInOrder bytes at xs → length words ≡ length xs
    → respelled_from now (respelled_from at (drop at bytes) xs words) (respelled_lexemes_from at now xs words) (map (λ x. x.bytes) xs) ≡ drop at bytes
back bytes [] words at now h size = refl
back bytes (x ∷ xs) [] at now h size = absurd (omega (arith, size))
back bytes (x ∷ xs) (w ∷ words) at now h size =
    let from : at ≤ x.start = h.0 in
    let span : x.start < x.end = h.1 in
    let within : x.end ≤ length bytes = h.2 in
    let kept = take (x.start - at) (drop at bytes) in
    let rest = respelled_from x.end (drop (x.end - at) (drop at bytes)) xs words in
    let whole = (kept ++ w) ++ rest in
    let start = now + (x.start - at) in
    let end = start + length w in
    let lexemes = respelled_lexemes_from x.end end xs words in
    let size_kept : length kept ≡ start - now = omega (arith, from, span, within, length-take (x.start - at) (drop at bytes), length-drop at bytes) in
    let taken : take (start - now) whole ≡ kept = ap (take (start - now)) (append_assoc kept w rest)
    ∙ take_at kept (w ++ rest) (start - now) size_kept in
    let size_two : length (kept ++ w) ≡ end - now = omega (arith, size_kept, length-append kept w) in
    let dropped : drop (end - now) whole ≡ rest = drop_at (kept ++ w) rest (end - now) size_two in
    let again : rest ≡ respelled_from x.end (drop x.end bytes) xs words =
    ap (λ b. respelled_from x.end b xs words) (later bytes at x.end (omega (arith, from, span))) in
    let tail = ap (λ b. respelled_from end b lexemes (map (λ y. y.bytes) xs)) (dropped ∙ again)
    ∙ back bytes xs words x.end end h.4 (omega (arith, size)) in
    ap (λ b. (b ++ x.bytes) ++ respelled_from end (drop (end - now) whole) lexemes (map (λ y. y.bytes) xs)) taken
    ∙ ap (λ b. (kept ++ x.bytes) ++ b) tail
    ∙ append_assoc kept x.bytes (drop x.end bytes)
    ∙ ap (λ b. kept ++ (b ++ drop x.end bytes)) h.3
    ∙ ap (λ b. kept ++ b) (sym (drop_split bytes x.start x.end (omega (arith, span))))
    ∙ sym (drop_split bytes at x.start from)

pub respelled_back : RespelledBack
respelled_back bytes xs words cut size = back bytes xs words 0 0 (lexemes_are_in_order bytes xs cut) size
