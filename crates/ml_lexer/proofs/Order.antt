-- The lexemes of a file are whole, are in order, and are no more than its bytes.
use Rattle.std.proofs.Common.{◌≡◌, ℕ, zero, suc, ◌+◌, ◌-◌, ◌≤◌, List, [], ◌∷◌, ◌++◌, All, length, take, drop, refl, ap, sym, subst, ◌∙◌, arith}
use Rattle.std.proofs.Common.{append_assoc, length-append, length-take}
use Rattle.std.proofs.lemmas.List.{take-append-drop}
use Rattle.rotor_base.specs.declared.token.Token.{Token}
use Rattle.ml_lexer.specs.declared.piece.Piece.TheVariants as piece
use Rattle.ml_lexer.specs.Pieces.{piece_at}
use Rattle.ml_lexer.specs.Lexed.{Lexeme, LexedFrom, Lexed, view_tokens}
use Rattle.ml_lexer.specs.Lexed as lexed
use Rattle.ml_lexer.specs.Laws.{LexemesEndAlone, IsWhole, LexemesAreWhole, AreInOrder, LexemesAreInOrder, LexemesAreFew}
use Rattle.ml_lexer.proofs.Words.{take_front}
use Rattle.ml_lexer.proofs.Fronts.{takes_some, whole_alone}

pub lexemes_end_alone : LexemesEndAlone
lexemes_end_alone bytes kind n fits e =
    let front = take n bytes in
    let size : length front ≡ n = rw length-take (omega (arith, fits)) in
    whole_alone kind front (drop n bytes) (ap piece_at (take-append-drop n bytes) ∙ e ∙ ap (piece.Lexeme kind) (sym size))
    ∙ ap (piece.Lexeme kind) size

abbrev pub EachWhole : List Lexeme → Type 0
EachWhole [] = Unit {0}
EachWhole (x ∷ xs) = IsWhole x × EachWhole xs

all_whole : (xs : List Lexeme) → EachWhole xs → All IsWhole xs
all_whole [] each k d less = absurd (omega (arith, less))
all_whole (x ∷ xs) each zero d less = each.0
all_whole (x ∷ xs) each (suc k) d less = all_whole xs each.1 k d (omega (arith, less))

pub each_whole : {at : ℕ} {bytes : List ℕ} {xs : List Lexeme} → LexedFrom at bytes xs → EachWhole xs
each_whole lexed.nothing = tt
each_whole (lexed.trivia front rest e p h) = each_whole h
each_whole (lexed.lexeme kind front rest e p h) = (whole_alone kind front rest (ap piece_at (sym e) ∙ p), each_whole h)

pub lexemes_are_whole : LexemesAreWhole
lexemes_are_whole bytes xs h = all_whole xs (each_whole h)

lower : (bytes : List ℕ) (low high : ℕ) (xs : List Lexeme) → low ≤ high → AreInOrder bytes high xs → AreInOrder bytes low xs
lower bytes low high [] f h = omega (arith, f, h)
lower bytes low high (x ∷ xs) f h = let start = h.0 in (omega (arith, f, start), h.1, h.2, h.3, h.4)

drop_front : (past rest : List ℕ) → drop (length past) (past ++ rest) ≡ rest
drop_front [] rest = refl
drop_front (x ∷ past) rest = drop_front past rest

in_order : (past : List ℕ) {at : ℕ} {bytes : List ℕ} {xs : List Lexeme} → length past ≡ at → LexedFrom at bytes xs → AreInOrder (past ++ bytes) at xs
in_order past {at = at} size lexed.nothing = rw length-append (omega (arith, size))
in_order past {at = at} {bytes = bytes} {xs = xs} size (lexed.trivia front rest e p h) =
    let longer : length (past ++ front) ≡ at + length front = rw length-append (omega (arith, size)) in
    let whole : (past ++ front) ++ rest ≡ past ++ bytes = append_assoc past front rest ∙ ap (λ v. past ++ v) (sym e) in
    lower (past ++ bytes) at (at + length front) xs (omega arith)
    (subst (λ b. AreInOrder b (at + length front) xs) whole (in_order (past ++ front) longer h))
in_order past {at = at} {bytes = bytes} size (lexed.lexeme {lexemes = xs} kind front rest e p h) =
    let longer : length (past ++ front) ≡ at + length front = rw length-append (omega (arith, size)) in
    let whole : (past ++ front) ++ rest ≡ past ++ bytes = append_assoc past front rest ∙ ap (λ v. past ++ v) (sym e) in
    let some = takes_some kind front rest (ap piece_at (sym e) ∙ p) in
    let span : (at + length front) - at ≡ length front = omega arith in
    let here : take ((at + length front) - at) (drop at (past ++ bytes)) ≡ front =
    ap (λ n. take n (drop at (past ++ bytes))) span
    ∙ ap (λ n. take (length front) (drop n (past ++ bytes))) (sym size)
    ∙ ap (λ b. take (length front) b) (drop_front past bytes ∙ e)
    ∙ take_front front rest in
    let ends : at + length front ≤ length (past ++ bytes) = rw (length-append, e, length-append) (omega (arith, size)) in
    (omega arith, omega (arith, some), ends, sym here, subst (λ b. AreInOrder b (at + length front) xs) whole (in_order (past ++ front) longer h))

pub lexemes_are_in_order : LexemesAreInOrder
lexemes_are_in_order bytes xs h = in_order [] refl h

few : (bytes : List ℕ) (low : ℕ) (xs : List Lexeme) → AreInOrder bytes low xs → low + length xs ≤ length bytes
few bytes low [] h = omega (arith, h)
few bytes low (x ∷ xs) h =
    let more = few bytes x.end xs h.4 in
    let start = h.0 in
    let span = h.1 in
    omega (arith, more, start, span)

pub lexemes_are_few : LexemesAreFew
lexemes_are_few bytes xs h = let most = few bytes 0 xs (lexemes_are_in_order bytes xs h) in omega (arith, most)

-- the tokens are as many as the lexemes
as_many : (tokens : List Token) → length (view_tokens tokens) ≡ length tokens
as_many [] = refl
as_many (t ∷ ts) = ap suc (as_many ts)

pub tokens_are_few : (bytes : List ℕ) (tokens : List Token) → Lexed bytes (view_tokens tokens) → length tokens ≤ length bytes
tokens_are_few bytes tokens h = let most = lexemes_are_few bytes (view_tokens tokens) h in let same = as_many tokens in omega (arith, most, same)
