-- Sources that are respelled with their own words have the bytes that they had.
use Rattle.std.proofs.Common.{◌≡◌, ℕ, suc, ◌-◌, ◌+◌, ◌<◌, ◌≤◌, List, [], ◌∷◌, ◌++◌, map, take, drop, refl, ap, sym, ◌∙◌, arith, append_assoc}
use Rattle.std.proofs.Common.{drop-drop}
use Rattle.std.proofs.lemmas.List.Folds.{drop_split}
use Rattle.rotor_base.specs.declared.source.SourceFile.{SourceFile}
use Rattle.rotor_base.specs.declared.token.Class.{Class}
use Rattle.rotor_base.specs.declared.token.Class.TheVariants as class
use Rattle.ml_lexer.specs.Lexed.{Lexeme, Lexed}
use Rattle.ml_lexer.specs.Laws.{AreInOrder}
use Rattle.ml_lexer.specs.Respelled.{respelled, respelled_from}
use Rattle.ml_lexer.proofs.Order.{lexemes_are_in_order}
use Rattle.value_sites.specs.Respelled.{Spelling, spelled}
use Rattle.ml_syntax.specs.RespelledFile.{new_words}
use Rattle.ml_syntax.specs.RespelledSource.{AreRespelled}
use Rattle.project_reading.specs.Sources.{AreCut}

-- the words as they are
abbrev pub own : Spelling
own at x = x

own_word : (c : Class) (at : ℕ) (text : List ℕ) → (spelled own c (record { at = at; text = text })).text ≡ text
own_word class.Lower at text = refl
own_word _ at text = refl

pub own_words : (at : ℕ) (xs : List Lexeme) → new_words own at xs ≡ map (λ x. x.bytes) xs
own_words at [] = refl
own_words at (x ∷ xs) =
    ap (λ y. y ∷ new_words own (suc at) xs) (own_word x.class at x.bytes) ∙ ap (λ ys. x.bytes ∷ ys) (own_words (suc at) xs)

later : (bytes : List ℕ) (from end : ℕ) → from ≤ end → drop (end - from) (drop from bytes) ≡ drop end bytes
later bytes from end le = let sum : from + (end - from) ≡ end = omega (arith, le) in drop-drop (end - from) from bytes ∙ ap (λ n. drop n bytes) sum

from_own : (bytes : List ℕ) (xs : List Lexeme) (at : ℕ) → AreInOrder bytes at xs
    → respelled_from at (drop at bytes) xs (map (λ x. x.bytes) xs) ≡ drop at bytes
from_own bytes [] at h = refl
from_own bytes (x ∷ xs) at h =
    let from : at ≤ x.start = h.0 in
    let span : x.start < x.end = h.1 in
    let kept = take (x.start - at) (drop at bytes) in
    let words = map (λ y. y.bytes) xs in
    let rest = ap (λ b. respelled_from x.end b xs words) (later bytes at x.end (omega (arith, from, span))) ∙ from_own bytes xs x.end h.4 in
    ap (λ b. (kept ++ x.bytes) ++ b) rest
    ∙ append_assoc kept x.bytes (drop x.end bytes)
    ∙ ap (λ b. kept ++ (b ++ drop x.end bytes)) h.3
    ∙ ap (λ b. kept ++ b) (sym (drop_split bytes x.start x.end (omega (arith, span))))
    ∙ sym (drop_split bytes at x.start from)

pub respelled_own : (bytes : List ℕ) (xs : List Lexeme) → Lexed bytes xs → respelled bytes xs (new_words own 1 xs) ≡ bytes
respelled_own bytes xs cut = ap (respelled bytes xs) (own_words 1 xs) ∙ from_own bytes xs 0 (lexemes_are_in_order bytes xs cut)

pub sources_own : (n : ℕ) (ss : List SourceFile) (lists : List (List Lexeme)) → AreCut ss lists → AreRespelled (λ m. own) n ss ss
sources_own n [] lists cut = tt
sources_own n (s ∷ ss) [] cut = absurd cut
sources_own n (s ∷ ss) (xs ∷ lists) cut = (
  record { lexemes = xs; cut = cut.0; name = refl; bytes = sym (respelled_own s.bytes xs cut.0) },
  sources_own (suc n) ss lists cut.1,
)
