-- Lexemes that are respelled twice.
use Rattle.std.proofs.Common.{◌≡◌, ℕ, suc, ◌+◌, ◌-◌, ◌<◌, ◌≤◌, List, [], ◌∷◌, ◌++◌, length, take, drop, refl, ap, sym, ◌∙◌, arith, append_assoc}
use Rattle.std.proofs.Common.{drop-drop, length-append, length-drop}
use Rattle.std.proofs.lemmas.List.{length-take, take_at, drop_at}
use Rattle.rotor_base.specs.declared.source.SourceFile.{SourceFile}
use Rattle.rotor_base.specs.declared.token.Class.{Class}
use Rattle.rotor_base.specs.declared.token.Class.TheVariants as class
use Rattle.ml_lexer.specs.Laws.{AreInOrder}
use Rattle.ml_lexer.specs.Lexed.{Lexeme, Lexed}
use Rattle.ml_lexer.specs.Respelled.{respelled, respelled_from, respelled_lexemes, respelled_lexemes_from}
use Rattle.ml_lexer.proofs.OneCutting.{one_lexed}
use Rattle.ml_lexer.proofs.Order.{lexemes_are_in_order}
use Rattle.value_sites.specs.Respelled.{Spelling, spelled}
use Rattle.ml_syntax.specs.RespelledFile.{new_words}
use Rattle.ml_syntax.specs.RespelledSource.{IsRespelled}

-- ---- bytes that are respelled twice

later : (bytes : List ℕ) (from end : ℕ) → from ≤ end → drop (end - from) (drop from bytes) ≡ drop end bytes
later bytes from end le = let sum : from + (end - from) ≡ end = omega (arith, le) in drop-drop (end - from) from bytes ∙ ap (λ n. drop n bytes) sum

twice : (bytes : List ℕ) (xs : List Lexeme) (words others : List (List ℕ)) (at now : ℕ) → AreInOrder bytes at xs → length words ≡ length xs
    → length others ≡ length xs
    → respelled_from now (respelled_from at (drop at bytes) xs words) (respelled_lexemes_from at now xs words) others
    ≡ respelled_from at (drop at bytes) xs others
twice bytes [] words others at now h size many = refl
twice bytes (x ∷ xs) [] others at now h size many = absurd (omega (arith, size))
twice bytes (x ∷ xs) (w ∷ words) [] at now h size many = absurd (omega (arith, many))
twice bytes (x ∷ xs) (w ∷ words) (v ∷ others) at now h size many =
    let from : at ≤ x.start = h.0 in
    let span : x.start < x.end = h.1 in
    let within : x.end ≤ length bytes = h.2 in
    let kept = take (x.start - at) (drop at bytes) in
    let rest = respelled_from x.end (drop (x.end - at) (drop at bytes)) xs words in
    let whole = (kept ++ w) ++ rest in
    let start = now + (x.start - at) in
    let end = start + length w in
    let lexemes = respelled_lexemes_from x.end end xs words in
    let size_kept : length kept ≡ start - now =
    omega (arith, from, span, within, length-take (x.start - at) (drop at bytes), length-drop at bytes) in
    let taken : take (start - now) whole ≡ kept = ap (take (start - now)) (append_assoc kept w rest)
    ∙ take_at kept (w ++ rest) (start - now) size_kept in
    let size_two : length (kept ++ w) ≡ end - now = omega (arith, size_kept, length-append kept w) in
    let dropped : drop (end - now) whole ≡ rest = drop_at (kept ++ w) rest (end - now) size_two in
    let behind : drop (x.end - at) (drop at bytes) ≡ drop x.end bytes = later bytes at x.end (omega (arith, from, span)) in
    let again : rest ≡ respelled_from x.end (drop x.end bytes) xs words = ap (λ b. respelled_from x.end b xs words) behind in
    let tail = ap (λ b. respelled_from end b lexemes others) (dropped ∙ again)
    ∙ twice bytes xs words others x.end end h.4 (omega (arith, size)) (omega (arith, many)) in
    ap (λ b. (b ++ v) ++ respelled_from end (drop (end - now) whole) lexemes others) taken
    ∙ ap (λ b. (kept ++ v) ++ b) tail
    ∙ ap (λ b. (kept ++ v) ++ respelled_from x.end b xs others) (sym behind)

pub respelled_twice : (bytes : List ℕ) (xs : List Lexeme) (words others : List (List ℕ)) → Lexed bytes xs → length words ≡ length xs
    → length others ≡ length xs → respelled (respelled bytes xs words) (respelled_lexemes xs words) others ≡ respelled bytes xs others
respelled_twice bytes xs words others cut size many = twice bytes xs words others 0 0 (lexemes_are_in_order bytes xs cut) size many

-- ---- the words of one source

as_many : (w : Spelling) (at : ℕ) (xs : List Lexeme) → length (new_words w at xs) ≡ length xs
as_many w at [] = refl
as_many w at (x ∷ xs) = ap suc (as_many w (suc at) xs)

-- words that are those of two spellings, one after the other
module _ (c u w : Spelling) (same : (at : ℕ) (x : List ℕ) → c at x ≡ u at (w at x)) where
  text_twice : (k : Class) (at : ℕ) (text : List ℕ)
      → (spelled u k (record { at = at; text = (spelled w k (record { at = at; text = text })).text })).text
      ≡ (spelled c k (record { at = at; text = text })).text
  text_twice class.Lower at text = sym (same at text)
  text_twice _ at text = refl

  words_twice : (at old now : ℕ) (xs : List Lexeme) → new_words u at (respelled_lexemes_from old now xs (new_words w at xs)) ≡ new_words c at xs
  words_twice at old now [] = refl
  words_twice at old now (x ∷ xs) =
      let text = (spelled w x.class (record { at = at; text = x.bytes })).text in
      let end = (now + (x.start - old)) + length text in
      ap (λ t. t ∷ new_words u (suc at) (respelled_lexemes_from x.end end xs (new_words w (suc at) xs))) (text_twice x.class at x.bytes)
      ∙ ap (λ ts. (spelled c x.class (record { at = at; text = x.bytes })).text ∷ ts) (words_twice (suc at) x.end end xs)

  pub source_twice : (old mid new : SourceFile) (xs : List Lexeme) → Lexed old.bytes xs → Lexed mid.bytes (respelled_lexemes xs (new_words w 1 xs))
      → IsRespelled w old mid → IsRespelled u mid new → IsRespelled c old new
  source_twice old mid new xs cut mid_cut i j =
      let ws = new_words w 1 xs in
      let ys = respelled_lexemes xs ws in
      let written = i.bytes ∙ ap (λ zs. respelled old.bytes zs (new_words w 1 zs)) (one_lexed i.cut cut) in
      record {
        lexemes = xs;
        cut = cut;
        name = j.name ∙ i.name;
        bytes = j.bytes
            ∙ ap (λ zs. respelled mid.bytes zs (new_words u 1 zs)) (one_lexed j.cut mid_cut)
            ∙ ap (respelled mid.bytes ys) (words_twice 1 0 0 xs)
            ∙ ap (λ bytes. respelled bytes ys (new_words c 1 xs)) written
            ∙ respelled_twice old.bytes xs ws (new_words c 1 xs) cut (as_many w 1 xs) (as_many c 1 xs);
      }
