-- A character begins where a word of a text in UTF-8 begins, and where it ends.
use Rattle.std.proofs.Common.{◌≡◌, ◌≢◌, ℕ, ◌+◌, ◌-◌, ◌<◌, ◌≤◌, List, [], ◌∷◌, ◌++◌, length, take, drop, get_or, refl, ap, sym, ◌∙◌, subst, arith}
use Rattle.std.proofs.Common.{Bool, true, false, add-zero}
use Rattle.std.specs.Prelude.{slice_range}
use Rattle.std.specs.List.{list_all}
use Rattle.std.specs.Str.{IsUtf8, IsCharBoundary}
use Rattle.std.proofs.lemmas.Bool.Decides.{nat_tests}
use Rattle.std.proofs.lemmas.List.{length-append, length-take, length-take-le, length-drop, take-append-drop, get_or-drop, get_or-take}
use Rattle.std.proofs.lemmas.List.{get_or-append-add}
use Rattle.std.proofs.lemmas.List.Folds.{list_all_at}
use Rattle.std.proofs.lemmas.Str.{IsUtf8-take, IsCharBoundary-after_ascii}
use Rattle.rotor_base.specs.Name.{is_identifier_byte}
use Rattle.text_places.specs.declared.counting.Counting.{Counting}
use Rattle.text_places.specs.Laws.{Begins, IsCut}
use Rattle.text_places.proofs.Characters.{characters_begin}
use Rattle.source_edits.specs.declared.ranges.Span.{Span}
use Rattle.source_edits.specs.Renamed.{IsWord}

-- a byte of a word is ASCII, and neither LF nor CR
record IsPlain (b : ℕ) : Type 0 where
  low : b < 128
  no_feed : b ≢ 10
  no_return : b ≢ 13

plain_low : (b : ℕ) → is_identifier_byte b ≡ true → b < 128
plain_low b e = grind (arith, nat_tests)

no_feed : (b : ℕ) → is_identifier_byte b ≡ true → b ≢ 10
no_feed b e is = let none : false ≡ true = ap is_identifier_byte (sym is) ∙ e in cc

no_return : (b : ℕ) → is_identifier_byte b ≡ true → b ≢ 13
no_return b e is = let none : false ≡ true = ap is_identifier_byte (sym is) ∙ e in cc

plain : (b : ℕ) → is_identifier_byte b ≡ true → IsPlain b
plain b e = record { low = plain_low b e; no_feed = no_feed b e; no_return = no_return b e }

-- each byte of a word
passes_at : (p : ℕ → Bool) (xs : List ℕ) (i : ℕ) → i < length xs → list_all p xs ≡ true → p (get_or xs i 0) ≡ true
passes_at p xs i lt all = by_test (p (get_or xs i 0)) refl
  where
    by_test : (t : Bool) → p (get_or xs i 0) ≡ t → t ≡ true
    by_test true e = refl
    by_test false e = sym (list_all_at p xs i 0 lt e) ∙ all

plain_byte : (source : List ℕ) (span : Span) (i : ℕ) → span.end ≤ length source → IsWord source span → span.start ≤ i → i < span.end
    → IsPlain (get_or source i 0)
plain_byte source span i within word low high =
    let k : ℕ = i - span.start in
    let bytes : List ℕ = slice_range source span.start span.end in
    let long : length bytes ≡ span.end - span.start
    = omega (arith, length-take (span.end - span.start) (drop span.start source), length-drop span.start source) in
    let same : get_or bytes k 0 ≡ get_or source i 0
    = get_or-take (span.end - span.start) (drop span.start source) k 0 (omega arith) ∙ get_or-drop span.start source k 0
    ∙ ap (λ n. get_or source n 0) (omega arith) in
    subst IsPlain same (plain (get_or bytes k 0) (passes_at is_identifier_byte bytes k (omega arith) word))

-- a text is not cut between CR and LF before a plain byte, or behind one
whole_before : (source : List ℕ) (n : ℕ) → IsPlain (get_or source n 0) → IsCut (take n source) (drop n source) → ⊥
whole_before source n plain cut =
    let feed : get_or source n 0 ≡ 10 = ap (λ k. get_or source k 0) (sym (add-zero n)) ∙ sym (get_or-drop n source 0 0)
    ∙ ap (λ l. get_or l 0 0) cut.begins in
    plain.no_feed feed

whole_behind : (source : List ℕ) (n : ℕ) → n ≤ length source → IsPlain (get_or source (n - 1) 0) → IsCut (take n source) (drop n source) → ⊥
whole_behind source n within plain cut =
    let long : n ≡ length cut.before + 1 = sym (length-take-le n source within) ∙ ap length cut.ends ∙ length-append cut.before (13 ∷ []) in
    let same : get_or source (n - 1) 0 ≡ 13
    = sym (get_or-take n source (n - 1) 0 (omega arith)) ∙ ap (λ l. get_or l (n - 1) 0) cut.ends
    ∙ ap (λ k. get_or (cut.before ++ 13 ∷ []) k 0) (omega arith) ∙ get_or-append-add cut.before (13 ∷ []) 0 0 in
    plain.no_return same

-- what begins behind a front
begins_at : (c : Counting) (source : List ℕ) (n : ℕ) → n ≤ length source → IsUtf8 source → IsCharBoundary source n
    → (IsCut (take n source) (drop n source) → ⊥) → Begins c source n
begins_at c source n within text boundary whole =
    let P : List ℕ → ℕ → Type 0 = λ l k. Begins c l k in
    let there : Begins c (take n source ++ drop n source) (length (take n source))
    = characters_begin c (take n source) (drop n source) (IsUtf8-take source n text boundary) whole in
    let Q : List ℕ → Type 0 = λ l. Begins c l (length (take n source)) in
    let R : ℕ → Type 0 = λ k. Begins c source k in
    subst R (length-take-le n source within) (subst Q (take-append-drop n source) there)

pub word_begins : (c : Counting) (source : List ℕ) (span : Span) → IsUtf8 source → span.start < span.end → span.end ≤ length source
    → IsWord source span
    → Begins c source span.start
word_begins c source span text some within word =
    let here = plain_byte source span span.start within word (omega arith) some in
    begins_at c source span.start (omega arith) text (omega arith, λ lt high. absurd (omega (arith, here.low))) (whole_before source span.start here)

pub word_ends : (c : Counting) (source : List ℕ) (span : Span) → IsUtf8 source → span.start < span.end → span.end ≤ length source → IsWord source span
    → Begins c source span.end
word_ends c source span text some within word =
    let last : ℕ = span.end - 1 in
    let here = plain_byte source span last within word (omega arith) (omega arith) in
    let boundary : IsCharBoundary source (last + 1) = IsCharBoundary-after_ascii source last text (omega arith) here.low in
    let P : ℕ → Type 0 = λ n. IsCharBoundary source n in
    begins_at c source span.end within text (subst P (omega arith) boundary) (whole_behind source span.end within here)
