-- The edits of words, applied, are the source with its spans replaced.
use Rattle.std.proofs.Common.{◌≡◌, inl, ℕ, suc, ◌+◌, ◌-◌, ◌<◌, ◌≤◌, List, [], ◌∷◌, ◌++◌, length, map, take, drop, refl, ap, sym, ◌∙◌, arith}
use Rattle.std.proofs.Common.{true, false, cond, ◌==◌, ◌&&◌, ◌||◌, nat_le, nat_lt, All}
use Rattle.std.specs.Prelude.{slice_range}
use Rattle.std.specs.List.{AllPairs}
use Rattle.std.specs.Str.{IsUtf8}
use Rattle.std.proofs.lemmas.Bool.Decides.{nat_tests}
use Rattle.std.proofs.lemmas.List.{append_assoc, length-take, length-drop, take_all}
use Rattle.std.proofs.lemmas.List.Elements.{All-cons, All-nil}
use Rattle.std.proofs.lemmas.List.Kept.{AllPairs-cons}
use Rattle.std.proofs.lemmas.List.Folds.{drop_split}
use Rattle.edits.specs.declared.Edit.{Edit}
use Rattle.edits.specs.Replaced.{AreInOrder, replaced, pieces}
use Rattle.edits.proofs.Pieces.{rest_is_pieces}
use Rattle.text_places.specs.declared.counting.Counting.{Counting}
use Rattle.text_places.proofs.Rising.{comes_back}
use Rattle.source_edits.specs.declared.ranges.Span.{Span}
use Rattle.source_edits.specs.declared.ranges.TextRange.{TextRange}
use Rattle.source_edits.specs.declared.text_edit.TextEdit.{TextEdit}
use Rattle.source_edits.specs.Ranges.{AreOrdered, range_of}
use Rattle.source_edits.specs.Edited.{EachNames, AreApart, texts_at, is_covered, edited_from, IsEdited}
use Rattle.source_edits.specs.Renamed.{IsWord, edit_of, text_edit_of}
use Rattle.source_edits.proofs.Words.{word_begins, word_ends}

-- spans that begin at `low` or later, none empty
abbrev StartFrom : ℕ → List Edit → Type 0
StartFrom low [] = Unit {0}
StartFrom low (s ∷ ss) = (low ≤ s.start) × (s.start < s.end) × StartFrom low ss

start_sooner : (low high : ℕ) (ss : List Edit) → low ≤ high → StartFrom high ss → StartFrom low ss
start_sooner low high [] le h = tt
start_sooner low high (s ∷ ss) le h = (omega (arith, h.0), h.1, start_sooner low high ss le h.2)

in_order_start : (from len : ℕ) (ss : List Edit) → AreInOrder from len ss → StartFrom from ss
in_order_start from len [] h = tt
in_order_start from len (s ∷ ss) h = (h.0, h.1, start_sooner from s.end ss (omega (arith, h.0, h.1)) (in_order_start s.end len ss h.3))

-- ---- the bytes, one by one

no_start : (s at : ℕ) → at < s → (s == at) ≡ false
no_start s at lt = grind (arith, nat_tests)

started : (s at : ℕ) → s < at → (s == at) ≡ false
started s at lt = grind (arith, nat_tests)

not_in : (s e at : ℕ) → at < s → (nat_le s at && nat_lt at e) ≡ false
not_in s e at lt = grind (arith, nat_tests)

not_in_past : (s e at : ℕ) → e ≤ at → (nat_le s at && nat_lt at e) ≡ false
not_in_past s e at le = grind (arith, nat_tests)

held : (s e at : ℕ) → s ≤ at → at < e → (nat_le s at && nat_lt at e) ≡ true
held s e at le lt = grind (arith, nat_tests)

-- before the first span nothing is put in, and nothing left out
texts_none : (at low : ℕ) (ss : List Edit) → StartFrom low ss → at < low → texts_at at ss ≡ []
texts_none at low [] h lt = refl
texts_none at low (s ∷ ss) h lt =
    ap (λ b. cond b s.text [] ++ texts_at at ss) (no_start s.start at (omega (arith, h.0))) ∙ texts_none at low ss h.2 lt

covered_none : (at low : ℕ) (ss : List Edit) → StartFrom low ss → at < low → is_covered at ss ≡ false
covered_none at low [] h lt = refl
covered_none at low (s ∷ ss) h lt =
    ap (λ b. b || is_covered at ss) (not_in s.start s.end at (omega (arith, h.0))) ∙ covered_none at low ss h.2 lt

-- what a byte gives
byte_of : ℕ → List Edit → ℕ → List ℕ → List ℕ
byte_of at ss b rest = texts_at at ss ++ (cond (is_covered at ss) [] (b ∷ []) ++ rest)

kept_bytes : (at next : ℕ) (kept more : List ℕ) (ss : List Edit) → at + length kept ≡ next → StartFrom next ss
    → edited_from at (kept ++ more) ss ≡ kept ++ edited_from next more ss
kept_bytes at next [] more ss sum h = ap (λ n. edited_from n more ss) (omega arith)
kept_bytes at next (b ∷ bs) more ss sum h =
    let rest : List ℕ = edited_from (suc at) (bs ++ more) ss in
    ap (λ t. t ++ (cond (is_covered at ss) [] (b ∷ []) ++ rest)) (texts_none at next ss h (omega arith))
    ∙ ap (λ t. cond t [] (b ∷ []) ++ rest) (covered_none at next ss h (omega arith))
    ∙ ap (λ l. b ∷ l) (kept_bytes (suc at) next bs more ss (omega arith) h)

gone_bytes : (at next : ℕ) (gone more : List ℕ) (s : Edit) (ss : List Edit) → at + length gone ≡ next → s.start < at → next ≤ s.end
    → StartFrom next ss
    → edited_from at (gone ++ more) (s ∷ ss) ≡ edited_from next more (s ∷ ss)
gone_bytes at next [] more s ss sum begun within h = ap (λ n. edited_from n more (s ∷ ss)) (omega arith)
gone_bytes at next (b ∷ bs) more s ss sum begun within h =
    let rest : List ℕ = edited_from (suc at) (bs ++ more) (s ∷ ss) in
    let last : List ℕ = cond ((nat_le s.start at && nat_lt at s.end) || is_covered at ss) [] (b ∷ []) ++ rest in
    ap (λ t. (cond t s.text [] ++ texts_at at ss) ++ last) (started s.start at begun)
    ∙ ap (λ t. t ++ last) (texts_none at next ss h (omega arith))
    ∙ ap (λ t. cond (t || is_covered at ss) [] (b ∷ []) ++ rest) (held s.start s.end at (omega arith) (omega arith))
    ∙ gone_bytes (suc at) next bs more s ss (omega arith) (omega arith) within h

-- a span that ends before is forgotten
past_texts : (at : ℕ) (s : Edit) (ss : List Edit) → s.start < at → texts_at at (s ∷ ss) ≡ texts_at at ss
past_texts at s ss begun = ap (λ t. cond t s.text [] ++ texts_at at ss) (started s.start at begun)

past_bytes : (at : ℕ) (bs : List ℕ) (s : Edit) (ss : List Edit) → s.end ≤ at → s.start < s.end → edited_from at bs (s ∷ ss) ≡ edited_from at bs ss
past_bytes at [] s ss past some = past_texts at s ss (omega arith)
past_bytes at (b ∷ bs) s ss past some =
    ap (λ t. t ++ (cond ((nat_le s.start at && nat_lt at s.end) || is_covered at ss) [] (b ∷ []) ++ edited_from (suc at) bs (s ∷ ss)))
    (past_texts at s ss (omega arith))
    ∙ ap (λ t. texts_at at ss ++ (cond (t || is_covered at ss) [] (b ∷ []) ++ edited_from (suc at) bs (s ∷ ss))) (not_in_past s.start s.end at past)
    ∙ ap (λ l. texts_at at ss ++ (cond (is_covered at ss) [] (b ∷ []) ++ l)) (past_bytes (suc at) bs s ss (omega arith) some)

-- a whole span
same_start : (n : ℕ) → (n == n) ≡ true
same_start n = grind (arith, nat_tests)

span_bytes : (gone more : List ℕ) (s : Edit) (ss : List Edit) → s.start + length gone ≡ s.end → s.start < s.end → StartFrom s.end ss
    → edited_from s.start (gone ++ more) (s ∷ ss) ≡ s.text ++ edited_from s.end more ss
span_bytes [] more s ss sum some h = absurd (omega arith)
span_bytes (b ∷ bs) more s ss sum some h =
    let at : ℕ = s.start in
    let rest : List ℕ = edited_from (suc at) (bs ++ more) (s ∷ ss) in
    let last : List ℕ = cond ((nat_le at at && nat_lt at s.end) || is_covered at ss) [] (b ∷ []) ++ rest in
    ap (λ t. (cond t s.text [] ++ texts_at at ss) ++ last) (same_start at)
    ∙ append_assoc s.text (texts_at at ss) last
    ∙ ap (λ t. s.text ++ (t ++ last)) (texts_none at s.end ss h some)
    ∙ ap (λ t. s.text ++ (cond (t || is_covered at ss) [] (b ∷ []) ++ rest)) (held at s.end at (omega arith) some)
    ∙ ap (λ l. s.text ++ l) (gone_bytes (suc at) s.end bs more s ss (omega arith) (omega arith) (omega arith) h)
    ∙ ap (λ l. s.text ++ l) (past_bytes s.end more s ss (omega arith) some)

unchanged : (at : ℕ) (bs : List ℕ) → edited_from at bs [] ≡ bs
unchanged at [] = refl
unchanged at (b ∷ bs) = ap (λ l. b ∷ l) (unchanged (suc at) bs)

-- edited from a byte on is the pieces from it
edited_is_pieces : (from : ℕ) (src : List ℕ) (ss : List Edit) → AreInOrder from (length src) ss
    → edited_from from (drop from src) ss ≡ pieces from src ss
edited_is_pieces from src [] h = unchanged from (drop from src)
edited_is_pieces from src (s ∷ ss) h =
    let start : from ≤ s.start = h.0 in
    let some : s.start < s.end = h.1 in
    let within : s.end ≤ length src = h.2 in
    let kept : List ℕ = slice_range src from s.start in
    let gone : List ℕ = slice_range src s.start s.end in
    let rest : List ℕ = drop s.end src in
    let later : StartFrom s.end ss = in_order_start s.end (length src) ss h.3 in
    let kept_long : from + length kept ≡ s.start = omega (arith, length-take (s.start - from) (drop from src), length-drop from src) in
    let gone_long : s.start + length gone ≡ s.end = omega (arith, length-take (s.end - s.start) (drop s.start src), length-drop s.start src) in
    ap (λ l. edited_from from l (s ∷ ss)) (drop_split src from s.start start ∙ ap (λ l. kept ++ l) (drop_split src s.start s.end (omega arith)))
    ∙ kept_bytes from s.start kept (gone ++ rest) (s ∷ ss) kept_long (omega arith, some, start_sooner s.start s.end ss (omega arith) later)
    ∙ ap (λ l. kept ++ l) (span_bytes gone rest s ss gone_long some later)
    ∙ ap (λ l. kept ++ (s.text ++ l)) (edited_is_pieces s.end src ss h.3)

-- ---- no two overlap

all_apart : (s : Edit) (ss : List Edit) → StartFrom s.end ss → All (AreApart s) ss
all_apart s [] h = All-nil (AreApart s)
all_apart s (t ∷ ss) h = All-cons (AreApart s) t ss (inl h.0) (all_apart s ss h.2)

apart : (from len : ℕ) (ss : List Edit) → AreInOrder from len ss → AllPairs AreApart ss
apart from len [] h = λ i j d lt below. absurd (omega arith)
apart from len (s ∷ ss) h = AllPairs-cons AreApart s ss (all_apart s ss (in_order_start s.end len ss h.3)) (apart s.end len ss h.3)

-- ---- the ranges name the spans

each_names : (c : Counting) (src new : List ℕ) (from : ℕ) (spans : List Span) → IsUtf8 src → AreInOrder from (length src) (map (edit_of new) spans)
    → All (IsWord src) spans → EachNames c src (map (text_edit_of c src new) spans) (map (edit_of new) spans)
each_names c src new from [] text h words = tt
each_names c src new from (s ∷ ss) text h words =
    let word : IsWord src s = words 0 s (omega arith) in (
      record {
        first = comes_back c src s.start (word_begins c src s text h.1 h.2 word);
        behind = comes_back c src s.end (word_ends c src s text h.1 h.2 word);
        forwards = omega (arith, h.1);
        text = refl;
      },
      each_names c src new s.end ss text h.3 (λ k d below. words (suc k) d (omega arith)),
    )

-- ---- the whole

pub edits_give_replaced : (c : Counting) (src new : List ℕ) (spans : List Span) → IsUtf8 src → AreInOrder 0 (length src) (map (edit_of new) spans)
    → All (IsWord src) spans → IsEdited c src (map (text_edit_of c src new) spans) (replaced src (map (edit_of new) spans))
edits_give_replaced c src new spans text h words = record {
  spans = map (edit_of new) spans;
  names = each_names c src new 0 spans text h words;
  apart = apart 0 (length src) (map (edit_of new) spans) h;
  text = rest_is_pieces 0 src (map (edit_of new) spans) h ∙ sym (edited_is_pieces 0 src (map (edit_of new) spans) h);
}

pub order_of : (from len : ℕ) (new : List ℕ) (spans : List Span) → AreInOrder from len (map (edit_of new) spans) → AreOrdered from spans
order_of from len new [] h = tt
order_of from len new (s ∷ ss) h = (h.0, omega (arith, h.1), order_of s.end len new ss h.3)

-- the text edits of the ranges
with_text : (c : Counting) (src new : List ℕ) (spans : List Span)
    → map (λ (range : TextRange). record { range = range; text = new }) (map (range_of c src) spans) ≡ map (text_edit_of c src new) spans
with_text c src new [] = refl
with_text c src new (s ∷ ss) = ap (λ (es : List TextEdit). text_edit_of c src new s ∷ es) (with_text c src new ss)

-- those that a walk along all ranges makes
pub made_of_all : (c : Counting) (src new : List ℕ) (spans : List Span) (items : List TextRange) (n : ℕ) (made : List TextEdit)
    → made ≡ map (λ (range : TextRange). record { range = range; text = new }) (take n items) → length items ≤ n → items ≡ map (range_of c src) spans
    → made ≡ map (text_edit_of c src new) spans
made_of_all c src new spans items n made so_far all is =
    so_far
    ∙ ap (λ (xs : List TextRange). map (λ (range : TextRange). record { range = range; text = new }) xs) (take_all n items all ∙ is)
    ∙ with_text c src new spans
