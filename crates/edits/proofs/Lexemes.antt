-- Replacing the spans of lexemes is respelling them.
use Rattle.std.proofs.Common.{◌≡◌, ℕ, ◌+◌, ◌-◌, ◌<◌, ◌≤◌, List, [], ◌∷◌, ◌++◌, length, take, drop, refl, ap, sym, ◌∙◌, arith, append_assoc, drop-drop}
use Rattle.std.proofs.Common.{take-add}
use Rattle.std.specs.Prelude.{slice_range}
use Rattle.std.proofs.lemmas.List.Folds.{drop_split}
use Rattle.ml_lexer.specs.Lexed.{Lexeme}
use Rattle.ml_lexer.specs.Laws.{AreInOrder as InOrder}
use Rattle.ml_lexer.specs.Respelled.{respelled_from}
use Rattle.ml_lexer.proofs.Order.{lexemes_are_in_order}
use Rattle.edits.specs.declared.Edit.{Edit}
use Rattle.edits.specs.Replaced.{AreInOrder, pieces}
use Rattle.edits.specs.Lexemes.{GiveWords, nothing, kept, changed, ReplacedIsRespelled}
use Rattle.edits.proofs.Pieces.{rest_is_pieces}

later : (src : List ℕ) (from end : ℕ) → from ≤ end → drop (end - from) (drop from src) ≡ drop end src
later src from end le = let sum : from + (end - from) ≡ end = omega (arith, le) in drop-drop (end - from) from src ∙ ap (λ n. drop n src) sum

slice_split : (src : List ℕ) (from mid end : ℕ) → from ≤ mid → mid ≤ end
    → slice_range src from end ≡ slice_range src from mid ++ slice_range src mid end
slice_split src from mid end le le' =
    let sum : end - from ≡ (mid - from) + (end - mid) = omega (arith, le, le') in
    ap (λ n. take n (drop from src)) sum
    ∙ take-add (mid - from) (end - mid) (drop from src)
    ∙ ap (λ b. slice_range src from mid ++ take (end - mid) b) (later src from mid le)

-- the pieces from an earlier byte on
sooner : (src : List ℕ) (from mid : ℕ) (edits : List Edit) → from ≤ mid → AreInOrder mid (length src) edits
    → pieces from src edits ≡ slice_range src from mid ++ pieces mid src edits
sooner src from mid [] le h = drop_split src from mid le
sooner src from mid (edit ∷ edits) le h =
    let rest = edit.text ++ pieces edit.end src edits in
    ap (λ b. b ++ rest) (slice_split src from mid edit.start le h.0) ∙ append_assoc (slice_range src from mid) (slice_range src mid edit.start) rest

in_order_too : (from mid len : ℕ) (edits : List Edit) → from ≤ mid → AreInOrder mid len edits → AreInOrder from len edits
in_order_too from mid len [] le h = omega (arith, le, h)
in_order_too from mid len (edit ∷ edits) le h = let start = h.0 in (omega (arith, le, start), h.1, h.2, h.3)

record Same (src : List ℕ) (from : ℕ) (xs : List Lexeme) (words : List (List ℕ)) (edits : List Edit) : Type 0 where
  order : AreInOrder from (length src) edits
  same : pieces from src edits ≡ respelled_from from (drop from src) xs words

same_from : (src : List ℕ) (from : ℕ) {xs : List Lexeme} {words : List (List ℕ)} {edits : List Edit} → InOrder src from xs → GiveWords xs words edits
    → Same src from xs words edits
same_from src from h nothing = record { order = h; same = refl }
same_from src from h (kept {x = x} {xs = xs} {word = word} {words = words} {edits = edits} e g) =
    let r = same_from src x.end h.4 g in
    let start : from ≤ x.start = h.0 in
    let span : x.start < x.end = h.1 in
    let within : from ≤ x.end = omega (arith, start, span) in
    let inside : AreInOrder x.start (length src) edits = in_order_too x.start x.end (length src) edits (omega (arith, span)) r.order in
    record {
      order = in_order_too from x.end (length src) edits within r.order;
      same =
          sooner src from x.start edits start inside
          ∙ ap (λ b. slice_range src from x.start ++ b) (sooner src x.start x.end edits (omega (arith, span)) r.order)
          ∙ ap (λ b. slice_range src from x.start ++ (b ++ pieces x.end src edits)) (sym h.3 ∙ sym e)
          ∙ ap (λ b. slice_range src from x.start ++ (word ++ b))
          (r.same ∙ ap (λ b. respelled_from x.end b xs words) (sym (later src from x.end within)))
          ∙ sym (append_assoc (slice_range src from x.start) word (respelled_from x.end (drop (x.end - from) (drop from src)) xs words));
    }
same_from src from h (changed {x = x} {xs = xs} {word = word} {words = words} {edits = edits} g) =
    let r = same_from src x.end h.4 g in
    let start : from ≤ x.start = h.0 in
    let span : x.start < x.end = h.1 in
    let within : from ≤ x.end = omega (arith, start, span) in
    record {
      order = (start, span, h.2, r.order);
      same = ap (λ b. slice_range src from x.start ++ (word ++ b))
          (r.same ∙ ap (λ b. respelled_from x.end b xs words) (sym (later src from x.end within)))
          ∙ sym (append_assoc (slice_range src from x.start) word (respelled_from x.end (drop (x.end - from) (drop from src)) xs words));
    }

pub replaced_is_respelled : ReplacedIsRespelled
replaced_is_respelled src xs words edits cut g =
    let r = same_from src 0 (lexemes_are_in_order src xs cut) g in
    (r.order, rest_is_pieces 0 src edits r.order ∙ r.same)
