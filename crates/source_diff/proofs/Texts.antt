-- The texts of lines.
use Rattle.std.proofs.Common.{◌≡◌, ℕ, suc, ◌+◌, ◌-◌, ◌<◌, ◌≤◌, List, [], ◌∷◌, ◌++◌, true, false, cond, min, refl, ap, sym, ◌∙◌, subst, length, take}
use Rattle.std.proofs.Common.{drop, map, get_or, arith, append_assoc, ne_eqb}
use Rattle.std.specs.Prelude.{codes, slice_range, count_by, not, ◌==◌, ◌||◌}
use Rattle.std.specs.List.{flat_map, list_any}
use Rattle.std.proofs.lemmas.List.{append-nil, take_min, length-drop, length-map, drop-map, take-map, drop_more, get_or-map, map_more, take_more}
use Rattle.std.proofs.lemmas.List.{drop_all, take_rest, get_or-drop, get_or_default}
use Rattle.std.proofs.lemmas.List.Recursion.{is_count_by}
use Rattle.std.proofs.lemmas.List.Concat.{flat_map-append}
use Rattle.source_diff.specs.declared.pairs.LinePair.{LinePair}
use Rattle.source_diff.specs.declared.hunks.Mark.{Mark}
use Rattle.source_diff.specs.declared.hunks.Mark.TheVariants.{Kept, Removed, Added}
use Rattle.source_diff.specs.Pairs.{Line, Pair, view_pair, is_changed}
use Rattle.source_diff.specs.declared.runs.Run.{Run}
use Rattle.source_diff.specs.Runs.{is_shown, NoneFrom, IsNextRun, AreRuns}
use Rattle.source_diff.specs.Hunks.{HunkLine, Hunk, AreHunks, added, line_as, marked, mark_byte, ends_with_feed, ended_line, lines_text, old_lines}
use Rattle.source_diff.specs.Hunks.{new_lines}
use Rattle.source_diff.specs.Hunks.{head_text, hunk_text, hunk_of, diff_names, diff_text}
use Rattle.source_diff.proofs.Sides.{if_some, olds, news, old_lines-marked, new_lines-marked}

-- ---- the lines near a line

any_view : (xs : List LinePair) → list_any is_changed (map view_pair xs) ≡ list_any (λ p. is_changed (view_pair p)) xs
any_view [] = refl
any_view (x ∷ xs) = ap (λ b. is_changed (view_pair x) || b) (any_view xs)

-- a part of the lines that ends with them, as long as there are so many
pub near_is : (ps : List LinePair) (line from to : ℕ) → from ≡ line - 3 → to ≡ line + min (length ps - line) 4 → line < length ps
    → list_any (λ p. is_changed (view_pair p)) (take (to - from) (drop from ps)) ≡ is_shown (map view_pair ps) line
near_is ps line from to f t lt =
    let len : to - from ≡ min (line + 4 - from) (length (drop from ps)) = omega (arith, length-drop from ps) in
    let short : take (to - from) (drop from ps) ≡ take (line + 4 - from) (drop from ps)
    = ap (λ n. take n (drop from ps)) len ∙ take_min (line + 4 - from) (drop from ps) in
    let seen : map view_pair (take (line + 4 - from) (drop from ps)) ≡ slice_range (map view_pair ps) from (line + 4)
    = sym (take-map view_pair (line + 4 - from) (drop from ps)) ∙ ap (take (line + 4 - from)) (sym (drop-map view_pair from ps)) in
    ap (list_any (λ p. is_changed (view_pair p))) short
    ∙ sym (any_view (take (line + 4 - from) (drop from ps)))
    ∙ ap (list_any is_changed) seen ∙ ap (λ n. list_any is_changed (slice_range (map view_pair ps) n (line + 4))) f

-- ---- a line

-- one line alone
line_text : (mark : Mark) (x : Line) → 0 < length x → lines_text (line_as mark x) ≡ mark_byte mark ∷ ended_line x
line_text mark [] some = absurd (omega arith)
line_text mark (b ∷ bs) some = append-nil (mark_byte mark ∷ ended_line (b ∷ bs))

-- a line that ends with LF
line_done : (old : List ℕ) (mark : Mark) (x : Line) → 0 < length x → ends_with_feed x ≡ true
    → (old ++ mark_byte mark ∷ []) ++ x ≡ old ++ lines_text (line_as mark x)
line_done old mark x some fed =
    append_assoc old (mark_byte mark ∷ []) x
    ∙ ap (λ y. old ++ mark_byte mark ∷ y) (sym (ap (λ t. cond t x (x ++ codes "\n\\ No newline at end of file\n")) fed))
    ∙ ap (λ y. old ++ y) (sym (line_text mark x some))

-- and one that does not
line_noted : (old : List ℕ) (mark : Mark) (x : Line) → 0 < length x → ends_with_feed x ≡ false
    → ((old ++ mark_byte mark ∷ []) ++ x) ++ codes "\n\\ No newline at end of file\n" ≡ old ++ lines_text (line_as mark x)
line_noted old mark x some fed =
    append_assoc (old ++ mark_byte mark ∷ []) x (codes "\n\\ No newline at end of file\n")
    ∙ append_assoc old (mark_byte mark ∷ []) (x ++ codes "\n\\ No newline at end of file\n")
    ∙ ap (λ y. old ++ mark_byte mark ∷ y) (sym (ap (λ t. cond t x (x ++ codes "\n\\ No newline at end of file\n")) fed))
    ∙ ap (λ y. old ++ y) (sym (line_text mark x some))

-- the steps of a line that has no LF
pub noted_steps : (old first second last : List ℕ) (mark : Mark) (x : Line) → 0 < length x → ends_with_feed x ≡ false
    → first ≡ old ++ mark_byte mark ∷ []
    → second ≡ first ++ x → last ≡ second ++ codes "\n\\ No newline at end of file\n" → last ≡ old ++ lines_text (line_as mark x)
noted_steps old first second last mark x some fed f s l =
    l ∙ ap (λ xs. xs ++ codes "\n\\ No newline at end of file\n") (s ∙ ap (λ xs. xs ++ x) f) ∙ line_noted old mark x some fed

-- ---- added lines

abbrev text_of : HunkLine → List ℕ
text_of x = mark_byte x.mark ∷ ended_line x.line

pub lines_text-append : (xs ys : List HunkLine) → lines_text (xs ++ ys) ≡ lines_text xs ++ lines_text ys
lines_text-append xs ys = flat_map-append text_of xs ys

pub added_more : (ps : List Pair) (p : Pair) → added (ps ++ p ∷ []) ≡ added ps ++ line_as Added p.new
added_more ps p = flat_map-append (λ p. line_as Added p.new) ps (p ∷ []) ∙ ap (λ xs. added ps ++ xs) (append-nil (line_as Added p.new))

-- one more pair is added
pub added_next : (text new old : List ℕ) (pairs : List LinePair) (i : ℕ) (pair : LinePair) → i < length pairs → pair ≡ get_or pairs i pair
    → text ≡ old ++ lines_text (added (map view_pair (take i pairs))) → new ≡ text ++ lines_text (line_as Added pair.new.now)
    → new ≡ old ++ lines_text (added (map view_pair (take (i + 1) pairs)))
added_next text new old pairs i pair lt is so more =
    let front : List Pair = map view_pair (take i pairs) in
    let next : map view_pair (take (i + 1) pairs) ≡ front ++ view_pair pair ∷ []
    = map_more view_pair pairs i pair lt ∙ ap (λ p. front ++ view_pair p ∷ []) (sym is) in
    more
    ∙ ap (λ xs. xs ++ lines_text (line_as Added pair.new.now)) so
    ∙ append_assoc old (lines_text (added front)) (lines_text (line_as Added pair.new.now))
    ∙ ap (λ xs. old ++ xs)
    (sym (lines_text-append (added front) (line_as Added pair.new.now))
    ∙ ap lines_text (sym (added_more front (view_pair pair)) ∙ ap added (sym next)))

-- ---- the lines of a hunk

slice_view : (pairs : List LinePair) (from to : ℕ) → map view_pair (slice_range pairs from to) ≡ slice_range (map view_pair pairs) from to
slice_view pairs from to = sym (take-map view_pair (to - from) (drop from pairs)) ∙ ap (take (to - from)) (sym (drop-map view_pair from pairs))

-- the pairs from one on
rest_view : (pairs : List LinePair) (i : ℕ) (pair : LinePair) → i < length pairs → pair ≡ get_or pairs i pair
    → drop i (map view_pair pairs) ≡ view_pair pair ∷ drop (i + 1) (map view_pair pairs)
rest_view pairs i pair lt is =
    let within : i < length (map view_pair pairs) = omega (arith, length-map pairs view_pair) in
    drop_more (map view_pair pairs) i (view_pair pair) within
    ∙ ap (λ p. p ∷ drop (i + 1) (map view_pair pairs)) (get_or-map view_pair pairs i pair (view_pair pair) lt ∙ ap view_pair (sym is))

-- one more pair waits
waits_more : (pairs : List LinePair) (from i : ℕ) (pair : LinePair) → from ≤ i → i < length pairs → pair ≡ get_or pairs i pair
    → slice_range (map view_pair pairs) from (i + 1) ≡ slice_range (map view_pair pairs) from i ++ view_pair pair ∷ []
waits_more pairs from i pair le lt is =
    let ps : List Pair = map view_pair pairs in
    let len : i + 1 - from ≡ (i - from) + 1 = omega arith in
    let at : from + (i - from) ≡ i = omega arith in
    let inside : i - from < length (drop from ps) = omega (arith, length-drop from ps, length-map pairs view_pair) in
    ap (λ n. take n (drop from ps)) len ∙ take_more (drop from ps) (i - from) (view_pair pair) inside
    ∙ ap (λ p. take (i - from) (drop from ps) ++ p ∷ [])
    (get_or-drop from ps (i - from) (view_pair pair) ∙ ap (λ n. get_or ps n (view_pair pair)) at
    ∙ get_or-map view_pair pairs i pair (view_pair pair) lt ∙ ap view_pair (sym is))

marked_changed : (w : List HunkLine) (p : Pair) (ps : List Pair) → is_changed p ≡ true
    → marked w (p ∷ ps) ≡ line_as Removed p.old ++ marked (w ++ line_as Added p.new) ps
marked_changed w p ps e =
    ap (λ t. cond t (line_as Removed p.old ++ marked (w ++ line_as Added p.new) ps) (w ++ (line_as Kept p.old ++ marked [] ps))) e

marked_kept : (w : List HunkLine) (p : Pair) (ps : List Pair) → is_changed p ≡ false → marked w (p ∷ ps) ≡ w ++ (line_as Kept p.old ++ marked [] ps)
marked_kept w p ps e = ap (λ t. cond t (line_as Removed p.old ++ marked (w ++ line_as Added p.new) ps) (w ++ (line_as Kept p.old ++ marked [] ps))) e

-- what is left of the lines of a hunk
abbrev pub left_text : List LinePair → ℕ → ℕ → List ℕ
left_text pairs from i = lines_text (marked (added (slice_range (map view_pair pairs) from i)) (drop i (map view_pair pairs)))

pub left_changed : (pairs : List LinePair) (from i : ℕ) (d : LinePair) → from ≤ i → i < length pairs
    → is_changed (view_pair (get_or pairs i d)) ≡ true
    → left_text pairs from i ≡ lines_text (line_as Removed (get_or pairs i d).old.now) ++ left_text pairs from (i + 1)
left_changed pairs from i d le lt e =
    let pair : LinePair = get_or pairs i d in
    let is : pair ≡ get_or pairs i pair = get_or_default pairs i d pair lt in
    let ps : List Pair = map view_pair pairs in
    let w : List HunkLine = added (slice_range ps from i) in
    let more : w ++ line_as Added pair.new.now ≡ added (slice_range ps from (i + 1))
    = sym (added_more (slice_range ps from i) (view_pair pair)) ∙ ap added (sym (waits_more pairs from i pair le lt is)) in
    ap (λ qs. lines_text (marked w qs)) (rest_view pairs i pair lt is)
    ∙ ap lines_text (marked_changed w (view_pair pair) (drop (i + 1) ps) e)
    ∙ lines_text-append (line_as Removed pair.old.now) (marked (w ++ line_as Added pair.new.now) (drop (i + 1) ps))
    ∙ ap (λ v. lines_text (line_as Removed pair.old.now) ++ lines_text (marked v (drop (i + 1) ps))) more

empty_slice : (ps : List Pair) (i : ℕ) → slice_range ps i i ≡ []
empty_slice ps i = let none : i - i ≡ 0 = omega arith in ap (λ n. take n (drop i ps)) none

pub left_kept : (pairs : List LinePair) (from i : ℕ) (d : LinePair) → from ≤ i → i < length pairs → is_changed (view_pair (get_or pairs i d)) ≡ false
    → left_text pairs from i
    ≡ lines_text (added (map view_pair (slice_range pairs from i)))
    ++ (lines_text (line_as Kept (get_or pairs i d).old.now) ++ left_text pairs (i + 1) (i + 1))
left_kept pairs from i d le lt e =
    let pair : LinePair = get_or pairs i d in
    let is : pair ≡ get_or pairs i pair = get_or_default pairs i d pair lt in
    let ps : List Pair = map view_pair pairs in
    let w : List HunkLine = added (slice_range ps from i) in
    let v : List HunkLine = added (map view_pair (slice_range pairs from i)) in
    let same : w ≡ v = ap added (sym (slice_view pairs from i)) in
    ap (λ qs. lines_text (marked w qs)) (rest_view pairs i pair lt is)
    ∙ ap lines_text (marked_kept w (view_pair pair) (drop (i + 1) ps) e)
    ∙ lines_text-append w (line_as Kept pair.old.now ++ marked [] (drop (i + 1) ps))
    ∙ ap (λ u. lines_text u ++ lines_text (line_as Kept pair.old.now ++ marked [] (drop (i + 1) ps))) same
    ∙ ap (λ xs. lines_text v ++ xs)
    (lines_text-append (line_as Kept pair.old.now) (marked [] (drop (i + 1) ps))
    ∙ ap (λ qs. lines_text (line_as Kept pair.old.now) ++ lines_text (marked (added qs) (drop (i + 1) ps))) (sym (empty_slice ps (i + 1))))

-- at the end those that wait are left
pub left_end : (pairs : List LinePair) (from i : ℕ) → length pairs ≤ i → i ≤ length pairs
    → left_text pairs from i ≡ lines_text (added (map view_pair (take (length pairs - from) (drop from pairs))))
left_end pairs from i ge le =
    let ps : List Pair = map view_pair pairs in
    let end : i ≡ length ps = omega (arith, length-map pairs view_pair) in
    ap (λ qs. lines_text (marked (added (slice_range ps from i)) qs)) (drop_all i ps (omega (arith, length-map pairs view_pair)))
    ∙ ap (λ n. lines_text (added (take (n - from) (drop from ps)))) end
    ∙ ap (λ qs. lines_text (added qs)) (take_rest ps from ∙ drop-map view_pair from pairs ∙ ap (map view_pair) (sym (take_rest pairs from)))

-- a step: what waited and a line of both texts, or a line of the old text
pub kept_step : (text first last waits kept left whole : List ℕ) → first ≡ text ++ waits → last ≡ first ++ kept
    → text ++ (waits ++ (kept ++ left)) ≡ whole → last ++ left ≡ whole
kept_step text first last waits kept left whole f l w =
    ap (λ xs. xs ++ left) (l ∙ ap (λ xs. xs ++ kept) f) ∙ append_assoc (text ++ waits) kept left ∙ append_assoc text waits (kept ++ left) ∙ w

pub changed_step : (text last gone left whole : List ℕ) → last ≡ text ++ gone → text ++ (gone ++ left) ≡ whole → last ++ left ≡ whole
changed_step text last gone left whole l w = ap (λ xs. xs ++ left) l ∙ append_assoc text gone left ∙ w

-- ---- the numbers of lines

counted : (x : Line) (rest : List Line) → length (if_some x ++ rest) ≡ cond (not (length x == 0)) (1 + length rest) (length rest)
counted [] rest = refl
counted (b ∷ bs) rest =
    let one : suc (length rest) ≡ 1 + length rest = omega arith in
    one ∙ sym (ap (λ t. cond (not t) (1 + length rest) (length rest)) (ne_eqb (length (b ∷ bs)) 0 (λ z. omega arith)))

pub count_olds : (pairs : List LinePair) → count_by (λ p. not (length p.old.now == 0)) pairs ≡ length (olds (map view_pair pairs))
count_olds pairs =
    sym (is_count_by (λ (xs : List LinePair). length (olds (map view_pair xs))) (λ p. not (length p.old.now == 0)) refl
    (λ x xs. counted x.old.now (olds (map view_pair xs))) pairs)

pub count_news : (pairs : List LinePair) → count_by (λ p. not (length p.new.now == 0)) pairs ≡ length (news (map view_pair pairs))
count_news pairs =
    sym (is_count_by (λ (xs : List LinePair). length (news (map view_pair xs))) (λ p. not (length p.new.now == 0)) refl
    (λ x xs. counted x.new.now (news (map view_pair xs))) pairs)

-- the text of a hunk
pub hunk_done : (old head first last : List ℕ) (from n m : ℕ) (pairs : List LinePair) → head ≡ head_text (suc from) n m
    → n ≡ count_by (λ p. not (length p.old.now == 0)) pairs → m ≡ count_by (λ p. not (length p.new.now == 0)) pairs → first ≡ old ++ head
    → last ≡ first ++ lines_text (marked [] (map view_pair pairs))
    → last ≡ old ++ hunk_text (record { start = suc from; lines = marked [] (map view_pair pairs) })
hunk_done old head first last from n m pairs is ns ms f l =
    let ps : List Pair = map view_pair pairs in
    let lines : List HunkLine = marked [] ps in
    let olds_are : n ≡ length (old_lines lines) = ns ∙ count_olds pairs ∙ ap length (sym (old_lines-marked ps)) in
    let news_are : m ≡ length (new_lines lines) = ms ∙ count_news pairs ∙ ap length (sym (new_lines-marked ps)) in
    let whole : head ≡ head_text (suc from) (length (old_lines lines)) (length (new_lines lines))
    = is ∙ ap (λ k. head_text (suc from) k m) olds_are ∙ ap (head_text (suc from) (length (old_lines lines))) news_are in
    l ∙ ap (λ xs. xs ++ lines_text lines) f ∙ append_assoc old head (lines_text lines) ∙ ap (λ xs. old ++ (xs ++ lines_text lines)) whole

-- ---- the diff

-- with the hunks of the runs from a line on, the text is the diff
abbrev pub Completes : List Pair → List ℕ → ℕ → List ℕ → Type 0
Completes ps name at text =
    (later : List Run) → AreRuns (is_shown ps) (length ps) at later
    → (hunks : List Hunk) × AreHunks ps hunks × (text ++ flat_map hunk_text (map (hunk_of ps) later) ≡ diff_text name hunks)

pub completes_start : (ps : List Pair) (name text : List ℕ) → text ≡ diff_names name → Completes ps name 0 text
completes_start ps name text is later h =
    (map (hunk_of ps) later, (later, h, refl), ap (λ xs. xs ++ flat_map hunk_text (map (hunk_of ps) later)) is)

pub completes_on : (ps : List Pair) (name text new : List ℕ) (at : ℕ) (run : Run) → IsNextRun (is_shown ps) (length ps) at run
    → Completes ps name at text
    → new ≡ text ++ hunk_text (hunk_of ps run) → Completes ps name run.to new
completes_on ps name text new at run next whole is later h =
    let k = whole (run ∷ later) (next, h) in (
      k.0,
      k.1,
      ap (λ xs. xs ++ flat_map hunk_text (map (hunk_of ps) later)) is
          ∙ append_assoc text (hunk_text (hunk_of ps run)) (flat_map hunk_text (map (hunk_of ps) later)) ∙ k.2,
    )

pub completes_end : (ps : List Pair) (name text : List ℕ) (at : ℕ) → NoneFrom (is_shown ps) (length ps) at → Completes ps name at text
    → (hunks : List Hunk) × AreHunks ps hunks × (text ≡ diff_text name hunks)
completes_end ps name text at none whole = let k = whole [] none in (k.0, k.1, sym (append-nil text) ∙ k.2)

-- a run of the pairs as the program has them
pub next_view : (pairs items : List LinePair) (at : ℕ) (run : Run) → pairs ≡ items → IsNextRun (is_shown (map view_pair pairs)) (length pairs) at run
    → IsNextRun (is_shown (map view_pair items)) (length (map view_pair items)) at run
next_view pairs items at run same h =
    let P : List LinePair → Type 0 = λ xs. IsNextRun (is_shown (map view_pair xs)) (length xs) at run in
    let Q : ℕ → Type 0 = λ n. IsNextRun (is_shown (map view_pair items)) n at run in
    subst Q (sym (length-map items view_pair)) (subst P same h)

pub none_view : (pairs items : List LinePair) (at : ℕ) → pairs ≡ items → NoneFrom (is_shown (map view_pair pairs)) (length pairs) at
    → NoneFrom (is_shown (map view_pair items)) (length (map view_pair items)) at
none_view pairs items at same h =
    let P : List LinePair → Type 0 = λ xs. NoneFrom (is_shown (map view_pair xs)) (length xs) at in
    let Q : ℕ → Type 0 = λ n. NoneFrom (is_shown (map view_pair items)) n at in
    subst Q (sym (length-map items view_pair)) (subst P same h)

pub hunk_view : (pairs items : List LinePair) (run : Run) → pairs ≡ items
    → hunk_text (record { start = suc run.from; lines = marked [] (map view_pair (slice_range pairs run.from run.to)) }) ≡ hunk_text
    (hunk_of (map view_pair items) run)
hunk_view pairs items run same =
    ap (λ (qs : List Pair). hunk_text (record { start = suc run.from; lines = marked [] qs }))
    (ap (λ (xs : List LinePair). map view_pair (slice_range xs run.from run.to)) same ∙ slice_view items run.from run.to)
