-- The hunks of a diff give the new text.
use Rattle.std.proofs.Common.{◌≡◌, ◌⊎◌, inl, inr, ℕ, zero, suc, ◌+◌, ◌-◌, ◌<◌, ◌≤◌, List, [], ◌∷◌, ◌++◌, Bool, true, false, refl, ap, sym, ◌∙◌, subst}
use Rattle.std.proofs.Common.{length, get_or, take, drop, map, arith, add-zero}
use Rattle.std.specs.Prelude.{slice_range, ◌||◌}
use Rattle.std.specs.List.{list_any}
use Rattle.std.proofs.lemmas.List.{length-take, length-drop, get_or-take, get_or-drop}
use Rattle.std.proofs.lemmas.List.Folds.{drop_split}
use Rattle.std.proofs.lemmas.List.Concat.{flat_map-append}
use Rattle.source_diff.specs.declared.runs.Run.{Run}
use Rattle.source_diff.specs.Pairs.{Line, Pair, is_changed, pairs_of, text_lines}
use Rattle.source_diff.specs.Runs.{is_shown, NoneFrom, IsNextRun, AreRuns}
use Rattle.source_diff.specs.Hunks.{Hunk, hunk_of, old_lines, new_lines}
use Rattle.source_diff.specs.Patched.{Patched, kept, hunk}
use Rattle.source_diff.specs.Laws.{GivesTheNewText}
use Rattle.source_diff.proofs.Cuts.{lines_are_whole, lines_are_some}
use Rattle.source_diff.proofs.Sides.{if_some, olds, news, old_lines-marked, new_lines-marked, same_lines, olds-pairs_of, news-pairs_of, HasLine}
use Rattle.source_diff.proofs.Sides.{OldFirst, old_first}

-- ---- a line that is not shown did not change

none_any : {X : Type 0} (t : X → Bool) (xs : List X) (k : ℕ) (d : X) → list_any t xs ≡ false → k < length xs → t (get_or xs k d) ≡ false
none_any t [] k d none lt = absurd (omega arith)
none_any t (x ∷ xs) zero d none lt = left_none (t x) (list_any t xs) none
  where
    left_none : (a b : Bool) → (a || b) ≡ false → a ≡ false
    left_none true b e = e
    left_none false b e = refl
none_any t (x ∷ xs) (suc k) d none lt = none_any t xs k d (right_none (t x) (list_any t xs) none) (omega arith)
  where
    right_none : (a b : Bool) → (a || b) ≡ false → b ≡ false
    right_none true b e = cc
    right_none false b e = e

pub not_changed : (ps : List Pair) (k : ℕ) (d : Pair) → k < length ps → is_shown ps k ≡ false → is_changed (get_or ps k d) ≡ false
not_changed ps k d lt none =
    let from : ℕ = k - 3 in
    let len : ℕ = (k + 4) - from in
    let near : List Pair = take len (drop from ps) in
    let inside : k - from < len = omega arith in
    let within : k - from < length near = omega (arith, length-take len (drop from ps), length-drop from ps) in
    let at : from + (k - from) ≡ k = omega arith in
    let same : get_or near (k - from) d ≡ get_or ps k d
    = get_or-take len (drop from ps) (k - from) d inside ∙ get_or-drop from ps (k - from) d ∙ ap (λ n. get_or ps n d) at in
    sym (ap is_changed same) ∙ none_any is_changed near (k - from) d none within

-- ---- lines that did not change

abbrev AllHave : List Pair → Type 0
AllHave [] = Unit {0}
AllHave (p ∷ ps) = HasLine p × AllHave ps

have_of : (ps : List Pair) → OldFirst ps → AllHave ps
have_of [] o = tt
have_of (p ∷ ps) o = (o.0, have_of ps o.2)

have_take : (n : ℕ) (ps : List Pair) → AllHave ps → AllHave (take n ps)
have_take zero ps h = tt
have_take (suc n) [] h = tt
have_take (suc n) (p ∷ ps) h = (h.0, have_take n ps h.1)

first_drop : (n : ℕ) (ps : List Pair) → OldFirst ps → OldFirst (drop n ps)
first_drop zero ps o = o
first_drop (suc n) [] o = tt
first_drop (suc n) (p ∷ ps) o = first_drop n ps o.2

-- none of some pairs changed
abbrev Unchanged : List Pair → Type 0
Unchanged ps = (k : ℕ) (d : Pair) → k < length ps → is_changed (get_or ps k d) ≡ false

record Stays (ps : List Pair) : Type 0 where
  same : olds ps ≡ news ps
  each : length (olds ps) ≡ length ps

stays_by : (old new : Line) (ps : List Pair) → old ≡ new → (old ≡ [] → new ≡ [] → ⊥) → Stays ps
    → (if_some old ++ olds ps ≡ if_some new ++ news ps) × (length (if_some old ++ olds ps) ≡ suc (length ps))
stays_by [] new ps e h s = absurd (h refl (sym e))
stays_by (b ∷ bs) new ps e h s =
    (ap (λ xs. if_some (b ∷ bs) ++ xs) s.same ∙ ap (λ x. if_some x ++ news ps) e, let n : length (olds ps) ≡ length ps = s.each in omega arith)

stays : (ps : List Pair) → AllHave ps → Unchanged ps → Stays ps
stays [] h u = record { same = refl; each = refl }
stays (p ∷ ps) h u =
    let k = stays_by p.old p.new ps (same_lines p (u 0 p (omega arith))) h.0 (stays ps h.1 (λ n d lt. u (suc n) d (omega arith))) in
    record { same = k.0; each = k.1 }

-- if a later pair has an old line, each has one
full : (ps qs : List Pair) → OldFirst (ps ++ qs) → (olds qs ≡ [] → ⊥) → length (olds ps) ≡ length ps
full [] qs o some = refl
full (p ∷ ps) qs o some =
    full_by p.old (full ps qs o.2 some) (λ e. some (none (olds ps) (olds qs) (sym (flat_map-append (λ p. if_some p.old) ps qs) ∙ o.1 e)))
  where
    none : (xs ys : List Line) → xs ++ ys ≡ [] → ys ≡ []
    none [] ys e = e
    none (x ∷ xs) ys e = cc

    full_by : (old : Line) → length (olds ps) ≡ length ps → (old ≡ [] → ⊥) → length (if_some old ++ olds ps) ≡ suc (length ps)
    full_by [] n h = absurd (h refl)
    full_by (b ∷ bs) n h = omega arith

-- ---- the hunks

-- the lines from one on, of which none is shown, stay
rest_stays : (ps : List Pair) (at : ℕ) → OldFirst ps → NoneFrom (is_shown ps) (length ps) at → Stays (drop at ps)
rest_stays ps at o none =
    stays (drop at ps) (have_of (drop at ps) (first_drop at ps o))
    (λ k d lt. let inside : at + k < length ps = omega (arith, length-drop at ps) in
    ap is_changed (get_or-drop at ps k d) ∙ not_changed ps (at + k) d inside (none (at + k) (omega arith) inside))

-- and those before a run
front_stays : (ps : List Pair) (at from : ℕ) → OldFirst ps → at ≤ from → from ≤ length ps
    → ((line : ℕ) → at ≤ line → line < from → is_shown ps line ≡ false) → Stays (slice_range ps at from)
front_stays ps at from o le within none =
    stays (slice_range ps at from) (have_take (from - at) (drop at ps) (have_of (drop at ps) (first_drop at ps o)))
    (λ k d lt.
    let short : k < from - at = omega (arith, length-take (from - at) (drop at ps)) in
    ap is_changed (get_or-take (from - at) (drop at ps) k d short ∙ get_or-drop at ps k d)
    ∙ not_changed ps (at + k) d (omega arith) (none (at + k) (omega arith) (omega arith)))

kept_rest : (ps : List Pair) (at n : ℕ) → OldFirst ps → NoneFrom (is_shown ps) (length ps) at → Patched n [] (olds (drop at ps)) (news (drop at ps))
kept_rest ps at n o none =
    let P : List Line → Type 0 = λ xs. Patched n [] (olds (drop at ps)) xs in subst P (rest_stays ps at o none).same (kept (olds (drop at ps)))

slice_len : (ps : List Pair) (i j : ℕ) → j ≤ length ps → length (slice_range ps i j) ≡ j - i
slice_len ps i j le = omega (arith, length-take (j - i) (drop i ps), length-drop i ps)

-- a line that is not shown is in the old text
some_behind : (ps : List Pair) (to : ℕ) → OldFirst ps → to < length ps → is_shown ps to ≡ false → olds (drop to ps) ≡ [] → ⊥
some_behind ps to o lt none e = some_by (drop to ps) (omega (arith, length-drop to ps)) (have_of (drop to ps) (first_drop to ps o))
    (λ d. ap is_changed (get_or-drop to ps 0 d) ∙ not_changed ps (to + 0) d (omega arith) (ap (is_shown ps) (add-zero to) ∙ none)) e
  where
    line_by : (old new : Line) (xs : List Line) → old ≡ new → (old ≡ [] → new ≡ [] → ⊥) → if_some old ++ xs ≡ [] → ⊥
    line_by [] new xs e h k = h refl (sym e)
    line_by (b ∷ bs) new xs e h k = cc

    some_by : (qs : List Pair) → 0 < length qs → AllHave qs → ((d : Pair) → is_changed (get_or qs 0 d) ≡ false) → olds qs ≡ [] → ⊥
    some_by [] some h u e = absurd (omega arith)
    some_by (p ∷ qs) some h u e = line_by p.old p.new (olds qs) (same_lines p (u p)) h.0 e

-- the runs behind a run, counted from its old lines
behind_run : (ps : List Pair) (run : Run) (runs : List Run) → OldFirst ps → run.from < run.to → run.to ≤ length ps
    → (run.to ≡ length ps) ⊎ (is_shown ps run.to ≡ false) → AreRuns (is_shown ps) (length ps) run.to runs
    → Patched (suc run.to) (map (hunk_of ps) runs) (olds (drop run.to ps)) (news (drop run.to ps))
    → Patched (suc run.from + length (olds (slice_range ps run.from run.to))) (map (hunk_of ps) runs) (olds (drop run.to ps)) (news (drop run.to ps))
behind_run ps run [] o some within ends none rest =
    kept_rest ps run.to (suc run.from + length (olds (slice_range ps run.from run.to))) o none
behind_run ps run (next ∷ runs) o some within (inl end) later rest =
    let begins : run.to ≤ next.from = later.0.begins in
    let more : next.from < next.to = later.0.some in
    let inside : next.to ≤ length ps = later.0.within in absurd (omega arith)
behind_run ps run (next ∷ runs) o some within (inr hides) later rest =
    let begins : run.to ≤ next.from = later.0.begins in
    let more : next.from < next.to = later.0.some in
    let inside : next.to ≤ length ps = later.0.within in
    let mid : List Pair = slice_range ps run.from run.to in
    let whole : drop run.from ps ≡ mid ++ drop run.to ps = drop_split ps run.from run.to (omega arith) in
    let F : List Pair → Type 0 = λ xs. OldFirst xs in
    let each : length (olds mid) ≡ length mid
    = full mid (drop run.to ps) (subst F whole (first_drop run.from ps o)) (some_behind ps run.to o (omega arith) hides) in
    let at : suc run.to ≡ suc run.from + length (olds mid) = omega (arith, each, slice_len ps run.from run.to within) in
    let P : ℕ → Type 0 = λ n. Patched n (map (hunk_of ps) (next ∷ runs)) (olds (drop run.to ps)) (news (drop run.to ps)) in
    subst P at rest

given_run : (ps : List Pair) (at : ℕ) (run : Run) (runs : List Run) → OldFirst ps → IsNextRun (is_shown ps) (length ps) at run
    → AreRuns (is_shown ps) (length ps) run.to runs
    → Patched (suc run.to) (map (hunk_of ps) runs) (olds (drop run.to ps)) (news (drop run.to ps))
    → Patched (suc at) (map (hunk_of ps) (run ∷ runs)) (olds (drop at ps)) (news (drop at ps))
given_run ps at run runs o next later rest =
    let begins : at ≤ run.from = next.begins in
    let some : run.from < run.to = next.some in
    let within : run.to ≤ length ps = next.within in
    let front : List Pair = slice_range ps at run.from in
    let mid : List Pair = slice_range ps run.from run.to in
    let tail : List Pair = drop run.to ps in
    let whole : drop at ps ≡ front ++ (mid ++ tail)
    = drop_split ps at run.from begins ∙ ap (λ xs. front ++ xs) (drop_split ps run.from run.to (omega arith)) in
    let stay = front_stays ps at run.from o begins (omega arith) next.before in
    let one : Hunk = hunk_of ps run in
    let each : length (olds front) ≡ length front = stay.each in
    let start : one.start ≡ suc at + length (olds front) = omega (arith, slice_len ps at run.from (omega arith)) in
    let old_split : olds (drop at ps) ≡ olds front ++ (old_lines one.lines ++ olds tail)
    = ap olds whole ∙ flat_map-append (λ p. if_some p.old) front (mid ++ tail)
    ∙ ap (λ xs. olds front ++ xs)
    (flat_map-append (λ p. if_some p.old) mid tail ∙ ap (λ xs. xs ++ olds tail) (sym (old_lines-marked mid))) in
    let new_split : news (drop at ps) ≡ olds front ++ (new_lines one.lines ++ news tail)
    = ap news whole ∙ flat_map-append (λ p. if_some p.new) front (mid ++ tail) ∙ ap (λ xs. xs ++ news (mid ++ tail)) (sym stay.same)
    ∙ ap (λ xs. olds front ++ xs)
    (flat_map-append (λ p. if_some p.new) mid tail ∙ ap (λ xs. xs ++ news tail) (sym (new_lines-marked mid))) in
    let N : ℕ → Type 0 = λ n. Patched n (map (hunk_of ps) runs) (olds tail) (news tail) in
    let counted : suc run.from + length (olds mid) ≡ one.start + length (old_lines one.lines)
    = ap (λ xs. suc run.from + length xs) (sym (old_lines-marked mid)) in
    let made : Patched (suc at) (one ∷ map (hunk_of ps) runs) (olds front ++ (old_lines one.lines ++ olds tail))
    (olds front ++ (new_lines one.lines ++ news tail))
    = hunk (olds front) one start (subst N counted (behind_run ps run runs o some within next.ends later rest)) in
    let P : List Line → Type 0 = λ xs. Patched (suc at) (one ∷ map (hunk_of ps) runs) xs (olds front ++ (new_lines one.lines ++ news tail)) in
    let Q : List Line → Type 0 = λ xs. Patched (suc at) (one ∷ map (hunk_of ps) runs) (olds (drop at ps)) xs in
    subst Q (sym new_split) (subst P (sym old_split) made)

given_from : (ps : List Pair) (at : ℕ) (runs : List Run) → OldFirst ps → AreRuns (is_shown ps) (length ps) at runs
    → Patched (suc at) (map (hunk_of ps) runs) (olds (drop at ps)) (news (drop at ps))
given_from ps at [] o none = kept_rest ps at (suc at) o none
given_from ps at (run ∷ runs) o h = given_run ps at run runs o h.0 h.1 (given_from ps run.to runs o h.1)

pub gives_the_new_text : GivesTheNewText
gives_the_new_text old new hunks h =
    let xs : List Line = text_lines old in
    let ys : List Line = text_lines new in
    let ps : List Pair = pairs_of xs ys in
    let P : List Hunk → Type 0 = λ hs. Patched 1 hs xs ys in
    let O : List Line → Type 0 = λ zs. Patched 1 (map (hunk_of ps) h.0) zs (news ps) in
    let N : List Line → Type 0 = λ zs. Patched 1 (map (hunk_of ps) h.0) xs zs in
    let made : Patched 1 (map (hunk_of ps) h.0) (olds ps) (news ps)
    = given_from ps 0 h.0 (old_first xs ys (lines_are_some old) (lines_are_some new)) h.1 in (
      subst P (sym h.2) (subst N (news-pairs_of xs ys (lines_are_some new)) (subst O (olds-pairs_of xs ys (lines_are_some old)) made)),
      lines_are_whole new,
    )
