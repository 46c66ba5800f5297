-- Two texts have one diff.
use Rattle.std.proofs.Common.{◌≡◌, ◌⊎◌, inl, inr, ℕ, ◌<◌, ◌≤◌, List, [], ◌∷◌, Bool, true, false, refl, ap, sym, ◌∙◌, subst, length, map, arith}
use Rattle.source_diff.specs.declared.runs.Run.{Run}
use Rattle.source_diff.specs.Pairs.{Pair, pairs_of, text_lines}
use Rattle.source_diff.specs.Runs.{is_shown, NoneFrom, IsNextRun, AreRuns}
use Rattle.source_diff.specs.Hunks.{Hunk, hunk_of, diff_text, AreHunks}
use Rattle.source_diff.specs.Laws.{IsTheOnlyDiff}

-- the first of two runs does not begin before the other
not_before : (shown : ℕ → Bool) (len at : ℕ) (r s : Run) → IsNextRun shown len at r → IsNextRun shown len at s → r.from < s.from → ⊥
not_before shown len at r s h k lt =
    let yes' : shown r.from ≡ true = h.shows r.from (omega arith) h.some in
    let none : shown r.from ≡ false = k.before r.from h.begins lt in
    cc

-- and if they begin as one, it does not end before the other
not_shorter : (shown : ℕ → Bool) (len at : ℕ) (r s : Run) → IsNextRun shown len at r → IsNextRun shown len at s → r.from ≡ s.from → r.to < s.to → ⊥
not_shorter shown len at r s h k e lt = ends h.ends
  where
    ends : (r.to ≡ len) ⊎ (shown r.to ≡ false) → ⊥
    ends (inl last) = let within : s.to ≤ len = k.within in omega arith
    ends (inr none) =
        let some : r.from < r.to = h.some in
        let shows : shown r.to ≡ true = k.shows r.to (omega arith) lt in
        cc

one_next : (shown : ℕ → Bool) (len at : ℕ) (r s : Run) → IsNextRun shown len at r → IsNextRun shown len at s → r ≡ s
one_next shown len at r s h k =
    let low = not_before shown len at r s h k in
    let high = not_before shown len at s r k h in
    let from : r.from ≡ s.from = omega arith in
    let short = not_shorter shown len at r s h k from in
    let long = not_shorter shown len at s r k h (sym from) in
    let to : r.to ≡ s.to = omega arith in
    let begin : r ≡ record { from = s.from; to = r.to } = ap (λ n. record { from = n; to = r.to }) from in
    let end : record { from = s.from; to = r.to } ≡ s = ap (λ n. record { from = s.from; to = n }) to in
    begin ∙ end

-- where no line is shown no run begins
no_run : (shown : ℕ → Bool) (len at : ℕ) (r : Run) → NoneFrom shown len at → IsNextRun shown len at r → ⊥
no_run shown len at r none h =
    let some : r.from < r.to = h.some in
    let within : r.to ≤ len = h.within in
    let shows : shown r.from ≡ true = h.shows r.from (omega arith) some in
    let hides : shown r.from ≡ false = none r.from h.begins (omega arith) in
    cc

pub one_runs : (shown : ℕ → Bool) (len at : ℕ) (rs ss : List Run) → AreRuns shown len at rs → AreRuns shown len at ss → rs ≡ ss
one_runs shown len at [] [] h k = refl
one_runs shown len at [] (s ∷ ss) h k = absurd (no_run shown len at s h k.0)
one_runs shown len at (r ∷ rs) [] h k = absurd (no_run shown len at r k h.0)
one_runs shown len at (r ∷ rs) (s ∷ ss) h k =
    let same : r ≡ s = one_next shown len at r s h.0 k.0 in
    let P : Run → Type 0 = λ q. AreRuns shown len q.to rs in
    ap (λ q. q ∷ rs) same ∙ ap (λ qs. s ∷ qs) (one_runs shown len s.to rs ss (subst P same h.1) k.1)

one_hunks : (ps : List Pair) (hs gs : List Hunk) → AreHunks ps hs → AreHunks ps gs → hs ≡ gs
one_hunks ps hs gs h g = h.2 ∙ ap (map (hunk_of ps)) (one_runs (is_shown ps) (length ps) 0 h.0 g.0 h.1 g.1) ∙ sym g.2

pub one_diff : IsTheOnlyDiff
one_diff name old new one other h g =
    h.2 ∙ ap (diff_text name) (one_hunks (pairs_of (text_lines old) (text_lines new)) h.0 g.0 h.1 g.1) ∙ sym g.2
