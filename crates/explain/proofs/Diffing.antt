-- The diffs of some sources, and of one more.
use Rattle.std.proofs.Common.{◌≡◌, ℕ, ◌+◌, ◌<◌, List, [], ◌∷◌, ◌++◌, length, get_or, take, slice_get, sym, subst}
use Rattle.std.proofs.lemmas.List.{take_more}
use Rattle.rotor_base.specs.declared.source.SourceFile.{SourceFile}
use Rattle.explain.specs.Diffs.{AreDiffs, IsDiffAt, none, one_more}

pub diffs_none : (old new : List SourceFile) (changed text : List ℕ) → text ≡ [] → AreDiffs old new (take 0 changed) text
diffs_none old new [] text e = subst (λ t. AreDiffs old new [] t) (sym e) none
diffs_none old new (n ∷ ns) text e = subst (λ t. AreDiffs old new [] t) (sym e) none

pub diffs_more : (old new : List SourceFile) (changed : List ℕ) (i : ℕ) (text made piece : List ℕ) → i < length changed → made ≡ text ++ piece
    → AreDiffs old new (take i changed) text
    → IsDiffAt (slice_get old (get_or changed i 0)) (slice_get new (get_or changed i 0)) piece → AreDiffs old new (take (i + 1) changed) made
diffs_more old new changed i text made piece lt is all one =
    subst (λ t. AreDiffs old new (take (i + 1) changed) t) (sym is)
    (subst (λ numbers. AreDiffs old new numbers (text ++ piece)) (sym (take_more changed i 0 lt)) (one_more (get_or changed i 0) piece all one))
