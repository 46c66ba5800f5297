-- A batch has one result at most.
use Rattle.std.proofs.Common.{◌≡◌, ◌∙◌, inl, inr, ℕ, suc, List, [], ◌∷◌, Result, Ok, Err, refl, sym, ap, subst}
use Rattle.rotor_base.specs.declared.refusal.Refusal.{Refusal}
use Rattle.rotor_base.specs.declared.report.Renamed.{Renamed}
use Rattle.rotor_base.specs.Files.{FileSet}
use Rattle.rename_files.specs.Laws.{OneRenaming}
use Rattle.rename_batch.specs.declared.error.BatchError.TheVariants.{At, Memory}
use Rattle.rename_batch.specs.declared.step.Step.{Step}
use Rattle.rename_batch.specs.declared.step.Change.{Change}
use Rattle.rename_batch.specs.declared.step.Batched.{Batched}
use Rattle.rename_batch.specs.Batch.{Answers, IsBatched, Runs, Stops, change_of, changed_from, undos_of}
use Rattle.rename_batch.specs.Laws.{BatchesAreOne}

one_done : OneRenaming → (files : FileSet) (step : Step) (a b : Renamed) → Answers files step (Ok a) → Answers files step (Ok b) → a ≡ b
unfolding Answers
one_done one files step a b p q =
    let same : ◌≡◌ {A = Result Renamed Refusal} (Ok a) (Ok b) = one files step.target step.name (Ok a) (Ok b) p q in
    cc

one_refusal : OneRenaming → (files : FileSet) (step : Step) (a b : Refusal) → Answers files step (Err a) → Answers files step (Err b) → a ≡ b
unfolding Answers
one_refusal one files step a b p q =
    let same : ◌≡◌ {A = Result Renamed Refusal} (Err a) (Err b) = one files step.target step.name (Err a) (Err b) p q in
    cc

not_both : OneRenaming → (files : FileSet) (step : Step) (a : Renamed) (b : Refusal) → Answers files step (Ok a) → Answers files step (Err b) → ⊥
unfolding Answers
not_both one files step a b p q =
    let same : ◌≡◌ {A = Result Renamed Refusal} (Ok a) (Err b) = one files step.target step.name (Ok a) (Err b) p q in
    cc

one_run : OneRenaming → (files : FileSet) (steps : List Step) (last other : FileSet) (cs ds : List Change) → Runs files steps last cs
    → Runs files steps other ds → (last ≡ other) × (cs ≡ ds)
one_run one files [] last other [] [] r s = (r ∙ sym s, refl)
one_run one files [] last other [] (d ∷ ds) r s = absurd s
one_run one files [] last other (c ∷ cs) ds r s = absurd r
one_run one files (step ∷ steps) last other [] ds r s = absurd r
one_run one files (step ∷ steps) last other (c ∷ cs) [] r s = absurd s
one_run one files (step ∷ steps) last other (c ∷ cs) (d ∷ ds) r s =
    let same : r.0 ≡ s.0 = one_done one files step r.0 s.0 r.1 s.1 in
    let rest = one_run one s.0.files steps last other cs ds (subst (λ (done : Renamed). Runs done.files steps last cs) same r.3) s.3 in
    (rest.0, ap (λ (x : Change). x ∷ cs) (r.2 ∙ ap change_of same ∙ sym s.2) ∙ ap (λ (xs : List Change). d ∷ xs) rest.1)

run_or_stop : OneRenaming → (files : FileSet) (steps : List Step) (last : FileSet) (cs : List Change) (n : ℕ) (why : Refusal)
    → Runs files steps last cs → Stops files steps n why → ⊥
run_or_stop one files [] last cs n why r s = s
run_or_stop one files (step ∷ steps) last [] n why r s = r
run_or_stop one files (step ∷ steps) last (c ∷ cs) n why r (inl s) = not_both one files step r.0 why r.1 s.1
run_or_stop one files (step ∷ steps) last (c ∷ cs) n why r (inr s) =
    let same : r.0 ≡ s.0 = one_done one files step r.0 s.0 r.1 s.2 in
    run_or_stop one s.0.files steps last cs s.1 why (subst (λ (done : Renamed). Runs done.files steps last cs) same r.3) s.4

one_stop : OneRenaming → (files : FileSet) (steps : List Step) (n m : ℕ) (why other : Refusal) → Stops files steps n why → Stops files steps m other
    → (n ≡ m) × (why ≡ other)
one_stop one files [] n m why other s t = absurd s
one_stop one files (step ∷ steps) n m why other (inl s) (inl t) = (s.0 ∙ sym t.0, one_refusal one files step why other s.1 t.1)
one_stop one files (step ∷ steps) n m why other (inl s) (inr t) = absurd (not_both one files step t.0 why t.2 s.1)
one_stop one files (step ∷ steps) n m why other (inr s) (inl t) = absurd (not_both one files step s.0 other s.2 t.1)
one_stop one files (step ∷ steps) n m why other (inr s) (inr t) =
    let same : s.0 ≡ t.0 = one_done one files step s.0 t.0 s.2 t.2 in
    let rest = one_stop one t.0.files steps s.1 t.1 why other (subst (λ (done : Renamed). Stops done.files steps s.1 why) same s.4) t.4 in
    (s.3 ∙ ap suc rest.0 ∙ sym t.3, rest.1)

-- what is done is known from the last files and the changes
abbrev batched : FileSet → FileSet → List Change → Batched
batched files last changes = record { files = last; changed = changed_from 0 files.entries last.entries; done = changes; undo = undos_of changes }

is_batched : (files : FileSet) (steps : List Step) (done : Batched) → IsBatched files steps done → done ≡ batched files done.files done.done
is_batched files steps done h = λ i. record { files = done.files; changed = h.changed i; done = done.done; undo = h.undo i }

pub batches_are_one : OneRenaming → BatchesAreOne
batches_are_one one files steps (Ok a) (Ok b) p q =
    let same = one_run one files steps a.files b.files a.done b.done p.run q.run in
    let whole : batched files a.files a.done ≡ batched files b.files b.done = ap (λ (fs : FileSet). batched files fs a.done) same.0
    ∙ ap (batched files b.files) same.1 in
    ap (λ (x : Batched). Ok x) (is_batched files steps a p ∙ whole ∙ sym (is_batched files steps b q))
batches_are_one one files steps (Ok a) (Err (At n why)) p q = absurd (run_or_stop one files steps a.files a.done n why p.run q)
batches_are_one one files steps (Ok a) (Err Memory) p q = absurd q
batches_are_one one files steps (Err (At n why)) (Ok b) p q = absurd (run_or_stop one files steps b.files b.done n why q.run p)
batches_are_one one files steps (Err Memory) b p q = absurd p
batches_are_one one files steps (Err (At n why)) (Err (At m other)) p q =
    let same = one_stop one files steps n m why other p q in
    ap (λ (k : ℕ). Err (At k why)) same.0 ∙ ap (λ (r : Refusal). Err (At m r)) same.1
batches_are_one one files steps (Err (At n why)) (Err Memory) p q = absurd q
