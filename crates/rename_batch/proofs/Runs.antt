-- The run of a batch, step by step.
use Rattle.std.proofs.Common.{◌≡◌, ◌∙◌, inl, inr, ℕ, suc, ◌+◌, ◌<◌, List, [], ◌∷◌, ◌++◌, length, take, drop, get_or, Ok, Err, take-append-drop, refl}
use Rattle.std.proofs.Common.{Result, IfErr, sym, ap, subst, arith}
use Rattle.std.specs.Result.{IsErrAnd}
use Rattle.std.proofs.lemmas.List.{drop_more, length-take-le, take_more}
use Rattle.rotor_base.specs.declared.refusal.Refusal.{Refusal}
use Rattle.rotor_base.specs.declared.report.Renamed.{Renamed}
use Rattle.rotor_base.specs.Files.{FileSet}
use Rattle.rename_batch.specs.declared.error.BatchError.{BatchError}
use Rattle.rename_batch.specs.declared.error.BatchError.TheVariants.{At, Memory}
use Rattle.rename_batch.specs.declared.step.Step.{Step}
use Rattle.rename_batch.specs.declared.step.Change.{Change}
use Rattle.rename_batch.specs.Batch.{Answers, Batches, IsErrorOf, IsFailedFor, IsRefusedStep, NamesRefusal, Runs, Stops, change_of}
use Rattle.rename_files.specs.Answer.{Renames}
use Rattle.rename_project.specs.Steps.{IsRefusedFor}

-- one more step
pub runs_more : (files : FileSet) (steps : List Step) (now : FileSet) (changes : List Change) (step : Step) (done : Renamed)
    → Runs files steps now changes → Answers now step (Ok done) → Runs files (steps ++ step ∷ []) done.files (changes ++ change_of done ∷ [])
runs_more files [] now [] step done r a = (done, subst (λ (fs : FileSet). Answers fs step (Ok done)) r a, refl, refl)
runs_more files [] now (change ∷ changes) step done r a = absurd r
runs_more files (first ∷ steps) now [] step done r a = absurd r
runs_more files (first ∷ steps) now (change ∷ changes) step done r a = (r.0, r.1, r.2, runs_more r.0.files steps now changes step done r.3 a)

-- a step that is refused
pub stops_behind : (files : FileSet) (steps : List Step) (now : FileSet) (changes : List Change) (step : Step) (rest : List Step) (why : Refusal)
    → Runs files steps now changes → Answers now step (Err why) → Stops files (steps ++ step ∷ rest) (suc (length steps)) why
stops_behind files [] now [] step rest why r a = inl (refl, subst (λ (fs : FileSet). Answers fs step (Err why)) r a)
stops_behind files [] now (change ∷ changes) step rest why r a = absurd r
stops_behind files (first ∷ steps) now [] step rest why r a = absurd r
stops_behind files (first ∷ steps) now (change ∷ changes) step rest why r a =
    inr (r.0, suc (length steps), r.1, refl, stops_behind r.0.files steps now changes step rest why r.3 a)

-- the next step of a list
pub run_goes_on : (files : FileSet) (steps : List Step) (at : ℕ) (d : Step) (now : FileSet) (changes after : List Change) (done : Renamed)
    → at < length steps
    → Runs files (take at steps) now changes → Answers now (get_or steps at d) (Ok done) → after ≡ changes ++ change_of done ∷ []
    → Runs files (take (at + 1) steps) done.files after
run_goes_on files steps at d now changes after done h r a e = rw (take_more steps at d h, e)
    (runs_more files (take at steps) now changes (get_or steps at d) done r a)

run_stops : (files : FileSet) (steps : List Step) (at : ℕ) (d : Step) (now : FileSet) (changes : List Change) (why : Refusal) → at < length steps
    → Runs files (take at steps) now changes → Answers now (get_or steps at d) (Err why) → Stops files steps (at + 1) why
run_stops files steps at d now changes why h r a =
    let whole : take at steps ++ get_or steps at d ∷ drop (at + 1) steps ≡ steps = ap (λ (ss : List Step). take at steps ++ ss)
    (sym (drop_more steps at d h)) ∙ take-append-drop at steps in
    let number : suc (length (take at steps)) ≡ at + 1 = omega (arith, length-take-le at steps (omega (arith, h))) in
    subst (λ (n : ℕ). Stops files steps n why) number
    (subst (λ (ss : List Step). Stops files ss (suc (length (take at steps))) why) whole
    (stops_behind files (take at steps) now changes (get_or steps at d) (drop (at + 1) steps) why r a))

-- the error of the next step is that of the batch
pub run_fails : (files : FileSet) (steps : List Step) (at : ℕ) (d : Step) (now : FileSet) (changes : List Change) (error : BatchError)
    → at < length steps
    → Runs files (take at steps) now changes → IsFailedFor (IsRefusedStep now (get_or steps at d) (at + 1)) error
    → IsFailedFor (λ e. Batches files steps (Err e)) error
run_fails files steps at d now changes (At k why) h r (inl f) =
    inl (subst (λ (n : ℕ). Stops files steps n why) (sym f.0) (run_stops files steps at d now changes why h r f.1))
run_fails files steps at d now changes Memory h r (inl f) = absurd f
run_fails files steps at d now changes error h r (inr e) = inr e

-- ---- the loop over the steps

-- the step is done in the files that the run so far left
pub step_done : (files : FileSet) (steps : List Step) (at : ℕ) (step : Step) (left now : FileSet) (changes after : List Change) (done : Renamed)
    → at < length steps
    → step ≡ get_or steps at step → now ≡ left → Runs files (take at steps) left changes → Answers now step (Ok done)
    → after ≡ changes ++ change_of done ∷ []
    → Runs files (take (at + 1) steps) done.files after
step_done files steps at step left now changes after done h read same r a e =
    let here : Answers left (get_or steps at step) (Ok done) =
    subst (λ (s : Step). Answers left s (Ok done)) read (subst (λ (fs : FileSet). Answers fs step (Ok done)) same a) in
    run_goes_on files steps at step left changes after done h r here e

-- it fails in them
pub step_failed : (files : FileSet) (steps : List Step) (at : ℕ) (step : Step) (left now : FileSet) (changes : List Change) (error : BatchError)
    → at < length steps
    → step ≡ get_or steps at step → now ≡ left → Runs files (take at steps) left changes → IsFailedFor (IsRefusedStep now step (at + 1)) error
    → IsFailedFor (λ e. Batches files steps (Err e)) error
step_failed files steps at step left now changes error h read same r f =
    let here : IsFailedFor (IsRefusedStep left (get_or steps at step) (at + 1)) error =
    subst (λ (s : Step). IsFailedFor (IsRefusedStep left s (at + 1)) error) read
    (subst (λ (fs : FileSet). IsFailedFor (IsRefusedStep fs step (at + 1)) error) same f) in
    run_fails files steps at step left changes error h r here

-- an error that is passed on is the one that was returned
pub passed_on : {A : Type 0} (r : Result A BatchError) (error : BatchError) (P : BatchError → Type 0) → IsErrAnd r (λ y. y ≡ error)
    → P error → IfErr r P
passed_on (Ok done) error P same p = tt
passed_on (Err y) error P same p = subst P (sym same) p

-- ---- one step

pub done_named : (files : FileSet) (step : Step) (given : List ℕ) (done : Renamed) → given ≡ step.name → Renames files step.target given (Ok done)
    → Answers files step (Ok done)
unfolding Answers
done_named files step given done e r = subst (λ (new : List ℕ). Renames files step.target new (Ok done)) e r

pub refused_step : (files : FileSet) (step : Step) (number : ℕ) (given : List ℕ) (why : Refusal) (error : BatchError) → given ≡ step.name
    → IsRefusedFor (λ w. Renames files step.target given (Err w)) why → IsErrorOf number why error
    → IsFailedFor (IsRefusedStep files step number) error
unfolding Answers
refused_step files step number given why error e (inl r) (inl f) =
    subst (IsFailedFor (IsRefusedStep files step number)) (sym f.0)
    (inl (refl, subst (λ (new : List ℕ). Renames files step.target new (Err why)) e r))
refused_step files step number given why error e (inr m) (inl f) = absurd (f.1 m)
refused_step files step number given why error e r (inr f) = inr f.0

pub names_refusal : (number : ℕ) (why : Refusal) (error : BatchError) → IsErrorOf number why error → NamesRefusal error
names_refusal number why error (inl f) = subst NamesRefusal (sym f.0) f.1
names_refusal number why error (inr f) = subst NamesRefusal (sym f.0) tt
