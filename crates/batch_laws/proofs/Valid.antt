-- Step by step, a batch gives validly renamed files.
use Rattle.std.proofs.Common.{List, [], ◌∷◌, Ok, refl, sym, subst}
use Rattle.rotor_base.specs.Files.{FileSet, IsProject}
use Rattle.rotor_base.specs.declared.report.Renamed.{Renamed}
use Rattle.rename_laws.proofs.Accepted.{renamable}
use Rattle.rename_laws.proofs.Kept.{out_is}
use Rattle.rename_batch.specs.declared.step.Step.{Step}
use Rattle.rename_batch.specs.declared.step.Change.{Change}
use Rattle.rename_batch.specs.declared.step.Batched.{Batched}
use Rattle.rename_batch.specs.Batch.{Answers, Batches, Runs}
use Rattle.accepted_renamings.specs.Laws.{AreValidlyRenamed}
use Rattle.accepted_renamings.proofs.GoOn.{accepted_are_valid, valid_renamings_go_on}
use Rattle.batch_laws.specs.Laws.{BatchesAreValid}

one_step : (files : FileSet) (step : Step) (done : Renamed) → IsProject files → Answers files step (Ok done) → AreValidlyRenamed files done.files
unfolding Answers
one_step files step done p a = accepted_are_valid files step.target step.name done p a

-- an accepted step leaves a project
still_project : (files : FileSet) (step : Step) (done : Renamed) → IsProject files → Answers files step (Ok done) → IsProject done.files
unfolding Answers
still_project files step done p a =
    let h = renamable files step.target step.name done p a in
    out_is files a.project a.binder a.foot step.name h done.files a.renaming.sources a.renaming.manifest

all_steps : (files : FileSet) (step : Step) (steps : List Step) (last : FileSet) (changes : List Change) → IsProject files
    → Runs files (step ∷ steps) last changes → AreValidlyRenamed files last
all_steps files step steps last [] p r = absurd r
all_steps files step [] last (c ∷ []) p r = subst (AreValidlyRenamed files) (sym r.3) (one_step files step r.0 p r.1)
all_steps files step [] last (c ∷ (d ∷ ds)) p r = absurd r.3
all_steps files step (next ∷ steps) last (c ∷ cs) p r =
    let q = still_project files step r.0 p r.1 in
    valid_renamings_go_on files r.0.files last p q (one_step files step r.0 p r.1) (all_steps r.0.files next steps last cs q r.3)

all_projects : (files : FileSet) (steps : List Step) (last : FileSet) (changes : List Change) → IsProject files → Runs files steps last changes
    → IsProject last
all_projects files [] last [] p r = subst IsProject (sym r) p
all_projects files [] last (c ∷ cs) p r = absurd r
all_projects files (step ∷ steps) last [] p r = absurd r
all_projects files (step ∷ steps) last (c ∷ cs) p r = all_projects r.0.files steps last cs (still_project files step r.0 p r.1) r.3

-- an accepted batch leaves a project
pub batches_leave_projects : (files : FileSet) (steps : List Step) (done : Batched) → IsProject files → Batches files steps (Ok done)
    → IsProject done.files
batches_leave_projects files steps done p h = all_projects files steps done.files done.done p h.run

pub batches_are_valid : BatchesAreValid
batches_are_valid files [] done p some h = absurd (some refl)
batches_are_valid files (step ∷ steps) done p some h = all_steps files step steps done.files done.done p h.run
