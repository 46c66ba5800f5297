-- Want of memory is none of the refusals that a command answers with.
use Rattle.std.proofs.Common.{◌≡◌, ℕ, suc, codes, List, [], ◌∷◌, Result, Ok, Err, IfErr, ◌≢◌, inl, inr, subst}
use Rattle.rotor_base.specs.Files.{FileSet}
use Rattle.rotor_base.specs.declared.place.Foot.{Foot}
use Rattle.rotor_base.specs.declared.place.Place.{Place}
use Rattle.rotor_base.specs.declared.refusal.Refusal.{Refusal}
use Rattle.rotor_base.specs.declared.refusal.Refusal.TheVariants as refusal
use Rattle.rotor_base.specs.declared.report.Counts.{Counts}
use Rattle.rotor_base.specs.declared.report.FootReport.{FootReport}
use Rattle.rotor_base.specs.declared.report.Renamed.{Renamed}
use Rattle.rotor_base.specs.declared.report.SampleReport.{SampleReport}
use Rattle.rotor_base.specs.declared.source.SourceFile.{SourceFile}
use Rattle.rotor_base.specs.declared.target.Target.{Target}
use Rattle.ml_trees.specs.Tree.{UnitTree}
use Rattle.shape_core.specs.Shape.{Name}
use Rattle.project_reading.specs.Reads.{Unread}
use Rattle.project_reading.specs.Source.{IsUnread, bad, long_name, form, deep, syntax}
use Rattle.project_reading.specs.Sources.{FirstUnread}
use Rattle.rename_model.specs.Project.{refusals_of_project}
use Rattle.rename_model.specs.Renaming.{HasNoTarget, refusals_of_binder, refusals_of_renaming}
use Rattle.rename_files.specs.Answer.{Rejects, Checks, Shows, Renames}
use Rattle.rename_batch.specs.Batch.{Answers, Stops}
use Rattle.rename_batch.specs.declared.step.Step.{Step}
use Rattle.rename_verify.specs.declared.verdict.Verdict.{Verdict}
use Rattle.rename_verify.specs.Verdict.{Verdicts}
use Rattle.sample_project.specs.Sample.{Samples, sample_target}
use Rattle.sample_project.specs.Sources.{sample_files}

-- ---- the refusals of a project

unread : (number : ℕ) (source : SourceFile) (why : Refusal) → IsUnread number source why → why ≢ refusal.Memory
unread number source why (bad offset f) e = cc
unread number source why (long_name offset f) e = cc
unread number source why (form xs token kind l f) e = cc
unread number source why (deep xs token l f d) e = cc
unread number source why (syntax xs p n) e = cc

first_unread : (number : ℕ) (sources : List SourceFile) (why : Refusal) → FirstUnread number sources why → why ≢ refusal.Memory
first_unread number [] why h e = absurd h
first_unread number (source ∷ sources) why (inl u) e = unread number source why u e
first_unread number (source ∷ sources) why (inr (tree, r, h)) e = first_unread (suc number) sources why h e

not_read : (files : FileSet) (why : Refusal) → Unread files why → why ≢ refusal.Memory
not_read files why (inl u) e = first_unread 0 files.entries why u e
not_read files why (inr (unit, c, o)) e = cc

of_project : (us : List UnitTree) → refusals_of_project us refusal.Memory → ⊥
of_project us (inl h) = h
of_project us (inr (n, inl h)) = h
of_project us (inr (n, inr (m, inl h))) = h
of_project us (inr (n, inr (m, inr (k, h)))) = h

rejected : (files : FileSet) (why : Refusal) → Rejects files why → why ≢ refusal.Memory
rejected files why (inl u) e = not_read files why u e
rejected files why (inr (us, r, h)) e = of_project us (subst (refusals_of_project us) e h)

-- ---- the refusals of a renaming

of_binder : (sources : List SourceFile) (us : List UnitTree) (d : Place) (foot : Foot) (new : Name)
    → refusals_of_binder sources us d foot new refusal.Memory → ⊥
of_binder sources us d foot new (inl h) = h
of_binder sources us d foot new (inr (a, inl h)) = h
of_binder sources us d foot new (inr (a, inr (b, inl h))) = h
of_binder sources us d foot new (inr (a, inr (b, inr (c, inl h)))) = h
of_binder sources us d foot new (inr (a, inr (b, inr (c, inr (k, inl h))))) = h
of_binder sources us d foot new (inr (a, inr (b, inr (c, inr (k, inr (l, inl h)))))) = h
of_binder sources us d foot new (inr (a, inr (b, inr (c, inr (k, inr (l, inr (m, inl h))))))) = h
of_binder sources us d foot new (inr (a, inr (b, inr (c, inr (k, inr (l, inr (m, inr (n, inl h)))))))) = h
of_binder sources us d foot new (inr (a, inr (b, inr (c, inr (k, inr (l, inr (m, inr (n, inr (o, inl h))))))))) = h
of_binder sources us d foot new (inr (a, inr (b, inr (c, inr (k, inr (l, inr (m, inr (n, inr (o, inr (p, inl h)))))))))) = h
of_binder sources us d foot new (inr (a, inr (b, inr (c, inr (k, inr (l, inr (m, inr (n, inr (o, inr (p, inr (q, h))))))))))) = h

of_renaming : (files : FileSet) (us : List UnitTree) (target : Target) (new : Name) → refusals_of_renaming files us target new refusal.Memory → ⊥
of_renaming files us target new (inl h) = h
of_renaming files us target new (inr (n, h)) = of_binder files.entries us h.binder h.foot new h.holds

renaming : (files : FileSet) (target : Target) (new : Name) (why : Refusal) → Renames files target new (Err why) → why ≢ refusal.Memory
renaming files target new why (inl r) e = rejected files why r e
renaming files target new why (inr (us, a, h)) e = of_renaming files us target new (subst (refusals_of_renaming files us target new) e h)

pub names_stop : (files : FileSet) (steps : List Step) (number : ℕ) (why : Refusal) → Stops files steps number why → why ≢ refusal.Memory
unfolding Answers
names_stop files [] number why h e = absurd h
names_stop files (step ∷ steps) number why (inl (n, a)) e = renaming files step.target step.name why a e
names_stop files (step ∷ steps) number why (inr (done, rest, a, n, h)) e = names_stop done.files steps rest why h e

-- ---- the answers of the commands

pub names_check : (files : FileSet) (r : Result Counts Refusal) → Checks files r → IfErr r (λ why. why ≢ refusal.Memory)
names_check files (Ok counts) h = tt
names_check files (Err why) h = rejected files why h

pub names_shown : (files : FileSet) (target : Target) (r : Result FootReport Refusal) → Shows files target r → IfErr r (λ why. why ≢ refusal.Memory)
names_shown files target (Ok shown) h = tt
names_shown files target (Err why) (inl r) = rejected files why r
names_shown files target (Err why) (inr (us, a, h)) = λ e. no (subst (HasNoTarget files us target) e h) where
  no : HasNoTarget files us target refusal.Memory → ⊥
  no h = h

pub names_renaming : (files : FileSet) (target : Target) (new : Name) (r : Result Renamed Refusal) → Renames files target new r
    → IfErr r (λ why. why ≢ refusal.Memory)
names_renaming files target new (Ok done) h = tt
names_renaming files target new (Err why) h = renaming files target new why h

pub names_sample : (units : ℕ) (r : Result SampleReport Refusal) → Samples units r → IfErr r (λ why. why ≢ refusal.Memory)
names_sample units (Ok report) h = tt
names_sample units (Err why) h = renaming (sample_files units) sample_target (codes "renamed") why h

pub names_verdict : (old new : FileSet) (r : Result Verdict Refusal) → Verdicts old new r → IfErr r (λ why. why ≢ refusal.Memory)
names_verdict old new (Ok verdict) h = tt
names_verdict old new (Err why) h = rejected old why h
