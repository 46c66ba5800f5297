-- A batch is undone, and keeps the runs.
use Rattle.std.proofs.Common.{◌≡◌, ◌∙◌, true, List, [], ◌∷◌, ◌++◌, map, reverse, unwrap_or, Option, Ok, refl, sym, ap, subst}
use Rattle.std.specs.List.{list_all}
use Rattle.std.specs.List.Sorted.{IsStrictlySortedBy}
use Rattle.std.specs.Ordering.{nat_cmp}
use Rattle.std.specs.Cmp.Lexicographic.{slice_cmp}
use Rattle.std.proofs.lemmas.List.{map-append, reverse-append}
use Rattle.rotor_base.specs.declared.report.Renamed.{Renamed}
use Rattle.rotor_base.specs.declared.target.Target.TheVariants as target
use Rattle.rotor_base.specs.Files.{FileSet, IsProject, names_of}
use Rattle.rotor_base.specs.Stem.{is_source_name}
use Rattle.report.specs.Pieces.{Word, file_of}
use Rattle.rename_files.specs.Answer.{Renames}
use Rattle.rename_laws.specs.Laws.{KeepsRuns, KeptRunsGoOn, RenamingsAreUndone, RenamingsKeepRuns, RenamingsRewrite, UndosHavePlaces}
use Rattle.rename_batch.specs.declared.step.Step.{Step}
use Rattle.rename_batch.specs.declared.step.Change.{Change}
use Rattle.rename_batch.specs.declared.step.Undo.{Undo}
use Rattle.rename_batch.specs.Batch.{Answers, Runs, change_of, changed_from, undo_of, undo_step, undo_steps, undos_of}
use Rattle.rename_batch.specs.Laws.{BatchesAreUndone, BatchesKeepRuns}
use Rattle.rename_batch.proofs.Runs.{runs_more}

-- an accepted step leaves a project
pub is_project : RenamingsRewrite → (files : FileSet) (step : Step) (done : Renamed) → IsProject files → Answers files step (Ok done)
    → IsProject done.files
unfolding Answers
is_project rewrite files step done p a =
    let kept = rewrite files step.target step.name done p a in
    record {
      sources = record {
        named = subst (λ (ns : List Word). list_all is_source_name ns ≡ true) (sym kept.names) p.sources.named;
        ordered = subst (IsStrictlySortedBy (slice_cmp nat_cmp)) (sym kept.names) p.sources.ordered;
      };
      taken = kept.taken;
    }

-- ---- undone

-- the step back from the first change is the last one
last_undo : (names : List Word) (change : Change) (changes : List Change)
    → undo_steps names (undos_of (change ∷ changes)) ≡ undo_steps names (undos_of changes) ++ undo_step names (undo_of change) ∷ []
last_undo names change changes =
    ap (map (undo_step names)) (reverse-append (undo_of change ∷ []) (map undo_of changes))
    ∙ map-append (undo_step names) (reverse (map undo_of changes)) (undo_of change ∷ [])

module _ (rewrite : RenamingsRewrite) (undone : RenamingsAreUndone) (places : UndosHavePlaces) where
  -- the step back from an accepted step is accepted, and gives the old files
  step_back : (files : FileSet) (step : Step) (done : Renamed) → IsProject files → Answers files step (Ok done)
      → (back : Renamed) × Answers done.files (undo_step (names_of files.entries) (undo_of (change_of done))) (Ok back) × (back.files ≡ files)
  unfolding Answers
  step_back files step done p a =
      let place = places files step.target step.name done p a in
      let back = undone files step.target step.name done p a place.source place.number in
      let named : file_of (names_of files.entries) done.undo_at.file ≡ place.source = ap (λ (o : Option Word). unwrap_or o []) place.source_at in
      (back.0, subst (λ (source : Word). Renames done.files (target.At source done.undo_at.token) done.old (Ok back.0)) (sym named) back.1, back.2)

  -- the steps back from all changes are accepted, and give the old files
  steps_back : (files : FileSet) (steps : List Step) (last : FileSet) (changes : List Change) → IsProject files → Runs files steps last changes
      → (backs : List Change) × (names_of last.entries ≡ names_of files.entries) × Runs last (undo_steps (names_of files.entries) (undos_of changes))
      files backs
  unfolding Answers
  steps_back files [] last [] p r = ([], ap (λ (fs : FileSet). names_of fs.entries) r, sym r)
  steps_back files [] last (change ∷ changes) p r = absurd r
  steps_back files (step ∷ steps) last [] p r = absurd r
  steps_back files (step ∷ steps) last (change ∷ changes) p r =
      let done = r.0 in
      let names = names_of files.entries in
      let kept = rewrite files step.target step.name done p r.1 in
      let rest = steps_back done.files steps last changes (is_project rewrite files step done p r.1) r.3 in
      let back = step_back files step done p r.1 in
      let front : Runs last (undo_steps names (undos_of changes)) done.files rest.0 =
      subst (λ (ns : List Word). Runs last (undo_steps ns (undos_of changes)) done.files rest.0) kept.names rest.2 in
      let all = runs_more last (undo_steps names (undos_of changes)) done.files rest.0 (undo_step names (undo_of (change_of done))) back.0 front
      back.1 in
      let split : undo_steps names (undos_of (change ∷ changes)) ≡ undo_steps names (undos_of changes) ++ undo_step names (undo_of (change_of done))
      ∷ [] =
      last_undo names change changes ∙ ap (λ (c : Change). undo_steps names (undos_of changes) ++ undo_step names (undo_of c) ∷ []) r.2 in (
        rest.0 ++ change_of back.0 ∷ [],
        rest.1 ∙ kept.names,
        subst (λ (ss : List Step). Runs last ss files (rest.0 ++ change_of back.0 ∷ [])) (sym split)
            (subst (λ (fs : FileSet). Runs last (undo_steps names (undos_of changes) ++ undo_step names (undo_of (change_of done)) ∷ []) fs
            (rest.0 ++ change_of back.0 ∷ [])) back.2 all),
      )

  pub batches_are_undone : BatchesAreUndone
  batches_are_undone files steps done p h =
      let back = steps_back files steps done.files done.done p h.run in
      let named : Runs done.files (undo_steps (names_of done.files.entries) (undos_of done.done)) files back.0 =
      subst (λ (ns : List Word). Runs done.files (undo_steps ns (undos_of done.done)) files back.0) (sym back.1) back.2 in
      let run : Runs done.files (undo_steps (names_of done.files.entries) done.undo) files back.0 =
      subst (λ (us : List Undo). Runs done.files (undo_steps (names_of done.files.entries) us) files back.0) (sym h.undo) named in (
        record { files = files; changed = changed_from 0 done.files.entries files.entries; done = back.0; undo = undos_of back.0 },
        record { run = run; changed = refl; undo = refl },
        refl,
      )

-- ---- the runs

module _ (rewrite : RenamingsRewrite) (keep : RenamingsKeepRuns) (go_on : KeptRunsGoOn) where
  runs_kept : (files : FileSet) (step : Step) (steps : List Step) (last : FileSet) (changes : List Change) → IsProject files
      → Runs files (step ∷ steps) last changes → KeepsRuns files last
  unfolding Answers
  runs_kept files step steps last [] p r = absurd r
  runs_kept files step [] last (change ∷ []) p r = subst (KeepsRuns files) (sym r.3) (keep files step.target step.name r.0 p r.1)
  runs_kept files step [] last (change ∷ next ∷ changes) p r = absurd r.3
  runs_kept files step (other ∷ steps) last (change ∷ changes) p r =
      go_on files r.0.files last (keep files step.target step.name r.0 p r.1)
      (runs_kept r.0.files other steps last changes (is_project rewrite files step r.0 p r.1) r.3)

  pub batches_keep_runs : BatchesKeepRuns
  batches_keep_runs files [] done p some h = absurd (some refl)
  batches_keep_runs files (step ∷ steps) done p some h = runs_kept files step steps done.files done.done p h.run
