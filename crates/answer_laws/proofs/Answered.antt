-- There is an answer.
use Rattle.std.proofs.Common.{inl, inr, List, Result, Ok, Err, length, refl}
use Rattle.rotor_base.specs.declared.place.Place.{Place}
use Rattle.rotor_base.specs.declared.place.Foot.{Foot}
use Rattle.rotor_base.specs.declared.refusal.Refusal.{Refusal}
use Rattle.rotor_base.specs.declared.refusal.Refusal.TheVariants as refusal
use Rattle.rotor_base.specs.declared.report.Counts.{Counts}
use Rattle.rotor_base.specs.declared.report.FootReport.{FootReport}
use Rattle.rotor_base.specs.declared.report.Renamed.{Renamed}
use Rattle.rotor_base.specs.declared.source.SourceFile.{SourceFile}
use Rattle.rotor_base.specs.declared.target.Target.{Target}
use Rattle.rotor_base.specs.Files.{FileSet}
use Rattle.ml_syntax.specs.RespelledSource.{AreRespelled}
use Rattle.ml_trees.specs.Tree.{UnitTree}
use Rattle.shape_core.specs.Shape.{Name}
use Rattle.binding_model.specs.Facts.{facts}
use Rattle.binding_model.specs.Renaming.{in_file, name_of}
use Rattle.capture_check.specs.Fault.{IsMet}
use Rattle.facts_laws.proofs.Found.{footprints_exist}
use Rattle.ladder_laws.specs.Laws.{IsDecided}
use Rattle.ladder_laws.proofs.Ladder.{project_decided}
use Rattle.ladder_laws.proofs.BinderLadder.{binder_decided}
use Rattle.project_reading.specs.Reads.{Reads}
use Rattle.project_reading.proofs.Cut.{HaveCuts, all_cut}
use Rattle.renamed_sources.proofs.Respelling.{sources_can_be_respelled}
use Rattle.rename_model.specs.Foot.{IsTheFoot, hits, refs_to}
use Rattle.rename_model.specs.Project.{counts_of, refusals_of_project}
use Rattle.rename_model.specs.Renaming.{HasNoTarget, refusals_of_binder, renamed_words, watch_of}
use Rattle.rename_model.specs.Report.{hit_files, shown_of}
use Rattle.rename_model.specs.Target.{Aims}
use Rattle.rename_files.specs.Answer.{Accepts, Checks, Renames, Shows}
use Rattle.decided_readings.specs.Laws.{HasReading}
use Rattle.decided_readings.proofs.Files.{files_are_decided}
use Rattle.answer_laws.specs.Laws.{ChecksAreAnswered, FootprintsAreAnswered, RenamingsAreAnswered}
use Rattle.answer_laws.proofs.Targets.{IsFound, target_decided}

pub checks_are_answered : ChecksAreAnswered
checks_are_answered files = by (files_are_decided files) where
  in_project : (us : List UnitTree) → Reads files us → IsDecided (refusals_of_project us) → (answer : Result Counts Refusal) × Checks files answer
  in_project us reads (inl met) = (Err met.0, inr (us, reads, met.1))
  in_project us reads (inr none) = (Ok (counts_of files.entries us), (us, record { reads = reads; none = none }, refl))

  by : HasReading files → (answer : Result Counts Refusal) × Checks files answer
  by (inr unread) = (Err unread.0, inl unread.1)
  by (inl read) = in_project read.0 read.1 (project_decided read.0)

module _ (files : FileSet) (us : List UnitTree) (reads : Reads files us) (target : Target) where
  cuts : HaveCuts files.entries
  cuts = all_cut 0 files.entries reads.trees reads.read

  shown : (accepts : Accepts files us) → IsFound (Aims files us target) → (answer : Result FootReport Refusal) × Shows files target answer
  shown accepts (inl found) =
      let foot = footprints_exist us found.0 in (
        Ok (shown_of us found.0 foot.0),
        record { project = us; binder = found.0; foot = foot.0; accepts = accepts; aims = found.1; is_foot = foot.1; report = refl },
      )
  shown accepts (inr nothing) = (Err refusal.NoTarget, inr (us, accepts, nothing))

  pub footprint_answered : (answer : Result FootReport Refusal) × Shows files target answer
  footprint_answered = by (project_decided us) where
    by : IsDecided (refusals_of_project us) → (answer : Result FootReport Refusal) × Shows files target answer
    by (inl met) = (Err met.0, inl (inr (us, reads, met.1)))
    by (inr none) = shown (record { reads = reads; none = none }) (target_decided files us target cuts)

  module _ (new : Name) (accepts : Accepts files us) where
    -- no target is named, if the target is a binder
    has_target : (d : Place) → Aims files us target d → IsMet (HasNoTarget files us target) → ⊥
    has_target d aims (refusal.NoTarget, none) = none d aims
    has_target d aims (_, none) = absurd none

    renamed_at : (d : Place) → Aims files us target d → (foot : Foot) → IsTheFoot us d foot → (news : List SourceFile)
        → AreRespelled (in_file (renamed_words us (watch_of us d foot new))) 0 files.entries news
        → IsDecided (refusals_of_binder files.entries us d foot new) → (answer : Result Renamed Refusal) × Renames files target new answer
    renamed_at d aims foot is_foot news respelled (inl met) = (
      Err met.0,
      inr (
        us,
        accepts,
        inr (has_target d aims, record { binder = d; foot = foot; aims = aims; is_foot = is_foot; holds = met.1 }),
      ),
    )
    renamed_at d aims foot is_foot news respelled (inr none) =
        let done : Renamed = record {
          files = record { entries = news; manifest = files.manifest };
          changed = hit_files (hits (facts us).refs foot) 0 files.entries;
          old = name_of us d;
          new = new;
          foot = foot;
          refs = length (refs_to foot (facts us).refs);
          undo_at = d;
        } in (
          Ok done,
          record {
            project = us;
            binder = d;
            foot = foot;
            accepts = accepts;
            aims = aims;
            is_foot = is_foot;
            none = none;
            renaming =
                record {
                  sources = respelled;
                  manifest = refl;
                  changed = refl;
                  old_name = refl;
                  new_name = refl;
                  footprint = refl;
                  references = refl;
                  target = refl;
                };
          },
        )

    renamed : IsFound (Aims files us target) → (answer : Result Renamed Refusal) × Renames files target new answer
    renamed (inl found) =
        let foot = footprints_exist us found.0 in
        let news = sources_can_be_respelled (renamed_words us (watch_of us found.0 foot.0 new)) 0 files.entries cuts.0 cuts.1 in
        renamed_at found.0 found.1 foot.0 foot.1 news.0 news.1 (binder_decided files.entries us found.0 foot.0 new news.0 news.1)
    renamed (inr nothing) = (Err refusal.NoTarget, inr (us, accepts, inl nothing))

  pub renaming_answered : (new : Name) → (answer : Result Renamed Refusal) × Renames files target new answer
  renaming_answered new = by (project_decided us) where
    by : IsDecided (refusals_of_project us) → (answer : Result Renamed Refusal) × Renames files target new answer
    by (inl met) = (Err met.0, inl (inr (us, reads, met.1)))
    by (inr none) = renamed new (record { reads = reads; none = none }) (target_decided files us target cuts)

pub footprints_are_answered : FootprintsAreAnswered
footprints_are_answered files target = by (files_are_decided files) where
  by : HasReading files → (answer : Result FootReport Refusal) × Shows files target answer
  by (inr unread) = (Err unread.0, inl (inl unread.1))
  by (inl read) = footprint_answered files read.0 read.1 target

pub renamings_are_answered : RenamingsAreAnswered
renamings_are_answered files target new = by (files_are_decided files) where
  by : HasReading files → (answer : Result Renamed Refusal) × Renames files target new answer
  by (inr unread) = (Err unread.0, inl (inl unread.1))
  by (inl read) = renaming_answered files read.0 read.1 target new
