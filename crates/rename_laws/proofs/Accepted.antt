-- The laws of accepted renamings.
use Rattle.std.proofs.Common.{◌≡◌, ◌<◌, List, All, length, inl, inr, Contains, map, sym, ap, subst, ◌∙◌}
use Rattle.std.specs.List.Sorted.{IsStrictlySortedBy}
use Rattle.std.specs.Ordering.{nat_cmp}
use Rattle.std.proofs.lemmas.List.{length-map}
use Rattle.rotor_base.specs.declared.place.Place.{Place}
use Rattle.rotor_base.specs.declared.place.Foot.{Foot}
use Rattle.rotor_base.specs.declared.report.FootReport.{FootReport}
use Rattle.rotor_base.specs.declared.report.Renamed.{Renamed}
use Rattle.rotor_base.specs.declared.target.Target.{Target}
use Rattle.rotor_base.specs.Files.{FileSet, IsProject}
use Rattle.shape_core.specs.Shape.{Name}
use Rattle.dependency_kernel.specs.Foot.{IsFoot}
use Rattle.binding_model.specs.Facts.{facts}
use Rattle.binding_model.specs.Renaming.{renaming}
use Rattle.binding_model.specs.Renaming.{Renaming, IsValid, respell}
use Rattle.binding_model.proofs.Leasts.{changes_whole_foot, outside_stays}
use Rattle.project_reading.specs.Reads.{Reads}
use Rattle.project_reading.proofs.Soundness.{read_is_sound}
use Rattle.rename_model.specs.Foot.{hits}
use Rattle.rename_model.specs.Renaming.{watch_of, renamed}
use Rattle.rename_files.specs.Answer.{Accepted, Shown}
use Rattle.renamed_sources.proofs.Unhit.{sources_without_hits_stay}
use Rattle.rename_laws.specs.Laws.{new_names, ChangesAreListed, RenamingsRewrite, RenamingsAreValid, RenamingsKeepFacts, RenamingsKeepRuns}
use Rattle.rename_laws.specs.Laws.{FootprintsAreLeast, ShownAreLeast, ShownOutsideIsKept}
use Rattle.rename_laws.proofs.Ordered.{hits_rise}
use Rattle.rename_laws.proofs.Kept.{IsRenamable, same_facts, same_runs, still, valid, names, taken}

pub renamable : (files : FileSet) (target : Target) (new : Name) (done : Renamed) → IsProject files → (a : Accepted files target new done)
    → IsRenamable files a.project a.binder a.foot new
renamable files target new done p a =
    record { files_are = p; reads = a.accepts.reads; project = a.accepts.none; binder = a.aims.1; is = a.is_foot; none = a.none }

pub renamings_rewrite : RenamingsRewrite
renamings_rewrite files target new done p a =
    let us = a.project in
    let h = renamable files target new done p a in
    record {
      names = names files us a.binder a.foot new h done.files a.renaming.sources a.renaming.manifest;
      manifest = a.renaming.manifest;
      taken = taken files us a.binder a.foot new h done.files a.renaming.sources a.renaming.manifest;
      covers = λ k. elim (sources_without_hits_stay us (watch_of us a.binder a.foot new) files.entries done.files.entries a.renaming.sources k) [
        | inl e ↦ inl e
        | inr c ↦ inr (subst (λ ks. Contains ks k) (sym a.renaming.changed) c)
      ];
    }

pub changes_are_listed : ChangesAreListed
changes_are_listed files target new done p a =
    let w = renamings_rewrite files target new done p a in
    let count : length done.files.entries ≡ length files.entries =
    sym (length-map done.files.entries (λ file. file.name)) ∙ ap (λ (ns : List Name). length ns) w.names
    ∙ length-map files.entries (λ file. file.name) in
    let rise = hits_rise (hits (facts a.project).refs a.foot) files.entries in
    record {
      ordered = subst (IsStrictlySortedBy nat_cmp) (sym a.renaming.changed) rise.0;
      known = subst (λ m. All (λ n. n < m) done.changed) (sym count) (subst (All (λ n. n < length files.entries)) (sym a.renaming.changed) rise.1);
    }

pub renamings_are_valid : RenamingsAreValid
renamings_are_valid files target new done p a =
    let us = a.project in
    let h = renamable files target new done p a in
    let is : renaming (watch_of us a.binder a.foot new) ≡ new_names done =
    ap (λ (name : Name). map (λ (d : Place). (d, name)) a.foot.decls) (sym a.renaming.new_name)
    ∙ ap (λ (foot : Foot). map (λ (d : Place). (d, done.new)) foot.decls) (sym a.renaming.footprint) in
    record {
      project = us;
      reads = a.accepts.reads;
      valid = subst (λ (r : Renaming). IsValid us r) is (valid files us a.binder a.foot new h done.files a.renaming.sources a.renaming.manifest);
      respelled = subst (λ (r : Renaming). Reads done.files (respell us r)) is
          (still files us a.binder a.foot new h done.files a.renaming.sources a.renaming.manifest);
    }

pub renamings_keep_facts : RenamingsKeepFacts
renamings_keep_facts files target new done p a =
    let h = renamable files target new done p a in
    record {
      project = a.project;
      renamed = renamed a.project (watch_of a.project a.binder a.foot new);
      reads = a.accepts.reads;
      still = still files a.project a.binder a.foot new h done.files a.renaming.sources a.renaming.manifest;
      same = same_facts files a.project a.binder a.foot new h;
    }

pub footprints_are_least : FootprintsAreLeast
footprints_are_least files target new done p a = record {
  project = a.project;
  reads = a.accepts.reads;
  whole = λ r m y valid c changes b. changes_whole_foot a.project r a.binder done.foot (read_is_sound files a.project p a.accepts.reads) valid
      a.aims.1 (subst (λ foot. IsFoot (facts a.project).links a.binder foot) (sym a.renaming.footprint) a.is_foot) m y c changes b;
}

-- the declarations that are shown are the footprint of the target's binder
shown_foot : (files : FileSet) (target : Target) (shown : FootReport) (a : Shown files target shown)
    → IsFoot (facts a.project).links a.binder shown.foot
shown_foot files target shown a =
    subst (λ (foot : Foot). IsFoot (facts a.project).links a.binder foot) (sym (ap (λ (report : FootReport). report.foot) a.report)) a.is_foot

pub shown_are_least : ShownAreLeast
shown_are_least files target shown p a = record {
  project = a.project;
  reads = a.accepts.reads;
  whole = λ r m y valid. changes_whole_foot a.project r a.binder shown.foot (read_is_sound files a.project p a.accepts.reads) valid a.aims.1
      (shown_foot files target shown a) m y;
}

pub shown_outside_is_kept : ShownOutsideIsKept
shown_outside_is_kept files target shown p a out = record {
  project = a.project;
  reads = a.accepts.reads;
  kept = λ r m y valid. outside_stays a.project r a.binder shown.foot (read_is_sound files a.project p a.accepts.reads) valid a.aims.1
      (shown_foot files target shown a) out m y;
}

pub renamings_keep_runs : RenamingsKeepRuns
renamings_keep_runs files target new done p a =
    let h = renamable files target new done p a in
    record {
      project = a.project;
      renamed = renamed a.project (watch_of a.project a.binder a.foot new);
      reads = a.accepts.reads;
      still = still files a.project a.binder a.foot new h done.files a.renaming.sources a.renaming.manifest;
      same = same_runs files a.project a.binder a.foot new h done.files a.renaming.sources a.renaming.manifest;
    }
