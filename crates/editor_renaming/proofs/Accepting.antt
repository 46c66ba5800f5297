-- An accepted renaming was done over the project that the files are read as.
use Rattle.std.proofs.Common.{◌≡◌, List, Result, Ok, Err, sym, subst}
use Rattle.std.specs.Prelude.{IfOk}
use Rattle.rotor_base.specs.declared.place.Place.{Place}
use Rattle.rotor_base.specs.declared.place.Foot.{Foot}
use Rattle.rotor_base.specs.declared.place.Facts.{Facts}
use Rattle.rotor_base.specs.declared.report.Renamed.{Renamed}
use Rattle.rotor_base.specs.declared.target.Target.{Target}
use Rattle.rotor_base.specs.Files.{FileSet, IsProject}
use Rattle.ml_trees.specs.Tree.{UnitTree}
use Rattle.binding_model.specs.Facts.{facts as facts_of}
use Rattle.binding_model.specs.Renaming.{IsBinder}
use Rattle.project_reading.specs.Reads.{Reads}
use Rattle.project_reading.proofs.OneReading.{one_project}
use Rattle.project_reading.proofs.Soundness.{read_is_sound}
use Rattle.rename_model.specs.Foot.{IsTheFoot}
use Rattle.rename_model.specs.Report.{IsRenaming}
use Rattle.rename_files.specs.Answer.{Renames}
use Rattle.renaming_edits.specs.Edits.{IsDone}

pub is_done : (files : FileSet) (facts : Facts) (target : Target) (done : Renamed) → IsProject files
    → ((us : List UnitTree) → Reads files us → facts ≡ facts_of us) → Renames files target done.new (Ok done) → IsDone files facts done
is_done files facts target done project resolved a =
    let binder : a.binder ≡ done.undo_at = sym a.renaming.target in
    let foot : a.foot ≡ done.foot = sym a.renaming.footprint in
    let F : Place → Foot → Type 0 = λ d f. IsTheFoot a.project d f in
    let R : Place → Foot → Type 0 = λ d f. IsRenaming files a.project d f done.new done in
    record {
      project = a.project;
      sound = read_is_sound files a.project project a.accepts.reads;
      resolved = resolved a.project a.accepts.reads;
      binds = subst (IsBinder a.project) binder a.aims.1;
      foot = subst (F done.undo_at) foot (subst (λ d. F d a.foot) binder a.is_foot);
      renaming = subst (R done.undo_at) foot (subst (λ d. R d a.foot) binder a.renaming);
    }

-- the facts of one reading are those of every one
pub facts_of_each : (files : FileSet) (facts : Facts) (us : List UnitTree) → Reads files us → facts ≡ facts_of us
    → (other : List UnitTree) → Reads files other → facts ≡ facts_of other
facts_of_each files facts us reads is other read = subst (λ vs. facts ≡ facts_of vs) (one_project files us other reads read) is

pub if_ok_as : {A E : Type 0} (r : Result A E) (P Q : A → Type 0) → ((a : A) → P a → Q a) → IfOk r P → IfOk r Q
if_ok_as (Ok a) P Q f h = f a h
if_ok_as (Err e) P Q f h = h
