-- A fault of `rename` is the verdict of `verify` on the respelled files.
use Rattle.std.proofs.Common.{◌≡◌, inl, inr, List, Result, Ok, Err, refl, ap, sym, subst}
use Rattle.rotor_base.specs.Files.{FileSet}
use Rattle.rotor_base.specs.declared.place.Foot.{Foot}
use Rattle.rotor_base.specs.declared.place.Place.{Place}
use Rattle.rotor_base.specs.declared.refusal.Refusal.{Refusal}
use Rattle.rotor_base.specs.declared.target.Target.{Target}
use Rattle.ml_trees.specs.Tree.{UnitTree}
use Rattle.shape_core.specs.Shape.{Name}
use Rattle.dependency_kernel.proofs.Only.{is_the_only}
use Rattle.binding_model.specs.Facts.{facts}
use Rattle.binding_model.specs.Renaming.{renaming}
use Rattle.capture_check.specs.declared.fault.Fault.{Fault}
use Rattle.project_reading.proofs.Cut.{all_cut}
use Rattle.project_reading.proofs.OneReading.{one_project}
use Rattle.project_reading.proofs.Soundness.{read_is_sound}
use Rattle.rename_model.specs.Foot.{IsTheFoot}
use Rattle.rename_model.specs.Renaming.{ForTarget, renamed_words, refusals_of_binder, watch_of}
use Rattle.rename_model.specs.Target.{Aims}
use Rattle.rename_model.proofs.One.{targets_have_one_goal}
use Rattle.rename_parts.specs.Faults.{refusal_of_fault}
use Rattle.rename_files.specs.Answer.{Accepts, Renames}
use Rattle.renamed_sources.proofs.Respelling.{renamed_keep_names, sources_can_be_respelled}
use Rattle.rename_verify.specs.declared.verdict.Verdict.{Verdict}
use Rattle.rename_verify.specs.declared.verdict.Verdict.TheVariants.{Yes, No}
use Rattle.rename_verify.specs.declared.verdict.Why.{Why}
use Rattle.rename_verify.specs.declared.verdict.Why.TheVariants.{Broken}
use Rattle.rename_verify.specs.Laws.{AreSameAnswers}
use Rattle.rename_verify.proofs.One.{verdicts_are_one}
use Rattle.verified_refusals.specs.Laws.{FaultsAreVerdicts, FaultsAreTheOnlyVerdicts, FaultsHaveFiles}
use Rattle.verified_refusals.proofs.Late.{no_fault_rejects, has_target, is_fault_of, faulted}
use Rattle.verified_refusals.proofs.Refused.{is_giving}
use Rattle.verified_refusals.proofs.Suggested.{is_reason}

-- a binder of the project, and its footprint, are refused so
pub record IsRefusedIn (files : FileSet) (target : Target) (new : Name) (fault : Fault) (us : List UnitTree) : Type 0 where
  pub accepts : Accepts files us
  pub found : ForTarget files us target (λ d foot. refusals_of_binder files.entries us d foot new) (refusal_of_fault fault)

refused : (files : FileSet) (target : Target) (new : Name) (fault : Fault) → Renames files target new (Err (refusal_of_fault fault))
    → (us : List UnitTree) × IsRefusedIn files target new fault us
refused files target new fault (inl h) = absurd (no_fault_rejects files fault h)
refused files target new fault (inr (us, accepts, inl h)) = absurd (has_target files us target fault h)
refused files target new fault (inr (us, accepts, inr h)) = (us, record { accepts = accepts; found = h.1 })

-- it is the one of the respelled files
same_holds : (files : FileSet) (us : List UnitTree) (target : Target) (new : Name) (why : Refusal) (d : Place) (foot : Foot)
    → ForTarget files us target (λ e f. refusals_of_binder files.entries us e f new) why → Aims files us target d → IsTheFoot us d foot
    → refusals_of_binder files.entries us d foot new why
same_holds files us target new why d foot t aims is =
    let binder : t.binder ≡ d = targets_have_one_goal files us target t.binder d t.aims aims in
    let there : IsTheFoot us d t.foot = subst (λ e. IsTheFoot us e t.foot) binder t.is_foot in
    let same : t.foot ≡ foot = is_the_only (facts us).links d t.foot foot there is in
    subst (λ f. refusals_of_binder files.entries us d f new why) same
    (subst (λ e. refusals_of_binder files.entries us e t.foot new why) binder t.holds)

pub faults_are_verdicts : FaultsAreVerdicts
faults_are_verdicts files out target new fault p a h =
    let r = refused files target new fault h in
    let same : r.0 ≡ a.project = one_project files r.0 a.project r.1.accepts.reads a.reads in
    let found = subst (λ (us : List UnitTree). IsRefusedIn files target new fault us) same r.1 in
    let us = a.project in
    let sound = read_is_sound files us p a.reads in
    let holds = same_holds files us target new (refusal_of_fault fault) a.binder a.foot found.found a.aims a.is_foot in
    let f = faulted files.entries us a.binder a.foot new fault holds in
    let giving = is_giving us a.binder a.foot new sound a.is_foot a.aims.1 f.free in
    let names = renamed_keep_names (renamed_words us (watch_of us a.binder a.foot new)) 0 files.entries out.entries a.sources in (
      us,
      found.accepts,
      is_reason files out us (renaming (watch_of us a.binder a.foot new)) p a.reads giving (record { sources = a.sources; manifest = a.manifest })
          (sym names) fault (is_fault_of files.entries us a.binder a.foot new fault f.last),
    )

only_answer : (why : Why) (answer : Result Verdict Refusal) → AreSameAnswers (Ok (No why)) answer → answer ≡ Ok (No why)
only_answer why (Ok (Yes list)) h = absurd h
only_answer why (Ok (No other)) h = ap (λ (w : Why). Ok (No w)) (sym h)
only_answer why (Err other) h = absurd h

pub faults_are_the_only_verdicts : FaultsAreTheOnlyVerdicts
faults_are_the_only_verdicts files out target new fault answer p a h v =
    only_answer (Broken fault) answer
    (verdicts_are_one files out (Ok (No (Broken fault))) answer (faults_are_verdicts files out target new fault p a h) v)

pub faults_have_files : FaultsHaveFiles
faults_have_files files target new fault p h =
    let r = refused files target new fault h in
    let t = r.1.found in
    let cut = all_cut 0 files.entries r.1.accepts.reads.trees r.1.accepts.reads.read in
    let news = sources_can_be_respelled (renamed_words r.0 (watch_of r.0 t.binder t.foot new)) 0 files.entries cut.0 cut.1 in (
      record { entries = news.0; manifest = files.manifest },
      record {
        project = r.0;
        binder = t.binder;
        foot = t.foot;
        reads = r.1.accepts.reads;
        aims = t.aims;
        is_foot = t.is_foot;
        sources = news.1;
        manifest = refl;
      },
    )
