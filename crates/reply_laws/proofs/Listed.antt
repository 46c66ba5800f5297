-- There is a reply to `verify`, to `recover` and to `sample`.
use Rattle.std.proofs.Common.{◌≡◌, ◌⊎◌, inl, inr, ℕ, List, false, Option, Some, None, Result, Ok, Err, refl, sym, subst, ◌∙◌}
use Rattle.std.specs.FinMap.{get}
use Rattle.rotor_base.specs.Files.{FileSet, IsProject}
use Rattle.rotor_base.specs.declared.refusal.Refusal.{Refusal}
use Rattle.rotor_base.specs.declared.report.Renamed.{Renamed}
use Rattle.rotor_base.specs.declared.report.SampleReport.{SampleReport}
use Rattle.rotor_base.specs.declared.source.SourceFile.{SourceFile}
use Rattle.tree_io.specs.Outside.{FileMap}
use Rattle.project_load.specs.Listed.{Lists}
use Rattle.project_load.specs.Listed as load
use Rattle.project_load.specs.declared.error.ListError.{ListError}
use Rattle.project_load.specs.declared.error.ListError.TheVariants as list_error
use Rattle.project_load.proofs.Rewritten.{loaded_files_are_a_project}
use Rattle.apply_journal.specs.Plan.{IsPlan}
use Rattle.apply_journal.specs.Recovered.{HoldsNoPlan, HoldsPlan, IsOpen, plan_name}
use Rattle.rename_files.specs.Answer.{Renames}
use Rattle.rename_laws.proofs.Undone.{renamings_are_undone, undos_have_places}
use Rattle.sample_project.specs.Sample.{Samples, report_of, sample_target}
use Rattle.sample_project.specs.Sources.{sample_files}
use Rattle.sample_project.proofs.Back.{is_project, is_undone}
use Rattle.std.specs.Prelude.{codes}
use Rattle.answer_laws.proofs.Answered.{renamings_are_answered}
use Rattle.command_answers.proofs.Verdicts.{verdicts_are_answered}
use Rattle.decided_lists.proofs.Known.{Known}
use Rattle.decided_lists.proofs.Lists.{lists_are_answered}
use Rattle.decided_lists.proofs.Plans.{plans_are_decided}
use Rattle.command_replies.specs.Said.{RefusesList, SaysAgainst, SaysRecovery, SaysSample, SaysVerify, bad_list, unloaded_reply}
use Rattle.command_replies.specs.Said as said
use Rattle.command_replies.specs.declared.reply.Reply.{Reply}
use Rattle.reply_laws.proofs.Commands.{open_known}

-- ---- verify

-- a list that gives no project is refused
refused : (held : FileMap) (name : List ℕ) (error : ListError) → Lists held name (Err error) → (reply : Reply) × RefusesList name error reply
refused held name (list_error.BadList number) h = (bad_list name number, refl)
refused held name (list_error.Load why) h = (unloaded_reply false why, refl)
refused held name list_error.Read h = absurd (none h) where
  none : Lists held name (Err list_error.Read) → ⊥
  none (load.lacks e r) = cc
  none (load.large bytes e over r) = cc
  none (load.unread bytes number e few bad r) = cc
  none (load.refused bytes given error e few gives l r) = cc
  none (load.taken bytes given files e few gives l r) = cc

-- the files that a list gives are those of a project
project_of : (held : FileMap) (name : List ℕ) (answer : Result FileSet ListError) (files : FileSet) → answer ≡ Ok files → Lists held name answer
    → IsProject files
project_of held name answer files same (load.lacks e r) = let wrong : ◌≡◌ {A = Result FileSet ListError} (Ok files) (Err (list_error.BadList 0)) =
    sym same ∙ r in cc
project_of held name answer files same (load.large bytes e over r) =
    let wrong : ◌≡◌ {A = Result FileSet ListError} (Ok files) (Err _) = sym same ∙ r in cc
project_of held name answer files same (load.unread bytes number e few bad r) =
    let wrong : ◌≡◌ {A = Result FileSet ListError} (Ok files) (Err _) = sym same ∙ r in cc
project_of held name answer files same (load.refused bytes given error e few gives l r) =
    let wrong : ◌≡◌ {A = Result FileSet ListError} (Ok files) (Err _) = sym same ∙ r in cc
project_of held name answer files same (load.taken bytes given others e few gives l r) =
    let both : ◌≡◌ {A = Result FileSet ListError} (Ok files) (Ok others) = sym same ∙ r in
    let one : others ≡ files = cc in
    subst IsProject one (loaded_files_are_a_project given others l)

module _ (held : FileMap) where
  against : (old : FileSet) → IsProject old → (name : List ℕ) → (reply : Reply) × SaysAgainst old name held reply
  against old p name = by (lists_are_answered held name) where
    by : (answer : Result FileSet ListError) × Lists held name answer → (reply : Reply) × SaysAgainst old name held reply
    by (Err error, h) = let r = refused held name error h in (r.0, said.unlisted error h r.1)
    by (Ok new, h) =
        let answer = verdicts_are_answered old new p (project_of held name (Ok new) new refl h) in
        (_, said.judged new h (answer.0, answer.1, refl))

  pub verify_replied : (old new : List ℕ) → (reply : Reply) × SaysVerify old new held reply
  verify_replied old new = by (lists_are_answered held old) where
    by : (answer : Result FileSet ListError) × Lists held old answer → (reply : Reply) × SaysVerify old new held reply
    by (Err error, h) = let r = refused held old error h in (r.0, said.no_list error h r.1)
    by (Ok files, h) = let r = against files (project_of held old (Ok files) files refl h) new in (r.0, said.listed files h r.1)

  -- ---- recover

  -- the folder holds a plan, or it holds none
  plan_known : ((files : List SourceFile) × HoldsPlan held files) ⊎ HoldsNoPlan held
  plan_known = by (get held plan_name) refl where
    read : (bytes : List ℕ) → get held plan_name ≡ Some bytes
        → ((files : List SourceFile) × IsPlan bytes files) ⊎ ((files : List SourceFile) → IsPlan bytes files → ⊥)
        → ((files : List SourceFile) × HoldsPlan held files) ⊎ HoldsNoPlan held
    read bytes e (inl plan) = inl (plan.0, (bytes, e, plan.1))
    read bytes e (inr none) =
        inr (λ files h.
        let both : Some bytes ≡ Some h.0 = sym e ∙ h.1 in
        let same : h.0 ≡ bytes = cc in
        none files (subst (λ (b : List ℕ). IsPlan b files) same h.2))

    by : (o : Option (List ℕ)) → get held plan_name ≡ o → ((files : List SourceFile) × HoldsPlan held files) ⊎ HoldsNoPlan held
    by None e = inr (λ files h. let wrong : None ≡ Some h.0 = sym e ∙ h.1 in cc)
    by (Some bytes) e = read bytes e (plans_are_decided bytes)

  pub recovery_replied : (reply : Reply) × SaysRecovery held reply
  recovery_replied = by (open_known held) plan_known where
    by : Known (IsOpen held) → ((files : List SourceFile) × HoldsPlan held files) ⊎ HoldsNoPlan held → (reply : Reply) × SaysRecovery held reply
    by (inr closed) plan = (_, said.idle closed refl)
    by (inl open_now) (inl plan) = (_, said.finished plan.0 open_now plan.1 refl)
    by (inl open_now) (inr none) = (_, said.lost (record { opened = open_now; none = none }) refl)

-- ---- sample

sampled : (n : ℕ) → (answer : Result SampleReport Refusal) × Samples n answer
sampled n = by (renamings_are_answered (sample_files n) sample_target (codes "renamed")) where
  by : (answer : Result Renamed Refusal) × Renames (sample_files n) sample_target (codes "renamed") answer
      → (answer : Result SampleReport Refusal) × Samples n answer
  by (Err why, h) = (Err why, h)
  by (Ok done, h) =
      let back = is_undone renamings_are_undone undos_have_places (sample_files n) sample_target (codes "renamed") done (is_project n) h in
      (Ok (report_of n done), (done, h, back, refl))

pub sample_replied : (n : ℕ) → (reply : Reply) × SaysSample n reply
sample_replied n = let s = sampled n in (_, (s.0, s.1, refl))
