-- If the answer of a command is an Ok, or `verify` is asked of a valid respelling, the reply is Done.
use Rattle.std.proofs.Common.{◌≡◌, ℕ, List, [], Bool, false, Option, Some, None, Result, Ok, Err, refl, ap, subst, ◌∙◌}
use Rattle.rotor_base.specs.Files.{FileSet, names_of}
use Rattle.rotor_base.specs.declared.refusal.Refusal.{Refusal}
use Rattle.rotor_base.specs.declared.report.Outcome.TheVariants as outcome
use Rattle.rotor_base.specs.declared.report.SampleReport.{SampleReport}
use Rattle.rotor_base.specs.declared.target.Target.{Target}
use Rattle.tree_io.specs.Outside.{FileMap}
use Rattle.project_load.specs.Load.{loaded}
use Rattle.project_load.specs.Listed.{Lists}
use Rattle.project_load.specs.declared.error.ListError.{ListError}
use Rattle.apply_journal.specs.Recovered.{IsLost}
use Rattle.cli_words.specs.declared.command.Command.{Command}
use Rattle.cli_words.specs.declared.command.Command.TheVariants as command
use Rattle.rename_verify.specs.declared.verdict.Verdict.{Verdict}
use Rattle.rename_verify.specs.declared.verdict.Verdict.TheVariants.{Yes, No}
use Rattle.rename_verify.specs.Laws.{IsValidRespelling, IsYesAnswer}
use Rattle.sample_project.specs.Sample.{Samples}
use Rattle.command_replies.specs.declared.status.Status.{Status}
use Rattle.command_replies.specs.declared.status.Status.TheVariants.{Done}
use Rattle.command_replies.specs.declared.reply.Reply.{Reply}
use Rattle.command_replies.specs.declared.writing.Writing.{Writing}
use Rattle.command_replies.specs.Writing.{is_writing, writing_of}
use Rattle.command_replies.specs.Said.{silent_reply, renamed_reply, batched_reply, judged_reply, MayWrite, over, permitted, SaysChecked, SaysCheck}
use Rattle.command_replies.specs.Said.{SaysShown, SaysShape, SaysRenaming, SaysRename, batch_in, batched, SaysFound, runs, SaysBatch}
use Rattle.command_replies.specs.Said.{SaysRecovery, idle, finished, lost, SaysVerify, no_list, listed, SaysAgainst, unlisted, judged, IsJudged}
use Rattle.command_replies.specs.Said.{SaysSample, Says, SomeReply}
use Rattle.command_replies.specs.Table.{IsAsSaid, Seen}
use Rattle.command_replies.specs.Laws.{HasLaws}
use Rattle.command_replies.specs.Done.{IsAccepted, IsDoneIfAccepted}
use Rattle.command_replies.proofs.OneReply.{one_to_check, one_to_shape, one_to_rename, one_to_batch, one_to_sample}
use Rattle.command_replies.proofs.Undoing.{list_project}

-- ---- a reply over files that a folder loads as

module _ (held : FileMap) (files : FileSet) (loads : loaded held ≡ Ok files) (reply other : Reply) where
  check_done : SaysCheck held reply → SaysChecked files other → other.status ≡ Done → reply.status ≡ Done
  check_done s a d = ap (λ (r : Reply). r.status) (one_to_check held reply other s (over files loads a)) ∙ d

  shape_done : (target : Target) → SaysShape target held reply → SaysShown target files other → other.status ≡ Done → reply.status ≡ Done
  shape_done target s a d = ap (λ (r : Reply). r.status) (one_to_shape target held reply other s (over files loads a)) ∙ d

  rename_done : (target : Target) (name : List ℕ) (writing : Writing) (json : Bool) → SaysRename target name writing json held reply
      → MayWrite (is_writing writing) held → SaysRenaming target name writing json files other → other.status ≡ Done → reply.status ≡ Done
  rename_done target name writing json s may a d =
      ap (λ (r : Reply). r.status) (one_to_rename target name writing json held reply other s (over files loads (permitted may a))) ∙ d

  batch_done : (file : List ℕ) (write : Bool) → SaysBatch file write held reply → MayWrite write held
      → SaysFound file write (batch_in held file) files other → other.status ≡ Done → reply.status ≡ Done
  batch_done file write s may a d =
      ap (λ (r : Reply). r.status) (one_to_batch file write held reply other s (over files loads (permitted may a))) ∙ d

-- ---- sample and recover

sample_done : (units : ℕ) (report : SampleReport) (reply : Reply) → SaysSample units reply → Samples units (Ok report) → reply.status ≡ Done
sample_done units report reply s is =
    ap (λ (r : Reply). r.status) (one_to_sample units reply (silent_reply false [] (outcome.Sampled report)) s (Ok report, is, refl))

recovery_done : (held : FileMap) (reply : Reply) → SaysRecovery held reply → (IsLost held → ⊥) → reply.status ≡ Done
recovery_done held reply (idle shut e) n = ap (λ (r : Reply). r.status) e
recovery_done held reply (finished files o p e) n = ap (λ (r : Reply). r.status) e
recovery_done held reply (lost l e) n = absurd (n l)

module _ (laws : HasLaws) where
  -- two answers of one list are one
  no_error : (held : FileMap) (name : List ℕ) (files : FileSet) (error : ListError) → Lists held name (Ok files) → Lists held name (Err error) → ⊥
  no_error held name files error l m =
      let wrong : ◌≡◌ {A = Result FileSet ListError} (Ok files) (Err error) = laws.lists held name (Ok files) (Err error) l m in cc

  one_list : (held : FileMap) (name : List ℕ) (files other : FileSet) → Lists held name (Ok files) → Lists held name (Ok other) → other ≡ files
  one_list held name files other l m =
      let same : ◌≡◌ {A = Result FileSet ListError} (Ok other) (Ok files) = laws.lists held name (Ok other) (Ok files) m l in cc

  yes_done : (names : List (List ℕ)) (answer : Result Verdict Refusal) (reply : Reply) → IsYesAnswer answer → reply ≡ judged_reply names answer
      → reply.status ≡ Done
  yes_done names (Ok (Yes changes)) reply y e = ap (λ (r : Reply). r.status) e
  yes_done names (Ok (No why)) reply y e = absurd y
  yes_done names (Err why) reply y e = absurd y

  -- the reply to `verify` of a valid respelling is done
  valid_done : (held : FileMap) (old_name new_name : List ℕ) (reply : Reply) → SaysVerify old_name new_name held reply → (old new : FileSet)
      → Lists held old_name (Ok old) → Lists held new_name (Ok new) → IsValidRespelling old new → reply.status ≡ Done
  valid_done held old_name new_name reply (no_list error l h) old new f g v = absurd (no_error held old_name old error f l)
  valid_done held old_name new_name reply (listed files l s) old new f g v =
      by (subst (λ (x : FileSet). SaysAgainst x new_name held reply) (one_list held old_name old files f l) s)
    where
      by : SaysAgainst old new_name held reply → reply.status ≡ Done
      by (unlisted error m h) = absurd (no_error held new_name new error g m)
      by (judged other m j) = judged_done (subst (λ (x : FileSet). IsJudged old x reply) (one_list held new_name new other g m) j) where
        judged_done : IsJudged old new reply → reply.status ≡ Done
        judged_done (answer, d, e) =
            yes_done (names_of old.entries) answer reply
            (laws.verified_all old new answer (list_project laws held old_name old f) (list_project laws held new_name new g) v d) e

  by_accepted : (request : Option Command) (held : FileMap) (reply : Reply) → Says request held reply → IsAccepted request held → reply.status ≡ Done
  unfolding Says
  by_accepted None held reply s a = absurd a
  by_accepted (Some command.Check) held reply s a =
      check_done held a.files a.loads reply (silent_reply false (names_of a.files.entries) (outcome.Checked a.counts)) s (Ok a.counts, a.checks, refl)
      refl
  by_accepted (Some (command.Shape target)) held reply s a =
      shape_done held a.files a.loads reply (silent_reply false (names_of a.files.entries) (outcome.Shown a.shown)) target s
      (Ok a.shown, a.shows, refl) refl
  by_accepted (Some (command.Rename target name write safe json)) held reply s a =
      rename_done held a.files a.loads reply (renamed_reply (writing_of write safe) json (names_of a.files.entries) a.done) target name
      (writing_of write safe) json s a.may (Ok a.done, a.renames, refl) refl
  by_accepted (Some (command.Sample units)) held reply s a = sample_done units a.report reply s a.samples
  by_accepted (Some (command.Verify old new)) held reply s a = valid_done held old new reply s a.old a.new a.old_files a.new_files a.valid
  by_accepted (Some (command.Batch file write)) held reply s a =
      batch_done held a.files a.loads reply (batched_reply write (names_of a.files.entries) a.done) file write s a.may
      (runs a.bytes a.steps a.found a.few a.reads (batched a.done a.batches refl)) refl
  by_accepted (Some command.Recover) held reply s a = recovery_done held reply s a

  pub done_if_accepted : (request : Option Command) (held : FileMap) (before now : Seen) (status : Status)
      → SomeReply request held (λ reply. IsAsSaid reply held before now status) → IsDoneIfAccepted request held status
  done_if_accepted request held before now status s = λ accepted. s.2.status ∙ by_accepted request held s.0 s.1 accepted
