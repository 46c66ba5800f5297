-- A command over a folder has at most one reply.
use Rattle.std.proofs.Common.{◌≡◌, ◌<◌, ◌≤◌, ℕ, List, [], Bool, false, Option, Some, None, Result, Ok, Err, length, codes, refl}
use Rattle.std.proofs.Common.{sym, ap, subst, ◌∙◌, arith}
use Rattle.std.specs.FinMap.{get}
use Rattle.rotor_base.specs.Files.{FileSet, names_of}
use Rattle.rotor_base.specs.Limits.{max_file_bytes}
use Rattle.rotor_base.specs.Lines.{feed_lines}
use Rattle.rotor_base.specs.declared.refusal.Refusal.{Refusal}
use Rattle.rotor_base.specs.declared.report.Counts.{Counts}
use Rattle.rotor_base.specs.declared.report.FootReport.{FootReport}
use Rattle.rotor_base.specs.declared.report.Outcome.TheVariants as outcome
use Rattle.rotor_base.specs.declared.report.SampleReport.{SampleReport}
use Rattle.rotor_base.specs.declared.source.SourceFile.{SourceFile}
use Rattle.rotor_base.specs.declared.target.Target.{Target}
use Rattle.tree_io.specs.Outside.{FileMap}
use Rattle.project_load.specs.Load.{loaded}
use Rattle.project_load.specs.Listed.{Lists}
use Rattle.project_load.specs.declared.error.ListError.{ListError}
use Rattle.project_load.specs.declared.error.ListError.TheVariants as list_error
use Rattle.project_load.proofs.OneList.{lists_are_one}
use Rattle.apply_journal.specs.Plan.{IsPlan}
use Rattle.apply_journal.specs.Recovered.{plan_name, plan_writes}
use Rattle.apply_journal.proofs.Plans.{plans_one}
use Rattle.cli_words.specs.declared.command.Command.TheVariants as command
use Rattle.report.specs.Recover.{recovered_text}
use Rattle.rename_files.specs.Answer.{Checks, Shows, Renames}
use Rattle.rename_files.proofs.One.{one_check, one_footprint, one_renaming}
use Rattle.rename_batch.specs.declared.error.BatchError.{BatchError}
use Rattle.rename_batch.specs.declared.error.BatchError.TheVariants.{At}
use Rattle.rename_batch.specs.declared.step.Step.{Step}
use Rattle.rename_batch.specs.declared.step.Batched.{Batched}
use Rattle.rename_batch.specs.Reading.{IsBadLine, IsBatch}
use Rattle.rename_batch.proofs.OneReading.{batch_or_bad_line, one_bad_line, one_batch}
use Rattle.rename_batch.proofs.Results.{batches_are_one}
use Rattle.rename_verify.specs.declared.verdict.Verdict.{Verdict}
use Rattle.rename_verify.specs.declared.verdict.Verdict.TheVariants.{Yes, No}
use Rattle.rename_verify.specs.Changed.{Changed}
use Rattle.rename_verify.specs.Laws.{AreSameAnswers}
use Rattle.rename_verify.specs.Text.{yes_text}
use Rattle.rename_verify.proofs.One.{verdicts_are_one}
use Rattle.sample_project.specs.Sample.{Samples, report_of, sample_target}
use Rattle.sample_project.specs.Sources.{sample_files}
use Rattle.command_replies.specs.declared.status.Status.TheVariants.{Done}
use Rattle.command_replies.specs.declared.reply.Reply.{Reply}
use Rattle.command_replies.specs.Laws.{RepliesAreOne}
use Rattle.command_replies.specs.declared.writing.Writing.{Writing}
use Rattle.command_replies.specs.Writing.{is_writing, writing_of}
use Rattle.command_replies.specs.Said.{reply_of, silent_reply, unloaded_reply, renaming_reply, bad_batch, stopped_batch, batched_reply, judged_reply}
use Rattle.command_replies.specs.Said.{as_outcome, SaysLoaded, not_loaded, over, SaysPermitted, pends, permitted, SaysChecked, SaysCheck, SaysShown}
use Rattle.command_replies.specs.Said.{SaysShape, SaysRenaming, SaysRename, batch_in, SaysSteps, stopped, batched, SaysFound, lacks, large, unread, runs}
use Rattle.command_replies.specs.Said.{SaysBatch}
use Rattle.command_replies.specs.Said.{SaysRecovery, idle, finished, lost, RefusesList, IsJudged, SaysAgainst, unlisted, judged}
use Rattle.command_replies.specs.Said.{SaysVerify, no_list, listed, SaysSample, Says}

-- ---- answers of two kinds

same_ok : {A B : Type 0} (x : Result A B) (a b : A) → x ≡ Ok a → x ≡ Ok b → a ≡ b
same_ok {A} {B} x a b h k = let same : ◌≡◌ {A = Result A B} (Ok a) (Ok b) = sym h ∙ k in cc

same_err : {A B : Type 0} (x : Result A B) (a b : B) → x ≡ Err a → x ≡ Err b → a ≡ b
same_err {A} {B} x a b h k = let same : ◌≡◌ {A = Result A B} (Err a) (Err b) = sym h ∙ k in cc

ok_or_err : {A B : Type 0} (x : Result A B) (a : A) (b : B) → x ≡ Ok a → x ≡ Err b → ⊥
ok_or_err {A} {B} x a b h k = let wrong : ◌≡◌ {A = Result A B} (Ok a) (Err b) = sym h ∙ k in cc

same_some : {A : Type 0} (x : Option A) (a b : A) → x ≡ Some a → x ≡ Some b → a ≡ b
same_some {A} x a b h k = let same : ◌≡◌ {A = Option A} (Some a) (Some b) = sym h ∙ k in cc

none_or_some : {A : Type 0} (x : Option A) (a : A) → x ≡ None → x ≡ Some a → ⊥
none_or_some {A} x a h k = let wrong : ◌≡◌ {A = Option A} None (Some a) = sym h ∙ k in cc

-- ---- answers, and folders that load or do not

one_made : {A : Type 0} (P : Result A Refusal → Type 0) (f : Result A Refusal → Reply) → ((a b : Result A Refusal) → P a → P b → a ≡ b)
    → (one other : Reply) → ((r : Result A Refusal) × P r × (one ≡ f r)) → ((r : Result A Refusal) × P r × (other ≡ f r)) → one ≡ other
one_made P f same one other (a, h, e) (b, k, g) = e ∙ ap f (same a b h k) ∙ sym g

one_loaded : (json : Bool) (P : FileSet → Reply → Type 0) (held : FileMap) → ((files : FileSet) (a b : Reply) → P files a → P files b → a ≡ b)
    → (one other : Reply) → SaysLoaded json P held one → SaysLoaded json P held other → one ≡ other
one_loaded json P held same one other (not_loaded error l e) (not_loaded why m f) =
    e ∙ ap (unloaded_reply json) (same_err (loaded held) error why l m) ∙ sym f
one_loaded json P held same one other (not_loaded error l e) (over files m q) = absurd (ok_or_err (loaded held) files error m l)
one_loaded json P held same one other (over files l p) (not_loaded error m f) = absurd (ok_or_err (loaded held) files error l m)
one_loaded json P held same one other (over files l p) (over others m q) =
    same others one other (subst (λ (f : FileSet). P f one) (same_ok (loaded held) files others l m) p) q

one_permitted : (writes json : Bool) (held : FileMap) (P : Reply → Type 0) → ((a b : Reply) → P a → P b → a ≡ b)
    → (one other : Reply) → SaysPermitted writes json held P one → SaysPermitted writes json held P other → one ≡ other
one_permitted writes json held P same one other (pends q e) (pends r f) = e ∙ sym f
one_permitted writes json held P same one other (pends q e) (permitted may p) = absurd (may q.asked q.opened)
one_permitted writes json held P same one other (permitted may p) (pends q f) = absurd (may q.asked q.opened)
one_permitted writes json held P same one other (permitted may p) (permitted might q) = same one other p q

-- ---- check, footprint, rename

pub one_to_check : (held : FileMap) (one other : Reply) → SaysCheck held one → SaysCheck held other → one ≡ other
one_to_check held = one_loaded false SaysChecked held (λ files.
    one_made (Checks files) (λ (r : Result Counts Refusal). silent_reply false (names_of files.entries) (as_outcome outcome.Checked r))
    (one_check files))

pub one_to_shape : (target : Target) (held : FileMap) (one other : Reply) → SaysShape target held one → SaysShape target held other → one ≡ other
one_to_shape target held = one_loaded false (SaysShown target) held (λ files.
    one_made (Shows files target) (λ (r : Result FootReport Refusal). silent_reply false (names_of files.entries) (as_outcome outcome.Shown r))
    (one_footprint files target))

pub one_to_rename : (target : Target) (name : List ℕ) (writing : Writing) (json : Bool) (held : FileMap) (one other : Reply)
    → SaysRename target name writing json held one → SaysRename target name writing json held other → one ≡ other
one_to_rename target name writing json held =
    one_loaded json (λ (files : FileSet). SaysPermitted (is_writing writing) json held (SaysRenaming target name writing json files)) held (λ files.
    one_permitted (is_writing writing) json held (SaysRenaming target name writing json files)
    (one_made (Renames files target name) (renaming_reply writing json (names_of files.entries)) (one_renaming files target name)))

-- ---- batch

module _ (write : Bool) (files : FileSet) where
  one_steps : (steps : List Step) (one other : Reply) → SaysSteps write files steps one → SaysSteps write files steps other → one ≡ other
  one_steps steps one other (stopped n why h e) (stopped m reason k f) =
      let same : ◌≡◌ {A = Result Batched BatchError} (Err (At n why)) (Err (At m reason)) =
      batches_are_one one_renaming files steps (Err (At n why)) (Err (At m reason)) h k in
      let number : n ≡ m = cc in
      let refusal : why ≡ reason = cc in
      e ∙ (λ i. stopped_batch (names_of files.entries) (number i) (refusal i)) ∙ sym f
  one_steps steps one other (stopped n why h e) (batched done k f) =
      absurd (let wrong : ◌≡◌ {A = Result Batched BatchError} (Err (At n why)) (Ok done) =
      batches_are_one one_renaming files steps (Err (At n why)) (Ok done) h k in cc)
  one_steps steps one other (batched done h e) (stopped n why k f) =
      absurd (let wrong : ◌≡◌ {A = Result Batched BatchError} (Ok done) (Err (At n why)) =
      batches_are_one one_renaming files steps (Ok done) (Err (At n why)) h k in cc)
  one_steps steps one other (batched done h e) (batched last k f) =
      let same : done ≡ last = same_ok (Ok done) done last refl (batches_are_one one_renaming files steps (Ok done) (Ok last) h k) in
      e ∙ ap (batched_reply write (names_of files.entries)) same ∙ sym f

  module _ (file : List ℕ) (found : Option (List ℕ)) where
    few_or_many : (b d : List ℕ) → found ≡ Some b → found ≡ Some d → max_file_bytes < length b → length d ≤ max_file_bytes → ⊥
    few_or_many b d h k many few =
        let same = same_some found b d h k in
        let short = subst (λ (l : List ℕ). length l ≤ max_file_bytes) (sym same) few in
        omega (arith, many, short)

    pub one_found : (one other : Reply) → SaysFound file write found files one → SaysFound file write found files other → one ≡ other
    one_found one other (lacks n e) (lacks m f) = e ∙ sym f
    one_found one other (lacks n e) (large d k l f) = absurd (none_or_some found d n k)
    one_found one other (lacks n e) (unread d number k l b f) = absurd (none_or_some found d n k)
    one_found one other (lacks n e) (runs d steps k l b s) = absurd (none_or_some found d n k)
    one_found one other (large d k l e) (lacks n f) = absurd (none_or_some found d n k)
    one_found one other (large d k l e) (large b h m f) = e ∙ sym f
    one_found one other (large d k l e) (unread b number h m w f) = absurd (few_or_many d b k h l m)
    one_found one other (large d k l e) (runs b steps h m w s) = absurd (few_or_many d b k h l m)
    one_found one other (unread d number k l b e) (lacks n f) = absurd (none_or_some found d n k)
    one_found one other (unread d number k l b e) (large a h m f) = absurd (few_or_many a d h k m l)
    one_found one other (unread d number k l b e) (unread a count h m w f) =
        let same = same_some found d a k h in
        let bad = subst (λ (bytes : List ℕ). IsBadLine (feed_lines bytes) number) same b in
        e ∙ ap bad_batch (one_bad_line (feed_lines a) number count bad w) ∙ sym f
    one_found one other (unread d number k l b e) (runs a steps h m w s) =
        let same = same_some found d a k h in
        absurd (batch_or_bad_line (feed_lines a) steps number w (subst (λ (bytes : List ℕ). IsBadLine (feed_lines bytes) number) same b))
    one_found one other (runs d steps k l b s) (lacks n f) = absurd (none_or_some found d n k)
    one_found one other (runs d steps k l b s) (large a h m f) = absurd (few_or_many a d h k m l)
    one_found one other (runs d steps k l b s) (unread a number h m w f) =
        let same = same_some found a d h k in
        absurd (batch_or_bad_line (feed_lines d) steps number b (subst (λ (bytes : List ℕ). IsBadLine (feed_lines bytes) number) same w))
    one_found one other (runs d steps k l b s) (runs a others h m w t) =
        let same = same_some found d a k h in
        let read = subst (λ (bytes : List ℕ). IsBatch (feed_lines bytes) steps) same b in
        one_steps others one other (subst (λ (list : List Step). SaysSteps write files list one) (one_batch (feed_lines a) steps others read w) s) t

pub one_to_batch : (file : List ℕ) (write : Bool) (held : FileMap) (one other : Reply) → SaysBatch file write held one
    → SaysBatch file write held other → one ≡ other
one_to_batch file write held =
    one_loaded false (λ (files : FileSet). SaysPermitted write false held (SaysFound file write (batch_in held file) files)) held (λ files.
    one_permitted write false held (SaysFound file write (batch_in held file) files) (one_found write files file (batch_in held file)))

-- ---- a recovery

pub one_recovery : (held : FileMap) (one other : Reply) → SaysRecovery held one → SaysRecovery held other → one ≡ other
one_recovery held one other (idle shut e) (idle closed f) = e ∙ sym f
one_recovery held one other (idle shut e) (finished files o p f) = absurd (shut o)
one_recovery held one other (idle shut e) (lost l f) = absurd (shut l.opened)
one_recovery held one other (finished files o p e) (idle shut f) = absurd (shut o)
one_recovery held one other (finished files o (b, g, p) e) (finished others q (d, h, r) f) =
    let bytes = same_some (get held plan_name) b d g h in
    let same : files ≡ others = plans_one d files others (subst (λ (x : List ℕ). IsPlan x files) bytes p) r in
    e ∙ ap (λ (fs : List SourceFile). reply_of Done (plan_writes fs) (recovered_text (length fs))) same ∙ sym f
one_recovery held one other (finished files o p e) (lost l f) = absurd (l.none files p)
one_recovery held one other (lost l e) (idle shut f) = absurd (shut l.opened)
one_recovery held one other (lost l e) (finished files o p f) = absurd (l.none files p)
one_recovery held one other (lost l e) (lost m f) = e ∙ sym f

-- ---- two versions

one_refused_list : (name : List ℕ) (error other : ListError) (a b : Reply) → error ≡ other → RefusesList name error a
    → RefusesList name other b → a ≡ b
one_refused_list name error other a b e h k = by other (subst (λ (x : ListError). RefusesList name x a) e h) k where
  by : (x : ListError) → RefusesList name x a → RefusesList name x b → a ≡ b
  by list_error.Read h k = absurd h
  by (list_error.BadList number) h k = h ∙ sym k
  by (list_error.Load why) h k = h ∙ sym k

one_judged : (names : List (List ℕ)) (a b : Result Verdict Refusal) → AreSameAnswers a b → judged_reply names a ≡ judged_reply names b
one_judged names (Ok (Yes a)) (Ok (Yes b)) h =
    ap (λ (list : List Changed). reply_of Done [] (yes_text names list)) h
one_judged names (Ok (Yes a)) (Ok (No b)) h = absurd h
one_judged names (Ok (Yes a)) (Err b) h = absurd h
one_judged names (Ok (No a)) (Ok (Yes b)) h = absurd h
one_judged names (Ok (No a)) (Ok (No b)) h = ap (λ why. judged_reply names (Ok (No why))) h
one_judged names (Ok (No a)) (Err b) h = absurd h
one_judged names (Err a) (Ok b) h = absurd h
one_judged names (Err a) (Err b) h = ap (λ (why : Refusal). judged_reply names (Err why)) h

one_verdict : (old new : FileSet) (a b : Reply) → IsJudged old new a → IsJudged old new b → a ≡ b
one_verdict old new a b (r, h, e) (s, k, f) = e ∙ one_judged (names_of old.entries) r s (verdicts_are_one old new r s h k) ∙ sym f

module _ (held : FileMap) where
  same_files : (name : List ℕ) (a b : FileSet) → Lists held name (Ok a) → Lists held name (Ok b) → a ≡ b
  same_files name a b h k = same_ok (Ok a) a b refl (lists_are_one held name (Ok a) (Ok b) h k)

  same_error : (name : List ℕ) (a b : ListError) → Lists held name (Err a) → Lists held name (Err b) → a ≡ b
  same_error name a b h k = same_err (Err a) a b refl (lists_are_one held name (Err a) (Err b) h k)

  not_both : (name : List ℕ) (a : FileSet) (b : ListError) → Lists held name (Ok a) → Lists held name (Err b) → ⊥
  not_both name a b h k = ok_or_err (Ok a) a b refl (lists_are_one held name (Ok a) (Err b) h k)

  one_against : (old : FileSet) (name : List ℕ) (a b : Reply) → SaysAgainst old name held a → SaysAgainst old name held b → a ≡ b
  one_against old name a b (unlisted error l r) (unlisted other m s) = one_refused_list name error other a b (same_error name error other l m) r s
  one_against old name a b (unlisted error l r) (judged new m s) = absurd (not_both name new error m l)
  one_against old name a b (judged new l r) (unlisted error m s) = absurd (not_both name new error l m)
  one_against old name a b (judged new l r) (judged other m s) =
      one_verdict old other a b (subst (λ (f : FileSet). IsJudged old f a) (same_files name new other l m) r) s

  one_verify : (old new : List ℕ) (a b : Reply) → SaysVerify old new held a → SaysVerify old new held b → a ≡ b
  one_verify old new a b (no_list error l r) (no_list other m s) = one_refused_list old error other a b (same_error old error other l m) r s
  one_verify old new a b (no_list error l r) (listed files m s) = absurd (not_both old files error m l)
  one_verify old new a b (listed files l r) (no_list error m s) = absurd (not_both old files error l m)
  one_verify old new a b (listed files l r) (listed other m s) =
      one_against other new a b (subst (λ (f : FileSet). SaysAgainst f new held a) (same_files old files other l m) r) s

-- ---- samples

one_sample : (n : ℕ) (a b : Result SampleReport Refusal) → Samples n a → Samples n b → a ≡ b
one_sample n (Ok a) (Ok b) (d, h, u, e) (g, k, v, f) =
    ap Ok (e ∙ ap (report_of n) (same_ok (Ok d) d g refl (one_renaming (sample_files n) sample_target (codes "renamed") (Ok d) (Ok g) h k)) ∙ sym f)
one_sample n (Ok a) (Err b) (d, h, u, e) k =
    absurd (ok_or_err (Ok d) d b refl (one_renaming (sample_files n) sample_target (codes "renamed") (Ok d) (Err b) h k))
one_sample n (Err a) (Ok b) h (d, k, u, e) =
    absurd (ok_or_err (Ok d) d a refl (one_renaming (sample_files n) sample_target (codes "renamed") (Ok d) (Err a) k h))
one_sample n (Err a) (Err b) h k =
    ap Err (same_err (Err a) a b refl (one_renaming (sample_files n) sample_target (codes "renamed") (Err a) (Err b) h k))

pub one_to_sample : (units : ℕ) (one other : Reply) → SaysSample units one → SaysSample units other → one ≡ other
one_to_sample units =
    one_made (Samples units) (λ (r : Result SampleReport Refusal). silent_reply false [] (as_outcome outcome.Sampled r)) (one_sample units)

pub replies_are_one : RepliesAreOne
unfolding Says
replies_are_one None held one other h k = h ∙ sym k
replies_are_one (Some command.Check) held one other h k = one_to_check held one other h k
replies_are_one (Some (command.Shape target)) held one other h k = one_to_shape target held one other h k
replies_are_one (Some (command.Rename target name write safe json)) held one other h k =
    one_to_rename target name (writing_of write safe) json held one other h k
replies_are_one (Some (command.Sample units)) held one other h k = one_to_sample units one other h k
replies_are_one (Some (command.Verify old new)) held one other h k = one_verify held old new one other h k
replies_are_one (Some (command.Batch file write)) held one other h k = one_to_batch file write held one other h k
replies_are_one (Some command.Recover) held one other h k = one_recovery held one other h k
