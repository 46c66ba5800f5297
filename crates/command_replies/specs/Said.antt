-- What the program answers to its words over the files of a folder, and what the folder holds
-- after it (own).
use Rattle.std.specs.Prelude.{ℕ, List, [], ◌≡◌, ◌<◌, ◌≤◌, Bool, true, false, if◌then◌else◌, Option, Some, None, Result, Ok, Err, length}
use Rattle.std.specs.FinMap.{get}
use Rattle.rotor_base.specs.Limits.{max_file_bytes}
use Rattle.rotor_base.specs.Lines.{feed_lines}
use Rattle.rotor_base.specs.Files.{FileSet, names_of}
use Rattle.rotor_base.specs.declared.refusal.LoadError.{LoadError}
use Rattle.rotor_base.specs.declared.refusal.LoadError.TheVariants.{TooLarge}
use Rattle.rotor_base.specs.declared.refusal.Refusal.{Refusal}
use Rattle.rotor_base.specs.declared.refusal.Refusal.TheVariants as refusal
use Rattle.rotor_base.specs.declared.report.Counts.{Counts}
use Rattle.rotor_base.specs.declared.report.FootReport.{FootReport}
use Rattle.rotor_base.specs.declared.report.Renamed.{Renamed}
use Rattle.rotor_base.specs.declared.report.SampleReport.{SampleReport}
use Rattle.rotor_base.specs.declared.report.Outcome.{Outcome}
use Rattle.rotor_base.specs.declared.report.Outcome.TheVariants as outcome
use Rattle.rotor_base.specs.declared.source.SourceFile.{SourceFile}
use Rattle.rotor_base.specs.declared.target.Target.{Target}
use Rattle.tree_io.specs.Outside.{FileMap}
use Rattle.project_load.specs.Load.{loaded}
use Rattle.project_load.specs.Listed.{Lists, is_listed_name}
use Rattle.project_load.specs.declared.error.ListError.{ListError}
use Rattle.project_load.specs.declared.error.ListError.TheVariants as list_error
use Rattle.project_load.specs.Rewritten.{files_at}
use Rattle.apply_journal.specs.Recovered.{IsOpen, HoldsPlan, IsLost, plan_writes, safe_writes}
use Rattle.report.specs.Text.{text_of}
use Rattle.report.specs.Json.{json_of}
use Rattle.report.specs.Batch.{bad_batch_text, stopped_text}
use Rattle.report.specs.Recover.{bad_plan_text, nothing_text, pending_text, recovered_text}
use Rattle.report.specs.Verify.{bad_list_text}
use Rattle.cli_words.specs.declared.command.Command.{Command}
use Rattle.cli_words.specs.declared.command.Command.TheVariants as command
use Rattle.rename_files.specs.Answer.{Checks, Shows, Renames}
use Rattle.rename_batch.specs.declared.error.BatchError.TheVariants.{At}
use Rattle.rename_batch.specs.declared.step.Step.{Step}
use Rattle.rename_batch.specs.declared.step.Batched.{Batched}
use Rattle.rename_batch.specs.Batch.{Batches}
use Rattle.rename_batch.specs.Reading.{IsBatch, IsBadLine}
use Rattle.rename_batch.specs.Text.{batch_text}
use Rattle.rename_verify.specs.declared.verdict.Verdict.{Verdict}
use Rattle.rename_verify.specs.declared.verdict.Verdict.TheVariants.{Yes, No}
use Rattle.rename_verify.specs.Verdict.{Verdicts}
use Rattle.rename_verify.specs.Text.{verdict_text}
use Rattle.sample_project.specs.Sample.{Samples}
use Rattle.command_replies.specs.declared.status.Status.{Status}
use Rattle.command_replies.specs.declared.status.Status.TheVariants.{Done, Refused, Usage, Project, TreeFault, SinkFault, Memory}
use Rattle.command_replies.specs.declared.reply.Reply.{Reply}
use Rattle.command_replies.specs.declared.writing.Writing.{Writing}
use Rattle.command_replies.specs.declared.writing.Writing.TheVariants.{Show, Write, Safe}
use Rattle.command_replies.specs.declared.folder.Opened.{Opened}
use Rattle.command_replies.specs.declared.folder.Opened.TheVariants as opening
use Rattle.command_replies.specs.Writing.{writing_of, is_writing}

-- ---- the reply to an outcome

-- the refusals of a renaming are Refused, and those of a project are Project; want of memory is Memory
abbrev pub status_of_refusal : Refusal → Status
status_of_refusal (refusal.Lex file offset) = Project
status_of_refusal (refusal.LongName file offset) = Project
status_of_refusal (refusal.Form at kind) = Project
status_of_refusal (refusal.Deep at) = Project
status_of_refusal (refusal.Syntax file) = Project
status_of_refusal (refusal.Cycle unit) = Project
status_of_refusal (refusal.Duplicate first again) = Project
status_of_refusal (refusal.Heavy at) = Project
status_of_refusal (refusal.Unmatched item) = Project
status_of_refusal refusal.NoTarget = Refused
status_of_refusal refusal.Operator = Refused
status_of_refusal refusal.BadName = Refused
status_of_refusal refusal.SameName = Refused
status_of_refusal (refusal.Outside at) = Refused
status_of_refusal (refusal.Pun at) = Refused
status_of_refusal (refusal.Blurred at) = Refused
status_of_refusal (refusal.Grown file) = Refused
status_of_refusal (refusal.Clash first again) = Refused
status_of_refusal (refusal.Capture at was would) = Refused
status_of_refusal (refusal.Mislink item was would) = Refused
status_of_refusal refusal.Memory = Memory

abbrev pub status_of : Outcome → Status
status_of (outcome.Done done) = Done
status_of (outcome.Checked counts) = Done
status_of (outcome.Shown shown) = Done
status_of (outcome.Sampled sampled) = Done
status_of (outcome.Refused r) = status_of_refusal r
status_of (outcome.NotLoaded error) = Project
status_of outcome.BadWords = Usage

abbrev pub outcome_text : Bool → List (List ℕ) → Outcome → List ℕ
outcome_text true names o = json_of names o
outcome_text false names o = text_of names o

-- a reply with these writes and this text
abbrev pub reply_of : Status → List SourceFile → List ℕ → Reply
reply_of status writes text = record { status = status; writes = writes; text = text }

-- the reply with the status and the text of an outcome, in files of these names, which writes nothing
abbrev pub silent_reply : Bool → List (List ℕ) → Outcome → Reply
silent_reply json names o = reply_of (status_of o) [] (outcome_text json names o)

abbrev pub usage_reply : Reply
usage_reply = silent_reply false [] outcome.BadWords

-- the reply to a folder or a list that is not taken as a project's files
abbrev pub unloaded_reply : Bool → LoadError → Reply
unloaded_reply json why = silent_reply json [] (outcome.NotLoaded why)

-- the reply to a command that may not write
abbrev pub pending_reply : Bool → Reply
pending_reply json = reply_of Project [] (pending_text json)

-- the writes of a renaming that changes these files: with `--safe` those of a plan, with `--write` the files
abbrev pub writes_of : Writing → List SourceFile → List SourceFile
writes_of Show files = []
writes_of Write files = files
writes_of Safe files = safe_writes files

-- the reply to a renaming that is done, in files of these names
abbrev pub renamed_reply : Writing → Bool → List (List ℕ) → Renamed → Reply
renamed_reply writing json names done =
    reply_of Done (writes_of writing (files_at done.files.entries done.changed)) (outcome_text json names (outcome.Done done))

-- the reply to an answer of `rename`
abbrev pub renaming_reply : Writing → Bool → List (List ℕ) → Result Renamed Refusal → Reply
renaming_reply writing json names (Ok done) = renamed_reply writing json names done
renaming_reply writing json names (Err why) = silent_reply json names (outcome.Refused why)

-- the reply to a batch whose line of this number is bad
abbrev pub bad_batch : ℕ → Reply
bad_batch number = reply_of Project [] (bad_batch_text number)

-- the reply to a batch whose step of this number is refused
abbrev pub stopped_batch : List (List ℕ) → ℕ → Refusal → Reply
stopped_batch names step why = reply_of (status_of_refusal why) [] (stopped_text names step why)

-- the reply to a batch that is done
abbrev pub batched_reply : Bool → List (List ℕ) → Batched → Reply
batched_reply write names batched =
    reply_of Done (if write then files_at batched.files.entries batched.changed else []) (batch_text names batched)

-- the reply to a list whose line of this number is bad
abbrev pub bad_list : List ℕ → ℕ → Reply
bad_list name number = reply_of Project [] (bad_list_text name number)

-- a yes is Done, and a no is Refused
abbrev pub status_of_verdict : Verdict → Status
status_of_verdict (Yes changes) = Done
status_of_verdict (No why) = Refused

-- the reply to an answer of `verify`, in old files of these names
abbrev pub judged_reply : List (List ℕ) → Result Verdict Refusal → Reply
judged_reply names (Ok verdict) = reply_of (status_of_verdict verdict) [] (verdict_text names verdict)
judged_reply names (Err why) = silent_reply false names (outcome.Refused why)

-- ---- what is said of a folder

-- an answer, as an outcome
abbrev pub as_outcome : {A : Type 0} → (A → Outcome) → Result A Refusal → Outcome
as_outcome f (Ok a) = f a
as_outcome f (Err r) = outcome.Refused r

-- the command does not write, or the gate is not open
abbrev pub MayWrite : Bool → FileMap → Type 0
MayWrite writes held = writes ≡ true → IsOpen held → ⊥

-- the command writes, and the gate is open
pub record IsBarred (writes : Bool) (held : FileMap) : Type 0 where
  pub asked : writes ≡ true
  pub opened : IsOpen held

-- whether a command may write, over a folder
abbrev pub Permits : Bool → FileMap → Bool → Type 0
Permits writes held true = MayWrite writes held
Permits writes held false = IsBarred writes held

-- what a command that may write finds in a folder
abbrev pub Finds : Bool → FileMap → Opened → Type 0
Finds writes held (opening.Project files) = (loaded held ≡ Ok files) × MayWrite writes held
Finds writes held opening.Pending = (files : FileSet) × (loaded held ≡ Ok files) × IsBarred writes held
Finds writes held (opening.NotLoaded error) = loaded held ≡ Err error

-- a reply over the files that the folder loads as, or that it is not taken as a project's files
pub data SaysLoaded (json : Bool) (SaysOver : FileSet → Reply → Type 0) (held : FileMap) (reply : Reply) : Type 0 where
  not_loaded : (error : LoadError) → loaded held ≡ Err error → reply ≡ unloaded_reply json error → SaysLoaded json SaysOver held reply
  over : (files : FileSet) → loaded held ≡ Ok files → SaysOver files reply → SaysLoaded json SaysOver held reply

-- a reply of a command that may write, or that the gate is open (Pending)
pub data SaysPermitted (writes json : Bool) (held : FileMap) (SaysWritten : Reply → Type 0) (reply : Reply) : Type 0 where
  pends : IsBarred writes held → reply ≡ pending_reply json → SaysPermitted writes json held SaysWritten reply
  permitted : MayWrite writes held → SaysWritten reply → SaysPermitted writes json held SaysWritten reply

-- ---- check

-- a reply to `check` over the files of a project
abbrev pub SaysChecked : FileSet → Reply → Type 0
SaysChecked files reply = (r : Result Counts Refusal) × Checks files r
    × (reply ≡ silent_reply false (names_of files.entries) (as_outcome outcome.Checked r))

-- a reply to `check`
abbrev pub SaysCheck : FileMap → Reply → Type 0
SaysCheck held reply = SaysLoaded false SaysChecked held reply

-- ---- footprint

-- a reply to `footprint` over the files of a project
abbrev pub SaysShown : Target → FileSet → Reply → Type 0
SaysShown target files reply = (r : Result FootReport Refusal) × Shows files target r
    × (reply ≡ silent_reply false (names_of files.entries) (as_outcome outcome.Shown r))

-- a reply to `footprint`
abbrev pub SaysShape : Target → FileMap → Reply → Type 0
SaysShape target held reply = SaysLoaded false (SaysShown target) held reply

-- ---- rename

-- a reply to `rename` over the files of a project
abbrev pub SaysRenaming : Target → List ℕ → Writing → Bool → FileSet → Reply → Type 0
SaysRenaming target name writing json files reply = (r : Result Renamed Refusal) × Renames files target name r
    × (reply ≡ renaming_reply writing json (names_of files.entries) r)

-- a reply to `rename`
abbrev pub SaysRename : Target → List ℕ → Writing → Bool → FileMap → Reply → Type 0
SaysRename target name writing json held reply =
    SaysLoaded json (λ files. SaysPermitted (is_writing writing) json held (SaysRenaming target name writing json files)) held reply

-- ---- batch

-- the bytes of a batch in a folder: a source and the manifest hold none
abbrev pub batch_in : FileMap → List ℕ → Option (List ℕ)
batch_in held file = if is_listed_name file then None else get held file

-- a reply to a batch of these steps over the files of a project
pub data SaysSteps (write : Bool) (files : FileSet) (steps : List Step) (reply : Reply) : Type 0 where
  stopped : (step : ℕ) (why : Refusal) → Batches files steps (Err (At step why)) → reply ≡ stopped_batch (names_of files.entries) step why
      → SaysSteps write files steps reply
  batched : (done : Batched) → Batches files steps (Ok done) → reply ≡ batched_reply write (names_of files.entries) done
      → SaysSteps write files steps reply

-- a reply to a batch in a file that holds these bytes, over the files of a project
pub data SaysFound (file : List ℕ) (write : Bool) (found : Option (List ℕ)) (files : FileSet) (reply : Reply) : Type 0 where
  lacks : found ≡ None → reply ≡ bad_batch 0 → SaysFound file write found files reply
  large : (bytes : List ℕ) → found ≡ Some bytes → max_file_bytes < length bytes → reply ≡ unloaded_reply false (TooLarge file)
      → SaysFound file write found files reply
  unread : (bytes : List ℕ) (number : ℕ) → found ≡ Some bytes → length bytes ≤ max_file_bytes → IsBadLine (feed_lines bytes) number
      → reply ≡ bad_batch number
      → SaysFound file write found files reply
  runs : (bytes : List ℕ) (steps : List Step) → found ≡ Some bytes → length bytes ≤ max_file_bytes → IsBatch (feed_lines bytes) steps
      → SaysSteps write files steps reply
      → SaysFound file write found files reply

-- a reply to `batch`
abbrev pub SaysBatch : List ℕ → Bool → FileMap → Reply → Type 0
SaysBatch file write held reply =
    SaysLoaded false (λ files. SaysPermitted write false held (SaysFound file write (batch_in held file) files)) held reply

-- ---- recover

-- a reply to `recover`
pub data SaysRecovery (held : FileMap) (reply : Reply) : Type 0 where
  idle : (IsOpen held → ⊥) → reply ≡ reply_of Done [] nothing_text → SaysRecovery held reply
  finished : (files : List SourceFile) → IsOpen held → HoldsPlan held files
      → reply ≡ reply_of Done (plan_writes files) (recovered_text (length files)) → SaysRecovery held reply
  lost : IsLost held → reply ≡ reply_of Project [] bad_plan_text → SaysRecovery held reply

-- ---- verify

-- a reply to a list that gives no project
abbrev pub RefusesList : List ℕ → ListError → Reply → Type 0
RefusesList name list_error.Read reply = ⊥
RefusesList name (list_error.BadList number) reply = reply ≡ bad_list name number
RefusesList name (list_error.Load why) reply = reply ≡ unloaded_reply false why

-- a reply to the verdict on two projects
abbrev pub IsJudged : FileSet → FileSet → Reply → Type 0
IsJudged old new reply = (answer : Result Verdict Refusal) × Verdicts old new answer × (reply ≡ judged_reply (names_of old.entries) answer)

-- a reply to `verify` of these old files and a list of the new ones
pub data SaysAgainst (old : FileSet) (name : List ℕ) (held : FileMap) (reply : Reply) : Type 0 where
  unlisted : (error : ListError) → Lists held name (Err error) → RefusesList name error reply → SaysAgainst old name held reply
  judged : (new : FileSet) → Lists held name (Ok new) → IsJudged old new reply → SaysAgainst old name held reply

-- a reply to `verify` of a list of the old files and a list of the new ones
pub data SaysVerify (old new : List ℕ) (held : FileMap) (reply : Reply) : Type 0 where
  no_list : (error : ListError) → Lists held old (Err error) → RefusesList old error reply → SaysVerify old new held reply
  listed : (files : FileSet) → Lists held old (Ok files) → SaysAgainst files new held reply → SaysVerify old new held reply

-- ---- sample

-- a reply to `sample`, which the number of units decides alone
abbrev pub SaysSample : ℕ → Reply → Type 0
SaysSample units reply = (r : Result SampleReport Refusal) × Samples units r × (reply ≡ silent_reply false [] (as_outcome outcome.Sampled r))

-- ---- all commands

-- what is said to a command over the files of a folder; without a command, the usage
unfoldable pub Says : Option Command → FileMap → Reply → Type 0
Says None held reply = reply ≡ usage_reply
Says (Some command.Check) held reply = SaysCheck held reply
Says (Some (command.Shape target)) held reply = SaysShape target held reply
Says (Some (command.Rename target name write safe json)) held reply = SaysRename target name (writing_of write safe) json held reply
Says (Some (command.Sample units)) held reply = SaysSample units reply
Says (Some (command.Verify old new)) held reply = SaysVerify old new held reply
Says (Some (command.Batch file write)) held reply = SaysBatch file write held reply
Says (Some command.Recover) held reply = SaysRecovery held reply

-- the command of the words does not call the folder
abbrev pub AsksNothing : Option Command → Type 0
AsksNothing None = Unit {0}
AsksNothing (Some command.Check) = ⊥
AsksNothing (Some (command.Shape target)) = ⊥
AsksNothing (Some (command.Rename target name write safe json)) = ⊥
AsksNothing (Some (command.Sample units)) = Unit {0}
AsksNothing (Some (command.Verify old new)) = ⊥
AsksNothing (Some (command.Batch file write)) = ⊥
AsksNothing (Some command.Recover) = ⊥

-- what is said to it, without a folder
unfoldable pub SaysAlone : Option Command → Reply → Type 0
SaysAlone None reply = reply ≡ usage_reply
SaysAlone (Some command.Check) reply = ⊥
SaysAlone (Some (command.Shape target)) reply = ⊥
SaysAlone (Some (command.Rename target name write safe json)) reply = ⊥
SaysAlone (Some (command.Sample units)) reply = SaysSample units reply
SaysAlone (Some (command.Verify old new)) reply = ⊥
SaysAlone (Some (command.Batch file write)) reply = ⊥
SaysAlone (Some command.Recover) reply = ⊥

-- there is a reply that is said here, and it is so
abbrev pub SomeReply : Option Command → FileMap → (Reply → Type 0) → Type 0
SomeReply request files P = (reply : Reply) × Says request files reply × P reply

-- a status that a reply has: files are written only if it is Done
abbrev pub IsReply : Status → List SourceFile → Type 0
IsReply Done writes = Unit {0}
IsReply Refused writes = writes ≡ []
IsReply Project writes = writes ≡ []
IsReply Usage writes = writes ≡ []
IsReply TreeFault writes = ⊥
IsReply SinkFault writes = ⊥
IsReply Memory writes = ⊥

-- the same of a reply to a command, whose status is not Usage
abbrev pub IsCommandStatus : Status → List SourceFile → Type 0
IsCommandStatus Done writes = Unit {0}
IsCommandStatus Refused writes = writes ≡ []
IsCommandStatus Project writes = writes ≡ []
IsCommandStatus Usage writes = ⊥
IsCommandStatus TreeFault writes = ⊥
IsCommandStatus SinkFault writes = ⊥
IsCommandStatus Memory writes = ⊥

abbrev pub IsCommandReply : Reply → Type 0
IsCommandReply reply = IsCommandStatus reply.status reply.writes
