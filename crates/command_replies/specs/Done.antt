-- What holds of a command that is done: what a renaming keeps, that the words of its undo give the
-- old files back, what a footprint and a batch are, what a recovery leaves, and what a yes of
-- `verify` says (own). What is recovered after a stop, and when a command has to be done.
use Rattle.std.specs.Prelude.{◌≡◌, ℕ, ◌≤◌, List, [], ◌∷◌, ◌++◌, ◌≢◌, ◌⊎◌, Bool, true, false, Option, Some, None, IsSome, Ok}
use Rattle.std.specs.Prelude.{codes, length}
use Rattle.std.specs.Global.{Vec}
use Rattle.std.specs.FinMap.{get, insert}
use Rattle.rotor_base.specs.Files.{FileSet, names_of}
use Rattle.rotor_base.specs.Limits.{max_file_bytes}
use Rattle.rotor_base.specs.Lines.{feed_lines}
use Rattle.rotor_base.specs.declared.report.Outcome.TheVariants as outcome
use Rattle.rotor_base.specs.declared.report.Counts.{Counts}
use Rattle.rotor_base.specs.declared.report.FootReport.{FootReport}
use Rattle.rotor_base.specs.declared.report.Renamed.{Renamed}
use Rattle.rotor_base.specs.declared.report.SampleReport.{SampleReport}
use Rattle.rotor_base.specs.declared.target.Target.{Target}
use Rattle.tree_io.specs.Outside.{FileMap}
use Rattle.project_load.specs.Load.{loaded}
use Rattle.project_load.specs.Listed.{Lists, is_listed_name}
use Rattle.tree_io.specs.Writes.{after}
use Rattle.apply_journal.specs.Recovered.{plan_name, gate_name, IsLost, IsOpen, project_in, Recovers}
use Rattle.report.specs.Pieces.{place_text}
use Rattle.report.specs.Lines.{undo_line}
use Rattle.report.specs.Text.{ended}
use Rattle.cli_words.specs.declared.command.Command.{Command}
use Rattle.cli_words.specs.declared.command.Command.TheVariants as command
use Rattle.rename_files.specs.Answer.{Checks, Shows, Renames}
use Rattle.rename_batch.specs.declared.step.Step.{Step}
use Rattle.rename_batch.specs.declared.step.Batched.{Batched}
use Rattle.rename_batch.specs.Batch.{Batches, undo_steps}
use Rattle.rename_batch.specs.Reading.{IsBatch}
use Rattle.rename_batch.specs.Text.{undo_text}
use Rattle.rename_laws.specs.Laws.{AreKept, IsValidFor, KeepsFacts, KeepsRuns, IsLeastFor}
use Rattle.rename_verify.specs.declared.verdict.Verdict.TheVariants.{Yes}
use Rattle.rename_verify.specs.Changed.{Changed}
use Rattle.rename_verify.specs.Verdict.{Verdicts}
use Rattle.rename_verify.specs.Laws.{AreValidlyRespelled, IsValidRespelling}
use Rattle.sample_project.specs.Sample.{Samples}
use Rattle.command_replies.specs.declared.status.Status.{Status}
use Rattle.command_replies.specs.declared.status.Status.TheVariants.{Done}
use Rattle.command_replies.specs.declared.reply.Reply.{Reply}
use Rattle.cli_words.specs.Words.{command_of}
use Rattle.command_replies.specs.declared.writing.Writing.{Writing}
use Rattle.command_replies.specs.declared.writing.Writing.TheVariants.{Write, Safe}
use Rattle.command_replies.specs.Writing.{writing_of, is_writing}
use Rattle.command_replies.specs.Said.{silent_reply, renamed_reply, batched_reply, judged_reply, batch_in, MayWrite, SaysRename, SomeReply}

-- the words `rename PLACE NAME --write`
abbrev pub rename_words : List ℕ → List ℕ → List (List ℕ)
rename_words place name = codes "rename" ∷ place ∷ name ∷ codes "--write" ∷ []

-- the words of the undo of a renaming, in files of these names
abbrev pub undo_of : List (List ℕ) → Renamed → List (List ℕ)
undo_of names done = rename_words (place_text names done.undo_at) done.old

-- the text ends with the line `undo PLACE NAME`
abbrev pub EndsWithUndo : List (List ℕ) → Renamed → Reply → Type 0
EndsWithUndo names done reply = (front : List ℕ) × (reply.text ≡ front ++ ended (undo_line names done.undo_at done.old))

-- the words over the new files are done, and give the old files back
abbrev pub GivesBack : List (List ℕ) → FileMap → Reply → Type 0
GivesBack words held reply =
    SomeReply (command_of words) (after reply.writes held) (λ back. (back.status ≡ Done) × (after back.writes (after reply.writes held) ≡ held))

-- the folders hold the same, but for the plan and the gate
abbrev pub AreSameButForPlan : FileMap → FileMap → Type 0
AreSameButForPlan one other = (name : List ℕ) → name ≢ plan_name → name ≢ gate_name → get one name ≡ get other name

-- the words over the new files are done, and give every old file back
abbrev pub GivesFilesBack : List (List ℕ) → FileMap → Reply → Type 0
GivesFilesBack words held reply =
    SomeReply (command_of words) (after reply.writes held)
    (λ back. (back.status ≡ Done) × AreSameButForPlan held (after back.writes (after reply.writes held)))

-- the folder with these bytes in a file of this name
abbrev pub with_file : List ℕ → List ℕ → FileMap → FileMap
with_file name bytes held = insert held name bytes

-- the batch of these lines, in a file of this name beside the new files, is done, and gives the old files back
abbrev pub GivesBatchBack : List ℕ → List ℕ → FileMap → Reply → Type 0
GivesBatchBack undo lines held reply =
    SomeReply (Some (command.Batch undo true)) (with_file undo lines (after reply.writes held))
    (λ back. (back.status ≡ Done) × (after back.writes (with_file undo lines (after reply.writes held)) ≡ with_file undo lines held))

-- a renaming of the files that a folder loads as is done, and the reply is that of its outcome
pub record IsDone (held : FileMap) (target : Target) (new : List ℕ) (writing : Writing) (json : Bool) (reply : Reply) : Type 0 where
  pub old : FileSet
  pub done : Renamed
  pub loads : loaded held ≡ Ok old
  pub renames : Renames old target new (Ok done)
  pub replied : reply ≡ renamed_reply writing json (names_of old.entries) done
  pub written : is_writing writing ≡ true → loaded (after reply.writes held) ≡ Ok done.files
  pub valid : IsValidFor old done
  pub facts : KeepsFacts old done.files
  pub runs : KeepsRuns old done.files
  pub least : IsLeastFor old done.foot.decls
  pub line : json ≡ false → EndsWithUndo (names_of old.entries) done reply
  pub back : writing ≡ Write → GivesBack (undo_of (names_of old.entries) done) held reply
  pub safe_back : writing ≡ Safe → GivesFilesBack (undo_of (names_of old.entries) done) held reply

-- The footprint of a target in the files that a folder loads as is shown. It is a least one, and if it has a place that is
-- linked with the outside, no valid renaming changes any of it.
pub record IsShown (held : FileMap) (target : Target) (reply : Reply) : Type 0 where
  pub old : FileSet
  pub shown : FootReport
  pub loads : loaded held ≡ Ok old
  pub shows : Shows old target (Ok shown)
  pub replied : reply ≡ silent_reply false (names_of old.entries) (outcome.Shown shown)
  pub least : IsLeastFor old shown.foot.decls
  pub outside : IsSome shown.foot.outside → AreKept old shown.foot.decls

-- A batch over the files that a folder loads as is done, and the reply is its. What the report prints behind `undo ` is a
-- batch of the steps back; in a file of the new folder, which is no source, no manifest and not the gate, and holds no more
-- bytes than a batch may have, it gives the old folder back.
pub record IsBatchDone (held : FileMap) (file : List ℕ) (write : Bool) (reply : Reply) : Type 0 where
  pub old : FileSet
  pub bytes : List ℕ
  pub steps : List Step
  pub done : Batched
  pub loads : loaded held ≡ Ok old
  pub found : batch_in held file ≡ Some bytes
  pub reads : IsBatch (feed_lines bytes) steps
  pub batches : Batches old steps (Ok done)
  pub replied : reply ≡ batched_reply write (names_of old.entries) done
  pub written : write ≡ true → loaded (after reply.writes held) ≡ Ok done.files
  pub undone : (back : Batched) × Batches done.files (undo_steps (names_of done.files.entries) done.undo) (Ok back) × (back.files ≡ old)
  pub asked : IsBatch (feed_lines (undo_text (names_of done.files.entries) done.undo)) (undo_steps (names_of done.files.entries) done.undo)
  pub back : write ≡ true → (undo : List ℕ) → is_listed_name undo ≡ false → undo ≢ gate_name
      → length (undo_text (names_of done.files.entries) done.undo) ≤ max_file_bytes
      → GivesBatchBack undo (undo_text (names_of done.files.entries) done.undo) held reply
  pub runs : steps ≢ [] → KeepsRuns old done.files

-- `verify` is done: its lists give two projects, and the second is a valid respelling of the first, which keeps the runs
pub record IsVerified (held : FileMap) (old_name new_name : List ℕ) (reply : Reply) : Type 0 where
  pub old : FileSet
  pub new : FileSet
  pub changes : Vec Changed
  pub old_files : Lists held old_name (Ok old)
  pub new_files : Lists held new_name (Ok new)
  pub verdict : Verdicts old new (Ok (Yes changes))
  pub replied : reply ≡ judged_reply (names_of old.entries) (Ok (Yes changes))
  pub valid : AreValidlyRespelled old new changes.items
  pub runs : KeepsRuns old new

-- a recovery that is done leaves what is recovered
abbrev pub IsRecoverDone : FileMap → Reply → Type 0
IsRecoverDone held reply = Recovers held (project_in (after reply.writes held))

-- what holds of a reply that is done to a command
abbrev pub IsDoneSo : Option Command → FileMap → Reply → Type 0
IsDoneSo None held reply = Unit {0}
IsDoneSo (Some command.Check) held reply = Unit {0}
IsDoneSo (Some (command.Shape target)) held reply = IsShown held target reply
IsDoneSo (Some (command.Rename target name write safe json)) held reply = IsDone held target name (writing_of write safe) json reply
IsDoneSo (Some (command.Sample units)) held reply = Unit {0}
IsDoneSo (Some (command.Verify old new)) held reply = IsVerified held old new reply
IsDoneSo (Some (command.Batch file write)) held reply = IsBatchDone held file write reply
IsDoneSo (Some command.Recover) held reply = IsRecoverDone held reply

-- ---- what is recovered of the folder that a command left when a write failed

-- after `--safe` the old project or the new one, whole, if the gate was not open
abbrev pub IsRenameRecoverable : Target → List ℕ → Writing → Bool → FileMap → FileMap → Type 0
IsRenameRecoverable target name writing json held now =
    writing ≡ Safe → (IsOpen held → ⊥) → Recovers now (project_in held)
    ⊎ ((reply : Reply) × SaysRename target name writing json held reply
    × ((reply.status ≡ Done) × Recovers now (project_in (after reply.writes held))))

-- after `recover` what would have been recovered before
abbrev pub IsRecoverRepeatable : FileMap → FileMap → Type 0
IsRecoverRepeatable held now = (found : FileSet) → Recovers held found → Recovers now found

-- what is recovered after each command
abbrev pub IsRecoverable : Option Command → FileMap → FileMap → Type 0
IsRecoverable None held now = Unit {0}
IsRecoverable (Some command.Check) held now = Unit {0}
IsRecoverable (Some (command.Shape target)) held now = Unit {0}
IsRecoverable (Some (command.Rename target name write safe json)) held now = IsRenameRecoverable target name (writing_of write safe) json held now
IsRecoverable (Some (command.Sample units)) held now = Unit {0}
IsRecoverable (Some (command.Verify old new)) held now = Unit {0}
IsRecoverable (Some (command.Batch file write)) held now = Unit {0}
IsRecoverable (Some command.Recover) held now = IsRecoverRepeatable held now

-- ---- when a command has to be done (Completeness)

-- the answer of `check` is an Ok
pub record IsCheckAccepted (held : FileMap) : Type 0 where
  pub files : FileSet
  pub counts : Counts
  pub loads : loaded held ≡ Ok files
  pub checks : Checks files (Ok counts)

-- the answer of `footprint` is an Ok
pub record IsShapeAccepted (held : FileMap) (target : Target) : Type 0 where
  pub files : FileSet
  pub shown : FootReport
  pub loads : loaded held ≡ Ok files
  pub shows : Shows files target (Ok shown)

-- the answer of `rename` is an Ok, and the gate does not forbid its writes
pub record IsRenameAccepted (held : FileMap) (target : Target) (name : List ℕ) (writing : Writing) : Type 0 where
  pub files : FileSet
  pub done : Renamed
  pub loads : loaded held ≡ Ok files
  pub may : MayWrite (is_writing writing) held
  pub renames : Renames files target name (Ok done)

-- the answer of `sample` is an Ok
pub record IsSampleAccepted (units : ℕ) : Type 0 where
  pub report : SampleReport
  pub samples : Samples units (Ok report)

-- `check` accepts the first project, and the second is a valid respelling of it
pub record IsVerifyAccepted (held : FileMap) (old_name new_name : List ℕ) : Type 0 where
  pub old : FileSet
  pub new : FileSet
  pub old_files : Lists held old_name (Ok old)
  pub new_files : Lists held new_name (Ok new)
  pub valid : IsValidRespelling old new

-- the answer of `batch` is an Ok, and the gate does not forbid its writes
pub record IsBatchAccepted (held : FileMap) (file : List ℕ) (write : Bool) : Type 0 where
  pub files : FileSet
  pub bytes : List ℕ
  pub steps : List Step
  pub done : Batched
  pub loads : loaded held ≡ Ok files
  pub may : MayWrite write held
  pub found : batch_in held file ≡ Some bytes
  pub few : length bytes ≤ max_file_bytes
  pub reads : IsBatch (feed_lines bytes) steps
  pub batches : Batches files steps (Ok done)

-- there is a plan, or nothing to recover
abbrev pub IsRecoverAccepted : FileMap → Type 0
IsRecoverAccepted held = IsLost held → ⊥

-- the command is accepted
abbrev pub IsAccepted : Option Command → FileMap → Type 0
IsAccepted None held = ⊥
IsAccepted (Some command.Check) held = IsCheckAccepted held
IsAccepted (Some (command.Shape target)) held = IsShapeAccepted held target
IsAccepted (Some (command.Rename target name write safe json)) held = IsRenameAccepted held target name (writing_of write safe)
IsAccepted (Some (command.Sample units)) held = IsSampleAccepted units
IsAccepted (Some (command.Verify old new)) held = IsVerifyAccepted held old new
IsAccepted (Some (command.Batch file write)) held = IsBatchAccepted held file write
IsAccepted (Some command.Recover) held = IsRecoverAccepted held

-- a command that is accepted is done
abbrev pub IsDoneIfAccepted : Option Command → FileMap → Status → Type 0
IsDoneIfAccepted request held status = IsAccepted request held → status ≡ Done
