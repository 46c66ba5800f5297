-- How a run over a folder ends (own).
use Rattle.std.specs.Prelude.{◌≡◌, ◌⊎◌, ℕ, List, Option, IfSome}
use Rattle.tree_io.specs.Outside.{FileMap, Takes}
use Rattle.tree_io.specs.Writes.{after}
use Rattle.cli_words.specs.declared.command.Command.{Command}
use Rattle.command_replies.specs.declared.status.Status.{Status}
use Rattle.command_replies.specs.declared.status.Status.TheVariants.{Done, TreeFault, SinkFault, Memory}
use Rattle.command_replies.specs.declared.reply.Reply.{Reply}
use Rattle.command_replies.specs.Said.{AsksNothing, SaysAlone, SomeReply}
use Rattle.command_replies.specs.Done.{IsDoneSo}

-- the folder or the output failed, or there was no memory
abbrev pub IsStopped : Status → Type 0
IsStopped status = (status ≡ TreeFault) ⊎ ((status ≡ SinkFault) ⊎ (status ≡ Memory))

-- the folder failed or there was no memory, before the command ran
abbrev pub IsUnseen : Status → Type 0
IsUnseen status = (status ≡ TreeFault) ⊎ (status ≡ Memory)

-- if the content of a folder is modelled, it has these files
abbrev pub AreFilesOf : Option FileMap → FileMap → Type 0
AreFilesOf content held = IfSome content (λ files. files ≡ held)

-- the status and the text are those of the reply, and if the command is done, the clauses of a done command hold
pub record IsAnswered (request : Option Command) (held : FileMap) (before now : Option (List ℕ)) (ended : Status) (reply : Reply) : Type 0 where
  pub status : ended ≡ reply.status
  pub text : Takes reply.text before now
  pub done : ended ≡ Done → IsDoneSo request held reply

-- and the files are those that the writes of the reply leave
pub record IsCarriedOut (request : Option Command) (held left : FileMap) (before now : Option (List ℕ)) (ended : Status) (reply : Reply) : Type
    0 where
  pub answered : IsAnswered request held before now ended reply
  pub files : left ≡ after reply.writes held

-- For a map of what was read, the status, the files and the text are those of the one reply to it; or the folder or the
-- output failed, or there was no memory. If the content of the folder is modelled, the map is the folder's.
abbrev pub IsRunOver : Option Command → Option FileMap → FileMap → Option (List ℕ) → Option (List ℕ) → Status → Type 0
IsRunOver request folder left before now status =
    IsStopped status ⊎ ((held : FileMap) × AreFilesOf folder held × SomeReply request held (IsCarriedOut request held left before now status))

-- the words alone decide the reply, and the folder is as it was
pub record IsAlone (request : Option Command) (folder left : Option FileMap) (before now : Option (List ℕ)) (ended : Status) (reply : Reply) : Type
    0 where
  pub asks : AsksNothing request
  pub said : SaysAlone request reply
  pub status : ended ≡ reply.status
  pub text : Takes reply.text before now
  pub files : left ≡ folder

-- the same as `IsCarriedOut`, for files that are modelled
pub record IsLeft (request : Option Command) (held : FileMap) (left : Option FileMap) (before now : Option (List ℕ)) (ended : Status)
    (reply : Reply) : Type 0 where
  pub answered : IsAnswered request held before now ended reply
  pub files : AreFilesOf left (after reply.writes held)

-- Words that ask nothing decide the reply alone. Else a map of what was read has it; if the content of the folder is
-- modelled, the map is the folder's, and the folder is left with the writes of the reply. Or the run was stopped.
abbrev pub IsRun : Option Command → Option FileMap → Option FileMap → Option (List ℕ) → Option (List ℕ) → Status → Type 0
IsRun request folder left before now status =
    IsStopped status ⊎ (((reply : Reply) × IsAlone request folder left before now status reply)
    ⊎ ((held : FileMap) × AreFilesOf folder held × SomeReply request held (IsLeft request held left before now status)))
