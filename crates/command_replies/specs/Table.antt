-- What a call of the program leaves: the table of its answers (own).
use Rattle.std.specs.Prelude.{◌≡◌, ◌⊎◌, ℕ, ◌<◌, ◌≤◌, List, length, Option, Some, None}
use Rattle.tree_io.specs.Outside.{FileMap, Rose, Takes, TakesPrefix}
use Rattle.cli_words.specs.declared.command.Command.{Command}
use Rattle.command_replies.specs.declared.status.Status.{Status}
use Rattle.command_replies.specs.declared.status.Status.TheVariants.{Done, Refused, Usage, Project, TreeFault, SinkFault, Memory}
use Rattle.command_replies.specs.declared.reply.Reply.{Reply}
use Rattle.command_replies.specs.Said.{IsReply, Says, AsksNothing, SaysAlone, SomeReply}
use Rattle.tree_io.specs.Writes.{after, Written, StoppedWriting}

-- what can be seen of a folder and of an output before a call and after it: the counts of faults, the files, the bytes taken
pub record Seen : Type 0 where
  pub faults : ℕ
  pub sink_faults : ℕ
  pub content : Option FileMap
  pub taken : Option (List ℕ)

-- no count of faults rose in the call
pub record IsQuiet (before now : Seen) : Type 0 where
  pub tree : ¬ (Rose before.faults now.faults)
  pub sink : ¬ (Rose before.sink_faults now.sink_faults)

-- the status, the files and the text are those of the reply
pub record IsAsSaid (reply : Reply) (held : FileMap) (before now : Seen) (ended : Status) : Type 0 where
  pub status : ended ≡ reply.status
  pub files : now.content ≡ Some (after reply.writes held)
  pub text : Takes reply.text before.taken now.taken

-- the call returns the status only if the count rose, and always if the count is greater afterwards
pub record IsFault (fault : Status) (before now : ℕ) (status : Status) : Type 0 where
  pub later : before ≤ now
  pub only : status ≡ fault → Rose before now
  pub passed : before < now → status ≡ fault

-- the folder failed: nothing was written, or the reply is done and a write failed
abbrev pub TreeStopped : Option Command → FileMap → Option FileMap → Type 0
TreeStopped request files now =
    (now ≡ Some files) ⊎ SomeReply request files (λ reply. (reply.status ≡ Done) × StoppedWriting reply.writes (Some files) now)

-- the output failed: the folder is as with the status of the reply, and a prefix of the text was taken
pub record SinkStopped (reply : Reply) (held : FileMap) (before now : Seen) : Type 0 where
  pub files : now.content ≡ Some (after reply.writes held)
  pub text : TakesPrefix reply.text before.taken now.taken

-- the statuses that leave the folder as it was
abbrev pub IsRefusal : Status → Type 0
IsRefusal Done = ⊥
IsRefusal Refused = Unit {0}
IsRefusal Usage = Unit {0}
IsRefusal Project = Unit {0}
IsRefusal TreeFault = ⊥
IsRefusal SinkFault = ⊥
IsRefusal Memory = Unit {0}

abbrev pub seen : ℕ → ℕ → Option FileMap → Option (List ℕ) → Seen
seen faults sink_faults content taken = record { faults = faults; sink_faults = sink_faults; content = content; taken = taken }

-- the folder was not called, or its calls did not fail and changed no file
pub record TreeRests (before now : Seen) : Type 0 where
  pub faults : now.faults ≡ before.faults
  pub content : now.content ≡ before.content

-- the output was not called
pub record SinkRests (before now : Seen) : Type 0 where
  pub faults : now.sink_faults ≡ before.sink_faults
  pub taken : now.taken ≡ before.taken

-- a put was taken whole
pub record SinkTook (text : List ℕ) (before now : Seen) : Type 0 where
  pub faults : now.sink_faults ≡ before.sink_faults
  pub taken : Takes text before.taken now.taken

-- a put failed
pub record SinkFailed (text : List ℕ) (before now : Seen) : Type 0 where
  pub later : before.sink_faults ≤ now.sink_faults
  pub rose : Rose before.sink_faults now.sink_faults
  pub taken : TakesPrefix text before.taken now.taken

-- the reply to a command
pub record IsReplyTo (request : Option Command) (before : Seen) (reply : Reply) : Type 0 where
  pub kind : IsReply reply.status reply.writes
  pub said : (files : FileMap) → before.content ≡ Some files → Says request files reply
  pub alone : AsksNothing request → SaysAlone request reply
  pub usage : reply.status ≡ Usage → request ≡ None

-- How a call of the program ends. `request` is the command of the words; `tree_same` and `sink_same` say that the folder
-- and the output are as they were.
pub data Ending (request : Option Command) (before now : Seen) (tree_same sink_same : Type 0) (status : Status) : Type 0 where
  -- a read failed
  unread : (AsksNothing request → ⊥) → status ≡ TreeFault → before.faults ≤ now.faults → Rose before.faults now.faults → now.content ≡ before.content
      → sink_same → SinkRests before now → Ending request before now tree_same sink_same status
  -- there was no memory
  wanting : (AsksNothing request → tree_same) → status ≡ Memory → TreeRests before now → sink_same → SinkRests before now
      → Ending request before now tree_same sink_same status
  -- the reply was carried out
  carried : (AsksNothing request → tree_same) → (reply : Reply) → IsReplyTo request before reply → status ≡ reply.status → now.faults ≡ before.faults
      → Written reply.writes before.content now.content
      → SinkTook reply.text before now → Ending request before now tree_same sink_same status
  -- a write failed
  unwritten : (reply : Reply) → IsReplyTo request before reply → status ≡ TreeFault → before.faults ≤ now.faults → Rose before.faults now.faults
      → StoppedWriting reply.writes before.content now.content → sink_same → SinkRests before now
      → Ending request before now tree_same sink_same status
  -- the put failed
  unput : (AsksNothing request → tree_same) → (reply : Reply) → IsReplyTo request before reply → status ≡ SinkFault → now.faults ≡ before.faults
      → Written reply.writes before.content now.content
      → SinkFailed reply.text before now → Ending request before now tree_same sink_same status

-- a text was put, and the call ends with this status, or the put failed
pub data Put (text : List ℕ) (wanted : Status) (faults_before faults_now : ℕ) (taken_before taken_now : Option (List ℕ))
    (status : Status) : Type 0 where
  taken : status ≡ wanted → faults_now ≡ faults_before → Takes text taken_before taken_now
      → Put text wanted faults_before faults_now taken_before taken_now status
  failed : status ≡ SinkFault → faults_before ≤ faults_now → Rose faults_before faults_now → TakesPrefix text taken_before taken_now
      → Put text wanted faults_before faults_now taken_before taken_now status

-- a reply was carried out, or a write failed, or the put
pub data Carried (reply : Reply) (before now : Seen) (sink_same : Type 0) (status : Status) : Type 0 where
  whole : status ≡ reply.status → now.faults ≡ before.faults → Written reply.writes before.content now.content → SinkTook reply.text before now
      → Carried reply before now sink_same status
  write_failed : status ≡ TreeFault → before.faults ≤ now.faults → Rose before.faults now.faults
      → StoppedWriting reply.writes before.content now.content → sink_same → SinkRests before now → Carried reply before now sink_same status
  put_failed : status ≡ SinkFault → now.faults ≡ before.faults → Written reply.writes before.content now.content → SinkFailed reply.text before now
      → Carried reply before now sink_same status

-- there was no memory, or there is a reply that is said, and if the output takes its text the status is its
abbrev pub IsComplete : Option Command → FileMap → (ℕ → Type 0) → Status → Type 0
IsComplete request files accepts status = (status ≡ Memory) ⊎ SomeReply request files (λ reply. accepts (length reply.text) → status ≡ reply.status)

-- a reply without a folder was carried out
abbrev pub AnsweredAlone : Option Command → Seen → Seen → Status → Type 0
AnsweredAlone request before now status = (reply : Reply) × SaysAlone request reply × (status ≡ reply.status)
    × Takes reply.text before.taken now.taken

-- a prefix of the text of such a reply was taken
abbrev pub CutAlone : Option Command → Seen → Seen → Type 0
CutAlone request before now = (reply : Reply) × SaysAlone request reply × TakesPrefix reply.text before.taken now.taken
