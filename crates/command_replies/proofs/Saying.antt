-- The reply to a command is said, and has a status that a reply to a command has.
use Rattle.std.proofs.Common.{◌≡◌, ◌⊎◌, ℕ, ◌+◌, ◌-◌, length, arith, List, [], ◌∷◌, ◌++◌, Bool, true, false, Option, Some}
use Rattle.std.proofs.Common.{None, Result, Ok, Err, IfSome, IfOk, IfErr, OnOk, ◌≢◌, refl, sym, ap, subst, ◌∙◌, inl, inr}
use Rattle.std.specs.List.{cons_option}
use Rattle.rotor_base.specs.Files.{FileSet, names_of}
use Rattle.rotor_base.specs.declared.fault.Memory.{Memory}
use Rattle.rotor_base.specs.declared.source.SourceFile.{SourceFile}
use Rattle.rotor_base.specs.declared.refusal.LoadError.{LoadError}
use Rattle.rotor_base.specs.declared.refusal.Refusal.{Refusal}
use Rattle.rotor_base.specs.declared.refusal.Refusal.TheVariants as refusal
use Rattle.rotor_base.specs.declared.report.Outcome.{Outcome}
use Rattle.rotor_base.specs.declared.report.Outcome.TheVariants as outcome
use Rattle.rotor_base.specs.declared.report.Renamed.{Renamed}
use Rattle.rotor_base.specs.declared.target.Target.{Target}
use Rattle.tree_io.specs.Outside.{FileMap}
use Rattle.tree_io.specs.declared.outside.TreeError.{TreeError}
use Rattle.project_load.specs.Load.{loaded, IsLoad, IsOutside}
use Rattle.apply_journal.specs.Plan.{file_of}
use Rattle.apply_journal.specs.Recovered.{gate_name, plan_writes, IsDue, rests, due}
use Rattle.report.specs.Recover.{recovered_text}
use Rattle.cli_words.specs.declared.command.Command.{Command}
use Rattle.cli_words.specs.declared.command.Command.TheVariants as command
use Rattle.rename_project.specs.Steps.{IsRefusedFor}
use Rattle.command_replies.specs.declared.status.Status.{Status}
use Rattle.command_replies.specs.declared.status.Status.TheVariants.{Done, Refused, Usage, Project, TreeFault, SinkFault, Memory as NoMemory}
use Rattle.command_replies.specs.declared.reply.Reply.{Reply}
use Rattle.command_replies.specs.declared.writing.Writing.{Writing}
use Rattle.command_replies.specs.declared.folder.Opened.{Opened}
use Rattle.command_replies.specs.declared.folder.Opened.TheVariants as opening
use Rattle.tree_io.specs.Writes.{HasRoom}
use Rattle.command_replies.specs.Said.{status_of_refusal, status_of, silent_reply, unloaded_reply, usage_reply, pending_reply, renaming_reply, as_outcome}
use Rattle.command_replies.specs.Said.{Permits, Finds, SaysLoaded, not_loaded, over, SaysPermitted, pends, permitted, SaysChecked, SaysShown, SaysRenaming}
use Rattle.command_replies.specs.Said.{SaysRecovery, finished, reply_of, SaysSample, Says, SaysAlone, AsksNothing}
use Rattle.command_replies.specs.Said.{IsReply, IsCommandStatus, IsCommandReply}
use Rattle.command_replies.proofs.NoMemory.{names_check, names_shown, names_renaming, names_sample}

-- ---- the status of a reply

refusal_status : (r : Refusal) → (status_of_refusal r ≡ Refused) ⊎ ((status_of_refusal r ≡ Project) ⊎ (r ≡ refusal.Memory))
refusal_status (refusal.Lex file offset) = inr (inl refl)
refusal_status (refusal.LongName file offset) = inr (inl refl)
refusal_status (refusal.Form at kind) = inr (inl refl)
refusal_status (refusal.Deep at) = inr (inl refl)
refusal_status (refusal.Syntax file) = inr (inl refl)
refusal_status (refusal.Cycle unit) = inr (inl refl)
refusal_status (refusal.Duplicate first again) = inr (inl refl)
refusal_status (refusal.Heavy at) = inr (inl refl)
refusal_status (refusal.Unmatched item) = inr (inl refl)
refusal_status refusal.NoTarget = inl refl
refusal_status refusal.Operator = inl refl
refusal_status refusal.BadName = inl refl
refusal_status refusal.SameName = inl refl
refusal_status (refusal.Outside at) = inl refl
refusal_status (refusal.Pun at) = inl refl
refusal_status (refusal.Blurred at) = inl refl
refusal_status (refusal.Grown file) = inl refl
refusal_status (refusal.Clash first again) = inl refl
refusal_status (refusal.Capture at was would) = inl refl
refusal_status (refusal.Mislink item was would) = inl refl
refusal_status refusal.Memory = inr (inr refl)

-- want of memory has a status of its own
pub refusal_kind : (r : Refusal) → r ≢ refusal.Memory → IsCommandStatus (status_of_refusal r) []
refusal_kind r other = by (refusal_status r) where
  by : (status_of_refusal r ≡ Refused) ⊎ ((status_of_refusal r ≡ Project) ⊎ (r ≡ refusal.Memory)) → IsCommandStatus (status_of_refusal r) []
  by (inl e) = subst (λ (t : Status). IsCommandStatus t []) (sym e) refl
  by (inr (inl e)) = subst (λ (t : Status). IsCommandStatus t []) (sym e) refl
  by (inr (inr e)) = absurd (other e)

pub no_done_refusal : (r : Refusal) → status_of_refusal r ≡ Done → ⊥
no_done_refusal r d = by (refusal_status r) where
  by : (status_of_refusal r ≡ Refused) ⊎ ((status_of_refusal r ≡ Project) ⊎ (r ≡ refusal.Memory)) → ⊥
  by (inl e) = let no : Refused ≡ Done = sym e ∙ d in cc
  by (inr (inl e)) = let no : Project ≡ Done = sym e ∙ d in cc
  by (inr (inr e)) = let no : NoMemory ≡ Done = sym (ap status_of_refusal e) ∙ d in cc

-- a reply that writes nothing and has an answer's status and text
silent_kind : {A : Type 0} (f : A → Outcome) → ((a : A) → IsCommandStatus (status_of (f a)) []) → (json : Bool) (names : List (List ℕ))
    (r : Result A Refusal) (reply : Reply) → IfErr r (λ why. why ≢ refusal.Memory) → reply ≡ silent_reply json names (as_outcome f r)
    → IsCommandReply reply
silent_kind {A} f done json names r reply named e = subst IsCommandReply (sym e) (by r named) where
  by : (r : Result A Refusal) → IfErr r (λ why. why ≢ refusal.Memory) → IsCommandStatus (status_of (as_outcome f r)) []
  by (Ok a) named = done a
  by (Err why) named = refusal_kind why named

pub checked_kind : (files : FileSet) (reply : Reply) → SaysChecked files reply → IsCommandReply reply
checked_kind files reply (r, h, e) = silent_kind outcome.Checked (λ a. tt) false (names_of files.entries) r reply (names_check files r h) e

pub checked_writes : (files : FileSet) (reply : Reply) → SaysChecked files reply → reply.writes ≡ []
checked_writes files reply (r, h, e) = ap (λ (x : Reply). x.writes) e

pub shown_kind : (target : Target) (files : FileSet) (reply : Reply) → SaysShown target files reply → IsCommandReply reply
shown_kind target files reply (r, h, e) =
    silent_kind outcome.Shown (λ a. tt) false (names_of files.entries) r reply (names_shown files target r h) e

pub shown_writes : (target : Target) (files : FileSet) (reply : Reply) → SaysShown target files reply → reply.writes ≡ []
shown_writes target files reply (r, h, e) = ap (λ (x : Reply). x.writes) e

pub sample_kind : (units : ℕ) (reply : Reply) → SaysSample units reply → IsCommandReply reply
sample_kind units reply (r, h, e) = silent_kind outcome.Sampled (λ a. tt) false [] r reply (names_sample units r h) e

pub sample_writes : (units : ℕ) (reply : Reply) → SaysSample units reply → reply.writes ≡ []
sample_writes units reply (r, h, e) = ap (λ (x : Reply). x.writes) e

pub renaming_kind : (target : Target) (name : List ℕ) (writing : Writing) (json : Bool) (files : FileSet) (reply : Reply)
    → SaysRenaming target name writing json files reply → IsCommandReply reply
renaming_kind target name writing json files reply (r, h, e) = subst IsCommandReply (sym e) (by r (names_renaming files target name r h)) where
  by : (r : Result Renamed Refusal) → IfErr r (λ why. why ≢ refusal.Memory) → IsCommandReply (renaming_reply writing json (names_of files.entries) r)
  by (Ok done) named = tt
  by (Err why) named = refusal_kind why named

-- the kind of a reply to a command is that of a reply, and its status is not Usage
pub command_kind : (result : Result Reply TreeError) → IfOk result IsCommandReply → IfOk result (λ reply. IsReply reply.status reply.writes)
command_kind (Err fault) h = tt
command_kind (Ok reply) h = by reply.status reply.writes h where
  by : (s : Status) (writes : List SourceFile) → IsCommandStatus s writes → IsReply s writes
  by Done writes h = tt
  by Refused writes h = h
  by Project writes h = h
  by Usage writes h = absurd h
  by TreeFault writes h = h
  by SinkFault writes h = h
  by NoMemory writes h = h

pub command_usage : (request : Option Command) (result : Result Reply TreeError) → IfOk result IsCommandReply
    → IfOk result (λ reply. reply.status ≡ Usage → request ≡ None)
command_usage request (Err fault) h = tt
command_usage request (Ok reply) h = λ u. absurd (subst (λ (s : Status). IsCommandStatus s reply.writes) u h)

-- a reply that writes nothing has its room
pub silent_room : (room : List ℕ → ℕ) (result : Result Reply TreeError) → IfOk result (λ reply. reply.writes ≡ [])
    → IfOk result (λ reply. HasRoom room reply.writes)
silent_room room (Err fault) h = tt
silent_room room (Ok reply) h = subst (HasRoom room) (sym h) tt

pub sample_room : (room : List ℕ → ℕ) (units : ℕ) (reply : Reply) → SaysSample units reply → HasRoom room reply.writes
sample_room room units reply h = subst (HasRoom room) (sym (sample_writes units reply h)) tt

-- ---- the reply to an answer, in files of these names

-- an Ok
pub answer_made : {A : Type 0} (P : Result A Refusal → Type 0) (f : List (List ℕ) → Result A Refusal → Reply) (names sources : List (List ℕ)) (a : A)
    (result : Result Reply Memory) → names ≡ sources → P (Ok a) → IfOk result (λ reply. reply ≡ f names (Ok a))
    → IfOk result (λ reply. (r : Result A Refusal) × P r × (reply ≡ f sources r))
answer_made P f names sources a (Err m) same p e = tt
answer_made P f names sources a (Ok reply) same p e = (Ok a, p, e ∙ ap (λ (ns : List (List ℕ)). f ns (Ok a)) same)

-- a refusal other than want of memory
pub refusal_made : {A : Type 0} (P : Result A Refusal → Type 0) (f : List (List ℕ) → Result A Refusal → Reply) (names sources : List (List ℕ))
    (why : Refusal) (answer : Result A Refusal) (result : Result Reply Memory) → names ≡ sources → answer ≡ Err why
    → IfErr answer (IsRefusedFor (λ w. P (Err w))) → OnOk result (why ≢ refusal.Memory) → IfOk result (λ reply. reply ≡ f names (Err why))
    → IfOk result (λ reply. (r : Result A Refusal) × P r × (reply ≡ f sources r))
refusal_made {A} P f names sources why answer (Err m) same a refused other e = tt
refusal_made {A} P f names sources why answer (Ok reply) same a refused other e =
    by (subst (λ (r : Result A Refusal). IfErr r (IsRefusedFor (λ w. P (Err w)))) a refused)
  where
    by : P (Err why) ⊎ (why ≡ refusal.Memory) → (r : Result A Refusal) × P r × (reply ≡ f sources r)
    by (inl p) = (Err why, p, e ∙ ap (λ (ns : List (List ℕ)). f ns (Err why)) same)
    by (inr m) = absurd (other m)

-- ---- what a folder loads as

pub loads_by : (content : Option FileMap) (result : Result FileSet LoadError) (files : FileSet) → result ≡ Ok files
    → IfSome content (λ held. IsLoad held result) → IfSome content (λ held. loaded held ≡ Ok files)
loads_by None result files e h = tt
loads_by (Some held) result files e h = subst (λ (x : Result FileSet LoadError). IsLoad held x) e h

-- a folder that is not taken, if neither it nor memory failed
pub refused_load : (content : Option FileMap) (result : Result FileSet LoadError) (error : LoadError)
    (answer : Result (Result FileSet LoadError) TreeError) → result ≡ Err error → IfSome content (λ held. IsLoad held result)
    → IfOk answer (λ a. a ≡ Err error) → OnOk answer (IsOutside error → ⊥) → IfOk answer (λ a. IfSome content (λ held. loaded held ≡ a))
refused_load content result error (Err fault) e h r inside = tt
refused_load None result error (Ok a) e h r inside = tt
refused_load (Some held) result error (Ok a) e h r inside =
    by (subst (λ (x : Result FileSet LoadError). IsLoad held x) e h) ∙ sym r
  where
    by : IsOutside error ⊎ (loaded held ≡ Err error) → loaded held ≡ Err error
    by (inl out) = absurd (inside out)
    by (inr is) = is

module _ (content : Option FileMap) (writes : Bool) (answer : Result FileSet LoadError) (l : IfSome content (λ held. loaded held ≡ answer)) where
  pub not_loaded_found : (error : LoadError) → answer ≡ Err error → IfSome content (λ held. Finds writes held (opening.NotLoaded error))
  not_loaded_found error e = by content l where
    by : (c : Option FileMap) → IfSome c (λ held. loaded held ≡ answer) → IfSome c (λ held. Finds writes held (opening.NotLoaded error))
    by None l = tt
    by (Some held) l = l ∙ e

  pub project_found : (now : Option FileMap) (may : Bool) (files : FileSet) → answer ≡ Ok files → now ≡ content → may ≡ true
      → IfSome now (λ held. Permits writes held may) → IfSome content (λ held. Finds writes held (opening.Project files))
  project_found now may files e same t p =
      by content may t l (subst (λ (o : Option FileMap). IfSome o (λ held. Permits writes held may)) same p)
    where
      by : (c : Option FileMap) (may : Bool) → may ≡ true → IfSome c (λ held. loaded held ≡ answer) → IfSome c (λ held. Permits writes held may)
          → IfSome c (λ held. Finds writes held (opening.Project files))
      by None may t l p = tt
      by (Some held) true t l p = (l ∙ e, p)
      by (Some held) false t l p = absurd (let no : false ≡ true = t in cc)

  pub pending_found : (now : Option FileMap) (may : Bool) (files : FileSet) → answer ≡ Ok files → now ≡ content → may ≡ false
      → IfSome now (λ held. Permits writes held may) → IfSome content (λ held. Finds writes held opening.Pending)
  pending_found now may files e same t p =
      by content may t l (subst (λ (o : Option FileMap). IfSome o (λ held. Permits writes held may)) same p)
    where
      by : (c : Option FileMap) (may : Bool) → may ≡ false → IfSome c (λ held. loaded held ≡ answer) → IfSome c (λ held. Permits writes held may)
          → IfSome c (λ held. Finds writes held opening.Pending)
      by None may t l p = tt
      by (Some held) true t l p = absurd (let no : true ≡ false = t in cc)
      by (Some held) false t l p = (files, l ∙ e, p)

-- ---- what is said of a folder that loads, or does not

module _ (json : Bool) (P : FileSet → Reply → Type 0) (content : Option FileMap) (answer : Result FileSet LoadError) (reply : Reply)
    (l : IfSome content (λ held. loaded held ≡ answer)) where
  pub said_over : (files : FileSet) → answer ≡ Ok files → P files reply → IfSome content (λ held. SaysLoaded json P held reply)
  said_over files e p = by content l where
    by : (c : Option FileMap) → IfSome c (λ held. loaded held ≡ answer) → IfSome c (λ held. SaysLoaded json P held reply)
    by None l = tt
    by (Some held) l = over files (l ∙ e) p

  pub said_not_loaded : (error : LoadError) → answer ≡ Err error → reply ≡ unloaded_reply json error
      → IfSome content (λ held. SaysLoaded json P held reply)
  said_not_loaded error e r = by content l where
    by : (c : Option FileMap) → IfSome c (λ held. loaded held ≡ answer) → IfSome c (λ held. SaysLoaded json P held reply)
    by None l = tt
    by (Some held) l = not_loaded error (l ∙ e) r

-- and of what a command finds that may write
module _ (json asked writes : Bool) (P : FileMap → FileSet → Reply → Type 0) (content : Option FileMap) (found : Opened) (reply : Reply)
    (same : asked ≡ writes) (f : IfSome content (λ held. Finds asked held found)) where
  abbrev IsSaid : FileMap → Type 0
  IsSaid held = SaysLoaded json (λ files. SaysPermitted writes json held (P held files)) held reply

  finds : (o : Opened) → found ≡ o → IfSome content (λ held. Finds writes held o)
  finds o e =
      subst (λ (w : Bool). IfSome content (λ held. Finds w held o)) same (subst (λ (x : Opened). IfSome content (λ held. Finds asked held x)) e f)

  pub said_written : (files : FileSet) → found ≡ opening.Project files → IfSome content (λ held. P held files reply) → IfSome content IsSaid
  said_written files e p = by content (finds (opening.Project files) e) p where
    by : (c : Option FileMap) → IfSome c (λ held. Finds writes held (opening.Project files)) → IfSome c (λ held. P held files reply) → IfSome c IsSaid
    by None f p = tt
    by (Some held) f p = over files f.0 (permitted f.1 p)

  pub said_pending : found ≡ opening.Pending → reply ≡ pending_reply json → IfSome content IsSaid
  said_pending e r = by content (finds opening.Pending e) where
    by : (c : Option FileMap) → IfSome c (λ held. Finds writes held opening.Pending) → IfSome c IsSaid
    by None f = tt
    by (Some held) f = over f.0 f.1 (pends f.2 r)

  pub said_unloaded : (error : LoadError) → found ≡ opening.NotLoaded error → reply ≡ unloaded_reply json error → IfSome content IsSaid
  said_unloaded error e r = by content (finds (opening.NotLoaded error) e) where
    by : (c : Option FileMap) → IfSome c (λ held. Finds writes held (opening.NotLoaded error)) → IfSome c IsSaid
    by None f = tt
    by (Some held) f = not_loaded error f r

-- the same of a call over the folder, which is as it was
pub said_result : (json writes : Bool) (P : FileMap → FileSet → Reply → Type 0) (content now : Option FileMap) (found : Opened)
    (result : Result Reply TreeError) → now ≡ content → IfSome content (λ held. Finds writes held found) → (files : FileSet)
    → found ≡ opening.Project files → IfOk result (λ reply. IfSome now (λ held. P held files reply))
    → IfOk result (λ reply. IfSome content (λ held. SaysLoaded json (λ fs. SaysPermitted writes json held (P held fs)) held reply))
said_result json writes P content now found (Err fault) same f files e p = tt
said_result json writes P content now found (Ok reply) same f files e p =
    said_written json writes writes P content found reply refl f files e
    (subst (λ (o : Option FileMap). IfSome o (λ held. P held files reply)) same p)

-- what holds over each folder
pub always : (content : Option FileMap) (P : FileMap → Type 0) → ((held : FileMap) → P held) → IfSome content P
always None P h = tt
always (Some held) P h = h held

-- ---- the reply to the words

-- the usage is said to words of no form
pub usage_said : (request : Option Command) (content : Option FileMap) (reply : Reply) → request ≡ None → reply ≡ usage_reply
    → IfSome content (λ held. Says request held reply)
unfolding Says
usage_said request None reply e r = tt
usage_said request (Some held) reply e r = subst (λ (q : Option Command). Says q held reply) (sym e) r

pub usage_alone : (request : Option Command) (reply : Reply) → request ≡ None → reply ≡ usage_reply → SaysAlone request reply
unfolding SaysAlone
usage_alone request reply e r = subst (λ (q : Option Command). SaysAlone q reply) (sym e) r

-- what is said to a command, by what the command is
pub says_as : (content : Option FileMap) (result : Result Reply TreeError) (c k : Command) → c ≡ k
    → IfOk result (λ reply. IfSome content (λ held. Says (Some k) held reply))
    → IfOk result (λ reply. IfSome content (λ held. Says (Some c) held reply))
says_as content result c k e = subst (λ (x : Command). IfOk result (λ reply. IfSome content (λ held. Says (Some x) held reply))) (sym e)

-- `sample`, with a folder and without
pub sample_said : (content : Option FileMap) (c : Command) (units : ℕ) (reply : Reply) → c ≡ command.Sample units → SaysSample units reply
    → IfSome content (λ held. Says (Some c) held reply)
unfolding Says
sample_said None c units reply e h = tt
sample_said (Some held) c units reply e h = subst (λ (x : Command). Says (Some x) held reply) (sym e) h

pub sample_alone : (c : Command) (units : ℕ) (reply : Reply) → c ≡ command.Sample units → SaysSample units reply → SaysAlone (Some c) reply
unfolding SaysAlone
sample_alone c units reply e h = subst (λ (x : Command). SaysAlone (Some x) reply) (sym e) h

-- the answer to the words is that to their command
module _ (request : Option Command) (c : Command) (same : request ≡ Some c) where
  pub command_said : (content : Option FileMap) (result : Result Reply TreeError)
      → IfOk result (λ reply. IfSome content (λ held. Says (Some c) held reply))
      → IfOk result (λ reply. IfSome content (λ held. Says request held reply))
  command_said content result =
      subst (λ (q : Option Command). IfOk result (λ reply. IfSome content (λ held. Says q held reply))) (sym same)

  pub command_alone : (result : Result Reply TreeError) → IfOk result (λ reply. AsksNothing (Some c) → SaysAlone (Some c) reply)
      → IfOk result (λ reply. AsksNothing request → SaysAlone request reply)
  command_alone result = subst (λ (q : Option Command). IfOk result (λ reply. AsksNothing q → SaysAlone q reply)) (sym same)

  pub command_asks : (P : Type 0) → (AsksNothing (Some c) → P) → AsksNothing request → P
  command_asks P = subst (λ (q : Option Command). AsksNothing q → P) (sym same)

-- ---- recover

-- a recovery with something to write
due_writes : (held : FileMap) (found : Option (List SourceFile)) (writes : List SourceFile) (reply : Reply) → found ≡ Some writes → IsDue held found
    → reply ≡ reply_of Done writes (recovered_text (length writes - 1)) → SaysRecovery held reply
due_writes held found writes reply e (rests shut) r = absurd cc
due_writes held found writes reply e (due files o p) r =
    let same : plan_writes files ≡ writes = cc in
    let count : length (plan_writes files) - 1 ≡ length files = one_less files in
    finished files o p (r ∙ ap (λ (ws : List SourceFile). reply_of Done ws (recovered_text (length ws - 1))) (sym same)
    ∙ ap (λ (n : ℕ). reply_of Done (plan_writes files) (recovered_text n)) count)
  where
    one_more : (fs : List SourceFile) (f : SourceFile) → length (fs ++ f ∷ []) ≡ length fs + 1
    one_more [] f = refl
    one_more (g ∷ fs) f = omega (arith, one_more fs f)

    one_less : (fs : List SourceFile) → length (plan_writes fs) - 1 ≡ length fs
    one_less fs = omega (arith, one_more fs (file_of gate_name []))

pub due_said : (content : Option FileMap) (found : Option (List SourceFile)) (writes : List SourceFile) (reply : Reply) → found ≡ Some writes
    → IfSome content (λ held. IsDue held found)
    → reply ≡ reply_of Done writes (recovered_text (length writes - 1)) → IfSome content (λ held. SaysRecovery held reply)
due_said None found writes reply e d r = tt
due_said (Some held) found writes reply e d r = due_writes held found writes reply e d r

-- ---- the files of some numbers

-- a file added, if there is one
pub pushed : (o : Option SourceFile) (found rest : List SourceFile) → (found ++ cons_option o []) ++ rest ≡ found ++ cons_option o rest
pushed None [] rest = refl
pushed (Some f) [] rest = refl
pushed o (g ∷ found) rest = ap (λ (gs : List SourceFile). g ∷ gs) (pushed o found rest)
