-- How a run over what was read ends, from the clauses of the program over any folder.
use Rattle.std.proofs.Common.{◌≡◌, ◌⊎◌, inl, inr, ℕ, zero, suc, ◌<◌, List, Option, Some, None, true, is_some, refl, sym, ap, subst, ◌∙◌, arith}
use Rattle.std.specs.Option.{ForSome}
use Rattle.tree_io.specs.Writes.{after}
use Rattle.known.specs.Known.{files_of}
use Rattle.tree_io.specs.Outside.{FileMap, Rose}
use Rattle.cli_words.specs.declared.command.Command.{Command}
use Rattle.command_replies.specs.declared.status.Status.{Status}
use Rattle.command_replies.specs.declared.status.Status.TheVariants.{Done, Refused, Usage, Project, TreeFault, SinkFault, Memory}
use Rattle.command_replies.specs.Said.{AsksNothing, SomeReply}
use Rattle.command_replies.specs.Done.{IsDoneSo}
use Rattle.command_replies.specs.Table.{AnsweredAlone, IsAsSaid, IsFault, IsQuiet, Seen, TreeStopped, seen}
use Rattle.rotor_run.specs.Run.{AreFilesOf, IsCarriedOut, IsRun, IsRunOver, IsUnseen}

-- a count from 0 on rose only if the status says so
pub no_rise : (fault status : Status) (before now : ℕ) → before ≡ 0 → IsFault fault before now status → (status ≡ fault → ⊥) → Rose before now → ⊥
no_rise fault status before now none h other = λ rose. by rose where
  by : Rose before now → ⊥
  by (inl less) = other (h.passed less)
  by (inr most) = other (h.passed (omega (arith, none, most)))

some_is : {a b : FileMap} → Some a ≡ Some b → a ≡ b
some_is e = cc

-- ---- the map and the folder

-- what was known of a folder whose content is modelled is the folder's
pub held_of : (folder content : Option FileMap) (known : FileMap) → content ≡ folder → AreFilesOf folder (files_of content known)
held_of None content known e = tt
held_of (Some files) content known e = ap (λ (o : Option FileMap). files_of o known) (sym e)

left_of : (left : Option FileMap) (known files : FileMap) → files_of left known ≡ files → AreFilesOf left files
left_of None known files e = tt
left_of (Some held) known files e = e

-- a call that leaves the files leaves the folder
pub same_folder : (one other : Option FileMap) (known_one known_other : FileMap) → is_some one ≡ is_some other
    → Some (files_of one known_one) ≡ Some (files_of other known_other) → one ≡ other
same_folder None None a b s e = refl
same_folder None (Some held) a b s e = cc
same_folder (Some held) None a b s e = cc
same_folder (Some one) (Some other) a b s e = e

whole : (now : Option FileMap) (known : FileMap) → is_some now ≡ true → Some (files_of now known) ≡ now
whole None known e = cc
whole (Some held) known e = refl

-- what a fault of the command leaves
pub stopped_over : (request : Option Command) (folder content now : Option FileMap) (known known_now : FileMap) → content ≡ folder
    → is_some now ≡ is_some content → TreeStopped request (files_of content known) (Some (files_of now known_now))
    → ForSome folder (λ files. TreeStopped request files now)
stopped_over request folder content now known known_now e some h = λ files is.
    let there : content ≡ Some files = e ∙ is in
    let left : Some (files_of now known_now) ≡ now = whole now known_now (some ∙ ap (λ (o : Option FileMap). is_some o) there) in
    subst (λ (f : FileMap). TreeStopped request f now) (ap (λ (o : Option FileMap). files_of o known) there)
    (subst (TreeStopped request (files_of content known)) left h)

-- nothing was written
pub stopped_before : (request : Option Command) (folder now : Option FileMap) → now ≡ folder → ForSome folder (λ files. TreeStopped request files now)
stopped_before request folder now e = λ files is. inl (e ∙ is)

-- ---- how a run ends

module _ (request : Option Command) (folder : Option FileMap) (held left : FileMap) (are : AreFilesOf folder held)
    (tree_before tree_now sink_before sink_now : ℕ) (before now : Option (List ℕ)) where
  abbrev old : Seen
  old = seen tree_before sink_before (Some held) before

  abbrev new : Seen
  new = seen tree_now sink_now (Some left) now

  answered : (status : Status) → (status ≡ Done → ⊥) → SomeReply request held (λ reply. IsAsSaid reply held old new status)
      → SomeReply request held (IsCarriedOut request held left before now status)
  answered status other w = (
    w.0,
    w.1,
    record {
      answered = record { status = w.2.status; text = w.2.text; done = λ e. absurd (other e) };
      files = some_is w.2.files;
    },
  )

  finished : (status : Status) → SomeReply request held (λ reply. IsAsSaid reply held old new status × IsDoneSo request held reply)
      → SomeReply request held (IsCarriedOut request held left before now status)
  finished status w = (
    w.0,
    w.1,
    record {
      answered = record { status = w.2.0.status; text = w.2.0.text; done = λ e. w.2.1 };
      files = some_is w.2.0.files;
    },
  )

  -- the clauses of the program over a folder whose content is known
  pub over_known : (status : Status) → tree_before ≡ 0 → sink_before ≡ 0 → IsFault TreeFault tree_before tree_now status
      → IsFault SinkFault sink_before sink_now status
      → (IsQuiet old new → (status ≡ Memory → ⊥) → SomeReply request held (λ reply. IsAsSaid reply held old new status))
      → (status ≡ Done → SomeReply request held (λ reply. IsAsSaid reply held old new status × IsDoneSo request held reply))
      → IsRunOver request folder left before now status
  over_known Done t s tf sf answer renamed = inr (held, are, finished Done (renamed refl))
  over_known Refused t s tf sf answer renamed = inr (
    held,
    are,
    answered Refused (λ e. cc) (answer (record {
      tree = no_rise TreeFault Refused tree_before tree_now t tf (λ e. cc);
      sink = no_rise SinkFault Refused sink_before sink_now s sf (λ e. cc);
    }) (λ e. cc)),
  )
  over_known Usage t s tf sf answer renamed = inr (
    held,
    are,
    answered Usage (λ e. cc) (answer (record {
      tree = no_rise TreeFault Usage tree_before tree_now t tf (λ e. cc);
      sink = no_rise SinkFault Usage sink_before sink_now s sf (λ e. cc);
    }) (λ e. cc)),
  )
  over_known Project t s tf sf answer renamed = inr (
    held,
    are,
    answered Project (λ e. cc) (answer (record {
      tree = no_rise TreeFault Project tree_before tree_now t tf (λ e. cc);
      sink = no_rise SinkFault Project sink_before sink_now s sf (λ e. cc);
    }) (λ e. cc)),
  )
  over_known TreeFault t s tf sf answer renamed = inl (inl refl)
  over_known SinkFault t s tf sf answer renamed = inl (inr (inl refl))
  over_known Memory t s tf sf answer renamed = inl (inr (inr refl))

zero_or_more : (n : ℕ) → (n ≡ 0) ⊎ (0 < n)
zero_or_more zero = inl refl
zero_or_more (suc n) = inr (omega arith)

-- the count of a folder that did not fail is still 0
pub still_zero : (fault status : Status) (before now : ℕ) → before ≡ 0 → IsFault fault before now status → (status ≡ fault → ⊥) → now ≡ 0
still_zero fault status before now none h other = by (zero_or_more now) where
  by : (now ≡ 0) ⊎ (0 < now) → now ≡ 0
  by (inl e) = e
  by (inr less) = absurd (other (h.passed (omega (arith, none, less))))

-- a run over what was read is a run
pub as_run : (request : Option Command) (folder left : Option FileMap) (known : FileMap) (before now : Option (List ℕ)) (status : Status)
    → IsRunOver request folder (files_of left known) before now status → IsRun request folder left before now status
as_run request folder left known before now status (inl stopped) = inl stopped
as_run request folder left known before now status (inr w) = inr (inr (
  w.0,
  w.1,
  (
    w.2.0,
    w.2.1,
    record { answered = w.2.2.answered; files = left_of left known (after w.2.0.writes w.0) w.2.2.files },
  ),
))

-- the run ended before the command ran
pub unseen_run : (request : Option Command) (folder left : Option FileMap) (before now : Option (List ℕ)) (status : Status) → IsUnseen status
    → IsRun request folder left before now status
unseen_run request folder left before now status (inl fault) = inl (inl fault)
unseen_run request folder left before now status (inr memory) = inl (inr (inr memory))

-- words that ask nothing
pub alone_is : (request : Option Command) (before now : Seen) (status : Status) → AsksNothing request → now.content ≡ before.content
    → before.sink_faults ≡ 0 → IsFault SinkFault before.sink_faults now.sink_faults status
    → ((Rose before.sink_faults now.sink_faults → ⊥) → (status ≡ Memory → ⊥) → AnsweredAlone request before now status)
    → IsRun request before.content now.content before.taken now.taken status
alone_is request before now status asks same none h answer = by status h answer where
  said : (s : Status) → AnsweredAlone request before now s → IsRun request before.content now.content before.taken now.taken s
  said s w = inr (inl (w.0, record { asks = asks; said = w.1; status = w.2; text = w.3; files = same }))

  by : (s : Status) → IsFault SinkFault before.sink_faults now.sink_faults s
      → ((Rose before.sink_faults now.sink_faults → ⊥) → (s ≡ Memory → ⊥) → AnsweredAlone request before now s)
      → IsRun request before.content now.content before.taken now.taken s
  by Done h answer = said Done (answer (no_rise SinkFault Done _ _ none h (λ e. cc)) (λ e. cc))
  by Refused h answer = said Refused (answer (no_rise SinkFault Refused _ _ none h (λ e. cc)) (λ e. cc))
  by Usage h answer = said Usage (answer (no_rise SinkFault Usage _ _ none h (λ e. cc)) (λ e. cc))
  by Project h answer = said Project (answer (no_rise SinkFault Project _ _ none h (λ e. cc)) (λ e. cc))
  by TreeFault h answer = inl (inl refl)
  by SinkFault h answer = inl (inr (inl refl))
  by Memory h answer = inl (inr (inr refl))
