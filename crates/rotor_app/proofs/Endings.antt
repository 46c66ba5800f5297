-- The table of answers, from how a call ends.
use Rattle.std.proofs.Common.{◌≡◌, ℕ, ◌<◌, ◌⊎◌, inl, inr, List, [], ◌∷◌, ◌++◌, Option, Some, None, option_map, refl, sym, ap, subst, ◌∙◌, arith}
use Rattle.rotor_base.specs.declared.source.SourceFile.{SourceFile}
use Rattle.tree_io.specs.Outside.{FileMap, Rose, Takes}
use Rattle.cli_words.specs.declared.command.Command.{Command}
use Rattle.command_replies.specs.declared.status.Status.{Status}
use Rattle.command_replies.specs.declared.status.Status.TheVariants.{Done, Refused, Usage, Project, TreeFault, SinkFault, Memory}
use Rattle.command_replies.specs.declared.reply.Reply.{Reply}
use Rattle.command_replies.specs.Said.{IsReply, SaysAlone, AsksNothing, SomeReply}
use Rattle.command_replies.specs.Table.{Seen, Ending, unread, wanting, carried, unwritten, unput, IsQuiet, IsAsSaid, IsFault, TreeStopped, SinkStopped}
use Rattle.command_replies.specs.Table.{IsRefusal, AnsweredAlone, CutAlone}
use Rattle.tree_io.specs.Writes.{after, Written, StoppedWriting}

module _ (request : Option Command) (before now : Seen) (tree_same sink_same : Type 0) (status : Status) where
  written_said : (writes : List SourceFile) (files : FileMap) → Written writes before.content now.content → before.content ≡ Some files
      → now.content ≡ Some (after writes files)
  written_said writes files w e = w ∙ ap (option_map (after writes)) e

  -- the status, the files and the text are those of the reply that was carried out
  as_said : (reply : Reply) (files : FileMap) → status ≡ reply.status → Written reply.writes before.content now.content
      → Takes reply.text before.taken now.taken → before.content ≡ Some files
      → IsAsSaid reply files before now status
  as_said reply files s w t e = record { status = s; files = written_said reply.writes files w e; text = t }

  -- what is said, if nothing rose and memory was there
  pub answers : Ending request before now tree_same sink_same status → (files : FileMap) → before.content ≡ Some files → IsQuiet before now
      → (status ≡ Memory → ⊥)
      → SomeReply request files (λ reply. IsAsSaid reply files before now status)
  answers (unread asks s later rose content same rests) files e quiet memory = absurd (quiet.tree rose)
  answers (wanting alone s rests same sink) files e quiet memory = absurd (memory s)
  answers (carried alone reply to s f w took) files e quiet memory = (reply, to.said files e, as_said reply files s w took.taken e)
  answers (unwritten reply to s later rose stopped same rests) files e quiet memory = absurd (quiet.tree rose)
  answers (unput alone reply to s f w failed) files e quiet memory = absurd (quiet.sink failed.rose)

  no_tree_fault : (reply : Reply) → IsReply reply.status reply.writes → reply.status ≡ TreeFault → ⊥
  no_tree_fault reply kind e = subst (λ (s : Status). IsReply s reply.writes) e kind

  no_sink_fault : (reply : Reply) → IsReply reply.status reply.writes → reply.status ≡ SinkFault → ⊥
  no_sink_fault reply kind e = subst (λ (s : Status). IsReply s reply.writes) e kind

  no_memory : (reply : Reply) → IsReply reply.status reply.writes → reply.status ≡ Memory → ⊥
  no_memory reply kind e = subst (λ (s : Status). IsReply s reply.writes) e kind

  -- the call returns the usage only for words that have none of the forms
  pub usage_only : Ending request before now tree_same sink_same status → status ≡ Usage → request ≡ None
  usage_only (unread asks s later rose content same rests) e = let no : TreeFault ≡ Usage = sym s ∙ e in cc
  usage_only (wanting alone s rests same sink) e = let no : Memory ≡ Usage = sym s ∙ e in cc
  usage_only (carried alone reply to s f w took) e = to.usage (sym s ∙ e)
  usage_only (unwritten reply to s later rose stopped same rests) e = let no : TreeFault ≡ Usage = sym s ∙ e in cc
  usage_only (unput alone reply to s f w failed) e = let no : SinkFault ≡ Usage = sym s ∙ e in cc

  nothing_stops : (writes done rest : List SourceFile) (f : SourceFile) → writes ≡ [] → writes ≡ done ++ f ∷ rest → ⊥
  nothing_stops writes [] rest f k e = let no : ◌≡◌ {A = List SourceFile} [] (f ∷ rest) = sym k ∙ e in cc
  nothing_stops writes (d ∷ ds) rest f k e = let no : ◌≡◌ {A = List SourceFile} [] (d ∷ (ds ++ f ∷ rest)) = sym k ∙ e in cc

  done_by : (s : Status) (writes done rest : List SourceFile) (f : SourceFile) → IsReply s writes → writes ≡ done ++ f ∷ rest → s ≡ Done
  done_by Done writes done rest f kind e = refl
  done_by Refused writes done rest f kind e = absurd (nothing_stops writes done rest f kind e)
  done_by Project writes done rest f kind e = absurd (nothing_stops writes done rest f kind e)
  done_by Usage writes done rest f kind e = absurd (nothing_stops writes done rest f kind e)
  done_by TreeFault writes done rest f kind e = absurd kind
  done_by SinkFault writes done rest f kind e = absurd kind
  done_by Memory writes done rest f kind e = absurd kind

  -- if the words need nothing of the folder, it is as it was; a write fails only if they need something
  pub alone_same : (writes_none : (reply : Reply) → SaysAlone request reply → reply.writes ≡ [])
      → Ending request before now tree_same sink_same status → AsksNothing request → tree_same
  alone_same quiet (unread asks s later rose content same rests) a = absurd (asks a)
  alone_same quiet (wanting alone s rests same sink) a = alone a
  alone_same quiet (carried alone reply to s f w took) a = alone a
  alone_same quiet (unwritten reply to s later rose stopped same rests) a =
      absurd (nothing_stops reply.writes stopped.0 stopped.2 stopped.1 (quiet reply (to.alone a)) stopped.4)
  alone_same quiet (unput alone reply to s f w failed) a = alone a

  -- and the words alone decide the reply
  pub alone_said : (writes_none : (reply : Reply) → SaysAlone request reply → reply.writes ≡ [])
      → Ending request before now tree_same sink_same status → AsksNothing request
      → (Rose before.sink_faults now.sink_faults → ⊥) → (status ≡ Memory → ⊥) → AnsweredAlone request before now status
  alone_said none (unread asks s later rose content same rests) a quiet memory = absurd (asks a)
  alone_said none (wanting alone s rests same sink) a quiet memory = absurd (memory s)
  alone_said none (carried alone reply to s f w took) a quiet memory = (reply, to.alone a, s, took.taken)
  alone_said none (unwritten reply to s later rose stopped same rests) a quiet memory =
      absurd (nothing_stops reply.writes stopped.0 stopped.2 stopped.1 (none reply (to.alone a)) stopped.4)
  alone_said none (unput alone reply to s f w failed) a quiet memory = absurd (quiet failed.rose)

  pub alone_cut : Ending request before now tree_same sink_same status → AsksNothing request → status ≡ SinkFault → CutAlone request before now
  alone_cut (unread asks s later rose content same rests) a e = absurd (asks a)
  alone_cut (wanting alone s rests same sink) a e = let no : Memory ≡ SinkFault = sym s ∙ e in cc
  alone_cut (carried alone reply to s f w took) a e = absurd (no_sink_fault reply to.kind (sym s ∙ e))
  alone_cut (unwritten reply to s later rose stopped same rests) a e = let no : TreeFault ≡ SinkFault = sym s ∙ e in cc
  alone_cut (unput alone reply to s f w failed) a e = (reply, to.alone a, failed.taken)

  kept : (m n : ℕ) (P : Type 0) → n ≡ m → m < n → P
  kept m n P e h = absurd (omega arith)

  -- a fault of the folder
  pub tree_fault : Ending request before now tree_same sink_same status → IsFault TreeFault before.faults now.faults status
  tree_fault (unread asks s later rose content same rests) = record { later = later; only = λ e. rose; passed = λ h. s }
  tree_fault (wanting alone s rests same sink) =
      record { later = omega (arith, rests.faults); only = λ e. let no : Memory ≡ TreeFault = sym s ∙ e in cc; passed = kept _ _ _ rests.faults }
  tree_fault (carried alone reply to s f w took) =
      record { later = omega arith; only = λ e. absurd (no_tree_fault reply to.kind (sym s ∙ e)); passed = kept _ _ _ f }
  tree_fault (unwritten reply to s later rose stopped same rests) = record { later = later; only = λ e. rose; passed = λ h. s }
  tree_fault (unput alone reply to s f w failed) =
      record { later = omega arith; only = λ e. let no : SinkFault ≡ TreeFault = sym s ∙ e in cc; passed = kept _ _ _ f }

  -- a fault of the output
  pub sink_fault : Ending request before now tree_same sink_same status → IsFault SinkFault before.sink_faults now.sink_faults status
  sink_fault (unread asks s later rose content same rests) =
      record { later = omega (arith, rests.faults); only = λ e. let no : TreeFault ≡ SinkFault = sym s ∙ e in cc; passed = kept _ _ _ rests.faults }
  sink_fault (wanting alone s rests same sink) =
      record { later = omega (arith, sink.faults); only = λ e. let no : Memory ≡ SinkFault = sym s ∙ e in cc; passed = kept _ _ _ sink.faults }
  sink_fault (carried alone reply to s f w took) =
      record { later = omega (arith, took.faults); only = λ e. absurd (no_sink_fault reply to.kind (sym s ∙ e)); passed = kept _ _ _ took.faults }
  sink_fault (unwritten reply to s later rose stopped same rests) =
      record { later = omega (arith, rests.faults); only = λ e. let no : TreeFault ≡ SinkFault = sym s ∙ e in cc; passed = kept _ _ _ rests.faults }
  sink_fault (unput alone reply to s f w failed) = record { later = failed.later; only = λ e. failed.rose; passed = λ h. s }

  -- a folder that failed, and want of memory, put nothing
  pub quiet_sink : Ending request before now tree_same sink_same status → (status ≡ TreeFault) ⊎ (status ≡ Memory) → sink_same
  quiet_sink (unread asks s later rose content same rests) e = same
  quiet_sink (wanting alone s rests same sink) e = same
  quiet_sink (carried alone reply to s f w took) (inl e) = absurd (no_tree_fault reply to.kind (sym s ∙ e))
  quiet_sink (carried alone reply to s f w took) (inr e) = absurd (no_memory reply to.kind (sym s ∙ e))
  quiet_sink (unwritten reply to s later rose stopped same rests) e = same
  quiet_sink (unput alone reply to s f w failed) (inl e) = let no : SinkFault ≡ TreeFault = sym s ∙ e in cc
  quiet_sink (unput alone reply to s f w failed) (inr e) = let no : SinkFault ≡ Memory = sym s ∙ e in cc

  -- what a folder that failed holds
  pub tree_stopped : Ending request before now tree_same sink_same status → status ≡ TreeFault → (files : FileMap) → before.content ≡ Some files
      → TreeStopped request files now.content
  tree_stopped (unread asks s later rose content same rests) e files held = inl (content ∙ held)
  tree_stopped (wanting alone s rests same sink) e files held = let no : Memory ≡ TreeFault = sym s ∙ e in cc
  tree_stopped (carried alone reply to s f w took) e files held = absurd (no_tree_fault reply to.kind (sym s ∙ e))
  tree_stopped (unwritten reply to s later rose stopped same rests) e files held =
      let done : reply.status ≡ Done = done_by reply.status reply.writes stopped.0 stopped.2 stopped.1 to.kind stopped.4 in
      inr (reply, to.said files held, (done, subst (λ (c : Option FileMap). StoppedWriting reply.writes c now.content) held stopped))
  tree_stopped (unput alone reply to s f w failed) e files held = let no : SinkFault ≡ TreeFault = sym s ∙ e in cc

  -- what an output that failed leaves
  pub sink_stopped : Ending request before now tree_same sink_same status → status ≡ SinkFault → (files : FileMap) → before.content ≡ Some files
      → SomeReply request files (λ reply. SinkStopped reply files before now)
  sink_stopped (unread asks s later rose content same rests) e files held = let no : TreeFault ≡ SinkFault = sym s ∙ e in cc
  sink_stopped (wanting alone s rests same sink) e files held = let no : Memory ≡ SinkFault = sym s ∙ e in cc
  sink_stopped (carried alone reply to s f w took) e files held = absurd (no_sink_fault reply to.kind (sym s ∙ e))
  sink_stopped (unwritten reply to s later rose stopped same rests) e files held = let no : TreeFault ≡ SinkFault = sym s ∙ e in cc
  sink_stopped (unput alone reply to s f w failed) e files held =
      (reply, to.said files held, record { files = written_said reply.writes files w held; text = failed.taken })

  unwritten_at : (s : Status) (writes : List SourceFile) (b n : Option FileMap) → IsReply s writes → IsRefusal s → Written writes b n → n ≡ b
  unwritten_at s writes b n kind refusal w = same (empty s writes kind refusal) w where
    empty : (s : Status) (writes : List SourceFile) → IsReply s writes → IsRefusal s → writes ≡ []
    empty Done writes kind refusal = absurd refusal
    empty Refused writes kind refusal = kind
    empty Project writes kind refusal = kind
    empty Usage writes kind refusal = kind
    empty TreeFault writes kind refusal = absurd kind
    empty SinkFault writes kind refusal = absurd kind
    empty Memory writes kind refusal = absurd kind

    nothing : (b : Option FileMap) → option_map (after []) b ≡ b
    nothing None = refl
    nothing (Some files) = refl

    same : writes ≡ [] → Written writes b n → n ≡ b
    same e w = w ∙ ap (λ (ws : List SourceFile). option_map (after ws) b) e ∙ nothing b

  -- a refusal and want of memory leave the folder as it was
  pub unchanged : Ending request before now tree_same sink_same status → IsRefusal status → now.content ≡ before.content
  unchanged (unread asks s later rose content same rests) h = content
  unchanged (wanting alone s rests same sink) h = rests.content
  unchanged (carried alone reply to s f w took) h = unwritten_at reply.status reply.writes before.content now.content to.kind (subst IsRefusal s h) w
  unchanged (unwritten reply to s later rose stopped same rests) h = absurd (subst IsRefusal s h)
  unchanged (unput alone reply to s f w failed) h = absurd (subst IsRefusal s h)

  -- a call that is done carried out a reply that is done
  pub done_said : Ending request before now tree_same sink_same status → status ≡ Done → (files : FileMap) → before.content ≡ Some files
      → SomeReply request files (λ reply. IsAsSaid reply files before now status × (reply.status ≡ Done))
  done_said (unread asks s later rose content same rests) e files held = let no : TreeFault ≡ Done = sym s ∙ e in cc
  done_said (wanting alone s rests same sink) e files held = let no : Memory ≡ Done = sym s ∙ e in cc
  done_said (carried alone reply to s f w took) e files held = (reply, to.said files held, (as_said reply files s w took.taken held, sym s ∙ e))
  done_said (unwritten reply to s later rose stopped same rests) e files held = let no : TreeFault ≡ Done = sym s ∙ e in cc
  done_said (unput alone reply to s f w failed) e files held = let no : SinkFault ≡ Done = sym s ∙ e in cc
