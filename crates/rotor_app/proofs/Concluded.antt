-- How a call ends, by how its parts end.
use Rattle.std.proofs.Common.{◌≡◌, ℕ, ◌≤◌, List, [], length, Option, Some, None, IfSome, Result, Err, refl, ap, subst, ◌∙◌, inl, inr}
use Rattle.tree_io.specs.declared.outside.TreeError.{TreeError}
use Rattle.tree_io.specs.declared.outside.TreeError.TheVariants as variant
use Rattle.tree_io.specs.Outside.{FileMap, Rose, HasCause}
use Rattle.cli_words.specs.declared.command.Command.{Command}
use Rattle.cli_words.specs.declared.command.Command.TheVariants as command
use Rattle.command_replies.specs.declared.status.Status.{Status}
use Rattle.command_replies.specs.declared.status.Status.TheVariants.{Usage, TreeFault, Memory}
use Rattle.command_replies.specs.declared.reply.Reply.{Reply}
use Rattle.command_replies.specs.Said.{IsReply, Says, SaysAlone, AsksNothing}
use Rattle.command_replies.proofs.Saying.{sample_writes}
use Rattle.command_replies.specs.Table.{Seen, seen, Ending, unread, wanting, carried, unwritten, unput, Carried, whole, write_failed, put_failed, IsReplyTo}
use Rattle.command_replies.specs.Table.{IsComplete}

pub failed_rose : {T : Type 0} (before now : ℕ) (r : Result T TreeError) → HasCause before now r → r ≡ Err variant.Failed → Rose before now
failed_rose before now r h e = h.failed e

pub memory_same : {T : Type 0} (before now : ℕ) (r : Result T TreeError) → HasCause before now r → r ≡ Err variant.Memory → now ≡ before
memory_same before now r h e = h.memory e

at_content : (content : Option FileMap) (P : FileMap → Type 0) → IfSome content P → (files : FileMap) → content ≡ Some files → P files
at_content None P h files e = absurd (no e) where
  no : ◌≡◌ {A = Option FileMap} None (Some files) → ⊥
  no e = cc
at_content (Some held) P h files e = subst P (one e) h where
  one : ◌≡◌ {A = Option FileMap} (Some held) (Some files) → held ≡ files
  one e = cc

module _ (request : Option Command) (f0 f1 s : ℕ) (c0 c1 : Option FileMap) (t : Option (List ℕ)) (tree_same sink_same : Type 0) where
  -- a read failed
  pub ends_unread : (AsksNothing request → ⊥) → f0 ≤ f1 → Rose f0 f1 → c1 ≡ c0 → sink_same
      → Ending request (seen f0 s c0 t) (seen f1 s c1 t) tree_same sink_same TreeFault
  ends_unread asks later rose content same = unread asks refl later rose content same (record { faults = refl; taken = refl })

  -- there was no memory
  pub ends_wanting : (AsksNothing request → tree_same) → f1 ≡ f0 → c1 ≡ c0 → sink_same
      → Ending request (seen f0 s c0 t) (seen f1 s c1 t) tree_same sink_same Memory
  ends_wanting alone faults content same = wanting alone refl (record { faults = faults; content = content }) same
      (record { faults = refl; taken = refl })

  -- the reply was carried out, or a write failed, or the put
  pub ends_carried : (now : Seen) (reply : Reply) (status : Status) → (AsksNothing request → tree_same) → IsReply reply.status reply.writes
      → IfSome c0 (λ files. Says request files reply)
      → (AsksNothing request → SaysAlone request reply) → (reply.status ≡ Usage → request ≡ None) → f1 ≡ f0 → c1 ≡ c0
      → Carried reply (seen f1 s c1 t) now sink_same status → Ending request (seen f0 s c0 t) now tree_same sink_same status
  ends_carried now reply status alone kind said by_itself usage ef ec h =
      let same : seen f1 s c1 t ≡ seen f0 s c0 t = ap (λ (f : ℕ). seen f s c1 t) ef ∙ ap (λ (c : Option FileMap). seen f0 s c t) ec in
      let to : IsReplyTo request (seen f0 s c0 t) reply =
      record { kind = kind; said = at_content c0 (λ files. Says request files reply) said; alone = by_itself; usage = usage } in
      carried_by to (subst (λ (m : Seen). Carried reply m now sink_same status) same h)
    where
      carried_by : IsReplyTo request (seen f0 s c0 t) reply → Carried reply (seen f0 s c0 t) now sink_same status
          → Ending request (seen f0 s c0 t) now tree_same sink_same status
      carried_by to (whole s f w p) = carried alone reply to s f w p
      carried_by to (write_failed s l f w p q) = unwritten reply to s l f w p q
      carried_by to (put_failed s f w p) = unput alone reply to s f w p

-- over a folder that does not fail, there was no memory, or the reply is said, and if the output takes it the status is its
pub completes_wanting : (request : Option Command) (content : Option FileMap) (accepts : ℕ → Type 0) → (files : FileMap) → content ≡ Some files
    → IsComplete request files accepts Memory
completes_wanting request content accepts files e = inl refl

pub completes_carried : (request : Option Command) (content : Option FileMap) (accepts : ℕ → Type 0) (reply : Reply) (status : Status)
    → IfSome content (λ files. Says request files reply)
    → (accepts (length reply.text) → status ≡ reply.status) → (files : FileMap) → content ≡ Some files → IsComplete request files accepts status
completes_carried request content accepts reply status said h files e =
    inr (reply, at_content content (λ files. Says request files reply) said files e, h)

-- a reply without a folder writes nothing
pub alone_writes : (request : Option Command) (reply : Reply) → SaysAlone request reply → reply.writes ≡ []
unfolding SaysAlone
alone_writes None reply e = ap (λ (r : Reply). r.writes) e
alone_writes (Some command.Check) reply e = absurd e
alone_writes (Some (command.Shape target)) reply e = absurd e
alone_writes (Some (command.Rename target name write safe json)) reply e = absurd e
alone_writes (Some (command.Sample units)) reply e = sample_writes units reply e
alone_writes (Some (command.Verify old new)) reply e = absurd e
alone_writes (Some (command.Batch file write)) reply e = absurd e
alone_writes (Some command.Recover) reply e = absurd e
