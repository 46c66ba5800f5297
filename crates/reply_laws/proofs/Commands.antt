-- There is a reply to a command over the files of a folder.
use Rattle.std.proofs.Common.{◌≡◌, ◌⊎◌, inl, inr, ℕ, ◌<◌, ◌≤◌, List, Bool, true, false, Option, Some, None, Result, Ok, Err, length, refl, sym, ◌∙◌}
use Rattle.std.proofs.lemmas.Bool.{true≢false}
use Rattle.std.specs.FinMap.{get}
use Rattle.rotor_base.specs.Files.{FileSet}
use Rattle.rotor_base.specs.Limits.{max_file_bytes}
use Rattle.rotor_base.specs.Lines.{feed_lines}
use Rattle.rotor_base.specs.declared.refusal.LoadError.{LoadError}
use Rattle.tree_io.specs.Outside.{FileMap}
use Rattle.project_load.specs.Load.{loaded}
use Rattle.apply_journal.specs.Recovered.{IsOpen, gate_name, open_bytes}
use Rattle.rename_batch.specs.declared.error.BatchError.{BatchError}
use Rattle.rename_batch.specs.declared.error.BatchError.TheVariants.{At, Memory}
use Rattle.rename_batch.specs.declared.step.Batched.{Batched}
use Rattle.rename_batch.specs.declared.step.Step.{Step}
use Rattle.rename_batch.specs.Batch.{Batches}
use Rattle.rename_batch.specs.Reading.{IsBadLine, IsBatch}
use Rattle.command_answers.proofs.Batches.{batches_are_answered}
use Rattle.decided_lists.proofs.Known.{Known, bytes_known, within_or_over}
use Rattle.decided_lists.proofs.Steps.{batch_lines_are_decided}
use Rattle.command_replies.specs.Said.{IsBarred, MayWrite, SaysFound, SaysLoaded, SaysPermitted, SaysSteps, pending_reply}
use Rattle.command_replies.specs.Said as said
use Rattle.command_replies.specs.declared.reply.Reply.{Reply}

pub open_known : (held : FileMap) → Known (IsOpen held)
open_known held = by (get held gate_name) refl where
  found : (bytes : List ℕ) → get held gate_name ≡ Some bytes → Known (bytes ≡ open_bytes) → Known (IsOpen held)
  found bytes e (inl same) = inl (e ∙ (λ i. Some (same i)))
  found bytes e (inr n) = inr (λ o. n (let both : Some bytes ≡ Some open_bytes = sym e ∙ o in cc))

  by : (o : Option (List ℕ)) → get held gate_name ≡ o → Known (IsOpen held)
  by None e = inr (λ o. let wrong : None ≡ Some open_bytes = sym e ∙ o in cc)
  by (Some bytes) e = found bytes e (bytes_known bytes open_bytes)

-- a command may write, or it writes and the gate is open
permission_known : (writes : Bool) (held : FileMap) → MayWrite writes held ⊎ IsBarred writes held
permission_known writes held = by writes refl (open_known held) where
  by : (b : Bool) → writes ≡ b → Known (IsOpen held) → MayWrite writes held ⊎ IsBarred writes held
  by false e o = inl (λ asks. absurd (true≢false (sym asks ∙ e)))
  by true e (inl o) = inr (record { asked = e; opened = o })
  by true e (inr n) = inl (λ asks. n)

-- ---- a folder that loads, or does not

pub loaded_replied : (json : Bool) (P : FileSet → Reply → Type 0) (held : FileMap) → ((files : FileSet) → (reply : Reply) × P files reply)
    → (reply : Reply) × SaysLoaded json P held reply
loaded_replied json P held replied = by (loaded held) refl where
  by : (load : Result FileSet LoadError) → loaded held ≡ load → (reply : Reply) × SaysLoaded json P held reply
  by (Err error) e = (_, said.not_loaded error e refl)
  by (Ok files) e = let r = replied files in (r.0, said.over files e r.1)

pub permitted_replied : (writes json : Bool) (held : FileMap) (P : Reply → Type 0) → ((reply : Reply) × P reply)
    → (reply : Reply) × SaysPermitted writes json held P reply
permitted_replied writes json held P replied = by (permission_known writes held) where
  by : MayWrite writes held ⊎ IsBarred writes held → (reply : Reply) × SaysPermitted writes json held P reply
  by (inl may) = (replied.0, said.permitted may replied.1)
  by (inr barred) = (pending_reply json, said.pends barred refl)

-- ---- a batch

module _ (file : List ℕ) (write : Bool) (files : FileSet) where
  steps_replied : (steps : List Step) → (reply : Reply) × SaysSteps write files steps reply
  steps_replied steps = by (batches_are_answered files steps) where
    by : (answer : Result Batched BatchError) × Batches files steps answer → (reply : Reply) × SaysSteps write files steps reply
    by (Ok done, h) = (_, said.batched done h refl)
    by (Err (At step why), h) = (_, said.stopped step why h refl)
    by (Err Memory, h) = absurd h

  bytes_replied : (bytes : List ℕ) → (length bytes ≤ max_file_bytes) ⊎ (max_file_bytes < length bytes)
      → ((steps : List Step) × IsBatch (feed_lines bytes) steps) ⊎ ((number : ℕ) × IsBadLine (feed_lines bytes) number)
      → (reply : Reply) × SaysFound file write (Some bytes) files reply
  bytes_replied bytes (inr over) read = (_, said.large bytes refl over refl)
  bytes_replied bytes (inl few) (inr bad) = (_, said.unread bytes bad.0 refl few bad.1 refl)
  bytes_replied bytes (inl few) (inl batch) =
      let r = steps_replied batch.0 in (r.0, said.runs bytes batch.0 refl few batch.1 r.1)

  pub found_replied : (found : Option (List ℕ)) → (reply : Reply) × SaysFound file write found files reply
  found_replied None = (_, said.lacks refl refl)
  found_replied (Some bytes) = bytes_replied bytes (within_or_over (length bytes) max_file_bytes) (batch_lines_are_decided (feed_lines bytes))
