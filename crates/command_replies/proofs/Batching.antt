-- The reply to a batch.
use Rattle.std.proofs.Common.{◌≡◌, ℕ, ◌<◌, ◌≤◌, List, [], Bool, true, false, cond, Option, Some, None, option_map, Result, Ok, Err, IfOk, ◌∷◌}
use Rattle.std.proofs.Common.{◌⊎◌, inl, inr, IfSome, take, length, length-take, refl, sym, ap, subst, ◌∙◌, arith}
use Rattle.std.specs.FinMap.{get}
use Rattle.std.proofs.lemmas.List.{take_all}
use Rattle.rotor_base.specs.Files.{FileSet, names_of}
use Rattle.rotor_base.specs.Lines.{feed_lines}
use Rattle.rotor_base.specs.declared.fault.Memory.{Memory}
use Rattle.rotor_base.specs.declared.refusal.Refusal.{Refusal}
use Rattle.rotor_base.specs.declared.refusal.LoadError.TheVariants.{TooLarge}
use Rattle.tree_io.specs.Outside.{FileMap, IsFront}
use Rattle.project_load.specs.Listed.{is_listed_name}
use Rattle.rename_batch.specs.declared.error.BatchError.{BatchError}
use Rattle.rename_batch.specs.declared.error.BatchError.TheVariants.{At, Memory as NoMemory}
use Rattle.rename_batch.specs.declared.error.BatchReadError.{BatchReadError}
use Rattle.rename_batch.specs.declared.error.BatchReadError.TheVariants.{Line}
use Rattle.rename_batch.specs.declared.step.Step.{Step}
use Rattle.rename_batch.specs.declared.step.Batched.{Batched}
use Rattle.rename_batch.specs.Batch.{Batches, IsFailedFor}
use Rattle.rename_batch.specs.Reading.{AreSteps, IsBatch, IsUnread}
use Rattle.command_replies.specs.declared.reply.Reply.{Reply}
use Rattle.command_replies.specs.Said.{bad_batch, stopped_batch, batched_reply, unloaded_reply, batch_in, IsCommandReply, SaysSteps, stopped, batched}
use Rattle.command_replies.specs.Said.{SaysFound, lacks, large, unread, runs}
use Rattle.command_replies.proofs.NoMemory.{names_stop}
use Rattle.command_replies.proofs.Saying.{refusal_kind}

-- ---- the bytes that are read

pub no_batch : (content : Option FileMap) (file : List ℕ) (holds : Bool) (limit : ℕ) → holds ≡ is_listed_name file → holds ≡ true
    → IfSome content (λ held. ◌≡◌ {A = Option (List ℕ)} None (option_map (take limit) (batch_in held file)))
no_batch None file holds limit e t = tt
no_batch (Some held) file holds limit e t = ap (λ (b : Bool). option_map (take limit) (cond b None (get held file))) (sym (sym e ∙ t))

held_batch : (held : FileMap) (file : List ℕ) (holds : Bool) → holds ≡ is_listed_name file → holds ≡ false → get held file ≡ batch_in held file
held_batch held file holds e t = ap (λ (b : Bool). cond b None (get held file)) (sym (sym e ∙ t))

pub batch_read : (content : Option FileMap) (file : List ℕ) (holds : Bool) (limit : ℕ) (found : Option (List ℕ)) → holds ≡ is_listed_name file
    → holds ≡ false
    → IfSome content (λ held. found ≡ option_map (take limit) (get held file))
    → IfSome content (λ held. found ≡ option_map (take limit) (batch_in held file))
batch_read None file holds limit found e t h = tt
batch_read (Some held) file holds limit found e t h = h ∙ ap (option_map (take limit)) (held_batch held file holds e t)

pub front_read : (content now : Option FileMap) (file bytes : List ℕ) (holds : Bool) → now ≡ content → holds ≡ is_listed_name file → holds ≡ false
    → IfSome now (λ held. IsFront 1048577 (get held file) bytes)
    → IfSome content (λ held. Some bytes ≡ option_map (take 1048577) (batch_in held file))
front_read content now file bytes holds same e t h =
    batch_read content file holds 1048577 (Some bytes) e t
    (turned content (subst (λ (o : Option FileMap). IfSome o (λ held. IsFront 1048577 (get held file) bytes)) same h)) where
      turned : (content : Option FileMap) → IfSome content (λ held. IsFront 1048577 (get held file) bytes)
          → IfSome content (λ held. Some bytes ≡ option_map (take 1048577) (get held file))
      turned None h = tt
      turned (Some held) h = sym h

-- ---- what is said

module _ (file : List ℕ) (write : Bool) (files : FileSet) (reply : Reply) where
  all_of : (whole bytes b : List ℕ) → bytes ≡ take 1048577 whole → Some bytes ≡ Some b → length b ≤ 1048576 → bytes ≡ whole
  all_of whole bytes b e f l =
      let same : b ≡ bytes = cc in
      let short : length whole ≤ 1048577 = omega (arith, l, ap (λ (v : List ℕ). length v) (same ∙ e), length-take 1048577 whole) in
      e ∙ take_all 1048577 whole short

  -- all bytes of a file decide what its first bytes decide
  widened : (whole bytes : List ℕ) → bytes ≡ take 1048577 whole → SaysFound file write (Some bytes) files reply
      → SaysFound file write (Some whole) files reply
  widened whole bytes e (lacks f r) = cc
  widened whole bytes e (large b f l r) = large whole refl (longer b f l) r where
    longer : (b : List ℕ) → Some bytes ≡ Some b → 1048576 < length b → 1048576 < length whole
    longer b f l =
        let same : b ≡ take 1048577 whole = by b f ∙ e in
        omega (arith, l, ap (λ (v : List ℕ). length v) same, length-take 1048577 whole)
      where
        by : (b : List ℕ) → Some bytes ≡ Some b → b ≡ bytes
        by b f = cc
  widened whole bytes e (unread b n f l bad r) = subst (λ (v : List ℕ). SaysFound file write (Some v) files reply) (all_of whole bytes b e f l)
      (unread b n f l bad r)
  widened whole bytes e (runs b steps f l is s) = subst (λ (v : List ℕ). SaysFound file write (Some v) files reply) (all_of whole bytes b e f l)
      (runs b steps f l is s)

  -- the first bytes that are read decide, as all do
  pub said_found : (content : Option FileMap) (found : Option (List ℕ))
      → IfSome content (λ held. found ≡ option_map (take 1048577) (batch_in held file))
      → SaysFound file write found files reply → IfSome content (λ held. SaysFound file write (batch_in held file) files reply)
  said_found None found h s = tt
  said_found (Some held) found h s = by found (batch_in held file) h s where
    by : (found there : Option (List ℕ)) → found ≡ option_map (take 1048577) there → SaysFound file write found files reply
        → SaysFound file write there files reply
    by None None e s = s
    by None (Some whole) e s = cc
    by (Some bytes) None e s = cc
    by (Some bytes) (Some whole) e s = widened whole bytes (one e) s where
      one : Some bytes ≡ Some (take 1048577 whole) → bytes ≡ take 1048577 whole
      one e = cc

-- ---- the replies to the steps

steps_count : (lines : List (List ℕ)) (steps : List Step) → AreSteps lines steps → length steps ≡ length lines
steps_count [] [] h = refl
steps_count [] (step ∷ steps) h = absurd h
steps_count (l ∷ lines) [] h = absurd h
steps_count (l ∷ lines) (step ∷ steps) h = omega (arith, steps_count lines steps h.1)

pub few_steps : (lines : List (List ℕ)) (steps these : List Step) → IsBatch lines steps → these ≡ steps → length these < 4294967296
few_steps lines steps these is e = omega (arith, ap (λ (l : List Step). length l) e, steps_count lines steps is.each, is.few)

pub said_done : (write : Bool) (files : FileSet) (steps : List Step) (names : List (List ℕ)) (done : Batched) (result : Result Reply Memory)
    → names ≡ names_of files.entries → Batches files steps (Ok done)
    → IfOk result (λ reply. reply ≡ batched_reply write names done) → IfOk result (SaysSteps write files steps)
said_done write files steps names done (Err m) n a h = tt
said_done write files steps names done (Ok reply) n a h = batched done a (h ∙ ap (λ (ns : List (List ℕ)). batched_reply write ns done) n)

pub said_stop : (write : Bool) (files : FileSet) (steps : List Step) (names : List (List ℕ)) (step : ℕ) (why : Refusal) (error : BatchError)
    (result : Result Reply Memory) → names ≡ names_of files.entries
    → error ≡ At step why → IsFailedFor (λ e. Batches files steps (Err e)) error → IfOk result (λ reply. reply ≡ stopped_batch names step why)
    → IfOk result (SaysSteps write files steps)
said_stop write files steps names step why error (Err m) n e a h = tt
said_stop write files steps names step why error (Ok reply) n e a h = by (subst (IsFailedFor (λ f. Batches files steps (Err f))) e a) where
  by : Batches files steps (Err (At step why)) ⊎ (At step why ≡ NoMemory) → SaysSteps write files steps reply
  by (inl b) = stopped step why b (h ∙ ap (λ (ns : List (List ℕ)). stopped_batch ns step why) n)
  by (inr m) = cc

pub said_large : (write : Bool) (file name bytes : List ℕ) (files : FileSet) (result : Result Reply Memory) → 1048576 < length bytes → name ≡ file
    → IfOk result (λ reply. reply ≡ unloaded_reply false (TooLarge name)) → IfOk result (SaysFound file write (Some bytes) files)
said_large write file name bytes files (Err m) l n h = tt
said_large write file name bytes files (Ok reply) l n h = large bytes refl l (h ∙ ap (λ (w : List ℕ). unloaded_reply false (TooLarge w)) n)

pub said_runs : (write : Bool) (file bytes : List ℕ) (files : FileSet) (steps these : List Step) (result : Result Reply Memory)
    → length bytes ≤ 1048576 → IsBatch (feed_lines bytes) steps → these ≡ steps
    → IfOk result (SaysSteps write files these) → IfOk result (SaysFound file write (Some bytes) files)
said_runs write file bytes files steps these (Err m) l is e h = tt
said_runs write file bytes files steps these (Ok reply) l is e h =
    runs bytes steps refl l is (subst (λ (ss : List Step). SaysSteps write files ss reply) e h)

pub said_unread : (write : Bool) (file bytes : List ℕ) (files : FileSet) (number : ℕ) (error : BatchReadError) (result : Result Reply Memory)
    → length bytes ≤ 1048576 → error ≡ Line number
    → IsUnread (feed_lines bytes) error → IfOk result (λ reply. reply ≡ bad_batch number) → IfOk result (SaysFound file write (Some bytes) files)
said_unread write file bytes files number error (Err m) l e bad h = tt
said_unread write file bytes files number error (Ok reply) l e bad h = unread bytes number refl l (subst (IsUnread (feed_lines bytes)) e bad) h

-- ---- the status of a reply to a batch

steps_kind : (write : Bool) (files : FileSet) (steps : List Step) (reply : Reply) → SaysSteps write files steps reply → IsCommandReply reply
steps_kind write files steps reply (stopped k why a e) = subst IsCommandReply (sym e) (refusal_kind why (names_stop files steps k why a))
steps_kind write files steps reply (batched done a e) = subst IsCommandReply (sym e) tt

pub found_kind : (file : List ℕ) (write : Bool) (found : Option (List ℕ)) (files : FileSet) (reply : Reply)
    → SaysFound file write found files reply → IsCommandReply reply
found_kind file write found files reply (lacks n e) = subst IsCommandReply (sym e) refl
found_kind file write found files reply (large bytes n l e) = subst IsCommandReply (sym e) refl
found_kind file write found files reply (unread bytes number n l bad e) = subst IsCommandReply (sym e) refl
found_kind file write found files reply (runs bytes steps n l is s) = steps_kind write files steps reply s

-- ---- a listed file

pub for_some : (content : Option FileMap) (P : FileMap → Type 0) → IfSome content P → (held : FileMap) → content ≡ Some held → P held
for_some None P h held e = cc
for_some (Some there) P h held e = subst P (one e) h where
  one : ◌≡◌ {A = Option FileMap} (Some there) (Some held) → there ≡ held
  one e = cc
