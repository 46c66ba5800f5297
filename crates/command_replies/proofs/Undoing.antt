-- A renaming that is done keeps facts and runs, and the words of its undo give the old files back.
use Rattle.std.proofs.Common.{◌≡◌, ◌≢◌, ◌⊎◌, inl, inr, if◌then◌else◌, ℕ, ◌<◌, ◌≤◌, ◌^◌, Bool, true, false, List, [], ◌∷◌, ◌++◌, Option, Some}
use Rattle.std.proofs.Common.{None, Result, Ok, Err, Contains, slice_get, flat_map, length, unwrap_or, codes, refl, sym, ap, subst, ◌∙◌, arith}
use Rattle.std.specs.Fmt.{decimal}
use Rattle.std.specs.FinMap.{get}
use Rattle.std.specs.Str.{bytes_eq}
use Rattle.std.specs.Cmp.Lexicographic.{bytes_decides}
use Rattle.rotor_base.specs.Files.{FileSet, IsProject, names_of, load_refusal}
use Rattle.rotor_base.specs.Limits.{max_file_bytes}
use Rattle.rotor_base.specs.Lines.{feed_lines}
use Rattle.rotor_base.specs.declared.source.SourceFile.{SourceFile}
use Rattle.rotor_base.specs.declared.place.Place.{Place}
use Rattle.rotor_base.specs.declared.report.Outcome.TheVariants as outcome
use Rattle.rotor_base.specs.declared.report.Renamed.{Renamed}
use Rattle.rotor_base.specs.declared.target.Target.{Target}
use Rattle.rotor_base.specs.declared.target.Target.TheVariants.{At}
use Rattle.tree_io.specs.Outside.{FileMap}
use Rattle.project_load.specs.Load.{loaded, unless_refused}
use Rattle.project_load.specs.Rewritten.{files_at, AreOthers}
use Rattle.project_load.specs.Listed.{Lists, is_listed_name, lacks as lacks_list, large as large_list, unread as unread_list, refused, taken}
use Rattle.project_load.specs.declared.error.ListError.{ListError}
use Rattle.project_load.specs.declared.error.ListError.TheVariants as list_error
use Rattle.tree_io.specs.Writes.{after, StoppedWriting}
use Rattle.apply_journal.specs.Plan.{plan_text, IsPlan}
use Rattle.apply_journal.specs.Recovered.{plan_name, gate_name, IsOpen, safe_writes, project_in, Recovers, closed}
use Rattle.apply_journal.proofs.Maps.{get_here, get_other, get_after_other, get_after_same}
use Rattle.apply_journal.proofs.Picked.{plan_of_files}
use Rattle.apply_journal.proofs.Stops.{gate_no_source, not_named, safe_others, stopped_safe, whole_safe, stopped_again, whole_again}
use Rattle.report.specs.Pieces.{place_text}
use Rattle.report.specs.Lines.{rename_line, declaration_lines, number_line, undo_line, done_lines}
use Rattle.report.specs.Text.{ended, text_of}
use Rattle.cli_words.specs.declared.command.Command.{Command}
use Rattle.cli_words.specs.declared.command.Command.TheVariants as command
use Rattle.cli_words.specs.Words.{command_of}
use Rattle.cli_words.specs.Laws.{undo_words}
use Rattle.rename_files.specs.Answer.{Renames}
use Rattle.rename_laws.specs.Laws.{Rewrites, IsUndoPlace}
use Rattle.rename_batch.specs.declared.step.Step.{Step}
use Rattle.rename_batch.specs.declared.step.Batched.{Batched}
use Rattle.rename_batch.specs.Batch.{Batches, undo_steps}
use Rattle.rename_batch.specs.Text.{undo_text}
use Rattle.rename_batch.specs.Reading.{IsBatch}
use Rattle.rename_verify.specs.declared.verdict.Verdict.{Verdict}
use Rattle.rename_verify.specs.declared.verdict.Verdict.TheVariants.{Yes, No}
use Rattle.rename_verify.specs.Verdict.{Verdicts}
use Rattle.rotor_base.specs.declared.refusal.Refusal.{Refusal}
use Rattle.command_replies.specs.declared.status.Status.TheVariants.{Done, Refused, Project}
use Rattle.command_replies.specs.declared.reply.Reply.{Reply}
use Rattle.command_replies.specs.declared.writing.Writing.{Writing}
use Rattle.command_replies.specs.declared.writing.Writing.TheVariants.{Show, Write, Safe}
use Rattle.command_replies.specs.Writing.{is_writing, writing_of}
use Rattle.command_replies.specs.Said.{status_of_refusal, outcome_text, reply_of, writes_of, renamed_reply, batched_reply, judged_reply, MayWrite}
use Rattle.command_replies.specs.Said.{not_loaded, over, pends, permitted, SaysShape, SaysRename, batch_in, stopped, batched, lacks, large, unread, runs}
use Rattle.command_replies.specs.Said.{SaysBatch, SaysRecovery, idle, finished, lost, SaysVerify, no_list, listed, SaysAgainst, unlisted, judged}
use Rattle.command_replies.specs.Said.{RefusesList, Says, SomeReply}
use Rattle.command_replies.specs.Table.{TreeStopped}
use Rattle.command_replies.specs.Laws.{HasLaws}
use Rattle.command_replies.specs.Done.{rename_words, undo_of, AreSameButForPlan, GivesBack, GivesFilesBack, with_file, GivesBatchBack, IsDone, IsShown}
use Rattle.command_replies.specs.Done.{IsBatchDone, IsVerified, IsRecoverDone, IsDoneSo, IsRenameRecoverable, IsRecoverable}
use Rattle.command_replies.proofs.Beside.{beside, same_beside, no_source}
use Rattle.command_replies.proofs.Saying.{no_done_refusal}

-- ---- the last line of the report

abbrev last_of : List (List ℕ) → Renamed → List ℕ
last_of names done = undo_line names done.undo_at done.old

flat_last : (xs : List (List ℕ)) (x : List ℕ) → flat_map ended (xs ++ x ∷ []) ≡ flat_map ended xs ++ ended x
flat_last [] x = no_more (ended x) where
  no_more : (ys : List ℕ) → ys ++ [] ≡ ys
  no_more [] = refl
  no_more (y ∷ ys) = ap (λ (zs : List ℕ). y ∷ zs) (no_more ys)
flat_last (y ∷ xs) x = ap (λ (zs : List ℕ). ended y ++ zs) (flat_last xs x) ∙ sym (joined (ended y) (flat_map ended xs) (ended x)) where
  joined : (a b c : List ℕ) → (a ++ b) ++ c ≡ a ++ (b ++ c)
  joined [] b c = refl
  joined (z ∷ a) b c = ap (λ (zs : List ℕ). z ∷ zs) (joined a b c)

line_last : (names : List (List ℕ)) (done : Renamed) → (front : List (List ℕ)) × (done_lines names done ≡ front ++ last_of names done ∷ [])
line_last names done = (
  rename_line done.old done.new ∷ (declaration_lines names done.foot.decls
      ++ (number_line (codes "references") done.refs ∷ number_line (codes "files") (length done.changed) ∷ [])),
  ap (λ (ls : List (List ℕ)). rename_line done.old done.new ∷ ls)
      (sym (joined (declaration_lines names done.foot.decls)
      (number_line (codes "references") done.refs ∷ number_line (codes "files") (length done.changed) ∷ []) (last_of names done ∷ []))),
)
  where
    joined : (a b c : List (List ℕ)) → (a ++ b) ++ c ≡ a ++ (b ++ c)
    joined [] b c = refl
    joined (z ∷ a) b c = ap (λ (zs : List (List ℕ)). z ∷ zs) (joined a b c)

text_ends : (names : List (List ℕ)) (done : Renamed) → (front : List ℕ) × (text_of names (outcome.Done done) ≡ front ++ ended (last_of names done))
text_ends names done =
    let l = line_last names done in
    (flat_map ended l.0, ap (flat_map ended) l.1 ∙ flat_last l.0 (last_of names done))

-- ---- the words of the undo request the renaming back

place_is : (names : List (List ℕ)) (p : Place) (source : List ℕ) → slice_get names p.file ≡ Some source
    → place_text names p ≡ source ++ (codes "#" ++ decimal p.token)
place_is names p source e = ap (λ (o : Option (List ℕ)). unwrap_or o [] ++ (codes "#" ++ decimal p.token)) e

-- a token's number fits into 32 bits
within : (n : ℕ) → n ≤ 1048576 → n < 2 ^ 32
within n h = omega (arith, h)

-- a folder loads as its project
load_by : (one other : FileMap) → project_in one ≡ project_in other → loaded one ≡ loaded other
unfolding loaded
load_by one other e = ap (λ (p : FileSet). unless_refused (load_refusal p.entries p.manifest) p) e

differs : (q name : List ℕ) → q ≢ name → bytes_eq q name ≡ false
differs q name h = by (bytes_eq q name) refl where
  by : (b : Bool) → bytes_eq q name ≡ b → bytes_eq q name ≡ false
  by true e = absurd (h ((bytes_decides q name).0 e))
  by false e = e

module _ (laws : HasLaws) where
  module _ (held : FileMap) (target : Target) (new : List ℕ) (writing : Writing) (json : Bool) (old : FileSet) (done : Renamed)
      (loads : loaded held ≡ Ok old) (may : MayWrite (is_writing writing) held) (renames : Renames old target new (Ok done)) where
    abbrev names : List (List ℕ)
    names = names_of old.entries

    project : IsProject old
    project = laws.project held old loads

    rewrites : Rewrites old done
    rewrites = laws.rewrite old target new done project renames

    place : IsUndoPlace old done
    place = laws.places old target new done project renames

    undone : (back : Renamed) × Renames done.files (At place.source done.undo_at.token) done.old (Ok back) × (back.files ≡ old)
    undone = laws.undone old target new done project renames place.source place.number

    others : AreOthers old done.files
    others = record { names = rewrites.names; manifest = rewrites.manifest }

    asked : command_of (undo_of names done) ≡ Some (command.Rename (At place.source done.undo_at.token) done.old true false false)
    asked =
        let words : undo_of names done ≡ undo_words place.source done.undo_at.token done.old =
        ap (λ (p : List ℕ). rename_words p done.old) (place_is names done.undo_at place.source place.source_at) in
        ap command_of words ∙ laws.undos place.source done.old done.undo_at.token place.is_source place.named place.above
        (within done.undo_at.token place.below)

    back_others : AreOthers done.files undone.0.files
    back_others = record {
      names = ap (λ (f : FileSet). names_of f.entries) undone.2 ∙ sym rewrites.names;
      manifest = ap (λ (f : FileSet). f.manifest) undone.2 ∙ sym rewrites.manifest;
    }

    abbrev files : List SourceFile
    files = files_at done.files.entries done.changed

    load : loaded (after files held) ≡ Ok done.files
    load = laws.loaded_new held old done.files done.changed loads others rewrites.taken rewrites.covers

    there : IsProject done.files
    there = laws.project (after files held) done.files load

    -- the words of the undo over a folder that loads as the new files, and whose gate is not open
    abbrev undo_reply : Reply
    undo_reply = renamed_reply Write false (names_of done.files.entries) undone.0

    undo_said : (now : FileMap) → loaded now ≡ Ok done.files → (IsOpen now → ⊥) → Says (command_of (undo_of names done)) now undo_reply
    unfolding Says
    undo_said now l shut =
        let a : SaysRename (At place.source done.undo_at.token) done.old Write false now undo_reply =
        over done.files l (permitted (λ t. shut) (Ok undone.0, undone.1, refl)) in
        subst (λ (q : Option Command). Says q now undo_reply) (sym asked) a

    home : after undo_reply.writes (after files held) ≡ held
    home =
        let back = undone.0 in
        let again = laws.rewrite done.files (At place.source done.undo_at.token) done.old back there undone.1 in
        let covers = subst (λ (f : FileSet). (k : ℕ) → (slice_get done.files.entries k ≡ slice_get f.entries k) ⊎ Contains back.changed k) undone.2
        again.covers in
        let writes : files_at back.files.entries back.changed ≡ files_at old.entries back.changed =
        ap (λ (f : FileSet). files_at f.entries back.changed) undone.2 in
        ap (λ (ws : List SourceFile). after ws (after files held)) writes
        ∙ laws.old_back held old done.files done.changed back.changed loads others rewrites.covers covers

    -- the writes are those of a plan, which leaves the gate as it is
    plan : IsPlan (plan_text files) files
    plan =
        let lists = laws.changes old target new done project renames in
        plan_of_files done.files done.changed there lists.ordered lists.known

    gate_rests : IsOpen (after files held) → IsOpen held
    gate_rests o = sym (get_after_other files held gate_name (not_named gate_name files gate_no_source plan.sources.named)) ∙ o

    gives_back : (reply : Reply) → reply.writes ≡ files → (IsOpen held → ⊥) → GivesBack (undo_of names done) held reply
    gives_back reply w shut =
        let G : List SourceFile → Type 0 = λ ws. SomeReply (command_of (undo_of names done)) (after ws held)
        (λ b. (b.status ≡ Done) × (after b.writes (after ws held) ≡ held)) in
        subst G (sym w) (undo_reply, undo_said (after files held) load (λ o. shut (gate_rests o)), (refl, home))

    -- the same with a plan and a gate beside the sources
    safe_load : loaded (after (safe_writes files) held) ≡ Ok done.files
    safe_load = load_by (after (safe_writes files) held) (after files held) (whole_safe held files plan).1 ∙ load

    leaves : AreSameButForPlan held (after undo_reply.writes (after (safe_writes files) held))
    leaves q p g =
        let same : get (after undo_reply.writes (after (safe_writes files) held)) q ≡ get (after undo_reply.writes (after files held)) q =
        get_after_same undo_reply.writes (after (safe_writes files) held) (after files held) q
        (λ none. safe_others held files q (differs q plan_name p) (differs q gate_name g)) in
        sym (same ∙ ap (λ (m : FileMap). get m q) home)

    gives_files_back : (reply : Reply) → reply.writes ≡ safe_writes files → GivesFilesBack (undo_of names done) held reply
    gives_files_back reply w =
        let G : List SourceFile → Type 0 = λ ws. SomeReply (command_of (undo_of names done)) (after ws held)
        (λ b. (b.status ≡ Done) × AreSameButForPlan held (after b.writes (after ws held))) in
        subst G (sym w) (undo_reply, undo_said (after (safe_writes files) held) safe_load (whole_safe held files plan).0, (refl, leaves))

    -- the writes of the reply
    loads_so : (w : Writing) → is_writing w ≡ true → loaded (after (writes_of w files) held) ≡ Ok done.files
    loads_so Show t = cc
    loads_so Write t = load
    loads_so Safe t = safe_load

    module _ (reply : Reply) (replied : reply ≡ renamed_reply writing json names done) where
      writes : reply.writes ≡ writes_of writing files
      writes = ap (λ (r : Reply). r.writes) replied

      writes_as : (w : Writing) → writing ≡ w → reply.writes ≡ writes_of w files
      writes_as w e = writes ∙ ap (λ (v : Writing). writes_of v files) e

      is_done : IsDone held target new writing json reply
      is_done = record {
        old = old;
        done = done;
        loads = loads;
        renames = renames;
        replied = replied;
        written = λ t. subst (λ (ws : List SourceFile). loaded (after ws held) ≡ Ok done.files) (sym writes) (loads_so writing t);
        valid = laws.valid old target new done project renames;
        facts = laws.facts old target new done project renames;
        runs = laws.runs old target new done project renames;
        least = laws.least old target new done project renames;
        line = λ j. let t = text_ends names done in
            (t.0, ap (λ (r : Reply). r.text) replied ∙ (ap (λ (b : Bool). outcome_text b names (outcome.Done done)) j ∙ t.1));
        back = λ w. gives_back reply (writes_as Write w) (may (ap is_writing w));
        safe_back = λ s. gives_files_back reply (writes_as Safe s);
      }

      -- a write of `--safe` failed
      stopped_safely : writing ≡ Safe → (IsOpen held → ⊥) → (now : FileMap) → StoppedWriting reply.writes (Some held) (Some now)
          → Recovers now (project_in held) ⊎ Recovers now (project_in (after reply.writes held))
      stopped_safely e shut now halt =
          let w : reply.writes ≡ safe_writes files = writes_as Safe e in
          let R : List SourceFile → Type 0 = λ ws. Recovers now (project_in held) ⊎ Recovers now (project_in (after ws held)) in
          subst R (sym w) (by (stopped_safe held now files plan shut
          (subst (λ (ws : List SourceFile). StoppedWriting ws (Some held) (Some now)) w halt)))
        where
          by : Recovers now (project_in held) ⊎ Recovers now (project_in (after files held)) → Recovers now (project_in held)
              ⊎ Recovers now (project_in (after (safe_writes files) held))
          by (inl r) = inl r
          by (inr r) = inr (subst (Recovers now) (sym (whole_safe held files plan).1) r)

  -- ---- a reply that is done

  no_project : (reply : Reply) (text : List ℕ) → reply ≡ reply_of Project [] text → reply.status ≡ Done → ⊥
  no_project reply text e d = let no : Project ≡ Done = sym (ap (λ (r : Reply). r.status) e) ∙ d in cc

  no_refused : (why : Refusal) (reply : Reply) (text : List ℕ) → reply ≡ reply_of (status_of_refusal why) [] text → reply.status ≡ Done → ⊥
  no_refused why reply text e d = no_done_refusal why (sym (ap (λ (r : Reply). r.status) e) ∙ d)

  -- a reply that is done has done the renaming
  module _ (held : FileMap) (target : Target) (new : List ℕ) (writing : Writing) (json : Bool) (P : Reply → Type 0)
      (h : (old : FileSet) (done : Renamed) → loaded held ≡ Ok old → MayWrite (is_writing writing) held → Renames old target new (Ok done)
      → (reply : Reply) → reply ≡ renamed_reply writing json (names_of old.entries) done → P reply) where
    by_reply : (reply : Reply) → SaysRename target new writing json held reply → reply.status ≡ Done → P reply
    by_reply reply (not_loaded error l e) d = absurd (no_project reply _ e d)
    by_reply reply (over files l (pends q e)) d = absurd (no_project reply _ e d)
    by_reply reply (over files l (permitted may (Err why, a, e))) d = absurd (no_refused why reply _ e d)
    by_reply reply (over files l (permitted may (Ok done, a, e))) d = h files done l may a reply e

  -- a footprint that is shown
  shown_so : (held : FileMap) (target : Target) (reply : Reply) → SaysShape target held reply → reply.status ≡ Done → IsShown held target reply
  shown_so held target reply (not_loaded error l e) d = absurd (no_project reply _ e d)
  shown_so held target reply (over files l (Err why, a, e)) d = absurd (no_refused why reply _ e d)
  shown_so held target reply (over files l (Ok shown, a, e)) d = record {
    old = files;
    shown = shown;
    loads = l;
    shows = a;
    replied = e;
    least = laws.shown_least files target shown (laws.project held files l) a;
    outside = laws.shown_kept files target shown (laws.project held files l) a;
  }

  -- a batch that is done
  module _ (held : FileMap) (file : List ℕ) (write : Bool) (old : FileSet) (bytes : List ℕ) (steps : List Step) (done : Batched)
      (loads : loaded held ≡ Ok old) (may : MayWrite write held) (found : batch_in held file ≡ Some bytes)
      (reads : IsBatch (feed_lines bytes) steps) (accepted : Batches old steps (Ok done)) where
    project_of : IsProject old
    project_of = laws.project held old loads

    abbrev batch_files : List SourceFile
    batch_files = files_at done.files.entries done.changed

    batch_loads : (w : Bool) → w ≡ true → loaded (after (if w then batch_files else []) held) ≡ Ok done.files
    batch_loads true t =
        let keeps = laws.batch_sources old steps done project_of accepted in
        laws.loaded_new held old done.files done.changed loads (record { names = keeps.names; manifest = keeps.manifest }) keeps.taken keeps.covers
    batch_loads false t = cc

    abbrev batch_writes : Bool → List SourceFile
    batch_writes w = if w then batch_files else []

    batch_undone : (back : Batched) × Batches done.files (undo_steps (names_of done.files.entries) done.undo) (Ok back) × (back.files ≡ old)
    batch_undone = laws.batch_undone old steps done project_of accepted

    batch_asked : IsBatch (feed_lines (undo_text (names_of done.files.entries) done.undo)) (undo_steps (names_of done.files.entries) done.undo)
    batch_asked = (laws.batch_asked old steps done project_of accepted).1 (feed_lines bytes) reads

    -- the undo lines beside the new files
    module _ (wanted : write ≡ true) (undo : List ℕ) (unlisted_name : is_listed_name undo ≡ false) (no_gate : undo ≢ gate_name)
        (short : length (undo_text (names_of done.files.entries) done.undo) ≤ max_file_bytes) where
      abbrev undo_lines : List ℕ
      undo_lines = undo_text (names_of done.files.entries) done.undo

      abbrev new_folder : FileMap
      new_folder = with_file undo undo_lines (after batch_files held)

      batch_load : loaded (after batch_files held) ≡ Ok done.files
      batch_load = batch_loads true refl

      batch_plan : IsPlan (plan_text batch_files) batch_files
      batch_plan =
          let keeps = laws.batch_sources old steps done project_of accepted in
          plan_of_files done.files done.changed (laws.project (after batch_files held) done.files batch_load) keeps.ordered keeps.known

      loads_beside : loaded new_folder ≡ Ok done.files
      loads_beside =
          load_by new_folder (after batch_files held) (same_beside (after batch_files held) undo undo_lines unlisted_name) ∙ batch_load

      shut_beside : IsOpen new_folder → ⊥
      shut_beside o = by write wanted may
          (sym (get_after_other batch_files held gate_name (not_named gate_name batch_files gate_no_source batch_plan.sources.named))
          ∙ sym (get_other (after batch_files held) undo undo_lines gate_name (differs gate_name undo (λ e. no_gate (sym e)))) ∙ o) where
            by : (w : Bool) → w ≡ true → MayWrite w held → IsOpen held → ⊥
            by true t m = m refl
            by false t m = cc

      lines_beside : batch_in new_folder undo ≡ Some undo_lines
      lines_beside =
          ap (λ (b : Bool). if b then None else get new_folder undo) unlisted_name ∙ get_here (after batch_files held) undo undo_lines

      abbrev back_reply : Reply
      back_reply = batched_reply true (names_of done.files.entries) batch_undone.0

      back_said : Says (Some (command.Batch undo true)) new_folder back_reply
      unfolding Says
      back_said =
          over done.files loads_beside (permitted (λ t. shut_beside)
          (runs undo_lines (undo_steps (names_of done.files.entries) done.undo) lines_beside short batch_asked
          (batched batch_undone.0 batch_undone.1 refl)))

      batch_home : after back_reply.writes new_folder ≡ with_file undo undo_lines held
      batch_home =
          let back = batch_undone.0 in
          let keeps = laws.batch_sources old steps done project_of accepted in
          let there = laws.project (after batch_files held) done.files batch_load in
          let again = laws.batch_sources done.files (undo_steps (names_of done.files.entries) done.undo) back there batch_undone.1 in
          let covers = subst (λ (f : FileSet). (k : ℕ) → (slice_get done.files.entries k ≡ slice_get f.entries k) ⊎ Contains back.changed k)
          batch_undone.2 again.covers in
          let written : files_at back.files.entries back.changed ≡ files_at old.entries back.changed =
          ap (λ (f : FileSet). files_at f.entries back.changed) batch_undone.2 in
          let held_loads : loaded (with_file undo undo_lines held) ≡ Ok old =
          load_by (with_file undo undo_lines held) held (same_beside held undo undo_lines unlisted_name) ∙ loads in
          let none = not_named undo batch_files (no_source undo unlisted_name) batch_plan.sources.named in
          ap (λ (ws : List SourceFile). after ws new_folder) written
          ∙ ap (λ (m : FileMap). after (files_at old.entries back.changed) m) (sym (beside batch_files held undo undo_lines none))
          ∙ laws.old_back (with_file undo undo_lines held) old done.files done.changed back.changed held_loads
          (record { names = keeps.names; manifest = keeps.manifest }) keeps.covers covers

      gives_batch_back : (reply : Reply) → reply.writes ≡ batch_writes write → GivesBatchBack undo undo_lines held reply
      gives_batch_back reply e =
          let G : List SourceFile → Type 0 = λ ws. SomeReply (Some (command.Batch undo true)) (with_file undo undo_lines (after ws held))
          (λ back. (back.status ≡ Done) × (after back.writes (with_file undo undo_lines (after ws held)) ≡ with_file undo undo_lines held)) in
          subst G (sym (e ∙ ap batch_writes wanted)) (back_reply, back_said, (refl, batch_home))

    batch_is_done : (reply : Reply) → reply ≡ batched_reply write (names_of old.entries) done → IsBatchDone held file write reply
    batch_is_done reply e = record {
      old = old;
      bytes = bytes;
      steps = steps;
      done = done;
      loads = loads;
      found = found;
      reads = reads;
      batches = accepted;
      replied = e;
      written = λ w. subst (λ (ws : List SourceFile). loaded (after ws held) ≡ Ok done.files) (sym (ap (λ (r : Reply). r.writes) e))
          (batch_loads write w);
      undone = batch_undone;
      asked = batch_asked;
      back = λ w undo listed gate short. gives_batch_back w undo listed gate short reply (ap (λ (r : Reply). r.writes) e);
      runs = λ some. laws.batch_runs old steps done project_of some accepted;
    }

  batch_so : (held : FileMap) (file : List ℕ) (write : Bool) (reply : Reply) → SaysBatch file write held reply → reply.status ≡ Done
      → IsBatchDone held file write reply
  batch_so held file write reply (not_loaded error l e) d = absurd (no_project reply _ e d)
  batch_so held file write reply (over files l (pends q e)) d = absurd (no_project reply _ e d)
  batch_so held file write reply (over files l (permitted may (lacks f e))) d = absurd (no_project reply _ e d)
  batch_so held file write reply (over files l (permitted may (large bytes f long e))) d = absurd (no_project reply _ e d)
  batch_so held file write reply (over files l (permitted may (unread bytes n f short bad e))) d = absurd (no_project reply _ e d)
  batch_so held file write reply (over files l (permitted may (runs bytes steps f short is (stopped k why a e)))) d =
      absurd (no_refused why reply _ e d)
  batch_so held file write reply (over files l (permitted may (runs bytes steps f short is (batched done a e)))) d =
      batch_is_done held file write files bytes steps done l may f is a reply e

  -- a recovery that is done leaves what is recovered
  recovered_so : (held : FileMap) (reply : Reply) → SaysRecovery held reply → reply.status ≡ Done → IsRecoverDone held reply
  recovered_so held reply (idle shut e) d = subst (λ (r : Reply). Recovers held (project_in (after r.writes held))) (sym e) (closed shut)
  recovered_so held reply (finished files o p e) d = subst (λ (r : Reply). Recovers held (project_in (after r.writes held))) (sym e)
      (whole_again held files o p).1
  recovered_so held reply (lost l e) d = absurd (no_project reply _ e d)

  -- the files that a list gives are a project
  pub list_project : (held : FileMap) (name : List ℕ) (files : FileSet) → Lists held name (Ok files) → IsProject files
  list_project held name files l = by (Ok files) l refl where
    by : (result : Result FileSet ListError) → Lists held name result → result ≡ Ok files → IsProject files
    by result (lacks_list none e) t = cc
    by result (large_list bytes there long e) t = cc
    by result (unread_list bytes number there short bad e) t = cc
    by result (refused bytes given error there short gives l e) t = cc
    by result (taken bytes given found there short gives l e) t = subst IsProject (one (sym e ∙ t)) (laws.project given found l) where
      one : ◌≡◌ {A = Result FileSet ListError} (Ok found) (Ok files) → found ≡ files
      one e = cc

  no_done_list : (name : List ℕ) (error : ListError) (reply : Reply) → RefusesList name error reply → reply.status ≡ Done → ⊥
  no_done_list name list_error.Read reply h d = h
  no_done_list name (list_error.BadList number) reply h d = no_project reply _ h d
  no_done_list name (list_error.Load why) reply h d = no_project reply _ h d

  -- a `verify` that is done says yes
  verified_so : (held : FileMap) (old new : List ℕ) (reply : Reply) → SaysVerify old new held reply → reply.status ≡ Done
      → IsVerified held old new reply
  verified_so held old new reply (no_list error l h) d = absurd (no_done_list old error reply h d)
  verified_so held old new reply (listed files l s) d = by s where
    yes : (other : FileSet) (answer : Result Verdict Refusal) → Lists held new (Ok other) → Verdicts files other answer
        → reply ≡ judged_reply (names_of files.entries) answer → IsVerified held old new reply
    yes other (Ok (Yes changes)) m v e = record {
      old = files;
      new = other;
      changes = changes;
      old_files = l;
      new_files = m;
      verdict = v;
      replied = e;
      valid = laws.verified files other changes (list_project held old files l) (list_project held new other m) v;
      runs = laws.verified_runs files other changes (list_project held old files l) (list_project held new other m) v;
    }
    yes other (Ok (No why)) m v e = let no : Refused ≡ Done = sym (ap (λ (r : Reply). r.status) e) ∙ d in cc
    yes other (Err why) m v e = absurd (no_refused why reply _ e d)

    by : SaysAgainst files new held reply → IsVerified held old new reply
    by (unlisted error m h) = absurd (no_done_list new error reply h d)
    by (judged other m (answer, v, e)) = yes other answer m v e

  by_says : (request : Option Command) (held : FileMap) (reply : Reply) → Says request held reply → reply.status ≡ Done → IsDoneSo request held reply
  unfolding Says
  by_says None held reply s d = tt
  by_says (Some command.Check) held reply s d = tt
  by_says (Some (command.Shape target)) held reply s d = shown_so held target reply s d
  by_says (Some (command.Rename target new write safe json)) held reply s d =
      by_reply held target new (writing_of write safe) json (IsDone held target new (writing_of write safe) json)
      (λ old done l may a r e. is_done held target new (writing_of write safe) json old done l may a r e) reply s d
  by_says (Some (command.Sample units)) held reply s d = tt
  by_says (Some (command.Verify old new)) held reply s d = verified_so held old new reply s d
  by_says (Some (command.Batch file write)) held reply s d = batch_so held file write reply s d
  by_says (Some command.Recover) held reply s d = recovered_so held reply s d

  -- ---- a write that failed

  nothing_left : (done rest : List SourceFile) (f : SourceFile) → ◌≡◌ {A = List SourceFile} [] (done ++ f ∷ rest) → ⊥
  nothing_left [] rest f e = cc
  nothing_left (d ∷ done) rest f e = cc

  -- a recovery that stopped
  stopped_recovery : (held now : FileMap) (reply : Reply) → SaysRecovery held reply → reply.status ≡ Done
      → StoppedWriting reply.writes (Some held) (Some now)
      → (found : FileSet) → Recovers held found → Recovers now found
  stopped_recovery held now reply (idle shut e) d halt found r =
      let none = subst (λ (x : Reply). StoppedWriting x.writes (Some held) (Some now)) e halt in
      absurd (nothing_left none.0 none.2 none.1 none.4)
  stopped_recovery held now reply (finished files o p e) d halt found r =
      stopped_again held now files found o p (subst (λ (x : Reply). StoppedWriting x.writes (Some held) (Some now)) e halt) r
  stopped_recovery held now reply (lost l e) d halt found r = absurd (no_project reply _ e d)

  one_of : (held now : FileMap) → Some now ≡ Some held → now ≡ held
  one_of held now e = cc

  renaming_recoverable : (held now : FileMap) (target : Target) (new : List ℕ) (writing : Writing) (json : Bool)
      → (Some now ≡ Some held) ⊎ ((reply : Reply) × SaysRename target new writing json held reply
      × ((reply.status ≡ Done) × StoppedWriting reply.writes (Some held) (Some now)))
      → IsRenameRecoverable target new writing json held now
  renaming_recoverable held now target new writing json (inl e) =
      λ s shut. inl (subst (λ (m : FileMap). Recovers m (project_in held)) (sym (one_of held now e)) (closed shut))
  renaming_recoverable held now target new writing json (inr (reply, said, (d, halt))) = λ s shut. by (either s shut) where
    either : writing ≡ Safe → (IsOpen held → ⊥) → Recovers now (project_in held) ⊎ Recovers now (project_in (after reply.writes held))
    either s shut =
        by_reply held target new writing json
        (λ r. StoppedWriting r.writes (Some held) (Some now) → Recovers now (project_in held) ⊎ Recovers now (project_in (after r.writes held)))
        (λ old done l may a r e halted. stopped_safely held target new writing json old done l may a r e s shut now halted) reply said d halt

    by : Recovers now (project_in held) ⊎ Recovers now (project_in (after reply.writes held)) → Recovers now (project_in held)
        ⊎ ((r : Reply) × SaysRename target new writing json held r × ((r.status ≡ Done) × Recovers now (project_in (after r.writes held))))
    by (inl r) = inl r
    by (inr r) = inr (reply, said, (d, r))

  pub recoverable : (request : Option Command) (held now : FileMap) → TreeStopped request held (Some now) → IsRecoverable request held now
  unfolding Says
  recoverable None held now t = tt
  recoverable (Some command.Check) held now t = tt
  recoverable (Some (command.Shape target)) held now t = tt
  recoverable (Some (command.Rename target new write safe json)) held now t = renaming_recoverable held now target new (writing_of write safe) json t
  recoverable (Some (command.Sample units)) held now t = tt
  recoverable (Some (command.Verify old new)) held now t = tt
  recoverable (Some (command.Batch file write)) held now t = tt
  recoverable (Some command.Recover) held now (inl e) = λ found r. subst (λ (m : FileMap). Recovers m found) (sym (one_of held now e)) r
  recoverable (Some command.Recover) held now (inr (reply, said, (d, halt))) = λ found r. stopped_recovery held now reply said d halt found r

  pub done_so : (request : Option Command) (held : FileMap) (P : Reply → Type 0) → SomeReply request held (λ reply. P reply × (reply.status ≡ Done))
      → SomeReply request held (λ reply. P reply × IsDoneSo request held reply)
  done_so request held P s = (s.0, s.1, (s.2.0, by_says request held s.0 s.1 s.2.1))
