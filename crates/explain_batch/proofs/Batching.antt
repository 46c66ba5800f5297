-- What is said of the file of a batch.
use Rattle.std.proofs.Common.{◌≡◌, ℕ, ◌+◌, ◌<◌, ◌≤◌, List, [], ◌∷◌, ◌++◌, Bool, false, cond, Option, Some, None, option_map, Result, Ok, Err, IfOk}
use Rattle.std.proofs.Common.{IfSome, take, length, length-take, refl, sym, ap, subst, ◌∙◌, arith}
use Rattle.std.specs.FinMap.{get}
use Rattle.std.proofs.lemmas.List.{length-append, take_all}
use Rattle.rotor_base.specs.Files.{FileSet}
use Rattle.rotor_base.specs.Lines.{feed_lines}
use Rattle.tree_io.specs.Outside.{FileMap, IsFront}
use Rattle.project_load.specs.Listed.{is_listed_name}
use Rattle.rename_batch.specs.declared.error.BatchReadError.{BatchReadError}
use Rattle.rename_batch.specs.declared.error.BatchReadError.TheVariants.{Line}
use Rattle.rename_batch.specs.declared.step.Step.{Step}
use Rattle.rename_batch.specs.Reading.{AreSteps, IsBadLine, IsBatch, IsUnread}
use Rattle.line_stretches.specs.Stretch.{IsStretch}
use Rattle.messages.specs.declared.parts.Message.{Message}
use Rattle.refusal_words.specs.Commands.{batch_line, no_batch}
use Rattle.refusal_words.specs.Folder.{large_file}
use Rattle.explain.specs.declared.explanation.Explanation.{Explanation}
use Rattle.explain_batch.specs.File.{SaysBatch, SaysLine, batch_in, lacks, large, one, refused_with, runs, unread}
use Rattle.explain_batch.specs.Steps.{SaysSteps}

-- ---- the bytes that are read

held_batch : (held : FileMap) (file : List ℕ) (holds : Bool) → holds ≡ is_listed_name file → holds ≡ false → get held file ≡ batch_in held file
held_batch held file holds e t = ap (λ (b : Bool). cond b None (get held file)) (sym (sym e ∙ t))

pub file_read : (content : Option FileMap) (file : List ℕ) (holds : Bool) (limit : ℕ) (found : Option (List ℕ)) → holds ≡ is_listed_name file
    → holds ≡ false
    → IfSome content (λ held. found ≡ option_map (take limit) (get held file))
    → IfSome content (λ held. found ≡ option_map (take limit) (batch_in held file))
file_read None file holds limit found e t h = tt
file_read (Some held) file holds limit found e t h = h ∙ ap (option_map (take limit)) (held_batch held file holds e t)

pub front_read : (content now : Option FileMap) (file bytes : List ℕ) (holds : Bool) → now ≡ content → holds ≡ is_listed_name file → holds ≡ false
    → IfSome now (λ held. IsFront 1048577 (get held file) bytes)
    → IfSome content (λ held. Some bytes ≡ option_map (take 1048577) (batch_in held file))
front_read content now file bytes holds same e t h =
    file_read content file holds 1048577 (Some bytes) e t
    (turned content (subst (λ (o : Option FileMap). IfSome o (λ held. IsFront 1048577 (get held file) bytes)) same h)) where
      turned : (content : Option FileMap) → IfSome content (λ held. IsFront 1048577 (get held file) bytes)
          → IfSome content (λ held. Some bytes ≡ option_map (take 1048577) (get held file))
      turned None h = tt
      turned (Some held) h = sym h

pub for_some : (content : Option FileMap) (P : FileMap → Type 0) → IfSome content P → (held : FileMap) → content ≡ Some held → P held
for_some None P h held e = cc
for_some (Some there) P h held e = subst P (inner e) h where
  inner : ◌≡◌ {A = Option FileMap} (Some there) (Some held) → there ≡ held
  inner e = cc

-- ---- what is said

module _ (file : List ℕ) (files : FileSet) (explanation : Explanation) where
  all_of : (whole bytes b : List ℕ) → bytes ≡ take 1048577 whole → Some bytes ≡ Some b → length b ≤ 1048576 → bytes ≡ whole
  all_of whole bytes b e f l =
      let same : b ≡ bytes = cc in
      let short : length whole ≤ 1048577 = omega (arith, l, ap (λ (v : List ℕ). length v) (same ∙ e), length-take 1048577 whole) in
      e ∙ take_all 1048577 whole short

  -- all bytes of a file decide what its first bytes decide
  widened : (whole bytes : List ℕ) → bytes ≡ take 1048577 whole → SaysBatch file (Some bytes) files explanation
      → SaysBatch file (Some whole) files explanation
  widened whole bytes e (lacks f r) = cc
  widened whole bytes e (large b f l r) = large whole refl (longer b f l) r where
    longer : (b : List ℕ) → Some bytes ≡ Some b → 1048576 < length b → 1048576 < length whole
    longer b f l =
        let same : b ≡ take 1048577 whole = by b f ∙ e in
        omega (arith, l, ap (λ (v : List ℕ). length v) same, length-take 1048577 whole)
      where
        by : (b : List ℕ) → Some bytes ≡ Some b → b ≡ bytes
        by b f = cc
  widened whole bytes e (unread b n f l bad r) = subst (λ (v : List ℕ). SaysBatch file (Some v) files explanation) (all_of whole bytes b e f l)
      (unread b n f l bad r)
  widened whole bytes e (runs b steps f l is s) = subst (λ (v : List ℕ). SaysBatch file (Some v) files explanation) (all_of whole bytes b e f l)
      (runs b steps f l is s)

  pub said_lacking : (content : Option FileMap) (found : Option (List ℕ)) → found ≡ None
      → IfSome content (λ held. found ≡ option_map (take 1048577) (batch_in held file)) → explanation ≡ refused_with (no_batch file)
      → IfSome content (λ held. SaysBatch file (batch_in held file) files explanation)
  said_lacking None found n h r = tt
  said_lacking (Some held) found n h r = by (batch_in held file) (sym n ∙ h) where
    by : (there : Option (List ℕ)) → None ≡ option_map (take 1048577) there → SaysBatch file there files explanation
    by None e = lacks refl r
    by (Some whole) e = cc

  pub said_found : (content : Option FileMap) (found : Option (List ℕ)) (bytes : List ℕ) → found ≡ Some bytes
      → IfSome content (λ held. found ≡ option_map (take 1048577) (batch_in held file))
      → SaysBatch file (Some bytes) files explanation → IfSome content (λ held. SaysBatch file (batch_in held file) files explanation)
  said_found None found bytes n h s = tt
  said_found (Some held) found bytes n h s = by (batch_in held file) (sym n ∙ h) where
    by : (there : Option (List ℕ)) → Some bytes ≡ option_map (take 1048577) there → SaysBatch file there files explanation
    by None e = cc
    by (Some whole) e = widened whole bytes (inner e) s where
      inner : Some bytes ≡ Some (take 1048577 whole) → bytes ≡ take 1048577 whole
      inner e = cc

-- ---- the bytes of a batch

steps_count : (lines : List (List ℕ)) (steps : List Step) → AreSteps lines steps → length steps ≡ length lines
steps_count [] [] h = refl
steps_count [] (step ∷ steps) h = absurd h
steps_count (l ∷ lines) [] h = absurd h
steps_count (l ∷ lines) (step ∷ steps) h = omega (arith, steps_count lines steps h.1)

pub few_steps : (lines : List (List ℕ)) (steps these : List Step) → IsBatch lines steps → these ≡ steps → length these < 4294967296
few_steps lines steps these is e = omega (arith, ap (λ (l : List Step). length l) e, steps_count lines steps is.each, is.few)

pub said_runs : {E : Type 0} (file bytes : List ℕ) (files : FileSet) (steps these : List Step) (result : Result Explanation E)
    → length bytes ≤ 1048576
    → IsBatch (feed_lines bytes) steps → these ≡ steps → IfOk result (SaysSteps files these) → IfOk result (SaysBatch file (Some bytes) files)
said_runs file bytes files steps these (Err m) l is e h = tt
said_runs file bytes files steps these (Ok explanation) l is e h =
    runs bytes steps refl l is (subst (λ (s : List Step). SaysSteps files s explanation) e h)

in_lines : (lines : List (List ℕ)) (number : ℕ) → IsBadLine lines number → (0 < number) × (number ≤ length lines)
in_lines lines number bad =
    let all : length lines ≡ length (bad.before ++ bad.line ∷ bad.after) = ap (λ (ls : List (List ℕ)). length ls) bad.split in
    let parts : length (bad.before ++ bad.line ∷ bad.after) ≡ length bad.before + length (bad.line ∷ bad.after)
    = length-append bad.before (bad.line ∷ bad.after) in
    (omega (arith, bad.counted), omega (arith, bad.counted, all, parts))

pub said_unread : {E : Type 0} (file bytes : List ℕ) (files : FileSet) (error : BatchReadError) (number : ℕ) (result : Result Explanation E)
    → length bytes ≤ 1048576 → error ≡ Line number → IsUnread (feed_lines bytes) error
    → IfOk result (λ explanation. 0 < number → number ≤ length (feed_lines bytes) → SaysLine file bytes number explanation)
    → IfOk result (SaysBatch file (Some bytes) files)
said_unread file bytes files error number (Err m) l e u h = tt
said_unread file bytes files error number (Ok explanation) l e u h =
    let bad : IsBadLine (feed_lines bytes) number = subst (IsUnread (feed_lines bytes)) e u in
    let some = in_lines (feed_lines bytes) number bad in
    unread bytes number refl l bad (h some.0 some.1)

pub said_large : {E : Type 0} (file bytes : List ℕ) (files : FileSet) (result : Result Explanation E) → 1048576 < length bytes
    → IfOk result (λ explanation. explanation ≡ refused_with (large_file file)) → IfOk result (SaysBatch file (Some bytes) files)
said_large file bytes files (Err m) l h = tt
said_large file bytes files (Ok explanation) l h = large bytes refl l h

pub said_line : {E : Type 0} (file same bytes : List ℕ) (number start end : ℕ) (message : Message) (result : Result Explanation E) → number ≤ 1000
    → same ≡ file → (0 < number → number ≤ length (feed_lines bytes) → IsStretch (feed_lines bytes) number start end)
    → message ≡ batch_line same bytes start end → IfOk result (λ explanation. explanation ≡ refused_with message)
    → IfOk result (λ explanation. 0 < number → number ≤ length (feed_lines bytes) → SaysLine file bytes number explanation)
said_line file same bytes number start end message (Err m) few e at is h = tt
said_line file same bytes number start end message (Ok explanation) few e at is h =
    λ low high. one start end few (at low high) (h ∙ ap refused_with (is ∙ ap (λ (w : List ℕ). batch_line w bytes start end) e))
