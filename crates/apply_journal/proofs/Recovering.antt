-- What a recovery reads, and what it leaves.
use Rattle.std.proofs.Common.{◌≡◌, ℕ, ◌+◌, ◌≤◌, List, [], ◌∷◌, Bool, true, false, Option, Some, None, option_map, IfSome, Decides, Result, Ok, Err}
use Rattle.std.proofs.Common.{IsErr, IsErrOf, length, take, refl, sym, ap, subst, ◌∙◌, arith, length-take}
use Rattle.std.specs.Result.{IsErrAnd}
use Rattle.std.specs.FinMap.{get}
use Rattle.std.proofs.lemmas.List.{take_all}
use Rattle.rotor_base.specs.declared.source.SourceFile.{SourceFile}
use Rattle.rotor_base.proofs.Kept.{few_of}
use Rattle.tree_io.specs.Outside.{FileMap}
use Rattle.tree_io.specs.Writes.{after, Written, StoppedWriting}
use Rattle.apply_journal.specs.declared.recovery.Recovery.{Recovery}
use Rattle.apply_journal.specs.declared.recovery.Recovery.TheVariants.{Nothing, Done}
use Rattle.apply_journal.specs.Plan.{plan_text, IsPlan}
use Rattle.apply_journal.specs.Recovered.{plan_name, IsOpen, plan_writes, HoldsPlan, HoldsNoPlan, IsLost, ArePlanWrites, IsDue, rests, due}
use Rattle.apply_journal.specs.Recovered.{IsRecovered, rested, done, IsStopped, project_in, Recovers, closed, LeavesRecovered, KeepsRecovered}
use Rattle.apply_journal.proofs.Stops.{stopped_again, whole_again}

-- an error that is passed on is the one that was returned
pub goes_on : {A B E : Type 0} (r : Result A E) (e wanted : E) → IsErr r → IsErrAnd r (λ y. y ≡ e) → IsErrOf r wanted
    → IsErrOf {T = B} {E = E} (Err e) wanted
goes_on (Ok x) e wanted h k w = absurd cc
goes_on (Err y) e wanted h k w = cc

-- ---- the plan's file

none_there : (file : Option (List ℕ)) → ◌≡◌ {A = Option (List ℕ)} None (option_map (take 16777217) file) → (bytes : List ℕ) → file ≡ Some bytes → ⊥
none_there None h bytes e = cc
none_there (Some w) h bytes e = cc

-- the folder has no file of the plan
pub no_file : (content : Option FileMap) → IfSome content (λ held. ◌≡◌ {A = Option (List ℕ)} None (option_map (take 16777217) (get held plan_name)))
    → (held : FileMap) → content ≡ Some held → HoldsNoPlan held
no_file None h held e files p = cc
no_file (Some m) h held e files p =
    let same : m ≡ held = cc in
    none_there (get m plan_name) h p.0 (ap (λ (x : FileMap). get x plan_name) same ∙ p.1)

-- a plan is read whole
pub plan_found : (content : Option FileMap) (bytes : List ℕ) (files : List SourceFile)
    → IfSome content (λ held. Some bytes ≡ option_map (take 16777217) (get held plan_name)) → IsPlan bytes files
    → IfSome content (λ held. HoldsPlan held files)
plan_found None bytes files h p = tt
plan_found (Some held) bytes files h p = by (get held plan_name) refl h where
  by : (file : Option (List ℕ)) → get held plan_name ≡ file → Some bytes ≡ option_map (take 16777217) file → HoldsPlan held files
  by None e g = cc
  by (Some w) e g =
      let same : bytes ≡ take 16777217 w = cc in
      let short : length (take 16777217 w) ≤ 16777216 = subst (λ (v : List ℕ). length v ≤ 16777216) same p.short in
      let all : take 16777217 w ≡ w = take_all 16777217 w (omega (arith, short, length-take 16777217 w)) in
      (bytes, e ∙ ap (λ (v : List ℕ). Some v) (sym all ∙ sym same), p)

-- bytes that are no plan are the front of no plan
pub no_plan_found : (content : Option FileMap) (bytes : List ℕ)
    → IfSome content (λ held. Some bytes ≡ option_map (take 16777217) (get held plan_name)) → ((files : List SourceFile) → IsPlan bytes files → ⊥)
    → (held : FileMap) → content ≡ Some held → HoldsNoPlan held
no_plan_found None bytes h none held e files p = cc
no_plan_found (Some m) bytes h none held e files p =
    let folder : m ≡ held = cc in
    let found : get m plan_name ≡ Some p.0 = ap (λ (x : FileMap). get x plan_name) folder ∙ p.1 in
    let front : Some bytes ≡ Some (take 16777217 p.0) = h ∙ ap (option_map (take 16777217)) found in
    let same : bytes ≡ take 16777217 p.0 = cc in
    let text = p.2 in
    let all : take 16777217 p.0 ≡ p.0 = take_all 16777217 p.0 (omega (arith, text.short)) in
    none files (subst (λ (v : List ℕ). IsPlan v files) (sym (same ∙ all)) p.2)

pub plan_itself : (bytes : List ℕ) (files : List SourceFile) → IsPlan bytes files → IsPlan (plan_text files) files
plan_itself bytes files p = subst (λ (v : List ℕ). IsPlan v files) p.written p

-- ---- the gate and the plan

pub due_none : (content : Option FileMap) (r : Bool) → r ≡ false → IfSome content (λ held. Decides r (IsOpen held))
    → IfSome content (λ held. IsDue held None)
due_none None r e h = tt
due_none (Some held) r e h = rests (λ o. let bad : false ≡ true = sym e ∙ h.1 o in cc)

pub due_some : (content : Option FileMap) (r : Bool) (files writes : List SourceFile) → r ≡ true → IfSome content (λ held. Decides r (IsOpen held))
    → IfSome content (λ held. HoldsPlan held files)
    → writes ≡ plan_writes files → IfSome content (λ held. IsDue held (Some writes))
due_some None r files writes e h p w = tt
due_some (Some held) r files writes e h p w = subst (λ (v : List SourceFile). IsDue held (Some v)) (sym w) (due files (h.0 e) p)

pub lost : (content : Option FileMap) (r : Bool) → r ≡ true → IfSome content (λ held. Decides r (IsOpen held))
    → ((held : FileMap) → content ≡ Some held → HoldsNoPlan held)
    → (held : FileMap) → content ≡ Some held → IsLost held
lost None r e h none held is = cc
lost (Some m) r e h none held is =
    let same : m ≡ held = cc in
    record { opened = subst IsOpen same (h.0 e); none = none held is }

-- ---- what is left

-- the plan's files are one fewer than the writes
length_more : (files : List SourceFile) → length (plan_writes files) ≡ length files + 1
length_more [] = refl
length_more (f ∷ files) = omega (arith, length_more files)

writes_count : (writes : List SourceFile) (h : ArePlanWrites writes) → length writes ≡ length h.0 + 1
writes_count writes h = ap length h.2 ∙ length_more h.0

pub some_writes : (writes : List SourceFile) → ArePlanWrites writes → 1 ≤ length writes
some_writes writes h = omega (arith, writes_count writes h)

pub plan_count : (writes : List SourceFile) → ArePlanWrites writes → length writes ≤ 2001
plan_count writes h =
    let text = h.1 in
    let few = few_of h.0 text.few in
    omega (arith, few, writes_count writes h)

left_none : (held : FileMap) (found : Option (List SourceFile)) → IsDue held found → found ≡ None → IsRecovered held (Some held) Nothing
left_none held None (rests shut) e = rested shut
left_none held (Some writes) (due files o p) e = cc

pub recovered_none : (before now : Option FileMap) → now ≡ before → IfSome before (λ held. IsDue held None)
    → IfSome before (λ held. IsRecovered held now Nothing)
recovered_none None now e h = tt
recovered_none (Some held) now e h = subst (λ (m : Option FileMap). IsRecovered held m Nothing) (sym e) (left_none held None h refl)

left_some : (held : FileMap) (now : Option FileMap) (found : Option (List SourceFile)) (writes : List SourceFile) (n : ℕ) → IsDue held found
    → found ≡ Some writes → now ≡ Some (after writes held) → n + 1 ≡ length writes
    → IsRecovered held now (Done n)
left_some held now None writes n (rests shut) e w l = cc
left_some held now (Some all) writes n (due files o p) e w l =
    let same : plan_writes files ≡ writes = cc in
    let folder : Some (after (plan_writes files) held) ≡ now = ap (λ (v : List SourceFile). Some (after v held)) same ∙ sym w in
    let count : length files ≡ n = omega (arith, l, ap length same, length_more files) in
    subst (λ (m : Option FileMap). IsRecovered held m (Done n)) folder
    (subst (λ (k : ℕ). IsRecovered held (Some (after (plan_writes files) held)) (Done k)) count (done files o p))

pub recovered_some : (before mid now : Option FileMap) (writes : List SourceFile) (n : ℕ) → mid ≡ before
    → IfSome before (λ held. IsDue held (Some writes)) → Written writes mid now → n + 1 ≡ length writes
    → IfSome before (λ held. IsRecovered held now (Done n))
recovered_some None mid now writes n e h w l = tt
recovered_some (Some held) mid now writes n e h w l = left_some held now (Some writes) writes n h refl (w ∙ ap (option_map (after writes)) e) l

stopped_some : (held : FileMap) (now : Option FileMap) (found : Option (List SourceFile)) (writes : List SourceFile) → IsDue held found
    → found ≡ Some writes → StoppedWriting writes (Some held) now → IsStopped held now
stopped_some held now None writes (rests shut) e s = cc
stopped_some held now (Some all) writes (due files o p) e s =
    let same : writes ≡ plan_writes files = cc in
    record { files = files; opened = o; plan = p; stopped = subst (λ (v : List SourceFile). StoppedWriting v (Some held) now) same s }

pub recovery_stopped : (before mid now : Option FileMap) (writes : List SourceFile) → mid ≡ before → IfSome before (λ held. IsDue held (Some writes))
    → StoppedWriting writes mid now
    → (held : FileMap) → before ≡ Some held → IsStopped held now
recovery_stopped None mid now writes e h s held is = cc
recovery_stopped (Some m) mid now writes e h s held is =
    let same : m ≡ held = cc in
    let folder : mid ≡ Some held = e ∙ is in
    stopped_some held now (Some writes) writes (subst (λ (x : FileMap). IsDue x (Some writes)) same h) refl
    (subst (λ (o : Option FileMap). StoppedWriting writes o now) folder s)

-- ---- what is recovered stays

left_is : (held : FileMap) (left : Option FileMap) (r : Recovery) → IsRecovered held left r → LeavesRecovered held left
left_is held None r h now e = cc
left_is held (Some m) Nothing (rested shut) now e =
    let same : held ≡ now = cc in
    subst (λ (x : FileMap). Recovers held (project_in x)) same (closed shut)
left_is held (Some m) (Done n) (done files o p) now e =
    let same : after (plan_writes files) held ≡ now = cc in
    subst (λ (x : FileMap). Recovers held (project_in x)) same (whole_again held files o p).1

pub leaves_recovered : (before left : Option FileMap) (r : Recovery) → IfSome before (λ held. IsRecovered held left r) → (held : FileMap)
    → before ≡ Some held → LeavesRecovered held left
leaves_recovered None left r h held e = cc
leaves_recovered (Some m) left r h held e =
    let same : m ≡ held = cc in
    left_is held left r (subst (λ (x : FileMap). IsRecovered x left r) same h)

pub keeps_stopped : (held : FileMap) (left : Option FileMap) → IsStopped held left → KeepsRecovered held left
keeps_stopped held left s now e found r =
    stopped_again held now s.files found s.opened s.plan
    (subst (λ (o : Option FileMap). StoppedWriting (plan_writes s.files) (Some held) o) e s.stopped) r

pub keeps_same : (before left : Option FileMap) → left ≡ before → (held : FileMap) → before ≡ Some held → KeepsRecovered held left
keeps_same before left same held e now is found r =
    let folder : Some held ≡ Some now = sym e ∙ sym same ∙ is in
    let one : held ≡ now = cc in
    subst (λ (m : FileMap). Recovers m found) one r

-- what holds of the content holds of one that is the same
pub carried : (P : FileMap → Type 0) (now before : Option FileMap) → now ≡ before → IfSome now P → IfSome before P
carried P now before e h = subst (λ (o : Option FileMap). IfSome o P) e h
