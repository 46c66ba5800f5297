-- `verify` has an answer.
use Rattle.std.proofs.Common.{◌≡◌, ◌⊎◌, inl, inr, ℕ, suc, List, [], ◌∷◌, Bool, true, false, Option, Some, None, Result, Ok, Err, length, map, refl}
use Rattle.std.proofs.Common.{sym}
use Rattle.std.proofs.Common.{ap, subst, ◌∙◌, ◌≤◌, arith}
use Rattle.std.proofs.lemmas.List.{length-map}
use Rattle.std.proofs.lemmas.Slice.Eq.{bytes_eq-Decides}
use Rattle.std.specs.Global.{Vec}
use Rattle.std.specs.Ptr.{null_ptr}
use Rattle.std.specs.Str.{bytes_eq}
use Rattle.rotor_base.specs.declared.place.Place.{Place}
use Rattle.rotor_base.specs.declared.refusal.Refusal.{Refusal}
use Rattle.rotor_base.specs.declared.source.SourceFile.{SourceFile}
use Rattle.rotor_base.specs.Files.{FileSet, IsProject, names_of}
use Rattle.ml_lexer.specs.Lexed.{Fault, LexFault, Lexed, Lexeme}
use Rattle.value_sites.specs.Sound.{IsSound}
use Rattle.ml_trees.specs.Tree.{UnitTree}
use Rattle.shape_core.specs.Respell.{Words}
use Rattle.shape_core.specs.Shape.{Name}
use Rattle.binding_model.specs.Facts.{facts}
use Rattle.binding_model.specs.Renaming.{Changes, IsFree, Renaming, name_of, respell}
use Rattle.capture_check.specs.declared.fault.Fault as fault
use Rattle.capture_check.specs.Fault.{IsFirstFault, IsMet}
use Rattle.ladder_laws.proofs.Ladder.{project_decided}
use Rattle.ladder_laws.specs.Laws.{IsDecided}
use Rattle.project_reading.specs.Reads.{Reads}
use Rattle.project_reading.specs.Sources.{AreCut}
use Rattle.project_reading.proofs.Cut.{all_cut}
use Rattle.project_reading.proofs.Soundness.{read_is_sound}
use Rattle.rename_files.specs.Answer.{Accepts}
use Rattle.rename_model.specs.Project.{refusals_of_project}
use Rattle.rename_respell.specs.Respelled.{AreRespelledBytes, changed, mapped_words}
use Rattle.rename_survey.specs.Survey.{binders_of}
use Rattle.rename_verify.specs.Candidate.{AreLexemesOf, candidate, changes}
use Rattle.rename_verify.specs.Changed.{Changed}
use Rattle.rename_verify.specs.Fixed.{IsLeastHeld}
use Rattle.rename_verify.specs.Scans.{first_alone}
use Rattle.rename_verify.specs.Differ.{HasOtherSources, manifest}
use Rattle.rename_verify.specs.Laws.{IsYes}
use Rattle.rename_verify.specs.Verdict.{IsSources, Verdicts, reasons}
use Rattle.rename_verify.specs.declared.verdict.Verdict.{Verdict}
use Rattle.rename_verify.specs.declared.verdict.Verdict.TheVariants.{No, Yes}
use Rattle.rename_verify.specs.declared.verdict.Why.{Why}
use Rattle.rename_verify.specs.declared.verdict.Why.TheVariants as why
use Rattle.rename_verify.proofs.Alone as alone
use Rattle.rename_verify.proofs.Cutting.{fault_is_uncut}
use Rattle.rename_verify.proofs.Decided.{SomePart, files_part_or_same}
use Rattle.rename_verify.proofs.Listing.{all_free, least_fixed}
use Rattle.rename_verify.proofs.Reasons.{as_many, no_broken, no_bytes, no_fixed, no_reason, no_sources, then_broken, then_bytes, then_fixed}
use Rattle.rename_verify.proofs.Renamed.{AreRespelling, still}
use Rattle.decided_readings.specs.Laws.{HasReading}
use Rattle.decided_readings.proofs.Cutting.{files_are_cut}
use Rattle.decided_readings.proofs.Files.{files_are_decided}
use Rattle.command_answers.specs.Laws.{VerdictsAreAnswered}
use Rattle.command_answers.proofs.Faults.{first_fault}
use Rattle.command_answers.proofs.Few.{few_changes}
use Rattle.command_answers.proofs.Free.{least_held}

-- an answer of `verify` on a project
abbrev HasVerdict : FileSet → FileSet → List UnitTree → Type 0
HasVerdict old new us = ((reason : Why) × reasons us old new reason) ⊎ IsYes old new us

-- ---- the lexemes of the new sources, and the respelled old ones

lexemes_exist : (sources : List SourceFile) → (lists : List (List Lexeme)) × AreLexemesOf sources lists
lexemes_exist [] = ([], tt)
lexemes_exist (source ∷ sources) = by (files_are_cut source.bytes) (lexemes_exist sources) where
  by : ((xs : List Lexeme) × Lexed source.bytes xs) ⊎ ((f : Fault) × LexFault source.bytes f)
      → (lists : List (List Lexeme)) × AreLexemesOf sources lists → (lists : List (List Lexeme)) × AreLexemesOf (source ∷ sources) lists
  by (inl cut) rest = (cut.0 ∷ rest.0, (inl cut.1, rest.1))
  by (inr f) rest = ([] ∷ rest.0, (fault_is_uncut source.bytes f.0 f.1, rest.1))

bytes_exist : (w : Words) (n : ℕ) (sources : List SourceFile) (lists : List (List Lexeme)) → AreCut sources lists
    → (bytes : List (List ℕ)) × AreRespelledBytes w n sources bytes
bytes_exist w n [] [] h = ([], tt)
bytes_exist w n [] (xs ∷ lists) h = absurd h
bytes_exist w n (source ∷ sources) [] h = absurd h
bytes_exist w n (source ∷ sources) (xs ∷ lists) h =
    let rest = bytes_exist w (suc n) sources lists h.1 in (_ ∷ rest.0, (record { lexemes = xs; cut = h.0; bytes = refl }, rest.1))

-- ---- the sources

manifest_known : (one other : Option (List ℕ)) → (one ≡ other) ⊎ (one ≡ other → ⊥)
manifest_known None None = inl refl
manifest_known None (Some bytes) = inr (λ e. cc)
manifest_known (Some bytes) None = inr (λ e. cc)
manifest_known (Some one) (Some other) = by (bytes_eq one other) refl where
  by : (b : Bool) → bytes_eq one other ≡ b → (Some one ≡ Some other) ⊎ (Some one ≡ Some other → ⊥)
  by true e = inl (ap (λ z. Some z) ((bytes_eq-Decides one other).0 e))
  by false e = inr (λ h.
      let same : one ≡ other = (let k : Some one ≡ Some other = h in cc) in
      let wrong : true ≡ false = sym ((bytes_eq-Decides one other).1 same) ∙ e in
      cc)

-- other sources, or the same names and the same manifest
abbrev IsCompared : FileSet → FileSet → Type 0
IsCompared old new = ((name : Name) × HasOtherSources old new name)
    ⊎ ((names_of old.entries ≡ names_of new.entries) × (old.manifest ≡ new.manifest))

compared : (old new : FileSet) → IsProject old → IsProject new → IsCompared old new
compared old new p q = by (first_alone (names_of old.entries) (names_of new.entries)) refl where
  then_manifest : names_of old.entries ≡ names_of new.entries → (old.manifest ≡ new.manifest) ⊎ (old.manifest ≡ new.manifest → ⊥) → IsCompared old new
  then_manifest e (inl m) = inr (e, m)
  then_manifest e (inr n) = inl (_, manifest e n)

  by : (o : Option Name) → o ≡ first_alone (names_of old.entries) (names_of new.entries) → IsCompared old new
  by (Some name) e = inl (name, alone.found old new p q (Some name) e name refl)
  by None e = then_manifest (alone.none old new p q None e refl) (manifest_known old.manifest new.manifest)

-- ---- the verdict

module _ (old new : FileSet) (p : IsProject old) (us : List UnitTree) (accepts : Accepts old us)
    (names : names_of old.entries ≡ names_of new.entries) (same : old.manifest ≡ new.manifest)
    (lists : List (List Lexeme)) (cut : AreLexemesOf new.entries lists) where
  abbrev r : Renaming
  r = candidate lists (binders_of us)

  abbrev news : List (List ℕ)
  news = map (λ (s : SourceFile). s.bytes) new.entries

  sound : IsSound us
  sound = read_is_sound old us p accepts.reads

  no_other : IsMet (IsSources old new) → ⊥
  no_other = no_sources old new names same

  module _ (bytes : AreRespelledBytes (mapped_words us r) 0 old.entries news) where
    module _ (free : (d : Place) (y : Name) → Changes us r d y → IsFree us d) where
      respelling : AreRespelling old new us lists
      respelling = record { project = p; reads = accepts.reads; cut = cut; names = names; manifest = same; bytes = bytes; free = free }

      abbrev vs : List UnitTree
      vs = respell us (changed us r)

      reads : Reads new vs
      reads = still old new us lists respelling

      faulted : (o : Option fault.Fault) → IsFirstFault (name_of vs) (facts us) (facts vs) o → HasVerdict old new us
      faulted (Some f) h =
          inl (why.Broken f, then_broken us old new lists cut no_other (no_bytes us r old new bytes) (no_fixed us r old new free) f (vs, reads, h))
      faulted None h = inr (record {
        none = no_reason us old new lists cut no_other (no_bytes us r old new bytes) (no_fixed us r old new free)
            (no_broken us r old new vs reads h);
        list = changes lists (binders_of us);
        changes = (lists, cut, refl);
      })

      freed : HasVerdict old new us
      freed = let f = first_fault (name_of vs) (facts us) (facts vs) in faulted f.0 f.1

    held : (o : Option Place) → IsLeastHeld us (changes lists (binders_of us)) o → HasVerdict old new us
    held (Some at) h =
        inl (why.Fixed at, then_fixed us old new lists cut no_other (no_bytes us r old new bytes) at (least_fixed us sound lists at h))
    held None h = freed (all_free us sound lists h)

    same_bytes : HasVerdict old new us
    same_bytes = let h = least_held us (changes lists (binders_of us)) in held h.0 h.1

  parted : (sources : List (List ℕ)) → AreRespelledBytes (mapped_words us r) 0 old.entries sources → (sources ≡ news) ⊎ SomePart sources news
      → HasVerdict old new us
  parted sources h (inl e) = same_bytes (subst (AreRespelledBytes (mapped_words us r) 0 old.entries) e h)
  parted sources h (inr part) =
      inl (why.Bytes part.0 part.1, then_bytes us old new lists cut no_other part.0 part.1 (sources, h, part.2))

  size : (sources : List (List ℕ)) → AreRespelledBytes (mapped_words us r) 0 old.entries sources → length sources ≡ length news
  size sources h =
      sym (as_many (mapped_words us r) 0 old.entries sources h)
      ∙ (sym (length-map old.entries (λ (s : SourceFile). s.name))
      ∙ (ap (λ (l : List (List ℕ)). length l) names
      ∙ (length-map new.entries (λ (s : SourceFile). s.name) ∙ sym (length-map new.entries (λ (s : SourceFile). s.bytes)))))

  judged : HasVerdict old new us
  judged =
      let cuts = all_cut 0 old.entries accepts.reads.trees accepts.reads.read in
      let sources = bytes_exist (mapped_words us r) 0 old.entries cuts.0 cuts.1 in
      parted sources.0 sources.1 (files_part_or_same sources.0 news (size sources.0 sources.1))

-- ---- the answer

-- a vector of these elements
abbrev vector : (list : List Changed) → length list ≤ 2097152000 → Vec Changed
vector list few = record {
  ptr = null_ptr;
  len = length list;
  cap = length list;
  alloc = record { memory = record { seal = tt } };
  items = list;
  ok = (refl, omega arith);
  small = omega (arith, few);
}

-- there is an answer
abbrev HasAnswer : FileSet → FileSet → Type 0
HasAnswer old new = (answer : Result Verdict Refusal) × Verdicts old new answer

pub verdicts_are_answered : VerdictsAreAnswered
verdicts_are_answered old new p q = by (files_are_decided old) where
  said : (us : List UnitTree) → Accepts old us → HasVerdict old new us → HasAnswer old new
  said us accepts (inl reason) = (Ok (No reason.0), (us, accepts, reason.1))
  said us accepts (inr h) =
      let lists = h.changes.0 in
      let few = few_changes old us p accepts.reads lists in
      (Ok (Yes (vector (changes lists (binders_of us)) few)), (us, accepts, (h.none, (lists, h.changes.1, refl))))

  accepted : (us : List UnitTree) → Accepts old us → IsCompared old new → HasAnswer old new
  accepted us accepts (inl other) = said us accepts (inl (why.Sources other.0, inl other.1))
  accepted us accepts (inr same) =
      let lexemes = lexemes_exist new.entries in
      said us accepts (judged old new p us accepts same.0 same.1 lexemes.0 lexemes.1)

  read : (us : List UnitTree) → Reads old us → IsDecided (refusals_of_project us) → HasAnswer old new
  read us reads (inl met) = (Err met.0, inr (us, reads, met.1))
  read us reads (inr none) = accepted us (record { reads = reads; none = none }) (compared old new p q)

  by : HasReading old → HasAnswer old new
  by (inr unread) = (Err unread.0, inl unread.1)
  by (inl reading) = read reading.0 reading.1 (project_decided reading.0)
