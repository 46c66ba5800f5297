-- A refusal that is a fault is one of the last three of a renaming.
use Rattle.std.proofs.Common.{◌≡◌, inl, inr, ℕ, suc, List, [], ◌∷◌, Bool, true, false, true≢false, Option, Some, None, refl, ap, sym, ◌∙◌}
use Rattle.rotor_base.specs.Files.{FileSet}
use Rattle.rotor_base.specs.Name.{is_value_name}
use Rattle.rotor_base.specs.declared.place.Place.{Place}
use Rattle.rotor_base.specs.declared.place.Goal.TheVariants.{Decl, Outside, Missing, Hidden, Blur}
use Rattle.rotor_base.specs.declared.place.Foot.{Foot}
use Rattle.rotor_base.specs.declared.refusal.Refusal.{Refusal}
use Rattle.rotor_base.specs.declared.refusal.Refusal.TheVariants as refusal
use Rattle.rotor_base.specs.declared.source.SourceFile.{SourceFile}
use Rattle.rotor_base.specs.declared.target.Target.{Target}
use Rattle.ml_trees.specs.Tree.{UnitTree}
use Rattle.shape_core.specs.Shape.{Name}
use Rattle.binding_model.specs.Facts.{facts}
use Rattle.binding_model.specs.Renaming.{name_of}
use Rattle.capture_check.specs.declared.fault.Fault.{Fault}
use Rattle.capture_check.specs.declared.fault.Fault.TheVariants as fault
use Rattle.capture_check.specs.Fault.{IsMet, faults}
use Rattle.capture_check.specs.Fault as found
use Rattle.project_reading.specs.Reads.{Unread}
use Rattle.project_reading.specs.Source.{IsUnread, bad, long_name, form, deep, syntax}
use Rattle.project_reading.specs.Sources.{FirstUnread}
use Rattle.rename_model.specs.Project.{IsDuplicate, IsHeavy, IsUnmatched, refusals_of_project}
use Rattle.rename_model.specs.Foot.{IsHit}
use Rattle.rename_model.specs.Renaming.{IsOperator, IsBadName, IsSameName, IsOutside, IsPun, IsPunAt, IsBlurred, IsBlurredAt, IsGrown, IsClash}
use Rattle.rename_model.specs.Renaming.{IsCapture, IsMislink, HasNoTarget, watch_of, renamed, refusals_of_binder}
use Rattle.rename_parts.specs.Faults.{refusal_of_fault}
use Rattle.rename_parts.specs.Findings.{IsFree}
use Rattle.rename_files.specs.Answer.{Rejects}
use Rattle.rename_files.specs.Steps.{LastRungs}
use Rattle.rename_laws.proofs.Leasts.{no_least_is_none}

-- ---- a fault is no refusal of files or of a project

abbrev is_fault : Refusal → Bool
is_fault (refusal.Clash first again) = true
is_fault (refusal.Capture at was would) = true
is_fault (refusal.Mislink item was would) = true
is_fault _ = false

of_fault : (f : Fault) → is_fault (refusal_of_fault f) ≡ true
of_fault (fault.Clash first again) = refl
of_fault (fault.Capture at was would) = refl
of_fault (fault.Mislink item was would) = refl

unread_source : (n : ℕ) (s : SourceFile) (why : Refusal) → IsUnread n s why → is_fault why ≡ false
unread_source n s _ (bad m h) = refl
unread_source n s _ (long_name m h) = refl
unread_source n s _ (form xs m k cut f) = refl
unread_source n s _ (deep xs m cut f d) = refl
unread_source n s _ (syntax xs p none) = refl

unread_first : (n : ℕ) (ss : List SourceFile) (why : Refusal) → FirstUnread n ss why → is_fault why ≡ false
unread_first n [] why h = absurd h
unread_first n (s ∷ ss) why (inl h) = unread_source n s why h
unread_first n (s ∷ ss) why (inr h) = unread_first (suc n) ss why h.2

unread : (files : FileSet) (why : Refusal) → Unread files why → is_fault why ≡ false
unread files why (inl h) = unread_first 0 files.entries why h
unread files why (inr h) = ap is_fault h.1

module _ (us : List UnitTree) where
  duplicate : (why : Refusal) → IsDuplicate us why → is_fault why ≡ false
  duplicate (refusal.Duplicate first again) h = refl
  duplicate _ h = absurd h

  heavy : (why : Refusal) → IsHeavy us why → is_fault why ≡ false
  heavy (refusal.Heavy at) h = refl
  heavy _ h = absurd h

  unmatched : (why : Refusal) → IsUnmatched us why → is_fault why ≡ false
  unmatched (refusal.Unmatched item) h = refl
  unmatched _ h = absurd h

  of_project : (why : Refusal) → refusals_of_project us why → is_fault why ≡ false
  of_project why (inl h) = duplicate why h
  of_project why (inr (n, inl h)) = heavy why h
  of_project why (inr (n, inr (m, inl h))) = unmatched why h
  of_project why (inr (n, inr (m, inr (k, h)))) = absurd h

rejected : (files : FileSet) (why : Refusal) → Rejects files why → is_fault why ≡ false
rejected files why (inl h) = unread files why h
rejected files why (inr h) = of_project h.0 why h.2

pub no_fault_rejects : (files : FileSet) (f : Fault) → Rejects files (refusal_of_fault f) → ⊥
no_fault_rejects files f h = true≢false (sym (of_fault f) ∙ rejected files (refusal_of_fault f) h)

pub has_target : (files : FileSet) (us : List UnitTree) (target : Target) (f : Fault) → HasNoTarget files us target (refusal_of_fault f) → ⊥
has_target files us target (fault.Clash first again) h = h
has_target files us target (fault.Capture at was would) h = h
has_target files us target (fault.Mislink item was would) h = h

-- ---- it is one of the last three

module _ (sources : List SourceFile) (us : List UnitTree) (d : Place) (foot : Foot) (new : Name) where
  abbrev vs : List UnitTree
  vs = renamed us (watch_of us d foot new)

  record IsLate (why : Refusal) : Type 0 where
    pub word : IsOperator us foot why → ⊥
    pub name : IsBadName new why → ⊥
    pub other : IsSameName us d new why → ⊥
    pub inside : IsOutside foot why → ⊥
    pub plain : IsPun us foot why → ⊥
    pub clear : IsBlurred us foot why → ⊥
    pub small : IsGrown sources us (watch_of us d foot new) why → ⊥

  late : (f : Fault) → IsLate (refusal_of_fault f)
  late (fault.Clash first again) =
      record { word = λ h. h; name = λ h. h; other = λ h. h; inside = λ h. h; plain = λ h. h; clear = λ h. h; small = λ h. h }
  late (fault.Capture at was would) =
      record { word = λ h. h; name = λ h. h; other = λ h. h; inside = λ h. h; plain = λ h. h; clear = λ h. h; small = λ h. h }
  late (fault.Mislink item was would) =
      record { word = λ h. h; name = λ h. h; other = λ h. h; inside = λ h. h; plain = λ h. h; clear = λ h. h; small = λ h. h }

  -- the earlier refusals do not hold
  pub record IsFaulted (why : Refusal) : Type 0 where
    pub free : IsFree us d foot new
    pub small : IsMet (IsGrown sources us (watch_of us d foot new)) → ⊥
    pub last : LastRungs us (watch_of us d foot new) why

  valid : (IsMet (IsBadName new) → ⊥) → (b : Bool) → is_value_name new ≡ b → is_value_name new ≡ true
  valid n true e = e
  valid n false e = absurd (n (refusal.BadName, e))

  inside : (IsMet (IsOutside foot) → ⊥) → (o : Option Place) → foot.outside ≡ o → foot.outside ≡ None
  inside n None e = e
  inside n (Some at) e = absurd (n (refusal.Outside at, e))

  past : (why : Refusal) → IsLate why → refusals_of_binder sources us d foot new why → IsFaulted why
  past why l (inl h) = absurd (l.word h)
  past why l (inr (a, inl h)) = absurd (l.name h)
  past why l (inr (a, inr (b, inl h))) = absurd (l.other h)
  past why l (inr (a, inr (b, inr (c, inl h)))) = absurd (l.inside h)
  past why l (inr (a, inr (b, inr (c, inr (e, inl h))))) = absurd (l.plain h)
  past why l (inr (a, inr (b, inr (c, inr (e, inr (g, inl h)))))) = absurd (l.clear h)
  past why l (inr (a, inr (b, inr (c, inr (e, inr (g, inr (i, inl h))))))) = absurd (l.small h)
  past why l (inr (a, inr (b, inr (c, inr (e, inr (g, inr (i, inr (j, h)))))))) = record {
    free = record {
      words = λ p k x. a (refusal.Operator, (p, k, x));
      valid = valid b (is_value_name new) refl;
      other = λ k. c (refusal.SameName, k);
      inside = inside e foot.outside refl;
      plain = λ p k x. no_least_is_none (λ q. IsHit us foot q × IsPunAt us q) (λ at m. g (refusal.Pun at, m)) p (k, x);
      clear = λ p x. no_least_is_none (IsBlurredAt (facts us) foot) (λ at m. i (refusal.Blurred at, m)) p x;
    };
    small = j;
    last = h;
  }

  clash : (f : Fault) → IsClash us vs (refusal_of_fault f) → found.IsClash (name_of vs) (facts vs).groups f
  clash (fault.Clash first again) h = h
  clash (fault.Capture at was would) h = h
  clash (fault.Mislink item was would) h = h

  capture : (f : Fault) → IsCapture us vs (refusal_of_fault f) → found.IsCapture (facts us).refs (facts vs).refs f
  capture (fault.Clash first again) h = h
  capture (fault.Capture at was would) h = h
  capture (fault.Mislink item was would) h = h

  mislink : (f : Fault) → IsMislink us vs (refusal_of_fault f) → found.IsMislink (facts us).links (facts vs).links f
  mislink (fault.Clash first again) h = h
  mislink (fault.Capture at was would) h = h
  mislink (fault.Mislink (Decl item) was would) h = h
  mislink (fault.Mislink Outside was would) h = h
  mislink (fault.Mislink Missing was would) h = h
  mislink (fault.Mislink Hidden was would) h = h
  mislink (fault.Mislink (Blur by n o) was would) h = h

  no_clash : (IsMet (IsClash us vs) → ⊥) → IsMet (found.IsClash (name_of vs) (facts vs).groups) → ⊥
  no_clash n (fault.Clash first again, h) = n (refusal.Clash first again, h)
  no_clash n (fault.Capture at was would, h) = h
  no_clash n (fault.Mislink item was would, h) = h

  no_capture : (IsMet (IsCapture us vs) → ⊥) → IsMet (found.IsCapture (facts us).refs (facts vs).refs) → ⊥
  no_capture n (fault.Clash first again, h) = h
  no_capture n (fault.Capture at was would, h) = n (refusal.Capture at was would, h)
  no_capture n (fault.Mislink item was would, h) = h

  -- the fault is the first of the renamed project
  pub is_fault_of : (f : Fault) → LastRungs us (watch_of us d foot new) (refusal_of_fault f) → faults (name_of vs) (facts us) (facts vs) f
  is_fault_of f (inl h) = inl (clash f h)
  is_fault_of f (inr (n, inl h)) = inr (no_clash n, inl (capture f h))
  is_fault_of f (inr (n, inr (m, inl h))) = inr (no_clash n, inr (no_capture m, mislink f h))
  is_fault_of f (inr (n, inr (m, inr (k, h)))) = absurd h

  pub faulted : (f : Fault) → refusals_of_binder sources us d foot new (refusal_of_fault f) → IsFaulted (refusal_of_fault f)
  faulted f h = past (refusal_of_fault f) (late f) h
