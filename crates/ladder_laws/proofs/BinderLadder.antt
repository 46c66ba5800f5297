-- The ladder of a renaming is decided, if the sources can be respelled.
use Rattle.std.proofs.Common.{◌≡◌, ◌⊎◌, inl, inr, ℕ, List, Bool, true, false, Option, Some, None, refl, sym, ap, ◌∙◌}
use Rattle.std.proofs.lemmas.Slice.Eq.{bytes_eq-Decides}
use Rattle.std.specs.Prelude.{bytes_eq}
use Rattle.rotor_base.specs.Files.{are_over}
use Rattle.rotor_base.specs.Name.{is_value_name}
use Rattle.rotor_base.specs.Place.{IsBefore}
use Rattle.rotor_base.specs.declared.looks.Watch.{Watch}
use Rattle.rotor_base.specs.declared.place.Foot.{Foot}
use Rattle.rotor_base.specs.declared.place.Goal.{Goal}
use Rattle.rotor_base.specs.declared.place.Goal.TheVariants.{Decl}
use Rattle.rotor_base.specs.declared.place.Place.{Place}
use Rattle.rotor_base.specs.declared.refusal.Refusal.{Refusal}
use Rattle.rotor_base.specs.declared.refusal.Refusal.TheVariants as refusal
use Rattle.rotor_base.specs.declared.source.SourceFile.{SourceFile}
use Rattle.ml_syntax.specs.RespelledSource.{AreRespelled}
use Rattle.ml_trees.specs.Tree.{UnitTree}
use Rattle.shape_core.specs.Shape.{Name}
use Rattle.binding_model.specs.Facts.{facts}
use Rattle.binding_model.specs.Renaming.{in_file, name_of}
use Rattle.capture_check.specs.Fault.{IsMet, before, Repeats, IsLeastRepeat, IsFirstDiffering, of_ref, of_link}
use Rattle.rename_model.specs.Bytes.{position_with}
use Rattle.rename_model.specs.Foot.{IsHit}
use Rattle.rename_model.specs.Ladder.{no_more}
use Rattle.rename_model.specs.Renaming.{IsOperatorAt, IsPunAt, IsBlurredAt, IsOperator, IsBadName, IsSameName, IsOutside, IsPun, IsBlurred, IsGrown}
use Rattle.rename_model.specs.Renaming.{IsClash, IsCapture, IsMislink, watch_of, renamed, renamed_words, refusals_of_binder}
use Rattle.rename_model.proofs.One.{one_sources}
use Rattle.ladder_laws.proofs.Differing.{refs_differ, links_differ}
use Rattle.ladder_laws.specs.Laws.{IsDecided}
use Rattle.ladder_laws.proofs.Ladder.{decided_before, decided_end}
use Rattle.ladder_laws.proofs.Least.{Decides}
use Rattle.ladder_laws.proofs.Marks.{operator_decided, pun_decided, blurred_decided}
use Rattle.ladder_laws.proofs.Repeats.{repeats_decided}

module _ (us : List UnitTree) (foot : Foot) where
  operator_on : IsDecided (IsOperator us foot)
  operator_on = by (operator_decided us foot) where
    none : ((p : Place) → IsHit us foot p × IsOperatorAt us p → ⊥) → IsMet (IsOperator us foot) → ⊥
    none n (refusal.Operator, k) = n k.0 (k.1, k.2)
    none n (_, k) = k

    by : Decides IsBefore (λ p. IsHit us foot p × IsOperatorAt us p) → IsDecided (IsOperator us foot)
    by (inl l) = inl (refusal.Operator, (l.it, l.has.0, l.has.1))
    by (inr n) = inr (none n)

  outside_on : IsDecided (IsOutside foot)
  outside_on = by foot.outside refl where
    none : foot.outside ≡ None → IsMet (IsOutside foot) → ⊥
    none e (refusal.Outside at, k) = let wrong : None ≡ Some at = sym e ∙ k in cc
    none e (_, k) = k

    by : (o : Option Place) → foot.outside ≡ o → IsDecided (IsOutside foot)
    by (Some at) e = inl (refusal.Outside at, e)
    by None e = inr (none e)

  pun_on : IsDecided (IsPun us foot)
  pun_on = by (pun_decided us foot) where
    none : ((p : Place) → IsHit us foot p × IsPunAt us p → ⊥) → IsMet (IsPun us foot) → ⊥
    none n (refusal.Pun at, k) = n at k.there
    none n (_, k) = k

    by : Decides IsBefore (λ p. IsHit us foot p × IsPunAt us p) → IsDecided (IsPun us foot)
    by (inl l) = inl (refusal.Pun l.it, record { there = l.has; least = l.least })
    by (inr n) = inr (none n)

  blurred_on : IsDecided (IsBlurred us foot)
  blurred_on = by (blurred_decided (facts us) foot) where
    none : ((p : Place) → IsBlurredAt (facts us) foot p → ⊥) → IsMet (IsBlurred us foot) → ⊥
    none n (refusal.Blurred at, k) = n at k.there
    none n (_, k) = k

    by : Decides IsBefore (IsBlurredAt (facts us) foot) → IsDecided (IsBlurred us foot)
    by (inl l) = inl (refusal.Blurred l.it, record { there = l.has; least = l.least })
    by (inr n) = inr (none n)

bad_on : (new : Name) → IsDecided (IsBadName new)
bad_on new = by (is_value_name new) refl where
  none : is_value_name new ≡ true → IsMet (IsBadName new) → ⊥
  none e (refusal.BadName, k) = let no : is_value_name new ≡ false = k in let wrong : true ≡ false = sym e ∙ no in cc
  none e (_, k) = k

  by : (b : Bool) → is_value_name new ≡ b → IsDecided (IsBadName new)
  by true e = inr (none e)
  by false e = inl (refusal.BadName, e)

same_on : (us : List UnitTree) (d : Place) (new : Name) → IsDecided (IsSameName us d new)
same_on us d new = by (bytes_eq new (name_of us d)) refl where
  none : bytes_eq new (name_of us d) ≡ false → IsMet (IsSameName us d new) → ⊥
  none e (refusal.SameName, k) =
      let yes : bytes_eq new (name_of us d) ≡ true = (bytes_eq-Decides new (name_of us d)).1 k in
      let wrong : true ≡ false = sym yes ∙ e in
      cc
  none e (_, k) = k

  by : (b : Bool) → bytes_eq new (name_of us d) ≡ b → IsDecided (IsSameName us d new)
  by true e = inl (refusal.SameName, (bytes_eq-Decides new (name_of us d)).0 e)
  by false e = inr (none e)

grown_on : (sources : List SourceFile) (us : List UnitTree) (w : Watch) (news : List SourceFile)
    → AreRespelled (in_file (renamed_words us w)) 0 sources news → IsDecided (IsGrown sources us w)
grown_on sources us w news h = by (position_with are_over news) refl where
  none : position_with are_over news ≡ None → IsMet (IsGrown sources us w) → ⊥
  none e (refusal.Grown file, k) =
      let same = one_sources (renamed_words us w) 0 sources k.0 news k.1 h in
      let wrong : None ≡ Some file = sym e ∙ (ap (position_with are_over) (sym same) ∙ k.2) in
      cc
  none e (_, k) = k

  by : (o : Option ℕ) → position_with are_over news ≡ o → IsDecided (IsGrown sources us w)
  by (Some file) e = inl (refusal.Grown file, (news, h, e))
  by None e = inr (none e)

module _ (us vs : List UnitTree) where
  clash_on : IsDecided (IsClash us vs)
  clash_on = by (repeats_decided (name_of vs) (facts vs).groups) where
    none : ((f a : Place) → Repeats (name_of vs) (facts vs).groups f a → ⊥) → IsMet (IsClash us vs) → ⊥
    none n (refusal.Clash f a, k) = n f a k.repeats
    none n (_, k) = k

    by : ((f : Place) × (a : Place) × IsLeastRepeat (name_of vs) (facts vs).groups f a)
        ⊎ ((f a : Place) → Repeats (name_of vs) (facts vs).groups f a → ⊥) → IsDecided (IsClash us vs)
    by (inl r) = inl (refusal.Clash r.0 r.1, r.2)
    by (inr n) = inr (none n)

  capture_on : IsDecided (IsCapture us vs)
  capture_on = by (refs_differ (facts us).refs (facts vs).refs) where
    none : ((at : Place) (was would : Goal) → IsFirstDiffering of_ref (facts us).refs (facts vs).refs at was would → ⊥) → IsMet (IsCapture us vs) → ⊥
    none n (refusal.Capture at was would, k) = n at was would k
    none n (_, k) = k

    by : ((at : Place) × (was : Goal) × (would : Goal) × IsFirstDiffering of_ref (facts us).refs (facts vs).refs at was would)
        ⊎ ((at : Place) (was would : Goal) → IsFirstDiffering of_ref (facts us).refs (facts vs).refs at was would → ⊥) → IsDecided (IsCapture us vs)
    by (inl c) = inl (refusal.Capture c.0 c.1 c.2, c.3)
    by (inr n) = inr (none n)

  mislink_on : IsDecided (IsMislink us vs)
  mislink_on = by (links_differ (facts us).links (facts vs).links) where
    none : ((at : Place) (was would : Goal) → IsFirstDiffering of_link (facts us).links (facts vs).links at was would → ⊥)
        → IsMet (IsMislink us vs) → ⊥
    none n (refusal.Mislink (Decl item) was would, k) = n item was would k
    none n (_, k) = k

    by : ((at : Place) × (was : Goal) × (would : Goal) × IsFirstDiffering of_link (facts us).links (facts vs).links at was would)
        ⊎ ((at : Place) (was would : Goal) → IsFirstDiffering of_link (facts us).links (facts vs).links at was would → ⊥)
        → IsDecided (IsMislink us vs)
    by (inl c) = inl (refusal.Mislink (Decl c.0) c.1 c.2, c.3)
    by (inr n) = inr (none n)

module _ (sources : List SourceFile) (us : List UnitTree) (d : Place) (foot : Foot) (new : Name) (news : List SourceFile)
    (h : AreRespelled (in_file (renamed_words us (watch_of us d foot new))) 0 sources news) where
  abbrev W : Watch
  W = watch_of us d foot new

  abbrev vs : List UnitTree
  vs = renamed us W

  abbrev From10 : Refusal → Type 0
  From10 = before (IsMislink us vs) no_more

  abbrev From9 : Refusal → Type 0
  From9 = before (IsCapture us vs) From10

  abbrev From8 : Refusal → Type 0
  From8 = before (IsClash us vs) From9

  abbrev From7 : Refusal → Type 0
  From7 = before (IsGrown sources us W) From8

  abbrev From6 : Refusal → Type 0
  From6 = before (IsBlurred us foot) From7

  abbrev From5 : Refusal → Type 0
  From5 = before (IsPun us foot) From6

  abbrev From4 : Refusal → Type 0
  From4 = before (IsOutside foot) From5

  abbrev From3 : Refusal → Type 0
  From3 = before (IsSameName us d new) From4

  abbrev From2 : Refusal → Type 0
  From2 = before (IsBadName new) From3

  pub binder_decided : IsDecided (refusals_of_binder sources us d foot new)
  binder_decided =
      decided_before (IsOperator us foot) From2 (operator_on us foot)
      (decided_before (IsBadName new) From3 (bad_on new)
      (decided_before (IsSameName us d new) From4 (same_on us d new)
      (decided_before (IsOutside foot) From5 (outside_on us foot)
      (decided_before (IsPun us foot) From6 (pun_on us foot)
      (decided_before (IsBlurred us foot) From7 (blurred_on us foot)
      (decided_before (IsGrown sources us W) From8 (grown_on sources us W news h)
      (decided_before (IsClash us vs) From9 (clash_on us vs)
      (decided_before (IsCapture us vs) From10 (capture_on us vs)
      (decided_before (IsMislink us vs) no_more (mislink_on us vs) decided_end)))))))))
