-- The first refusal that findings give is the first of a renaming.
use Rattle.std.proofs.Common.{◌≡◌, ◌≢◌, inl, inr, List, Bool, true, false, true≢false, Option, Some, None, bytes_eq, refl, sym, ◌∙◌}
use Rattle.std.proofs.lemmas.Slice.Eq.{bytes_eq-Decides}
use Rattle.rotor_base.specs.declared.place.Place.{Place}
use Rattle.rotor_base.specs.declared.place.Foot.{Foot}
use Rattle.rotor_base.specs.declared.refusal.Refusal.{Refusal}
use Rattle.rotor_base.specs.declared.refusal.Refusal.TheVariants as refusal
use Rattle.rotor_base.specs.declared.source.SourceFile.{SourceFile}
use Rattle.rotor_base.specs.Name.{is_value_name}
use Rattle.ml_trees.specs.Tree.{UnitTree}
use Rattle.shape_core.specs.Shape.{Name}
use Rattle.binding_model.specs.Facts.{facts}
use Rattle.binding_model.specs.Renaming.{name_of}
use Rattle.capture_check.specs.Fault.{IsMet, before}
use Rattle.rename_model.specs.Ladder.{no_more}
use Rattle.rename_model.specs.Foot.{IsHit}
use Rattle.rename_model.specs.Renaming.{IsOperatorAt, IsPunAt, IsBlurredAt, IsOperator, IsBadName, IsSameName, IsOutside, IsPun, IsBlurred, IsGrown}
use Rattle.rename_model.specs.Renaming.{IsClash, IsCapture, IsMislink, watch_of, renamed, refusals_of_binder}
use Rattle.rename_parts.specs.Leasts.{IsLeastOrNone}
use Rattle.rename_parts.specs.Findings.{refusal_of, IsFree}

-- the rungs behind the first six
abbrev pub Rest : List UnitTree → Place → Foot → Name → List SourceFile → Refusal → Type 0
Rest us d foot new sources =
    before (IsGrown sources us (watch_of us d foot new))
    (before (IsClash us (renamed us (watch_of us d foot new)))
    (before (IsCapture us (renamed us (watch_of us d foot new)))
    (before (IsMislink us (renamed us (watch_of us d foot new)))
    no_more)))

module _ (us : List UnitTree) (d : Place) (foot : Foot) (new : Name) where
  -- what the findings say
  pub record Says (op va sa : Bool) (ou pu bl : Option Place) : Type 0 where
    pub met : op ≡ true → IsOperator us foot refusal.Operator
    pub words : op ≡ false → (p : Place) → IsHit us foot p → IsOperatorAt us p → ⊥
    pub valid : va ≡ is_value_name new
    pub same : sa ≡ bytes_eq new (name_of us d)
    pub outside : ou ≡ foot.outside
    pub pun : IsLeastOrNone (λ p. IsHit us foot p × IsPunAt us p) pu
    pub blurred : IsLeastOrNone (IsBlurredAt (facts us) foot) bl

  operator_free : ((p : Place) → IsHit us foot p → IsOperatorAt us p → ⊥) → IsMet (IsOperator us foot) → ⊥
  operator_free f (refusal.Operator, h) = f h.0 h.1 h.2
  operator_free f (_, h) = h

  name_free : is_value_name new ≡ true → IsMet (IsBadName new) → ⊥
  name_free e (refusal.BadName, h) = true≢false (sym e ∙ h)
  name_free e (_, h) = h

  same_free : (new ≢ name_of us d) → IsMet (IsSameName us d new) → ⊥
  same_free f (refusal.SameName, h) = f h
  same_free f (_, h) = h

  outside_free : foot.outside ≡ None → IsMet (IsOutside foot) → ⊥
  outside_free e (refusal.Outside at, h) = let wrong : None ≡ Some at = sym e ∙ h in cc
  outside_free e (_, h) = h

  pun_free : ((p : Place) → IsHit us foot p × IsPunAt us p → ⊥) → IsMet (IsPun us foot) → ⊥
  pun_free f (refusal.Pun at, h) = f at h.there
  pun_free f (_, h) = h

  blurred_free : ((p : Place) → IsBlurredAt (facts us) foot p → ⊥) → IsMet (IsBlurred us foot) → ⊥
  blurred_free f (refusal.Blurred at, h) = f at h.there
  blurred_free f (_, h) = h

  abbrev pub Told : Option Refusal → Type 0
  Told None = IsFree us d foot new
  Told (Some why) = (sources : List SourceFile) → refusals_of_binder sources us d foot new why

  same_is : true ≡ bytes_eq new (name_of us d) → new ≡ name_of us d
  same_is e = (bytes_eq-Decides new (name_of us d)).0 (sym e)

  other_is : false ≡ bytes_eq new (name_of us d) → new ≢ name_of us d
  other_is e q = true≢false (sym ((bytes_eq-Decides new (name_of us d)).1 q) ∙ sym e)

  pub told : (op va sa : Bool) (ou pu bl : Option Place) → Says op va sa ou pu bl
      → Told (refusal_of (record { operator = op; valid = va; same = sa; outside = ou; pun = pu; blurred = bl }))
  told true va sa ou pu bl s = λ sources. inl (s.met refl)
  told false false sa ou pu bl s = λ sources. inr (operator_free (s.words refl), inl (sym s.valid))
  told false true true ou pu bl s = λ sources. inr (operator_free (s.words refl), inr (name_free (sym s.valid), inl (same_is s.same)))
  told false true false (Some at) pu bl s =
      λ sources. inr (operator_free (s.words refl), inr (name_free (sym s.valid), inr (same_free (other_is s.same), inl (sym s.outside))))
  told false true false None (Some at) bl s = λ sources.
      inr (
        operator_free (s.words refl),
        inr (name_free (sym s.valid), inr (same_free (other_is s.same), inr (outside_free (sym s.outside), inl s.pun))),
      )
  told false true false None None (Some at) s = λ sources.
      inr (
        operator_free (s.words refl),
        inr (name_free (sym s.valid), inr (same_free (other_is s.same), inr (outside_free (sym s.outside), inr (pun_free s.pun, inl s.blurred)))),
      )
  told false true false None None None s = record {
    words = s.words refl;
    valid = sym s.valid;
    other = other_is s.same;
    inside = sym s.outside;
    plain = λ p h k. s.pun p (h, k);
    clear = s.blurred;
  }

  -- the six conditions are free, and then the rest of the ladder is what is met
  pub past_six : (sources : List SourceFile) (why : Refusal) → IsFree us d foot new → Rest us d foot new sources why
      → refusals_of_binder sources us d foot new why
  past_six sources why f r =
      inr (
        operator_free f.words,
        inr (
          name_free f.valid,
          inr
              (same_free f.other, inr (outside_free f.inside, inr (pun_free (λ p h. f.plain p h.0 h.1), inr (blurred_free f.clear, r)))),
        ),
      )

  -- if nothing meets the six conditions nor the rest, nothing meets the ladder
  pub none_met : (sources : List SourceFile) → IsFree us d foot new → (IsMet (Rest us d foot new sources) → ⊥) → (why : Refusal)
      → refusals_of_binder sources us d foot new why → ⊥
  none_met sources f n why (inl h) = operator_free f.words (why, h)
  none_met sources f n why (inr (a, inl h)) = name_free f.valid (why, h)
  none_met sources f n why (inr (a, inr (b, inl h))) = same_free f.other (why, h)
  none_met sources f n why (inr (a, inr (b, inr (c, inl h)))) = outside_free f.inside (why, h)
  none_met sources f n why (inr (a, inr (b, inr (c, inr (e, inl h))))) = pun_free (λ p k. f.plain p k.0 k.1) (why, h)
  none_met sources f n why (inr (a, inr (b, inr (c, inr (e, inr (g, inl h)))))) = blurred_free f.clear (why, h)
  none_met sources f n why (inr (a, inr (b, inr (c, inr (e, inr (g, inr (i, h))))))) = n (why, h)
