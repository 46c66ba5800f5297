-- A project and a renaming that are free of their refusals.
use Rattle.std.proofs.Common.{◌≡◌, List, Bool, true, false, Option, Some, None, refl}
use Rattle.std.specs.Prelude.{IsTrue}
use Rattle.rotor_base.specs.Name.{is_value_name}
use Rattle.rotor_base.specs.declared.place.Place.{Place}
use Rattle.rotor_base.specs.declared.place.Foot.{Foot}
use Rattle.rotor_base.specs.declared.refusal.Refusal.{Refusal}
use Rattle.rotor_base.specs.declared.refusal.Refusal.TheVariants as refusal
use Rattle.rotor_base.specs.declared.source.SourceFile.{SourceFile}
use Rattle.ml_trees.specs.Tree.{UnitTree}
use Rattle.shape_core.specs.Shape.{Name}
use Rattle.binding_model.specs.Facts.{facts, unmatched}
use Rattle.binding_model.specs.Renaming.{name_of}
use Rattle.binding_model.specs.Sums.{heavy}
use Rattle.capture_check.specs.Fault.{IsMet, before}
use Rattle.group_laws.specs.Laws.{HasNoRepeat}
use Rattle.rename_model.specs.Ladder.{no_more}
use Rattle.rename_model.specs.Foot.{IsHit}
use Rattle.rename_model.specs.Project.{IsDuplicate, IsHeavy, IsUnmatched, refusals_of_project}
use Rattle.rename_model.specs.Renaming.{IsOperator, IsBadName, IsSameName, IsOutside, IsPun, IsPunAt, IsBlurred, IsBlurredAt, IsGrown, IsClash}
use Rattle.rename_model.specs.Renaming.{IsCapture, IsMislink, watch_of, renamed, refusals_of_binder}
use Rattle.rename_parts.specs.Findings.{IsFree}
use Rattle.rename_laws.proofs.Ladder.{not_first, not_rest}
use Rattle.rename_laws.proofs.Leasts.{no_least_is_none}

-- ---- the project

module _ (us : List UnitTree) (none : IsMet (refusals_of_project us) → ⊥) where
  abbrev After : Refusal → Type 0
  After = before (IsHeavy us) (before (IsUnmatched us) no_more)

  pub none_repeats : HasNoRepeat (name_of us) (facts us).groups
  none_repeats first again h = not_first (IsDuplicate us) After none (refusal.Duplicate first again, h)

  later : IsMet After → ⊥
  later = not_rest (IsDuplicate us) After none

  pub none_heavy : heavy us ≡ None
  none_heavy = by (heavy us) refl where
    by : (o : Option Place) → heavy us ≡ o → o ≡ None
    by None e = refl
    by (Some at) e = absurd (not_first (IsHeavy us) (before (IsUnmatched us) no_more) later (refusal.Heavy at, e))

  pub none_unmatched : unmatched us ≡ None
  none_unmatched = by (unmatched us) refl where
    by : (o : Option Place) → unmatched us ≡ o → o ≡ None
    by None e = refl
    by (Some at) e = absurd (not_first (IsUnmatched us) no_more (not_rest (IsHeavy us) (before (IsUnmatched us) no_more) later)
        (refusal.Unmatched at, e))

-- ---- the renaming

-- none of the last four refusals of a renaming holds
pub record IsLasting (sources : List SourceFile) (us : List UnitTree) (d : Place) (foot : Foot) (new : Name) : Type 0 where
  pub grown : IsMet (IsGrown sources us (watch_of us d foot new)) → ⊥
  pub clash : IsMet (IsClash us (renamed us (watch_of us d foot new))) → ⊥
  pub capture : IsMet (IsCapture us (renamed us (watch_of us d foot new))) → ⊥
  pub mislink : IsMet (IsMislink us (renamed us (watch_of us d foot new))) → ⊥

module _ (sources : List SourceFile) (us : List UnitTree) (d : Place) (foot : Foot) (new : Name)
    (none : IsMet (refusals_of_binder sources us d foot new) → ⊥) where
  abbrev From10 : Refusal → Type 0
  From10 = before (IsMislink us (renamed us (watch_of us d foot new))) no_more

  abbrev From9 : Refusal → Type 0
  From9 = before (IsCapture us (renamed us (watch_of us d foot new))) From10

  abbrev From8 : Refusal → Type 0
  From8 = before (IsClash us (renamed us (watch_of us d foot new))) From9

  abbrev From7 : Refusal → Type 0
  From7 = before (IsGrown sources us (watch_of us d foot new)) From8

  abbrev From6 : Refusal → Type 0
  From6 = before (IsBlurred us foot) From7

  abbrev From5 : Refusal → Type 0
  From5 = before (IsPun us foot) From6

  abbrev From4 : Refusal → Type 0
  From4 = before (IsOutside foot) From5

  abbrev From3 : Refusal → Type 0
  From3 = before (IsSameName us d new) From4

  abbrev From2 : Refusal → Type 0
  From2 = before (IsBadName new) From3

  n2 : IsMet From2 → ⊥
  n2 = not_rest (IsOperator us foot) From2 none

  n3 : IsMet From3 → ⊥
  n3 = not_rest (IsBadName new) From3 n2

  n4 : IsMet From4 → ⊥
  n4 = not_rest (IsSameName us d new) From4 n3

  n5 : IsMet From5 → ⊥
  n5 = not_rest (IsOutside foot) From5 n4

  n6 : IsMet From6 → ⊥
  n6 = not_rest (IsPun us foot) From6 n5

  n7 : IsMet From7 → ⊥
  n7 = not_rest (IsBlurred us foot) From7 n6

  n8 : IsMet From8 → ⊥
  n8 = not_rest (IsGrown sources us (watch_of us d foot new)) From8 n7

  n9 : IsMet From9 → ⊥
  n9 = not_rest (IsClash us (renamed us (watch_of us d foot new))) From9 n8

  n10 : IsMet From10 → ⊥
  n10 = not_rest (IsCapture us (renamed us (watch_of us d foot new))) From10 n9

  valid : (b : Bool) → is_value_name new ≡ b → IsTrue (is_value_name new)
  valid true e = e
  valid false e = absurd (not_first (IsBadName new) From3 n2 (refusal.BadName, e))

  inside : (o : Option Place) → foot.outside ≡ o → foot.outside ≡ None
  inside None e = e
  inside (Some at) e = absurd (not_first (IsOutside foot) From5 n4 (refusal.Outside at, e))

  pub first_free : IsFree us d foot new
  first_free = record {
    words = λ p h x. not_first (IsOperator us foot) From2 none (refusal.Operator, (p, h, x));
    valid = valid (is_value_name new) refl;
    other = λ e. not_first (IsSameName us d new) From4 n3 (refusal.SameName, e);
    inside = inside foot.outside refl;
    plain = λ p h x. no_least_is_none (λ q. IsHit us foot q × IsPunAt us q) (λ at l. not_first (IsPun us foot) From6 n5 (refusal.Pun at, l)) p (h, x);
    clear = λ p x. no_least_is_none (IsBlurredAt (facts us) foot) (λ at l. not_first (IsBlurred us foot) From7 n6 (refusal.Blurred at, l)) p x;
  }

  pub lasting : IsLasting sources us d foot new
  lasting = record {
    grown = not_first (IsGrown sources us (watch_of us d foot new)) From8 n7;
    clash = not_first (IsClash us (renamed us (watch_of us d foot new))) From9 n8;
    capture = not_first (IsCapture us (renamed us (watch_of us d foot new))) From10 n9;
    mislink = not_first (IsMislink us (renamed us (watch_of us d foot new))) no_more n10;
  }
