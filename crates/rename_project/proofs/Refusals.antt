-- What a refusal of a step is to the call that stops with it.
use Rattle.std.proofs.Common.{◌≡◌, inl, inr, List, Some, None, Ok, Err, Result, IsErr, IsErrAnd, IfErr, sym, ◌∙◌, subst}
use Rattle.rotor_base.specs.declared.place.Place.{Place}
use Rattle.rotor_base.specs.declared.refusal.Refusal.{Refusal}
use Rattle.rotor_base.specs.declared.refusal.Refusal.TheVariants as refusal
use Rattle.ml_trees.specs.Tree.{UnitTree}
use Rattle.binding_model.specs.Facts.{facts, unmatched}
use Rattle.binding_model.specs.Renaming.{name_of}
use Rattle.binding_model.specs.Sums.{heavy}
use Rattle.capture_check.specs.Fault.{Repeats}
use Rattle.rename_model.specs.Project.{IsDuplicate, IsHeavy, IsUnmatched, refusals_of_project}
use Rattle.rename_project.specs.Steps.{IsRefusedFor, IsFreeOf}

-- a call that returns the refusal of a call that it makes
pub stopped : {A : Type 0} (r : Result A Refusal) (e : Refusal) (C : Refusal → Type 0) → IsErr r × IsErrAnd r (λ x. x ≡ e) → C e → IfErr r C
stopped (Ok a) e C h k = tt
stopped (Err x) e C h k = subst C (sym h.1) k

-- ---- of a project

pub heavy_free : (us : List UnitTree) → heavy us ≡ None → (r : Refusal) → IsHeavy us r → ⊥
heavy_free us e (refusal.Heavy at) h = let wrong : None ≡ Some at = sym e ∙ h in cc
heavy_free us e _ h = h

pub unmatched_free : (us : List UnitTree) → unmatched us ≡ None → (r : Refusal) → IsUnmatched us r → ⊥
unmatched_free us e (refusal.Unmatched at) h = let wrong : None ≡ Some at = sym e ∙ h in cc
unmatched_free us e _ h = h

pub duplicate_free : (us : List UnitTree) → ((f a : Place) → Repeats (name_of us) (facts us).groups f a → ⊥) → (r : Refusal) → IsDuplicate us r → ⊥
duplicate_free us none (refusal.Duplicate f a) h = none f a h.repeats
duplicate_free us none _ h = h

pub unmatched_is : (us : List UnitTree) (e : Refusal) → IsFreeOf (IsDuplicate us) → heavy us ≡ None → (item : Place) × (unmatched us ≡ Some item)
    × (e ≡ refusal.Unmatched item)
    → IsRefusedFor (refusals_of_project us) e
unmatched_is us e d h m = subst (IsRefusedFor (refusals_of_project us)) (sym m.2) (inl (inr (d, inr ((λ met. heavy_free us h met.0 met.1), inl m.1))))
