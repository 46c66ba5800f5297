-- The first of the refusals that do not keep a project from being surveyed.
use Rattle.std.proofs.Common.{◌≡◌, inl, inr, List, Some, None, sym, ◌∙◌}
use Rattle.rotor_base.specs.declared.place.Place.{Place}
use Rattle.rotor_base.specs.declared.refusal.Refusal.{Refusal}
use Rattle.rotor_base.specs.declared.refusal.Refusal.TheVariants as refusal
use Rattle.ml_trees.specs.Tree.{UnitTree}
use Rattle.binding_model.specs.Facts.{facts, unmatched}
use Rattle.binding_model.specs.Renaming.{name_of}
use Rattle.capture_check.specs.Fault.{Repeats}
use Rattle.rename_model.specs.Project.{IsDuplicate, IsUnmatched}
use Rattle.rename_survey.specs.Survey.{IsFirstBad}

duplicate_free : (us : List UnitTree) → ((f a : Place) → Repeats (name_of us) (facts us).groups f a → ⊥) → (r : Refusal) → IsDuplicate us r → ⊥
duplicate_free us none (refusal.Duplicate f a) h = none f a h.repeats
duplicate_free us none _ h = h

unmatched_free : (us : List UnitTree) → unmatched us ≡ None → (r : Refusal) → IsUnmatched us r → ⊥
unmatched_free us e (refusal.Unmatched at) h = let wrong : None ≡ Some at = sym e ∙ h in cc
unmatched_free us e _ h = h

pub none_bad : (us : List UnitTree) → ((f a : Place) → Repeats (name_of us) (facts us).groups f a → ⊥) → unmatched us ≡ None → IsFirstBad us None
none_bad us d u (why, inl h) = duplicate_free us d why h
none_bad us d u (why, inr (n, inl h)) = unmatched_free us u why h
none_bad us d u (why, inr (n, inr (m, h))) = h

pub unmatched_bad : (us : List UnitTree) (item : Place) → ((f a : Place) → Repeats (name_of us) (facts us).groups f a → ⊥) → unmatched us ≡ Some item
    → IsFirstBad us (Some (refusal.Unmatched item))
unmatched_bad us item d u = inr ((λ met. duplicate_free us d met.0 met.1), inl u)
