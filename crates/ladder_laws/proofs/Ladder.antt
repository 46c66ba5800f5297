-- The ladder of a project is decided.
use Rattle.std.proofs.Common.{◌≡◌, ◌⊎◌, inl, inr, List, Option, Some, None, refl, sym, ◌∙◌}
use Rattle.rotor_base.specs.declared.place.Place.{Place}
use Rattle.rotor_base.specs.declared.refusal.Refusal.{Refusal}
use Rattle.rotor_base.specs.declared.refusal.Refusal.TheVariants as refusal
use Rattle.ml_trees.specs.Tree.{UnitTree}
use Rattle.binding_model.specs.Facts.{facts, unmatched}
use Rattle.binding_model.specs.Renaming.{name_of}
use Rattle.binding_model.specs.Sums.{heavy}
use Rattle.capture_check.specs.Fault.{IsMet, before, Repeats, IsLeastRepeat}
use Rattle.rename_model.specs.Ladder.{no_more}
use Rattle.rename_model.specs.Project.{IsDuplicate, IsHeavy, IsUnmatched, refusals_of_project}
use Rattle.ladder_laws.specs.Laws.{IsDecided}
use Rattle.ladder_laws.proofs.Repeats.{repeats_decided}

pub decided_before : (c rest : Refusal → Type 0) → IsDecided c → IsDecided rest → IsDecided (before c rest)
decided_before c rest (inl m) r = inl (m.0, inl m.1)
decided_before c rest (inr n) (inl m) = inl (m.0, inr (n, m.1))
decided_before c rest (inr n) (inr k) = inr (λ m. elim m.1 [ inl h ↦ n (m.0, h) | inr h ↦ k (m.0, h.1) ])

pub decided_end : IsDecided no_more
decided_end = inr (λ m. m.1)

module _ (us : List UnitTree) where
  duplicate_decided : IsDecided (IsDuplicate us)
  duplicate_decided = by (repeats_decided (name_of us) (facts us).groups) where
    none : ((f a : Place) → Repeats (name_of us) (facts us).groups f a → ⊥) → IsMet (IsDuplicate us) → ⊥
    none n (refusal.Duplicate f a, k) = n f a k.repeats
    none n (_, k) = k

    by : ((f : Place) × (a : Place) × IsLeastRepeat (name_of us) (facts us).groups f a)
        ⊎ ((f a : Place) → Repeats (name_of us) (facts us).groups f a → ⊥) → IsDecided (IsDuplicate us)
    by (inl r) = inl (refusal.Duplicate r.0 r.1, r.2)
    by (inr n) = inr (none n)

  heavy_decided : IsDecided (IsHeavy us)
  heavy_decided = by (heavy us) refl where
    none : heavy us ≡ None → IsMet (IsHeavy us) → ⊥
    none e (refusal.Heavy at, k) = let wrong : None ≡ Some at = sym e ∙ k in cc
    none e (_, k) = k

    by : (o : Option Place) → heavy us ≡ o → IsDecided (IsHeavy us)
    by (Some at) e = inl (refusal.Heavy at, e)
    by None e = inr (none e)

  unmatched_decided : IsDecided (IsUnmatched us)
  unmatched_decided = by (unmatched us) refl where
    none : unmatched us ≡ None → IsMet (IsUnmatched us) → ⊥
    none e (refusal.Unmatched at, k) = let wrong : None ≡ Some at = sym e ∙ k in cc
    none e (_, k) = k

    by : (o : Option Place) → unmatched us ≡ o → IsDecided (IsUnmatched us)
    by (Some at) e = inl (refusal.Unmatched at, e)
    by None e = inr (none e)

  pub project_decided : IsDecided (refusals_of_project us)
  project_decided =
      decided_before (IsDuplicate us) (before (IsHeavy us) (before (IsUnmatched us) no_more)) duplicate_decided
      (decided_before (IsHeavy us) (before (IsUnmatched us) no_more) heavy_decided
      (decided_before (IsUnmatched us) no_more unmatched_decided decided_end))
