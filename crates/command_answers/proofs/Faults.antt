-- The first fault between two lists of facts, or none.
use Rattle.std.proofs.Common.{◌⊎◌, inl, inr, Option, Some, None}
use Rattle.rotor_base.specs.declared.place.Facts.{Facts}
use Rattle.rotor_base.specs.declared.place.Goal.{Goal}
use Rattle.rotor_base.specs.declared.place.Goal.TheVariants.{Decl}
use Rattle.rotor_base.specs.declared.place.Place.{Place}
use Rattle.capture_check.specs.declared.fault.Fault.{Fault}
use Rattle.capture_check.specs.declared.fault.Fault.TheVariants.{Clash, Capture, Mislink}
use Rattle.capture_check.specs.Fault.{IsCapture, IsClash, IsFirstDiffering, IsFirstFault, IsLeastRepeat, IsMet, IsMislink, Names, Repeats, before}
use Rattle.capture_check.specs.Fault.{of_link, of_ref}
use Rattle.ladder_laws.proofs.Differing.{links_differ, refs_differ}
use Rattle.ladder_laws.proofs.Repeats.{repeats_decided}

abbrev pub IsDecidedFault : (Fault → Type 0) → Type 0
IsDecidedFault c = IsMet c ⊎ (IsMet c → ⊥)

module _ (names : Names) (old new : Facts) where
  clash_known : IsDecidedFault (IsClash names new.groups)
  clash_known = by (repeats_decided names new.groups) where
    none : ((f a : Place) → Repeats names new.groups f a → ⊥) → IsMet (IsClash names new.groups) → ⊥
    none n (Clash f a, k) = n f a k.repeats
    none n (_, k) = k

    by : ((f : Place) × (a : Place) × IsLeastRepeat names new.groups f a) ⊎ ((f a : Place) → Repeats names new.groups f a → ⊥)
        → IsDecidedFault (IsClash names new.groups)
    by (inl r) = inl (Clash r.0 r.1, r.2)
    by (inr n) = inr (none n)

  capture_known : IsDecidedFault (IsCapture old.refs new.refs)
  capture_known = by (refs_differ old.refs new.refs) where
    none : ((at : Place) (was would : Goal) → IsFirstDiffering of_ref old.refs new.refs at was would → ⊥) → IsMet (IsCapture old.refs new.refs) → ⊥
    none n (Capture at was would, k) = n at was would k
    none n (_, k) = k

    by : ((at : Place) × (was : Goal) × (would : Goal) × IsFirstDiffering of_ref old.refs new.refs at was would)
        ⊎ ((at : Place) (was would : Goal) → IsFirstDiffering of_ref old.refs new.refs at was would → ⊥)
        → IsDecidedFault (IsCapture old.refs new.refs)
    by (inl c) = inl (Capture c.0 c.1 c.2, c.3)
    by (inr n) = inr (none n)

  mislink_known : IsDecidedFault (IsMislink old.links new.links)
  mislink_known = by (links_differ old.links new.links) where
    none : ((at : Place) (was would : Goal) → IsFirstDiffering of_link old.links new.links at was would → ⊥)
        → IsMet (IsMislink old.links new.links) → ⊥
    none n (Mislink (Decl item) was would, k) = n item was would k
    none n (_, k) = k

    by : ((at : Place) × (was : Goal) × (would : Goal) × IsFirstDiffering of_link old.links new.links at was would)
        ⊎ ((at : Place) (was would : Goal) → IsFirstDiffering of_link old.links new.links at was would → ⊥)
        → IsDecidedFault (IsMislink old.links new.links)
    by (inl c) = inl (Mislink (Decl c.0) c.1 c.2, c.3)
    by (inr n) = inr (none n)

  before_known : (c rest : Fault → Type 0) → IsDecidedFault c → IsDecidedFault rest → IsDecidedFault (before c rest)
  before_known c rest (inl met) r = inl (met.0, inl met.1)
  before_known c rest (inr n) (inl met) = inl (met.0, inr (n, met.1))
  before_known c rest (inr n) (inr m) = inr (λ k. elim k.1 [ inl h ↦ n (k.0, h) | inr h ↦ m (k.0, h.1) ])

  pub first_fault : (fault : Option Fault) × IsFirstFault names old new fault
  first_fault =
      by
      (before_known (IsClash names new.groups) (before (IsCapture old.refs new.refs) (IsMislink old.links new.links)) clash_known
      (before_known (IsCapture old.refs new.refs) (IsMislink old.links new.links) capture_known mislink_known))
    where
      by : IsDecidedFault (before (IsClash names new.groups) (before (IsCapture old.refs new.refs) (IsMislink old.links new.links)))
          → (fault : Option Fault) × IsFirstFault names old new fault
      by (inl met) = (Some met.0, met.1)
      by (inr none) = (None, none)
