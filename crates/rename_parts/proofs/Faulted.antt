-- The first fault of the renamed project is the first of the last three refusals.
use Rattle.std.proofs.Common.{inl, inr, List, Some, None}
use Rattle.rotor_base.specs.declared.place.Goal.TheVariants.{Decl, Outside, Missing, Hidden, Blur}
use Rattle.rotor_base.specs.declared.looks.Watch.{Watch}
use Rattle.rotor_base.specs.declared.refusal.Refusal.{Refusal}
use Rattle.rotor_base.specs.declared.refusal.Refusal.TheVariants as refusal
use Rattle.ml_trees.specs.Tree.{UnitTree}
use Rattle.binding_model.specs.Facts.{facts}
use Rattle.binding_model.specs.Renaming.{name_of}
use Rattle.capture_check.specs.declared.fault.Fault.{Fault}
use Rattle.capture_check.specs.declared.fault.Fault.TheVariants as fault
use Rattle.capture_check.specs.Fault as first
use Rattle.capture_check.specs.Fault.{IsMet, before}
use Rattle.capture_check.specs.Local.{IsLocalFault}
use Rattle.rename_model.specs.Ladder.{no_more}
use Rattle.rename_model.specs.Renaming.{IsClash, IsCapture, IsMislink, renamed}
use Rattle.rename_parts.specs.Faults.{refusal_of_fault}

module _ (us : List UnitTree) (w : Watch) where
  abbrev vs : List UnitTree
  vs = renamed us w

  -- the last three rungs
  abbrev pub Last : Refusal → Type 0
  Last = before (IsClash us vs) (before (IsCapture us vs) (before (IsMislink us vs) no_more))

  abbrev C : Fault → Type 0
  C = first.IsClash (name_of vs) (facts vs).groups

  abbrev P : Fault → Type 0
  P = first.IsCapture (facts us).refs (facts vs).refs

  abbrev M : Fault → Type 0
  M = first.IsMislink (facts us).links (facts vs).links

  clash_met : IsMet (IsClash us vs) → IsMet C
  clash_met (refusal.Clash f a, h) = (fault.Clash f a, h)
  clash_met (_, h) = absurd h

  capture_met : IsMet (IsCapture us vs) → IsMet P
  capture_met (refusal.Capture at x y, h) = (fault.Capture at x y, h)
  capture_met (_, h) = absurd h

  mislink_met : IsMet (IsMislink us vs) → IsMet M
  mislink_met (refusal.Mislink (Decl i) x y, h) = (fault.Mislink (Decl i) x y, h)
  mislink_met (_, h) = absurd h

  clash_as : (f : Fault) → C f → IsClash us vs (refusal_of_fault f)
  clash_as (fault.Clash x a) h = h
  clash_as (fault.Capture at x y) h = absurd h
  clash_as (fault.Mislink i x y) h = absurd h

  capture_as : (f : Fault) → P f → IsCapture us vs (refusal_of_fault f)
  capture_as (fault.Clash x a) h = absurd h
  capture_as (fault.Capture at x y) h = h
  capture_as (fault.Mislink i x y) h = absurd h

  mislink_as : (f : Fault) → M f → IsMislink us vs (refusal_of_fault f)
  mislink_as (fault.Clash x a) h = absurd h
  mislink_as (fault.Capture at x y) h = absurd h
  mislink_as (fault.Mislink (Decl i) x y) h = h
  mislink_as (fault.Mislink Outside x y) h = absurd h
  mislink_as (fault.Mislink Missing x y) h = absurd h
  mislink_as (fault.Mislink Hidden x y) h = absurd h
  mislink_as (fault.Mislink (Blur by n o) x y) h = absurd h

  pub some_fault : (f : Fault) → IsLocalFault us w (Some f) → Last (refusal_of_fault f)
  some_fault f (inl h) = inl (clash_as f h)
  some_fault f (inr (none, inl h)) = inr ((λ met. none (clash_met met)), inl (capture_as f h))
  some_fault f (inr (none, inr (free, h))) = inr ((λ met. none (clash_met met)), inr ((λ met. free (capture_met met)), inl (mislink_as f h)))

  -- without a fault, nothing meets the last three rungs
  no_clash : IsLocalFault us w None → IsMet C → ⊥
  no_clash h met = h (met.0, inl met.1)

  no_capture : IsLocalFault us w None → IsMet P → ⊥
  no_capture h met = h (met.0, inr (no_clash h, inl met.1))

  no_mislink : IsLocalFault us w None → IsMet M → ⊥
  no_mislink h met = h (met.0, inr (no_clash h, inr (no_capture h, met.1)))

  pub no_fault : IsLocalFault us w None → IsMet Last → ⊥
  no_fault h (r, inl c) = no_clash h (clash_met (r, c))
  no_fault h (r, inr (n, inl c)) = no_capture h (capture_met (r, c))
  no_fault h (r, inr (n, inr (m, inl c))) = no_mislink h (mislink_met (r, c))
  no_fault h (r, inr (n, inr (m, inr c))) = c.1
