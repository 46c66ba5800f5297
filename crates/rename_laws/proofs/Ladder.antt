-- What is free of a ladder is free of each of its conditions.
use Rattle.std.proofs.Common.{inl, inr}
use Rattle.capture_check.specs.Fault.{IsMet, before}

pub not_first : {R : Type 0} (c rest : R → Type 0) → (IsMet (before c rest) → ⊥) → IsMet c → ⊥
not_first c rest h m = h (m.0, inl m.1)

pub not_rest : {R : Type 0} (c rest : R → Type 0) → (IsMet (before c rest) → ⊥) → IsMet rest → ⊥
not_rest c rest h m = h (m.0, inr (not_first c rest h, m.1))

pub none_met : {R : Type 0} (c rest : R → Type 0) → (IsMet c → ⊥) → (IsMet rest → ⊥) → IsMet (before c rest) → ⊥
none_met c rest h k m = elim m.1 [ inl x ↦ h (m.0, x) | inr x ↦ k (m.0, x.1) ]
