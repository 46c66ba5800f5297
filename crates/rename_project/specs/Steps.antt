-- What the steps of a call answer (own).
use Rattle.std.specs.Prelude.{◌≡◌, ◌⊎◌}
use Rattle.rotor_base.specs.declared.refusal.Refusal.{Refusal}
use Rattle.rotor_base.specs.declared.refusal.Refusal.TheVariants as refusal
use Rattle.capture_check.specs.Fault.{IsMet}

-- a refusal meets a condition, or there was no memory
abbrev pub IsRefusedFor : (Refusal → Type 0) → Refusal → Type 0
IsRefusedFor c why = c why ⊎ (why ≡ refusal.Memory)

-- nothing meets a condition
abbrev pub IsFreeOf : (Refusal → Type 0) → Type 0
IsFreeOf c = IsMet c → ⊥
