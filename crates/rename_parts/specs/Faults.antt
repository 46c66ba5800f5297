-- A fault of a renaming, as a refusal (own).
use Rattle.rotor_base.specs.declared.refusal.Refusal.{Refusal}
use Rattle.rotor_base.specs.declared.refusal.Refusal.TheVariants as refusal
use Rattle.capture_check.specs.declared.fault.Fault.{Fault}
use Rattle.capture_check.specs.declared.fault.Fault.TheVariants as fault

abbrev pub refusal_of_fault : Fault → Refusal
refusal_of_fault (fault.Clash first again) = refusal.Clash first again
refusal_of_fault (fault.Capture at was would) = refusal.Capture at was would
refusal_of_fault (fault.Mislink item was would) = refusal.Mislink item was would
