-- How an explanation ends (own).
use Rattle.std.specs.Prelude.{Bool, true, false}
use Rattle.rotor_base.specs.declared.refusal.Refusal.{Refusal}
use Rattle.rotor_base.specs.declared.refusal.Refusal.TheVariants as refusal
use Rattle.explain.specs.declared.ending.Ending.{Ending}
use Rattle.explain.specs.declared.ending.Ending.TheVariants.{Done, Refused, Project}

-- the refusals of a renaming are Refused, and those of a project are Project
abbrev pub ending_of : Refusal → Ending
ending_of (refusal.Lex file offset) = Project
ending_of (refusal.LongName file offset) = Project
ending_of (refusal.Form at kind) = Project
ending_of (refusal.Deep at) = Project
ending_of (refusal.Syntax file) = Project
ending_of (refusal.Cycle unit) = Project
ending_of (refusal.Duplicate first again) = Project
ending_of (refusal.Heavy at) = Project
ending_of (refusal.Unmatched item) = Project
ending_of refusal.NoTarget = Refused
ending_of refusal.Operator = Refused
ending_of refusal.BadName = Refused
ending_of refusal.SameName = Refused
ending_of (refusal.Outside at) = Refused
ending_of (refusal.Pun at) = Refused
ending_of (refusal.Blurred at) = Refused
ending_of (refusal.Grown file) = Refused
ending_of (refusal.Clash first again) = Refused
ending_of (refusal.Capture at was would) = Refused
ending_of (refusal.Mislink item was would) = Refused
ending_of refusal.Memory = Project

-- the renaming is refused
abbrev pub is_refused : Ending → Bool
is_refused Refused = true
is_refused Done = false
is_refused Project = false
