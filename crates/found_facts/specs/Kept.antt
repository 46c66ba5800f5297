-- The state of a resolver at its start, and what a recorder has at the end, in the order of places
-- (own).
use Rattle.std.specs.Prelude.{[], Option, Some, None}
use Rattle.rotor_base.specs.declared.looks.Looks.{Looks}
use Rattle.binding_model.specs.declared.found.Sums.{Sums}
use Rattle.binding_model.specs.declared.found.Found.{Found}
use Rattle.binding_model.specs.declared.found.Recorder.{Recorder}
use Rattle.binding_model.specs.Facts.{in_order}
use Rattle.binding_model.specs.Taken.{no_looks}

abbrev pub looks_kept : Option Recorder → Looks
looks_kept None = no_looks
looks_kept (Some r) = record r.looks { refs = in_order (λ look. look.at) r.looks.refs }

-- the state at the start, from some sums on
abbrev pub found_from : Sums → Found
found_from k = record { refs = []; links = []; groups = []; sums = k; recorder = None }
