-- The sets have the units of the sources behind, and the least double is that of those.
use Rattle.std.proofs.Common.{◌≡◌, drop, true, false}
use Rattle.std.specs.Option.{option_copied}
use Rattle.rotor_base.specs.Files.{least_word, doubled_units}
use Rattle.rotor_base.proofs.Twins.{Has}
use Rattle.rotor_base.proofs.load_checks.least_double.Given as goal

abbrev pub invariant-loop-at : goal.invariant-loop-at
invariant-loop-at l = record {
  bodies : Has l.bodies true (drop l.at l.units);
  faces : Has l.faces false (drop l.at l.units);
  least : option_copied l.least ≡ least_word (doubled_units (drop l.at l.units));
}
