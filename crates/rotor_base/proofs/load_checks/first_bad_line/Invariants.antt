-- What is left of the lines and of the units gives the answer, counted on from the lines before.
use Rattle.std.proofs.Common.{◌≡◌, ◌+◌, ◌≤◌, length}
use Rattle.std.specs.Option.{option_map}
use Rattle.std.specs.Str.Lines.{lines}
use Rattle.rotor_base.specs.Files.{bad_line}
use Rattle.rotor_base.proofs.load_checks.first_bad_line.Given as goal

abbrev pub invariant-loop-line : goal.invariant-loop-line
invariant-loop-line l = record {
  counted : l.before + length l.rest ≤ 1048576;
  answer : option_map (λ number. l.before + number) (bad_line (lines l.rest) l.left.items) ≡ bad_line (lines l.fn.manifest) l.fn.units.items;
}

abbrev pub decreases-loop-line : goal.decreases-loop-line
decreases-loop-line l = length l.rest
