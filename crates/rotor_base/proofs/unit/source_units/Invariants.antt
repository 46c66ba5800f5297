-- The units of the files so far.
use Rattle.std.proofs.Common.{◌≡◌, take}
use Rattle.rotor_base.specs.Files.{units_of}
use Rattle.rotor_base.proofs.unit.source_units.Given as goal

abbrev pub invariant-loop-file : goal.invariant-loop-file
invariant-loop-file l = l.units.items ≡ units_of (take l.file-index l.files)
