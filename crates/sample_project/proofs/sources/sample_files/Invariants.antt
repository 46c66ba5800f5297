use Rattle.std.proofs.Common.{◌≡◌, ◌++◌, drop, flat_map}
use Rattle.sample_project.specs.Sources.{nonzero_digits, numbers, sources_below, with_digits}
use Rattle.sample_project.proofs.sources.sample_files.Given as goal

-- with the digits that are left, the sources are those of all numbers
abbrev pub invariant-loop-digit : goal.invariant-loop-digit
invariant-loop-digit l = l.sources.items ++ sources_below l.units (flat_map with_digits (drop l.digit-index nonzero_digits)) ≡ sources_below l.units
    numbers
