use Rattle.std.proofs.Common.{◌≡◌, ◌++◌, ◌+◌, ◌*◌, drop, flat_map}
use Rattle.sample_project.specs.Sources.{digits, sources_below, with_digit, with_digits}
use Rattle.sample_project.proofs.sources.push_with_digits.Given as goal

-- with the digits that are left, the sources are those of all of them
abbrev pub invariant-loop-digit : goal.invariant-loop-digit
invariant-loop-digit l = l.sources.items ++ sources_below l.units (flat_map (λ digit. with_digit (10 * l.number + digit)) (drop l.digit-index digits))
    ≡ l.fn.sources.items ++ sources_below l.units (with_digits l.number)
