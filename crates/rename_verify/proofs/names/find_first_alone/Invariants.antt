use Rattle.std.proofs.Common.{◌≡◌, drop}
use Rattle.rotor_base.specs.Files.{names_of}
use Rattle.rename_verify.specs.Scans.{first_alone}
use Rattle.rename_verify.proofs.names.find_first_alone.Given as goal

-- what the names that are left give is what all give
abbrev pub invariant-loop-at : goal.invariant-loop-at
invariant-loop-at l = first_alone (names_of (drop l.at l.olds)) (names_of (drop l.at l.news)) ≡ first_alone (names_of l.olds) (names_of l.news)
