use Rattle.std.proofs.Common.{◌≡◌, ◌<◌, drop}
use Rattle.cli_words.specs.Target.{digits_more, number_at}
use Rattle.cli_words.proofs.target.number_of.Given as goal

-- the rest of the digits goes on from the number so far
abbrev pub invariant-loop-digit : goal.invariant-loop-digit
invariant-loop-digit l = (l.number < 4294967296) × (digits_more l.number (drop l.digit-index l.rest) ≡ number_at l.digits)
