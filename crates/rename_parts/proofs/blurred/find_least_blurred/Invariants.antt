use Rattle.rename_parts.specs.Leasts.{IsLeastOrNone}
use Rattle.rename_parts.proofs.Blurring.{RefBelow, Below}
use Rattle.rename_parts.proofs.blurred.find_least_blurred.Given as goal

-- the least among the references so far
abbrev pub invariant-loop-reference : goal.invariant-loop-reference
invariant-loop-reference l = IsLeastOrNone (RefBelow l.members l.refs l.reference-index) l.least

-- the least among the references and the links so far
abbrev pub invariant-loop-link : goal.invariant-loop-link
invariant-loop-link l = IsLeastOrNone (Below l.members l.refs l.links l.link-index) l.least
