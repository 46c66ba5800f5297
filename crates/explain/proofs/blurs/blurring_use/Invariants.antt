use Rattle.std.proofs.Common.{◌≡◌, drop}
use Rattle.explain.specs.Blurs.{blurring_use}
use Rattle.explain.proofs.blurs.blurring_use.Given as goal

-- what is left decides
abbrev pub invariant-loop-reference : goal.invariant-loop-reference
invariant-loop-reference l = blurring_use (drop l.reference-index l.refs) l.at ≡ blurring_use l.refs l.at
