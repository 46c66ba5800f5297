use Rattle.std.proofs.Common.{◌≡◌, drop}
use Rattle.explain.specs.Blurs.{blurring_link}
use Rattle.explain.proofs.blurs.blurring_link.Given as goal

-- what is left decides
abbrev pub invariant-loop-link : goal.invariant-loop-link
invariant-loop-link l = blurring_link (drop l.link-index l.links) l.at ≡ blurring_link l.links l.at
