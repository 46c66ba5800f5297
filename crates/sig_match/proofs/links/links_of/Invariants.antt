use Rattle.std.proofs.Common.{◌≡◌, map, take}
use Rattle.sig_match.specs.Walk.{mets}
use Rattle.sig_match.specs.Matched.{link_of}
use Rattle.sig_match.proofs.links.links_of.Given as goal

abbrev pub invariant-loop-meeting : goal.invariant-loop-meeting
invariant-loop-meeting l = l.links.items ≡ map link_of (mets (take l.meeting-index l.meetings))
