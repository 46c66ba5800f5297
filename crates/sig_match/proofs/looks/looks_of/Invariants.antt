use Rattle.std.proofs.Common.{◌≡◌, ◌≤◌, map, take, length}
use Rattle.shape_core.specs.Looks as pure
use Rattle.sig_match.specs.Walk.{mets}
use Rattle.sig_match.specs.Tests.{look_of}
use Rattle.sig_match.proofs.looks.looks_of.Given as goal

abbrev pub invariant-loop-meeting : goal.invariant-loop-meeting
invariant-loop-meeting l =
    (l.links ≡ pure.numbered 0 (map (look_of l.watch) (mets (take l.meeting-index l.meetings))))
    × (l.passed ≡ length (map (look_of l.watch) (mets (take l.meeting-index l.meetings))))
    × (l.passed ≤ l.meeting-index)
