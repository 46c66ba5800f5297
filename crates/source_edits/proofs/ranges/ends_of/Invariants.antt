use Rattle.std.proofs.Common.{◌≡◌, take}
use Rattle.source_edits.specs.Ranges.{ends_of}
use Rattle.source_edits.proofs.ranges.ends_of.Given as goal

abbrev pub invariant-loop-span : goal.invariant-loop-span
invariant-loop-span l = l.offsets.items ≡ ends_of (take l.span-index l.spans)
