use Rattle.std.proofs.Common.{◌≡◌, map, take}
use Rattle.source_edits.specs.Ranges.{range_of}
use Rattle.document_scene.proofs.ranges.each_range.Given as goal

-- the ranges so far
abbrev pub invariant-loop-span : goal.invariant-loop-span
invariant-loop-span l = l.ranges.items ≡ map (range_of l.counting l.bytes) (take l.span-index l.spans)
