use Rattle.std.proofs.Common.{◌≡◌, map, take}
use Rattle.source_edits.specs.declared.ranges.TextRange.{TextRange}
use Rattle.source_edits.proofs.text_edit.text_edits.Given as goal

abbrev pub invariant-loop-range : goal.invariant-loop-range
invariant-loop-range l = l.list.items ≡ map (λ (range : TextRange). record { range = range; text = l.new }) (take l.range-index l.range-items)
