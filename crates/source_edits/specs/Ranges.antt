-- The ranges of spans (Language Server Protocol 3.17, "Range").
use Rattle.std.specs.Prelude.{ℕ, ◌≤◌, List, [], ◌∷◌}
use Rattle.std.specs.List.{flat_map}
use Rattle.text_places.specs.declared.counting.Counting.{Counting}
use Rattle.text_places.specs.declared.counting.Position.{Position}
use Rattle.text_places.specs.Marks.{position_of}
use Rattle.source_edits.specs.declared.ranges.Span.{Span}
use Rattle.source_edits.specs.declared.ranges.TextRange.{TextRange}

-- each span begins at `from` or later and where the one before it ends or later, and ends where it begins or later
abbrev pub AreOrdered : ℕ → List Span → Type 0
AreOrdered from [] = Unit {0}
AreOrdered from (span ∷ spans) = (from ≤ span.start) × (span.start ≤ span.end) × AreOrdered span.end spans

-- the range of a span: from the position of its first byte up to that of the byte behind its last
abbrev pub range_of : Counting → List ℕ → Span → TextRange
range_of counting source span = record { start = position_of counting span.start source; end = position_of counting span.end source }

-- the offsets at which spans begin and end, one after the other
abbrev pub ends_of : List Span → List ℕ
ends_of spans = flat_map (λ (span : Span). span.start ∷ span.end ∷ []) spans

-- the ranges from each first of two positions up to the second
abbrev pub paired : List Position → List TextRange
paired [] = []
paired (start ∷ []) = []
paired (start ∷ (end ∷ behind)) = record { start = start; end = end } ∷ paired behind
