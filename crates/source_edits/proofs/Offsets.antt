-- The offsets of spans rise, and their positions are those of the ranges.
use Rattle.std.proofs.Common.{◌≡◌, ℕ, zero, suc, ◌<◌, ◌≤◌, List, [], ◌∷◌, length, map, get_or, refl, ap, arith}
use Rattle.std.specs.List.Sorted.{IsNonDecreasing}
use Rattle.text_places.specs.declared.counting.Counting.{Counting}
use Rattle.text_places.specs.Marks.{position_of}
use Rattle.source_edits.specs.declared.ranges.Span.{Span}
use Rattle.source_edits.specs.declared.ranges.TextRange.{TextRange}
use Rattle.source_edits.specs.Ranges.{AreOrdered, ends_of, paired, range_of}

-- numbers that do not fall, from `low` on
abbrev Rises : ℕ → List ℕ → Type 0
Rises low [] = Unit {0}
Rises low (x ∷ xs) = (low ≤ x) × Rises x xs

rises_above : (low : ℕ) (xs : List ℕ) (j d : ℕ) → Rises low xs → j < length xs → low ≤ get_or xs j d
rises_above low [] j d r lt = absurd (omega arith)
rises_above low (x ∷ xs) zero d r lt = r.0
rises_above low (x ∷ xs) (suc j) d r lt = omega (arith, r.0, rises_above x xs j d r.1 (omega arith))

rises_along : (low : ℕ) (xs : List ℕ) (i j d : ℕ) → Rises low xs → i ≤ j → j < length xs → get_or xs i d ≤ get_or xs j d
rises_along low [] i j d r le lt = absurd (omega arith)
rises_along low (x ∷ xs) zero zero d r le lt = omega arith
rises_along low (x ∷ xs) zero (suc j) d r le lt = rises_above x xs j d r.1 (omega arith)
rises_along low (x ∷ xs) (suc i) zero d r le lt = absurd (omega arith)
rises_along low (x ∷ xs) (suc i) (suc j) d r le lt = rises_along x xs i j d r.1 (omega arith) (omega arith)

ends_rise : (from : ℕ) (spans : List Span) → AreOrdered from spans → Rises from (ends_of spans)
ends_rise from [] h = tt
ends_rise from (span ∷ spans) h = (h.0, (h.1, ends_rise span.end spans h.2))

pub ends_are_ordered : (spans : List Span) → AreOrdered 0 spans → IsNonDecreasing (ends_of spans)
ends_are_ordered spans h = λ i j d le lt. rises_along 0 (ends_of spans) i j d (ends_rise 0 spans h) le lt

-- the positions of the ends are those of the ranges
pub paired-ends_of : (counting : Counting) (source : List ℕ) (spans : List Span)
    → paired (map (λ offset. position_of counting offset source) (ends_of spans)) ≡ map (range_of counting source) spans
paired-ends_of counting source [] = refl
paired-ends_of counting source (span ∷ spans) =
    ap (λ (ranges : List TextRange). range_of counting source span ∷ ranges) (paired-ends_of counting source spans)
