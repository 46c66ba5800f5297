use Rattle.std.proofs.Common.{◌≡◌, List, ap, sym, ◌∙◌, map, subst}
use Rattle.std.specs.Prelude.{IfOk}
use Rattle.std.specs.List.Sorted.{IsNonDecreasing}
use Rattle.text_places.specs.Marks.{position_of}
use Rattle.source_edits.specs.declared.ranges.TextRange.{TextRange}
use Rattle.source_edits.specs.Ranges.{paired, range_of}
use Rattle.source_edits.proofs.Offsets.{ends_are_ordered, paired-ends_of}
use Rattle.source_edits.proofs.ranges.ranges_of.Goals as goal

pub positions_of-requires-clause-ordered : goal.positions_of-requires-clause-ordered
positions_of-requires-clause-ordered c =
    subst IsNonDecreasing (sym (c.deref.ensures.value ∙ c.in_ok-offsets.ensures)) (ends_are_ordered c.args.spans.now c.requires.ordered)

pub returns : goal.returns
returns c =
    let offsets = c.deref.ensures.value ∙ c.in_ok-offsets.ensures in
    let positions = c.deref-2.ensures.value ∙ c.in_ok-positions.ensures in
    let ranges : paired c.deref-2.result.now ≡ map (range_of c.args.counting c.args.source.now) c.args.spans.now
    = ap paired positions ∙ ap (λ xs. paired (map (λ offset. position_of c.args.counting offset c.args.source.now) xs)) offsets
    ∙ paired-ends_of c.args.counting c.args.source.now c.args.spans.now in
    let P : List TextRange → Type 0 = λ xs. IfOk c.pair_positions.result (λ made. made.items ≡ xs) in
    subst P ranges c.pair_positions.ensures
