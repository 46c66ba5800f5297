use Rattle.std.proofs.Common.{◌∙◌, ap, sym, length, arith, length-append}
use Rattle.shape_core.specs.Node.{entries_of}
use Rattle.shape_core.specs.Parts.{part_list, parts_list}
use Rattle.shape_core.specs.Shape.{darks, last_place}
use Rattle.shape_core.proofs.Split.{split, split_length}
use Rattle.shape_core.proofs.parts.+darks_in_parts.Goals as goal

pub darks_in_parts-requires : goal.darks_in_parts-requires
darks_in_parts-requires t c =
    let n = split_length c.args.parts.now c.in-Some.rest.now c.in-Some.part.now c.in-Some.ensures.cases.0 in
    (omega (arith, c.decreases, c.in-Some.ensures.cases.1), omega (arith, n, c.requires))

pub darks-requires : goal.darks-requires
darks-requires t c =
    let n = split_length c.args.parts.now c.in-Some.rest.now c.in-Some.part.now c.in-Some.ensures.cases.0 in omega (arith, n, c.requires)

pub returns-in-Some-clause-number : goal.returns-in-Some-clause-number
returns-in-Some-clause-number t c =
    let rest = parts_list c.in-Some.rest.now in
    let part = part_list c.in-Some.part.now in
    let whole = split c.args.parts.now c.in-Some.rest.now c.in-Some.part.now c.in-Some.ensures.cases.0 in
    let n = split_length c.args.parts.now c.in-Some.rest.now c.in-Some.part.now c.in-Some.ensures.cases.0 in
    c.count_both.ensures.number rest part (omega (arith, n, c.requires, length-append rest part)) c.darks_in_parts.ensures.number
    c.darks.ensures.number
    ∙ sym (ap (λ l. length (darks (entries_of l))) whole)

pub returns-in-Some-clause-last : goal.returns-in-Some-clause-last
returns-in-Some-clause-last t c =
    let rest = parts_list c.in-Some.rest.now in
    let part = part_list c.in-Some.part.now in
    let whole = split c.args.parts.now c.in-Some.rest.now c.in-Some.part.now c.in-Some.ensures.cases.0 in
    c.count_both.ensures.last rest part c.darks_in_parts.ensures.last c.darks.ensures.last ∙ sym (ap (λ l. last_place (darks (entries_of l))) whole)
