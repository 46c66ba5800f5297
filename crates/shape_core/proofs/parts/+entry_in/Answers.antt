use Rattle.std.proofs.Common.{◌≡◌, ◌-◌, ◌∙◌, ◌<◌, ◌≤◌, length, slice_get, ap, sym, arith}
use Rattle.shape_core.specs.Parts.{part_list, parts_list}
use Rattle.shape_core.proofs.Split.{split, split_length, get_front, get_back}
use Rattle.shape_core.proofs.parts.+entry_in.Goals as goal

pub len-requires : goal.len-requires
len-requires t c =
    let n = split_length c.args.parts.now c.in-Some.rest.now c.in-Some.part.now c.in-Some.ensures.cases.0 in
    omega (arith, n, c.requires, c.ranges.number.fits)

pub overflow_sub-before : goal.overflow_sub-before
overflow_sub-before t c =
    let n = split_length c.args.parts.now c.in-Some.rest.now c.in-Some.part.now c.in-Some.ensures.cases.0 in
    omega (arith, n, c.requires, c.len.ensures)

pub entry_in-requires : goal.entry_in-requires
entry_in-requires t c =
    let n = split_length c.args.parts.now c.in-Some.rest.now c.in-Some.part.now c.in-Some.ensures.cases.0 in
    (omega (arith, c.decreases, c.in-Some.ensures.cases.1), omega (arith, n, c.requires, c.len.ensures))

pub returns-then-at-before : goal.returns-then-at-before
returns-then-at-before t c =
    let rest = c.in-Some.rest.now in
    let part = c.in-Some.part.now in
    let n = split_length c.args.parts.now rest part c.in-Some.ensures.cases.0 in
    let within : c.args.at < length (parts_list rest) = omega (arith, n, c.requires, c.len.ensures, c.if-at-before.true) in
    c.entry_in.ensures
    ∙ sym (ap (λ l. slice_get l c.args.at) (split c.args.parts.now rest part c.in-Some.ensures.cases.0)
    ∙ get_front (parts_list rest) (part_list part) c.args.at within)

pub returns-else-at-before : goal.returns-else-at-before
returns-else-at-before t c =
    let rest = c.in-Some.rest.now in
    let part = c.in-Some.part.now in
    let n = split_length c.args.parts.now rest part c.in-Some.ensures.cases.0 in
    let past : length (parts_list rest) ≤ c.args.at = omega (arith, n, c.requires, c.len.ensures, c.if-at-before.false) in
    let before : c.args.number - c.len.result ≡ length (parts_list rest) = omega (arith, n, c.requires, c.len.ensures) in
    c.get.ensures
    ∙ ap (λ k. slice_get (part_list part) (c.args.at - k)) before
    ∙ sym (ap (λ l. slice_get l c.args.at) (split c.args.parts.now rest part c.in-Some.ensures.cases.0)
    ∙ get_back (parts_list rest) (part_list part) c.args.at past)
