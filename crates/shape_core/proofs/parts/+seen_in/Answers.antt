use Rattle.std.proofs.Common.{◌∙◌, sym, subst, arith, length-append}
use Rattle.shape_core.specs.Node.{entries_of}
use Rattle.shape_core.specs.Parts.{part_list, parts_list}
use Rattle.shape_core.specs.View.{Sees}
use Rattle.shape_core.proofs.Both.{seen_if_later}
use Rattle.shape_core.proofs.Split.{split, split_length}
use Rattle.shape_core.proofs.parts.+seen_in.Goals as goal

pub seen-seen-requires : goal.seen-seen-requires
seen-seen-requires t c =
    let n = split_length c.args.parts.now c.in-Some.rest.now c.in-Some.part.now c.in-Some.ensures.cases.0 in omega (arith, n, c.requires)

pub returns-then-is_some : goal.returns-then-is_some
returns-then-is_some t c =
    let rest = parts_list c.in-Some.rest.now in
    let part = part_list c.in-Some.part.now in
    subst (λ l. Sees (entries_of l) c.args.name.now c.seen-seen.result)
    (sym (split c.args.parts.now c.in-Some.rest.now c.in-Some.part.now c.in-Some.ensures.cases.0))
    (seen_if_later rest part c.args.name.now c.seen-seen.result (sym c.is_some.ensures ∙ c.if-is_some.true) c.seen-seen.ensures)

pub seen_in-requires : goal.seen_in-requires
seen_in-requires t c =
    let n = split_length c.args.parts.now c.in-Some.rest.now c.in-Some.part.now c.in-Some.ensures.cases.0 in
    (omega (arith, c.decreases, c.in-Some.ensures.cases.1), omega (arith, n, c.requires))

pub returns-else-is_some : goal.returns-else-is_some
returns-else-is_some t c =
    let rest = parts_list c.in-Some.rest.now in
    let part = part_list c.in-Some.part.now in
    let whole = split c.args.parts.now c.in-Some.rest.now c.in-Some.part.now c.in-Some.ensures.cases.0 in
    let n = split_length c.args.parts.now c.in-Some.rest.now c.in-Some.part.now c.in-Some.ensures.cases.0 in
    subst (λ l. Sees (entries_of l) c.args.name.now c.see_both.result) (sym whole)
    (c.see_both.ensures rest part c.args.name.now (omega (arith, n, c.requires, length-append rest part)) c.seen_in.ensures c.seen-seen.ensures)
