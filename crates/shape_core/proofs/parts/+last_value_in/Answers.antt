use Rattle.std.proofs.Common.{◌≡◌, ◌-◌, ◌∙◌, None, length, ap, sym, arith, length-append}
use Rattle.shape_core.specs.Looks.{last_where, of_name}
use Rattle.shape_core.specs.Node.{entries_of}
use Rattle.shape_core.specs.Parts.{part_list, parts_list}
use Rattle.shape_core.proofs.Split.{split, split_length}
use Rattle.shape_core.proofs.parts.+last_value_in.Goals as goal
use Rattle.shape_core.proofs.parts.+last_value_in.Goals.{in-Some-later, in-None-later}

pub len-requires : goal.len-requires
len-requires t c =
    let n = split_length c.args.parts.now c.in-Some.rest.now c.in-Some.part.now c.in-Some.ensures.cases.0 in
    omega (arith, n, c.requires, c.ranges.number.fits)

pub overflow_sub-before : goal.overflow_sub-before
overflow_sub-before t c =
    let n = split_length c.args.parts.now c.in-Some.rest.now c.in-Some.part.now c.in-Some.ensures.cases.0 in
    omega (arith, n, c.requires, c.len.ensures)

pub last_value_in-earlier-requires : goal.last_value_in-earlier-requires
last_value_in-earlier-requires t c =
    let n = split_length c.args.parts.now c.in-Some.rest.now c.in-Some.part.now c.in-Some.ensures.cases.0 in
    (omega (arith, c.decreases, c.in-Some.ensures.cases.1), omega (arith, n, c.requires, c.len.ensures))

pub returns-after-later : goal.returns-after-later
returns-after-later t c =
    let rest = parts_list c.in-Some.rest.now in
    let part = part_list c.in-Some.part.now in
    let test = of_name c.args.name.now in
    let whole = split c.args.parts.now c.in-Some.rest.now c.in-Some.part.now c.in-Some.ensures.cases.0 in
    let n = split_length c.args.parts.now c.in-Some.rest.now c.in-Some.part.now c.in-Some.ensures.cases.0 in
    let before : c.args.number - c.len.result ≡ length rest = omega (arith, n, c.requires, c.len.ensures) in
    let earlier : c.last_val-later.result ≡ None → c.match-later.earlier ≡ last_where test (entries_of rest) = elim c.match-later.branch [
      | in-Some-later w ↦ λ e. absurd (let k = sym w.in-Some-later.is ∙ e in cc)
      | in-None-later w ↦ λ e. w.earlier-is ∙ w.last_value_in-earlier.ensures
    ] in
    c.last_of_both.ensures test rest part (omega (arith, n, c.requires, c.ranges.number.fits, length-append rest part)) before
    c.darks.ensures.number earlier c.last_val-later.ensures
    ∙ sym (ap (λ l. last_where test (entries_of l)) whole)
