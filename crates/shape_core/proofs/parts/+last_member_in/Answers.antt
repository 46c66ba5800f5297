use Rattle.std.proofs.Common.{◌≡◌, ◌-◌, ◌<◌, ◌≤◌, ◌^◌, ◌++◌, ◌∙◌, None, List, length, take, get_or, ap, sym, subst, arith, length-append}
use Rattle.shape_core.specs.declared.part.Part.{Part}
use Rattle.shape_core.specs.Looks.{last_where, in_foot}
use Rattle.shape_core.specs.Node.{entries_of}
use Rattle.shape_core.specs.Parts.{part_list, parts_list}
use Rattle.shape_core.specs.Shape.{darks}
use Rattle.shape_core.proofs.Split.{last_of_taken, set_same}
use Rattle.shape_core.proofs.parts.+last_member_in.Goals as goal
use Rattle.shape_core.proofs.parts.+last_member_in.Goals.{in-Some, in-None+in_ok-earlier-in-None}

pub len-requires : goal.len-requires
len-requires t c =
    let p = c.index-parts-last.result in
    let last = last_of_taken c.args.parts.now c.args.count c.args.number p c.if-count-eq0.false c.requires.count c.requires.number
    c.index-parts-last.is in
    let total = last.total in
    let k = ap (λ q. length (part_list q)) c.index-parts-last.is in
    omega (arith, total, k, c.ranges.number.fits)

pub overflow_sub-before : goal.overflow_sub-before
overflow_sub-before t c =
    let p = c.index-parts-last.result in
    let last = last_of_taken c.args.parts.now c.args.count c.args.number p c.if-count-eq0.false c.requires.count c.requires.number
    c.index-parts-last.is in
    let total = last.total in
    let k = ap (λ q. length (part_list q)) c.index-parts-last.is in
    omega (arith, total, k, c.len.ensures)

pub last_member_in-requires : goal.last_member_in-requires
last_member_in-requires t c =
    let ps = c.args.parts.now in
    let i = c.args.count - 1 in
    let p = c.index-parts-last.result in
    let last = last_of_taken ps c.args.count c.args.number p c.if-count-eq0.false c.requires.count c.requires.number c.index-parts-last.is in
    let total = last.total in
    let k = ap (λ q. length (part_list q)) c.index-parts-last.is in
    let same = set_same ps i p c.last_member.new.self c.last_member.ensures.kept in
    let few : i ≤ length ps = omega (arith, c.requires.count) in
    let before : c.args.number - c.len.result ≡ length (parts_list (take i ps)) = omega (arith, total, k, c.len.ensures) in
    let count = subst (λ (l : List Part). i ≤ length l) (sym same) few in
    let number = before ∙ ap (λ l. length (parts_list (take i l))) (sym same) in
    (omega (arith, c.decreases, c.if-count-eq0.false), (c.requires.places, (count, number)))

pub returns-clause-found : goal.returns-clause-found
returns-clause-found t c w is =
    let ps = c.args.parts.now in
    let i = c.args.count - 1 in
    let p = c.index-parts-last.result in
    let last = last_of_taken ps c.args.count c.args.number p c.if-count-eq0.false c.requires.count c.requires.number c.index-parts-last.is in
    let front = parts_list (take i ps) in
    let test = in_foot w in
    let total = last.total in
    let at : part_list p ≡ part_list (get_or ps i p) = ap part_list c.index-parts-last.is in
    let same = set_same ps i p c.last_member.new.self c.last_member.ensures.kept in
    let k = ap length at in
    let few : length (front ++ part_list p) < 2 ^ 64 = omega (arith, total, c.ranges.number.fits, length-append front (part_list p)) in
    let before : c.args.number - c.len.result ≡ length front = omega (arith, total, k, c.len.ensures) in
    let number : c.darks-darks.result.0 ≡ length (darks (entries_of (part_list p))) =
    c.darks-darks.ensures.number ∙ ap (λ l. length (darks (entries_of l))) (sym at) in
    let later : c.in_ok-later.later ≡ last_where test (entries_of (part_list p)) =
    c.in_ok-later.ensures.found w is ∙ ap (λ l. last_where test (entries_of l)) (sym at) in
    let earlier : c.in_ok-later.later ≡ None → c.match-later.earlier ≡ last_where test (entries_of front) = elim c.match-later.branch [
      | in-Some v ↦ λ e. absurd (let k = sym v.in-Some.is ∙ e in cc)
      | in-None+in_ok-earlier-in-None v ↦
          λ e. v.earlier-is ∙ v.in_ok-earlier-in-None.ensures.found w is ∙ ap (λ l. last_where test (entries_of (parts_list (take i l)))) same
    ] in
    c.last_of_both.ensures test front (part_list p) few before number earlier later
    ∙ sym (ap (λ l. last_where test (entries_of l)) last.whole)
