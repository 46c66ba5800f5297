use Rattle.std.proofs.Common.{◌≡◌, ◌+◌, ◌-◌, ◌==◌, Bool, true, false, cond, get_or, length, take, ap, ◌∙◌, arith}
use Rattle.std.proofs.lemmas.List.{length-take-le}
use Rattle.std.proofs.lemmas.Bool.Decides.{nat_tests}
use Rattle.text_places.specs.People.{column_behind}
use Rattle.text_places.proofs.Counted.{column_split}
use Rattle.text_places.proofs.people.column_in.Goals as goal

pub returns-then-byte-eq10 : goal.returns-then-byte-eq10
returns-then-byte-eq10 c =
    let rest = c.loop-rest.rest.now in
    let is : (get_or rest (length rest - 1) 0 == 10) ≡ true = grind (arith, nat_tests, c.if-byte-eq10.true) in
    let one : column_behind 1 rest ≡ 1
    = column_split rest c.in-len1-up.len_at_least ∙ ap (λ (t : Bool). cond t 1 (column_behind 1 (take (length rest - 1) rest) + 1)) is in
    omega (arith, one, c.loop-rest.invariant.column)

pub loop-rest-preserved : goal.loop-rest-preserved
loop-rest-preserved c =
    let rest = c.loop-rest.rest.now in
    let not : (get_or rest (length rest - 1) 0 == 10) ≡ false = grind (arith, nat_tests, c.if-byte-eq10.false) in
    let more : column_behind 1 rest ≡ column_behind 1 (take (length rest - 1) rest) + 1
    = column_split rest c.in-len1-up.len_at_least ∙ ap (λ (t : Bool). cond t 1 (column_behind 1 (take (length rest - 1) rest) + 1)) not in
    record { column = omega (arith, more, c.loop-rest.invariant.column); within = omega (arith, length-take-le (length rest - 1) rest (omega arith)) }
