use Rattle.std.proofs.Common.{◌<◌, length, arith}
use Rattle.std.proofs.lemmas.Grind.{common_steps}
use Rattle.rotor_base.proofs.Loads.{takes_named, names_none}
use Rattle.rotor_base.proofs.load_checks.takes_unit.Goals as goal

pub returns-then-not-names_one-clause-bad : goal.returns-then-not-names_one-clause-bad
returns-then-not-names_one-clause-bad c =
    let some : 0 < length c.args.line.now = grind (arith, common_steps) in
    λ _. names_none c.args.line.now _ some (grind (arith, common_steps))

pub returns-clause-good : goal.returns-clause-good
returns-clause-good c =
    let some : 0 < length c.args.line.now = grind (arith, common_steps) in
    λ _. rw c.take_named.ensures (takes_named c.args.line.now _ some (grind (arith, common_steps)))
