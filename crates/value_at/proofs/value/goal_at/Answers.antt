use Rattle.std.proofs.Common.{◌∙◌, sym}
use Rattle.value_at.proofs.Uses.{goal_here}
use Rattle.value_at.proofs.value.goal_at.Goals as goal

pub returns-then-eq : goal.returns-then-eq
returns-then-eq c =
    goal_here c.args.refs.now c.loop-reference.reference-index _ c.args.place _ c.loop-reference-test.true (sym c.eq.ensures ∙ c.if-eq.true)
    c.loop-reference.invariant
