use Rattle.std.proofs.Common.{◌≡◌, subst, arith}
use Rattle.std.proofs.lemmas.Grind.{common_steps}
use Rattle.unit_heads.specs.Counts.{AreCounts}
use Rattle.unit_heads.proofs.bound.Bound.push.Goals as goal

pub invariant_of-self-in-Err : goal.invariant_of-self-in-Err
invariant_of-self-in-Err c =
    let back : c.self.inside.names.items ≡ c.pop.new.self.items = grind (arith, common_steps) in
    c.in-Err.ensures.kept c.pop.new.self.items (subst (AreCounts c.self.inside.counts) back c.self.invariant)
