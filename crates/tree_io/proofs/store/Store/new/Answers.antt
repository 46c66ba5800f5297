use Rattle.std.proofs.Common.{ap, ◌∙◌}
use Rattle.tree_io.specs.Slots.{are_distinct}
use Rattle.tree_io.proofs.store.Store.new.Goals as goal

pub invariant_of-result : goal.invariant_of-result
invariant_of-result c = record { distinct = ap are_distinct c.in_ok-slots.ensures.names ∙ c.requires }
