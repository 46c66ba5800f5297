use Rattle.std.proofs.Common.{rules, arith}
use Rattle.shape_core.proofs.Sizes.{most_size}
use Rattle.shape_core.proofs.shared.+sharing.Goals as goal

-- the entries of a structure are smaller than its form
pub Form::drop-drop-self-requires : goal.Form::drop-drop-self-requires
Form::drop-drop-self-requires t c κs = (((grind (arith, c.decreases, most_size c.self-1.given.0.0.items), tt {0}), tt {0}), search rules)
