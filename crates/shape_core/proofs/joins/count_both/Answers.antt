use Rattle.std.proofs.Common.{◌∙◌}
use Rattle.shape_core.proofs.Both.{count_of_both, place_of_both}
use Rattle.shape_core.proofs.Views.{or_or}
use Rattle.shape_core.proofs.joins.count_both.Goals as goal

pub returns-clause-number : goal.returns-clause-number
returns-clause-number c a b few m n = count_of_both a b c.args.earlier.0 c.args.later.0 c.saturating_add.result few m n c.saturating_add.ensures

pub returns-clause-last : goal.returns-clause-last
returns-clause-last c a b o p =
    place_of_both a b c.args.earlier.1 c.args.later.1 c.or.result o p (c.or.ensures ∙ or_or c.args.later.1 c.args.earlier.1)
