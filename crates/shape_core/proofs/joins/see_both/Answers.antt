use Rattle.std.proofs.Common.{◌∙◌, refl}
use Rattle.shape_core.proofs.Both.{seen_later, seen_both}
use Rattle.shape_core.proofs.Views.{or_or}
use Rattle.shape_core.proofs.joins.see_both.Goals as goal

pub returns-in-Some : goal.returns-in-Some
returns-in-Some c a b x few s t = seen_later a b x c.args.later c.in-Some.field-0 c.in-Some.is t

pub returns-in-None : goal.returns-in-None
returns-in-None c a b x few s t =
    seen_both a b x (record { found = c.args.earlier.found; by = c.or.result; passed = c.saturating_add.result }) c.args.later c.args.earlier few
    c.in-None.is refl (c.or.ensures ∙ or_or c.args.later.by c.args.earlier.by) c.saturating_add.ensures s t
