use Rattle.std.proofs.Common.{◌≡◌, ◌<◌, sym, ap, ◌∙◌, arith, ◌∷◌, length}
use Rattle.std.specs.Option.{option_copied}
use Rattle.shape_core.specs.Node.{entries_of}
use Rattle.rename_model.specs.Target.{dotted}
use Rattle.rename_parts.proofs.Walks.{ends_nowhere}
use Rattle.rename_parts.proofs.targets.find_dotted.Goals as goal

pub returns-in_err-step_from : goal.returns-in_err-step_from
returns-in_err-step_from c =
    let es = entries_of c.args.top.now in
    let some : 0 < length c.in_ok-first.rest.now = grind (arith, c.if-is_empty.ensures, c.if-is_empty.false) in
    let whole : c.args.path.now ≡ c.in_ok-first.first.now ∷ c.in_ok-first.rest.now = c.in_ok-first.ensures.cases.0 in
    let none = ends_nowhere es c.in_ok-first.first.now c.in_ok-first.rest.now (option_copied c.step_from.result) some c.step_from.ensures
    (ap option_copied c.in_err-step_from.was) in
    c.from_residual-in_err-step_from.ensures ∙ (none ∙ sym (ap (dotted es) whole))
