use Rattle.std.proofs.Common.{List, ap, sym, ◌∙◌}
use Rattle.report.specs.Pieces.{Word}
use Rattle.explain.specs.Targets.{split_message, split_path}
use Rattle.explain.proofs.Answered.{if_ok_more}
use Rattle.explain.proofs.Dotting.{split_is}
use Rattle.explain.proofs.targets.value_message.Goals as goal

pub returns-in-Some : goal.returns-in-Some
returns-in-Some c =
    if_ok_more c.member_message.result _ _ (λ message e.
    e
    ∙ sym (ap split_message (split_is c.in-Some.front.now c.in-Some.last.now))
    ∙ sym (ap (λ (path : List Word). split_message (split_path path)) c.in-Some.ensures.cases.0)) c.member_message.ensures
