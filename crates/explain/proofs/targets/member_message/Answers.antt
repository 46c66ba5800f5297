use Rattle.std.proofs.Common.{◌∙◌}
use Rattle.explain.proofs.Answered.{if_ok_more}
use Rattle.explain.proofs.Dotting.{member_is}
use Rattle.explain.proofs.targets.member_message.Goals as goal

pub returns : goal.returns
returns c =
    if_ok_more c.explain_nameless-2.result _ _ (λ message e.
    member_is c.args.front.now c.args.last.now message c.in_ok-no_member.field-0 c.as_slice.result.now c.as_bytes-2.result.now
    c.if-front-eq0.false e c.in_ok-no_member.ensures (c.as_slice.ensures ∙ c.in_ok-module.ensures) c.as_bytes-2.ensures) c.explain_nameless-2.ensures
