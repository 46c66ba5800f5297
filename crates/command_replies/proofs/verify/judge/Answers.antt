use Rattle.std.proofs.Common.{◌∙◌, ap, map, string_bytes}
use Rattle.rotor_base.specs.Files.{names_of}
use Rattle.rename_verify.specs.Verdict.{Verdicts}
use Rattle.command_replies.specs.Said.{judged_reply}
use Rattle.command_replies.proofs.Saying.{answer_made, refusal_made}
use Rattle.command_replies.proofs.verify.judge.Goals as goal

pub returns-in-Ok : goal.returns-in-Ok
returns-in-Ok c =
    answer_made (Verdicts c.args.old.now c.args.new.now) judged_reply _ _ c.in-Ok.verdict c.verdict_reply.result
    (ap (map string_bytes) c.deref.ensures.value ∙ c.in_ok-names.ensures ∙ ap names_of c.entries.ensures.entries) c.in-Ok.ensures.verdict
    c.verdict_reply.ensures

pub returns : goal.returns
returns c =
    refusal_made (Verdicts c.args.old.now c.args.new.now) judged_reply _ _ c.in-Err.refusal c.verify.result c.refused_reply.result
    (ap (map string_bytes) c.deref-in-Err.ensures.value ∙ c.in_ok-names.ensures ∙ ap names_of c.entries.ensures.entries) c.in-Err.is
    c.verify.ensures.refused c.refused_reply.ensures.other c.refused_reply.ensures.reply
