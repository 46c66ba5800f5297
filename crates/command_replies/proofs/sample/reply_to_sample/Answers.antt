use Rattle.std.proofs.Common.{List, ℕ, [], Result, false, refl}
use Rattle.rotor_base.specs.declared.refusal.Refusal.{Refusal}
use Rattle.rotor_base.specs.declared.report.SampleReport.{SampleReport}
use Rattle.rotor_base.specs.declared.report.Outcome.TheVariants.{Sampled}
use Rattle.sample_project.specs.Sample.{Samples}
use Rattle.command_replies.specs.Said.{as_outcome, silent_reply}
use Rattle.command_replies.proofs.Saying.{answer_made, refusal_made}
use Rattle.command_replies.proofs.sample.reply_to_sample.Goals as goal

pub returns-in-Ok : goal.returns-in-Ok
returns-in-Ok c =
    answer_made (Samples c.args.units)
    (λ (names : List (List ℕ)) (r : Result SampleReport Refusal). silent_reply false names (as_outcome Sampled r)) [] []
    c.in-Ok.sampled c.silent_reply.result refl c.in-Ok.ensures.sampled c.silent_reply.ensures

pub returns-in-Err : goal.returns-in-Err
returns-in-Err c =
    refusal_made (Samples c.args.units)
    (λ (names : List (List ℕ)) (r : Result SampleReport Refusal). silent_reply false names (as_outcome Sampled r)) [] []
    c.in-Err.refusal c.sample.result c.refused_reply.result refl c.in-Err.is c.sample.ensures.refused c.refused_reply.ensures.other
    c.refused_reply.ensures.reply
