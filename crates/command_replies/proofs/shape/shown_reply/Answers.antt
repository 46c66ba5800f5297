use Rattle.std.proofs.Common.{◌∙◌, ap, map, string_bytes, List, ℕ, Result, false}
use Rattle.rotor_base.specs.Files.{names_of}
use Rattle.rotor_base.specs.declared.refusal.Refusal.{Refusal}
use Rattle.rotor_base.specs.declared.report.FootReport.{FootReport}
use Rattle.rotor_base.specs.declared.report.Outcome.TheVariants.{Shown}
use Rattle.rename_files.specs.Answer.{Shows}
use Rattle.command_replies.specs.Said.{as_outcome, silent_reply}
use Rattle.command_replies.proofs.Saying.{answer_made, refusal_made}
use Rattle.command_replies.proofs.shape.shown_reply.Goals as goal

pub returns-in-Ok : goal.returns-in-Ok
returns-in-Ok c =
    answer_made (Shows c.args.files.now c.args.target.now)
    (λ (names : List (List ℕ)) (r : Result FootReport Refusal). silent_reply false names (as_outcome Shown r)) _ _
    c.in-Ok.shown c.silent_reply.result
    (ap (map string_bytes) c.deref.ensures.value ∙ c.in_ok-names.ensures ∙ ap names_of c.entries.ensures.entries) c.in-Ok.ensures.shown
    c.silent_reply.ensures

pub returns : goal.returns
returns c =
    refusal_made (Shows c.args.files.now c.args.target.now)
    (λ (names : List (List ℕ)) (r : Result FootReport Refusal). silent_reply false names (as_outcome Shown r)) _ _
    c.in-Err.refusal c.foot.result c.refused_reply.result
    (ap (map string_bytes) c.deref-in-Err.ensures.value ∙ c.in_ok-names.ensures ∙ ap names_of c.entries.ensures.entries) c.in-Err.is
    c.foot.ensures.refused c.refused_reply.ensures.other c.refused_reply.ensures.reply
