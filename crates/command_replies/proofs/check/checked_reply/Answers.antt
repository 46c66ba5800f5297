use Rattle.std.proofs.Common.{◌∙◌, ap, map, string_bytes, List, ℕ, Result, false}
use Rattle.rotor_base.specs.Files.{names_of}
use Rattle.rotor_base.specs.declared.refusal.Refusal.{Refusal}
use Rattle.rotor_base.specs.declared.report.Counts.{Counts}
use Rattle.rotor_base.specs.declared.report.Outcome.TheVariants.{Checked}
use Rattle.rename_files.specs.Answer.{Checks}
use Rattle.command_replies.specs.Said.{as_outcome, silent_reply}
use Rattle.command_replies.proofs.Saying.{answer_made, refusal_made}
use Rattle.command_replies.proofs.check.checked_reply.Goals as goal

pub returns-in-Ok : goal.returns-in-Ok
returns-in-Ok c =
    answer_made (Checks c.args.files.now)
    (λ (names : List (List ℕ)) (r : Result Counts Refusal). silent_reply false names (as_outcome Checked r)) _ _
    c.in-Ok.counts c.silent_reply.result
    (ap (map string_bytes) c.deref.ensures.value ∙ c.in_ok-names.ensures ∙ ap names_of c.entries.ensures.entries) c.in-Ok.ensures.counted
    c.silent_reply.ensures

pub returns : goal.returns
returns c =
    refusal_made (Checks c.args.files.now)
    (λ (names : List (List ℕ)) (r : Result Counts Refusal). silent_reply false names (as_outcome Checked r)) _ _
    c.in-Err.refusal c.check.result c.refused_reply.result
    (ap (map string_bytes) c.deref-in-Err.ensures.value ∙ c.in_ok-names.ensures ∙ ap names_of c.entries.ensures.entries) c.in-Err.is
    c.check.ensures.refused c.refused_reply.ensures.other c.refused_reply.ensures.reply
