use Rattle.std.proofs.Common.{◌∙◌, ap, map, string_bytes}
use Rattle.rotor_base.specs.Files.{names_of}
use Rattle.command_replies.proofs.Batching.{said_done, said_stop}
use Rattle.command_replies.proofs.batch.steps_reply.Goals as goal

pub returns-in-Ok : goal.returns-in-Ok
returns-in-Ok c =
    said_done c.args.write c.args.files.now c.args.steps.now _ c.in-Ok.batched c.batched_reply.result
    (ap (map string_bytes) c.deref.ensures.value ∙ c.in_ok-names.ensures ∙ ap names_of c.entries.ensures.entries) c.in-Ok.ensures.done
    c.batched_reply.ensures

pub returns-in-Err-At : goal.returns-in-Err-At
returns-in-Err-At c =
    said_stop c.args.write c.args.files.now c.args.steps.now _ c.in-Err-At.step c.in-Err-At.refusal c.in-Err-At.field-0 c.stopped_batch.result
    (ap (map string_bytes) c.deref-in-Err-At.ensures.value ∙ c.in_ok-names.ensures ∙ ap names_of c.entries.ensures.entries) c.in-Err-At.field-0-is
    c.in-Err-At.ensures.refused c.stopped_batch.ensures
