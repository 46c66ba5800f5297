use Rattle.std.proofs.Common.{◌∙◌, arith}
use Rattle.command_replies.proofs.Batching.{said_large, said_runs, said_unread, few_steps}
use Rattle.command_replies.proofs.batch.bytes_reply.Goals as goal

pub returns-then-bytes : goal.returns-then-bytes
returns-then-bytes c =
    said_large c.args.write c.args.file.now c.in_ok-name.name c.args.bytes.now c.args.files.now c.unloaded_reply.result (omega arith)
    (c.in_ok-name.ensures ∙ c.as_bytes.ensures.value) c.unloaded_reply.ensures

pub steps_reply-requires : goal.steps_reply-requires
steps_reply-requires c = few_steps _ c.in-Ok.steps.items c.deref.result.now c.in-Ok.ensures.steps c.deref.ensures.value

pub returns-in-Ok : goal.returns-in-Ok
returns-in-Ok c =
    said_runs c.args.write c.args.file.now c.args.bytes.now c.args.files.now c.in-Ok.steps.items c.deref.result.now c.steps_reply.result
    (omega arith) c.in-Ok.ensures.steps c.deref.ensures.value
    c.steps_reply.ensures

pub returns-in-Err-Line : goal.returns-in-Err-Line
returns-in-Err-Line c =
    said_unread c.args.write c.args.file.now c.args.bytes.now c.args.files.now c.in-Err-Line.number c.in-Err-Line.field-0 c.bad_batch.result
    (omega arith) c.in-Err-Line.field-0-is
    c.in-Err-Line.ensures.unread c.bad_batch.ensures
