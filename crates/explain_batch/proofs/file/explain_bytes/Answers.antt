use Rattle.std.proofs.Common.{arith}
use Rattle.explain_batch.proofs.Batching.{few_steps, said_large, said_runs, said_unread}
use Rattle.explain_batch.proofs.file.explain_bytes.Goals as goal

pub explain_steps-requires : goal.explain_steps-requires
explain_steps-requires c = few_steps _ c.in-Ok.steps.items c.deref.result.now c.in-Ok.ensures.steps c.deref.ensures.value

pub returns-in-Ok : goal.returns-in-Ok
returns-in-Ok c =
    said_runs c.args.file.now c.args.bytes.now c.args.files.now c.in-Ok.steps.items c.deref.result.now c.explain_steps.result
    (omega arith) c.in-Ok.ensures.steps c.deref.ensures.value c.explain_steps.ensures

pub returns-in-Err-Line : goal.returns-in-Err-Line
returns-in-Err-Line c =
    said_unread c.args.file.now c.args.bytes.now c.args.files.now c.in-Err-Line.field-0 c.in-Err-Line.number c.explain_bad_line.result
    (omega arith) c.in-Err-Line.field-0-is c.in-Err-Line.ensures.unread c.explain_bad_line.ensures

pub returns-then-bytes : goal.returns-then-bytes
returns-then-bytes c =
    said_large c.args.file.now c.args.bytes.now c.args.files.now c.explain_large_file.result (omega arith) c.explain_large_file.ensures
