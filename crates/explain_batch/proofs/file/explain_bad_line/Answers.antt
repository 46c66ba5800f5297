use Rattle.std.proofs.Common.{arith}
use Rattle.explain_batch.proofs.Batching.{said_line}
use Rattle.explain_batch.proofs.file.explain_bad_line.Goals as goal

pub returns : goal.returns
returns c =
    said_line c.args.file.now c.as_bytes-2.result.now c.args.bytes.now c.args.number c.line_stretch-start.result.0 c.line_stretch-start.result.1
    c.in_ok-message.message c.explain_unloaded-2.result (omega arith) c.as_bytes-2.ensures.value c.line_stretch-start.ensures.here
    c.in_ok-message.ensures c.explain_unloaded-2.ensures
