use Rattle.std.proofs.Common.{List, ℕ, Some, option_map, ap, subst}
use Rattle.explain_batch.specs.File.{SaysBatch}
use Rattle.explain_batch.proofs.Batching.{said_lacking, said_found}
use Rattle.explain_batch.proofs.file.explain_batch.Goals as goal

pub returns-in_ok-explain_missing_file-in-None-clause-said : goal.returns-in_ok-explain_missing_file-in-None-clause-said
returns-in_ok-explain_missing_file-in-None-clause-said g c =
    said_lacking c.args.file.now c.args.files.now c.in_ok-explain_missing_file-in-None.field-0
    (g.T.Tree.content c.args.tree.now) _ (ap (option_map (λ bytes. bytes.items)) c.in-None.is)
    c.in_ok-read_batch_file.ensures.read c.in_ok-explain_missing_file-in-None.ensures

pub returns-in_ok-explain_bytes-in-Some-clause-said : goal.returns-in_ok-explain_bytes-in-Some-clause-said
returns-in_ok-explain_bytes-in-Some-clause-said g c =
    said_found c.args.file.now c.args.files.now c.in_ok-explain_bytes-in-Some.field-0
    (g.T.Tree.content c.args.tree.now) _ c.in-Some.bytes.items
    (ap (option_map (λ bytes. bytes.items)) c.in-Some.is) c.in_ok-read_batch_file.ensures.read
    (subst (λ (bytes : List ℕ). SaysBatch c.args.file.now (Some bytes) c.args.files.now c.in_ok-explain_bytes-in-Some.field-0)
    c.deref.ensures.value c.in_ok-explain_bytes-in-Some.ensures)
