use Rattle.std.proofs.Common.{◌≡◌, Option, None, Some, IfSome, IsPermutation, map, string_bytes, subst, sym}
use Rattle.std.specs.FinMap.{keys}
use Rattle.tree_io.specs.Outside.{FileMap}
use Rattle.apply_journal.proofs.Gates.{none_read, is_there}
use Rattle.command_replies.proofs.Batching.{batch_read, front_read, for_some}
use Rattle.command_replies.proofs.batch.read_batch_file.Goals as goal

pub returns-then-not-has_name-clause-read : goal.returns-then-not-has_name-clause-read
returns-then-not-has_name-clause-read g c =
    batch_read (g.T.Tree.content c.args.tree.now) c.args.file.now c.is_project_file.result 1048577 None c.is_project_file.ensures
    c.if-is_project_file.false
    (none_read (g.T.Tree.content c.args.tree.now) c.deref.result.now c.args.file.now 1048577 c.has_name.result
    (for_some (g.T.Tree.content c.args.tree.now) (λ held. IsPermutation (keys held) (map string_bytes c.deref.result.now))
    (subst (λ names. IfSome (g.T.Tree.content c.args.tree.now) (λ held. IsPermutation (keys held) (map string_bytes names)))
    (sym c.deref.ensures.value) c.in_ok-listed.ensures.names))
    c.has_name.ensures c.if-not-has_name.true)

pub read-requires : goal.read-requires
read-requires g c =
    is_there (g.T.Tree.content c.list.new.self) c.deref.result.now c.args.file.now c.has_name.result
    (subst (λ (o : Option FileMap). (held : FileMap) → o ≡ Some held → IsPermutation (keys held) (map string_bytes c.deref.result.now))
    (sym c.list.ensures.content)
    (for_some (g.T.Tree.content c.args.tree.now) (λ held. IsPermutation (keys held) (map string_bytes c.deref.result.now))
    (subst (λ names. IfSome (g.T.Tree.content c.args.tree.now) (λ held. IsPermutation (keys held) (map string_bytes names)))
    (sym c.deref.ensures.value) c.in_ok-listed.ensures.names)))
    c.has_name.ensures c.if-not-has_name.false

pub returns-clause-read : goal.returns-clause-read
returns-clause-read g c =
    front_read (g.T.Tree.content c.args.tree.now) (g.T.Tree.content c.list.new.self) c.args.file.now c.in_ok-read.field-0.items
    c.is_project_file.result c.list.ensures.content c.is_project_file.ensures
    c.if-is_project_file.false c.in_ok-read.ensures.bytes
