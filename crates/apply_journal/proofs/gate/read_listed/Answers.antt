use Rattle.apply_journal.proofs.Gates.{none_read, is_there}
use Rattle.apply_journal.proofs.gate.read_listed.Goals as goal

pub returns-then-not-is_listed-clause-read : goal.returns-then-not-is_listed-clause-read
returns-then-not-is_listed-clause-read g c =
    none_read (g.T.Tree.content c.args.tree.now) c.args.listed.now c.args.name.now c.args.limit c.is_listed.result c.requires c.is_listed.ensures
    c.if-not-is_listed.true

pub read-requires : goal.read-requires
read-requires g c = is_there (g.T.Tree.content c.args.tree.now) c.args.listed.now c.args.name.now c.is_listed.result c.requires c.is_listed.ensures
    c.if-not-is_listed.false
