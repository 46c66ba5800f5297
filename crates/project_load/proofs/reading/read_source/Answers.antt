use Rattle.std.proofs.lemmas.Result.{IfOk-weaker}
use Rattle.project_load.proofs.Seeing.{file_there, front_seen}
use Rattle.project_load.proofs.reading.read_source.Goals as goal

pub read_front-requires : goal.read_front-requires
read_front-requires g c =
    file_there c.args.naming.now (g.T.Tree.content c.args.tree.now) c.args.source.now c.file_of.result.now c.requires c.file_of.ensures

pub returns-clause-bytes : goal.returns-clause-bytes
returns-clause-bytes g c =
    IfOk-weaker c.read_front.result _ _ (λ bytes h. front_seen c.args.naming.now
    (g.T.Tree.content c.args.tree.now) c.args.source.now c.file_of.result.now c.requires c.file_of.ensures bytes.items h)
    c.read_front.ensures.bytes
