use Rattle.project_load.specs.Load.{IsLoad}
use Rattle.project_load.proofs.Seeing.{as_seen, own_seen}
use Rattle.project_load.proofs.loading.load.Goals as goal

pub load_named-requires : goal.load_named-requires
load_named-requires g c =
    own_seen (g.T.Tree.content c.args.tree.now) (g.T.Tree.content c.list_names.new.tree) _ c.list_names.ensures.content c.in_ok-listed.ensures.names

pub returns-clause-answer : goal.returns-clause-answer
returns-clause-answer g c =
    as_seen (g.T.Tree.content c.args.tree.now) (g.T.Tree.content c.list_names.new.tree)
    (λ held. IsLoad held c.load_named.result) c.list_names.ensures.content c.load_named.ensures.answer
