use Rattle.open_documents.specs.OpenTree.{open_files}
use Rattle.open_documents.proofs.Laying.{spoils_nothing}
use Rattle.open_documents.proofs.open_tree.OpenTreeTree.write.Goals as goal

pub returns-clause-spoiled : goal.returns-clause-spoiled
returns-clause-spoiled g c = spoils_nothing (open_files g.T.Tree.content c.args.self.now) c.args.name.now c.requires.placed
