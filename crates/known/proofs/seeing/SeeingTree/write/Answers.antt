use Rattle.known.proofs.Fronts.{left_as_is}
use Rattle.known.proofs.seeing.SeeingTree.write.Goals as goal

pub returns-clause-spoiled : goal.returns-clause-spoiled
returns-clause-spoiled g c = left_as_is (g.T.Tree.content c.args.self.now.tree) c.args._name.now c.requires.placed
