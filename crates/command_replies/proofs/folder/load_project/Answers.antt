use Rattle.command_replies.proofs.Saying.{loads_by, refused_load}
use Rattle.command_replies.proofs.folder.load_project.Goals as goal

pub returns-in-Ok-clause-answer : goal.returns-in-Ok-clause-answer
returns-in-Ok-clause-answer g c = loads_by (g.T.Tree.content c.args.tree.now) c.load.result c.in-Ok.files c.in-Ok.is c.load.ensures.answer

pub returns-in-Err-clause-answer : goal.returns-in-Err-clause-answer
returns-in-Err-clause-answer g c =
    refused_load (g.T.Tree.content c.args.tree.now) c.load.result c.in-Err.error c.refused_load.result c.in-Err.is c.load.ensures.answer
    c.refused_load.ensures.refused c.refused_load.ensures.inside
