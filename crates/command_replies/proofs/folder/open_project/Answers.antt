use Rattle.command_replies.proofs.Saying.{not_loaded_found, project_found, pending_found}
use Rattle.command_replies.proofs.folder.open_project.Goals as goal

pub returns-in-Err-clause-found : goal.returns-in-Err-clause-found
returns-in-Err-clause-found g c =
    not_loaded_found (g.T.Tree.content c.args.tree.now) c.args.writes c.in_ok-error.field-0 c.in_ok-error.ensures.answer c.in-Err.error
    c.in-Err.is

pub returns-then-branch-clause-found : goal.returns-then-branch-clause-found
returns-then-branch-clause-found g c =
    project_found (g.T.Tree.content c.args.tree.now) c.args.writes c.in_ok-error.field-0 c.in_ok-error.ensures.answer
    (g.T.Tree.content c.load_project.new.tree) c.in_ok-may_write-in-Ok.field-0 c.in-Ok.files c.in-Ok.is c.load_project.ensures.content
    c.if-branch.true c.in_ok-may_write-in-Ok.ensures.permits

pub returns-else-branch-clause-found : goal.returns-else-branch-clause-found
returns-else-branch-clause-found g c =
    pending_found (g.T.Tree.content c.args.tree.now) c.args.writes c.in_ok-error.field-0 c.in_ok-error.ensures.answer
    (g.T.Tree.content c.load_project.new.tree) c.in_ok-may_write-in-Ok.field-0 c.in-Ok.files c.in-Ok.is c.load_project.ensures.content
    c.if-branch.false c.in_ok-may_write-in-Ok.ensures.permits
