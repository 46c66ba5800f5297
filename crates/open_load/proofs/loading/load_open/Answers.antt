use Rattle.std.proofs.Common.{◌≡◌, ◌⊎◌, Ok, Err}
use Rattle.project_load.specs.Load.{IsOutside, loaded}
use Rattle.open_documents.specs.Documents.{documents}
use Rattle.open_documents.specs.OpenTree.{below, held_documents, open_files}
use Rattle.open_load.proofs.Laying.{files_below, holds_below, unloaded_is_open}
use Rattle.open_load.proofs.loading.load_open.Goals as goal

pub returns-in-Ok : goal.returns-in-Ok
returns-in-Ok g c =
    holds_below g.T.Tree.content (documents c.args.held.now) (held_documents c.new-tree.result) c.args.folder (below c.new-tree.result)
    (λ held. loaded held ≡ Ok c.in-Ok.files) c.new-tree.ensures.documents c.new-tree.ensures.tree c.in-Ok.ensures.answer

pub returns : goal.returns
returns g c =
    let docs = held_documents c.new-tree.result in
    unloaded_is_open (g.T.Tree.content c.args.folder) (open_files g.T.Tree.content c.load.new.tree) (documents c.args.held.now) c.in-Err.error
    c.make_unloaded.result
    (files_below g.T.Tree.content (documents c.args.held.now) docs c.args.folder (below c.new-tree.result)
    (open_files g.T.Tree.content c.load.new.tree) c.new-tree.ensures.documents c.new-tree.ensures.tree c.in-Err.ensures.content)
    (holds_below g.T.Tree.content (documents c.args.held.now) docs c.args.folder (below c.new-tree.result)
    (λ held. IsOutside c.in-Err.error ⊎ (loaded held ≡ Err c.in-Err.error)) c.new-tree.ensures.documents c.new-tree.ensures.tree
    c.in-Err.ensures.answer)
    c.make_unloaded.ensures
