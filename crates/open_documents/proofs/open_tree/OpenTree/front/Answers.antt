use Rattle.std.proofs.Common.{◌≡◌, None, IfSome, sym, ap, ◌∙◌}
use Rattle.std.specs.Option.{option_copied}
use Rattle.std.specs.FinMap.{get}
use Rattle.tree_io.specs.Outside.{IsFront}
use Rattle.open_documents.specs.OpenTree.{held_documents, open_files}
use Rattle.open_documents.proofs.Laying.{below_there, laid_front, laid_read}
use Rattle.open_documents.proofs.Outcomes.{if_ok}
use Rattle.open_documents.proofs.open_tree.OpenTree.front.Goals as goal

pub read-requires : goal.read-requires
read-requires g c =
    below_there (held_documents c.args.self.now) (g.T.Tree.content c.args.self.now.tree) c.args.name.now
    (sym c.get.ensures ∙ ap option_copied c.in-None.is) c.requires

pub returns-in_ok-front-in-Some-clause-bytes : goal.returns-in_ok-front-in-Some-clause-bytes
returns-in_ok-front-in-Some-clause-bytes g c =
    laid_front (held_documents c.args.self.now) (g.T.Tree.content c.args.self.now.tree) c.args.name.now c.in_ok-front-in-Some.field-0.items
    c.args.limit
    c.in-Some.document.now (sym c.get.ensures ∙ ap option_copied c.in-Some.is) c.in_ok-front-in-Some.ensures

pub returns-in-None-clause-bytes : goal.returns-in-None-clause-bytes
returns-in-None-clause-bytes g c =
    let none : get (held_documents c.args.self.now) c.args.name.now ≡ None = sym c.get.ensures ∙ ap option_copied c.in-None.is in
    if_ok (λ bytes. IfSome (g.T.Tree.content c.args.self.now.tree) (λ files. IsFront c.args.limit (get files c.args.name.now) bytes.items))
    (λ bytes. IfSome (open_files g.T.Tree.content c.args.self.now) (λ files. IsFront c.args.limit (get files c.args.name.now) bytes.items))
    c.read.result
    (λ bytes front. laid_read (held_documents c.args.self.now) (g.T.Tree.content c.args.self.now.tree) c.args.name.now bytes.items c.args.limit none
    front)
    c.read.ensures.bytes
