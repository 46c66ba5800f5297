use Rattle.std.proofs.Common.{map, string_bytes}
use Rattle.open_documents.specs.OpenTree.{held_documents}
use Rattle.open_documents.proofs.Laying.{names_laid}
use Rattle.open_documents.proofs.open_tree.OpenTree.names.Goals as goal

pub returns-clause-names : goal.returns-clause-names
returns-clause-names g c =
    names_laid (held_documents c.args.self.now) (g.T.Tree.content c.args.self.now.tree) (map string_bytes c.in_ok-names.names.items)
    (map string_bytes c.in_ok-more.more.items) (map string_bytes c.in_ok-join_names.field-0.items) c.in_ok-names.ensures.names c.in_ok-more.ensures
    c.in_ok-join_names.ensures.ordered c.in_ok-join_names.ensures.same
