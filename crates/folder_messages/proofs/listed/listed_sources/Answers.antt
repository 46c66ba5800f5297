use Rattle.std.proofs.Common.{map, string_bytes}
use Rattle.folder_messages.proofs.Holding.{sources_are}
use Rattle.folder_messages.proofs.listed.listed_sources.Goals as goal

pub returns-clause-names : goal.returns-clause-names
returns-clause-names g c =
    sources_are (g.T.Tree.content c.args.tree.now) (map string_bytes c.in_ok-listed.listed.items) (map string_bytes c.source_names.result.items)
    c.in_ok-listed.ensures.names c.source_names.ensures.ordered c.source_names.ensures.same
