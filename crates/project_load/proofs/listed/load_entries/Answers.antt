use Rattle.std.proofs.Common.{map, string_bytes}
use Rattle.project_load.specs.Entries.{table_of}
use Rattle.project_load.specs.declared.naming.Naming.TheVariants.{Listed}
use Rattle.project_load.proofs.ListLoads.{sources_listed}
use Rattle.project_load.proofs.Seeing.{for_seen}
use Rattle.project_load.proofs.listed.load_entries.Goals as goal

pub load_named-requires : goal.load_named-requires
load_named-requires g c = for_seen (Listed c.args.entries) (g.T.Tree.content c.args.tree.now) _ (λ held e.
    sources_listed held (table_of c.args.entries.now) (map string_bytes c.in_ok-sources.sources.items) (c.requires held e) c.in_ok-sources.ensures)
