use Rattle.std.proofs.Common.{map, string_bytes}
use Rattle.project_load.proofs.Causes.{told, telling}
use Rattle.project_load.proofs.ListLoads.{is_folder}
use Rattle.project_load.proofs.listed.list_folder.Goals as goal

pub returns-clause-names : goal.returns-clause-names
returns-clause-names g c = telling (g.T.Tree.content c.args.tree.now) _ (λ held e.
    is_folder c.in_ok-set_of.field-0 held (map string_bytes c.in_ok-names.names.items)
    (told (g.T.Tree.content c.args.tree.now) _ held e c.in_ok-names.ensures.names) c.in_ok-set_of.ensures)
