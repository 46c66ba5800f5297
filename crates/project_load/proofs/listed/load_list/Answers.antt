use Rattle.std.proofs.Common.{◌∙◌}
use Rattle.project_load.specs.Entries.{table_of}
use Rattle.project_load.proofs.Causes.{told, telling}
use Rattle.project_load.proofs.ListLoads.{list_answer}
use Rattle.project_load.proofs.listed.load_list.Goals as goal

pub returns-clause-answer : goal.returns-clause-answer
returns-clause-answer g c = telling (g.T.Tree.content c.args.tree.now) _ (λ held e.
    list_answer held c.args.list.now (table_of c.in_ok-entries.entries) c.load_entries.result
    (told (g.T.Tree.content c.list_folder.new.tree) _ held (c.list_folder.ensures.content ∙ e) c.in_ok-entries.ensures.entries)
    (told (g.T.Tree.content c.read_list.new.tree) _ held (c.read_list.ensures.content ∙
    (c.list_folder.ensures.content ∙ e)) c.load_entries.ensures.answer))
