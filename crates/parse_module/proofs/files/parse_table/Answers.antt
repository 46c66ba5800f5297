use Rattle.ml_trees.specs.View.{view_file}
use Rattle.parse_module.proofs.Whole.{file_tree, no_file}
use Rattle.parse_module.proofs.files.parse_table.Goals as goal

pub returns-in-Ok-clause-found : goal.returns-in-Ok-clause-found
returns-in-Ok-clause-found c = file_tree c.args.kind c.args.file c.args.tokens.now (view_file c.in-Ok.tree) c.in-Ok.ensures

pub returns-in-Err-Syntax-clause-none : goal.returns-in-Err-Syntax-clause-none
returns-in-Err-Syntax-clause-none c =
    λ _. no_file c.args.kind c.args.file c.args.tokens.now (rw c.in-Err-Syntax.field-0-is at c.in-Err-Syntax.ensures)
