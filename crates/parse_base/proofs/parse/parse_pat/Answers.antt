use Rattle.ml_trees.specs.View.{view_pat}
use Rattle.parse_base.proofs.Ends.{longest_pat, no_pattern}
use Rattle.parse_base.proofs.parse.parse_pat.Goals as goal

pub returns-in-Ok-clause-found : goal.returns-in-Ok-clause-found
returns-in-Ok-clause-found c = longest_pat c.args.tokens.now c.args.start c.in-Ok.end c.min.result
    (view_pat c.in-Ok.tree) c.min.ensures c.in-Ok.ensures

pub returns-in-Err-Syntax-clause-none : goal.returns-in-Err-Syntax-clause-none
returns-in-Err-Syntax-clause-none c = λ _. no_pattern c.args.tokens.now c.args.start (rw c.in-Err-Syntax.field-0-is at c.in-Err-Syntax.ensures)
