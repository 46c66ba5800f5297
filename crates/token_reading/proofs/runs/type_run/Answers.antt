use Rattle.std.proofs.Common.{ap, ◌∙◌}
use Rattle.token_reading.specs.Pieces.{cut_at}
use Rattle.token_reading.specs.Tokens.{from}
use Rattle.ml_trees.specs.View.{view_run}
use Rattle.token_reading.proofs.RunTurns.{type_by_length, cut_there}
use Rattle.token_reading.proofs.runs.type_run.Goals as goal

pub returns-in-Err-Syntax : goal.returns-in-Err-Syntax
returns-in-Err-Syntax c =
    let here = from c.args.tokens.now c.args.at in
    let failed = rw c.in-Err-Syntax.field-0-is at c.in-Err-Syntax.ensures.value in
    type_by_length here ∙ ap (cut_at here) failed

pub returns-in_ok-words-in-Ok : goal.returns-in_ok-words-in-Ok
returns-in_ok-words-in-Ok c = type_by_length (from c.args.tokens.now c.args.at)
    ∙ cut_there c.args.tokens.now c.args.at c.in-Ok.count _ (view_run c.in_ok-words-in-Ok.field-0) c.in-Ok.ensures.value c.in_ok-words-in-Ok.ensures
