use Rattle.std.proofs.Common.{◌<◌, length, arith}
use Rattle.std.proofs.lemmas.Grind.{common_steps}
use Rattle.ml_lexer.proofs.Levels.{kept_opens, kept_closes, kept_whole}
use Rattle.ml_lexer.proofs.trivia.nested_len.Goals as goal
use Rattle.ml_lexer.proofs.trivia.nested_len.Goals.{in-Opens, in-Closes-2, in-Whole}

pub loop-rest-preserved : goal.loop-rest-preserved
loop-rest-preserved g c =
    let kept = c.loop-rest.invariant in
    let some : 0 < length c.loop-rest.rest.now = grind (arith, common_steps) in
    let reader = c.requires.callable in
    let ran = c.part_at.ensures in
    let dropped = c.skip-rest-in-loop-rest.ensures in
    elim c.match-part_at.branch [
      | in-Opens w ↦ kept_opens kept some reader ran w.in-Opens.is w.depth-is w.len-is dropped
      | in-Closes-2 w ↦ kept_closes kept some reader ran w.in-Closes.is (grind (arith, common_steps)) w.depth-is w.len-is dropped
      | in-Whole w ↦ kept_whole kept some reader ran w.in-Whole.is w.depth-is w.len-is dropped
    ]
