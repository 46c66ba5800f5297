use Rattle.std.proofs.Common.{arith}
use Rattle.report.proofs.Joins.{words_end, words_more}
use Rattle.report.proofs.pieces.push_line.Goals as goal

pub loop-word-preserved : goal.loop-word-preserved
loop-word-preserved c =
    words_more c.args.words.now c.loop-word.word-index _ c.args.text.now.items c.loop-word.text.items _ c.loop-word-test.true
    c.in_ok-extend_from_slice.ensures.items c.loop-word.invariant

pub returns : goal.returns
returns c = words_end c.args.words.now c.loop-word.word-index c.args.text.now.items c.loop-word.text.items _ (omega arith) c.in_ok-push.ensures.items
    c.loop-word.invariant
