use Rattle.std.proofs.Common.{◌∙◌, arith}
use Rattle.report.proofs.Joins.{join_all, join_more}
use Rattle.report.proofs.pieces.join_words.Goals as goal

pub loop-word-preserved : goal.loop-word-preserved
loop-word-preserved c = join_more c.args.words.now c.loop-word.word-index _ c.loop-word.bytes.items _ c.loop-word-test.true
    c.in_ok-extend_from_slice.ensures.items c.loop-word.invariant

pub returns : goal.returns
returns c = c.from_vec.ensures ∙ join_all c.args.words.now c.loop-word.word-index c.loop-word.bytes.items (omega arith) c.loop-word.invariant
