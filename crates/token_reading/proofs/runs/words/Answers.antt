use Rattle.std.proofs.Common.{arith}
use Rattle.token_reading.proofs.RunTurns.{word_pushed}
use Rattle.token_reading.proofs.runs.words.Goals as goal

pub loop-next-preserved : goal.loop-next-preserved
loop-next-preserved c = word_pushed c.args.tokens.now c.args.at c.loop-next.next c.loop-next.words.items c.push.new.self.items
    c.in_ok-token_word.field-0 (omega arith) c.in_ok-push.ensures.items c.in_ok-token_word.ensures c.loop-next.invariant
