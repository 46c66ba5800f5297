use Rattle.std.proofs.Common.{ap, ◌+◌}
use Rattle.rename_parts.proofs.Words.{give_at, give_end, short_at}
use Rattle.rename_parts.proofs.bytes.edits_of.Goals as goal

pub loop-token-preserved : goal.loop-token-preserved
loop-token-preserved c = record {
  count = ap (λ n. n + 1) c.loop-token.invariant.count;
  give =
      give_at c.args.set.now c.args.file c.args.new.now c.args.tokens.now c.loop-token.token-index c.loop-token.number _ c.loop-token.list.items
      c.add_edit.new.list.items
      c.loop-token-test.true c.loop-token.invariant.count c.in_ok-add_edit.ensures c.loop-token.invariant.give;
  short =
      short_at c.args.set.now c.args.file c.args.new.now c.args.tokens.now c.loop-token.token-index c.loop-token.number _ c.loop-token.list.items
      c.add_edit.new.list.items
      c.requires.new c.loop-token.invariant.short c.in_ok-add_edit.ensures;
}

pub returns-clause-words : goal.returns-clause-words
returns-clause-words c = give_end c.args.set.now c.args.file c.args.new.now c.args.tokens.now c.loop-token.token-index c.loop-token.list.items
    c.loop-token-test.false c.loop-token.invariant.give
