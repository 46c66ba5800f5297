use Rattle.std.proofs.Common.{◌≡◌, ◌<◌, ◌+◌, ◌-◌, length, reverse, sym, ap, ◌∙◌, arith}
use Rattle.std.proofs.lemmas.List.{drop_all}
use Rattle.token_reading.specs.Matching.{open_ins}
use Rattle.token_reading.specs.Table.{entries_from}
use Rattle.token_reading.proofs.Entries.{free_more, no_more, said_more}
use Rattle.token_reading.proofs.Places.{from_end}
use Rattle.token_reading.proofs.table.entries_of.Goals as goal

pub loop-at-init : goal.loop-at-init
loop-at-init c =
    let ts = c.args.tokens.now in
    record {
      said = ap reverse c.new-entries.ensures.items ∙ sym (ap (entries_from (length ts + 1)) (drop_all (length ts) ts (omega arith)));
      free = sym (ap open_ins (from_end ts (length ts) (omega arith)));
      few = omega arith;
    }

pub loop-at-preserved : goal.loop-at-preserved
loop-at-preserved c =
    let ts = c.args.tokens.now in
    let at = c.loop-at.at in
    let inv = c.loop-at.invariant in
    let next : at ≡ at - 1 + 1 = omega (arith, c.loop-at-test.true) in
    let there : at - 1 < length ts = omega (arith, c.loop-at-test.true, c.loop-at.auto.at) in
    let k = c.kind_of-kind.result in
    record {
      said = said_more ts (at - 1) at c.loop-at.ins _ k c.lacks_by.result c.loop-at.entries.items _ there next c.kind_of-kind.ensures inv.free
          c.lacks_by.ensures c.in_ok-push.ensures.items inv.said;
      free = free_more ts (at - 1) at c.loop-at.ins c.count_ins-ins.result _ k there next c.kind_of-kind.ensures inv.free c.count_ins-ins.ensures;
      few = omega (arith, inv.few, c.loop-at-test.true, no_more k c.loop-at.ins, c.count_ins-ins.ensures);
    }
