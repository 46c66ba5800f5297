use Rattle.std.proofs.Common.{◌≡◌, ◌<◌, ◌≤◌, ◌-◌, length, length-drop, arith, ap, ◌∙◌}
use Rattle.std.proofs.lemmas.Grind.{common_steps}
use Rattle.reading_differences.proofs.Quotes.{quotes_ended, quotes_kept}
use Rattle.reading_differences.proofs.comments.add_quotes.Goals as goal

pub loop-rest-preserved : goal.loop-rest-preserved
loop-rest-preserved c =
    let kept = c.loop-rest.invariant in
    let rest = c.loop-rest.rest.now in
    let len = c.part_len-len.result in
    let some : 0 < length rest = grind (arith, common_steps) in
    let within : len ≤ length rest = c.part_len-len.ensures.within in
    let left : length c.skip-rest.result.now ≡ length rest - len = ap length c.skip-rest.ensures ∙ length-drop len rest in
    record {
      begun = omega (arith, kept.begun);
      so_far = omega (arith, kept.so_far, left, within);
      left = quotes_kept c.args.at c.loop-rest.before c.loop-rest.offset len c.byte_at-before.result rest c.skip-rest.result.now
          c.loop-rest.found.items c.push_quote.new.found.items _ some c.part_len-len.ensures.value c.part_len-len.ensures.more within
          c.byte_at-before.ensures.value c.skip-rest.ensures c.in_ok-push_quote.ensures kept.left;
    }

pub returns : goal.returns
returns c =
    quotes_ended c.args.at c.loop-rest.before c.loop-rest.offset c.loop-rest.rest.now c.loop-rest.found.items _ (grind (arith, common_steps))
    c.loop-rest.invariant.left
