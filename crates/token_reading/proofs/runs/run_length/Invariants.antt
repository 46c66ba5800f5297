use Rattle.std.proofs.Common.{◌≡◌, ◌+◌, ◌-◌, ◌<◌, ◌≤◌, [], reverse, Some}
use Rattle.token_reading.specs.Pieces.{longest}
use Rattle.token_reading.specs.RunRows.{is_inside, is_beside, run_length}
use Rattle.token_reading.proofs.RunTurns.{or_later}
use Rattle.token_reading.specs.Tokens.{from}
use Rattle.token_reading.proofs.runs.run_length.Given as goal

abbrev pub invariant-loop-next : goal.invariant-loop-next
invariant-loop-next l = record {
  after : l.at < l.next;
  later : or_later l.count (l.next - l.at) (longest (is_beside l.run) (is_inside l.run) (Some (reverse l.unclosed.items)) (from l.tokens l.next))
      ≡ run_length l.run (from l.tokens l.at);
  at_once : reverse l.unclosed.items ≡ [] → l.count ≡ l.next - l.at;
  within : l.at + l.count ≤ l.next;
}
