use Rattle.std.proofs.Common.{◌≡◌, ◌-◌, map, take}
use Rattle.ml_trees.specs.View.{view_tok}
use Rattle.token_reading.specs.Tokens.{from}
use Rattle.token_reading.proofs.runs.words.Given as goal

abbrev pub invariant-loop-next : goal.invariant-loop-next
invariant-loop-next l = map view_tok l.words.items ≡ take (l.next - l.at) (from l.tokens l.at)
