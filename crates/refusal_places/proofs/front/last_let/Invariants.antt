use Rattle.std.proofs.Common.{◌≡◌, ◌≤◌, ◌+◌, drop, length}
use Rattle.ml_lexer.specs.Lexed.{view_tokens}
use Rattle.refusal_places.specs.Front.{last_let, open_ins}
use Rattle.refusal_places.proofs.front.last_let.Given as goal

-- from here on each `let` has its `in`, and this many `in` have none
abbrev pub invariant-loop-at : goal.invariant-loop-at
invariant-loop-at l = record {
  within : l.ins + l.at ≤ length l.tokens;
  none : last_let (drop l.at (view_tokens l.tokens)) ≡ 0;
  ins : l.ins ≡ open_ins (drop l.at (view_tokens l.tokens));
}

abbrev pub decreases-loop-at : goal.decreases-loop-at
decreases-loop-at l = l.at
