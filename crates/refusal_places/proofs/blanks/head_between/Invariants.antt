use Rattle.std.proofs.Common.{◌≡◌, ◌-◌, ◌≤◌, ◌<◌, false, length, true}
use Rattle.ml_lexer.specs.Lexed.{view_tokens}
use Rattle.refusal_places.specs.Blanks.{has_head}
use Rattle.refusal_places.proofs.blanks.head_between.Given as goal

-- the first head is between the two places
abbrev pub invariant-loop-high : goal.invariant-loop-high
invariant-loop-high l = record {
  within : l.high ≤ length l.tokens;
  before : has_head l.kind l.name l.low (view_tokens l.tokens) ≡ false;
  here : has_head l.kind l.name l.high (view_tokens l.tokens) ≡ true;
  apart : l.low < l.high;
}

abbrev pub decreases-loop-high : goal.decreases-loop-high
decreases-loop-high l = l.high - l.low
