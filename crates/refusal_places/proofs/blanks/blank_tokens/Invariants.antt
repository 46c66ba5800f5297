use Rattle.std.proofs.Common.{◌≡◌, length, map, take}
use Rattle.ml_lexer.specs.Lexed.{view_tokens}
use Rattle.refusal_places.specs.Blanks.{blank}
use Rattle.refusal_places.proofs.blanks.blank_tokens.Given as goal

-- the blank tokens so far
abbrev pub invariant-loop-token : goal.invariant-loop-token
invariant-loop-token l = record {
  blanks : view_tokens l.list.items ≡ map (blank l.name) (view_tokens (take l.token-index (take l.count l.tokens)));
  count : length l.list.items ≡ l.token-index;
}
