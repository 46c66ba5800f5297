use Rattle.std.proofs.Common.{◌≡◌, ◌+◌, drop, false, map}
use Rattle.ml_lexer.specs.Lexed.{view_token}
use Rattle.reading_differences.specs.Late.{first_head}
use Rattle.reading_differences.proofs.late.first_head.Given as goal

-- what is left decides
abbrev pub invariant-loop-token : goal.invariant-loop-token
invariant-loop-token l = record {
  count : l.number ≡ l.token-index + 1;
  left : first_head l.name l.behind_name l.is_step l.number (map view_token (drop l.token-index l.tokens))
      ≡ first_head l.name false false 1 (map view_token l.tokens);
}
