use Rattle.std.proofs.Common.{◌≡◌, ◌+◌, drop}
use Rattle.ml_lexer.specs.Lexed.{view_token}
use Rattle.rename_model.specs.Target.{first_at, holds}
use Rattle.rename_parts.proofs.Searches.{counted}
use Rattle.rename_parts.proofs.targets.lexeme_over.Given as goal

-- the token is among those that are left
abbrev pub invariant-loop-token : goal.invariant-loop-token
invariant-loop-token l = record {
  count : l.number ≡ l.token-index + 1;
  left : counted l.token-index (first_at (λ t. holds l.offset (view_token t)) (drop l.token-index l.tokens)) ≡ first_at
      (λ t. holds l.offset (view_token t)) l.tokens;
}
