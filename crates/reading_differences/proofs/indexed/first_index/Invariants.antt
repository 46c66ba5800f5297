use Rattle.std.proofs.Common.{◌≡◌, ◌+◌, false, length, map}
use Rattle.ml_lexer.specs.Lexed.{view_token}
use Rattle.reading_differences.specs.Indexed.{first_index}
use Rattle.reading_differences.proofs.indexed.first_index.Given as goal

-- what is left decides
abbrev pub invariant-loop-rest : goal.invariant-loop-rest
invariant-loop-rest l = record {
  count : l.number + length l.rest ≡ 1 + length l.tokens;
  left : first_index l.form l.nested l.known l.behind_path l.number (map view_token l.rest)
      ≡ first_index l.form l.nested l.fn.known false 1 (map view_token l.tokens);
}

abbrev pub decreases-loop-rest : goal.decreases-loop-rest
decreases-loop-rest l = length l.rest
