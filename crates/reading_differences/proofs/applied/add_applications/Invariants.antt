use Rattle.std.proofs.Common.{◌≡◌, ◌+◌, ◌++◌, [], length, map}
use Rattle.ml_lexer.specs.Lexed.{view_token}
use Rattle.reading_differences.specs.Applied.{applications_in}
use Rattle.reading_differences.proofs.applied.add_applications.Given as goal

-- those found so far and those of what is left are those of all
abbrev pub invariant-loop-rest : goal.invariant-loop-rest
invariant-loop-rest l = record {
  count : l.number + length l.rest ≡ 1 + length l.tokens;
  left : l.found.items ++ applications_in l.file l.before l.number (map view_token l.rest)
      ≡ l.fn.found.items ++ applications_in l.file [] 1 (map view_token l.tokens);
}

abbrev pub decreases-loop-rest : goal.decreases-loop-rest
decreases-loop-rest l = length l.rest
