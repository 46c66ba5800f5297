use Rattle.std.proofs.Common.{◌≡◌, ◌++◌, drop, map}
use Rattle.ml_lexer.specs.Lexed.{view_tokens}
use Rattle.reading_differences.specs.Differences.{applications}
use Rattle.reading_differences.proofs.project.add_all_applications.Given as goal

-- those found so far and those of what is left are those of all
abbrev pub invariant-loop-tokens : goal.invariant-loop-tokens
invariant-loop-tokens l = record {
  count : l.file ≡ l.tokens-index;
  left : l.found.items ++ applications l.file (map (λ list. view_tokens list.items) (drop l.tokens-index l.sources))
      ≡ l.fn.found.items ++ applications 0 (map (λ list. view_tokens list.items) l.sources);
}
