use Rattle.std.proofs.Common.{◌≡◌, ◌++◌, drop, map}
use Rattle.ml_lexer.specs.Lexed.{view_tokens}
use Rattle.reading_differences.specs.Differences.{comments}
use Rattle.reading_differences.proofs.project.add_all_comments.Given as goal

-- those found so far and those of what is left are those of all
abbrev pub invariant-loop-source : goal.invariant-loop-source
invariant-loop-source l = record {
  count : l.file ≡ l.source-index;
  left : l.found.items ++ comments (map (λ list. view_tokens list.items) l.sources) l.file (drop l.source-index l.files)
      ≡ l.fn.found.items ++ comments (map (λ list. view_tokens list.items) l.sources) 0 l.files;
}
