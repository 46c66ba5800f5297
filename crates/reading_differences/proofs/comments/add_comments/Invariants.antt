use Rattle.std.proofs.Common.{◌≡◌, ◌++◌, drop, map}
use Rattle.ml_lexer.specs.Lexed.{view_token}
use Rattle.reading_differences.specs.Comments.{comments_in}
use Rattle.reading_differences.proofs.comments.add_comments.Given as goal

-- those found so far and those of what is left are those of all
abbrev pub invariant-loop-token : goal.invariant-loop-token
invariant-loop-token l = record {
  count : l.number ≡ l.token-index;
  left : l.found.items ++ comments_in l.file l.bytes l.number l.from (map view_token (drop l.token-index l.tokens))
      ≡ l.fn.found.items ++ comments_in l.file l.bytes 0 0 (map view_token l.tokens);
}
