use Rattle.std.proofs.Common.{◌≡◌, ◌+◌, ◌++◌, drop}
use Rattle.ml_lexer.specs.Lexed.{view_tokens}
use Rattle.renaming_edits.specs.Spans.{word_spans}
use Rattle.renaming_edits.proofs.source.word_spans.Given as goal

-- with the spans of the tokens that are left, they are all
abbrev pub invariant-loop-token : goal.invariant-loop-token
invariant-loop-token l = record {
  count : l.number ≡ l.token-index + 1;
  left : l.spans.items ++ word_spans l.set l.file l.number (view_tokens (drop l.token-index l.tokens)) ≡ word_spans l.set l.file 1
      (view_tokens l.tokens);
}
