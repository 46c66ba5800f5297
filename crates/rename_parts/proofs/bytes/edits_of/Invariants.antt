use Rattle.std.proofs.Common.{◌≡◌, ◌+◌, All}
use Rattle.edits.specs.Replaced.{HasShortText}
use Rattle.rename_parts.proofs.Words.{Continues}
use Rattle.rename_parts.proofs.bytes.edits_of.Given as goal

-- with the edits of the tokens that are left, they give all tokens their words
abbrev pub invariant-loop-token : goal.invariant-loop-token
invariant-loop-token l = record {
  count : l.number ≡ l.token-index + 1;
  give : Continues l.set l.file l.new l.tokens l.token-index l.list.items;
  short : All HasShortText l.list.items;
}
