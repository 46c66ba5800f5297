use Rattle.std.proofs.Common.{◌≡◌, ◌+◌}
use Rattle.rename_respell.proofs.Written.{IsAt, Continues}
use Rattle.rename_respell.proofs.source.respell_source.Given as goal

-- the bytes so far, with those of the tokens that are left, are all
abbrev pub invariant-loop-token : goal.invariant-loop-token
invariant-loop-token l = record {
  count : l.number ≡ l.token-index + 1;
  order : IsAt l.words.names l.words.goals l.file l.source l.tokens l.token-index l.from;
  made : Continues l.words.names l.words.goals l.file l.source l.tokens l.token-index l.from l.bytes.items;
}
