use Rattle.std.proofs.Common.{◌≡◌, ℕ, take, length, map}
use Rattle.std.specs.Global.{Vec}
use Rattle.rename_respell.specs.Respelled.{AreRespelledBytes}
use Rattle.rename_respell.specs.Tables.{words_in}
use Rattle.rename_respell.proofs.calls.respell_all.Given as goal

-- the bytes of those so far
abbrev pub invariant-loop-at : goal.invariant-loop-at
invariant-loop-at l = record {
  count : length l.sources.items ≡ l.at;
  made : AreRespelledBytes (words_in l.words.names l.words.goals) 0 (take l.at l.entries) (map (λ (b : Vec ℕ). b.items) l.sources.items);
}
