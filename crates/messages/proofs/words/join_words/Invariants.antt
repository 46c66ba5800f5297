use Rattle.std.proofs.Common.{◌≡◌, map, take}
use Rattle.std.specs.List.{concat}
use Rattle.messages.proofs.words.join_words.Given as goal

-- the words so far are joined
abbrev pub invariant-loop-word : goal.invariant-loop-word
invariant-loop-word l = l.bytes.items ≡ concat (map (λ word. word.now) (take l.word-index l.words))
