use Rattle.std.proofs.Common.{All, take}
use Rattle.renaming_edits.specs.Edits.{IsText}
use Rattle.renaming_edits.proofs.renaming.find_no_text.Given as goal

abbrev pub invariant-loop-number : goal.invariant-loop-number
invariant-loop-number l = All (IsText l.sources) (take l.number-index l.numbers)
