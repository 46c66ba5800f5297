use Rattle.std.proofs.Common.{take}
use Rattle.renaming_edits.specs.Edits.{AreListed}
use Rattle.renaming_edits.proofs.renaming.listed_edits.Given as goal

abbrev pub invariant-loop-file : goal.invariant-loop-file
invariant-loop-file l = AreListed l.counting l.set l.done.new l.sources (take l.file-index l.file-items) l.list.items
