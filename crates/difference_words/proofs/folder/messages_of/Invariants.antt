use Rattle.std.proofs.Common.{◌≡◌, map, take}
use Rattle.refusal_words.specs.Cut.{view_cut}
use Rattle.difference_words.specs.Warning.{warning_of}
use Rattle.difference_words.proofs.folder.messages_of.Given as goal

-- the warnings so far
abbrev pub invariant-loop-difference : goal.invariant-loop-difference
invariant-loop-difference l = l.messages.items ≡ map (warning_of (map view_cut l.cuts)) (take l.difference-index l.list)
