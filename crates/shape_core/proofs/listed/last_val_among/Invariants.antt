use Rattle.std.proofs.Common.{◌≡◌, take}
use Rattle.shape_core.specs.Node.{entries_of}
use Rattle.shape_core.specs.Looks.{last_where, of_name}
use Rattle.shape_core.proofs.listed.last_val_among.Given as goal

abbrev pub invariant-loop-at : goal.invariant-loop-at
invariant-loop-at l = l.last ≡ last_where (of_name l.name) (entries_of (take l.at l.list))
