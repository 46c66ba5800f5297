use Rattle.std.proofs.Common.{◌≡◌}
use Rattle.shape_core.specs.Shape.{◌⊕◌}
use Rattle.shape_core.specs.Node.{entries_of}
use Rattle.name_resolve.specs.Marked.{marked}
use Rattle.name_resolve.proofs.binders.bind_marks.Given as goal

abbrev pub invariant-loop-mark : goal.invariant-loop-mark
invariant-loop-mark l = entries_of l.made.items ≡ entries_of l.fn.made.items ⊕ marked l.file l.yielded
