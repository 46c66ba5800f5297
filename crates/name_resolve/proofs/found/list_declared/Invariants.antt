use Rattle.std.proofs.Common.{◌≡◌, ◌++◌, drop}
use Rattle.shape_core.specs.Node.{entries_of}
use Rattle.binding_model.specs.Facts.{decls}
use Rattle.name_resolve.proofs.found.list_declared.Given as goal

abbrev pub invariant-loop-value : goal.invariant-loop-value
invariant-loop-value l = l.places ++ decls (entries_of (drop l.value-index l.values)) ≡ decls (entries_of l.values)
