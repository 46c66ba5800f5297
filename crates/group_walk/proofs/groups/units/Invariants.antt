use Rattle.std.proofs.Common.{◌≡◌, ◌++◌, drop, map}
use Rattle.ml_trees.specs.View.{view_unit}
use Rattle.binding_model.specs.Facts.{decls}
use Rattle.group_walk.specs.Groups.{units_groups}
use Rattle.group_walk.proofs.groups.units.Given as goal

abbrev pub invariant-loop-tree : goal.invariant-loop-tree
invariant-loop-tree l = l.found.items ++ map decls (units_groups (map view_unit (drop l.tree-index l.list))) ≡ map decls
    (units_groups (map view_unit l.list))
