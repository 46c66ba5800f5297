use Rattle.std.proofs.Common.{All, map, vec_len}
use Rattle.ml_trees.specs.View.{view_unit}
use Rattle.project_reading.specs.Known.{AreKnown}
use Rattle.project_reading.proofs.Knowing.{IsReadUnit}
use Rattle.project_reading.proofs.known.KnownTrees.from_project.Given as goal

-- the units that are left are read, and the trees so far are known
abbrev pub invariant-loop-unit : goal.invariant-loop-unit
invariant-loop-unit l = All (IsReadUnit l.olds) (map view_unit l.left.units.items) × AreKnown l.news l.known

abbrev pub decreases-loop-unit : goal.decreases-loop-unit
decreases-loop-unit l = vec_len l.left.units
