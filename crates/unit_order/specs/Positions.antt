-- The units of a list by their positions, counted from 0 (own).
use Rattle.std.specs.Prelude.{ℕ, List, [], None, get_or, map}
use Rattle.ml_trees.specs.Tree.{UnitTree}
use Rattle.ml_trees.specs.declared.module.UnitTree as trees
use Rattle.ml_trees.specs.View.{view_unit}

-- a unit of no list
abbrev pub blank : UnitTree
blank = record { name = []; body = None; face = None }

-- the unit at a position
abbrev pub unit_at : List UnitTree → ℕ → UnitTree
unit_at units at = get_or units at blank

-- the names of the units at these positions
abbrev pub names_at : List UnitTree → List ℕ → List (List ℕ)
names_at units positions = map (λ at. (unit_at units at).name) positions

-- what these units are seen as
abbrev pub views : List trees.UnitTree → List UnitTree
views units = map view_unit units
