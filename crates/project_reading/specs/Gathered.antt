-- How the tree of a further source is added to units, which are in byte order of their names
-- (own).
use Rattle.std.specs.Prelude.{ℕ, List, [], ◌∷◌, Bool, true, false, Some, None}
use Rattle.std.specs.Cmp.Lexicographic.{slice_cmp}
use Rattle.std.specs.Ordering.{nat_cmp, match_ordering}
use Rattle.ml_trees.specs.Tree.{FileTree, UnitTree}

-- a unit with this tree as its body, or as its interface
abbrev pub with_part : Bool → FileTree → UnitTree → UnitTree
with_part true tree u = record { name = u.name; body = Some tree; face = u.face }
with_part false tree u = record { name = u.name; body = u.body; face = Some tree }

-- a unit of this name with no tree
abbrev pub empty_unit : List ℕ → UnitTree
empty_unit name = record { name = name; body = None; face = None }

-- the tree is added to the unit of this name, and a new unit is inserted at its place if there is none
abbrev pub put_part : Bool → List ℕ → FileTree → List UnitTree → List UnitTree
put_part body name tree [] = with_part body tree (empty_unit name) ∷ []
put_part body name tree (u ∷ us) =
    match_ordering (slice_cmp nat_cmp name u.name)
    (with_part body tree (empty_unit name) ∷ u ∷ us)
    (with_part body tree u ∷ us)
    (u ∷ put_part body name tree us)
