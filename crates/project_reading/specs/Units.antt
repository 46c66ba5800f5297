-- The units that sources give with their trees (the OCaml manual, "Compilation units"), and those of a list by their
-- names.
use Rattle.std.specs.Prelude.{ℕ, List, [], ◌∷◌, Bool, true, false, ◌&&◌, Option, Some, None, if◌then◌else◌, map}
use Rattle.std.specs.BTreeSet.{insert_key}
use Rattle.std.specs.Cmp.Lexicographic.{slice_cmp}
use Rattle.std.specs.Ordering.{nat_cmp}
use Rattle.std.specs.Str.{bytes_eq}
use Rattle.rotor_base.specs.Stem.{is_body_name}
use Rattle.rotor_base.specs.Unit.{unit_of}
use Rattle.rotor_base.specs.declared.source.SourceFile.{SourceFile}
use Rattle.ml_trees.specs.Tree.{FileTree, UnitTree}
use Rattle.std.specs.Bool.{beq}
use Rattle.unit_order.specs.Positions.{blank}

-- the names of the units of these sources, each once, in byte order
abbrev pub unit_names : List SourceFile → List (List ℕ)
unit_names [] = []
unit_names (source ∷ sources) = insert_key (slice_cmp nat_cmp) (unit_names sources) (unit_of source.name)

-- a source is the body of the unit of this name, or its interface
abbrev pub is_part : Bool → List ℕ → SourceFile → Bool
is_part body name source = beq (is_body_name source.name) body && bytes_eq (unit_of source.name) name

-- the tree of the first of these sources that is so
abbrev pub part_of : Bool → List ℕ → List SourceFile → List FileTree → Option FileTree
part_of body name [] trees = None
part_of body name (source ∷ sources) [] = None
part_of body name (source ∷ sources) (tree ∷ trees) = if is_part body name source then Some tree else part_of body name sources trees

-- the unit of this name, with the trees of its body and of its interface
abbrev pub unit_from : List SourceFile → List FileTree → List ℕ → UnitTree
unit_from sources trees name = record { name = name; body = part_of true name sources trees; face = part_of false name sources trees }

-- the units of these sources, in byte order of their names
abbrev pub units_of : List SourceFile → List FileTree → List UnitTree
units_of sources trees = map (unit_from sources trees) (unit_names sources)

-- the unit of this name among these
abbrev pub unit_named : List UnitTree → List ℕ → UnitTree
unit_named [] name = blank
unit_named (u ∷ us) name = if bytes_eq u.name name then u else unit_named us name

-- the units of these names, in their order
abbrev pub in_order : List UnitTree → List (List ℕ) → List UnitTree
in_order us names = map (unit_named us) names
