-- Trees of sources that are known before the sources are read (own).
use Rattle.std.specs.Prelude.{◌≡◌, ℕ, List, Some, map, slice_get}
use Rattle.rotor_base.specs.declared.source.SourceFile.{SourceFile}
use Rattle.ml_trees.specs.Tree.{FileTree, Body, Face}
use Rattle.ml_trees.specs.View.{view_part_of}
use Rattle.project_reading.specs.Source.{ReadsAs}
use Rattle.project_reading.specs.declared.known.KnownTrees.{KnownTrees}

-- the number of a tree's file
abbrev pub file_of : FileTree → ℕ
file_of (Body file items) = file
file_of (Face file items) = file

-- the source of this number is read as this tree
pub record IsReadAs (sources : List SourceFile) (number : ℕ) (tree : FileTree) : Type 0 where
  pub source : SourceFile
  pub there : slice_get sources number ≡ Some source
  pub reads : ReadsAs number source tree

-- each tree that is known is what the source of its number is read as
abbrev pub AreKnown : List SourceFile → KnownTrees → Type 0
AreKnown sources known =
    (number : ℕ) (tree : FileTree) → slice_get (map view_part_of known.trees.items) number ≡ Some (Some tree) → IsReadAs sources number tree
