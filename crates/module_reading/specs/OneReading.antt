-- That two files of the same words are one, in the words of the trees (own; the OCaml manual, "Compilation units").
use Rattle.std.specs.Prelude.{◌≡◌}
use Rattle.ml_trees.specs.Tree.{FileTree, Body, Face}
use Rattle.ml_trees.specs.Words.{words}
use Rattle.ml_trees.specs.WellFormed.{WfFile}

-- two bodies, or two interfaces, of one number
abbrev pub AreOfOneKind : FileTree → FileTree → Type 0
AreOfOneKind (Body a is) (Body b js) = a ≡ b
AreOfOneKind (Face a is) (Face b js) = a ≡ b
AreOfOneKind _ _ = ⊥

-- two files of one kind that have the same words are one
abbrev pub OneFileReading : Type 0
OneFileReading = (a b : FileTree) → AreOfOneKind a b → WfFile a → WfFile b → words a ≡ words b → a ≡ b
