-- What the events of a file make of the names that are needed is its heads.
use Rattle.std.proofs.Common.{◌≡◌, ℕ, List, [], Some, refl}
use Rattle.ml_trees.specs.Tree.{FileTree}
use Rattle.tree_events.specs.Told.{file_told}
use Rattle.unit_heads.specs.Heads.{needed, hears, file_heads}

pub file_heard : (t : FileTree) (found : List (List ℕ)) → (file_told hears (needed [] [] found) t).found ≡ file_heads found (Some t)
unfolding file_told
file_heard t found = refl
