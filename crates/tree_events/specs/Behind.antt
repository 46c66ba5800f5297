-- What the events of a tree make of a state, and then what is behind the tree (own).
use Rattle.ml_trees.specs.Tree.{AnyName}
use Rattle.ml_trees.specs.Events.{Event, said, run_of, brings}

-- an event takes a state on; a word that is only a word, and a module without a name, leave it as it is
abbrev pub behind : {S : Type 0} → (S → Event → S) → Event → (S → S) → S → S
behind step (said t) k s = k s
behind step (run_of ts) k s = k s
behind step (brings (AnyName at)) k s = k s
behind step e k s = k (step s e)
