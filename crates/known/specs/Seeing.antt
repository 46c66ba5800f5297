-- What is known of a folder that is being seen (own).
use Rattle.std.specs.Prelude.{ℕ}
use Rattle.tree_io.specs.declared.outside.Tree.{Ghosts}
use Rattle.known.specs.declared.seeing.Seeing.{Seeing}

-- the faults that it counted
abbrev pub seeing_faults : {T : Type 0} {ghosts : Ghosts T} → Seeing T ghosts → ℕ
seeing_faults seeing = seeing.faults

-- the folder below
abbrev pub seeing_tree : {T : Type 0} {ghosts : Ghosts T} → Seeing T ghosts → T
seeing_tree seeing = seeing.tree
