-- What a folder in memory that never fails holds (own).
use Rattle.tree_io.specs.declared.sound_tree.SoundTree.{SoundTree}
use Rattle.tree_io.specs.Outside.{FileMap}
use Rattle.tree_io.specs.Store.{stored}

-- its files
abbrev pub sound_files : SoundTree → FileMap
sound_files tree = stored tree.store
