-- No folder so far has the path.
use Rattle.std.proofs.Common.{◌≡◌, drop}
use Rattle.folders.specs.MemFolders.{files_at}
use Rattle.folders.proofs.mem_folders.MemFolders.find_folder.Given as goal

abbrev pub invariant-loop-folder : goal.invariant-loop-folder
invariant-loop-folder l = files_at l.path l.folder-items ≡ files_at l.path (drop l.folder-index l.folder-items)
