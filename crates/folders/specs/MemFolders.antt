-- What folders in memory hold (own).
use Rattle.std.specs.Prelude.{ℕ, List, [], ◌∷◌, if◌then◌else◌}
use Rattle.std.specs.Str.{bytes_eq}
use Rattle.rotor_base.specs.declared.source.SourceFile.{SourceFile}
use Rattle.folders.specs.declared.mem_folders.MemFolder.{MemFolder}
use Rattle.folders.specs.declared.mem_folders.MemFolders.{MemFolders}

-- the folders
abbrev pub mem_folders : MemFolders → List MemFolder
mem_folders all = all.folders.items

-- the files of the first folder with a path; none if there is no such folder
abbrev pub files_at : List ℕ → List MemFolder → List SourceFile
files_at path [] = []
files_at path (folder ∷ folders) = if bytes_eq folder.path path then folder.files.items else files_at path folders
