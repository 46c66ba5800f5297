-- A folder after some of its sources were written (own).
use Rattle.std.specs.Prelude.{◌≡◌, ◌⊎◌, ℕ, List, None, Ok, Contains, slice_get}
use Rattle.std.specs.List.{filter_map}
use Rattle.rotor_base.specs.Files.{FileSet, IsProject, names_of, load_refusal}
use Rattle.rotor_base.specs.declared.source.SourceFile.{SourceFile}
use Rattle.tree_io.specs.Outside.{FileMap}
use Rattle.tree_io.specs.Writes.{after}
use Rattle.project_load.specs.Load.{loaded}

-- the files of these numbers
abbrev pub files_at : List SourceFile → List ℕ → List SourceFile
files_at files numbers = filter_map (slice_get files) numbers

-- each source that differs has its number among these
abbrev pub Covers : List SourceFile → List SourceFile → List ℕ → Type 0
Covers old new numbers = (k : ℕ) → (slice_get old k ≡ slice_get new k) ⊎ Contains numbers k

-- other sources of the same names, with the same manifest
pub record AreOthers (old new : FileSet) : Type 0 where
  pub names : names_of new.entries ≡ names_of old.entries
  pub manifest : new.manifest ≡ old.manifest

-- Law: what a folder loads as is a project
abbrev pub LoadedFilesAreAProject : Type 0
LoadedFilesAreAProject = (held : FileMap) (files : FileSet) → loaded held ≡ Ok files → IsProject files

-- Law: if a folder loads as some files, and others of the same names are a project, the folder loads as the others
-- after those that differ are written
abbrev pub NewSourcesAreLoaded : Type 0
NewSourcesAreLoaded =
    (held : FileMap) (old new : FileSet) (numbers : List ℕ)
    → loaded held ≡ Ok old → AreOthers old new → load_refusal new.entries new.manifest ≡ None → Covers old.entries new.entries numbers
    → loaded (after (files_at new.entries numbers) held) ≡ Ok new

-- Law: and it is the folder that it was after the old sources are written again
abbrev pub OldSourcesAreRestored : Type 0
OldSourcesAreRestored =
    (held : FileMap) (old new : FileSet) (numbers back : List ℕ)
    → loaded held ≡ Ok old → AreOthers old new → Covers old.entries new.entries numbers → Covers new.entries old.entries back
    → after (files_at old.entries back) (after (files_at new.entries numbers) held) ≡ held
