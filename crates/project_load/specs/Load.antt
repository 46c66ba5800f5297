-- The files of a project in a folder: Load (own).
use Rattle.std.specs.Prelude.{◌≡◌, ◌⊎◌, ℕ, List, Option, Some, None, option_map, filter, Result, Ok, Err, MatchResult, codes}
use Rattle.std.specs.List.{filter_map}
use Rattle.std.specs.FinMap.{get, keys}
use Rattle.rotor_base.specs.Stem.{is_source_name}
use Rattle.rotor_base.specs.Files.{FileSet, load_refusal}
use Rattle.rotor_base.specs.declared.source.SourceFile.{SourceFile}
use Rattle.rotor_base.specs.declared.refusal.LoadError.{LoadError}
use Rattle.rotor_base.specs.declared.refusal.LoadError.TheVariants.{Read, Memory}
use Rattle.tree_io.specs.Outside.{FileMap}

-- the file of this name, if the folder has one
abbrev pub file_in : FileMap → List ℕ → Option SourceFile
file_in held name = option_map (λ bytes. record { name = name; bytes = bytes }) (get held name)

-- the files of these names
abbrev pub files_in : FileMap → List (List ℕ) → List SourceFile
files_in held names = filter_map (file_in held) names

-- the names of the sources of a folder, in byte order
abbrev pub source_names : FileMap → List (List ℕ)
source_names held = filter is_source_name (keys held)

-- the sources of a folder, in byte order of their names
abbrev pub sources_of : FileMap → List SourceFile
sources_of held = files_in held (source_names held)

-- the manifest of a folder, if it has one
abbrev pub manifest_of : FileMap → Option (List ℕ)
manifest_of held = get held (codes "rotor.units")

-- these files, or the refusal if there is one
abbrev pub unless_refused : Option LoadError → FileSet → Result FileSet LoadError
unless_refused None files = Ok files
unless_refused (Some error) files = Err error

-- Load: the sources of a folder with its manifest, or the first reason not to take them
unfoldable pub loaded : FileMap → Result FileSet LoadError
loaded held = unless_refused (load_refusal (sources_of held) (manifest_of held)) (record { entries = sources_of held; manifest = manifest_of held })

-- the refusals that no folder has
abbrev pub IsOutside : LoadError → Type 0
IsOutside error = (error ≡ Read) ⊎ (error ≡ Memory)

-- the answer is that of Load, or the folder failed, or there was no memory
abbrev pub IsLoad : FileMap → Result FileSet LoadError → Type 0
IsLoad held result = MatchResult result (λ files. loaded held ≡ Ok files) (λ error. IsOutside error ⊎ (loaded held ≡ Err error))
