-- Plans: the new bytes of the files that a renaming changes, as one text (own).
use Rattle.std.specs.Prelude.{◌≡◌, ℕ, ◌≤◌, List, [], ◌∷◌, ◌++◌, flat_map, length, None, codes}
use Rattle.std.specs.Fmt.{decimal}
use Rattle.rotor_base.specs.Limits.{max_plan_bytes}
use Rattle.rotor_base.specs.Files.{AreSources, too_many, too_large}
use Rattle.rotor_base.specs.declared.source.SourceFile.{SourceFile}

-- a word, and the LF that ends its line
abbrev pub line : List ℕ → List ℕ
line word = word ++ 10 ∷ []

-- a file of this name with these bytes
abbrev pub file_of : List ℕ → List ℕ → SourceFile
file_of name bytes = record { name = name; bytes = bytes }

-- a file in a plan: its name, a space, its length, LF, its bytes, LF
abbrev pub plan_entry : SourceFile → List ℕ
plan_entry file = (file.name ++ 32 ∷ []) ++ (line (decimal (length file.bytes)) ++ line file.bytes)

-- the plan of these files (Plan format)
abbrev pub plan_text : List SourceFile → List ℕ
plan_text files = line (codes "rotor-plan 1")
    ++ ((codes "files " ++ line (decimal (length files))) ++ (flat_map plan_entry files ++ line (codes "end")))

-- The bytes are the plan of these files: sources in strict byte order that keep the limits on files.
pub record IsPlan (bytes : List ℕ) (files : List SourceFile) : Type 0 where
  pub written : bytes ≡ plan_text files
  pub sources : AreSources files
  pub few : too_many files ≡ None
  pub small : too_large files ≡ None
  pub short : length bytes ≤ max_plan_bytes
