-- The entries of a list, and the folder that they give (own).
use Rattle.std.specs.Prelude.{◌≡◌, ◌⊎◌, ℕ, ◌≤◌, true, List, [], ◌∷◌, ◌++◌, Option, Some, None, IsSome, is_some, Result, Ok, Err}
use Rattle.std.specs.Prelude.{MatchResult, String, length, map, string_bytes}
use Rattle.std.specs.BTreeSet.{BTreeSet, contains_text}
use Rattle.std.specs.FinMap.{empty, entries, from_entries, get, insert, remove}
use Rattle.rotor_base.specs.Spaces.{IsWhole}
use Rattle.rotor_base.specs.Files.{FileSet}
use Rattle.rotor_base.specs.Limits.{max_file_bytes}
use Rattle.rotor_base.specs.Lines.{feed_lines}
use Rattle.rotor_base.specs.declared.refusal.LoadError.{LoadError}
use Rattle.rotor_base.specs.declared.refusal.LoadError.TheVariants.{Memory}
use Rattle.tree_io.specs.Outside.{FileMap}
use Rattle.project_load.specs.Load.{loaded}
use Rattle.project_load.specs.Listed.{Gives, IsBadLine, IsOutsideList, is_listed_name}
use Rattle.project_load.specs.declared.entries.Entries.{Entries}
use Rattle.project_load.specs.declared.error.ListError.{ListError}
use Rattle.project_load.specs.declared.error.ListError.TheVariants.{BadList, Load}

-- the FILE of each SOURCE, as a map
abbrev pub table_of : Entries → FileMap
table_of list = from_entries (map (λ e. (string_bytes e.0, string_bytes e.1)) list.files.entries)

-- the folder with these bytes under a name, or without the name
abbrev pub set_at : FileMap → List ℕ → Option (List ℕ) → FileMap
set_at files name None = remove files name
set_at files name (Some bytes) = insert files name bytes

-- under each SOURCE the bytes of its FILE, if the folder has the FILE
abbrev pub given_of : FileMap → List (List ℕ × List ℕ) → FileMap
given_of held [] = empty
given_of held (e ∷ es) = set_at (given_of held es) e.0 (get held e.1)

abbrev pub given_by : FileMap → FileMap → FileMap
given_by held table = given_of held (entries table)

-- the set has the names of the folder
abbrev pub IsFolder : {Y : Type 0} → FileMap → BTreeSet (String Y) → Type 0
IsFolder held folder = (name : List ℕ) → contains_text folder name ≡ is_some (get held name)

-- each FILE is among the names
abbrev pub AreThere : {Y : Type 0} → BTreeSet (String Y) → FileMap → Type 0
AreThere folder table = (source file : List ℕ) → get table source ≡ Some file → contains_text folder file ≡ true

-- each FILE is in the folder
abbrev pub AreHeld : FileMap → FileMap → Type 0
AreHeld held table = (source file : List ℕ) → get table source ≡ Some file → IsSome (get held file)

-- the line is `SOURCE FILE`: SOURCE names a source or the manifest, and FILE is one of the names
pub record IsLine {Y : Type 0} (folder : BTreeSet (String Y)) (line source file : List ℕ) : Type 0 where
  pub split : line ≡ source ++ 32 ∷ file
  pub named : is_listed_name source ≡ true
  pub whole : IsWhole file
  pub listed : contains_text folder file ≡ true

-- the line has not this form
abbrev pub IsNoLine : {Y : Type 0} → BTreeSet (String Y) → List ℕ → Type 0
IsNoLine folder line = (source file : List ℕ) → IsLine folder line source file → ⊥

-- the line has not this form, or repeats a SOURCE
abbrev pub IsNoEntry : {Y : Type 0} → BTreeSet (String Y) → FileMap → List ℕ → Type 0
IsNoEntry folder table line = (source file : List ℕ) → IsLine folder line source file → IsSome (get table source)

-- why lines are not read: the first bad line, or want of memory
abbrev pub IsUnread : {Y : Type 0} → BTreeSet (String Y) → List (List ℕ) → ListError → Type 0
IsUnread folder lines error =
    (error ≡ Load Memory) ⊎ ((number : ℕ) × (error ≡ BadList number) × ((held : FileMap) → IsFolder held folder → IsBadLine held lines number))

-- the folder has the list, which is not too large, and whose lines give the folder of these entries
pub record IsListed (held : FileMap) (list : List ℕ) (table : FileMap) : Type 0 where
  pub bytes : List ℕ
  pub there : get held list ≡ Some bytes
  pub small : length bytes ≤ max_file_bytes
  pub gives : Gives held (feed_lines bytes) empty (given_by held table)

-- the answer is that of loading the folder of these entries, or the folder failed, or there was no memory
abbrev pub IsListLoad : FileMap → FileMap → Result FileSet ListError → Type 0
IsListLoad held table result =
    MatchResult result (λ files. loaded (given_by held table) ≡ Ok files)
    (λ error. IsOutsideList error ⊎ ((why : LoadError) × (loaded (given_by held table) ≡ Err why) × (error ≡ Load why)))
