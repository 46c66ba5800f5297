-- Loading by a list: the list gives a folder, which is loaded (own).
use Rattle.std.specs.Prelude.{◌≡◌, ◌⊎◌, ℕ, ◌+◌, ◌<◌, ◌≤◌, ◌||◌, Bool, true, List, [], ◌∷◌, ◌++◌, None, Some, IsSome, Result, Ok, Err}
use Rattle.std.specs.Prelude.{MatchResult, length, codes}
use Rattle.std.specs.Str.{bytes_eq}
use Rattle.std.specs.FinMap.{empty, get, insert}
use Rattle.rotor_base.specs.Spaces.{IsWhole}
use Rattle.rotor_base.specs.Files.{FileSet}
use Rattle.rotor_base.specs.Limits.{max_file_bytes}
use Rattle.rotor_base.specs.Lines.{feed_lines}
use Rattle.rotor_base.specs.Stem.{is_source_name}
use Rattle.rotor_base.specs.declared.refusal.LoadError.{LoadError}
use Rattle.rotor_base.specs.declared.refusal.LoadError.TheVariants.{TooLarge, Memory}
use Rattle.tree_io.specs.Outside.{FileMap}
use Rattle.project_load.specs.Load.{loaded}
use Rattle.project_load.specs.declared.error.ListError.{ListError}
use Rattle.project_load.specs.declared.error.ListError.TheVariants.{Read, BadList, Load}

-- a SOURCE of a list: the name of a source, or that of the manifest
abbrev pub is_listed_name : List ℕ → Bool
is_listed_name name = is_source_name name || bytes_eq name (codes "rotor.units")

-- the line is `SOURCE FILE`: SOURCE names a source or the manifest, and FILE names a file of the folder with these bytes
pub record IsEntry (held : FileMap) (line source bytes : List ℕ) : Type 0 where
  pub file : List ℕ
  pub split : line ≡ source ++ 32 ∷ file
  pub named : is_listed_name source ≡ true
  pub whole : IsWhole file
  pub there : get held file ≡ Some bytes

-- The lines give a folder: under each SOURCE the bytes of its FILE, and no SOURCE twice. `given` is the folder of the
-- lines before, and `all` that of all lines.
abbrev pub Gives : FileMap → List (List ℕ) → FileMap → FileMap → Type 0
Gives held [] given all = all ≡ given
Gives held (line ∷ lines) given all =
    (source : List ℕ) × (bytes : List ℕ) × IsEntry held line source bytes × (get given source ≡ None) × Gives held lines
    (insert given source bytes) all

-- the first bad line has this number, counted from 1: it has not the form, names a FILE that the folder lacks, or
-- repeats a SOURCE
pub record IsBadLine (held : FileMap) (lines : List (List ℕ)) (number : ℕ) : Type 0 where
  pub before : List (List ℕ)
  pub line : List ℕ
  pub after : List (List ℕ)
  pub given : FileMap
  pub split : lines ≡ before ++ line ∷ after
  pub counted : number ≡ length before + 1
  pub good : Gives held before empty given
  pub bad : (source bytes : List ℕ) → IsEntry held line source bytes → IsSome (get given source)

-- what a list gives: the files that its folder loads as, or the first reason against them
pub data Lists (held : FileMap) (list : List ℕ) (result : Result FileSet ListError) : Type 0 where
  lacks : get held list ≡ None → result ≡ Err (BadList 0) → Lists held list result
  large : (bytes : List ℕ) → get held list ≡ Some bytes → max_file_bytes < length bytes → result ≡ Err (Load (TooLarge list)) → Lists held list result
  unread :
      (bytes : List ℕ) (number : ℕ) → get held list ≡ Some bytes → length bytes ≤ max_file_bytes → IsBadLine held (feed_lines bytes) number
      → result ≡ Err (BadList number) → Lists held list result
  refused :
      (bytes : List ℕ) (given : FileMap) (error : LoadError) → get held list ≡ Some bytes → length bytes ≤ max_file_bytes
      → Gives held (feed_lines bytes) empty given → loaded given ≡ Err error → result ≡ Err (Load error) → Lists held list result
  taken :
      (bytes : List ℕ) (given : FileMap) (files : FileSet) → get held list ≡ Some bytes → length bytes ≤ max_file_bytes
      → Gives held (feed_lines bytes) empty given → loaded given ≡ Ok files → result ≡ Ok files → Lists held list result

-- the errors that no list gives
abbrev pub IsOutsideList : ListError → Type 0
IsOutsideList error = (error ≡ Read) ⊎ (error ≡ Load Memory)

-- the answer is that of the list, or the folder failed, or there was no memory
abbrev pub IsListAnswer : FileMap → List ℕ → Result FileSet ListError → Type 0
IsListAnswer held list result = MatchResult result (λ files. Lists held list (Ok files)) (λ error. IsOutsideList error ⊎ Lists held list (Err error))

-- Law: a folder and a list have at most one answer
abbrev pub ListsAreOne : Type 0
ListsAreOne = (held : FileMap) (list : List ℕ) (one other : Result FileSet ListError) → Lists held list one → Lists held list other → one ≡ other
