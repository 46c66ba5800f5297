-- The sources of a folder with their manifest, and which of them are taken as a project's files
-- (own; the OCaml manual, "Compilation units").
use Rattle.std.specs.Prelude.{◌≡◌, ◌⊎◌, ℕ, suc, List, [], ◌∷◌, Bool, true, ◌&&◌, ◌||◌, not, if◌then◌else◌, Option, Some, None, option_map, length}
use Rattle.std.specs.Prelude.{map, filter, sum_by, nat_lt, codes}
use Rattle.std.specs.Option.{option_or}
use Rattle.std.specs.List.{list_any, list_all, fold}
use Rattle.std.specs.List.Sorted.{IsStrictlySortedBy}
use Rattle.std.specs.Ordering.{nat_cmp, is_lt}
use Rattle.std.specs.Cmp.Lexicographic.{slice_cmp}
use Rattle.std.specs.Bool.{beq}
use Rattle.std.specs.Str.{bytes_eq}
use Rattle.std.specs.Str.Lines.{lines}
use Rattle.rotor_base.specs.Limits.{max_file_bytes, max_sources, max_total_bytes}
use Rattle.rotor_base.specs.Stem.{is_source_name, is_body_name}
use Rattle.rotor_base.specs.Unit.{unit_of}
use Rattle.rotor_base.specs.declared.source.SourceFile.{SourceFile}
use Rattle.rotor_base.specs.declared.unit.SourceUnit.{SourceUnit}
use Rattle.rotor_base.specs.declared.refusal.LoadError.{LoadError}
use Rattle.rotor_base.specs.declared.refusal.LoadError.TheVariants.{TooMany, TooLarge, DoubleUnit, BadManifest, Memory}

-- sources by their names, with their bytes, and the bytes of the manifest if there is one
pub record FileSet : Type 0 where
  pub entries : List SourceFile
  pub manifest : Option (List ℕ)

-- the first item with which the items up to it meet a test
abbrev pub first_with : {X : Type 0} → (List X → Bool) → List X → Option X
first_with test [] = None
first_with test (x ∷ xs) = if test (x ∷ []) then Some x else first_with (λ front. test (x ∷ front)) xs

-- there are more than 2,000 sources
unfoldable pub too_many : List SourceFile → Option LoadError
too_many files = if nat_lt max_sources (length files) then Some (TooMany (length files)) else None

-- one of these sources has more than 1,048,576 bytes, or all of them together more than 8,388,608
abbrev pub are_over : List SourceFile → Bool
are_over files = list_any (λ file. nat_lt max_file_bytes (length file.bytes)) files || nat_lt max_total_bytes
    (sum_by (λ file. length file.bytes) files)

-- the first source with which those up to it are over the limits on bytes
unfoldable pub too_large : List SourceFile → Option LoadError
too_large files = option_map (λ file. TooLarge file.name) (first_with are_over files)

-- the manifest has more than 1,048,576 bytes
unfoldable pub long_manifest : Option (List ℕ) → Option LoadError
long_manifest None = None
long_manifest (Some bytes) = if nat_lt max_file_bytes (length bytes) then Some (TooLarge (codes "rotor.units")) else None

-- two sources are of one kind and give one unit
abbrev pub are_twins : SourceUnit → SourceUnit → Bool
are_twins unit other = beq unit.is_body other.is_body && bytes_eq unit.name other.name

-- the units that two of these sources give that are of one kind
abbrev pub doubled_units : List SourceUnit → List (List ℕ)
doubled_units [] = []
doubled_units (unit ∷ units) = if list_any (are_twins unit) units then unit.name ∷ doubled_units units else doubled_units units

-- the lesser of two words in byte order; if there is but one, that one
abbrev pub lesser : Option (List ℕ) → List ℕ → Option (List ℕ)
lesser None word = Some word
lesser (Some least) word = if is_lt (slice_cmp nat_cmp word least) then Some word else Some least

-- the least of some words in byte order
abbrev pub least_word : List (List ℕ) → Option (List ℕ)
least_word words = fold lesser None words

-- the least unit that two sources of one kind give
unfoldable pub double_unit : List SourceUnit → Option LoadError
double_unit units = option_map DoubleUnit (least_word (doubled_units units))

-- The number of the first line that names none of the units that are left. Each line that is not empty takes the unit
-- that it names. If a unit is left at the end, it is one more than the number of lines.
abbrev pub bad_line : List (List ℕ) → List SourceUnit → Option ℕ
bad_line [] [] = None
bad_line [] (unit ∷ units) = Some 1
bad_line ([] ∷ lines) units = option_map suc (bad_line lines units)
bad_line ((b ∷ bs) ∷ lines) units =
    if list_any (λ unit. bytes_eq unit.name (b ∷ bs)) units then option_map suc
    (bad_line lines (filter (λ unit. not (bytes_eq unit.name (b ∷ bs))) units)) else Some 1

-- a line of the manifest names no unit, or one that an earlier line names, or a unit has no line
unfoldable pub bad_manifest : List SourceUnit → Option (List ℕ) → Option LoadError
bad_manifest units None = None
bad_manifest units (Some bytes) = option_map BadManifest (bad_line (lines bytes) units)

-- the names of these sources
abbrev pub names_of : List SourceFile → List (List ℕ)
names_of files = map (λ file. file.name) files

-- the unit that each of these sources gives, and whether the source is its body
abbrev pub units_of : List SourceFile → List SourceUnit
units_of files = map (λ file. record { name = unit_of file.name; is_body = is_body_name file.name }) files

-- the first reason not to take these sources with this manifest
abbrev pub load_refusal : List SourceFile → Option (List ℕ) → Option LoadError
load_refusal files manifest =
    option_or (too_many files)
    (option_or (too_large files)
    (option_or (long_manifest manifest)
    (option_or (double_unit (units_of files))
    (bad_manifest (units_of files) manifest))))

-- they are sources in strict byte order of their names
pub record AreSources (files : List SourceFile) : Type 0 where
  pub named : list_all is_source_name (names_of files) ≡ true
  pub ordered : IsStrictlySortedBy (slice_cmp nat_cmp) (names_of files)

-- The files of a project: sources in strict byte order that keep the limits, no two of one kind with one unit, and a
-- manifest that lists each unit once, if there is one.
pub record IsProject (files : FileSet) : Type 0 where
  pub sources : AreSources files.entries
  pub taken : load_refusal files.entries files.manifest ≡ None

-- a call is refused so: it is the first reason, or there was no memory
abbrev pub IsRefusedBy : Option LoadError → LoadError → Type 0
IsRefusedBy reason error = (reason ≡ Some error) ⊎ (error ≡ Memory)
