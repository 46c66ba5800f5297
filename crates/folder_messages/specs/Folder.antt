-- The messages of folders that are not loaded (own).
use Rattle.std.specs.Prelude.{ℕ, zero, suc, ◌+◌, ◌-◌, ◌==◌, ◌&&◌, List, [], ◌∷◌, Bool, true, false, if◌then◌else◌, Option, None, Some, filter, length}
use Rattle.std.specs.Prelude.{map, nat_le, not, option_map, slice_get, take}
use Rattle.std.specs.Bool.{beq}
use Rattle.std.specs.Cmp.Lexicographic.{slice_cmp}
use Rattle.std.specs.FinMap.{get}
use Rattle.std.specs.List.{list_any}
use Rattle.std.specs.Ordering.{is_lt, nat_cmp}
use Rattle.std.specs.Str.{bytes_eq}
use Rattle.std.specs.Str.Lines.{lines}
use Rattle.rotor_base.specs.Files.{least_word}
use Rattle.rotor_base.specs.Limits.{max_file_bytes}
use Rattle.rotor_base.specs.Stem.{is_body_name, is_source_name}
use Rattle.rotor_base.specs.Unit.{unit_of}
use Rattle.rotor_base.specs.declared.refusal.LoadError.{LoadError}
use Rattle.rotor_base.specs.declared.refusal.LoadError.TheVariants as load
use Rattle.report.specs.Pieces.{Word}
use Rattle.messages.specs.declared.parts.Message.{Message}
use Rattle.tree_io.specs.Outside.{FileMap}
use Rattle.project_load.specs.Load.{manifest_of, source_names}
use Rattle.refusal_words.specs.Folder.{double_unit, large_file, large_sum, missing_unit, repeated_unit, too_many, unknown_unit}

-- the first bytes of a file, as many as it may have and one more
abbrev pub front_of : Option (List ℕ) → Option (List ℕ)
front_of file = option_map (take (max_file_bytes + 1)) file

-- ---- too many bytes

-- there is a file, and it has no more bytes than one may have
abbrev pub is_small : Option (List ℕ) → Bool
is_small None = false
is_small (Some bytes) = nat_le (length bytes) max_file_bytes

-- a file that is too large, or a source with which all so far are
abbrev pub large_message : Word → FileMap → Message
large_message file held = if is_source_name file && is_small (front_of (get held file)) then large_sum file else large_file file

-- ---- a unit that two sources make

-- the source makes the unit, and is its body or its interface
abbrev pub is_twin : Word → Bool → Word → Bool
is_twin unit is_body name = beq (is_body_name name) is_body && bytes_eq (unit_of name) unit

abbrev pub twins : List Word → Word → Bool → List Word
twins names unit is_body = filter (is_twin unit is_body) names

-- the message of the first two names, if there are two
abbrev pub first_two : Word → List Word → Option Message → Option Message
first_two unit (first ∷ second ∷ names) otherwise = Some (double_unit first second unit)
first_two unit names otherwise = otherwise

-- two bodies, or else two interfaces
abbrev pub double_message : List Word → Word → Option Message
double_message names unit = first_two unit (twins names unit true) (first_two unit (twins names unit false) None)

-- ---- lines of rotor.units

-- how many bytes so many lines have, with the LF of each
abbrev pub start_of : ℕ → List ℕ → ℕ
start_of zero bytes = 0
start_of (suc n) [] = 0
start_of (suc n) (b ∷ bs) = suc (if b == 10 then start_of n bs else start_of (suc n) bs)

-- the line behind so many lines has this word: that of a unit, so an earlier line names it too, or of none
abbrev pub line_message : List ℕ → List Word → ℕ → Word → Message
line_message bytes names before word =
    if list_any (λ name. bytes_eq (unit_of name) word) names
    then repeated_unit bytes (start_of before bytes) (start_of before bytes + length word)
    else unknown_unit bytes (start_of before bytes) (start_of before bytes + length word)

-- a name is less than another in byte order, or there is no other
abbrev pub is_less : Word → Option Word → Bool
is_less name None = true
is_less name (Some other) = is_lt (slice_cmp nat_cmp name other)

-- the least unit of some sources that no line names
abbrev pub least_unnamed : List Word → List Word → Option Word
least_unnamed units names = least_word (filter (λ unit. not (list_any (bytes_eq unit) units)) (map unit_of names))

abbrev pub missing_message : List Word → List Word → Option Message
missing_message units names = option_map missing_unit (least_unnamed units names)

abbrev pub line_or_missing : List ℕ → List Word → ℕ → Option Word → Option Message
line_or_missing bytes names before (Some word) = Some (line_message bytes names before word)
line_or_missing bytes names before None = missing_message (lines bytes) names

-- the line of this number, counted from 1; behind the last line, the least unit without a line
abbrev pub manifest_message : List ℕ → List Word → ℕ → Option Message
manifest_message bytes names line = line_or_missing bytes names (line - 1) (slice_get (lines bytes) (line - 1))

abbrev pub units_message : Option (List ℕ) → List Word → ℕ → Option Message
units_message None names line = None
units_message (Some bytes) names line = manifest_message bytes names line

-- ---- the message of a reason, with what the folder has; a fault and want of memory have none
abbrev pub message_of : LoadError → FileMap → Option Message
message_of (load.TooMany count) held = Some (too_many count)
message_of (load.TooLarge file) held = Some (large_message file held)
message_of (load.DoubleUnit unit) held = double_message (source_names held) unit
message_of (load.BadManifest line) held = units_message (front_of (manifest_of held)) (source_names held) line
message_of load.Read held = None
message_of load.Memory held = None
