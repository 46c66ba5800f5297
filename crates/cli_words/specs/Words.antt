-- The forms of the words of the command line, and the commands that they request (own).
use Rattle.std.specs.Prelude.{ℕ, List, [], ◌∷◌, Bool, true, false, ◌==◌, ◌&&◌, not, Option, Some, None, option_map, option_and_then, if◌then◌else◌}
use Rattle.std.specs.Prelude.{nat_le, codes}
use Rattle.std.specs.Str.{bytes_eq}
use Rattle.cli_words.specs.Target.{number_at, target_of}
use Rattle.cli_words.specs.declared.asked.Flags.{Flags}
use Rattle.cli_words.specs.declared.asked.Asked.{Asked}
use Rattle.cli_words.specs.declared.asked.Asked.TheVariants as form
use Rattle.cli_words.specs.declared.command.Command.{Command}
use Rattle.cli_words.specs.declared.command.Command.TheVariants as command

abbrev pub Word : Type 0
Word = List ℕ

-- a value is not empty and does not begin with `-`
abbrev pub is_value : Word → Bool
is_value [] = false
is_value (b ∷ bs) = not (b == 45)

-- ---- the flags: each at most once, in either order

abbrev pub no_flags : Flags
no_flags = record { write = false; safe = false; json = false }

-- `--write` or `--safe`
abbrev pub mode_flag : Word → Option Flags
mode_flag word =
    if bytes_eq word (codes "--write") then Some (record no_flags { write = true })
    else (if bytes_eq word (codes "--safe") then Some (record no_flags { safe = true }) else None)

abbrev pub is_json_flag : Word → Bool
is_json_flag word = bytes_eq word (codes "--json")

abbrev pub with_json : Flags → Flags
with_json flags = record flags { json = true }

-- `--write` or `--safe` or neither, with or without `--json`
abbrev pub rename_flags : List Word → Option Flags
rename_flags [] = Some no_flags
rename_flags (word ∷ []) = if is_json_flag word then Some (with_json no_flags) else mode_flag word
rename_flags (first ∷ second ∷ []) =
    if is_json_flag second then option_map with_json (mode_flag first)
    else (if is_json_flag first then option_map with_json (mode_flag second) else None)
rename_flags _ = None

-- `--write` or nothing
abbrev pub write_flag : List Word → Option Bool
write_flag [] = Some false
write_flag (word ∷ []) = if bytes_eq word (codes "--write") then Some true else None
write_flag _ = None

-- ---- the words behind the first, which names the command

abbrev pub nothing_behind : Asked Word → List Word → Option (Asked Word)
nothing_behind asked [] = Some asked
nothing_behind asked _ = None

abbrev pub footprint_form : List Word → Option (Asked Word)
footprint_form (target ∷ []) = if is_value target then Some (form.Footprint target) else None
footprint_form _ = None

abbrev pub rename_form : List Word → Option (Asked Word)
rename_form (target ∷ name ∷ flags) = if is_value target && is_value name then option_map (form.Rename target name) (rename_flags flags) else None
rename_form _ = None

abbrev pub sample_form : List Word → Option (Asked Word)
sample_form (units ∷ []) = if is_value units then Some (form.Sample units) else None
sample_form _ = None

abbrev pub verify_form : List Word → Option (Asked Word)
verify_form (old ∷ new ∷ []) = if is_value old && is_value new then Some (form.Verify old new) else None
verify_form _ = None

abbrev pub batch_form : List Word → Option (Asked Word)
batch_form (file ∷ flags) = if is_value file then option_map (form.Batch file) (write_flag flags) else None
batch_form _ = None

abbrev pub form_of : Word → List Word → Option (Asked Word)
form_of name rest =
    if bytes_eq name (codes "check") then nothing_behind form.Check rest
    else (if bytes_eq name (codes "footprint") then footprint_form rest
    else (if bytes_eq name (codes "rename") then rename_form rest
    else (if bytes_eq name (codes "sample") then sample_form rest
    else (if bytes_eq name (codes "verify") then verify_form rest
    else (if bytes_eq name (codes "batch") then batch_form rest
    else (if bytes_eq name (codes "recover") then nothing_behind form.Recover rest else None))))))

-- the form that the words have
abbrev pub asked : List Word → Option (Asked Word)
asked [] = None
asked (name ∷ rest) = form_of name rest

-- ---- the command of a form

-- the fewest units of `sample`
abbrev pub min_sample : ℕ
min_sample = 2

-- the most units of `sample`
abbrev pub max_sample : ℕ
max_sample = 500

-- a number of units, if it is within these bounds
abbrev pub sample_of : ℕ → Option Command
sample_of n = if nat_le min_sample n && nat_le n max_sample then Some (command.Sample n) else None

abbrev pub command_by : Asked Word → Option Command
command_by form.Check = Some command.Check
command_by (form.Footprint target) = Some (command.Shape (target_of target))
command_by (form.Rename target name flags) = Some (command.Rename (target_of target) name flags.write flags.safe flags.json)
command_by (form.Sample units) = option_and_then sample_of (number_at units)
command_by (form.Verify old new) = Some (command.Verify old new)
command_by (form.Batch file write) = Some (command.Batch file write)
command_by form.Recover = Some command.Recover

-- the command of the words, if they have one of the forms
abbrev pub command_of : List Word → Option Command
command_of words = option_and_then command_by (asked words)
