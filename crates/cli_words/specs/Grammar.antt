-- The command line as it is declared to `clap`, and the form that it reads (own).
use Rattle.std.specs.Prelude.{◌≡◌, List, Bool, true, false, not, ◌==◌, Option, Some, None, option_map, option_and_then, if◌then◌else◌, codes}
use Rattle.std.specs.Str.{bytes_eq}
use Rattle.clap.specs.Words.{App, Row, Rule, app_of, count_of, first_of, new_app, new_rule, subcommand_of, takes, with_rule, with_subcommand}
use Rattle.clap.specs.declared.builder.action.ArgAction.TheVariants.{Count}
use Rattle.clap.specs.declared.builder.command.Command.{Command}
use Rattle.clap.specs.declared.builder.command.Command.TheViews.{out-Command as fields_of}
use Rattle.cli_words.specs.Words.{Word}
use Rattle.cli_words.specs.declared.asked.Flags.{Flags}
use Rattle.cli_words.specs.declared.asked.Asked.{Asked}
use Rattle.cli_words.specs.declared.asked.Asked.TheVariants.{Check, Footprint, Rename, Sample, Verify, Batch, Recover}

-- a flag `--id`, whose uses are counted
abbrev pub flag_rule : Word → Rule
flag_rule id = record (new_rule id) { long = Some id; action = Some Count }

abbrev pub value_app : App → Word → App
value_app app id = with_rule app (new_rule id)

abbrev pub flag_app : App → Word → App
flag_app app id = with_rule app (flag_rule id)

abbrev pub footprint_app : App
footprint_app = value_app (new_app (codes "footprint")) (codes "TARGET")

abbrev pub rename_app : App
rename_app = flag_app (flag_app (flag_app (value_app (value_app (new_app (codes "rename")) (codes "TARGET")) (codes "NAME")) (codes "write"))
    (codes "safe")) (codes "json")

abbrev pub sample_app : App
sample_app = value_app (new_app (codes "sample")) (codes "N")

abbrev pub verify_app : App
verify_app = value_app (value_app (new_app (codes "verify")) (codes "OLDLIST")) (codes "NEWLIST")

abbrev pub batch_app : App
batch_app = flag_app (value_app (new_app (codes "batch")) (codes "FILE")) (codes "write")

-- the program, with help and version off, and with no name of a program before its words
abbrev pub program_app : App
program_app =
    let program = new_app (codes "rotor") in
    record program {
      top = record program.top
          { no_binary_name = true; disable_help_flag = true; disable_help_subcommand = true; disable_version_flag = true };
    }

abbrev pub above_app : App → App → App
above_app app sub = with_subcommand app sub.top

-- the program and its subcommands
abbrev pub rotor_app : App
rotor_app =
    above_app (above_app (above_app
    (above_app (above_app (above_app (above_app program_app (new_app (codes "check"))) footprint_app) rename_app) sample_app) verify_app)
    batch_app) (new_app (codes "recover"))

-- the command is declared as this, and declares no argument that its subcommands share
pub record IsTold (command : Command) (app : App) : Type 0 where
  pub shape : app_of command ≡ app
  pub local : (fields_of command).has_globals ≡ false

-- ---- what `clap` read

abbrev pub is_used : List Row → Word → Bool
is_used rows id = not (count_of id rows == 0)

abbrev pub flags_in : List Row → Flags
flags_in rows = record { write = is_used rows (codes "write"); safe = is_used rows (codes "safe"); json = is_used rows (codes "json") }

-- a form with one value, and with two
abbrev pub with_value : (Word → Asked Word) → Word → List Row → Option (Asked Word)
with_value form id rows = option_map form (first_of id rows)

abbrev pub with_values : (Word → Word → Asked Word) → Word → Word → List Row → Option (Asked Word)
with_values form id other rows = option_and_then (λ first. option_map (form first) (first_of other rows)) (first_of id rows)

-- the form that a subcommand with these matches is
abbrev pub heard : Word × List Row → Option (Asked Word)
heard met =
    if bytes_eq met.0 (codes "check") then Some Check
    else (if bytes_eq met.0 (codes "footprint") then with_value Footprint (codes "TARGET") met.1
    else (if bytes_eq met.0 (codes "rename") then with_values (λ target name. Rename target name (flags_in met.1)) (codes "TARGET")
    (codes "NAME") met.1
    else (if bytes_eq met.0 (codes "sample") then with_value Sample (codes "N") met.1
    else (if bytes_eq met.0 (codes "verify") then with_values Verify (codes "OLDLIST") (codes "NEWLIST") met.1
    else (if bytes_eq met.0 (codes "batch") then with_value (λ file. Batch file (is_used met.1 (codes "write"))) (codes "FILE") met.1
    else (if bytes_eq met.0 (codes "recover") then Some Recover else None))))))

-- `clap` accepts the words, and then reads this form
unfoldable pub is_taken : List Word → Bool
is_taken words = takes rotor_app words

unfoldable pub read_of : List Word → Option (Asked Word)
read_of words = option_and_then heard (subcommand_of rotor_app words)
