-- The words of the program (own).
use Rattle.std.specs.Prelude.{◌-◌, ◌&&◌, ◌||◌, List, [], ◌∷◌, Bool, true, false, Option, Some, None, codes, length, map, option_map, slice_get}
use Rattle.std.specs.Prelude.{string_bytes, take, String}
use Rattle.std.specs.Prelude.{if◌then◌else◌}
use Rattle.std.specs.Str.{bytes_eq}
use Rattle.std.specs.declared.alloc.Global.{Global}
use Rattle.rotor_base.specs.declared.target.Target.{Target}
use Rattle.cli_words.specs.Words.{Word, command_of, is_value}
use Rattle.cli_words.specs.declared.command.Command.{Command}
use Rattle.cli_words.specs.declared.command.Command.TheVariants as command
use Rattle.explain_main.specs.declared.words.Asked.{Asked}
use Rattle.explain_main.specs.declared.words.Question.{Question}
use Rattle.explain_main.specs.declared.words.Question.TheVariants as question
use Rattle.explain_main.specs.declared.words.FilesQuestion.TheVariants as over

-- the question of a renaming without a flag
abbrev pub renaming_of : Target → Word → Bool → Option Question
renaming_of target name true = None
renaming_of target name false = Some (question.Files (over.Rename target name))

-- the question of a batch that does not write
abbrev pub batch_of : Word → Bool → Option Question
batch_of file true = None
batch_of file false = Some (question.Batch file)

-- the question of a command of `rotor`: `sample`, and those with a flag, are none
abbrev pub question_of : Command → Option Question
question_of command.Check = Some (question.Files over.Check)
question_of (command.Shape target) = Some (question.Files (over.Footprint target))
question_of (command.Rename target name write safe json) = renaming_of target name (write || safe || json)
question_of (command.Sample units) = None
question_of (command.Verify old new) = Some (question.Verify old new)
question_of (command.Batch file write) = batch_of file write
question_of command.Recover = Some question.Recover

abbrev pub with_json : Bool → Question → Asked
with_json as_json q = record { question = q; as_json = as_json }

abbrev pub asked_by : Bool → Option Command → Option Asked
asked_by as_json None = None
asked_by as_json (Some c) = option_map (with_json as_json) (question_of c)

abbrev pub is_json : Option (String Global) → Bool
is_json None = false
is_json (Some word) = bytes_eq (string_bytes word) (codes "--json")

-- the last word is `--json`
abbrev pub ends_with_json : List (String Global) → Bool
ends_with_json words = is_json (slice_get words (length words - 1))

-- the word behind `at`
abbrev pub place_word : List Word → Option Word
place_word (name ∷ place ∷ []) = if bytes_eq name (codes "at") && is_value place then Some place else None
place_word _ = None

-- what a place asks; if there is none, what a command of `rotor` asks
abbrev pub asked_for : Bool → Option Word → Option Command → Option Asked
asked_for as_json (Some place) c = Some (with_json as_json (question.Files (over.At place)))
asked_for as_json None c = asked_by as_json c

-- what the words before `--json` ask
abbrev pub asked_as : Bool → List (String Global) → Option Asked
asked_as as_json words = asked_for as_json (place_word (map string_bytes words)) (command_of (map string_bytes words))

-- what the words ask: `at` and a place, or a command of `rotor`, with or without `--json` behind
abbrev pub asked_in : List (String Global) → Option Asked
asked_in words = if ends_with_json words then asked_as true (take (length words - 1) words) else asked_as false words
