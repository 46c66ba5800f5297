-- The text of a message (own).
use Rattle.std.specs.Prelude.{ℕ, List, [], ◌∷◌, ◌++◌, Option, Some, None, codes, flat_map}
use Rattle.std.specs.Fmt.{decimal}
use Rattle.report.specs.Pieces.{Word, join}
use Rattle.report.specs.Text.{ended}
use Rattle.messages.specs.declared.parts.Spot.{Spot}
use Rattle.messages.specs.declared.parts.Note.{Note}
use Rattle.messages.specs.declared.parts.Message.{Message}
use Rattle.messages.specs.declared.parts.Severity.{Severity}
use Rattle.messages.specs.declared.parts.Severity.TheVariants.{Error, Warning, Info}
use Rattle.messages.specs.Kind.{kind_text}
use Rattle.messages.specs.Shown.{shown_of}
use Rattle.messages.specs.Excerpt.{excerpt_of}

abbrev pub severity_text : Severity → Word
severity_text Error = codes "error"
severity_text Warning = codes "warning"
severity_text Info = codes "info"

-- FILE:LINE:COLUMN
abbrev pub spot_text : Spot → Word
spot_text spot = join (spot.file ∷ codes ":" ∷ decimal spot.line ∷ codes ":" ∷ decimal spot.column ∷ [])

-- a line as a terminal may get it
abbrev pub safe_line : List Word → Word
safe_line words = ended (shown_of (join words))

-- the sentence, with the excerpt of its place
abbrev pub bare_line : Word → Word → Word → Word
bare_line severity kind text = safe_line (severity ∷ codes ": " ∷ text ∷ codes " [" ∷ kind ∷ codes "]" ∷ [])

abbrev pub placed_line : Word → Word → Word → Spot → Word
placed_line severity kind text spot =
    safe_line (spot_text spot ∷ codes ": " ∷ severity ∷ codes ": " ∷ text ∷ codes " [" ∷ kind ∷ codes "]" ∷ [])

abbrev pub head_text : Severity → Word → Word → Option Spot → Word
head_text severity kind text None = bare_line (severity_text severity) kind text
head_text severity kind text (Some spot) = placed_line (severity_text severity) kind text spot ++ excerpt_of spot

-- what is said of another place, with its excerpt
abbrev pub note_text : Note → Word
note_text note = safe_line (spot_text note.at ∷ codes ": note: " ∷ note.text ∷ []) ++ excerpt_of note.at

abbrev pub help_text : Option Word → Word
help_text None = []
help_text (Some help) = safe_line (codes "help: " ∷ help ∷ [])

-- the sentence, the notes and the help
abbrev pub message_text : Message → Word
message_text m = head_text m.severity (kind_text m.kind) m.text m.at ++ flat_map note_text m.notes ++ help_text m.help
