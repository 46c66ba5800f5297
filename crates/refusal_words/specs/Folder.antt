-- The sentences of folders that are not loaded (own).
use Rattle.std.specs.Prelude.{ℕ, [], ◌∷◌, None, Some, codes}
use Rattle.report.specs.Pieces.{Word, join}
use Rattle.messages.specs.declared.kinds.Kind.TheVariants as kind
use Rattle.messages.specs.declared.parts.Spot.{Spot}
use Rattle.messages.specs.declared.parts.Message.{Message}
use Rattle.messages.specs.Shown.{shown_word_of}
use Rattle.messages.specs.Spot.{spot_of}
use Rattle.messages.specs.Words.{grouped}
use Rattle.refusal_words.specs.Parts.{around, bare, placed}

abbrev pub too_many : ℕ → Message
too_many count = bare kind.TooMany (around (codes "the folder has ") (grouped count) (codes " sources; at most 2,000 are read")) None

abbrev pub large_file : Word → Message
large_file file = bare kind.TooLarge (around [] file (codes " has more than 1,048,576 bytes")) None

abbrev pub large_sum : Word → Message
large_sum file = bare kind.TooLarge (around (codes "with ") file (codes " the sources have more than 8,388,608 bytes")) None

abbrev pub double_unit : Word → Word → Word → Message
double_unit first second unit =
    bare kind.DoubleUnit (join (first ∷ codes " and " ∷ second ∷ codes " both make the unit `" ∷ unit ∷ codes "`" ∷ []))
    (Some (codes "rename or move one of them"))

-- of a line of rotor.units: the word is what the line has from there on
abbrev pub line_message : Spot → Word → Message
line_message line rest =
    placed kind.BadManifest (around (codes "`") (shown_word_of line.behind) rest) line []
    (Some (codes "each unit of the folder stands on one line"))

abbrev pub named_line : Word → ℕ → ℕ → Word → Message
named_line units start end rest = line_message (spot_of (codes "rotor.units") units start end) rest

abbrev pub unknown_unit : Word → ℕ → ℕ → Message
unknown_unit units start end = named_line units start end (codes "` is no unit of this folder")

abbrev pub repeated_unit : Word → ℕ → ℕ → Message
repeated_unit units start end = named_line units start end (codes "` is named by an earlier line too")

abbrev pub missing_unit : Word → Message
missing_unit unit =
    bare kind.BadManifest (around (codes "rotor.units has no line for the unit `") unit (codes "`"))
    (Some (codes "each unit of the folder stands on one line"))
