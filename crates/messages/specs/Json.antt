-- The JSON of messages: an array of an object for each, in compact form with its keys in byte
-- order, and LF (own).
use Rattle.std.specs.Prelude.{ℕ, ◌+◌, max, List, [], ◌∷◌, Option, Some, None, codes, map}
use Rattle.serde_json.specs.Data.{Data, array, object, number, unsigned, member, no_members}
use Rattle.serde_json.specs.View.{items_of}
use Rattle.serde_json.specs.Written.{compact_text}
use Rattle.report.specs.Pieces.{Word}
use Rattle.report.specs.Json.{text_data}
use Rattle.report.specs.Text.{ended}
use Rattle.messages.specs.declared.parts.Spot.{Spot}
use Rattle.messages.specs.declared.parts.Note.{Note}
use Rattle.messages.specs.declared.parts.Message.{Message}
use Rattle.messages.specs.Kind.{kind_text}
use Rattle.messages.specs.Printed.{severity_text}

-- a number
abbrev pub count_data : ℕ → Data
count_data n = number (unsigned n)

-- the column behind a stretch, which has at least one byte
abbrev pub end_column : Spot → ℕ
end_column spot = spot.column + max spot.width 1

abbrev pub note_of : Spot → Data → Data → Data
note_of spot file message =
    object (member (codes "column") (count_data spot.column)
    (member (codes "endColumn") (count_data (end_column spot))
    (member (codes "file") file
    (member (codes "line") (count_data spot.line)
    (member (codes "message") message no_members)))))

abbrev pub note_data : Note → Data
note_data note = note_of note.at (text_data note.at.file) (text_data note.text)

abbrev pub bare_data : Data → Data → Data → Data → Data
bare_data code message related severity =
    object (member (codes "code") code
    (member (codes "message") message
    (member (codes "related") related
    (member (codes "severity") severity no_members))))

abbrev pub helped_data : Data → Data → Data → Data → Data → Data
helped_data code help message related severity =
    object (member (codes "code") code
    (member (codes "help") help
    (member (codes "message") message
    (member (codes "related") related
    (member (codes "severity") severity no_members)))))

abbrev pub placed_data : Data → Spot → Data → Data → Data → Data → Data
placed_data code spot file message related severity =
    object (member (codes "code") code
    (member (codes "column") (count_data spot.column)
    (member (codes "endColumn") (count_data (end_column spot))
    (member (codes "file") file
    (member (codes "line") (count_data spot.line)
    (member (codes "message") message
    (member (codes "related") related
    (member (codes "severity") severity no_members))))))))

abbrev pub whole_data : Data → Spot → Data → Data → Data → Data → Data → Data
whole_data code spot file help message related severity =
    object (member (codes "code") code
    (member (codes "column") (count_data spot.column)
    (member (codes "endColumn") (count_data (end_column spot))
    (member (codes "file") file
    (member (codes "help") help
    (member (codes "line") (count_data spot.line)
    (member (codes "message") message
    (member (codes "related") related
    (member (codes "severity") severity no_members)))))))))

-- with or without a place and a help
abbrev pub parts_data : Option Spot → Option Word → Data → Data → Data → Data → Data
parts_data None None code message related severity = bare_data code message related severity
parts_data None (Some help) code message related severity = helped_data code (text_data help) message related severity
parts_data (Some spot) None code message related severity = placed_data code spot (text_data spot.file) message related severity
parts_data (Some spot) (Some help) code message related severity =
    whole_data code spot (text_data spot.file) (text_data help) message related severity

abbrev pub notes_data : List Note → Data
notes_data notes = array (items_of (map note_data notes))

abbrev pub message_data : Message → Data
message_data m = parts_data m.at m.help (text_data (kind_text m.kind)) (text_data m.text) (notes_data m.notes) (text_data (severity_text m.severity))

abbrev pub messages_data : List Message → Data
messages_data messages = array (items_of (map message_data messages))

abbrev pub json_of : List Message → List ℕ
json_of messages = ended (compact_text (messages_data messages))
