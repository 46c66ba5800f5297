use Rattle.std.proofs.Common.{◌≡◌, map, take}
use Rattle.serde_json.specs.View.{view}
use Rattle.messages.specs.Json.{note_data}
use Rattle.messages.proofs.compact.notes_value.Given as goal

-- the notes so far
abbrev pub invariant-loop-note : goal.invariant-loop-note
invariant-loop-note l = map view l.items.items ≡ map note_data (take l.note-index l.notes)
