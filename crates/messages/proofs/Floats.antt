-- No message has a number that is no integer.
use Rattle.std.proofs.Common.{◌≡◌, ℕ, false, List, [], ◌∷◌, map, Option, Some, None, refl}
use Rattle.serde_json.specs.Data.{Data}
use Rattle.serde_json.specs.View.{items_of}
use Rattle.serde_json.specs.Written.{has_float, items_have_float}
use Rattle.report.specs.Pieces.{Word}
use Rattle.messages.specs.declared.parts.Spot.{Spot}
use Rattle.messages.specs.declared.parts.Note.{Note}
use Rattle.messages.specs.declared.parts.Message.{Message}
use Rattle.messages.specs.Json.{message_data, messages_data, note_data, notes_data, parts_data}

notes_plain : (notes : List Note) → items_have_float (items_of (map note_data notes)) ≡ false
notes_plain [] = refl
notes_plain (n ∷ ns) = notes_plain ns

parts_plain : (at : Option Spot) (help : Option Word) (code message related severity : Data) → has_float code ≡ false → has_float message ≡ false
    → has_float related ≡ false → has_float severity ≡ false → has_float (parts_data at help code message related severity) ≡ false
parts_plain None None code message related severity c m r s = rw (c, m, r, s) refl
parts_plain None (Some help) code message related severity c m r s = rw (c, m, r, s) refl
parts_plain (Some spot) None code message related severity c m r s = rw (c, m, r, s) refl
parts_plain (Some spot) (Some help) code message related severity c m r s = rw (c, m, r, s) refl

message_plain : (m : Message) → has_float (message_data m) ≡ false
message_plain m = parts_plain m.at m.help _ _ _ _ refl refl (notes_plain m.notes) refl

items_plain : (ms : List Message) → items_have_float (items_of (map message_data ms)) ≡ false
items_plain [] = refl
items_plain (m ∷ ms) = rw (message_plain m) (items_plain ms)

pub messages_plain : (ms : List Message) → has_float (messages_data ms) ≡ false
messages_plain ms = items_plain ms
