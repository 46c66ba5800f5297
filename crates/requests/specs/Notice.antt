-- Notifications (Language Server Protocol 3.17, "Text Document Synchronization" and "Exit Notification").
use Rattle.std.specs.Prelude.{ℕ, ℤ, List, Bool, false, not, Option, Some, None, codes, is_some, option_and_then, option_map, unwrap_or, if◌then◌else◌}
use Rattle.std.specs.Borrow.{Bor}
use Rattle.std.specs.Option.{option_copied, option_map_or}
use Rattle.std.specs.Str.{bytes_eq}
use Rattle.serde_json.specs.Data.{Data, Items, no_items, item}
use Rattle.serde_json.specs.Find.{as_array, as_i64, as_null, as_number, as_str, get}
use Rattle.requests.specs.Spot.{uri_of}
use Rattle.requests.specs.declared.notice.Change.{Change}
use Rattle.requests.specs.declared.notice.Change.TheVariants.{Full, Part}
use Rattle.requests.specs.declared.notice.Notification.{Notification}
use Rattle.requests.specs.declared.notice.Notification.TheVariants as notice

abbrev pub document_of : Data → Option Data
document_of params = get (codes "textDocument") params

abbrev pub version_of : Data → Option ℤ
version_of params = option_and_then as_i64 (option_and_then as_number (option_and_then (get (codes "version")) (document_of params)))

abbrev pub text_of : Data → Option (List ℕ)
text_of params = option_and_then as_str (option_and_then (get (codes "text")) (document_of params))

-- a change has a range that is not null
abbrev pub has_range : Data → Bool
has_range change = option_map_or (λ range. not (is_some (as_null range))) (get (codes "range") change) false

-- the text of a change that has no range
abbrev pub whole_text : Data → Option (List ℕ)
whole_text change = if has_range change then None else option_and_then as_str (get (codes "text") change)

abbrev pub change_of : Data → Change (List ℕ)
change_of change = option_map_or Full (whole_text change) Part

-- the last item of a list
abbrev pub last_item : Items → Option Data
last_item no_items = None
last_item (item value no_items) = Some value
last_item (item value (item other values)) = last_item (item other values)

abbrev pub last_change : Data → Option (Change (List ℕ))
last_change params = option_map change_of (option_and_then last_item (option_and_then as_array (get (codes "contentChanges") params)))

-- what became of a document, if the parameters name one
abbrev pub told : (Data → List ℕ → Notification (List ℕ)) → Data → Option (Notification (List ℕ))
told form message = option_and_then (λ params. option_map (form params) (uri_of params)) (get (codes "params") message)

abbrev pub opened : Data → Option (Notification (List ℕ))
opened = told (λ params uri. notice.Open uri (version_of params) (text_of params))

abbrev pub changed : Data → Option (Notification (List ℕ))
changed = told (λ params uri. notice.Change uri (version_of params) (last_change params))

abbrev pub closed : Data → Option (Notification (List ℕ))
closed = told (λ params uri. notice.Close uri)

-- the notification with this method
abbrev pub notification_of : List ℕ → Data → Notification (List ℕ)
notification_of method message =
    if bytes_eq method (codes "exit") then notice.Exit
    else (if bytes_eq method (codes "textDocument/didOpen") then unwrap_or (opened message) notice.Other
    else (if bytes_eq method (codes "textDocument/didChange") then unwrap_or (changed message) notice.Other
    else (if bytes_eq method (codes "textDocument/didClose") then unwrap_or (closed message) notice.Other else notice.Other)))

-- the same values, with the bytes of what is borrowed
abbrev pub change_words : Change (Bor (List ℕ)) → Change (List ℕ)
change_words (Full text) = Full text.now
change_words Part = Part

abbrev pub notification_words : Notification (Bor (List ℕ)) → Notification (List ℕ)
notification_words notice.Exit = notice.Exit
notification_words (notice.Open uri version text) = notice.Open uri.now version (option_copied text)
notification_words (notice.Change uri version last) = notice.Change uri.now version (option_map change_words last)
notification_words (notice.Close uri) = notice.Close uri.now
notification_words notice.Other = notice.Other
