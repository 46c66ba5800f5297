-- A place of a document that a request names (Language Server Protocol 3.17, "TextDocumentPositionParams"; own where it
-- says how large a line or a column is).
use Rattle.std.specs.Prelude.{ℕ, ◌^◌, nat_lt, List, Option, Some, None, codes, option_map, option_and_then, if◌then◌else◌}
use Rattle.std.specs.Borrow.{Bor}
use Rattle.serde_json.specs.Data.{Data}
use Rattle.serde_json.specs.Find.{as_number, as_str, as_u64, get}
use Rattle.text_places.specs.declared.counting.Position.{Position}
use Rattle.requests.specs.declared.spot.Spot.{Spot}

-- a number that a line or a column may be
abbrev pub small_count : ℕ → Option ℕ
small_count count = if nat_lt count (2 ^ 31) then Some count else None

-- the line or the column of this name
abbrev pub count_at : Data → List ℕ → Option ℕ
count_at position name =
    option_and_then small_count (option_and_then as_u64 (option_and_then as_number (get name position)))

-- the URI of the document of some parameters
abbrev pub uri_of : Data → Option (List ℕ)
uri_of params = option_and_then as_str (option_and_then (get (codes "uri")) (get (codes "textDocument") params))

-- the line and the column of a position
abbrev pub position_of : Data → Option Position
position_of position =
    option_and_then (λ line. option_map (λ column. record { line = line; column = column }) (count_at position (codes "character")))
    (count_at position (codes "line"))

-- the place that some parameters name
abbrev pub spot_of : Data → Option (Spot (List ℕ))
spot_of params =
    option_and_then
    (λ uri. option_map (λ position. record { uri = uri; position = position }) (option_and_then position_of (get (codes "position") params)))
    (uri_of params)

-- a place whose URI is borrowed, with the URI's bytes
abbrev pub spot_words : Spot (Bor (List ℕ)) → Spot (List ℕ)
spot_words spot = record { uri = spot.uri.now; position = spot.position }
