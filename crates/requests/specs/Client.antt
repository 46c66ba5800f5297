-- What a client can do (Language Server Protocol 3.17, "Client Capabilities").
use Rattle.std.specs.Prelude.{ℕ, List, Bool, false, Option, Some, None, codes, is_some, option_and_then, unwrap_or, if◌then◌else◌}
use Rattle.std.specs.Option.{option_map_or}
use Rattle.std.specs.Str.{bytes_eq}
use Rattle.serde_json.specs.Data.{Data, Items, no_items, item}
use Rattle.serde_json.specs.Find.{as_array, as_bool, as_object, as_str, get}
use Rattle.requests.specs.declared.client.Client.{Client}
use Rattle.requests.specs.declared.client.Encoding.{Encoding}
use Rattle.requests.specs.declared.client.Encoding.TheVariants.{Utf8, Utf16}

-- a member of a member of a member of the client's capabilities
abbrev pub capability_data : Data → List ℕ → List ℕ → Option Data
capability_data params part group = option_and_then (get group) (option_and_then (get part) (get (codes "capabilities") params))

-- a capability that is `true` or `false`
abbrev pub capability : Data → List ℕ → List ℕ → List ℕ → Option Bool
capability params part group name = option_and_then as_bool (option_and_then (get name) (capability_data params part group))

abbrev pub is_set : Data → List ℕ → List ℕ → List ℕ → Bool
is_set params part group name = unwrap_or (capability params part group name) false

-- the client's encodings, the one that it likes best first
abbrev pub encodings : Data → Option Items
encodings params = option_and_then as_array (capability_data params (codes "general") (codes "positionEncodings"))

-- the encoding of this name, if the server has it
abbrev pub encoding_named : List ℕ → Option Encoding
encoding_named name =
    if bytes_eq name (codes "utf-8") then Some Utf8 else (if bytes_eq name (codes "utf-16") then Some Utf16 else None)

-- the encoding that a value names, if the server has it
abbrev pub known_encoding : Data → Option Encoding
known_encoding value = option_and_then encoding_named (as_str value)

-- the first encoding of a list that the server has; UTF-16 if there is none
abbrev pub first_encoding : Items → Encoding
first_encoding no_items = Utf16
first_encoding (item value values) = unwrap_or (known_encoding value) (first_encoding values)

abbrev pub encoding_of : Data → Encoding
encoding_of params = option_map_or first_encoding (encodings params) Utf16

-- what the client of some parameters can do, if they are an object
abbrev pub client_of : Data → Option Client
client_of params =
    if is_some (as_object params)
    then Some (record {
      encoding = encoding_of params;
      document_changes = is_set params (codes "workspace") (codes "workspaceEdit") (codes "documentChanges");
      prepare_support = is_set params (codes "textDocument") (codes "rename") (codes "prepareSupport");
    })
    else None
