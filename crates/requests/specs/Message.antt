-- Messages (JSON-RPC 2.0; Language Server Protocol 3.17, "Base Protocol").
use Rattle.std.specs.Prelude.{ℕ, List, Bool, true, ◌&&◌, ◌||◌, Option, Some, None, codes, is_some, option_and_then, option_map, if◌then◌else◌}
use Rattle.std.specs.Borrow.{Bor}
use Rattle.std.specs.Option.{option_map_or, option_or}
use Rattle.serde_json.specs.Data.{Data}
use Rattle.serde_json.specs.Find.{as_i64, as_null, as_number, as_str, get}
use Rattle.requests.specs.Asked.{request_of, result_words}
use Rattle.requests.specs.Notice.{notification_of, notification_words}
use Rattle.requests.specs.declared.message.Id.{Id}
use Rattle.requests.specs.declared.message.Id.TheVariants.{Number, Text}
use Rattle.requests.specs.declared.message.Message.{Message}
use Rattle.requests.specs.declared.message.Message.TheVariants.{Request, Notification, Response, Invalid}

-- an id is a text, or an integer from -2 ^ 63 to 2 ^ 63 - 1
abbrev pub id_of : Data → Option (Id (List ℕ))
id_of value = option_or (option_map Text (as_str value)) (option_map Number (option_and_then as_i64 (as_number value)))

-- the id of a message
abbrev pub given_id : Data → Option (Id (List ℕ))
given_id message = option_and_then id_of (get (codes "id") message)

abbrev pub method_of : Data → Option (List ℕ)
method_of message = option_and_then as_str (get (codes "method") message)

-- the message has no method, or null in its place
abbrev pub lacks_method : Data → Bool
lacks_method message = option_map_or (λ method. is_some (as_null method)) (get (codes "method") message) true

abbrev pub has_answer : Data → Bool
has_answer message = is_some (get (codes "result") message) || is_some (get (codes "error") message)

abbrev pub is_response : Data → Bool
is_response message = lacks_method message && has_answer message

-- a message that has a method and this id
abbrev pub with_id : List ℕ → Data → Option (Id (List ℕ)) → Message (List ℕ)
with_id method message None = Invalid None
with_id method message (Some id) = Request id (request_of method message)

-- a message with this method: a notification if it has no id
abbrev pub named_message : List ℕ → Data → Message (List ℕ)
named_message method message =
    option_map_or (λ id. with_id method message (id_of id)) (get (codes "id") message) (Notification (notification_of method message))

abbrev pub message_of : Data → Message (List ℕ)
message_of message =
    if is_response message then Response
    else option_map_or (λ method. named_message method message) (method_of message) (Invalid (given_id message))

-- the same values, with the bytes of what is borrowed
abbrev pub id_words : Id (Bor (List ℕ)) → Id (List ℕ)
id_words (Number number) = Number number
id_words (Text text) = Text text.now

abbrev pub message_words : Message (Bor (List ℕ)) → Message (List ℕ)
message_words (Request id request) = Request (id_words id) (result_words request)
message_words (Notification notification) = Notification (notification_words notification)
message_words Response = Response
message_words (Invalid id) = Invalid (option_map id_words id)
