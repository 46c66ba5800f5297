use Rattle.std.proofs.Common.{◌≡◌, map, take}
use Rattle.serde_json.specs.View.{view}
use Rattle.messages.specs.Json.{message_data}
use Rattle.messages.proofs.compact.messages_value.Given as goal

-- the messages so far
abbrev pub invariant-loop-message : goal.invariant-loop-message
invariant-loop-message l = map view l.items.items ≡ map message_data (take l.message-index l.messages)
