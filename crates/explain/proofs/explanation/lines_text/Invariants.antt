use Rattle.std.proofs.Common.{◌≡◌, take}
use Rattle.std.specs.Prelude.{flat_map}
use Rattle.messages.specs.Printed.{message_text}
use Rattle.explain.proofs.explanation.lines_text.Given as goal

-- the messages so far
abbrev pub invariant-loop-message : goal.invariant-loop-message
invariant-loop-message l = l.text.items ≡ flat_map message_text (take l.message-index l.messages)
