use Rattle.std.proofs.Common.{take}
use Rattle.explain.specs.Sources.{SaysSources}
use Rattle.explain.proofs.sources.unread_messages.Given as goal

-- the messages so far
abbrev pub invariant-loop-source : goal.invariant-loop-source
invariant-loop-source l = SaysSources (take l.source-index l.sources) l.messages.items
