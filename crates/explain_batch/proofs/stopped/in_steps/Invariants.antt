use Rattle.std.proofs.Common.{◌≡◌, map}
use Rattle.refusal_words.specs.Refused.{in_step}
use Rattle.explain_batch.proofs.stopped.in_steps.Given as goal

-- the messages so far
abbrev pub invariant-loop-message : goal.invariant-loop-message
invariant-loop-message l = l.messages ≡ map (in_step l.number) l.yielded
