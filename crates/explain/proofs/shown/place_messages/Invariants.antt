use Rattle.std.proofs.Common.{◌≡◌, map, take}
use Rattle.refusal_words.specs.Cut.{view_cut}
use Rattle.explain.specs.Shown.{place_messages}
use Rattle.explain.proofs.shown.place_messages.Given as goal

-- the messages so far
abbrev pub invariant-loop-place : goal.invariant-loop-place
invariant-loop-place l = l.messages.items ≡ place_messages (map view_cut l.cuts) (take l.place-index l.places)
