use Rattle.std.proofs.Common.{List, ◌++◌, drop, map}
use Rattle.messages.specs.declared.parts.Note.{Note}
use Rattle.refusal_words.specs.Cut.{view_cut}
use Rattle.refusal_places.specs.Circle.{AreNeedNotes}
use Rattle.refusal_places.proofs.cycle.need_notes.Given as goal

-- the notes so far, with those of what is left, are those of all
abbrev pub invariant-loop-name : goal.invariant-loop-name
invariant-loop-name l =
    (more : List Note) → AreNeedNotes (map view_cut l.cuts) l.user (drop l.name-index l.names) more
    → AreNeedNotes (map view_cut l.cuts) l.unit l.names (l.notes.items ++ more)
