use Rattle.std.proofs.Common.{◌≡◌, ◌++◌, map, take}
use Rattle.refusal_words.specs.Cut.{view_cut}
use Rattle.explain.specs.Shown.{place_lines}
use Rattle.explain.proofs.shown.push_places.Given as goal

-- the lines so far
abbrev pub invariant-loop-place : goal.invariant-loop-place
invariant-loop-place l = l.text.items ≡ l.fn.text.items ++ place_lines (map view_cut l.cuts) (take l.place-index l.places)
