use Rattle.std.proofs.Common.{◌≡◌, ◌++◌, map, take, true}
use Rattle.std.specs.Prelude.{flat_map}
use Rattle.refusal_words.specs.Cut.{view_cut}
use Rattle.explain.specs.Lines.{place_line, place_word}
use Rattle.explain.proofs.lines.push_declarations.Given as goal

-- the declarations so far
abbrev pub invariant-loop-place : goal.invariant-loop-place
invariant-loop-place l =
    l.text.items ≡ l.fn.text.items ++ flat_map (λ p. place_line (map view_cut l.cuts) (place_word true) p) (take l.place-index l.places)
