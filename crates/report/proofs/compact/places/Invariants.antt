use Rattle.std.proofs.Common.{◌≡◌, map, string_bytes, take}
use Rattle.report.specs.Pieces.{place_text}
use Rattle.report.proofs.compact.places.Given as goal

-- those so far
abbrev pub invariant-loop-at : goal.invariant-loop-at
invariant-loop-at l = l.told ≡ map (place_text (map string_bytes l.names)) (take l.at-index l.places)
