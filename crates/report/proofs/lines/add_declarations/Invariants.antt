use Rattle.std.proofs.Common.{◌≡◌, ◌++◌, map, string_bytes, take}
use Rattle.report.specs.Lines.{declaration_line}
use Rattle.report.proofs.lines.add_declarations.Given as goal

-- the lines at the start, and those of the declarations so far
abbrev pub invariant-loop-at : goal.invariant-loop-at
invariant-loop-at l = l.lines ≡ l.fn.lines ++ map (declaration_line (map string_bytes l.names)) (take l.at-index l.places)
