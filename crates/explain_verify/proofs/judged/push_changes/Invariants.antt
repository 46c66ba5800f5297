use Rattle.std.proofs.Common.{◌≡◌, ◌++◌, map, take}
use Rattle.std.specs.Prelude.{flat_map}
use Rattle.refusal_words.specs.Cut.{view_cut}
use Rattle.explain_verify.specs.Judged.{change_line}
use Rattle.explain_verify.proofs.judged.push_changes.Given as goal

-- the lines so far
abbrev pub invariant-loop-change : goal.invariant-loop-change
invariant-loop-change l = l.text.items ≡ l.fn.text.items ++ flat_map (change_line (map view_cut l.olds)) (take l.change-index l.changes)
