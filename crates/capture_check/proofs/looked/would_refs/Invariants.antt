use Rattle.std.proofs.Common.{◌≡◌, ◌++◌, map, drop}
use Rattle.capture_check.specs.Would.{ref_by}
use Rattle.capture_check.proofs.looked.would_refs.Given as goal

-- with the references that are left, the new ones are those of all of them
abbrev pub invariant-loop-old : goal.invariant-loop-old
invariant-loop-old l = l.new.items ++ map (ref_by l.members l.looks) (drop l.old-index l.refs) ≡ map (ref_by l.members l.looks) l.refs
