use Rattle.std.proofs.Common.{◌≡◌, ◌++◌, drop}
use Rattle.capture_check.specs.Would.{links_by}
use Rattle.capture_check.proofs.looked.would_links.Given as goal

-- with the links that are left, the new ones are those of all of them
abbrev pub invariant-loop-i : goal.invariant-loop-i
invariant-loop-i l = l.new.items ++ links_by l.members l.looks l.i (drop l.i l.links) ≡ links_by l.members l.looks 0 l.links
