use Rattle.std.proofs.Common.{◌≡◌, ◌≤◌, drop, length}
use Rattle.binding_model.specs.Facts.{least, unmatched_items}
use Rattle.rename_parts.proofs.links.find_least_unmatched.Given as goal

-- the least of the links from here on
abbrev pub invariant-loop-left : goal.invariant-loop-left
invariant-loop-left l = record {
  within : l.left ≤ length l.links;
  behind : l.least ≡ least (unmatched_items (drop l.left l.links));
}

abbrev pub decreases-loop-left : goal.decreases-loop-left
decreases-loop-left l = l.left
