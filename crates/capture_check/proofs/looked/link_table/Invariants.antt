use Rattle.std.proofs.Common.{◌≡◌, ℕ, drop}
use Rattle.std.specs.Ordering.{nat_cmp}
use Rattle.std.specs.BTreeMap.{get}
use Rattle.shape_core.specs.Shape.{or_else}
use Rattle.binding_model.specs.Local.{link_look_at}
use Rattle.capture_check.proofs.looked.link_table.Given as goal

-- with the looks that are left, the table is that of all of them
abbrev pub invariant-loop-look : goal.invariant-loop-look
invariant-loop-look l = (n : ℕ) → or_else (get nat_cmp l.table n) (link_look_at (drop l.look-index l.looks) n) ≡ link_look_at l.looks n
