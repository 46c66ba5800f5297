use Rattle.std.proofs.Common.{◌≡◌, ◌||◌, filter, map, take}
use Rattle.rename_verify.proofs.fixed.fixed_places.Given as goal

-- the places so far
abbrev pub invariant-loop-mark : goal.invariant-loop-mark
invariant-loop-mark l = l.list.items ≡ map (λ h. h.place) (filter (λ h. h.operator || h.pun) (take l.mark-index l.marks))
