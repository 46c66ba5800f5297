use Rattle.std.proofs.Common.{◌≡◌, flat_map, take}
use Rattle.rename_survey.specs.Listed.{binder_at}
use Rattle.rename_survey.proofs.binders.list_binders.Given as goal

-- those of the places so far
abbrev pub invariant-loop-place : goal.invariant-loop-place
invariant-loop-place l = l.list.items ≡ flat_map (binder_at l.placed) (take l.place-index l.place-items)
