use Rattle.std.proofs.Common.{◌≡◌, ◌≤◌, ◌-◌, All, length, take}
use Rattle.document_scene.proofs.ranges.front_len.Given as goal

-- those so far are in the source
abbrev pub invariant-loop-len : goal.invariant-loop-len
invariant-loop-len l = record {
  within : l.len ≤ length l.places;
  same : All (λ place. place.at.file ≡ l.file) (take l.len l.places);
}

abbrev pub decreases-loop-len : goal.decreases-loop-len
decreases-loop-len l = length l.places - l.len
