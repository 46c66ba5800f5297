use Rattle.std.proofs.Common.{◌≡◌, ℕ, map, take}
use Rattle.std.specs.Global.{Vec}
use Rattle.rotor_base.specs.declared.source.SourceFile.{SourceFile}
use Rattle.rename_verify.proofs.bytes.first_spot.Given as goal

-- the files so far are the same
abbrev pub invariant-loop-at : goal.invariant-loop-at
invariant-loop-at l = take l.at (map (λ (b : Vec ℕ). b.items) l.olds) ≡ take l.at (map (λ (s : SourceFile). s.bytes) l.news)
