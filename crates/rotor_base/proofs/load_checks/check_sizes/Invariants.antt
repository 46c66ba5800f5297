-- The sources so far keep the limits, so the first with which they are over is among those that are left.
use Rattle.std.proofs.Common.{◌≡◌, ◌≤◌, ◌++◌, false, length, take, drop, sum_by}
use Rattle.rotor_base.specs.Files.{first_with, are_over}
use Rattle.rotor_base.proofs.load_checks.check_sizes.Given as goal

abbrev pub invariant-loop-file : goal.invariant-loop-file
invariant-loop-file l = record {
  total : l.total ≡ sum_by (λ file. length file.bytes) (take l.file-index l.files);
  within : l.total ≤ 8388608;
  passed : are_over (take l.file-index l.files) ≡ false;
  first : first_with are_over l.files ≡ first_with (λ front. are_over (take l.file-index l.files ++ front)) (drop l.file-index l.files);
}
