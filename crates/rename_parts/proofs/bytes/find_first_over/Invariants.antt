use Rattle.std.proofs.Common.{◌≡◌, ◌≤◌, ◌++◌, false, length, take, drop, sum_by}
use Rattle.rotor_base.specs.Files.{are_over}
use Rattle.rename_model.specs.Bytes.{position_with}
use Rattle.rename_parts.proofs.Searches.{counted}
use Rattle.rename_parts.proofs.bytes.find_first_over.Given as goal

-- the sources so far keep the limits, so the first with which they are over is among those that are left
abbrev pub invariant-loop-file : goal.invariant-loop-file
invariant-loop-file l = record {
  count : l.number ≡ l.file-index;
  total : l.total ≡ sum_by (λ file. length file.bytes) (take l.file-index l.files);
  within : l.total ≤ 8388608;
  passed : are_over (take l.file-index l.files) ≡ false;
  first : position_with are_over l.files ≡ counted l.number
      (position_with (λ front. are_over (take l.file-index l.files ++ front)) (drop l.file-index l.files));
}
