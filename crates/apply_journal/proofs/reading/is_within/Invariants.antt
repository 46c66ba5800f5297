use Rattle.std.proofs.Common.{◌≡◌, ◌≤◌, ◌*◌, length, take, sum_by}
use Rattle.apply_journal.proofs.reading.is_within.Given as goal

-- the bytes of the files so far
abbrev pub invariant-loop-file : goal.invariant-loop-file
invariant-loop-file l = record {
  total : l.total ≡ sum_by (λ file. length file.bytes) (take l.file-index l.files);
  most : l.total ≤ 1048576 * l.file-index;
}
