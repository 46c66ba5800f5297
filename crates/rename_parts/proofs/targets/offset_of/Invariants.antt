use Rattle.std.proofs.Common.{◌≡◌, ◌≤◌, ◌+◌, drop}
use Rattle.rename_model.specs.Target.{offset_from, offset_of}
use Rattle.rename_parts.proofs.Searches.{counted}
use Rattle.rename_parts.proofs.targets.offset_of.Given as goal

-- the byte is among those that are left
abbrev pub invariant-loop-byte : goal.invariant-loop-byte
invariant-loop-byte l = record {
  count : l.offset ≡ l.byte-index;
  low : l.at_line ≤ l.byte-index + 1;
  left_of : l.at_column ≤ l.byte-index + 1;
  left : counted l.byte-index (offset_from (l.line, l.column) (l.at_line, l.at_column) (drop l.byte-index l.bytes)) ≡ offset_of
      (l.line, l.column) l.bytes;
}
