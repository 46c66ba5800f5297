-- The bytes so far are what was read, and no front of them ends a header.
use Rattle.std.proofs.Common.{◌-◌, ◌≤◌, length}
use Rattle.std.specs.Io.KnownBytes.{Consumes}
use Rattle.lsp_frames.specs.Frames.{max_header, EndsNone}
use Rattle.lsp_frames.proofs.reading.read_header.Given as goal

abbrev pub invariant-loop-byte : goal.invariant-loop-byte
invariant-loop-byte g l =
    Consumes (g.R.Read.remaining l.fn.reader) (g.R.Read.remaining l.reader) l.header.items
    × (length l.header.items ≤ max_header)
    × EndsNone (length l.header.items) l.header.items

abbrev pub decreases-loop-byte : goal.decreases-loop-byte
decreases-loop-byte g l = max_header - length l.header.items
