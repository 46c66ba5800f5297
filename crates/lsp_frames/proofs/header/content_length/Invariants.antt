use Rattle.std.proofs.Common.{◌≡◌, length}
use Rattle.lsp_frames.specs.Lines.{lines_of}
use Rattle.lsp_frames.specs.Header.{content_length}
use Rattle.lsp_frames.proofs.Lengths.{known, finish}
use Rattle.lsp_frames.proofs.header.content_length.Given as goal

-- the lines so far, by the value that they have, and the rest say what all say
abbrev pub invariant-loop-line : goal.invariant-loop-line
invariant-loop-line l = finish (known l.found) (lines_of l.rest) ≡ content_length l.lines

abbrev pub decreases-loop-line : goal.decreases-loop-line
decreases-loop-line l = length l.rest
