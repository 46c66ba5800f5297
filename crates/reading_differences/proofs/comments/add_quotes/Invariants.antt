use Rattle.std.proofs.Common.{◌≡◌, ◌+◌, ◌≤◌, ◌++◌, length}
use Rattle.reading_differences.specs.Comments.{quotes_in}
use Rattle.reading_differences.proofs.comments.add_quotes.Given as goal

-- those found so far and those of what is left are those of all
abbrev pub invariant-loop-rest : goal.invariant-loop-rest
invariant-loop-rest l = record {
  begun : l.start ≤ l.offset;
  so_far : l.offset + length l.rest ≡ l.start + length l.gap;
  left : l.found.items ++ quotes_in l.at l.before 0 l.offset l.rest ≡ l.fn.found.items ++ quotes_in l.at 0 0 l.start l.gap;
}

abbrev pub decreases-loop-rest : goal.decreases-loop-rest
decreases-loop-rest l = length l.rest
