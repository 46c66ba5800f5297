use Rattle.std.proofs.Common.{◌≡◌, ◌+◌, ◌≤◌, ◌++◌, length, map}
use Rattle.ml_lexer.specs.Lexed.{view_token}
use Rattle.module_openings.specs.Named.{view_meant}
use Rattle.module_openings.specs.Opened.{uses, uses_of}
use Rattle.module_openings.proofs.opened.add_uses_of.Given as goal

-- those found so far and those of what is left are those of all
abbrev pub invariant-loop-rest : goal.invariant-loop-rest
invariant-loop-rest l = record {
  count : l.number + length l.rest ≤ 1048579;
  inside : l.depth + length l.rest ≤ 1048576;
  left : l.found.items ++ uses (view_meant l.meant) l.site l.inner l.seen l.depth (view_token l.last) l.number (map view_token l.rest)
      ≡ l.fn.found.items ++ uses_of (view_meant l.meant) l.site (view_token l.token) (map view_token l.behind);
}

abbrev pub decreases-loop-rest : goal.decreases-loop-rest
decreases-loop-rest l = length l.rest
