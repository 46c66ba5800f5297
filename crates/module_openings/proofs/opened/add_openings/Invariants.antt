use Rattle.std.proofs.Common.{◌≡◌, ◌+◌, ◌++◌, [], false, length, map}
use Rattle.ml_lexer.specs.Lexed.{view_token}
use Rattle.module_openings.specs.Named.{view_names}
use Rattle.module_openings.specs.Opened.{opened_in}
use Rattle.module_openings.proofs.opened.add_openings.Given as goal

-- those found so far and those of what is left are those of all
abbrev pub invariant-loop-rest : goal.invariant-loop-rest
invariant-loop-rest l = record {
  count : l.number + length l.rest ≡ 1 + length l.tokens;
  left : l.found.items ++ opened_in (view_names l.names) l.file l.locals l.brought l.before l.number (map view_token l.rest)
      ≡ l.fn.found.items ++ opened_in (view_names l.names) l.file [] false [] 1 (map view_token l.tokens);
}

abbrev pub decreases-loop-rest : goal.decreases-loop-rest
decreases-loop-rest l = length l.rest
