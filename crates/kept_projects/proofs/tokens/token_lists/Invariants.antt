use Rattle.std.proofs.Common.{◌≡◌, map, take}
use Rattle.ml_lexer.specs.Lexed.{view_tokens}
use Rattle.kept_projects.proofs.tokens.token_lists.Given as goal

-- the lists so far
abbrev pub invariant-loop-cut : goal.invariant-loop-cut
invariant-loop-cut l = map (λ list. view_tokens list.items) l.lists.items ≡ map (λ cut. view_tokens cut.tokens.items) (take l.cut-index l.cuts)
