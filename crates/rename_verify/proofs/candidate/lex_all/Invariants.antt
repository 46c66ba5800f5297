use Rattle.std.proofs.Common.{map, take}
use Rattle.std.specs.Global.{Vec}
use Rattle.rotor_base.specs.declared.token.Token.{Token}
use Rattle.ml_lexer.specs.Lexed.{view_tokens}
use Rattle.rename_verify.specs.Candidate.{AreLexemesOf}
use Rattle.rename_verify.proofs.candidate.lex_all.Given as goal

-- the lexemes of the sources so far
abbrev pub invariant-loop-source : goal.invariant-loop-source
invariant-loop-source l = AreLexemesOf (take l.source-index l.sources) (map (λ (t : Vec Token). view_tokens t.items) l.lists.items)
