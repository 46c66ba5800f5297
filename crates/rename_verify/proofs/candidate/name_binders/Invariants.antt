use Rattle.std.proofs.Common.{◌≡◌, map, take}
use Rattle.std.specs.Global.{Vec}
use Rattle.rotor_base.specs.declared.token.Token.{Token}
use Rattle.ml_lexer.specs.Lexed.{view_tokens}
use Rattle.rename_verify.specs.Candidate.{candidate, changes}
use Rattle.rename_verify.proofs.candidate.name_binders.Given as goal

-- the names and the changes so far
abbrev pub invariant-loop-binder : goal.invariant-loop-binder
invariant-loop-binder l =
    (l.names.items ≡ candidate (map (λ (t : Vec Token). view_tokens t.items) l.lists) (take l.binder-index l.binders))
    × (l.changes.items ≡ changes (map (λ (t : Vec Token). view_tokens t.items) l.lists) (take l.binder-index l.binders))
