use Rattle.std.proofs.Common.{◌+◌, ℕ, Bool, List, Option, None, Some, cond, drop, take, sym, ap, ◌∙◌}
use Rattle.std.specs.Option.{option_and_then, option_copied}
use Rattle.std.proofs.lemmas.List.{take_rest}
use Rattle.document_uris.specs.Uris.{behind_host, is_local}
use Rattle.document_uris.proofs.reading.skip_host.Goals as goal

-- what is behind a slash at this position
abbrev behind : List ℕ → ℕ → Option (List ℕ)
behind text slash = cond (is_local (take slash text)) (Some (drop (slash + 1) text)) None

pub returns-in_err-slash : goal.returns-in_err-slash
unfolding behind_host
returns-in_err-slash c = ap option_copied c.from_residual.ensures ∙ ap (option_and_then (behind c.args.text.now)) c.in_err-slash.ensures.at

pub returns-then-is_local : goal.returns-then-is_local
unfolding behind_host
returns-then-is_local c =
    simp take_rest
    (ap (λ (local : Bool). cond local (Some (drop (c.in_ok-slash.slash + 1) c.args.text.now)) None) (sym c.if-is_local.true ∙ c.is_local.ensures)
    ∙ ap (option_and_then (behind c.args.text.now)) c.in_ok-slash.ensures.at)

pub returns-else-is_local : goal.returns-else-is_local
unfolding behind_host
returns-else-is_local c =
    ap (λ (local : Bool). cond local (Some (drop (c.in_ok-slash.slash + 1) c.args.text.now)) None) (sym c.if-is_local.false ∙ c.is_local.ensures)
    ∙ ap (option_and_then (behind c.args.text.now)) c.in_ok-slash.ensures.at
