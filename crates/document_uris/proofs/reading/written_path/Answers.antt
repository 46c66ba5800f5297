use Rattle.std.proofs.Common.{Bool, None, cond, sym, ap, ◌∙◌}
use Rattle.std.specs.Option.{option_and_then}
use Rattle.document_uris.specs.Uris.{behind_authority, behind_scheme}
use Rattle.document_uris.proofs.reading.written_path.Goals as goal

pub returns : goal.returns
returns c =
    c.skip_authority.ensures
    ∙ ap (option_and_then behind_authority) c.in_ok-skip_scheme.ensures
    ∙ ap (λ (ends : Bool). cond ends None (option_and_then behind_authority (behind_scheme c.args.uri.now)))
    (sym c.if-has_end.false ∙ c.has_end.ensures)
