use Rattle.std.proofs.Common.{inl, Option, IfSome, string_bytes, refl, subst}
use Rattle.document_uris.specs.declared.place.FilePlace.{FilePlace}
use Rattle.lsp_session.specs.Notes.{IsProjectFile}
use Rattle.lsp_session.proofs.Places.{on_ok}
use Rattle.lsp_session.proofs.notices.open.Goals as goal

pub returns-clause-opened : goal.returns-clause-opened
returns-clause-opened c =
    let place : IsProjectFile c.args.uri.now (string_bytes c.in-Some.place.folder) (string_bytes c.in-Some.place.name) =
    subst (λ (found : Option FilePlace). IfSome found (λ place. IsProjectFile c.args.uri.now (string_bytes place.folder) (string_bytes place.name)))
    c.in-Some.is c.in_ok-place.ensures.place in
    on_ok c.open.result (λ opened. inl (
      string_bytes c.in-Some.place.folder,
      string_bytes c.in-Some.place.name,
      place,
      (
        record { uri = c.in_ok-from_str.field-0; version = c.args.version; text = c.in_ok-open_text.field-0 },
        record { link = c.in_ok-from_str.ensures.ok; said = refl; held = c.in_ok-open_text.ensures },
        opened,
      ),
    ))
    c.open.ensures.opened
