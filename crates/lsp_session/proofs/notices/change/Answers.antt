use Rattle.std.proofs.Common.{inl, Option, IfSome, string_bytes, subst}
use Rattle.document_uris.specs.declared.place.FilePlace.{FilePlace}
use Rattle.lsp_session.specs.Notes.{IsProjectFile}
use Rattle.lsp_session.proofs.Places.{on_ok}
use Rattle.lsp_session.proofs.notices.change.Goals as goal

pub returns-clause-changed : goal.returns-clause-changed
returns-clause-changed c =
    let place : IsProjectFile c.args.uri.now (string_bytes c.in-Some.place.folder) (string_bytes c.in-Some.place.name) =
    subst (λ (found : Option FilePlace). IfSome found (λ place. IsProjectFile c.args.uri.now (string_bytes place.folder) (string_bytes place.name)))
    c.in-Some.is c.in_ok-place.ensures.place in
    on_ok c.change.result (λ changed. inl (
      string_bytes c.in-Some.place.folder,
      string_bytes c.in-Some.place.name,
      place,
      (c.in_ok-uri.uri, c.in_ok-text.text, c.in_ok-uri.ensures.ok, c.in_ok-text.ensures, changed),
    ))
    c.change.ensures.changed
