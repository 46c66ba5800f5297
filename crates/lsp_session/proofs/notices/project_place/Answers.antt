use Rattle.std.proofs.Common.{◌≡◌, ℕ, List, Option, IfNone, IfSome, true, false, string_bytes, sym, ap, subst, ◌∙◌}
use Rattle.document_uris.specs.Uris.{IsFile}
use Rattle.document_uris.specs.declared.place.FilePlace.{FilePlace}
use Rattle.project_load.specs.Listed.{is_listed_name}
use Rattle.lsp_session.proofs.Places.{one_name}
use Rattle.lsp_session.proofs.notices.project_place.Goals as goal

pub returns-in_default-clause-none : goal.returns-in_default-clause-none
returns-in_default-clause-none c = λ folder name file.
    (subst (λ (found : Option FilePlace). IfNone found ((folder name : List ℕ) → ¬ (IsFile c.args.uri.now folder name))) c.in_default.is
    c.in_ok-place.ensures.none) folder name file.file

pub returns-else-is_project_file-clause-none : goal.returns-else-is_project_file-clause-none
returns-else-is_project_file-clause-none c = λ folder name file.
    let place : IsFile c.args.uri.now (string_bytes c.in-Some.place.folder) (string_bytes c.in-Some.place.name) =
    subst (λ (found : Option FilePlace). IfSome found (λ place. IsFile c.args.uri.now (string_bytes place.folder) (string_bytes place.name)))
    c.in-Some.is c.in_ok-place.ensures.file in
    let same : name ≡ string_bytes c.in-Some.place.name =
    one_name c.args.uri.now folder name (string_bytes c.in-Some.place.folder) (string_bytes c.in-Some.place.name) file.file place in
    let bad : true ≡ false =
    sym file.listed ∙ ap is_listed_name (same ∙ sym c.as_str.ensures.value) ∙ sym c.is_project_file.ensures ∙ c.if-is_project_file.false in
    cc
