use Rattle.std.proofs.Common.{◌≡◌, ℕ, List, IfNone, Some, ◌++◌, sym, ap, subst, ◌∙◌}
use Rattle.percent_encoding.specs.Percent.{percent_decode}
use Rattle.document_uris.specs.Places.{IsPlace}
use Rattle.document_uris.specs.Uris.{IsFile, written_path}
use Rattle.document_uris.proofs.Outcomes.{if_none, if_ok}
use Rattle.document_uris.proofs.reading.read_uri.Goals as goal

some_is : {X : Type 0} (a b : X) → Some a ≡ Some b → a ≡ b
some_is a b e = cc

pub returns-in-Ok-clause-none : goal.returns-in-Ok-clause-none
returns-in-Ok-clause-none c =
    let text : c.as_str.result.now ≡ percent_decode c.in-Some.written.now =
    c.as_str.ensures.value ∙ ap (λ v. v.items) c.in-Ok.ensures.ok ∙ c.in_ok-append_to.ensures.ok
    ∙ ap (λ (front : List ℕ). front ++ percent_decode c.percent_decode.result.bytes.now) c.new-bytes.ensures.items
    ∙ c.percent_decode.ensures.bytes in
    let writes : Some c.in-Some.written.now ≡ written_path c.args.uri.now = c.in-Some.ensures ∙ ap written_path c.as_bytes.ensures.value in
    if_ok (λ found. IfNone found ((folder name : List ℕ) → ¬ (IsPlace c.as_str.result.now folder name)))
    (λ found. IfNone found ((folder name : List ℕ) → ¬ (IsFile c.args.uri.now folder name)))
    c.place_of.result
    (λ found. if_none found (λ no_place folder name file.
    let same : file.written ≡ c.in-Some.written.now = some_is file.written c.in-Some.written.now (sym file.path ∙ sym writes) in
    no_place folder name (subst (λ (path : List ℕ). IsPlace path folder name) (ap percent_decode same ∙ sym text) file.place)))
    c.place_of.ensures.none
