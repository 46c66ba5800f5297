use Rattle.std.proofs.Common.{◌≡◌, ◌∙◌, ap, map, string_bytes}
use Rattle.serde_json.specs.View.{view}
use Rattle.rotor_base.specs.Files.{names_of}
use Rattle.query_failures.specs.Renaming.{first_sentence}
use Rattle.query_failures.proofs.Failing.{renaming_fails}
use Rattle.query_failures.proofs.renaming.renaming_failure.Goals as goal

pub returns : goal.returns
returns c =
    let files = c.args.files.now in
    let named : map string_bytes c.deref.result.now ≡ names_of files.entries
    = ap (map string_bytes) c.deref.ensures.value ∙ c.in_ok-names.ensures ∙ ap names_of c.entries.ensures.entries in
    renaming_fails files c.args.target.now c.args.name.now c.args.why.now c.in_ok-explanation.explanation c.as_slice-2.result.now
    (map string_bytes c.deref.result.now) (view c.in_ok-refusal_data.field-0) c.noted_failure.result c.in_ok-explanation.ensures
    (c.as_slice-2.ensures ∙ c.in_ok-text.ensures ∙ ap first_sentence c.as_slice.ensures) named c.in_ok-refusal_data.ensures.data
    c.noted_failure.ensures
