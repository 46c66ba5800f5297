use Rattle.std.proofs.Common.{◌≡◌, ◌≤◌, ◌∙◌, All, List, ap, length, map, string_bytes, subst, sym}
use Rattle.serde_json.specs.View.{view}
use Rattle.rotor_base.specs.Files.{names_of}
use Rattle.rotor_base.specs.Limits.{max_file_bytes}
use Rattle.refusal_words.specs.Cut.{view_cut}
use Rattle.refusal_words.specs.declared.cut.CutSource.{CutSource}
use Rattle.refusal_places.specs.Placed.{SaysPlaced}
use Rattle.explain.proofs.Cutting.{few_tokens}
use Rattle.query_failures.proofs.Failing.{project_fails}
use Rattle.query_failures.proofs.folder.project_failure.Goals as goal

pub placed_message-requires : goal.placed_message-requires
placed_message-requires c =
    subst (λ (l : List CutSource). All (λ cut. length cut.tokens.items ≤ max_file_bytes) l) (sym c.deref.ensures.value)
    (few_tokens c.entries.result.now c.in_ok-cuts.cuts.items c.in_ok-cuts.ensures c.entries.ensures.small)

pub returns : goal.returns
returns c =
    let files = c.args.files.now in
    let named : map string_bytes c.deref-2.result.now ≡ names_of files.entries
    = ap (map string_bytes) c.deref-2.ensures.value ∙ c.in_ok-names.ensures ∙ ap names_of c.entries-2.ensures.entries in
    let says : SaysPlaced (map view_cut c.in_ok-cuts.cuts.items) c.args.why.now c.in_ok-message.message
    = subst (λ (l : List CutSource). SaysPlaced (map view_cut l) c.args.why.now c.in_ok-message.message) c.deref.ensures.value
    c.in_ok-message.ensures in
    project_fails files c.args.why.now c.entries.result.now (map view_cut c.in_ok-cuts.cuts.items) c.in_ok-message.message c.as_slice.result.now
    (map string_bytes c.deref-2.result.now) (view c.in_ok-refusal_data.field-0) c.noted_failure.result c.entries.ensures.entries c.in_ok-cuts.ensures
    says (c.as_slice.ensures ∙ c.in_ok-text.ensures) named c.in_ok-refusal_data.ensures.data c.noted_failure.ensures
