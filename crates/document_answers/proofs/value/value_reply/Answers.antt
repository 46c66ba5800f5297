use Rattle.std.proofs.Common.{◌≡◌, ◌∙◌, ℕ, List, None, Ok, Option, Some, ap, subst, sym}
use Rattle.std.specs.Borrow.{Bor}
use Rattle.rotor_base.specs.declared.place.Facts.{Facts}
use Rattle.ml_trees.specs.View.{view_project}
use Rattle.value_at.specs.declared.footprint_places.ValuePlace.{ValuePlace}
use Rattle.lsp_answers.specs.declared.answer.Answer.TheVariants as answer
use Rattle.requests.specs.Asked.{query_words}
use Rattle.requests.specs.declared.asked.Query.{Query}
use Rattle.document_scene.specs.Places.{highlights_of, locations_of}
use Rattle.document_scene.specs.Scene.{view_scene}
use Rattle.document_answers.specs.Value.{ArePlaces, RepliesValue}
use Rattle.document_answers.proofs.Valued.{is_named, prepares, renames}
use Rattle.document_answers.proofs.value.value_reply.Goals as goal

pub returns-in_ok-prepare_word-in-PrepareRename-clause-reply : goal.returns-in_ok-prepare_word-in-PrepareRename-clause-reply
returns-in_ok-prepare_word-in-PrepareRename-clause-reply c =
    let a = c.args.around in
    prepares a.files.now (view_project a.read.now.project) (view_scene a.scene) a.has_versions c.args.place c.args.declared c.args.query
    c.in_ok-prepare_word-in-PrepareRename.field-0 c.in-PrepareRename.is c.in_ok-prepare_word-in-PrepareRename.ensures

pub returns-in_ok-locations-in-References-clause-reply : goal.returns-in_ok-locations-in-References-clause-reply
returns-in_ok-locations-in-References-clause-reply c =
    let a = c.args.around in
    subst (λ (q : Query (Bor (List ℕ))). RepliesValue a.files.now (view_project a.read.now.project) (view_scene a.scene) a.has_versions c.args.place
    c.args.declared (query_words q) (Ok (answer.References c.in_ok-locations-in-References.locations))) (sym c.in-References.is) (
      c.in_ok-places-in-References.places.items,
      subst (λ (f : Facts). ArePlaces f c.args.declared c.in_ok-places-in-References.places.items) c.requires.known.kept.facts
          c.in_ok-places-in-References.ensures,
      c.in_ok-locations-in-References.ensures
          ∙ ap (λ (l : List ValuePlace). locations_of (view_scene a.scene) c.in-References.with_declarations l) c.deref.ensures.value,
    )

pub returns-in_ok-location-in-Definition-clause-reply : goal.returns-in_ok-location-in-Definition-clause-reply
returns-in_ok-location-in-Definition-clause-reply c =
    let a = c.args.around in
    subst (λ (q : Query (Bor (List ℕ))). RepliesValue a.files.now (view_project a.read.now.project) (view_scene a.scene) a.has_versions c.args.place
    c.args.declared (query_words q) (Ok (answer.Definition c.in_ok-location-in-Definition.location))) (sym c.in-Definition.is)
    c.in_ok-location-in-Definition.ensures

pub returns-in_ok-highlights-in-DocumentHighlight-clause-reply : goal.returns-in_ok-highlights-in-DocumentHighlight-clause-reply
returns-in_ok-highlights-in-DocumentHighlight-clause-reply c =
    let a = c.args.around in
    subst (λ (q : Query (Bor (List ℕ))). RepliesValue a.files.now (view_project a.read.now.project) (view_scene a.scene) a.has_versions c.args.place
    c.args.declared (query_words q) (Ok (answer.Highlights c.in_ok-highlights-in-DocumentHighlight.highlights))) (sym c.in-DocumentHighlight.is) (
      c.in_ok-places-in-DocumentHighlight.places.items,
      subst (λ (f : Facts). ArePlaces f c.args.declared c.in_ok-places-in-DocumentHighlight.places.items) c.requires.known.kept.facts
          c.in_ok-places-in-DocumentHighlight.ensures,
      c.in_ok-highlights-in-DocumentHighlight.ensures
          ∙ ap (λ (l : List ValuePlace). highlights_of (view_scene a.scene) c.args.place.file l) c.deref-in-DocumentHighlight.ensures.value,
    )

pub returns-in-Rename-Some-clause-reply : goal.returns-in-Rename-Some-clause-reply
returns-in-Rename-Some-clause-reply c =
    let a = c.args.around in
    let some : c.in-Rename-Some.name' ≡ Some c.in-Rename-Some.name = rw c.in-Rename-Some.is at c.in-Rename-Some.name-is in
    renames a.files.now (view_project a.read.now.project) (view_scene a.scene) a.has_versions c.args.place c.args.declared c.args.query
    c.in-Rename-Some.name' c.in-Rename-Some.name c.as_bytes.result.now c.renaming_reply.result c.in-Rename-Some.is some
    c.as_bytes.ensures.value c.renaming_reply.ensures.reply

pub unreachable-requires : goal.unreachable-requires
unreachable-requires c =
    let none : ◌≡◌ {A = Option (Bor (List ℕ))} c.in-Rename-None.name None = rw c.in-Rename-None.is at c.in-Rename-None.name-is in
    is_named c.args.query c.in-Rename-None.name c.in-Rename-None.is none c.requires.named
