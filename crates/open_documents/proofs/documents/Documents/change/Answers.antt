use Rattle.std.proofs.Common.{◌≡◌, ℕ, List, Option, None, Some, is_some, string_bytes, refl, sym, ap, subst, ◌∙◌}
use Rattle.std.specs.Option.{option_copied_mut}
use Rattle.std.specs.FinMap.{get, insert}
use Rattle.std.specs.BTreeMap.{get_by_text}
use Rattle.std.proofs.lemmas.Map.Text.{btree_map_updates_text}
use Rattle.open_documents.specs.Document.{changed_from}
use Rattle.open_documents.specs.Documents.{documents, gathered}
use Rattle.open_documents.specs.declared.document.Document.{Document}
use Rattle.open_documents.proofs.Gathered.{gathered_set, was_held, was_missing}
use Rattle.open_documents.proofs.Outcomes.{on_ok}
use Rattle.open_documents.proofs.documents.Documents.change.Goals as goal

pub returns-in-Some-clause-changed : goal.returns-in-Some-clause-changed
returns-in-Some-clause-changed c =
    let found : get_by_text c.args.self.now.held c.as_str.result.now ≡ Some c.in-Some.document.now =
    sym c.get_mut.ensures.value ∙ ap option_copied_mut c.in-Some.is in
    let was : get (documents c.args.self.now) c.as_str.result.now ≡ Some c.in-Some.document.now =
    was_held c.args.self.now c.as_str.result.now c.get_mut.result c.in-Some.document c.get_mut.ensures.value c.in-Some.is in
    let new : c.change.new.self ≡ changed_from (get (documents c.args.self.now) c.as_str.result.now) c.args.uri c.args.version c.args.text =
    c.change.ensures ∙ ap (λ (found : Option Document). changed_from found c.args.uri c.args.version c.args.text) (sym was) in
    let set =
    gathered_set c.args.self.now.held.entries (c.get_mut.follows.lender c.change.new.self).entries c.as_str.result.now (Some c.change.new.self)
    (btree_map_updates_text c.as_str.result.now c.args.self.now.held (c.get_mut.follows.lender c.change.new.self) (Some c.change.new.self)
    ((c.get_mut.follows.holds c.change.new.self).3 (ap is_some found)))
    c.change.new.self refl
    ∙ ap (insert (documents c.args.self.now) c.as_str.result.now) new in
    subst (λ (name : List ℕ). gathered (c.get_mut.follows.lender c.change.new.self).entries
    ≡ insert (documents c.args.self.now) name (changed_from (get (documents c.args.self.now) name) c.args.uri c.args.version c.args.text))
    c.as_str.ensures.value set

pub returns-in-None-clause-changed : goal.returns-in-None-clause-changed
returns-in-None-clause-changed c =
    let lacks : get (documents c.args.self.now) (string_bytes c.args.name) ≡ None =
    subst (λ (name : List ℕ). get (documents c.args.self.now) name ≡ None) c.as_str.ensures.value
    (was_missing c.args.self.now c.as_str.result.now c.get_mut.result c.get_mut.ensures.value c.in-None.is) in
    let document : ◌≡◌ {A = Document} (record { uri = c.args.uri; version = c.args.version; text = c.unwrap_or-text.result })
    (changed_from (get (documents c.args.self.now) (string_bytes c.args.name)) c.args.uri c.args.version c.args.text) =
    (λ i. record { uri = c.args.uri; version = c.args.version; text = c.unwrap_or-text.ensures i })
    ∙ ap (λ (found : Option Document). changed_from found c.args.uri c.args.version c.args.text) (sym lacks) in
    on_ok c.open.result (λ opened. opened
    ∙ (λ i. insert (gathered (c.get_mut.follows.holds-at-none i).entries) (string_bytes c.args.name) (document i)))
    c.open.ensures.opened
