use Rattle.std.proofs.Common.{◌≡◌, ℕ, List, Some, is_some, string_bytes, sym, ap, subst, ◌∙◌}
use Rattle.std.specs.Option.{option_copied_mut}
use Rattle.std.specs.FinMap.{get, insert}
use Rattle.std.specs.BTreeMap.{get_by_text}
use Rattle.std.proofs.lemmas.Map.Text.{btree_map_updates_text}
use Rattle.open_documents.specs.Document.{changed_from}
use Rattle.open_documents.specs.Documents.{DocumentMap, documents}
use Rattle.open_documents.specs.Workspace.{SetsFolder, documents_in}
use Rattle.open_documents.specs.declared.workspace.Workspace.{Workspace}
use Rattle.open_documents.proofs.Folders.{folder_found, folder_missing, found_folder, keeps_folders, made_folder}
use Rattle.open_documents.proofs.Outcomes.{on_ok, on_err}
use Rattle.open_documents.proofs.workspace.Workspace.change.Goals as goal

pub returns-in-Some-clause-changed : goal.returns-in-Some-clause-changed
returns-in-Some-clause-changed c =
    let edit : DocumentMap → DocumentMap =
    λ map. insert map (string_bytes c.args.name) (changed_from (get map (string_bytes c.args.name)) c.args.uri c.args.version c.args.text) in
    let new : Workspace = record { folders = c.get_mut.follows.lender c.change.new.self } in
    let found : get_by_text c.args.self.now.folders c.as_str.result.now ≡ Some c.in-Some.folder.now =
    sym c.get_mut.ensures.value ∙ ap option_copied_mut c.in-Some.is in
    let was = folder_found c.args.self.now c.as_str.result.now c.get_mut.result c.in-Some.folder c.get_mut.ensures.value c.in-Some.is in
    let sets = btree_map_updates_text c.as_str.result.now c.args.self.now.folders new.folders (Some c.change.new.self)
    ((c.get_mut.follows.holds c.change.new.self).3 (ap is_some found)) in
    on_ok c.change.result
    (λ is. subst (λ (path : List ℕ). SetsFolder path (edit (documents_in c.args.self.now path)) c.args.self.now new) c.as_str.ensures.value
    (found_folder c.args.self.now new c.as_str.result.now c.in-Some.folder.now c.change.new.self edit was is sets))
    c.change.ensures.changed

pub returns-in-Some-clause-kept : goal.returns-in-Some-clause-kept
returns-in-Some-clause-kept c =
    let new : Workspace = record { folders = c.get_mut.follows.lender c.change.new.self } in
    let found : get_by_text c.args.self.now.folders c.as_str.result.now ≡ Some c.in-Some.folder.now =
    sym c.get_mut.ensures.value ∙ ap option_copied_mut c.in-Some.is in
    let was = folder_found c.args.self.now c.as_str.result.now c.get_mut.result c.in-Some.folder c.get_mut.ensures.value c.in-Some.is in
    let sets = btree_map_updates_text c.as_str.result.now c.args.self.now.folders new.folders (Some c.change.new.self)
    ((c.get_mut.follows.holds c.change.new.self).3 (ap is_some found)) in
    on_err c.change.result (λ kept. keeps_folders c.args.self.now new c.as_str.result.now (Some c.change.new.self) sets (kept ∙ sym was))
    c.change.ensures.kept

pub returns-in_ok-insert-in-None-clause-changed : goal.returns-in_ok-insert-in-None-clause-changed
returns-in_ok-insert-in-None-clause-changed c =
    let edit : DocumentMap → DocumentMap =
    λ map. insert map (string_bytes c.args.name) (changed_from (get map (string_bytes c.args.name)) c.args.uri c.args.version c.args.text) in
    let lacks = subst (λ (path : List ℕ). documents_in c.args.self.now path ≡ documents c.new-folder.result) c.as_str.ensures.value
    (folder_missing c.args.self.now c.as_str.result.now c.get_mut.result c.get_mut.ensures.value c.in-None.is ∙ sym c.new-folder.ensures) in
    made_folder c.args.self.now (record { folders = c.insert.new.self }) c.get_mut.follows.lender-at-none (string_bytes c.args.path)
    c.new-folder.result c.change-in-None.new.self edit c.get_mut.follows.holds-at-none lacks c.in_ok-change-in-None.ensures.changed
    (btree_map_updates_text (string_bytes c.args.path) c.get_mut.follows.lender-at-none c.insert.new.self _ c.in_ok-insert-in-None.ensures.updates)
