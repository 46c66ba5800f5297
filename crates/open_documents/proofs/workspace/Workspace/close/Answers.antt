use Rattle.std.proofs.Common.{◌≡◌, Some, is_some, sym, ap, ◌∙◌}
use Rattle.std.specs.Option.{option_copied_mut}
use Rattle.std.specs.FinMap.{remove}
use Rattle.std.specs.BTreeMap.{get_by_text}
use Rattle.std.proofs.lemmas.Map.Text.{btree_map_updates_text}
use Rattle.open_documents.specs.Documents.{DocumentMap}
use Rattle.open_documents.specs.Workspace.{documents_in, documents_or_none}
use Rattle.open_documents.specs.declared.workspace.Workspace.{Workspace}
use Rattle.open_documents.proofs.Folders.{folder_found, folder_missing, found_folder, none_removed, same_folder}
use Rattle.open_documents.proofs.workspace.Workspace.close.Goals as goal

pub returns-in-Some : goal.returns-in-Some
returns-in-Some c =
    let new : Workspace = record { folders = c.get_mut.follows.lender c.close.new.self } in
    let found : get_by_text c.args.self.now.folders c.args.path.now ≡ Some c.in-Some.folder.now =
    sym c.get_mut.ensures.value ∙ ap option_copied_mut c.in-Some.is in
    found_folder c.args.self.now new c.args.path.now c.in-Some.folder.now c.close.new.self (λ (map : DocumentMap). remove map c.args.name.now)
    (folder_found c.args.self.now c.args.path.now c.get_mut.result c.in-Some.folder c.get_mut.ensures.value c.in-Some.is)
    c.close.ensures
    (btree_map_updates_text c.args.path.now c.args.self.now.folders new.folders (Some c.close.new.self)
    ((c.get_mut.follows.holds c.close.new.self).3 (ap is_some found)))

pub returns-in_default : goal.returns-in_default
returns-in_default c =
    let lacks = folder_missing c.args.self.now c.args.path.now c.get_mut.result c.get_mut.ensures.value c.in_default.is in
    same_folder c.args.self.now (record { folders = c.get_mut.follows.lender-at-none }) c.args.path.now
    (remove (documents_in c.args.self.now c.args.path.now) c.args.name.now)
    (ap (λ (map : DocumentMap). remove map c.args.name.now) lacks ∙ none_removed c.args.name.now ∙ sym lacks)
    (λ q. ap (λ (folders : _). documents_or_none (get_by_text folders q)) c.get_mut.follows.holds-at-none)
